-- Patterns as plain data, the conditions in them, the witnesses of a pattern, and their trees; then
-- which tokens are a query, what its faults are, and which pattern it asks for.
pub mod Conditions
pub mod Plain
pub mod View
pub mod Witness
pub mod WitnessTree
pub mod Syntax
pub mod Faults
pub mod Value
pub mod Building
pub mod BuiltParts
pub mod Calls
