-- What lines are, how they are read as a tree, and which fault they have; then words of private
-- clauses, and what the calls answer.
pub mod Lines
pub mod Reading
pub mod Faults
pub mod Machine
pub mod Readers
pub mod Calls
