-- The rows of a document; what a store keeps of them, and what of that comes from extents alone; then
-- values of nodes, compared and as keys.
pub mod Rows
pub mod Lists
pub mod Picked
pub mod Stores
pub mod Comparands
pub mod Prepared
pub mod PrintedKeys
