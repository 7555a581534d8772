-- Orders of a pattern's edges.
pub mod Orders
pub mod Marks
