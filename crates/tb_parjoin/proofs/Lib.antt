-- Laws of what ran of a join.
pub mod TraceLaws
pub mod WorkedRows
