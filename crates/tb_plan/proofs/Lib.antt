-- Laws of orders.
pub mod CountLaws
pub mod NumberLaws
pub mod OrderLaws
pub mod MarkLaws
pub mod WorkedRows
