pub mod lexing
pub mod grammar
pub mod reading
