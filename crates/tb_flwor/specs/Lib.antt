-- What a query of clauses says by its tokens: the variables that it binds and uses, and the
-- constructors behind its keyword RETURN. Which query a tree stands for, which faults a text has, and
-- what the reader of queries answers. That what the tokens say is so in the tree. And last what one
-- token does with variables and constructors, and how the program keeps names and builds values.
pub mod Variables
pub mod Constructors
pub mod Value
pub mod Results
pub mod Asked
pub mod Faults
pub mod Calls
pub mod Returned
pub mod Events
pub mod Noted
pub mod Started
pub mod Borrowed
pub mod Built
