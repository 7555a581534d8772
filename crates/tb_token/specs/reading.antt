-- Grammars of the program as grammars, and how it reads by them.
pub mod View
pub mod Machine
pub mod Stack
pub mod Calls
