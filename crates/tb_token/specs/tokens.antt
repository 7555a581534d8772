-- Tokens, from bytes to the cut of a text, and what the grammar sees of them; and last what the
-- program finds.
pub mod Bytes
pub mod Names
pub mod Kinds
pub mod Cuts
pub mod Calls
pub mod Lexemes
pub mod TerminalNames
pub mod Nesting
pub mod Prefixes
pub mod Places
