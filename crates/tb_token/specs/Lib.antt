-- Grammars, what tokens are, and how tokens are read by a grammar.
pub mod tokens
pub mod grammar
pub mod reading
