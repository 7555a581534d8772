-- Grammars of tokens, from their parts to the place where a list is wrong; then how one token of
-- look-ahead reads them, when that decides, and what holds then; and last the grammar of queries.
pub mod Grammar
pub mod Sentences
pub mod Reading
pub mod LL1
pub mod Places
pub mod Laws
pub mod Terminals
pub mod Patterns
pub mod Paths
pub mod Results
pub mod Queries
pub mod QueryLaws
