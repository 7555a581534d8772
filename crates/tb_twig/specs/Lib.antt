-- The edges of a pattern with the nodes above them; rows put together from the links of the edges; and what the
-- trace of the joins says.
pub mod Branches
pub mod Lists
pub mod Links
pub mod Grown
pub mod Narrowed
pub mod Hits
pub mod Joins
pub mod Trimmed
pub mod Seen
pub mod Offered
pub mod Calls
