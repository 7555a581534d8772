-- Labels, and lists of items that have them.
pub mod Span
pub mod Lists
pub mod Seeds
