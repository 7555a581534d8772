-- Documents by name and by number, and tables as rows, and as the meaning of plans has them.
pub mod Documents
pub mod Rows
pub mod Layout
pub mod Seen
pub mod PrintedValues
pub mod Texts
