-- What answers of plans are, and how the trees of witnesses are written from links.
pub mod Told
pub mod Choices
pub mod Shown
pub mod Marked
pub mod Calls
