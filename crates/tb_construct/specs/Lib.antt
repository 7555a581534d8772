-- What rows stand for, kids that are put in one after the other, and the trees of rows.
pub mod Seen
pub mod Kids
pub mod Trees
