-- Laws of lists, ranges, options and truth values that std has not, by what they speak of.
pub mod Bools
pub mod Options
pub mod Parts
pub mod Alls
pub mod Pairs
pub mod Ranges
pub mod Filters
pub mod Prefixes
pub mod Maps
