-- Integer texts, from what they are to the order of keys; and last how the program keeps them.
pub mod IntText
pub mod Reading
pub mod Canonical
pub mod Range
pub mod Comparison
pub mod Values
pub mod Keys
pub mod Reduced
pub mod KeyParts
