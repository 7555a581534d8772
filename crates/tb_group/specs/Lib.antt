-- Values told by spans, and what sums and least and greatest numbers are as they are made.
pub mod Told
pub mod Extremes
pub mod Columns
pub mod Firsts
pub mod Parts
pub mod PartOrder
pub mod Ordered
