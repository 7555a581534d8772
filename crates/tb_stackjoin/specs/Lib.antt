-- Structural joins: the pairs, and how many ancestors a join looks at.
pub mod Pairs
pub mod Turns
pub mod Stacks
pub mod Reaches
