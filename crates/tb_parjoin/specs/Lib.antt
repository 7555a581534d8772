-- Settings that joins can be run by, and what ran of a join.
pub mod Settings
pub mod Traces
