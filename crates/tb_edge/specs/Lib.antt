-- The words of tb_edge in reading order: faults, what is in memory, and what whole calls promise.
pub mod Faults
pub mod Memory
pub mod Host
pub mod Calls
