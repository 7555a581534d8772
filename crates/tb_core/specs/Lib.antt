-- The world of fronts.
pub mod World
pub mod Replay
pub mod Answers
