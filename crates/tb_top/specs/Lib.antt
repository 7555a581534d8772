-- The history, what commands come to, the transcript, what `single` and `check` print; then words of
-- private clauses; and last what the commands promise.
pub mod History
pub mod Deeds
pub mod FaultText
pub mod Transcript
pub mod Single
pub mod Taken
pub mod Check
pub mod Tasks
pub mod Kept
pub mod Answered
pub mod Running
pub mod Pieces
pub mod Outputs
pub mod Status
pub mod Moved
pub mod Calls
pub mod Outcomes
