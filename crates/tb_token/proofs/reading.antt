pub mod Views
pub mod BeginLaws
pub mod StepLaws
pub mod TakeLaws
pub mod StackLaws
pub mod ReadingLaws
pub mod WorkedRows
