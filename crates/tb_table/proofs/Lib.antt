pub mod DocumentLaws
pub mod FoundLaws
pub mod NodeLaws
pub mod RowLaws
pub mod SeenRows
pub mod TransposedLaws
