-- Laws of the world of fronts.
pub mod ReplayLaws
pub mod BoundLaws
pub mod ChangeLaws
pub mod FallLaws
pub mod UnheardLaws
pub mod WorkedRows
