-- What plans mean, and which plans queries have.
pub mod Shared
pub mod Meaning
pub mod Ties
pub mod Planned
pub mod Returned
pub mod Scopes
pub mod Translated
pub mod WellFormed
