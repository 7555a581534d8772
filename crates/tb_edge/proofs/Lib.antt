-- Lemmas of the calls over whole texts.
pub mod CallsLemmas
