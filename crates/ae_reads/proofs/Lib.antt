-- The lemmas of the crates below that this one goes by, and its own.
pub use Rattle.ae_judge.proofs as from_judge
pub use Rattle.ae_text.proofs as from_text
pub mod WalkLemmas
pub mod FieldLemmas
pub mod CellLemmas
pub mod OpenLemmas
pub mod ReadLemmas
