-- The lemmas of the crates below that this one goes by, and its own.
pub use Rattle.ae_text.proofs as from_text
pub use Rattle.ae_values.proofs as from_values
pub use Rattle.ae_reads.proofs as from_reads
pub mod OutcomeLemmas
pub mod StandLemmas
pub mod WholeLemmas
pub mod WriteLemmas
pub mod ItemLemmas
pub mod TakeLemmas
pub mod SlotLemmas
pub mod MoveLemmas
pub mod StepLemmas
pub mod HeightLemmas
pub mod ChangeLemmas
pub mod EmptyLemmas
pub mod HeldLemmas
pub mod NameLemmas
