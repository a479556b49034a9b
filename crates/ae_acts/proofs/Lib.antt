-- The lemmas of the crates below that this one goes by, and its own.
pub use Rattle.ae_text.proofs as from_text
pub use Rattle.ae_values.proofs as from_values
pub use Rattle.ae_reads.proofs as from_reads
pub use Rattle.ae_names.proofs as from_names
pub mod RunLemmas
pub mod ShapeLemmas
pub mod ChangeLemmas
pub mod ValueLemmas
pub mod ShareLemmas
pub mod StoreLemmas
pub mod ActLemmas
pub mod GatherLemmas
