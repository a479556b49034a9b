-- The lemmas of the crates below that this one goes by, and its own.
pub use Rattle.ae_rules.proofs as from_rules
pub use Rattle.ae_soundness.proofs as from_soundness
pub use Rattle.ae_reads.proofs as from_reads
pub use Rattle.ae_steps.proofs as from_steps
mod MoveLemmas
mod NewLemmas
mod BlockLemmas
mod BeginLemmas
mod OpenLemmas
mod FaultLemmas
mod LoopLemmas
mod ActLemmas
mod CallLemmas
mod LeaveLemmas
mod CostLemmas
mod MeaningLemmas
mod StartLemmas
