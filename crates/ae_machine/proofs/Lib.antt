-- The lemmas of the crates below that this one goes by, and its own.
pub use Rattle.ae_text.proofs as from_text
pub use Rattle.ae_steps.proofs as from_steps
pub use Rattle.ae_reads.proofs as from_reads
pub use Rattle.ae_acts.proofs as from_acts
mod TaskLemmas
mod ReceiveLemmas
mod CallingLemmas
mod FlatLemmas
mod BeginLemmas
mod BackLemmas
mod StatementLemmas
