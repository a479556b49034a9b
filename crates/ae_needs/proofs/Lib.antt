-- The lemmas of the crates below that this one goes by, and its own.
pub use Rattle.ae_text.proofs as from_text
pub use Rattle.ae_rules.proofs as from_rules
pub use Rattle.ae_semantics.proofs as from_semantics
pub use Rattle.ae_soundness.proofs as from_soundness
mod AgreeLemmas
mod AlikeLemmas
mod WalkLemmas
mod ValueLemmas
mod WriteLemmas
mod RightLemmas
mod NewLemmas
mod SetLemmas
mod ActLemmas
mod ArgumentLemmas
mod EnterLemmas
mod LeaveLemmas
mod CallLemmas
mod BlockLemmas
mod StateLemmas
mod LineLemmas
mod WholeLemmas
mod BodyLemmas
