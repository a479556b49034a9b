-- The lemmas of the crates below that this one goes by, and its own.
pub use Rattle.ae_soundness.proofs as from_soundness
pub use Rattle.ae_rules.proofs as from_rules
pub use Rattle.ae_text.proofs as from_text
pub mod UsedLemmas
pub mod WriteLemmas
pub mod BaseLemmas
pub mod MovedLemmas
pub mod ActLemmas
pub mod StatementLemmas
pub mod LogLemmas
pub mod RunLemmas
pub mod BackLemmas
pub mod ValueLemmas
pub mod NeedLemmas
pub mod CallLemmas
pub mod CallingLemmas
pub mod BlockLemmas
pub mod WholeLemmas
pub mod AllowedLemmas
pub mod BodyLemmas
pub mod ApartLemmas
pub mod BeginLemmas
pub mod ReadLemmas
pub mod StayLemmas
pub mod StayingLemmas
