-- The lemmas of the crates below that this one goes by, and its own.
pub use Rattle.ae_rules.proofs as from_rules
pub use Rattle.ae_text.proofs as from_text
pub mod FormLemmas
pub mod LookupLemmas
pub mod WalkLemmas
pub mod ReceiverLemmas
