-- The lemmas of the crates below that this one goes by, and its own.
pub use Rattle.ae_text.proofs as from_text
pub use Rattle.ae_rules.proofs as from_rules
pub use Rattle.ae_scope.proofs as from_scope
pub use Rattle.ae_check.proofs as from_check
pub use Rattle.ae_uses.proofs as from_uses
pub mod PassedLemmas
pub mod InsideLemmas
pub mod MethodLemmas
