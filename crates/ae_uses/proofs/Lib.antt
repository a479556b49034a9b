-- The lemmas of the crates below that this one goes by, and its own.
pub use Rattle.ae_rules.proofs as from_rules
pub use Rattle.ae_text.proofs as from_text
pub mod UsedLemmas
pub mod PathLemmas
pub mod ValueLemmas
pub mod EachLemmas
pub mod CallLemmas
pub mod Elements
pub mod FootprintLemmas
pub mod OutsideLemmas
