-- The lemmas of the rules that this crate goes by, and its own.
pub use Rattle.ae_rules.proofs as from_rules
mod KnownLemmas
pub mod AfterLemmas
