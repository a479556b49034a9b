-- The lemmas of the crates below that this one goes by, and its own.
pub use Rattle.ae_meaning.proofs as from_meaning
pub use Rattle.ae_rules.proofs as from_rules
mod Values
mod Lines
mod Programs
