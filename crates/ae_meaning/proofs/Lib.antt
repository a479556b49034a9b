-- The lemmas of the crates below that this one goes by, and its own.
pub use Rattle.ae_rules.proofs as from_rules
pub use Rattle.ae_text.proofs as from_text
pub mod Rules
pub mod Names
pub mod Judged
pub mod Fits
pub mod Effects
pub mod Apart
pub mod Laws
pub mod Orders
