-- The lemmas of the crates below that this one goes by, and its own.
pub use Rattle.ae_text.proofs as from_text
pub use Rattle.ae_uses.proofs as from_uses
pub use Rattle.ae_rules.proofs as from_rules
pub mod Rules
pub mod Elements
pub mod Waiting
pub mod Rows
pub mod Texts
pub mod Lists
pub mod Few
pub mod Exact
pub mod Drawing
