-- The lemmas of the crates below that this one goes by.
pub use Rattle.ae_text.proofs as from_text
