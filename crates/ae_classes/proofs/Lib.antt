-- The lemmas of the crates below that this one goes by, and its own.
pub use Rattle.ae_text.proofs as from_text
pub mod TurnLemmas
pub mod PlaceLemmas
pub mod MapLemmas
pub mod ClauseLemmas
