-- The lemmas of the crates below that this one goes by, and its own.
pub use Rattle.ae_rules.proofs as from_rules
pub use Rattle.ae_text.proofs as from_text
pub use Rattle.ae_judge.proofs as from_judge
pub mod MovedLemmas
pub mod MemberLemmas
pub mod GivenLemmas
pub mod CalledLemmas
