-- The lemmas of the crates below that this one goes by, and its own.
pub use Rattle.ae_text.proofs as from_text
mod LawLemmas
mod Examples
pub mod FlowLemmas
mod FlowExamples
pub mod WorkLemmas
