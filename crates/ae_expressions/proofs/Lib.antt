-- The lemmas of the crates below that this one goes by, and its own.
pub use Rattle.ae_reading.proofs as from_reading
pub mod OptionLemmas
pub mod OperatorLemmas
pub mod StepLemmas
pub mod ChainLemmas
pub mod OperandLemmas
pub mod WholeLemmas
pub mod LeadingOperands
pub mod UniqueExpressions
