-- The lemmas of the crates below that this one goes by, and its own.
pub use Rattle.ae_expressions.proofs as from_expressions
pub use Rattle.ae_reading.proofs as from_reading
pub mod ShapeLemmas
pub mod CallLemmas
pub mod FormLemmas
pub mod SimpleLemmas
pub mod PathLemmas
pub mod LedLemmas
pub mod BlockLemmas
pub mod DeepLemmas
pub mod LinesLemmas
pub mod BodyLemmas
pub mod UniqueRightSides
pub mod UniqueStatements
pub mod DecideLemmas
pub mod DecidedLemmas
pub mod GoesLemmas
pub mod MadeLemmas
pub mod MarkLemmas
pub mod ReturnedLemmas
pub mod SideLemmas
pub mod SplitLemmas
pub mod ValueLemmas
