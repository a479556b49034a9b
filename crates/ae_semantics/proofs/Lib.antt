-- The lemmas of the crates below that this one goes by, and its own.
pub use Rattle.ae_text.proofs as from_text
mod Follow
mod LawLemmas
mod Gathered
mod SourceOrder
mod Ended
mod Watched
mod Kept
mod Fresh
mod Related
mod Alongside
mod Alone
mod Located
mod Inside
mod Unasked
mod Growing
mod Exactly
mod Flowing
mod Reading
pub mod Walked
mod FixedLemmas
mod FreshRows
mod LockNumbers
mod Answering
mod StagesStill
mod RowsAnswered
mod StepLemmas
mod RowsKept
mod StepsKeep
mod RowsOpened
mod EntryPaths
mod OpeningSteps
