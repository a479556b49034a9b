-- The lemmas of the crates below that this one goes by, and its own.
pub use Rattle.ae_tree.proofs as from_tree
pub mod ReadsLemmas
pub mod Begins
pub mod Chains
pub mod Runs
pub mod Parts
pub mod PathLemmas
pub mod UniqueLemmas
pub mod UniquePaths
pub mod Programs
pub mod PartLemmas
pub mod TypeLemmas
pub mod UniqueTypes
