-- The lemmas of the crates below that this one goes by, and its own.
pub use Rattle.ae_text.proofs as from_text
pub use Rattle.ae_rules.proofs as from_rules
pub use Rattle.ae_groups.proofs as from_groups
pub use Rattle.ae_scope.proofs as from_scope
mod MovedLemmas
mod LetLemmas
mod ShareLemmas
pub mod NamedLemmas
mod ReadyLemmas
mod StartLemmas
mod EscapeLemmas
pub mod BlockLemmas
mod BranchLemmas
mod MethodLemmas
mod ProgramLemmas
