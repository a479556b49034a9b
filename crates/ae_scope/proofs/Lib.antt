-- The lemmas of the crates below that this one goes by, and its own.
pub use Rattle.ae_text.proofs as from_text
pub use Rattle.ae_rules.proofs as from_rules
pub use Rattle.ae_groups.proofs as from_groups
pub mod SlotLemmas
pub mod ChangeLemmas
pub mod ContextLemmas
pub mod TrailLemmas
pub mod GrowLemmas
pub mod StackLemmas
pub mod JoinLemmas
pub mod ReplayLemmas
mod RegroupLemmas
