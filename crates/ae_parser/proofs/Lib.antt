-- The lemmas of the crates below that this one goes by, and its own.
pub use Rattle.ae_reading.proofs as from_reading
pub use Rattle.ae_statements.proofs as from_statements
pub use Rattle.ae_tree.proofs as from_tree
pub mod NumberLemmas
pub mod NamesLemmas
pub mod ProgramLemmas
pub mod SideLemmas
pub mod PlaceLemmas
pub mod ParamLemmas
pub mod MethodLemmas
pub mod ClassLemmas
pub mod DeclarationLemmas
pub mod OnePlace
pub mod RefusalLemmas
pub mod UniqueMethods
pub mod UniquePrograms
