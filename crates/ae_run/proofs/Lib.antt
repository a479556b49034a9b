-- The lemmas of the crates below that this one goes by, and its own.
pub use Rattle.ae_graph.proofs as from_graph
pub use Rattle.ae_meaning.proofs as from_meaning
pub use Rattle.ae_rules.proofs as from_rules
pub use Rattle.ae_text.proofs as from_text
pub mod Deeds
pub mod Closed
pub mod Flow
pub mod Courses
pub mod Lists
pub mod Pieces
pub mod Ends
pub mod Counts
pub mod Queues
pub mod Programs
pub mod Reports
