pub mod BelowLemmas
mod NamedLemmas
mod BlockLemmas
pub mod ProgramLemmas
mod DeclLemmas
mod ThisLemmas
