-- The lemmas of this crate.
mod ThisLemmas
mod MethodLemmas
