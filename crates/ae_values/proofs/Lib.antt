-- The lemmas of the crate below that this one goes by, and its own.
pub use Rattle.ae_text.proofs as from_text
pub mod ValueLemmas
pub mod PutLemmas
pub mod ItemLemmas
pub mod StoreLemmas
pub mod BindLemmas
pub mod MemberLemmas
pub mod ChangeLemmas
pub mod ShapeLemmas
