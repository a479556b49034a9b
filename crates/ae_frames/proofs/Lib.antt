-- The lemmas of the crates below that this one goes by, and its own.
pub use Rattle.ae_text.proofs as from_text
pub use Rattle.ae_judge.proofs as from_judge
pub use Rattle.ae_calls.proofs as from_calls
pub use Rattle.ae_values.proofs as from_values
pub use Rattle.ae_reads.proofs as from_reads
pub use Rattle.ae_stores.proofs as from_stores
pub mod ArgumentLemmas
pub mod AskedLemmas
pub mod CollectLemmas
pub mod TakerLemmas
pub mod NeedLemmas
pub mod LendLemmas
pub mod BindingLemmas
pub mod NameLemmas
pub mod OpenLemmas
pub mod LentLemmas
pub mod GoneLemmas
pub mod NeedLists
pub mod EnterLemmas
pub mod EnteredLemmas
pub mod BackLemmas
pub mod TakenLemmas
pub mod SparedLemmas
pub mod LeftLemmas
pub mod StayLemmas
pub mod GroupLemmas
pub mod ReturnLemmas
pub mod ComeLemmas
pub mod PlaceLemmas
pub mod AwaitLemmas
pub mod LeaveLemmas
