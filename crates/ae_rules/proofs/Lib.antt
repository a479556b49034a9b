-- The lemmas of the crates below that this one goes by, and its own.
pub use Rattle.ae_text.proofs as from_text
pub mod VerdictLemmas
mod GroupLemmas
mod LawLemmas
mod CallLemmas
mod MoveLemmas
mod KeepLemmas
pub mod EdgeLemmas
pub mod SeenLemmas
pub mod VisibleLemmas
pub mod PredLemmas
mod LessLemmas
mod InstanceLemmas
pub mod PathLemmas
mod WalkLemmas
mod RootLemmas
mod TruthLemmas
pub mod AnswerLemmas
mod OrderLemmas
mod BlockLemmas
pub mod GoneLemmas
mod EffectLemmas
mod DeclareLemmas
mod ChangeLemmas
mod EverywhereLemmas
pub mod BelowLemmas
pub mod ShapeLemmas
pub mod HeldLemmas
pub mod OfLanguageLemmas
