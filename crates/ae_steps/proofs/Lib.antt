pub use Rattle.ae_rules.proofs as from_rules
mod StepLemmas
pub mod CostLemmas
