use Rattle.ae_soundness.proofs.BeginLemmas.{beginnings_fit}
use Rattle.ae_soundness.proofs.laws.beginnings_fit.Goals as goal

pub returns : goal.returns
returns c = beginnings_fit
