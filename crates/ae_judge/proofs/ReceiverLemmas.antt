-- Receivers in a well-shaped program.
use Rattle.ae_tree.specs.Plain.{Code}
use Rattle.ae_tree.specs.WellShaped.{WellShaped}
use Rattle.ae_judge.specs.Receivers.{ReceiversFit}
use Rattle.ae_judge.proofs.from_rules.ShapeLemmas.{callee_receiver}

-- in a well-shaped program receivers fit
pub receivers_fit : (p : Code) → WellShaped p → ReceiversFit p
receivers_fit p w = callee_receiver p w
