use Rattle.ae_statements.proofs.from_reading.ReadsLemmas.{exits}
use Rattle.ae_expressions.specs.Ends.{Ends}
use Rattle.ae_statements.specs.Blocks.{KeepsCondition, condition, shown_condition}
use Rattle.ae_statements.proofs.DeepLemmas.{condition_took, condition_first, condition_second}
use Rattle.ae_statements.proofs.deep.condition.Goals as goal

pub returns-in_err-at : goal.returns-in_err-at
returns-in_err-at c = exits shown_condition (condition c.args.word) KeepsCondition (Ends 0) _ _ _
    (condition_first c.in_err-at.ensures) c.from_residual.ensures.1

pub returns-in_err-e : goal.returns-in_err-e
returns-in_err-e c = exits shown_condition (condition c.args.word) KeepsCondition (Ends 0) _ _ _
    (condition_second c.in_ok-at.ensures c.in_err-e.ensures) c.from_residual-in_err-e.ensures.1

pub returns : goal.returns
returns c = condition_took c.in_ok-at.ensures c.in_ok-e.ensures
