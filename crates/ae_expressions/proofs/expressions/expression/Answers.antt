use Rattle.ae_tree.specs.Grammar.{whole_expression}
use Rattle.ae_tree.specs.Limits.{KeepsDepth}
use Rattle.ae_tree.specs.Shown as shown
use Rattle.ae_expressions.proofs.from_reading.ReadsLemmas.{exits}
use Rattle.ae_expressions.specs.Ends.{Ends}
use Rattle.ae_expressions.proofs.WholeLemmas.{whole_took, whole_failed}
use Rattle.ae_expressions.proofs.expressions.expression.Goals as goal

pub returns-in_err-counted : goal.returns-in_err-counted
returns-in_err-counted c = exits shown.expression whole_expression KeepsDepth (Ends 0) c.args.ts.now _ _
    (whole_failed _ _ c.in_err-counted.ensures.reads) c.from_residual.ensures.1

pub returns : goal.returns
returns c = whole_took _ _ _ c.in_ok-counted.ensures.reads
