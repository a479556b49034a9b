use Rattle.std.proofs.Common.{ap₂, ◌∙◌}
use Rattle.ae_tree.specs.declared.tree.Expr.{Expr}
use Rattle.ae_tree.specs.Plain.{Binary}
use Rattle.ae_tree.specs.Shown.{expression, expression-Bin}
use Rattle.ae_expressions.proofs.expressions.binary.Goals as goal

pub returns-clause-tree : goal.returns-clause-tree
returns-clause-tree c = expression-Bin _ _ _ ∙ ap₂ (λ (a b : Expr). Binary c.args.op (expression a) (expression b))
    c.in_ok-left.ensures c.in_ok-right.ensures
