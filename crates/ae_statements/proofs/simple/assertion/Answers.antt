use Rattle.std.proofs.Common.{sym, subst}
use Rattle.ae_tree.specs.Plain.{Action}
use Rattle.ae_tree.specs.Grammar.{whole_expression}
use Rattle.ae_reading.specs.Reads.{Always, Took}
use Rattle.ae_statements.proofs.from_reading.ReadsLemmas.{exits, first, second, both, free}
use Rattle.ae_statements.specs.Productions.{stmt, KeepsStmt, NoElse, shown_stmt}
use Rattle.ae_statements.proofs.ShapeLemmas.{has_whole}
use Rattle.ae_tree.specs.Shown.{action-Assert}
use Rattle.ae_statements.proofs.SimpleLemmas.{simple_took, simple_failed, has_ended, asserted, assertion_along}
use Rattle.ae_statements.proofs.simple.assertion.Goals as goal

pub returns-in_err-at : goal.returns-in_err-at
returns-in_err-at c n levels = exits shown_stmt (stmt n) (KeepsStmt levels) NoElse _ _ _
    (simple_failed asserted (assertion_along n levels _ c.requires)
    (first (free _ Always) (has_ended whole_expression has_whole) c.in_err-at.ensures)) c.from_residual.ensures.1

pub returns-in_err-e : goal.returns-in_err-e
returns-in_err-e c n levels = exits shown_stmt (stmt n) (KeepsStmt levels) NoElse _ _ _
    (simple_failed asserted (assertion_along n levels _ c.requires)
    (second (free _ Always) c.in_ok-at.ensures c.in_err-e.ensures)) c.from_residual-in_err-e.ensures.1

pub returns : goal.returns
returns c n levels =
    let P : Action → Type 0 = λ a. Took (stmt n) (KeepsStmt levels) NoElse c.args.ts.now
    (c.in_ok-at.at, a) c.in_ok-e.rest.now in
    subst P (sym (action-Assert _))
    (simple_took asserted (assertion_along n levels _ c.requires)
    (both (free _ Always) c.in_ok-at.ensures c.in_ok-e.ensures))
