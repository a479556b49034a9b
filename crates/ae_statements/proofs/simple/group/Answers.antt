use Rattle.std.proofs.Common.{sym, subst}
use Rattle.ae_tree.specs.Plain.{Action}
use Rattle.ae_tree.specs.Grammar.{name}
use Rattle.ae_reading.specs.Reads.{Always, Took}
use Rattle.ae_statements.proofs.from_reading.ReadsLemmas.{exits, first, second, both, free, has_name}
use Rattle.ae_statements.specs.Productions.{stmt, KeepsStmt, NoElse, shown_stmt}
use Rattle.ae_tree.specs.Shown.{action-Group}
use Rattle.ae_statements.proofs.SimpleLemmas.{simple_took, simple_failed, has_ended, grouped, group_along}
use Rattle.ae_statements.proofs.simple.group.Goals as goal

pub returns-in_err-at : goal.returns-in_err-at
returns-in_err-at c n levels = exits shown_stmt (stmt n) (KeepsStmt levels) NoElse _ _ _
    (simple_failed grouped (group_along n levels _ c.requires)
    (first (free _ Always) (has_ended name has_name) c.in_err-at.ensures)) c.from_residual.ensures.1

pub returns-in_err-x : goal.returns-in_err-x
returns-in_err-x c n levels = exits shown_stmt (stmt n) (KeepsStmt levels) NoElse _ _ _
    (simple_failed grouped (group_along n levels _ c.requires)
    (second (free _ Always) c.in_ok-at.ensures c.in_err-x.ensures)) c.from_residual-in_err-x.ensures.1

pub returns : goal.returns
returns c n levels =
    let P : Action → Type 0 = λ a. Took (stmt n) (KeepsStmt levels) NoElse c.args.ts.now
    (c.in_ok-at.at, a) c.in_ok-x.rest.now in
    subst P (sym (action-Group _))
    (simple_took grouped (group_along n levels _ c.requires)
    (both (free _ Always) c.in_ok-at.ensures c.in_ok-x.ensures))
