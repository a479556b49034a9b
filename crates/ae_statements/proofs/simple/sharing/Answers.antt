use Rattle.std.proofs.Common.{sym, subst}
use Rattle.ae_tree.specs.Plain.{Action}
use Rattle.ae_tree.specs.Grammar.{name}
use Rattle.ae_reading.specs.Reads.{Always, Took}
use Rattle.ae_statements.proofs.from_reading.ReadsLemmas.{exits, first, second, both, free, has_name}
use Rattle.ae_statements.specs.Productions.{with_semicolon, stmt, KeepsStmt, NoElse, shown_stmt}
use Rattle.ae_statements.proofs.ShapeLemmas.{pre_first, pre_second, took_pre}
use Rattle.ae_tree.specs.Shown.{action-Share}
use Rattle.ae_statements.proofs.SimpleLemmas.{simple_took, simple_failed, has_ended, has_into, has_shared, shared}
use Rattle.ae_statements.proofs.SimpleLemmas.{sharing_along}
use Rattle.ae_statements.proofs.simple.sharing.Goals as goal

pub returns-in_err-at : goal.returns-in_err-at
returns-in_err-at c n levels = exits shown_stmt (stmt n) (KeepsStmt levels) NoElse _ _ _
    (simple_failed shared (sharing_along n levels _ c.requires)
    (first (free _ Always) has_shared c.in_err-at.ensures)) c.from_residual.ensures.1

pub returns-in_err-x : goal.returns-in_err-x
returns-in_err-x c n levels = exits shown_stmt (stmt n) (KeepsStmt levels) NoElse _ _ _
    (simple_failed shared (sharing_along n levels _ c.requires)
    (second (free _ Always) c.in_ok-at.ensures (first (free _ Always) has_into c.in_err-x.ensures)))
    c.from_residual-in_err-x.ensures.1

pub returns-in_err-rest : goal.returns-in_err-rest
returns-in_err-rest c n levels = exits shown_stmt (stmt n) (KeepsStmt levels) NoElse _ _ _
    (simple_failed shared (sharing_along n levels _ c.requires)
    (second (free _ Always) c.in_ok-at.ensures
    (second (free _ Always) c.in_ok-x.ensures
    (pre_first (with_semicolon name) (has_ended name has_name) c.in_err-rest.ensures))))
    c.from_residual-in_err-rest.ensures.1

pub returns-in_err-g : goal.returns-in_err-g
returns-in_err-g c n levels = exits shown_stmt (stmt n) (KeepsStmt levels) NoElse _ _ _
    (simple_failed shared (sharing_along n levels _ c.requires)
    (second (free _ Always) c.in_ok-at.ensures
    (second (free _ Always) c.in_ok-x.ensures
    (pre_second (with_semicolon name) c.in_ok-rest.ensures c.in_err-g.ensures)))) c.from_residual-in_err-g.ensures.1

pub returns : goal.returns
returns c n levels =
    let P : Action → Type 0 = λ a. Took (stmt n) (KeepsStmt levels) NoElse c.args.ts.now
    (c.in_ok-at.at, a) c.in_ok-g.rest.now in
    subst P (sym (action-Share _ _))
    (simple_took shared (sharing_along n levels _ c.requires)
    (both (free _ Always) c.in_ok-at.ensures
    (both (free _ Always) c.in_ok-x.ensures
    (took_pre (with_semicolon name) c.in_ok-rest.ensures c.in_ok-g.ensures))))
