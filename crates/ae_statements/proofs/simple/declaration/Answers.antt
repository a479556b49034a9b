use Rattle.std.proofs.Common.{sym, subst}
use Rattle.ae_tree.specs.Plain.{Action}
use Rattle.ae_reading.specs.Reads.{Always, Took}
use Rattle.ae_statements.proofs.from_reading.ReadsLemmas.{exits, first, second, both, free}
use Rattle.ae_statements.specs.Productions.{stmt, KeepsStmt, NoElse, shown_stmt}
use Rattle.ae_tree.specs.Shown.{action-Let}
use Rattle.ae_statements.proofs.SimpleLemmas.{simple_took, simple_failed, has_value, has_bound, has_typed}
use Rattle.ae_statements.proofs.SimpleLemmas.{name_follows, declared, declaration_along}
use Rattle.ae_statements.proofs.simple.declaration.Goals as goal

pub returns-in_err-at : goal.returns-in_err-at
returns-in_err-at c n levels = exits shown_stmt (stmt n) (KeepsStmt levels) NoElse _ _ _
    (simple_failed declared (declaration_along n levels _ c.requires)
    (first (free _ Always) has_typed c.in_err-at.ensures)) c.from_residual.ensures.1

pub returns-in_err-ty : goal.returns-in_err-ty
returns-in_err-ty c n levels = exits shown_stmt (stmt n) (KeepsStmt levels) NoElse _ _ _
    (simple_failed declared (declaration_along n levels _ c.requires)
    (second (free _ Always) c.in_ok-at.ensures (first name_follows has_bound c.in_err-ty.ensures)))
    c.from_residual-in_err-ty.ensures.1

pub returns-in_err-x : goal.returns-in_err-x
returns-in_err-x c n levels = exits shown_stmt (stmt n) (KeepsStmt levels) NoElse _ _ _
    (simple_failed declared (declaration_along n levels _ c.requires)
    (second (free _ Always) c.in_ok-at.ensures
    (second name_follows c.in_ok-ty.ensures (first (free _ Always) has_value c.in_err-x.ensures))))
    c.from_residual-in_err-x.ensures.1

pub returns-in_err-e : goal.returns-in_err-e
returns-in_err-e c n levels = exits shown_stmt (stmt n) (KeepsStmt levels) NoElse _ _ _
    (simple_failed declared (declaration_along n levels _ c.requires)
    (second (free _ Always) c.in_ok-at.ensures
    (second name_follows c.in_ok-ty.ensures (second (free _ Always) c.in_ok-x.ensures c.in_err-e.ensures))))
    c.from_residual-in_err-e.ensures.1

pub returns : goal.returns
returns c n levels =
    let P : Action → Type 0 = λ a. Took (stmt n) (KeepsStmt levels) NoElse c.args.ts.now
    (c.in_ok-at.at, a) c.in_ok-e.rest.now in
    subst P (sym (action-Let _ _ _))
    (simple_took declared (declaration_along n levels _ c.requires)
    (both (free _ Always) c.in_ok-at.ensures
    (both name_follows c.in_ok-ty.ensures (both (free _ Always) c.in_ok-x.ensures c.in_ok-e.ensures))))
