use Rattle.std.proofs.Common.{sym, subst}
use Rattle.ae_tree.specs.Plain.{Action}
use Rattle.ae_reading.specs.Reads.{Took}
use Rattle.ae_statements.proofs.from_reading.ReadsLemmas.{exits}
use Rattle.ae_statements.specs.Productions.{stmt, KeepsStmt, NoElse, shown_stmt}
use Rattle.ae_statements.proofs.SimpleLemmas.{simple_took, simple_failed}
use Rattle.ae_statements.proofs.PathLemmas.{named_of}
use Rattle.ae_statements.proofs.LedLemmas.{led_along, led_tree, led_first, led_second, led_took}
use Rattle.ae_statements.proofs.led.led.Goals as goal

pub returns-in_err-path : goal.returns-in_err-path
returns-in_err-path c n levels = exits shown_stmt (stmt n) (KeepsStmt levels) NoElse _ _ _
    (simple_failed led_tree (led_along n levels _ c.requires)
    (led_first _ (named_of _ _ c.requires c.is_name_next-named.ensures) c.in_err-path.ensures))
    c.from_residual.ensures.1

pub returns-in_err-tail : goal.returns-in_err-tail
returns-in_err-tail c n levels = exits shown_stmt (stmt n) (KeepsStmt levels) NoElse _ _ _
    (simple_failed led_tree (led_along n levels _ c.requires)
    (led_second _ (named_of _ _ c.requires c.is_name_next-named.ensures) c.in_ok-path.ensures c.front_of-front.ensures
    c.in_err-tail.ensures)) c.from_residual-in_err-tail.ensures.1

pub returns : goal.returns
returns c n levels =
    let P : Action → Type 0 = λ a. Took (stmt n) (KeepsStmt levels) NoElse c.args.ts.now
    (c.in_ok-path.path.root.at, a) c.in_ok-tail.rest.now in
    subst P (sym c.kind_of-kind.ensures)
    (simple_took led_tree (led_along n levels _ c.requires)
    (led_took _ (named_of _ _ c.requires c.is_name_next-named.ensures) c.in_ok-path.ensures
    c.front_of-front.ensures c.in_ok-tail.ensures))
