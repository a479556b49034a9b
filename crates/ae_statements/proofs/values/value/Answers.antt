use Rattle.std.proofs.Common.{sym, subst}
use Rattle.ae_reading.specs.declared.fail.Fail.{Fail}
use Rattle.ae_tree.specs.Grammar.{right_of_equals}
use Rattle.ae_tree.specs.Limits.{KeepsRight}
use Rattle.ae_reading.specs.Reads.{Always, Failed}
use Rattle.ae_statements.specs.Productions.{with_semicolon}
use Rattle.ae_statements.proofs.ValueLemmas.{value_took, value_failed}
use Rattle.ae_statements.proofs.values.value.Goals as goal

pub returns-in-Err : goal.returns-in-Err
returns-in-Err c = let P : Fail
    → Type 0 = Failed (with_semicolon right_of_equals) KeepsRight Always c.args.ts.now in subst P
    (sym c.no_earlier.ensures) (value_failed _ _ _ c.requires c.in-Err.ensures)

pub returns : goal.returns
returns c = value_took _ _ _ c.in-Ok.ensures
