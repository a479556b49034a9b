use Rattle.std.proofs.Common.{◌≡◌, Result, Ok, Err, sym, subst}
use Rattle.std.specs.Prelude.{IfOk}
use Rattle.ae_text.specs.declared.refusal.Deny.{Deny}
use Rattle.ae_tree.specs.Plain.{Code}
use Rattle.ae_tree.specs.Shown.{code as plain}
use Rattle.ae_tree.specs.WellShaped.{WellShaped}
use Rattle.ae_code.specs.declared.checked.Checked.{Checked}
use Rattle.aem.specs.Top.{IsFound}
use Rattle.aem.proofs.calls_tests.accepted_of.Goals as goal

-- what holds of a program holds of the one that is accepted
found_keeps : (P : Code → Type 0) (q : Code) (r : Result Checked Deny) → IsFound q r → P q
    → IfOk r (λ (k : Checked). P (plain k.program))
found_keeps P q (Ok k) f h = subst P (sym f.1) h
found_keeps P q (Err e) f h = tt

pub judge-requires : goal.judge-requires
judge-requires c =
    c.derived_programs_are_well_shaped.ensures c.in-Ok.ensures.1.tokens (plain c.in-Ok.program) c.in-Ok.ensures.1.derives

pub returns-clause-shaped : goal.returns-clause-shaped
returns-clause-shaped c =
    found_keeps WellShaped (plain c.in-Ok.program) c.judge.result c.judge.ensures
    (c.derived_programs_are_well_shaped.ensures c.in-Ok.ensures.1.tokens (plain c.in-Ok.program)
    c.in-Ok.ensures.1.derives)
