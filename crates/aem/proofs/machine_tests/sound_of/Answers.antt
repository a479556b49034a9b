use Rattle.std.proofs.Common.{Result, Ok, Err, sym, subst}
use Rattle.std.specs.Prelude.{IfOk}
use Rattle.ae_text.specs.declared.refusal.Deny.{Deny}
use Rattle.ae_tree.specs.Plain.{Code}
use Rattle.ae_tree.specs.Shown.{code as plain}
use Rattle.ae_rules.specs.Judges.{Accepts}
use Rattle.ae_code.specs.declared.checked.Checked.{Checked}
use Rattle.ae_levels.specs.Going.{IsSound}
use Rattle.aem.specs.Top.{IsFound}
use Rattle.aem.proofs.machine_tests.sound_of.Goals as goal

-- what holds of an accepted program holds of the one that comes
found_is_sound : (q : Code) (r : Result Checked Deny) → IsFound q r → (Accepts q → IsSound q)
    → IfOk r (λ (k : Checked). IsSound (plain k.program))
found_is_sound q (Ok k) f h = subst IsSound (sym f.1) (h f.0)
found_is_sound q (Err e) f h = tt

pub judge-requires : goal.judge-requires
judge-requires c =
    c.derived_programs_are_well_shaped.ensures c.in-Ok.ensures.1.tokens (plain c.in-Ok.program) c.in-Ok.ensures.1.derives

pub returns : goal.returns
returns c = found_is_sound (plain c.in-Ok.program) c.judge.result c.judge.ensures (λ a. record {
  shaped = c.derived_programs_are_well_shaped.ensures c.in-Ok.ensures.1.tokens (plain c.in-Ok.program)
      c.in-Ok.ensures.1.derives;
  free = c.texts_have_this_free.ensures c.in-Ok.ensures.0 c.in-Ok.ensures.1.tokens (plain c.in-Ok.program)
      c.in-Ok.ensures.1.lexes c.in-Ok.ensures.1.derives;
  accepted = a;
  unsplit = c.if-not-is_unsplit.ensures;
})
