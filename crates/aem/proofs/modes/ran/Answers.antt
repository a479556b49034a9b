use Rattle.std.proofs.Common.{refl, subst, sym}
use Rattle.ae_tree.specs.Limits.{Within}
use Rattle.ae_tree.specs.Shown.{code as plain}
use Rattle.ae_levels.specs.Going.{IsSound}
use Rattle.aem.specs.declared.answer.Command.TheVariants.{Run}
use Rattle.aem.specs.Top.{IsMeant, IsDecided}
use Rattle.aem.proofs.Whole.{refusal_is_decided}
use Rattle.aem.proofs.modes.ran.Goals as goal

pub judge-requires : goal.judge-requires
judge-requires g c =
    c.derived_programs_are_well_shaped.ensures c.requires.1.tokens (plain c.args.program) c.requires.1.derives

pub returns-in-Err : goal.returns-in-Err
returns-in-Err g c = subst (IsDecided Run (plain c.args.program)) (sym c.denied-in-Err.ensures)
    (refusal_is_decided Run (plain c.args.program) c.in-Err.deny c.if-not-is_unsplit.ensures c.in-Err.ensures)

pub run_accepted-requires-clause-sound : goal.run_accepted-requires-clause-sound
run_accepted-requires-clause-sound g c κs met = subst IsSound (sym c.in-Ok.ensures.1) (record {
  shaped = c.derived_programs_are_well_shaped.ensures c.requires.1.tokens (plain c.args.program) c.requires.1.derives;
  free = c.texts_have_this_free.ensures c.requires.0 c.requires.1.tokens (plain c.args.program) c.requires.1.lexes
      c.requires.1.derives;
  accepted = c.in-Ok.ensures.0;
  unsplit = c.if-not-is_unsplit.ensures;
})

pub run_accepted-requires-clause-within : goal.run_accepted-requires-clause-within
run_accepted-requires-clause-within g c κs met = subst Within (sym c.in-Ok.ensures.1) c.requires.1.within

pub returns-in-Ok-run_accepted : goal.returns-in-Ok-run_accepted
returns-in-Ok-run_accepted g c = (
  c.if-not-is_unsplit.ensures,
  c.in-Ok.ensures.0,
  (refl, subst (IsMeant c.in-Ok-run_accepted.report) c.in-Ok.ensures.1 c.in-Ok-run_accepted.ensures),
)
