use Rattle.std.proofs.Common.{arith, rules, ap, ◌∙◌, length}
use Rattle.std.proofs.Math.Seq.{take-add}
use Rattle.std.proofs.KnownBytes.{Appends-trans}
use Rattle.std.proofs.lemmas.List.{length-drop}
use Rattle.ae_text.proofs.CallLemmas.{reaches_end_once_more}
use Rattle.ae_text.proofs.whole.write_all.Goals as goal

pub loop-done-preserved : goal.loop-done-preserved
loop-done-preserved g c = record {
  within = search rules;
  bytes = rw (take-add c.loop-done.done c.in-Ok.count c.args.text.now, ← c.split_at.ensures.back)
      (Appends-trans _ _ _ _ _ c.loop-done.invariant.bytes c.in-Ok.ensures.bytes);
  kept = c.in-Ok.ensures.cause.kept ∙ c.loop-done.invariant.kept;
  reach = reaches_end_once_more _ _ _ _ _ c.args.text.now c.split_at.result.1.now c.loop-done.done
      (omega (arith, c.loop-done.invariant.within))
      (ap length c.split_at.ensures.back ∙ length-drop c.loop-done.done c.args.text.now) c.loop-done.invariant.reach
      c.loop-done.invariant.bytes c.in-Ok.ensures.reach;
  unwritten = λ e. absurd (omega (arith, c.in-Ok.ensures.some));
}

pub returns-in-Err-clause-reach : goal.returns-in-Err-clause-reach
returns-in-Err-clause-reach g c =
    reaches_end_once_more _ _ _ _ _ c.args.text.now c.split_at.result.1.now c.loop-done.done
    (omega (arith, c.loop-done.invariant.within))
    (ap length c.split_at.ensures.back ∙ length-drop c.loop-done.done c.args.text.now) c.loop-done.invariant.reach
    c.loop-done.invariant.bytes c.in-Err.ensures.reach
