use Rattle.std.proofs.Common.{◌∙◌, ℕ, List, reverse, subst, ap, sym, rules}
use Rattle.std.proofs.lemmas.List.{reverse-reverse}
use Rattle.ae_running.specs.Seen.{seen}
use Rattle.ae_frames.specs.Asking.{left_by, names_standing}
use Rattle.ae_frames.proofs.BindingLemmas.{last_is_first}
use Rattle.ae_frames.proofs.CollectLemmas.{AreCollected, none_collected, one_more_collected}
use Rattle.ae_frames.proofs.collecting.collect.Goals as goal

pub loop-one-init : goal.loop-one-init
loop-one-init c = (
  subst (λ zs. AreCollected c.args.asked.items (seen c.args.run.now) zs c.new-args.result.items
      (seen c.args.run.now)) (sym (ap reverse c.reverse.ensures.items ∙ reverse-reverse c.args.asked.items))
      (subst (λ zs. AreCollected c.args.asked.items (seen c.args.run.now) c.args.asked.items zs (seen c.args.run.now))
      (sym c.new-args.ensures.items) (none_collected c.args.asked.items (seen c.args.run.now))),
  search rules,
)

pub loop-one-preserved : goal.loop-one-preserved
loop-one-preserved c =
    let all = c.args.asked.items in
    let s = seen c.args.run.now in (
      one_more_collected all s (reverse c.pop.new.self.items) c.loop-one.args.items c.push.new.self.items c.in-Some.one
          c.in-Ok-collected.arg (seen c.loop-one.run) (seen c.collected.new.run)
          (subst (λ zs. AreCollected all s zs c.loop-one.args.items (seen c.loop-one.run))
          (last_is_first c.loop-one.asked.items c.pop.new.self.items c.in-Some.one c.in-Some.ensures.items)
          c.loop-one.invariant.0)
          c.in-Ok-collected.ensures.given
          (c.in-Ok-collected.ensures.left ∙ ap (λ (ns : List ℕ). left_by ns c.in-Some.one (seen c.loop-one.run))
          (c.as_slice-in-Some.ensures.value ∙ c.in-Ok.ensures ∙ ap names_standing c.as_slice.ensures.value)) c.in-Ok-push.ensures.items,
      search rules,
    )
