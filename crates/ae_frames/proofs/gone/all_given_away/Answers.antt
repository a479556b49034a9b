use Rattle.std.proofs.Common.{sym, ◌∙◌, append-nil, ap, ◌++◌, [], Option, ℕ}
use Rattle.std.specs.List.{cons_option}
use Rattle.ae_tree.specs.Shown.{invocation}
use Rattle.ae_rules.specs.Calls.{givens}
use Rattle.ae_frames.proofs.GoneLemmas.{gone_with, gone_one_more}
use Rattle.ae_frames.proofs.gone.all_given_away.Goals as goal
use Rattle.ae_frames.proofs.gone.all_given_away.Goals.{in-Some+in-Ok, in_default}

pub loop-at-preserved : goal.loop-at-preserved
loop-at-preserved c = gone_one_more (gone_with c.args.takers.now (givens (invocation c.args.call.now)))
    c.args.takers.now (givens (invocation c.args.call.now)) c.loop-at.at c.index-takers-at.result
    c.given_away_at.result c.loop-at.gone.items c.match-given_away_at.gone.items c.loop-at-test.true
    c.loop-at.invariant c.index-takers-at.is c.given_away_at.ensures
    (elim c.match-given_away_at.branch [
      | in-Some+in-Ok w ↦ ap (λ v. v.items) w.gone-is ∙ w.in-Ok.ensures.items
          ∙ ap (λ (o : Option ℕ). c.loop-at.gone.items ++ cons_option o []) (sym w.in-Some.is)
      | in_default w ↦ ap (λ v. v.items) w.gone-is ∙ sym (append-nil c.loop-at.gone.items)
          ∙ ap (λ (o : Option ℕ). c.loop-at.gone.items ++ cons_option o []) (sym w.in_default.is)
    ])
