use Rattle.std.proofs.Common.{sym, ◌∙◌}
use Rattle.ae_groups.specs.Needed.{needed_of}
use Rattle.ae_groups.proofs.ClashLemmas.{none_hit_so_far, next_need_added}
use Rattle.ae_groups.proofs.needed.any_clash.Goals as goal

pub loop-need-init : goal.loop-need-init
loop-need-init c = none_hit_so_far (needed_of c.new-earlier.result) c.args.needs.now c.new-earlier.ensures

pub loop-need-preserved : goal.loop-need-preserved
loop-need-preserved c = next_need_added c.args.needs.now c.loop-need.need-index _ _ (needed_of c.loop-need.earlier)
    (needed_of c.add.new.self) c.loop-need-test.true c.loop-need.invariant (sym c.hits.ensures ∙ c.if-hits.false)
    c.in_ok-add.ensures
