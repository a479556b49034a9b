use Rattle.std.proofs.Common.{ap, refl}
use Rattle.ae_tree.specs.Shown.{definition}
use Rattle.ae_rules.specs.Forms.{in_place}
use Rattle.ae_judge.specs.Tabled.{code_of}
use Rattle.ae_frames.specs.Givens.{me_taker}
use Rattle.ae_frames.proofs.TakerLemmas.{taken_one_more, all_are_taken}
use Rattle.ae_frames.proofs.takers.takers.Goals as goal

pub loop-param-preserved : goal.loop-param-preserved
loop-param-preserved c = taken_one_more (me_taker (code_of c.args.tabled.now) (definition c.args.method.now))
    c.loop-param.takers.items c.push.new.self.items _ c.as_slice-param-items.result.now c.loop-param.param-index
    c.param-item.result (in_place c.new.result c.new-2.result) c.loop-param-test.true c.loop-param.invariant
    c.in-Ok-push.ensures.items refl c.in-Ok-param_slot.ensures c.param-item.is
    (ap (λ ns. in_place ns c.new-2.result) c.new.ensures)

pub returns : goal.returns
returns c = all_are_taken (code_of c.args.tabled.now) (definition c.args.method.now) c.loop-param.takers.items
    c.as_slice-param-items.result.now c.loop-param.param-index c.loop-param.invariant c.loop-param-test.false
    c.as_slice-param-items.ensures
