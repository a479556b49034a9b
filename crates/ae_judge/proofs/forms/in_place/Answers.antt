use Rattle.std.proofs.Common.{arith, ◌∙◌, ◌<◌, length, sym}
use Rattle.ae_judge.proofs.FormLemmas.{place_passed_by, place_at_the_end}
use Rattle.ae_judge.proofs.forms.in_place.Goals as goal

pub loop-i-preserved : goal.loop-i-preserved
loop-i-preserved c =
    let l : c.loop-i.i < length c.args.from.now = omega (arith, c.min-len.ensures, c.loop-i-test.true) in
    let k : c.loop-i.i < length c.args.to.now = omega (arith, c.min-len.ensures, c.loop-i-test.true) in
    c.loop-i.invariant ∙ place_passed_by c.args.from.now c.args.to.now c.loop-i.i c.args.name l k c.if-from-i.false

pub returns : goal.returns
returns c = sym (c.loop-i.invariant ∙ place_at_the_end c.args.from.now c.args.to.now c.loop-i.i c.args.name
    (omega (arith, c.min-len.ensures, c.loop-i-test.false)))
