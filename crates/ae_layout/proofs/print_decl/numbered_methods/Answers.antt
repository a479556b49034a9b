use Rattle.ae_layout.proofs.Steps.{methods_step, drop_copy}
use Rattle.ae_layout.proofs.print_decl.numbered_methods.Goals as goal

pub loop-number-preserved : goal.loop-number-preserved
loop-number-preserved c =
    methods_step _ _ _ c.args.numbers.now c.loop-number.number-index _ _ _ _
    (drop_copy c.args.numbers.now c.loop-number.number-index 0 c.loop-number-test.true) c.loop-number.invariant
    c.in_ok-numbered_method.ensures
