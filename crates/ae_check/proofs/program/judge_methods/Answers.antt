use Rattle.std.proofs.Common.{map, length, subst, ap, sym}
use Rattle.ae_tree.specs.declared.tree.Program.{Program}
use Rattle.ae_tree.specs.Shown.{code, definition}
use Rattle.ae_tree.specs.WellShaped.{MethodNamed}
use Rattle.ae_check.specs.Ready.{StaysReady}
use Rattle.ae_check.proofs.ProgramLemmas.{its_place}
use Rattle.ae_check.proofs.from_rules.HeldLemmas.{named_method}
use Rattle.ae_check.proofs.program.judge_methods.Goals as goal

pub judge_method-requires-clause-named : goal.judge_method-requires-clause-named
judge_method-requires-clause-named c =
    let p = code c.args.program.now in
    subst (λ (k : Program). MethodNamed (length k.names) (definition c.method-item.result))
    (sym c.of-tabled.ensures.program)
    (named_method p c.loop-method.method-index (definition c.method-item.result) c.requires.shaped
    (its_place p c.as_slice-method-items.result.now c.loop-method.method-index c.method-item.result
    (ap (map definition) (sym c.as_slice-method-items.ensures)) c.loop-method-test.true c.method-item.is))

pub judge_method-requires-clause-stays : goal.judge_method-requires-clause-stays
judge_method-requires-clause-stays c =
    let p = code c.args.program.now in
    subst (λ (k : Program). StaysReady (code k) (definition c.method-item.result)) (sym c.of-tabled.ensures.program)
    (c.judging_stays_ready.ensures p c.requires.shaped c.requires.holds c.loop-method.method-index
    (definition c.method-item.result)
    (its_place p c.as_slice-method-items.result.now c.loop-method.method-index c.method-item.result
    (ap (map definition) (sym c.as_slice-method-items.ensures)) c.loop-method-test.true c.method-item.is))
