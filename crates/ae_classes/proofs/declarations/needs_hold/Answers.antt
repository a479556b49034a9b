use Rattle.std.proofs.Common.{drop, ◌+◌, refl}
use Rattle.ae_rules.specs.Verdict.{in_turn}
use Rattle.ae_rules.specs.Lookups.{has_name}
use Rattle.ae_rules.specs.Table.{need_holds}
use Rattle.ae_classes.proofs.TurnLemmas.{a_turn_breaks, left_by_that_error, from_copied_place}
use Rattle.ae_classes.proofs.declarations.needs_hold.Goals as goal

pub returns-in_err-need_holds : goal.returns-in_err-need_holds
returns-in_err-need_holds c =
    let f = need_holds (has_name c.args.known.now) in
    let needs = c.args.needs.now in
    let i = c.loop-need.need-index in
    let e = c.in_err-need_holds.field-0.0 in
    let later = has_name c.need_holds.new.earlier in
    left_by_that_error (in_turn f needs (has_name c.args.earlier.now)) later e c.from_residual.result
    (a_turn_breaks f _ (drop (i + 1) needs) (drop i needs) (in_turn f needs (has_name c.args.earlier.now))
    (has_name c.loop-need.earlier) later e (from_copied_place needs needs i _ refl c.loop-need-test.true)
    c.loop-need.invariant c.in_err-need_holds.ensures)
    c.from_residual.ensures.1
