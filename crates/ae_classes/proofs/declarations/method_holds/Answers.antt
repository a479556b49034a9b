use Rattle.std.proofs.Common.{sym, subst, ap, ◌∙◌, Err}
use Rattle.std.specs.Prelude.{⊤}
use Rattle.ae_tree.specs.Shown.{code, definition}
use Rattle.ae_rules.specs.Verdict.{Verdict, ◌>>◌, fine, in_turn}
use Rattle.ae_rules.specs.Answers.{Leaves, done}
use Rattle.ae_rules.specs.Lookups.{has_name}
use Rattle.ae_rules.specs.Table.{method_holds, need_holds}
use Rattle.ae_classes.proofs.TurnLemmas.{answered_by_that_error, what_comes_next_breaks}
use Rattle.ae_classes.proofs.ClauseLemmas.{method_comes_to_its_needs}
use Rattle.ae_classes.proofs.declarations.method_holds.Goals as goal

pub returns-in_err-needs_hold : goal.returns-in_err-needs_hold
returns-in_err-needs_hold c =
    let p = code c.args.program.now in
    let m = definition c.args.method.now in
    let outer = has_name c.args.outer.now in
    let known = has_name c.in_ok-known.known in
    let e = c.in_err-needs_hold.field-0.0 in
    let needs = in_turn (need_holds known) c.as_slice-4.result.now (has_name c.new-asked.result) in
    let P : Verdict ⊤ → Type 0 = λ v. Leaves v tt (Err e) in
    answered_by_that_error (method_holds p outer m) done tt e c.from_residual-in_err-needs_hold.result
    (subst P
    (sym (method_comes_to_its_needs p outer known (has_name c.in_ok-names.names) (has_name c.params_hold.new.earlier)
    (has_name c.new-asked.result) m c.as_slice.result.now c.as_slice-3.result.now c.as_slice-4.result.now
    c.as_slice.ensures c.as_slice-3.ensures c.as_slice-4.ensures c.in_ok-known.ensures c.in_ok-result_holds.ensures
    c.in_ok-receiver_holds.ensures (ap has_name (c.in_ok-names.ensures ∙ c.as_slice-2.ensures))
    c.in_ok-params_hold.ensures (ap has_name c.new-asked.ensures)))
    (what_comes_next_breaks needs (λ _. fine) (has_name c.needs_hold.new.earlier) tt e c.in_err-needs_hold.ensures))
    c.from_residual-in_err-needs_hold.ensures.1

pub returns : goal.returns
returns c =
    let p = code c.args.program.now in
    let m = definition c.args.method.now in
    let known = has_name c.in_ok-known.known in
    method_comes_to_its_needs p (has_name c.args.outer.now) known (has_name c.in_ok-names.names)
    (has_name c.params_hold.new.earlier) (has_name c.new-asked.result) m c.as_slice.result.now c.as_slice-3.result.now
    c.as_slice-4.result.now c.as_slice.ensures c.as_slice-3.ensures c.as_slice-4.ensures c.in_ok-known.ensures
    c.in_ok-result_holds.ensures c.in_ok-receiver_holds.ensures (ap has_name (c.in_ok-names.ensures
    ∙ c.as_slice-2.ensures))
    c.in_ok-params_hold.ensures (ap has_name c.new-asked.ensures)
    ∙ ap (λ v. v >> fine) c.in_ok-needs_hold.ensures
