use Rattle.std.proofs.Common.{◌≡◌, drop, take, length, List, nat_eq, ◌+◌, refl, ap, ◌∙◌, arith}
use Rattle.std.specs.Prelude.{find, filter_map}
use Rattle.std.proofs.lemmas.List.{take_all}
use Rattle.ae_tree.specs.declared.tree.Class.{Class}
use Rattle.ae_tree.specs.declared.tree.Decl.{Decl}
use Rattle.ae_tree.specs.Shown.{code}
use Rattle.ae_tree.specs.WellShaped.{class_in}
use Rattle.ae_rules.specs.Verdict.{fine, in_turn}
use Rattle.ae_rules.specs.Lookups.{is_called, top_in}
use Rattle.ae_rules.specs.Table.{tops_differ, declares_new, nothing_declared}
use Rattle.ae_classes.specs.Classes.{declared_in, passed, is_class_called}
use Rattle.ae_classes.proofs.PlaceLemmas.{first_of_all_is_place}
use Rattle.ae_classes.proofs.TurnLemmas.{a_turn_breaks, what_comes_next_breaks, answered_by_that_error}
use Rattle.ae_classes.proofs.TurnLemmas.{from_copied_place}
use Rattle.ae_classes.proofs.tops.tops_differ.Goals as goal

pub returns-in_err-declares_new-clause-answer : goal.returns-in_err-declares_new-clause-answer
returns-in_err-declares_new-clause-answer c =
    let p = code c.args.program.now in
    let decls = c.args.program.now.decls in
    let i = c.loop-decl.decl-index in
    let e = c.in_err-declares_new.field-0.0 in
    let later = declared_in c.declares_new.new.names in
    let whole = in_turn (declares_new p) decls nothing_declared in
    answered_by_that_error (tops_differ p) passed tt e c.from_residual.result
    (what_comes_next_breaks whole (λ _. fine) later tt e
    (a_turn_breaks (declares_new p) _ (drop (i + 1) decls) (drop i decls) whole (declared_in c.loop-decl.names) later e
    (from_copied_place decls c.as_slice-decl-items.result.now i _ c.as_slice-decl-items.ensures
    c.loop-decl-test.true)
    c.loop-decl.invariant.rest c.in_err-declares_new.ensures.answer))
    c.from_residual.ensures.1

pub returns-clause-classes : goal.returns-clause-classes
returns-clause-classes c =
    let p = code c.args.program.now in
    let decls : List Decl = c.args.program.now.decls in
    let i = c.loop-decl.decl-index in
    let same : length c.as_slice-decl-items.result.now ≡ length decls =
    ap (λ (ds : List Decl). length ds) c.as_slice-decl-items.ensures in
    let whole : take i decls ≡ decls = take_all i decls (omega (arith, c.loop-decl-test.false, same)) in
    λ x. c.loop-decl.invariant.gives.classes x
    ∙ ap (λ (ds : List Decl). find (is_class_called p x) (filter_map class_in ds)) whole
    ∙ ap (find (is_class_called p x)) c.requires.classes
    ∙ first_of_all_is_place (λ (k : Class). nat_eq k.name.name x) (is_class_called p x) c.args.program.now.classes
    (λ i. refl)

pub returns-clause-tops : goal.returns-clause-tops
returns-clause-tops c =
    let p = code c.args.program.now in
    let decls : List Decl = c.args.program.now.decls in
    let i = c.loop-decl.decl-index in
    let same : length c.as_slice-decl-items.result.now ≡ length decls =
    ap (λ (ds : List Decl). length ds) c.as_slice-decl-items.ensures in
    let whole : take i decls ≡ decls = take_all i decls (omega (arith, c.loop-decl-test.false, same)) in
    λ x. c.loop-decl.invariant.gives.tops x
    ∙ ap (λ (ds : List Decl). find (is_called p x) (filter_map top_in ds)) whole
