use Rattle.std.proofs.Common.{◌≡◌, ◌∷◌, [], ◌+◌, List, Some, length, drop, slice_get, ap, sym, ◌∙◌, arith}
use Rattle.std.proofs.lemmas.List.{length-append}
use Rattle.std.proofs.lemmas.Option.{slice_get_within, slice_get_read}
use Rattle.ae_tree.specs.declared.tree.Class.{Class}
use Rattle.ae_tree.specs.Shown.{code}
use Rattle.ae_rules.specs.Verdict.{each}
use Rattle.ae_rules.specs.Table.{members_differ}
use Rattle.ae_rules.specs.Lookups.{class_at}
use Rattle.ae_classes.proofs.TurnLemmas.{one_premise_more, element_and_rest}
use Rattle.ae_classes.proofs.ClauseLemmas.{one_class_more_has_members}
use Rattle.ae_classes.proofs.members.members_differ.Goals as goal

pub loop-class-preserved : goal.loop-class-preserved
loop-class-preserved c =
    let p = code c.args.program.now in
    let classes : List Class = c.args.program.now.classes in
    let i = c.loop-class.class-index in
    let k : Class = c.class-item.result in
    let items : List Class = c.as_slice-class-items.result.now in
    let read : slice_get items i ≡ Some k =
    slice_get_read items (length items) i k (let e : length items
    ≡ length items = omega arith in e) c.loop-class-test.true c.class-item.is in
    let there : class_at p i ≡ Some k = ap (λ (xs : List Class). slice_get xs i)
    (sym c.as_slice-class-items.ensures) ∙ read in
    record {
      rest = one_premise_more (members_differ p) k (drop (i + 1) classes) (drop i classes) (each
          (members_differ p) classes)
          (ap (drop i) (sym c.as_slice-class-items.ensures)
          ∙ sym (element_and_rest items i k c.loop-class-test.true c.class-item.is)
          ∙ ap (λ (xs : List Class). k ∷ drop (i + 1) xs) c.as_slice-class-items.ensures)
          c.loop-class.invariant.rest c.in_ok-members_of.ensures.answer;
      count = ap length c.in_ok-push.ensures.ok ∙ length-append c.loop-class.members (c.in_ok-members_of.field-0 ∷ [])
          ∙ ap (λ n. n + 1) c.loop-class.invariant.count;
      found = one_class_more_has_members p c.loop-class.members c.push.new.self c.in_ok-members_of.field-0 i k
          c.loop-class.invariant.count c.in_ok-push.ensures.ok there c.in_ok-members_of.ensures.gives
          c.loop-class.invariant.found;
    }

pub returns-clause-gives : goal.returns-clause-gives
returns-clause-gives c =
    let classes : List Class = c.args.program.now.classes in
    let same : length c.as_slice-class-items.result.now
    ≡ length classes = ap (λ (xs : List Class). length xs) c.as_slice-class-items.ensures in
    record {
      count = omega (
        arith,
        c.loop-class.invariant.count,
        c.loop-class-test.false,
        c.loop-class.auto.class-index-end,
        same,
      );
      members = λ n x k is. c.loop-class.invariant.found n x k
          (let within = slice_get_within classes n k is in omega (arith, within, same, c.loop-class-test.false)) is;
    }
