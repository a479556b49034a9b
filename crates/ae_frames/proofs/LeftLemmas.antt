-- Where a call is left, what was kept of its caller tells all that comes back.
use Rattle.std.proofs.Common.{◌≡◌, ◌∙◌, ℕ, List, ap, refl, sym, subst}
use Rattle.std.specs.Prelude.{zip, filter_map}
use Rattle.ae_tree.specs.Plain.{Code, Invocation}
use Rattle.ae_rules.specs.Calls.{Callee}
use Rattle.ae_semantics.specs.Places.{State}
use Rattle.ae_semantics.specs.Runs.{Where}
use Rattle.ae_semantics.specs.Calls.{Argument, Taker, takers, leave, group_given, values_back, groups_back}
use Rattle.ae_semantics.specs.Calls.{without_moved}
use Rattle.ae_frames.specs.Asking.{with_locals}
use Rattle.ae_frames.specs.Entries.{EnteredCall, entered_call, frame_of}
use Rattle.ae_frames.specs.Granting.{LentGroup, is_holder}
use Rattle.ae_frames.specs.Kept.{ComesBack, IsKept, IsLeftOf, brought_back, returning, values_brought_back, groups_come_back}
use Rattle.ae_frames.specs.Leaving.{GroupsStay, CallsLeaveAlike}
use Rattle.ae_frames.proofs.EnteredLemmas.{was_entered}
use Rattle.ae_frames.proofs.BackLemmas.{all_comes_back}
use Rattle.ae_frames.proofs.TakenLemmas.{left_alike}

-- the same, where the method and the arguments are named
left_of_entry : (p : Code) (here : Where) (i : Invocation) (before after s : State) (c : Callee) (xs : List Argument)
    (back : List ComesBack) (lent : List LentGroup) (gone : List ℕ)
    → IsKept (entered_call p before c (group_given before c i) xs) i back lent gone
    → IsLeftOf back lent gone before s
    → GroupsStay (entered_call p before c (group_given before c i) xs) after
    → brought_back back lent gone after s
    ≡ leave (frame_of p here (entered_call p before c (group_given before c i) xs)) i before after
left_of_entry p here i before after s c xs back lent gone kept left stay =
    let zs : List (Taker × Argument) = zip (takers p c.method) xs in
    let groups : ℕ → ℕ = group_given before c i in
    let t : State = with_locals before.locals s in
    left_alike back lent gone after s before.locals left.locals
    ∙ ap (λ (bs : List ComesBack). values_brought_back bs after (groups_come_back lent after (without_moved gone t))) kept.back
    ∙ ap (λ (ls : List LentGroup). values_brought_back (filter_map returning zs) after
    (groups_come_back ls after (without_moved gone t))) kept.lent
    ∙ all_comes_back groups before after t c.method.needs zs gone stay
    refl left.result
    (λ y other. left.groups y (ap (λ (ls : List LentGroup). is_holder ls y) kept.lent ∙ other))
    ∙ ap (λ (ys : List ℕ). values_back zs after (groups_back groups c.method.needs after (without_moved ys before)))
    kept.gone

-- what comes back by what was kept is what the meaning leaves
pub left_by_what_was_kept : CallsLeaveAlike
left_by_what_was_kept p here i before after s x back lent gone is kept left stay =
    let was = was_entered p i before x is in
    subst (λ (y : EnteredCall). brought_back back lent gone after s ≡ leave (frame_of p here y) i before after) was.is
    (left_of_entry p here i before after s was.callee was.arguments back lent gone
    (subst (λ (y : EnteredCall). IsKept y i back lent gone) (sym was.is) kept) left
    (subst (λ (y : EnteredCall). GroupsStay y after) (sym was.is) stay))
