-- A tree with the body of a call begun: the value that was handed in is accepted in it, and no other one.
use Rattle.std.proofs.Common.{◌≡◌, refl, ap, sym, subst, ◌∙◌, arith, ℕ, zero, suc, nat_eq, Bool, true, false, pos}
use Rattle.std.proofs.Common.{List, []}
use Rattle.std.proofs.Common.{◌∷◌, Option, None, Some, Contains}
use Rattle.std.specs.Prelude.{slice_get, slice_index_or, if◌then◌else◌}
use Rattle.std.proofs.lemmas.Bool.{eqb-true}
use mathlib.Core.Path.{fun_ext}
use Rattle.ae_rules.specs.Verdict.{given}
use Rattle.ae_semantics.specs.Values.{Val, OfInt, Owned, Object, NoValue, AndValue}
use Rattle.ae_semantics.specs.Places.{Bound, with_bound, Outcome, Fine, Lacks}
use Rattle.ae_semantics.specs.Meaning.{one, many, below}
use Rattle.ae_semantics.specs.Moments.{Moment, AgreesOnUsed}
use Rattle.ae_semantics.specs.Entries.{OfCall, Entry}
use Rattle.ae_semantics.specs.BlockTrees.{BlockTree, Begun, NoMore, Then, Waiting, Finished, InCall, Running}
use Rattle.ae_semantics.specs.Trails.{Passage, Trail, trail}
use Rattle.ae_semantics.specs.Unfolding.{IsAsEntered, IsFrameEntered, StandsFor, entry_at, uses_of}
use Rattle.ae_semantics.specs.RowTrees.{nothing_gained}
use Rattle.ae_worked.proofs.UnfoldingExamples.{no_values}
use Rattle.ae_worked.proofs.UnfoldingGroupExamples.{moment_at}
use Rattle.ae_worked.proofs.RunRowExamples.{parameter_comes_back}

abbrev call_noted : Trail
call_noted = trail parameter_comes_back [] 100 (λ q. None)

-- what the call finds
abbrev call_passage : Option Passage
call_passage = slice_get call_noted.found 1

abbrev values_in_entry : Outcome Entry → Moment
values_in_entry (Fine e) = e.values
values_in_entry _ = no_values

-- what the body is entered with
abbrev handed_in : Moment
handed_in = values_in_entry (given call_passage Lacks (λ x. entry_at parameter_comes_back x x.moment OfCall))

-- the body of the call, begun with these values
abbrev body_with : Moment → Running
body_with m = record { path = 1 ∷ []; inner = OfCall; cells = []; frame = Begun m (Then Waiting (Then Waiting NoMore)) }

call_body_entered : IsFrameEntered parameter_comes_back call_noted (body_with handed_in)
unfolding trail one many below
call_body_entered = record {
  passage = _;
  found = (1, omega arith, refl);
  place = refl;
  values = moment_at call_noted.found 1;
  agrees = record { locals = λ x h. refl; groups = λ g h. refl; result = refl; log = λ h. refl; cell = λ h. refl };
  enters = ((record { locals = λ x. refl; groups = λ g. refl; result = refl; log = refl; cell = refl }, refl), refl);
}

-- ---- another value

-- the number in an object with one field
abbrev number_inside : Option Bound → ℕ
number_inside (Some b) = in_value b.value
  where
    in_value : Val → ℕ
    in_value (Owned (Object c (AndValue (OfInt (pos n)) NoValue))) = n
    in_value _ = 0
number_inside None = 0

-- values that hold something in a local are the same with that put there
pinned : (x : ℕ) (b : Option Bound) (m : Moment) → m.state.locals x ≡ b
    → m ≡ record m { state = with_bound x b m.state }
pinned x b m e = ap (λ (f : ℕ → Option Bound). record m { state = record m.state { locals = f } })
    (fun_ext (λ y. by_test y (nat_eq x y) refl))
  where
    by_test : (y : ℕ) (c : Bool) → nat_eq x y ≡ c → m.state.locals y ≡ (if c then b else m.state.locals y)
    by_test y true i = ap m.state.locals (sym (eqb-true x y i)) ∙ e
    by_test y false i = refl

-- where a path ends: one more than its number, where it has one alone
abbrev alone_in : List ℕ → ℕ
alone_in (i ∷ []) = suc i
alone_in _ = 0

-- the statement enters the body with these values
abbrev EntersWith : Moment → Passage → Type 0
EntersWith m x = (values : Moment) × AgreesOnUsed (uses_of parameter_comes_back x) values x.moment
    × IsAsEntered (entry_at parameter_comes_back x values OfCall) (body_with m)

-- the call, which is the second statement that is found; it is there, so the other passage is not
abbrev the_call : Passage → Passage
the_call x = slice_index_or call_noted.found 1 x

-- what the call enters holds the number that was handed in
handed_one : (m : Moment) (x : Passage) → EntersWith m (the_call x) → number_inside (m.state.locals 6) ≡ 1
unfolding trail one many below
handed_one m x h =
    let b : Option Bound = (the_call x).moment.state.locals 7 in
    let e = subst (λ (v : Moment). IsAsEntered (entry_at parameter_comes_back (the_call x) v OfCall) (body_with m))
    (pinned 7 b h.0 (h.1.locals 7 refl)) h.2 in
    ap number_inside (e.0.0.locals 6)

-- a frame of the call holds it
frame_holds_one : (m : Moment) → IsFrameEntered parameter_comes_back call_noted (body_with m)
    → number_inside (m.state.locals 6) ≡ 1
unfolding trail one many below
frame_holds_one m h = by_place h.found
  where
    enters : EntersWith m h.passage
    enters = (h.values, h.agrees, h.enters)

    by_place : Contains call_noted.found h.passage → number_inside (m.state.locals 6) ≡ 1
    by_place (zero, l, e) =
        absurd (omega (arith, subst (λ (x : Passage). alone_in x.here.path ≡ 2) (sym e) (ap alone_in h.place)))
    by_place (suc zero, l, e) = handed_one m h.passage (subst (EntersWith m) (sym e) enters)
    by_place (suc (suc zero), l, e) =
        absurd (omega (arith, subst (λ (x : Passage). alone_in x.here.path ≡ 2) (sym e) (ap alone_in h.place)))
    by_place (suc (suc (suc zero)), l, e) =
        absurd (omega (arith, subst (λ (x : Passage). alone_in x.here.path ≡ 2) (sym e) (ap alone_in h.place)))
    by_place (suc (suc (suc (suc zero))), l, e) =
        absurd (omega (arith, subst (λ (x : Passage). alone_in x.here.path ≡ 2) (sym e) (ap alone_in h.place)))
    by_place (suc (suc (suc (suc (suc zero)))), l, e) =
        absurd (omega (arith, subst (λ (x : Passage). alone_in x.here.path ≡ 2) (sym e) (ap alone_in h.place)))
    by_place (suc (suc (suc (suc (suc (suc k))))), l, e) = absurd (omega (arith, l))

-- ---- a whole tree

-- the tree with the body begun with these values
abbrev tree_with : Moment → BlockTree
tree_with m = Begun (moment_at call_noted.found 0)
    (Then (Finished (moment_at call_noted.left 0) nothing_gained)
    (Then (InCall (body_with m).frame)
    (Then Waiting
    (Then Waiting NoMore))))

-- A tree in whose call the parameter holds another number does not stand for the meaning.
nine_in_b-refused : (m : Moment) → number_inside (m.state.locals 6) ≡ 9
    → StandsFor parameter_comes_back [] 100 (tree_with m) → ⊥
unfolding trail one many below
nine_in_b-refused m e s = omega (arith, e, frame_holds_one m (s.each_entered (body_with m) (0, omega arith, refl)))
