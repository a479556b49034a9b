-- A judged statement that has no block and calls no method changes only what it writes.
use Rattle.std.proofs.Common.{◌≡◌, ◌≢◌, refl, sym, subst, ℕ, Bool, true, false, not, [], ◌∷◌, ◌++◌}
use Rattle.std.proofs.Common.{Option, Some}
use Rattle.ae_text.specs.declared.refusal.Spot.{Spot}
use Rattle.ae_text.specs.declared.refusal.Rule.TheVariants as rule
use Rattle.ae_tree.specs.declared.tree.NameAt.{NameAt}
use Rattle.ae_tree.specs.declared.tree.Path.{Path}
use Rattle.ae_tree.specs.declared.tree.Ty.{Ty}
use Rattle.ae_tree.specs.declared.form.Form.{Form}
use Rattle.ae_tree.specs.Form.{form}
use Rattle.ae_tree.specs.Plain.{Code, Definition, Expression}
use Rattle.ae_tree.specs.Plain.{RightSide}
use Rattle.ae_tree.specs.Plain.{Action, Declares, Assigns, Stores, StoresAt, Calls, Chooses, ChoosesElse, Repeats}
use Rattle.ae_tree.specs.Plain.{Groups, Splits, Locks, Freezes, Shares, Prints, PrintsText, Asserts, Returns}
use Rattle.ae_tree.specs.WellShaped.{HasField}
use Rattle.ae_rules.specs.declared.uses.Resource.TheVariants as resource
use Rattle.ae_rules.specs.Edges.{Uses}
use Rattle.ae_rules.specs.Verdict.{Verdict, Holds, require, found}
use Rattle.ae_rules.specs.Forms.{is_ints}
use Rattle.ae_rules.specs.Paths.{is_call}
use Rattle.ae_rules.specs.Types.{forms_type}
use Rattle.ae_rules.specs.Groups.{known}
use Rattle.ae_rules.specs.Context.{Local, Context, is_visible, with_local, with_held, held_of}
use Rattle.ae_rules.specs.Walks.{Place, owner, walk, write_access, owner_write_access}
use Rattle.ae_rules.specs.Statements.{judge_right, judge_let, judge_assign, judge_store, judge_store_at}
use Rattle.ae_rules.specs.Expressions.{expression_spot}
use Rattle.ae_rules.specs.Judges.{Judges}
use Rattle.ae_rules.specs.Laws.{WalksGoByOwners}
use Rattle.ae_rules.specs.Uses.{◌∪◌, of_judged, of_found, write_use, whole_group, value_uses, into_uses, right_uses}
use Rattle.ae_rules.specs.Uses.{write_uses, return_uses, statement_uses}
use Rattle.ae_semantics.specs.Values.{Val, OfInt, OfBool, Null, Owned, Member, Store}
use Rattle.ae_semantics.specs.Places.{Outcome, Fine, ◌>>=◌, there, Here, Bound, State}
use Rattle.ae_semantics.specs.Places.{with_store, store_of, OpenedObject, ObjectField, slot, reach, write_field}
use Rattle.ae_semantics.specs.Expressions.{value, number_of, truth_of, numbers, index}
use Rattle.ae_semantics.specs.Equations.{one-Declares, one-Assigns, one-Stores, one-StoresAt, one-Groups, one-Freezes}
use Rattle.ae_semantics.specs.Equations.{one-Shares, one-Prints, one-PrintsText, one-Asserts, one-Returns}
use Rattle.ae_semantics.specs.Observations.{Notes}
use Rattle.ae_semantics.specs.Runs.{outcome_given, Where, Machine, Below}
use Rattle.ae_semantics.specs.Calls.{without_moved}
use Rattle.ae_semantics.specs.Meaning.{sets, name_moved, stored, stored_at, shared_value, shares_into, frozen}
use Rattle.ae_semantics.specs.Meaning.{result_moved, returns_value, printed_value, asserts, does, one}
use Rattle.ae_soundness.specs.Laws.{is_without_calls}
use Rattle.ae_soundness.proofs.LastingLemmas.{Gives, next_gives, then_gives, Leaves, given_leaves, any_leaves}
use Rattle.ae_soundness.proofs.OutcomeLemmas.{Comes}
use Rattle.ae_soundness.proofs.RightLemmas.{SlotStands, slot_comes}
use Rattle.ae_changes.specs.Changes.{ChangesAsUsed}
use Rattle.ae_changes.proofs.from_rules.PathLemmas.{first_holds}
use Rattle.ae_changes.proofs.from_rules.SeenLemmas.{found_is}
use Rattle.ae_changes.proofs.UsedLemmas.{IsWritten, Covers, written_left, written_right, local_itself, group_itself}
use Rattle.ae_changes.proofs.UsedLemmas.{covers_left, covers_right}
use Rattle.ae_changes.proofs.WriteLemmas.{BaseWritten, changes_nothing, bound_changes, moved_changes, store_changes}
use Rattle.ae_changes.proofs.WriteLemmas.{write_changes}
use Rattle.ae_changes.proofs.BaseLemmas.{object_written, covers_base}
use Rattle.ae_changes.proofs.MovedLemmas.{covers_names, into_written, return_written}
use Rattle.ae_changes.proofs.ActLemmas.{FitsRight, found_gives, slot_written, set_changes}

-- ---- writes to fields and items

stored_slot : (p : Code) (c : Context) (u : Uses) (s : State) (e : Expression) (v : Val) (w : Place) (x : ObjectField)
    → x.part.form ≡ w.form → Covers (into_uses p c w.form e) u → BaseWritten u x.object.at.base
    → Gives (ChangesAsUsed c u s)
    (write_field s x.object x.part.number v >>= λ t. Fine (without_moved (name_moved x.part.form e) t))
stored_slot p c u s e v w x same k b = then_gives (ChangesAsUsed c u s) (ChangesAsUsed c u s)
    (write_field s x.object x.part.number v) (λ t. Fine (without_moved (name_moved x.part.form e) t))
    (write_changes c u s s x.object.at.base _ v b (changes_nothing c u s))
    (λ t i. subst (λ (y : Form). ChangesAsUsed c u s (without_moved (name_moved y e) t)) (sym same)
    (moved_changes c u s (name_moved w.form e) t
    (covers_names (into_uses p c w.form e) u (name_moved w.form e) k (into_written p c w.form e)) i))

slot_form : (p : Code) (s : State) (t : Form) (o : Outcome ObjectField) (x : ObjectField) → Comes (SlotStands p s t) o
    → o ≡ Fine x → x.part.form ≡ t
slot_form p s t o x h e =
    let there : Comes (SlotStands p s t) (Fine x) = subst (Comes (SlotStands p s t)) e h in there.0.1

store_changes_field : WalksGoByOwners → (p : Code) (c d : Context) (s : State) (path : Path) (e : Expression)
    → FitsRight p c s → path.steps ≢ [] → judge_store p c path e (expression_spot e) ≡ Holds d
    → Gives (ChangesAsUsed c (write_uses p c (owner path) ∪ of_judged (walk p c path) (λ w. into_uses p c w.form e)) s)
    (stored p path e s)
store_changes_field law p c d s path e z n h =
    let a = first_holds (walk p c path) _ d h in
    let w : Place = a.0 in
    let b = first_holds (owner_write_access p c path) _ d a.2 in
    let u : Uses = write_uses p c (owner path) ∪ into_uses p c w.form e in
    subst (λ (v : Verdict Place). Gives
    (ChangesAsUsed c (write_uses p c (owner path) ∪ of_judged v (λ w. into_uses p c w.form e)) s) (stored p path e s))
    (sym a.1)
    (next_gives (ChangesAsUsed c u s) (value p s e) _
    (λ v. found_gives (ChangesAsUsed c u s) (slot p s path) _
    (λ x i. stored_slot p c u s e v w x
    (slot_form p s w.form (slot p s path) x (slot_comes law p c s path w z.members z.fits a.1 n) i)
    (covers_right (write_uses p c (owner path)) (into_uses p c w.form e))
    (covers_base (write_uses p c (owner path)) u x.object.at.base
    (covers_left (write_uses p c (owner path)) (into_uses p c w.form e)) (slot_written p c s z path x b.0 b.1 i)))))

store_changes_item : (p : Code) (c d : Context) (s : State) (path : Path) (i e : Expression) → FitsRight p c s
    → judge_store_at p c path i e ≡ Holds d
    → Gives (ChangesAsUsed c (write_uses p c path ∪ value_uses p c i ∪ value_uses p c e) s) (stored_at p path i e s)
store_changes_item p c d s path i e z h =
    let a = first_holds (walk p c path) _ d h in
    let w : Place = a.0 in
    let b = first_holds (require (is_ints w.form) rule.TypeMismatch path.root.at) _ d a.2 in
    let y = first_holds (write_access c path.root.at w.held) _ d b.2 in
    next_gives P (number_of p s i) _
    (λ n. next_gives P (number_of p s e) _
    (λ v. found_gives P (reach p s path) _
    (λ (o : OpenedObject) k. next_gives P (numbers o.tree) _
    (λ ns. next_gives P (index ns n) _
    (λ j. write_changes c u s s o.at.base o.at.fields _
    (covers_base (write_uses p c path) u o.at.base
    (covers_left (write_uses p c path) (value_uses p c i ∪ value_uses p c e))
    (object_written p c s z.members z.fits z.right path w o path.root.at y.0 a.1 y.1 k))
    (changes_nothing c u s))))))
  where
    u : Uses
    u = write_uses p c path ∪ value_uses p c i ∪ value_uses p c e

    P : State → Type 0
    P = ChangesAsUsed c u s

-- ---- `share`

shared_changes : (c : Context) (u : Uses) (s : State) (x g : ℕ) (b : Bound) (v : Val) (st : Store)
    → IsWritten u (resource.Local x) → IsWritten u (resource.Group g)
    → Gives (ChangesAsUsed c u s) (shared_value x g b v s st)
shared_changes c u s x g b (OfInt i) st w k = tt
shared_changes c u s x g b (OfBool i) st w k = tt
shared_changes c u s x g b Null st w k = bound_changes c u s x _ s w (changes_nothing c u s)
shared_changes c u s x g b (Owned t) st w k = bound_changes c u s x _ (with_store g (Some (Here (st ++ t ∷ []))) s) w
    (store_changes c u s g (Some (Here (st ++ t ∷ []))) s k refl (changes_nothing c u s))
shared_changes c u s x g b (Member i) st w k = tt

share_changes : (c : Context) (s : State) (x g : ℕ)
    → Gives (ChangesAsUsed c (write_use x ∪ whole_group g) s) (shares_into x g s)
share_changes c s x g = next_gives (ChangesAsUsed c u s) (there (s.locals x)) _
    (λ (b : Bound). next_gives (ChangesAsUsed c u s) (store_of s g) (shared_value x g b b.value s)
    (λ st. shared_changes c u s x g b b.value st
    (written_left (write_use x) (whole_group g) (resource.Local x) (local_itself x))
    (written_right (write_use x) (whole_group g) (resource.Group g) (group_itself g))))
  where
    u : Uses
    u = write_use x ∪ whole_group g

-- ---- statements

does_leaves : {W : Type 0} (P : State → Type 0) (at : Spot) (n : Notes W) (o : Outcome State) → Gives P o
    → Leaves P (does at n o)
does_leaves P at n o h = given_leaves P P o at n _ h (λ s i. i)

assert_leaves : {W : Type 0} (P : State → Type 0) (at : Spot) (test : Bool) (s : State) (n : Notes W) → P s
    → Leaves P (asserts at test s n)
assert_leaves P at true s n h = h
assert_leaves P at false s n h = tt

returned_changes : (p : Code) (m : Definition) (c : Context) (s : State) (e : Expression)
    → Gives (ChangesAsUsed c (return_uses p m c e) s) (returns_value p m e s)
returned_changes p m c s e = next_gives (ChangesAsUsed c u s) (value p s e) _
    (λ v. record { local = there.local; group = there.group; name = there.name })
  where
    u : Uses
    u = return_uses p m c e

    there : ChangesAsUsed c u s (without_moved (result_moved m e) s)
    there = moved_changes c u s (result_moved m e) s (return_written p m c e) (changes_nothing c u s)

declare_changes : {W : Type 0} (m : Machine W) (below : Option (Below W)) (here : Where) (at : Spot) (ty : Ty)
    (x : NameAt) (e : RightSide) (d : Context) (s : State) (n : Notes W) → FitsRight m.code here.context s
    → not (is_call e) ≡ true → judge_let m.code here.context ty x e ≡ Holds d
    → Leaves
    (ChangesAsUsed here.context (write_use x.name ∪ right_uses m.code here.context (form ty) e) s)
    (sets m below here at x.name (form ty) e s n)
declare_changes m below here at ty x e d s n z o h =
    let c : Context = here.context in
    let t : Form = form ty in
    let a = first_holds (forms_type m.code (known c.group) false ty) _ d h in
    let b = first_holds (require (not (is_visible c x.name)) rule.DuplicateLocal x.at) _ d a.2 in
    let r = first_holds (judge_right m.code c t e) (λ y. Holds (with_local x.name t y)) d b.2 in
    let v : Uses = right_uses m.code c t e in
    set_changes m below here c r.0 (write_use x.name ∪ v) s at x.name t e n z o r.1 (covers_right (write_use x.name) v)
    (written_left (write_use x.name) v (resource.Local x.name) (local_itself x.name))

assign_changes : {W : Type 0} (m : Machine W) (below : Option (Below W)) (here : Where) (at : Spot)
    (x : NameAt) (e : RightSide) (d : Context) (s : State) (n : Notes W) → FitsRight m.code here.context s
    → not (is_call e) ≡ true → judge_assign m.code here.context x e ≡ Holds d
    → Leaves (ChangesAsUsed here.context (write_use x.name
    ∪ of_found (here.context.local x.name) (λ (l : Local). right_uses m.code here.context l.form e)) s)
    (outcome_given (there (here.context.local x.name)) at n (λ (l : Local). sets m below here at x.name l.form e s n))
assign_changes m below here at x e d s n z o h =
    let c : Context = here.context in
    let a = first_holds (found (c.local x.name) rule.UnknownName x.at) _ d h in
    let l : Local = a.0 in
    let b = first_holds (require (not l.stays) rule.ParameterMoved x.at) _ d a.2 in
    let r = first_holds (judge_right m.code c l.form e) (λ y. Holds (with_held x.name (held_of l.form) y)) d b.2 in
    let v : Uses = right_uses m.code c l.form e in
    subst (λ (q : Option Local). Leaves (ChangesAsUsed c (write_use x.name
    ∪ of_found q (λ (l : Local). right_uses m.code c l.form e)) s)
    (outcome_given (there q) at n (λ (l : Local). sets m below here at x.name l.form e s n)))
    (sym (found_is (c.local x.name) rule.UnknownName x.at l a.1))
    (set_changes m below here c r.0 (write_use x.name ∪ v) s at x.name l.form e n z o r.1
    (covers_right (write_use x.name) v)
    (written_left (write_use x.name) v (resource.Local x.name) (local_itself x.name)))

-- A judged statement without blocks and calls leaves a state in which only what it writes is changed.
pub act_leaves : {W : Type 0} → WalksGoByOwners → (m : Machine W) (below : Option (Below W)) (here : Where) (at : Spot)
    (a : Action) (d : Context) (s : State) (n : Notes W) → is_without_calls a ≡ true → HasField a
    → Judges m.code here.method at a here.context d → FitsRight m.code here.context s
    → Leaves (ChangesAsUsed here.context (statement_uses m.code here.method a here.context) s)
    (one m below here at a s n)
act_leaves law m below here at (Declares ty x e) d s n o f h z =
    rw (one-Declares m below here at ty x e s n) (declare_changes m below here at ty x e d s n z o h)
act_leaves law m below here at (Assigns x e) d s n o f h z =
    rw (one-Assigns m below here at x e s n) (assign_changes m below here at x e d s n z o h)
act_leaves law m below here at (Stores path e) d s n o f h z =
    rw (one-Stores m below here at path e s n) (does_leaves _ at n (stored m.code path e s)
    (store_changes_field law m.code here.context d s path e z f h))
act_leaves law m below here at (StoresAt path i e) d s n o f h z =
    rw (one-StoresAt m below here at path i e s n) (does_leaves _ at n (stored_at m.code path i e s)
    (store_changes_item m.code here.context d s path i e z h))
act_leaves law m below here at (Calls i) d s n o f h z = absurd (cc o)
act_leaves law m below here at (Chooses e j b) d s n o f h z = absurd (cc o)
act_leaves law m below here at (ChoosesElse e j b k b') d s n o f h z = absurd (cc o)
act_leaves law m below here at (Repeats e j b) d s n o f h z = absurd (cc o)
act_leaves law m below here at (Groups g) d s n o f h z =
    rw (one-Groups m below here at g s n)
    (store_changes here.context (whole_group g.name) s g.name (Some (Here [])) s (group_itself g.name) refl
    (changes_nothing here.context (whole_group g.name) s))
act_leaves law m below here at (Splits gs j b) d s n o f h z = absurd (cc o)
act_leaves law m below here at (Locks g j b) d s n o f h z = absurd (cc o)
act_leaves law m below here at (Freezes x) d s n o f h z =
    rw (one-Freezes m below here at x s n)
    (does_leaves (ChangesAsUsed here.context (write_use x.name) s) at n (frozen x.name s)
    (next_gives (ChangesAsUsed here.context (write_use x.name) s) (there (s.locals x.name)) _
    (λ (b : Bound). bound_changes here.context (write_use x.name) s x.name _ s (local_itself x.name)
    (changes_nothing here.context (write_use x.name) s))))
act_leaves law m below here at (Shares x g) d s n o f h z =
    rw (one-Shares m below here at x g s n) (does_leaves _ at n (shares_into x.name g.name s)
    (share_changes here.context s x.name g.name))
act_leaves law m below here at (Prints e) d s n o f h z =
    rw (one-Prints m below here at e s n) (any_leaves _ (value m.code s e >>= printed_value) at n _
    (λ bytes. changes_nothing here.context (statement_uses m.code here.method (Prints e) here.context) s))
act_leaves law m below here at (PrintsText text) d s n o f h z =
    rw (one-PrintsText m below here at text s n)
    (changes_nothing here.context (statement_uses m.code here.method (PrintsText text) here.context) s)
act_leaves law m below here at (Asserts e) d s n o f h z =
    rw (one-Asserts m below here at e s n) (any_leaves _ (truth_of m.code s e) at n _
    (λ test. assert_leaves _ at test s n
    (changes_nothing here.context (statement_uses m.code here.method (Asserts e) here.context) s)))
act_leaves law m below here at (Returns e) d s n o f h z =
    rw (one-Returns m below here at e s n) (does_leaves _ at n (returns_value m.code here.method e s)
    (returned_changes m.code here.method here.context s e))
