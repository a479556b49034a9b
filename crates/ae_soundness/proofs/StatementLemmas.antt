-- A judged statement that has no block and calls no method keeps fitting.
use Rattle.std.proofs.Common.{◌≡◌, ◌≢◌, refl, sym, ap, ◌∙◌, subst, ℕ, ℤ, Bool, true, false, if◌then◌else◌, not}
use Rattle.std.proofs.Common.{List, [], length, Option, Some}
use Rattle.std.specs.Prelude.{option_map, ⊤, is_some}
use Rattle.std.specs.Prelude as prelude
use Rattle.std.proofs.lemmas.Bool.{not-true}
use Rattle.ae_text.specs.declared.refusal.Spot.{Spot}
use Rattle.ae_text.specs.declared.refusal.Rule.TheVariants as rule
use Rattle.ae_tree.specs.declared.tree.NameAt.{NameAt}
use Rattle.ae_tree.specs.declared.tree.Ty.{Ty}
use Rattle.ae_tree.specs.declared.tree.Path.{Path}
use Rattle.ae_tree.specs.declared.tree.Op.{Op}
use Rattle.ae_tree.specs.declared.tree.Op.TheVariants as op
use Rattle.ae_tree.specs.declared.form.Kind.TheVariants as kind
use Rattle.ae_tree.specs.declared.form.Form.{Form}
use Rattle.ae_tree.specs.declared.form.Form.TheVariants as f
use Rattle.ae_tree.specs.Form.{form}
use Rattle.ae_tree.specs.Names.{io}
use Rattle.ae_tree.specs.Plain.{Code, Definition, Expression, Number, Truth, Nothing, Read, Item, Length, Grouped}
use Rattle.ae_tree.specs.Plain.{Negated, Minus, Binary}
use Rattle.ae_tree.specs.Plain.{Declares, Assigns, Stores, StoresAt, Calls, Chooses, ChoosesElse, Repeats}
use Rattle.ae_tree.specs.Plain.{Groups, Splits, Locks, Freezes, Shares, Prints, PrintsText, Asserts, Returns}
use Rattle.ae_rules.specs.declared.held.GroupPerm.TheVariants as group
use Rattle.ae_rules.specs.Verdict.{Holds, require, found, given}
use Rattle.ae_rules.specs.Forms.{is_object, is_ints}
use Rattle.ae_rules.specs.Groups.{Groups as GroupsKnown}
use Rattle.ae_rules.specs.Groups.{known, group_access, with_group, declare}
use Rattle.ae_rules.specs.Context.{Context, with_name_moved}
use Rattle.ae_rules.specs.Context.{access, may_change}
use Rattle.ae_rules.specs.Walks.{Place, walk, write_access, owner_write_access}
use Rattle.ae_rules.specs.Expressions.{expression_spot, judge_value, is_value, operands, result_form, judge_operands}
use Rattle.ae_rules.specs.Expressions.{has_form}
use Rattle.ae_rules.specs.Into.{into}
use Rattle.ae_rules.specs.Statements.{is_moved, judge_store, judge_store_at}
use Rattle.ae_rules.specs.Statements.{judge_group, judge_return, prints}
use Rattle.ae_rules.specs.Laws.{WalksGoByOwners}
use Rattle.ae_semantics.specs.Values.{Val, OfInt, OfBool, Null, Owned, Member, Tree, Object, Array, is_of_kind}
use Rattle.ae_semantics.specs.Places.{Outcome, Fine, Traps, Lacks, ◌>>=◌, Here, State}
use Rattle.ae_semantics.specs.Places.{with_store, OpenedObject, write_field, write_tree, ObjectField, slot, reach}
use Rattle.ae_semantics.specs.Expressions.{value, number_of, truth_of, numbers, index}
use Rattle.ae_semantics.specs.Equations.{one-Declares, one-Assigns, one-Stores, one-StoresAt, one-Groups, one-Freezes}
use Rattle.ae_semantics.specs.Equations.{one-Shares, one-Prints, one-PrintsText, one-Asserts, one-Returns}
use Rattle.ae_semantics.specs.Observations.{Seen, Notes}
use Rattle.ae_semantics.specs.Runs.{Where, outcome_given}
use Rattle.ae_semantics.specs.Calls.{without_moved}
use Rattle.ae_semantics.specs.Meaning.{name_moved, stored, stored_at, printed_value}
use Rattle.ae_semantics.specs.Meaning.{prints_piece, asserts, result_moved, returns_value, frozen, shares_into}
use Rattle.ae_soundness.specs.Fits.{IsOfForm, FitsContext}
use Rattle.ae_soundness.specs.Fits.{FieldsHaveMembers}
use Rattle.ae_soundness.specs.Laws.{IsReachedAs, KeepsFitting, StatementsFitBy, StatementsWithoutCallsFit}
use Rattle.ae_soundness.proofs.PlaceLemmas.{objects_are_reached}
use Rattle.ae_soundness.proofs.ValueLemmas.{ints_is, judged_so, values_are_found}
use Rattle.ae_soundness.proofs.IntoLemmas.{what_goes_in_fits}
use Rattle.ae_soundness.proofs.StoreLemmas.{group_declared}
use Rattle.ae_soundness.proofs.OutcomeLemmas.{Comes, Anything, then_comes, then_runs, value_comes, number_comes}
use Rattle.ae_soundness.proofs.OutcomeLemmas.{truth_comes}
use Rattle.ae_soundness.proofs.ShareLemmas.{freeze_fits, share_fits}
use Rattle.ae_soundness.proofs.StandLemmas.{ObjectStands, reach_stands}
use Rattle.ae_soundness.proofs.WriteLemmas.{FitsLike, tree_written, field_written, array_like}
use Rattle.ae_soundness.proofs.RightLemmas.{SlotStands, slot_comes}
use Rattle.ae_soundness.proofs.MoveLemmas.{moved_in}
use Rattle.ae_soundness.proofs.from_rules.PathLemmas.{first_holds}
use Rattle.ae_soundness.proofs.from_rules.SeenLemmas.{found_is, required}
use Rattle.ae_soundness.proofs.SetLemmas.{does_fit, same_context, declares_fit, assigns_fit}

-- ---- `print` and `assert`

no_object_form : (o : Op) → is_object (result_form o) ≡ false
no_object_form op.Or = refl
no_object_form op.And = refl
no_object_form op.Eq = refl
no_object_form op.Ne = refl
no_object_form op.Lt = refl
no_object_form op.Le = refl
no_object_form op.Gt = refl
no_object_form op.Ge = refl
no_object_form op.Add = refl
no_object_form op.Sub = refl
no_object_form op.Mul = refl
no_object_form op.Div = refl
no_object_form op.Rem = refl

plain_form : (t u : Form) → is_object t ≡ false → Holds t ≡ Holds u → is_object u ≡ false
plain_form t u i e = subst (λ (x : Form). is_object x ≡ false) (cc e) i

-- a judged value is no object
value_is_plain : (p : Code) (c : Context) (e : Expression) (t : Form) → judge_value p c e ≡ Holds t
    → is_object t ≡ false
value_is_plain p c (Number n at) t h = plain_form f.Int t refl h
value_is_plain p c (Truth b at) t h = plain_form f.Bool t refl h
value_is_plain p c (Nothing at) t h = absurd (cc h)
value_is_plain p c (Read path) t h =
    let a = first_holds (walk p c path) _ t h in
    let b = first_holds (require (not (is_object a.0.form)) rule.TypeMismatch path.root.at) (λ _. Holds a.0.form) t
    a.2 in
    plain_form a.0.form t (not-true (is_object a.0.form)
    (required (not (is_object a.0.form)) rule.TypeMismatch path.root.at b.0 b.1)) b.2
value_is_plain p c (Item path i) t h =
    let a = first_holds (walk p c path) _ t h in
    let b = first_holds (require (is_ints a.0.form) rule.TypeMismatch path.root.at) _ t a.2 in
    let d = first_holds (access c path.root.at a.0.held) _ t b.2 in
    let r = first_holds (has_form f.Int (judge_value p c i) (expression_spot i)) (λ _. Holds f.Int) t d.2
    in plain_form f.Int t refl r.2
value_is_plain p c (Length path at) t h =
    let a = first_holds (walk p c path) _ t h in
    let b = first_holds (require (is_ints a.0.form) rule.TypeMismatch path.root.at) _ t a.2 in
    let d = first_holds (access c path.root.at a.0.held) (λ _. Holds f.Int) t b.2 in plain_form f.Int t refl d.2
value_is_plain p c (Grouped i at) t h = value_is_plain p c i t h
value_is_plain p c (Negated i at) t h =
    let r = first_holds (has_form f.Bool (judge_value p c i) (expression_spot i)) (λ _. Holds f.Bool) t h
    in plain_form f.Bool t refl r.2
value_is_plain p c (Minus i at) t h =
    let r = first_holds (has_form f.Int (judge_value p c i) (expression_spot i)) (λ _. Holds f.Int) t h
    in plain_form f.Int t refl r.2
value_is_plain p c (Binary o a b) t h =
    let r = first_holds (judge_operands p c (operands o) a b (judge_value p c a) (judge_value p c b))
    (λ _. Holds (result_form o)) t h in plain_form (result_form o) t (no_object_form o) r.2

printed : (p : Code) (t : Form) (v : Val) → is_object t ≡ false → IsOfForm p t v
    → Comes (Anything {A = List ℕ}) (printed_value v)
printed p f.Int (OfInt n) e i = tt
printed p f.Int (OfBool b) e i = absurd (cc (i.0))
printed p f.Int Null e i = absurd (cc (i.0))
printed p f.Int (Owned t) e i = absurd (cc (i.0))
printed p f.Int (Member n) e i = absurd (cc (i.0))
printed p f.Bool (OfInt n) e i = absurd (cc (i.0))
printed p f.Bool (OfBool true) e i = tt
printed p f.Bool (OfBool false) e i = tt
printed p f.Bool Null e i = absurd (cc (i.0))
printed p f.Bool (Owned t) e i = absurd (cc (i.0))
printed p f.Bool (Member n) e i = absurd (cc (i.0))
printed p (f.Object q k) v e i = absurd (cc e)

print_fits : {W : Type 0} (p : Code) (c d : Context) (here : Where) (at : Spot) (e : Expression) (s : State)
    (n : Notes W) → FieldsHaveMembers p → FitsContext p c s → (t : Form) → judge_value p c e ≡ Holds t
    → prints c at ≡ Holds d
    → KeepsFitting p d (outcome_given (value p s e >>= printed_value) at n (λ bytes. prints_piece here bytes s n))
print_fits p c d here at e s n m z t h k =
    let a = first_holds (group_access c.group io at) (λ _. Holds c) d k in
    then_runs (Anything {A = List ℕ}) p d (value p s e >>= printed_value) at n (λ bytes. prints_piece here bytes s n)
    (then_comes (IsOfForm p t) (Anything {A = List ℕ}) (value p s e) printed_value
    (value_comes p t (value p s e) (values_are_found p c s e t m z h))
    (λ v i. printed p t v (value_is_plain p c e t h) i))
    (λ bytes u. subst (λ (y : Context). FitsContext p y s) (same_context c d a.2) z)

assert_fits : {W : Type 0} (p : Code) (c d : Context) (at : Spot) (e : Expression) (s : State) (n : Notes W)
    → FieldsHaveMembers p → FitsContext p c s → (u : ⊤) → is_value p c f.Bool e ≡ Holds u → Holds c ≡ Holds d
    → KeepsFitting p d (outcome_given (truth_of p s e) at n (λ test. asserts at test s n))
assert_fits p c d at e s n m z u h k = then_runs (Anything {A = Bool}) p d (truth_of p s e) at n
    (λ test. asserts at test s n)
    (truth_comes p (value p s e)
    (values_are_found p c s e f.Bool m z (judged_so f.Bool (judge_value p c e) (expression_spot e) u h).0))
    (λ test i. by_test test)
  where
    by_test : (test : Bool) → KeepsFitting p d (asserts at test s n)
    by_test true = subst (λ (y : Context). FitsContext p y s) (same_context c d k) z
    by_test false = tt

-- ---- `group`

group_fits : (p : Code) (c d : Context) (g : NameAt) (s : State) → FitsContext p c s → judge_group c g ≡ Holds d
    → FitsContext p d (with_store g.name (Some (Here [])) s)
group_fits p c d g s z h =
    let a = first_holds (require (not (is_some (c.local g.name))) rule.DuplicateLocal g.at) _ d h in
    let b = first_holds (declare g c.group) (λ gs. Holds (record c { group = gs })) d a.2 in
    let e = first_holds (require (not (known c.group g.name)) rule.DuplicateLocal g.at)
    (λ _. Holds (with_group g.name group.Exclusive c.group)) b.0 b.1 in
    let same : with_group g.name group.Exclusive c.group ≡ b.0 = same_groups e.2 in
    subst (λ (y : Context). FitsContext p y (with_store g.name (Some (Here [])) s))
    (ap (λ (gs : GroupsKnown). record c { group = gs }) same ∙ same_context (record c { group = b.0 }) d b.2)
    (group_declared p c s g.name z (known_not (known c.group g.name)
    (required (not (known c.group g.name)) rule.DuplicateLocal g.at e.0 e.1)))
  where
    known_not : (b : Bool) → not b ≡ true → b ≡ false
    known_not true h = absurd (cc h)
    known_not false h = refl

    same_groups : {u v : GroupsKnown} → Holds u ≡ Holds v → u ≡ v
    same_groups e = cc e

-- ---- writes

store_slot : (p : Code) (c : Context) (s : State) (t : Form) (e : Expression) (name : Option ℕ) (v : Val)
    (x : ObjectField) → FitsContext p c s → into p c t e ≡ Holds name → IsOfForm p t v → SlotStands p s t x
    → Comes (FitsContext p (with_name_moved name c))
    (write_field s x.object x.part.number v >>= λ y. Fine (without_moved (name_moved x.part.form e) y))
store_slot p c s t e name v x z h i k =
    then_comes (FitsContext p c) (FitsContext p (with_name_moved name c)) (write_field s x.object x.part.number v)
    (λ y. Fine (without_moved (name_moved x.part.form e) y))
    (field_written p c s x.object x.part.number v z k.1 (k.0.2 v i))
    (λ y j. subst
    (λ (u : Form). FitsContext p (with_name_moved name c) (without_moved (name_moved u e) y)) (sym k.0.1)
    (moved_in p c y t e name h j))

store_fits : (law : WalksGoByOwners) (p : Code) (c d : Context) (path : Path) (e : Expression) (s : State)
    → FieldsHaveMembers p → path.steps ≢ [] → FitsContext p c s
    → judge_store p c path e (expression_spot e) ≡ Holds d → Comes (FitsContext p d) (stored p path e s)
store_fits law p c d path e s m n z h =
    let a = first_holds (walk p c path) _ d h in
    let w : Place = a.0 in
    let b = first_holds (owner_write_access p c path) _ d a.2 in
    let r = first_holds (into p c w.form e) _ d b.2 in
    let u = first_holds (require (not (is_moved r.0 path.root.name)) rule.UsedTwice (expression_spot e))
    (λ _. Holds (with_name_moved r.0 c)) d r.2 in
    subst (λ (y : Context). Comes (FitsContext p y) (stored p path e s))
    (same_context (with_name_moved r.0 c) d u.2)
    (then_comes (IsOfForm p w.form) (FitsContext p (with_name_moved r.0 c)) (value p s e) _
    (value_comes p w.form (value p s e) (what_goes_in_fits p c s w.form e r.0 m z r.1))
    (λ v i. then_comes (SlotStands p s w.form) (FitsContext p (with_name_moved r.0 c)) (slot p s path) _
    (slot_comes law p c s path w m z a.1 n)
    (λ x k. store_slot p c s w.form e r.0 v x z r.1 i k)))

-- an array of integers where it stands
abbrev ArrayStands : Code → State → OpenedObject → Type 0
ArrayStands p s o = IsReachedAs p kind.Ints (Fine o) × ObjectStands s o

reach_so : (p : Code) (s : State) (o : Outcome OpenedObject)
    → ((x : OpenedObject) → o ≡ Fine x → ObjectStands s x) → IsReachedAs p kind.Ints o → Comes (ArrayStands p s) o
reach_so p s (Fine x) k h = (h, k x refl)
reach_so p s (Traps code) k h = tt
reach_so p s Lacks k h = absurd h

index_comes : (ns : List ℤ) (n : ℤ) → Comes (Anything {A = ℕ}) (index ns n)
index_comes ns (prelude.pos i) = by_test (prelude.nat_lt i (length ns))
  where
    by_test : (b : Bool) → Comes (Anything {A = ℕ}) (if b then Fine i else Traps 4)
    by_test true = tt
    by_test false = tt
index_comes ns (prelude.negsuc i) = tt

item_written : (p : Code) (c : Context) (s : State) (o : OpenedObject) (t : Tree) (n v : ℤ) → FitsContext p c s
    → o.tree ≡ t → is_of_kind p kind.Ints t ≡ true → ObjectStands s o
    → Comes (FitsContext p c) (numbers t >>= λ ns. index ns n >>= λ k. write_tree s o (Array (prelude.set ns k v)))
item_written p c s o (Object x xs) n v z e k h = absurd (cc k)
item_written p c s o (Array ns) n v z e k h = then_comes (Anything {A = ℕ}) (FitsContext p c) (index ns n)
    (λ k. write_tree s o (Array (prelude.set ns k v))) (index_comes ns n)
    (λ k i. tree_written p c s o (Array (prelude.set ns k v)) z h
    (subst (λ (t : Tree). FitsLike p (Owned t) (Owned (Array (prelude.set ns k v)))) (sym e)
    (array_like p ns (prelude.set ns k v))) tt)

store_at_fits : (p : Code) (c d : Context) (path : Path) (i e : Expression) (s : State) → FieldsHaveMembers p
    → FitsContext p c s → judge_store_at p c path i e ≡ Holds d → Comes (FitsContext p d) (stored_at p path i e s)
store_at_fits p c d path i e s m z h =
    let a = first_holds (walk p c path) _ d h in
    let w : Place = a.0 in
    let b = first_holds (require (is_ints w.form) rule.TypeMismatch path.root.at) _ d a.2 in
    let y = first_holds (write_access c path.root.at w.held) _ d b.2 in
    let r = first_holds (access c path.root.at w.held) (λ _. require (may_change w.held) rule.NeedsUnique path.root.at)
    y.0 y.1 in
    let j = first_holds (is_value p c f.Int i) _ d y.2 in
    let k = first_holds (is_value p c f.Int e) (λ _. Holds c) d j.2 in
    let q = ints_is w.form (required (is_ints w.form) rule.TypeMismatch path.root.at b.0 b.1) in
    subst (λ (y : Context). Comes (FitsContext p y) (stored_at p path i e s)) (same_context c d k.2)
    (then_comes (Anything {A = ℤ}) (FitsContext p c) (number_of p s i) _
    (number_comes p (value p s i)
    (values_are_found p c s i f.Int m z (judged_so f.Int (judge_value p c i) (expression_spot i) j.0 j.1).0))
    (λ n _. then_comes (Anything {A = ℤ}) (FitsContext p c) (number_of p s e) _
    (number_comes p (value p s e)
    (values_are_found p c s e f.Int m z (judged_so f.Int (judge_value p c e) (expression_spot e) k.0 k.1).0))
    (λ v _. then_comes (ArrayStands p s) (FitsContext p c) (reach p s path) _
    (reach_so p s (reach p s path) (reach_stands p s path)
    (objects_are_reached p c s path w q.0 kind.Ints path.root.at m z a.1 q.1 r.1))
    (λ o u. item_written p c s o o.tree n v z refl u.0.1 u.1))))

-- ---- `return`

-- what was returned does not count
result_apart : (p : Code) (d : Context) (s : State) (v : Option Val) → FitsContext p d s
    → FitsContext p d (record s { result = v })
result_apart p d s v z = record {
  form = z.form;
  local = λ y l i h. let r = z.local y l i h in record { bound = r.bound; is = r.is; fits = r.fits };
  group = z.group;
  name = z.name;
  log = z.log;
  log_known = z.log_known;
  unknown = z.unknown;
}

return_fits : (p : Code) (m : Definition) (c d : Context) (e : Expression) (at : Spot) (s : State)
    → FieldsHaveMembers p → FitsContext p c s → judge_return p m c e at ≡ Holds d
    → Comes (FitsContext p d) (returns_value p m e s)
return_fits p m c d e at s w z h =
    let a = first_holds (found m.result rule.TypeMismatch at) _ d h in
    let t : Form = form a.0 in
    let b = first_holds (into p c t e) (λ name. Holds (with_name_moved name c)) d a.2 in
    let moved : result_moved m e ≡ name_moved t e = ap (λ (o : Option Ty). given o [] (λ t. name_moved (form t) e))
    (found_is m.result rule.TypeMismatch at a.0 a.1) in
    subst (λ (y : Context). Comes (FitsContext p y) (returns_value p m e s))
    (same_context (with_name_moved b.0 c) d b.2)
    (then_comes (IsOfForm p t) (FitsContext p (with_name_moved b.0 c)) (value p s e) _
    (value_comes p t (value p s e) (what_goes_in_fits p c s t e b.0 w z b.1))
    (λ v i. result_apart p (with_name_moved b.0 c) (without_moved (result_moved m e) s) (Some v)
    (subst (λ (xs : List ℕ). FitsContext p (with_name_moved b.0 c) (without_moved xs s)) (sym moved)
    (moved_in p c s t e b.0 b.1 z))))

-- ---- statements

-- With each machine a judged statement that has no block and calls no method keeps fitting.
pub statements_fit : WalksGoByOwners → (W : Type 0) → StatementsFitBy W
statements_fit law W m below here at (Declares ty x e) d s n w o k h z =
    rw (one-Declares m below here at ty x e s n)
    (declares_fit law m below here here.context d at ty x e s n w o k z h)
statements_fit law W m below here at (Assigns x e) d s n w o k h z =
    rw (one-Assigns m below here at x e s n) (assigns_fit law m below here d at x e s n w o k z h)
statements_fit law W m below here at (Stores path e) d s n w o k h z =
    rw (one-Stores m below here at path e s n) (does_fit m.code d at n (stored m.code path e s)
    (store_fits law m.code here.context d path e s w k z h))
statements_fit law W m below here at (StoresAt path i e) d s n w o k h z =
    rw (one-StoresAt m below here at path i e s n) (does_fit m.code d at n (stored_at m.code path i e s)
    (store_at_fits m.code here.context d path i e s w z h))
statements_fit law W m below here at (Calls i) d s n w o k h z = absurd (cc o)
statements_fit law W m below here at (Chooses e j b) d s n w o k h z = absurd (cc o)
statements_fit law W m below here at (ChoosesElse e j b l b') d s n w o k h z = absurd (cc o)
statements_fit law W m below here at (Repeats e j b) d s n w o k h z = absurd (cc o)
statements_fit law W m below here at (Groups g) d s n w o k h z =
    rw (one-Groups m below here at g s n) (group_fits m.code here.context d g s z h)
statements_fit law W m below here at (Splits gs j b) d s n w o k h z = absurd (cc o)
statements_fit law W m below here at (Locks g j b) d s n w o k h z = absurd (cc o)
statements_fit law W m below here at (Freezes x) d s n w o k h z =
    rw (one-Freezes m below here at x s n) (does_fit m.code d at n (frozen x.name s)
    (freeze_fits m.code here.context d s x z h))
statements_fit law W m below here at (Shares x g) d s n w o k h z =
    rw (one-Shares m below here at x g s n) (does_fit m.code d at n (shares_into x.name g.name s)
    (share_fits m.code here.context d s x g z h))
statements_fit law W m below here at (Prints e) d s n w o k h z =
    let a = first_holds (judge_value m.code here.context e) (λ _. prints here.context at) d h in
    rw (one-Prints m below here at e s n)
    (print_fits m.code here.context d here at e s n w z a.0 a.1 a.2)
statements_fit law W m below here at (PrintsText text) d s n w o k h z =
    let a = first_holds (group_access here.context.group io at) (λ _. Holds here.context) d h in
    rw (one-PrintsText m below here at text s n)
    (subst (λ (y : Context). FitsContext m.code y s) (same_context here.context d a.2) z)
statements_fit law W m below here at (Asserts e) d s n w o k h z =
    let a = first_holds (is_value m.code here.context f.Bool e) (λ _. Holds here.context) d h in
    rw (one-Asserts m below here at e s n) (assert_fits m.code here.context d at e s n w z a.0 a.1 a.2)
statements_fit law W m below here at (Returns e) d s n w o k h z =
    rw (one-Returns m below here at e s n) (does_fit m.code d at n (returns_value m.code here.method e s)
    (return_fits m.code here.method here.context d e at s w z h))

pub statements_without_calls_fit : WalksGoByOwners → StatementsWithoutCallsFit
statements_without_calls_fit law = (statements_fit law ⊤, statements_fit law (List Seen))
