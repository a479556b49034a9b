-- From states that agree on what a judged right side uses it goes to a local alike.
use Rattle.std.proofs.Common.{◌≡◌, ◌⊎◌, refl, sym, ap, ◌∙◌, subst, ℕ, nat_eq, Bool, true, not, length, List, map, zip}
use Rattle.std.proofs.Common.{Option, Some}
use Rattle.std.proofs.lemmas.List.{length-map}
use Rattle.std.specs.Prelude.{⊤}
use Rattle.std.proofs.lemmas.Bool.{eqb-true}
use Rattle.ae_text.specs.declared.refusal.Spot.{Spot}
use Rattle.ae_text.specs.declared.refusal.Rule.TheVariants as rule
use Rattle.ae_tree.specs.declared.tree.NameAt.{NameAt}
use Rattle.ae_tree.specs.declared.tree.Path.{Path}
use Rattle.ae_tree.specs.declared.tree.Class.{Class}
use Rattle.ae_tree.specs.declared.form.Form.{Form}
use Rattle.ae_tree.specs.declared.form.Form.TheVariants as f
use Rattle.ae_tree.specs.Form.{bare_names}
use Rattle.ae_tree.specs.Plain.{Code, Expression, RightSide, Value, Taken, Zeros, Made, Returned}
use Rattle.ae_rules.specs.declared.uses.Resource.{Resource}
use Rattle.ae_rules.specs.declared.uses.Resource.TheVariants as resource
use Rattle.ae_rules.specs.Verdict.{Holds, require, found, in_turn}
use Rattle.ae_rules.specs.Forms.{is_object, is_unique}
use Rattle.ae_rules.specs.Lookups.{class_called, field_form}
use Rattle.ae_rules.specs.Types.{groups_fit}
use Rattle.ae_rules.specs.Groups.{known}
use Rattle.ae_rules.specs.Context.{Context, with_name_moved, access, may_change}
use Rattle.ae_rules.specs.Walks.{walk, owner, owner_write_access}
use Rattle.ae_rules.specs.Expressions.{is_value}
use Rattle.ae_rules.specs.Into.{into}
use Rattle.ae_rules.specs.Calls.{no_roots, Filled, fills, judge_new}
use Rattle.ae_rules.specs.Statements.{judge_take, judge_right}
use Rattle.ae_rules.specs.Paths.{is_call}
use Rattle.ae_rules.specs.Uses.{of_each, into_uses, write_uses, right_uses}
use Rattle.ae_semantics.specs.Values.{Val, Null, Owned, Object, values}
use Rattle.ae_semantics.specs.Places.{Outcome, Fine, ◌>>=◌, there, State, field_value, met, field_place, bind}
use Rattle.ae_semantics.specs.Places.{write_field, ObjectField, slot}
use Rattle.ae_semantics.specs.Expressions.{number, value, number_of}
use Rattle.ae_semantics.specs.Observations.{Notes}
use Rattle.ae_semantics.specs.Runs.{outcome_given, Where, Machine, Below}
use Rattle.ae_semantics.specs.Calls.{without_moved}
use Rattle.ae_semantics.specs.Meaning.{each_value, zeros, take_from, made, right_moved, assigned, sets}
use Rattle.ae_needs.specs.Agree.{Agree, GoAlike}
use Rattle.ae_needs.proofs.AgreeLemmas.{AllIn, in_there, moved_keeps}
use Rattle.ae_needs.proofs.AlikeLemmas.{Alike, then_alike, from_one, from_same, outcome_alike, does_alike}
use Rattle.ae_needs.proofs.WalkLemmas.{ReachesAlike, written_alike, slot_same, slot_on, StandsOn}
use Rattle.ae_needs.proofs.ValueLemmas.{Known, form_alike, into_alike, fillings_alike}
use Rattle.ae_needs.proofs.WriteLemmas.{bind_alike, write_alike}
use Rattle.ae_needs.proofs.from_rules.PathLemmas.{first_holds}
use Rattle.ae_needs.proofs.from_rules.SeenLemmas.{found_is, required}

-- the same value, and states that agree
abbrev pub PairAlike : (Resource → Bool) → Val × State → Val × State → Type 0
PairAlike on r q = (r.0 ≡ q.0) × Agree on r.1 q.1

-- The object that has the last field of a path, which may be changed, is the same.
pub owner_alike : (on : Resource → Bool) (p : Code) (c : Context) (s t : State) → Known on p c s t → (path : Path)
    (u : ⊤) → owner_write_access p c path ≡ Holds u → AllIn on (write_uses p c (owner path))
    → ReachesAlike on p s t (owner path)
owner_alike on p c s t k path u h i =
    let a = first_holds (walk p c (owner path)) _ u h in
    let b = first_holds (access c path.root.at a.0.held)
    (λ _. require (may_change a.0.held) rule.NeedsUnique path.root.at) u a.2 in
    written_alike on p c s t (owner path) a.0 path.root.at b.0 k.fits k.agree a.1 b.1 i

taken_alike : (on : Resource → Bool) (p : Code) (s t : State) (x : ObjectField) → Agree on s t
    → StandsOn on x.object.at.base → Alike (PairAlike on) (take_from p s x) (take_from p t x)
taken_alike on p s t x a i = from_one (PairAlike on) (there (field_value x.object.tree x.part.number))
    (λ v. met p (field_place x.object x.part v) >>= λ place. write_field s x.object x.part.number Null
    >>= λ y. Fine (place.value, y))
    (λ v. met p (field_place x.object x.part v) >>= λ place. write_field t x.object x.part.number Null
    >>= λ y. Fine (place.value, y))
    (λ v e. from_one (PairAlike on) (met p (field_place x.object x.part v))
    (λ place. write_field s x.object x.part.number Null >>= λ y. Fine (place.value, y))
    (λ place. write_field t x.object x.part.number Null >>= λ y. Fine (place.value, y))
    (λ place d. then_alike (Agree on) (PairAlike on) (write_field s x.object x.part.number Null)
    (write_field t x.object x.part.number Null) (λ y. Fine (place.value, y)) (λ y. Fine (place.value, y))
    (write_alike on s t x.object.at.base _ Null i a) (λ y z j. (refl, j))))

new_alike : (on : Resource → Bool) (p : Code) (c d : Context) (s t : State) → Known on p c s t → (w : Form)
    (x : NameAt) (gs : List NameAt) (es : List Expression) (at : Spot) → judge_right p c w (Made x gs es at) ≡ Holds d
    → AllIn on (right_uses p c w (Made x gs es at))
    → Alike (PairAlike on) (made p (Made x gs es at) s) (made p (Made x gs es at) t)
new_alike on p c d s t k w x gs es at h i =
    let a = first_holds (judge_new p c x gs es) _ d h in
    let y = first_holds (found (class_called p x.name) rule.UnknownClass x.at) _ a.0 a.1 in
    let l : Class = y.0 in
    let g = first_holds (groups_fit (known c.group) (length l.groups) x.at gs) _ a.0 y.2 in
    let n = first_holds (require (nat_eq (length es) (length l.fields)) rule.ArgumentCount x.at) _ a.0 g.2 in
    let ws : List Form = map (field_form l (bare_names gs)) l.fields in
    let first : Filled = record { roots = no_roots; after = c } in
    let r = first_holds (in_turn (fills p c) (zip ws es) first) _ a.0 n.2 in
    let is : class_called p x.name ≡ Some l = found_is (class_called p x.name) rule.UnknownClass x.at l y.1 in
    let many : length es ≡ length ws = eqb-true (length es) (length l.fields)
    (required (nat_eq (length es) (length l.fields)) rule.ArgumentCount x.at n.0 n.1)
    ∙ sym (length-map l.fields (field_form l (bare_names gs))) in
    from_same (PairAlike on) (each_value p s es) (each_value p t es)
    (λ vs. Fine (Owned (Object x.name (values vs)), s)) (λ vs. Fine (Owned (Object x.name (values vs)), t))
    (fillings_alike on p c s t k ws es first r.0 many r.1
    (in_there on (class_called p x.name) (λ (z : Class). of_each (λ (y : Form × Expression). into_uses p c y.0 y.1)
    (zip (map (field_form z (bare_names gs)) z.fields) es)) l is i))
    (λ vs e. (refl, k.agree))

-- A judged right side that is no call comes to the same value, and the states agree as before.
pub right_alike : (on : Resource → Bool) (p : Code) (c d : Context) (s t : State) → Known on p c s t → (w : Form)
    (e : RightSide) → not (is_call e) ≡ true → judge_right p c w e ≡ Holds d → AllIn on (right_uses p c w e)
    → Alike (PairAlike on) (made p e s) (made p e t)
right_alike on p c d s t k w (Value e) o h i =
    let a = first_holds (into p c w e) (λ name. Holds (with_name_moved name c)) d h in
    from_same (PairAlike on) (value p s e) (value p t e) (λ v. Fine (v, s)) (λ v. Fine (v, t))
    (into_alike on p c s t k w e a.0 a.1 i) (λ v z. (refl, k.agree))
right_alike on p c d s t k w (Taken path at) o h i =
    let a = first_holds (judge_take p c path at) _ d h in
    let b = first_holds (walk p c path) _ a.0 a.1 in
    let y = first_holds (require (is_object b.0.form) rule.TypeMismatch at) _ a.0 b.2 in
    let q = first_holds (require (is_unique b.0.form) rule.NeedsUnique at) _ a.0 y.2 in
    let g = first_holds (owner_write_access p c path) (λ _. Holds b.0.form) a.0 q.2 in
    let r : ReachesAlike on p s t (owner path) = owner_alike on p c s t k path g.0 g.1 i in
    from_same (PairAlike on) (slot p s path) (slot p t path) (take_from p s) (take_from p t)
    (slot_same on p s t path r) (λ x z. taken_alike on p s t x k.agree (slot_on on p s t path r x z))
right_alike on p c d s t k w (Zeros e at) o h i =
    let a = first_holds (is_value p c f.Int e) _ d h in
    from_same (PairAlike on) (number_of p s e) (number_of p t e) (λ n. zeros n >>= λ v. Fine (v, s))
    (λ n. zeros n >>= λ v. Fine (v, t))
    (ap (λ (y : Outcome Val). y >>= number) (form_alike on p c s t k e f.Int a.0 a.1 i))
    (λ n z. from_one (PairAlike on) (zeros n) (λ v. Fine (v, s)) (λ v. Fine (v, t)) (λ v y. (refl, k.agree)))
right_alike on p c d s t k w (Made x gs es at) o h i = new_alike on p c d s t k w x gs es at h i
right_alike on p c d s t k w (Returned j) o h i = absurd (cc o)

-- ---- to a local

-- what both agree on then is what they did, and the local
abbrev pub IsMore : (Resource → Bool) → (Resource → Bool) → ℕ → Type 0
IsMore on more x = (r : Resource) → more r ≡ true → (on r ≡ true) ⊎ (r ≡ resource.Local x)

-- A local gets the same value in both.
pub assigned_alike : {W : Type 0} (on more : Resource → Bool) (at : Spot) (x : ℕ) (w : Form) (v : Val) (s t : State)
    (n k : Notes W) → IsMore on more x → Agree on s t
    → GoAlike (Agree more) n k (assigned at x w v s n) (assigned at x w v t k)
assigned_alike on more at x w v s t n k h a = does_alike (Agree more) (bind x w v s) (bind x w v t) at n k
    (bind_alike on more x w v s t h a)

made_alike : {W : Type 0} (on more : Resource → Bool) (p : Code) (at : Spot) (x : ℕ) (w : Form) (e : RightSide)
    (s t : State) (n k : Notes W) → IsMore on more x → Alike (PairAlike on) (made p e s) (made p e t)
    → GoAlike (Agree more) n k
    (outcome_given (made p e s) at n (λ r. assigned at x w r.0 (without_moved (right_moved p w e) r.1) n))
    (outcome_given (made p e t) at k (λ r. assigned at x w r.0 (without_moved (right_moved p w e) r.1) k))
made_alike on more p at x w e s t n k h i = outcome_alike (PairAlike on) (Agree more) (made p e s) (made p e t) at n k
    (λ r. assigned at x w r.0 (without_moved (right_moved p w e) r.1) n)
    (λ r. assigned at x w r.0 (without_moved (right_moved p w e) r.1) k) i
    (λ r q j. subst (λ (v : Val). GoAlike (Agree more) n k
    (assigned at x w r.0 (without_moved (right_moved p w e) r.1) n)
    (assigned at x w v (without_moved (right_moved p w e) q.1) k)) j.0
    (assigned_alike on more at x w r.0 (without_moved (right_moved p w e) r.1)
    (without_moved (right_moved p w e) q.1) n k h (moved_keeps on (right_moved p w e) r.1 q.1 j.1)))

-- A judged right side that is no call goes to a local alike.
pub set_alike : {W : Type 0} (on more : Resource → Bool) (m : Machine W) (below : Option (Below W)) (here : Where)
    (c d : Context) (at : Spot) (x : ℕ) (w : Form) (e : RightSide) (s t : State) (n k : Notes W)
    → Known on m.code c s t → not (is_call e) ≡ true → judge_right m.code c w e ≡ Holds d
    → AllIn on (right_uses m.code c w e) → IsMore on more x
    → GoAlike (Agree more) n k (sets m below here at x w e s n) (sets m below here at x w e t k)
set_alike on more m below here c d at x w (Value e) s t n k z o h i j =
    made_alike on more m.code at x w (Value e) s t n k j (right_alike on m.code c d s t z w (Value e) o h i)
set_alike on more m below here c d at x w (Taken path y) s t n k z o h i j =
    made_alike on more m.code at x w (Taken path y) s t n k j
    (right_alike on m.code c d s t z w (Taken path y) o h i)
set_alike on more m below here c d at x w (Zeros e y) s t n k z o h i j =
    made_alike on more m.code at x w (Zeros e y) s t n k j (right_alike on m.code c d s t z w (Zeros e y) o h i)
set_alike on more m below here c d at x w (Made y gs es q) s t n k z o h i j =
    made_alike on more m.code at x w (Made y gs es q) s t n k j
    (right_alike on m.code c d s t z w (Made y gs es q) o h i)
set_alike on more m below here c d at x w (Returned y) s t n k z o h i j = absurd (cc o)
