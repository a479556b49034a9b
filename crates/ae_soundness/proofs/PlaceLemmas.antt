-- A judged walk is found, from a state that fits.
use Rattle.std.proofs.Common.{◌≡◌, refl, sym, subst, ℕ, Bool, true, false}
use Rattle.std.proofs.Common.{List, [], ◌∷◌, Option, None, Some}
use Rattle.std.specs.Prelude.{slice_get, ⊤}
use Rattle.std.specs.List.{list_all}
use Rattle.ae_text.specs.declared.refusal.Spot.{Spot}
use Rattle.ae_text.specs.declared.refusal.Rule.TheVariants as rule
use Rattle.ae_tree.specs.declared.tree.NameAt.{NameAt}
use Rattle.ae_tree.specs.declared.form.Perm.{Perm}
use Rattle.ae_tree.specs.declared.form.Perm.TheVariants as perm
use Rattle.ae_tree.specs.declared.form.Kind.{Kind}
use Rattle.ae_tree.specs.declared.form.Form.{Form}
use Rattle.ae_tree.specs.declared.form.Form.TheVariants as f
use Rattle.ae_tree.specs.Plain.{Code}
use Rattle.ae_rules.specs.declared.held.Held.{Held}
use Rattle.ae_rules.specs.declared.held.Held.TheVariants as held
use Rattle.ae_rules.specs.Verdict.{Holds, fine, found, in_turn}
use Rattle.ae_rules.specs.Groups.{opens}
use Rattle.ae_rules.specs.Lookups.{groups_of, field_of, field_of_kind, is_empty}
use Rattle.ae_rules.specs.Context.{Local, Context, access}
use Rattle.ae_rules.specs.Walks.{Place, held_in_field, step}
use Rattle.ae_semantics.specs.Values.{Val, OfInt, OfBool, Null, Owned, Member, Tree, Store, is_of_kind}
use Rattle.ae_semantics.specs.Places.{Outcome, Fine, Traps, Lacks, ◌>>=◌, there, reached, Bound, State, store_of}
use Rattle.ae_semantics.specs.Places.{InGroup, Address, PlaceFound, OpenedObject, opened_if}
use Rattle.ae_semantics.specs.Places.{opened_member, open_value, open_form, open_place, into_field, step_to, steps}
use Rattle.ae_semantics.specs.Places.{local_place, walk_to}
use Rattle.ae_soundness.specs.Fits.{IsWholeTree, IsOfForm, SameButPermission, FitsPermission, FitsPlace, place_held}
use Rattle.ae_soundness.specs.Fits.{has_value, FitsLocal, has_members, perm_has_members, form_has_members}
use Rattle.ae_soundness.specs.Fits.{HasMembers, FieldsHaveMembers, FitsContext}
use Rattle.ae_soundness.specs.Laws.{IsFoundAs, IsReachedAs, PathsAreFound, ObjectsAreReached}
use Rattle.ae_soundness.proofs.LikeLemmas.{opened_members}
use Rattle.ae_soundness.proofs.FieldLemmas.{fields_are_there}
use Rattle.ae_soundness.proofs.from_rules.PathLemmas.{first_holds}
use Rattle.ae_soundness.proofs.from_rules.SeenLemmas.{found_is, required}
use Rattle.ae_soundness.proofs.from_text.Basics.{first_of_both, second_of_both}

-- ---- objects

opened_known : (p : Code) (k : Kind) (a : Address) (t : Tree) (b : Bool) → is_of_kind p k t ≡ b → IsWholeTree p t
    → IsReachedAs p k (opened_if b (record { at = a; kind = k; tree = t }))
opened_known p k a t true e w = (refl, e, w)
opened_known p k a t false e w = refl

member_known : (p : Code) (k : Kind) (g n : ℕ) (o : Option Tree) → ((t : Tree) → o ≡ Some t → IsWholeTree p t)
    → IsReachedAs p k (reached o >>= λ t. opened_if (is_of_kind p k t)
    (record { at = record { base = InGroup g n; fields = [] }; kind = k; tree = t }))
member_known p k g n None w = refl
member_known p k g n (Some t) w = opened_known p k (record { base = InGroup g n; fields = [] }) t (is_of_kind p k t)
    refl (w t refl)

store_known : (p : Code) (s : State) (k : Kind) (g n : ℕ) → HasMembers p s g
    → IsReachedAs p k (store_of s g >>= opened_member p k g n)
store_known p s k g n h = subst (λ (o : Option Store). IsReachedAs p k (there o >>= opened_member p k g n)) (sym h.is)
    (member_known p k g n (slice_get h.store n) (h.whole n))

-- an object that stands in its place
owned_known : (p : Code) (s : State) (k : Kind) (a : Address) (v : Val) (q : Perm) → IsOfForm p (f.Object q k) v
    → FitsPermission q held.None → IsReachedAs p k (open_value p s q k a v)
owned_known p s k a v (perm.Shared g) i h = absurd (cc)
owned_known p s k a (OfInt n) perm.Unique i h = refl
owned_known p s k a (OfBool b) perm.Unique i h = refl
owned_known p s k a Null perm.Unique i h = refl
owned_known p s k a (Owned t) perm.Unique i h = opened_known p k a t (is_of_kind p k t) refl i.1
owned_known p s k a (Member n) perm.Unique i h = refl
owned_known p s k a (OfInt n) perm.Immutable i h = refl
owned_known p s k a (OfBool b) perm.Immutable i h = refl
owned_known p s k a Null perm.Immutable i h = refl
owned_known p s k a (Owned t) perm.Immutable i h = opened_known p k a t (is_of_kind p k t) refl i.1
owned_known p s k a (Member n) perm.Immutable i h = refl
owned_known p s k a (OfInt n) perm.Lent i h = refl
owned_known p s k a (OfBool b) perm.Lent i h = refl
owned_known p s k a Null perm.Lent i h = refl
owned_known p s k a (Owned t) perm.Lent i h = opened_known p k a t (is_of_kind p k t) refl i.1
owned_known p s k a (Member n) perm.Lent i h = refl

shared_known : (p : Code) (s : State) (k : Kind) (a : Address) (v : Val) (g : ℕ) → HasMembers p s g
    → IsReachedAs p k (open_value p s (perm.Shared g) k a v)
shared_known p s k a (OfInt n) g h = refl
shared_known p s k a (OfBool b) g h = refl
shared_known p s k a Null g h = refl
shared_known p s k a (Owned t) g h = refl
shared_known p s k a (Member n) g h = store_known p s k g n h

-- what is shared of a group may be reached where the group is open
group_open : (c : Context) (at : Spot) (g : ℕ) (h : Held) → h ≡ held.Shared g → access c at h ≡ fine
    → opens c.group g ≡ true
group_open c at g h e a = required (opens c.group g) rule.NeedsGroup at tt
    (subst (λ (x : Held). access c at x ≡ fine) e a)

value_known : (p : Code) (c : Context) (s : State) → FitsContext p c s → (q : Perm) (k : Kind) (h : Held) (v : Val)
    (a : Address) (at : Spot) → FitsPermission q h → form_has_members (f.Object q k) ≡ true
    → IsOfForm p (f.Object q k) v → access c at h ≡ fine → IsReachedAs p k (open_value p s q k a v)
value_known p c s z perm.Unique k h v a at e m i u = owned_known p s k a v perm.Unique i (λ g x. absurd (cc))
value_known p c s z perm.Immutable k h v a at e m i u = owned_known p s k a v perm.Immutable i (λ g x. absurd (cc))
value_known p c s z perm.Lent k h v a at e m i u = owned_known p s k a v perm.Lent i (λ g x. absurd (cc))
value_known p c s z (perm.Shared g) k h v a at e m i u = shared_known p s k a v g
    (opened_members p c s g z (first_of_both (has_members g) (list_all has_members (groups_of k)) m)
    (group_open c at g h e u))

same_kinds : (q r : Perm) (k l : Kind) (t : Form) → t ≡ f.Object q k → SameButPermission t (f.Object r l) → k ≡ l
same_kinds q r k l t e s = subst (λ (x : Form). SameButPermission x (f.Object r l)) e s

no_number : (q : Perm) (k : Kind) (t : Form) → t ≡ f.Object q k → SameButPermission t f.Int → ⊥
no_number q k t e s = subst (λ (x : Form). SameButPermission x f.Int) e s

no_truth : (q : Perm) (k : Kind) (t : Form) → t ≡ f.Object q k → SameButPermission t f.Bool → ⊥
no_truth q k t e s = subst (λ (x : Form). SameButPermission x f.Bool) e s

-- A place that is known to be an object that may be reached has one, or null.
pub object_known : (p : Code) (c : Context) (s : State) → FitsContext p c s → (w : Place) (now : Form) (v : Val)
    → FitsPlace p w now v → (q : Perm) (k : Kind) → w.form ≡ f.Object q k → (a : Address) (at : Spot)
    → access c at w.held ≡ fine → IsReachedAs p k (open_form p s a now v)
object_known p c s z w f.Int v h q k e a at u = absurd (no_number q k w.form e h.form)
object_known p c s z w f.Bool v h q k e a at u = absurd (no_truth q k w.form e h.form)
object_known p c s z w (f.Object r l) v h q k e a at u = subst
    (λ (x : Kind). IsReachedAs p x (open_value p s r l a v)) (sym (same_kinds q r k l w.form e h.form))
    (value_known p c s z r l w.held v a at h.held h.members h.value u)

-- No group of a place's kind is `io`.
pub kind_members : (p : Code) (w : Place) (now : Form) (v : Val) → FitsPlace p w now v → (q : Perm) (k : Kind)
    → w.form ≡ f.Object q k → list_all has_members (groups_of k) ≡ true
kind_members p w f.Int v h q k e = absurd (no_number q k w.form e h.form)
kind_members p w f.Bool v h q k e = absurd (no_truth q k w.form e h.form)
kind_members p w (f.Object r l) v h q k e = subst (λ (x : Kind). list_all has_members (groups_of x) ≡ true)
    (sym (same_kinds q r k l w.form e h.form))
    (second_of_both (perm_has_members r) (list_all has_members (groups_of l)) h.members)

-- ---- steps

-- A form with a field is an object's.
pub object_with : (p : Code) (t : Form) (x : ℕ) (r : Form) → field_of p t x ≡ Some r
    → (q : Perm) × (k : Kind) × (t ≡ f.Object q k) × (field_of_kind p k x ≡ Some r)
object_with p f.Int x r e = absurd (cc)
object_with p f.Bool x r e = absurd (cc)
object_with p (f.Object q k) x r e = (q, k, refl, e)

then_into : (p : Code) → FieldsHaveMembers p → (k : Kind) (x : ℕ) (t : Form) → field_of_kind p k x ≡ Some t
    → list_all has_members (groups_of k) ≡ true → (h : Held) (o : Outcome OpenedObject) → IsReachedAs p k o
    → IsFoundAs p (record { form = t; held = held_in_field h t }) (o >>= λ z. into_field p z x)
then_into p m k x t e g h (Fine o) r =
    let y = fields_are_there p m k x t e g o r h in
    subst (λ (a : Outcome PlaceFound). IsFoundAs p (record { form = t; held = held_in_field h t }) a) (sym y.1) y.2
then_into p m k x t e g h (Traps code) r = r
then_into p m k x t e g h Lacks r = absurd r

-- A step that is judged from a place that fits is found.
pub step_known : (p : Code) (c : Context) (s : State) → FieldsHaveMembers p → FitsContext p c s → (at : Spot)
    (x : NameAt) (w u : Place) (from : PlaceFound) → FitsPlace p w from.form from.value → step p c at x w ≡ Holds u
    → IsFoundAs p u (step_to p s x from)
step_known p c s m z at x w u from h e =
    let a = first_holds (found (field_of p w.form x.name) rule.UnknownField x.at) _ u e in
    let t : Form = a.0 in
    let b = first_holds (access c at w.held) (λ _. Holds (record { form = t; held = held_in_field w.held t })) u a.2 in
    let o = object_with p w.form x.name t (found_is (field_of p w.form x.name) rule.UnknownField x.at t a.1) in
    let same : record { form = t; held = held_in_field w.held t } ≡ u = cc (b.2) in
    subst (λ (y : Place). IsFoundAs p y (step_to p s x from)) same
    (then_into p m o.1 x.name t o.3 (kind_members p w from.form from.value h o.0 o.1 o.2) w.held (open_place p s from)
    (object_known p c s z w from.form from.value h o.0 o.1 o.2 from.at at b.1))

then_steps : (p : Code) (s : State) (w u : Place) (xs : List NameAt) (o : Outcome PlaceFound) → IsFoundAs p w o
    → ((y : PlaceFound) → FitsPlace p w y.form y.value → IsFoundAs p u (steps p s xs y))
    → IsFoundAs p u (o >>= steps p s xs)
then_steps p s w u xs (Fine y) h go = go y h
then_steps p s w u xs (Traps code) h go = h
then_steps p s w u xs Lacks h go = absurd h

-- Steps that are judged from a place that fits are found.
pub steps_known : (p : Code) (c : Context) (s : State) → FieldsHaveMembers p → FitsContext p c s → (at : Spot)
    (xs : List NameAt) (w u : Place) (from : PlaceFound) → FitsPlace p w from.form from.value
    → in_turn (step p c at) xs w ≡ Holds u → IsFoundAs p u (steps p s xs from)
steps_known p c s m z at [] w u from h e =
    let same : w ≡ u = cc e in
    subst (λ (y : Place). FitsPlace p y from.form from.value) same h
steps_known p c s m z at (x ∷ xs) w u from h e =
    let a = first_holds (step p c at x w) (in_turn (step p c at) xs) u e
    in then_steps p s a.0 u xs (step_to p s x from) (step_known p c s m z at x w a.0 from h a.1)
    (λ y k. steps_known p c s m z at xs a.0 u y k a.2)

-- ---- walks

-- What may be reached is there.
pub reached_value : (c : Context) (at : Spot) (t : Form) (h : Held) (u : ⊤) → access c at h ≡ Holds u
    → has_value (record { form = t; held = h }) ≡ true
reached_value c at t held.Unique u e = refl
reached_value c at t (held.Split n) u e = refl
reached_value c at t held.Immutable u e = refl
reached_value c at t held.Lent u e = refl
reached_value c at t (held.Shared g) u e = refl
reached_value c at t (held.Inner g) u e = refl
reached_value c at t held.None u e = absurd (cc)

-- The root of a judged walk has a value, where the walk has a step or its name has one.
pub root_value : (p : Code) (c : Context) (at : Spot) (xs : List NameAt) (w u : Place)
    → in_turn (step p c at) xs w ≡ Holds u → (is_empty xs ≡ true → has_value u ≡ true) → has_value w ≡ true
root_value p c at [] w u e h =
    let same : w ≡ u = cc e in
    subst (λ (y : Place). has_value y ≡ true) (sym same) (h refl)
root_value p c at (x ∷ xs) w u e h =
    let a = first_holds (step p c at x w) (in_turn (step p c at) xs) u e in
    let b = first_holds (found (field_of p w.form x.name) rule.UnknownField x.at) _ a.0 a.1 in
    let d = first_holds (access c at w.held) (λ _. Holds (record { form = b.0; held = held_in_field w.held b.0 })) a.0
    b.2 in
    reached_value c at w.form w.held d.0 d.1

pub paths_are_found : PathsAreFound
paths_are_found p c s path w m z e h =
    let a = first_holds (found (c.local path.root.name) rule.UnknownName path.root.at) _ w e in
    let l : Local = a.0 in
    let visible : c.local path.root.name ≡ Some l = found_is (c.local path.root.name) rule.UnknownName path.root.at l
    a.1 in
    let b : FitsLocal p s path.root.name (place_held l) = z.local path.root.name l visible
    (root_value p c path.root.at path.steps (place_held l) w a.2 h) in
    subst (λ (o : Option Bound). IsFoundAs p w (there o >>= λ y. steps p s path.steps (local_place path.root.name y)))
    (sym b.is)
    (steps_known p c s m z path.root.at path.steps (place_held l) w (local_place path.root.name b.bound) b.fits a.2)

then_open : (p : Code) (c : Context) (s : State) → FitsContext p c s → (w : Place) (q : Perm) (k : Kind)
    → w.form ≡ f.Object q k → (at : Spot) → access c at w.held ≡ fine → (o : Outcome PlaceFound) → IsFoundAs p w o
    → IsReachedAs p k (o >>= open_place p s)
then_open p c s z w q k e at u (Fine x) h = object_known p c s z w x.form x.value h q k e x.at at u
then_open p c s z w q k e at u (Traps code) h = h
then_open p c s z w q k e at u Lacks h = absurd h

pub objects_are_reached : ObjectsAreReached
objects_are_reached p c s path w q k at m z e t u = then_open p c s z w q k t at u (walk_to p s path)
    (paths_are_found p c s path w m z e (λ n. reached_value c at w.form w.held tt u))
