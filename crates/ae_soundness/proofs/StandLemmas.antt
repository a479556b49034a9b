-- What a walk finds stands where the walk says, in each state.
use Rattle.std.proofs.Common.{◌≡◌, refl, sym, ap, ◌∙◌, subst, ℕ, Bool, true, false, if◌then◌else◌, List, [], ◌∷◌, ◌++◌}
use Rattle.std.proofs.Common.{Option, None, Some}
use Rattle.std.specs.Prelude.{slice_get}
use Rattle.std.proofs.lemmas.Option.{same_Some}
use Rattle.ae_tree.specs.declared.tree.NameAt.{NameAt}
use Rattle.ae_tree.specs.declared.tree.Path.{Path}
use Rattle.ae_tree.specs.declared.form.Perm.{Perm}
use Rattle.ae_tree.specs.declared.form.Perm.TheVariants as perm
use Rattle.ae_tree.specs.declared.form.Kind.{Kind}
use Rattle.ae_tree.specs.declared.form.Form.{Form}
use Rattle.ae_tree.specs.declared.form.Form.TheVariants as f
use Rattle.ae_tree.specs.Plain.{Code}
use Rattle.ae_rules.specs.Verdict.{given}
use Rattle.ae_rules.specs.Walks.{owner}
use Rattle.ae_semantics.specs.Values.{Val, OfInt, OfBool, Null, Owned, Member, Tree, Object, Array, Store, is_of_kind}
use Rattle.ae_semantics.specs.Values.{value_fits, value_at}
use Rattle.ae_semantics.specs.Places.{Outcome, Fine, Traps, Lacks, ◌>>=◌, there, reached, Bound, State, group_of}
use Rattle.ae_semantics.specs.Places.{members, store_of, Base, InLocal, InGroup, Address, PlaceFound, OpenedObject}
use Rattle.ae_semantics.specs.Places.{opened_if, opened_member, open_value, open_form, open_place, NumberedField}
use Rattle.ae_semantics.specs.Places.{numbered_field, field_value, field_place, met, into_field, step_to, steps}
use Rattle.ae_semantics.specs.Places.{local_place, walk_to, reach, last_item, ObjectField, slot_in, slot}
use Rattle.ae_soundness.proofs.FieldLemmas.{given_some}

-- ---- outcomes

-- What comes of two comes of the first.
pub fine_first : {A B : Type 0} (o : Outcome A) (next : A → Outcome B) (y : B) → (o >>= next) ≡ Fine y
    → (x : A) × (o ≡ Fine x) × (next x ≡ Fine y)
fine_first (Fine x) next y e = (x, refl, e)
fine_first (Traps code) next y e = absurd (cc e)
fine_first Lacks next y e = absurd (cc e)

-- What is there was found.
pub there_is : {A : Type 0} (o : Option A) (x : A) → there o ≡ Fine x → o ≡ Some x
there_is None x e = absurd (cc e)
there_is (Some y) x e = cc e

reached_is : {A : Type 0} (o : Option A) (x : A) → reached o ≡ Fine x → o ≡ Some x
reached_is None x e = absurd (cc e)
reached_is (Some y) x e = cc e

-- ---- what stands at an address

-- the value in a value to which these fields lead
abbrev pub inside_at : List ℕ → Val → Option Val
inside_at [] v = Some v
inside_at (i ∷ is) (OfInt n) = None
inside_at (i ∷ is) (OfBool b) = None
inside_at (i ∷ is) Null = None
inside_at (i ∷ is) (Owned (Object c xs)) = given (value_at xs i) None (inside_at is)
inside_at (i ∷ is) (Owned (Array ns)) = None
inside_at (i ∷ is) (Member n) = None

-- the value stands there
abbrev pub StandsIn : State → Base → List ℕ → Val → Type 0
StandsIn s (InLocal x) fields v = (b : Bound) × (s.locals x ≡ Some b) × (inside_at fields b.value ≡ Some v)
StandsIn s (InGroup g n) fields v = (st : Store) × (members (group_of s g) ≡ Some st) × (t : Tree)
    × (slice_get st n ≡ Some t) × (inside_at fields (Owned t) ≡ Some v)

-- the value stands at the address
abbrev pub Stands : State → Address → Val → Type 0
Stands s a v = StandsIn s a.base a.fields v

-- the tree of the object stands where the object is
abbrev pub ObjectStands : State → OpenedObject → Type 0
ObjectStands s o = Stands s o.at (Owned o.tree)

inside_further : (fields : List ℕ) (u : Val) (t : Tree) (i : ℕ) (v : Val) → inside_at fields u ≡ Some (Owned t)
    → field_value t i ≡ Some v → inside_at (fields ++ i ∷ []) u ≡ Some v
inside_further [] u (Object c xs) i v e h =
    let same : Owned (Object c xs) ≡ u = sym (same_Some u (Owned (Object c xs)) e) in
    subst (λ (y : Val). inside_at (i ∷ []) y ≡ Some v) same
    (ap (λ (o : Option Val). given o none (inside_at [])) h)
  where
    none : Option Val
    none = None
inside_further [] u (Array ns) i v e h = absurd (cc h)
inside_further (k ∷ is) (OfInt n) t i v e h = absurd (cc e)
inside_further (k ∷ is) (OfBool b) t i v e h = absurd (cc e)
inside_further (k ∷ is) Null t i v e h = absurd (cc e)
inside_further (k ∷ is) (Owned (Object c xs)) t i v e h =
    let w = given_some (value_at xs k) (inside_at is) (Owned t) e in
    ap (λ (o : Option Val). given o none (inside_at (is ++ i ∷ []))) w.1 ∙ inside_further is w.0 t i v w.2 h
  where
    none : Option Val
    none = None
inside_further (k ∷ is) (Owned (Array ns)) t i v e h = absurd (cc e)
inside_further (k ∷ is) (Member n) t i v e h = absurd (cc e)

field_stands : (s : State) (b : Base) (fields : List ℕ) (t : Tree) (i : ℕ) (v : Val) → StandsIn s b fields (Owned t)
    → field_value t i ≡ Some v → StandsIn s b (fields ++ i ∷ []) v
field_stands s (InLocal x) fields t i v h e = (h.0, h.1, inside_further fields h.0.value t i v h.2 e)
field_stands s (InGroup g n) fields t i v h e =
    (h.0, h.1, h.2, h.3, inside_further fields (Owned h.2) t i v h.4 e)

-- ---- steps

-- What is met is the place itself.
pub met_is : (p : Code) (x y : PlaceFound) (b : Bool) → (if b then Fine x else Traps 3) ≡ Fine y → x ≡ y
met_is p x y true e = cc e
met_is p x y false e = absurd (cc e)

-- What is opened is the object itself.
pub opened_is : (b : Bool) (o u : OpenedObject) → opened_if b o ≡ Fine u → o ≡ u
opened_is true o u e = cc e
opened_is false o u e = absurd (cc e)

-- the place that is found has its value
abbrev PlaceStands : State → PlaceFound → Type 0
PlaceStands s x = Stands s x.at x.value

into_stands : (p : Code) (s : State) (o : OpenedObject) (x : ℕ) (y : PlaceFound) → ObjectStands s o
    → into_field p o x ≡ Fine y → PlaceStands s y
into_stands p s o x y h e =
    let a = fine_first (there (numbered_field p o.kind x))
    (λ (d : NumberedField). there (field_value o.tree d.number) >>= λ v. met p (field_place o d v)) y e in
    let b = fine_first (there (field_value o.tree a.0.number)) (λ v. met p (field_place o a.0 v)) y a.2 in
    let z : PlaceFound = field_place o a.0 b.0 in
    subst (λ (u : PlaceFound). PlaceStands s u) (met_is p z y (value_fits p z.form z.value) b.2)
    (field_stands s o.at.base o.at.fields o.tree a.0.number b.0 h
    (there_is (field_value o.tree a.0.number) b.0 b.1))

owned_stands : (p : Code) (s : State) (k : Kind) (at : Address) (t : Tree) (o : OpenedObject) → Stands s at (Owned t)
    → opened_if (is_of_kind p k t) (record { at = at; kind = k; tree = t }) ≡ Fine o → ObjectStands s o
owned_stands p s k at t o h e = subst (λ (u : OpenedObject). ObjectStands s u)
    (opened_is (is_of_kind p k t) (record { at = at; kind = k; tree = t }) o e) h

member_stands : (p : Code) (s : State) (k : Kind) (g n : ℕ) (o : OpenedObject)
    → (store_of s g >>= opened_member p k g n) ≡ Fine o → ObjectStands s o
member_stands p s k g n o e =
    let a = fine_first (store_of s g) (opened_member p k g n) o e in
    let b = fine_first (reached (slice_get a.0 n))
    (λ t. opened_if (is_of_kind p k t) (record { at = record { base = InGroup g n; fields = [] }; kind = k; tree = t }))
    o a.2 in
    owned_stands p s k (record { base = InGroup g n; fields = [] }) b.0 o
    (a.0, there_is (members (group_of s g)) a.0 a.1, b.0, reached_is (slice_get a.0 n) b.0 b.1, refl) b.2

value_stands : (p : Code) (s : State) (q : Perm) (k : Kind) (at : Address) (v : Val) (o : OpenedObject)
    → Stands s at v → open_value p s q k at v ≡ Fine o → ObjectStands s o
value_stands p s (perm.Shared g) k at (OfInt n) o h e = absurd (cc e)
value_stands p s (perm.Shared g) k at (OfBool b) o h e = absurd (cc e)
value_stands p s (perm.Shared g) k at Null o h e = absurd (cc e)
value_stands p s (perm.Shared g) k at (Owned t) o h e = absurd (cc e)
value_stands p s (perm.Shared g) k at (Member n) o h e = member_stands p s k g n o e
value_stands p s perm.Unique k at (OfInt n) o h e = absurd (cc e)
value_stands p s perm.Unique k at (OfBool b) o h e = absurd (cc e)
value_stands p s perm.Unique k at Null o h e = absurd (cc e)
value_stands p s perm.Unique k at (Owned t) o h e = owned_stands p s k at t o h e
value_stands p s perm.Unique k at (Member n) o h e = absurd (cc e)
value_stands p s perm.Immutable k at (OfInt n) o h e = absurd (cc e)
value_stands p s perm.Immutable k at (OfBool b) o h e = absurd (cc e)
value_stands p s perm.Immutable k at Null o h e = absurd (cc e)
value_stands p s perm.Immutable k at (Owned t) o h e = owned_stands p s k at t o h e
value_stands p s perm.Immutable k at (Member n) o h e = absurd (cc e)
value_stands p s perm.Lent k at (OfInt n) o h e = absurd (cc e)
value_stands p s perm.Lent k at (OfBool b) o h e = absurd (cc e)
value_stands p s perm.Lent k at Null o h e = absurd (cc e)
value_stands p s perm.Lent k at (Owned t) o h e = owned_stands p s k at t o h e
value_stands p s perm.Lent k at (Member n) o h e = absurd (cc e)

form_stands : (p : Code) (s : State) (at : Address) (t : Form) (v : Val) (o : OpenedObject) → Stands s at v
    → open_form p s at t v ≡ Fine o → ObjectStands s o
form_stands p s at f.Int v o h e = absurd (cc e)
form_stands p s at f.Bool v o h e = absurd (cc e)
form_stands p s at (f.Object q k) v o h e = value_stands p s q k at v o h e

steps_stand : (p : Code) (s : State) (xs : List NameAt) (from y : PlaceFound) → PlaceStands s from
    → steps p s xs from ≡ Fine y → PlaceStands s y
steps_stand p s [] from y h e =
    let same : from ≡ y = cc e in subst (λ (u : PlaceFound). PlaceStands s u) same h
steps_stand p s (x ∷ xs) from y h e =
    let a = fine_first (step_to p s x from) (steps p s xs) y e in
    let b = fine_first (open_place p s from) (λ o. into_field p o x.name) a.0 a.1 in
    steps_stand p s xs a.0 y
    (into_stands p s b.0 x.name a.0 (form_stands p s from.at from.form from.value b.0 h b.1) b.2) a.2

-- ---- walks

walk_stands : (p : Code) (s : State) (path : Path) (y : PlaceFound) → walk_to p s path ≡ Fine y → PlaceStands s y
walk_stands p s path y e =
    let a = fine_first (there (s.locals path.root.name))
    (λ b. steps p s path.steps (local_place path.root.name b)) y e in
    let from : PlaceStands s (local_place path.root.name a.0) = (a.0, there_is (s.locals path.root.name) a.0 a.1, refl)
    in steps_stand p s path.steps (local_place path.root.name a.0) y from a.2

-- An object that is reached stands where it was found.
pub reach_stands : (p : Code) (s : State) (path : Path) (o : OpenedObject) → reach p s path ≡ Fine o
    → ObjectStands s o
reach_stands p s path o e =
    let a = fine_first (walk_to p s path) (open_place p s) o e in
    form_stands p s a.0.at a.0.form a.0.value o (walk_stands p s path a.0 a.1) a.2

-- An object with a field that is to be written stands where it was found.
pub slot_stands : (p : Code) (s : State) (path : Path) (x : ObjectField) → slot p s path ≡ Fine x
    → ObjectStands s x.object
slot_stands p s path x e =
    let a = fine_first (there (last_item path.steps)) (λ y. reach p s (owner path) >>= λ o. slot_in p o y) x e in
    let b = fine_first (reach p s (owner path)) (λ o. slot_in p o a.0) x a.2 in
    let d = fine_first (there (numbered_field p b.0.kind a.0.name))
    (λ d. Fine (record { object = b.0; part = d })) x b.2 in
    let same : record { object = b.0; part = d.0 } ≡ x = cc (d.2) in
    subst (λ (u : ObjectField). ObjectStands s u.object) same (reach_stands p s (owner path) b.0 b.1)
