-- What a walk finds stands where the walk says.
use Rattle.std.proofs.Common.{◌≡◌, refl, sym, ap, ◌∙◌, subst, ℕ, Bool, true, false, List, [], ◌∷◌, ◌++◌, Option, None}
use Rattle.std.proofs.Common.{Some, option_map}
use Rattle.std.specs.Prelude.{slice_get}
use Rattle.std.proofs.lemmas.Option.{same_Some}
use Rattle.ae_tree.specs.declared.tree.NameAt.{NameAt}
use Rattle.ae_tree.specs.declared.tree.Path.{Path}
use Rattle.ae_tree.specs.declared.form.Perm.{Perm}
use Rattle.ae_tree.specs.declared.form.Perm.TheVariants as perm
use Rattle.ae_tree.specs.declared.form.Kind.{Kind}
use Rattle.ae_tree.specs.declared.form.Form.{Form}
use Rattle.ae_tree.specs.declared.form.Form.TheVariants as f
use Rattle.ae_tree.specs.Plain.{Code}
use Rattle.ae_rules.specs.Verdict.{given}
use Rattle.ae_semantics.specs.Values.{Val, OfInt, OfBool, Null, Owned, Member, Tree, Object, Array, Store, is_of_kind}
use Rattle.ae_semantics.specs.Values.{value_fits, value_at}
use Rattle.ae_semantics.specs.Places.{Fine, ◌>>=◌, there, reached, Bound, State, group_of, members}
use Rattle.ae_semantics.specs.Places.{store_of, Base, InGroup, Address, PlaceFound, OpenedObject, opened_if}
use Rattle.ae_semantics.specs.Places.{opened_member, open_value, open_form, open_place, NumberedField, numbered_field}
use Rattle.ae_semantics.specs.Places.{field_value, field_place, met, into_field, step_to, steps, local_place, walk_to}
use Rattle.ae_semantics.specs.Places.{reach}
use Rattle.ae_values.specs.Inside.{value_inside}
use Rattle.ae_stores.specs.Stand.{StandsIn}
use Rattle.ae_stores.proofs.OutcomeLemmas.{fine_first, there_is, reached_is, passed_is, given_first}

-- the place that is found has its value
abbrev pub PlaceStands : State → PlaceFound → Type 0
PlaceStands s x = StandsIn s x.at.base x.at.fields x.value

-- the tree of the object stands where the object is
abbrev pub ObjectStands : State → OpenedObject → Type 0
ObjectStands s o = StandsIn s o.at.base o.at.fields (Owned o.tree)

-- a field of an object inside is one field further inside
inside_further : (fields : List ℕ) (u : Val) (t : Tree) (i : ℕ) (v : Val) → value_inside fields u ≡ Some (Owned t)
    → field_value t i ≡ Some v → value_inside (fields ++ i ∷ []) u ≡ Some v
inside_further [] u (Object c xs) i v e h =
    let same : Owned (Object c xs) ≡ u = sym (same_Some u (Owned (Object c xs)) e) in
    subst (λ (y : Val). value_inside (i ∷ []) y ≡ Some v) same
    (ap (λ (o : Option Val). given o none (value_inside [])) h)
  where
    none : Option Val
    none = None
inside_further [] u (Array ns) i v e h = absurd (cc h)
inside_further (k ∷ is) (OfInt n) t i v e h = absurd (cc e)
inside_further (k ∷ is) (OfBool b) t i v e h = absurd (cc e)
inside_further (k ∷ is) Null t i v e h = absurd (cc e)
inside_further (k ∷ is) (Owned (Object c xs)) t i v e h =
    let w = given_first (value_at xs k) (value_inside is) (Owned t) e in
    ap (λ (o : Option Val). given o none (value_inside (is ++ i ∷ []))) w.1 ∙ inside_further is w.0 t i v w.2 h
  where
    none : Option Val
    none = None
inside_further (k ∷ is) (Owned (Array ns)) t i v e h = absurd (cc e)
inside_further (k ∷ is) (Member n) t i v e h = absurd (cc e)

-- a field stands in the object that stands
field_stands : (s : State) (b : Base) (fields : List ℕ) (t : Tree) (i : ℕ) (v : Val) → StandsIn s b fields (Owned t)
    → field_value t i ≡ Some v → StandsIn s b (fields ++ i ∷ []) v
field_stands s b fields t i v h e = (h.0, h.1, inside_further fields h.0 t i v h.2 e)

-- a step into a field of an object that stands leads to what stands
into_stands : (p : Code) (s : State) (o : OpenedObject) (x : ℕ) (y : PlaceFound) → ObjectStands s o
    → into_field p o x ≡ Fine y → PlaceStands s y
into_stands p s o x y h e =
    let a = fine_first (there (numbered_field p o.kind x))
    (λ (d : NumberedField). there (field_value o.tree d.number) >>= λ v. met p (field_place o d v)) y e in
    let b = fine_first (there (field_value o.tree a.0.number)) (λ v. met p (field_place o a.0 v)) y a.2 in
    let z : PlaceFound = field_place o a.0 b.0 in
    subst (λ (u : PlaceFound). PlaceStands s u) (passed_is (value_fits p z.form z.value) z y b.2)
    (field_stands s o.at.base o.at.fields o.tree a.0.number b.0 h
    (there_is (field_value o.tree a.0.number) b.0 b.1))

-- an object that passes as one that is opened is that object
opened_is : (b : Bool) (o u : OpenedObject) → opened_if b o ≡ Fine u → o ≡ u
opened_is true o u e = cc e
opened_is false o u e = absurd (cc e)

-- a tree that stands is opened where it stands
owned_stands : (p : Code) (s : State) (k : Kind) (at : Address) (t : Tree) (o : OpenedObject)
    → StandsIn s at.base at.fields (Owned t)
    → opened_if (is_of_kind p k t) (record { at = at; kind = k; tree = t }) ≡ Fine o → ObjectStands s o
owned_stands p s k at t o h e = subst (λ (u : OpenedObject). ObjectStands s u)
    (opened_is (is_of_kind p k t) (record { at = at; kind = k; tree = t }) o e) h

-- a reference is opened where its member stands
member_stands : (p : Code) (s : State) (k : Kind) (g n : ℕ) (o : OpenedObject)
    → (store_of s g >>= opened_member p k g n) ≡ Fine o → ObjectStands s o
member_stands p s k g n o e =
    let a = fine_first (store_of s g) (opened_member p k g n) o e in
    let b = fine_first (reached (slice_get a.0 n))
    (λ t. opened_if (is_of_kind p k t) (record { at = record { base = InGroup g n; fields = [] }; kind = k; tree = t }))
    o a.2 in
    owned_stands p s k (record { base = InGroup g n; fields = [] }) b.0 o (
      Owned b.0,
      ap (λ (m : Option Store). given m none (λ st. option_map Owned (slice_get st n)))
          (there_is (members (group_of s g)) a.0 a.1)
          ∙ ap (option_map Owned) (reached_is (slice_get a.0 n) b.0 b.1),
      refl,
    ) b.2
  where
    none : Option Val
    none = None

-- a value that stands is opened where its object stands
value_stands : (p : Code) (s : State) (q : Perm) (k : Kind) (at : Address) (v : Val) (o : OpenedObject)
    → StandsIn s at.base at.fields v → open_value p s q k at v ≡ Fine o → ObjectStands s o
value_stands p s (perm.Shared g) k at (OfInt n) o h e = absurd (cc e)
value_stands p s (perm.Shared g) k at (OfBool b) o h e = absurd (cc e)
value_stands p s (perm.Shared g) k at Null o h e = absurd (cc e)
value_stands p s (perm.Shared g) k at (Owned t) o h e = absurd (cc e)
value_stands p s (perm.Shared g) k at (Member n) o h e = member_stands p s k g n o e
value_stands p s perm.Unique k at (OfInt n) o h e = absurd (cc e)
value_stands p s perm.Unique k at (OfBool b) o h e = absurd (cc e)
value_stands p s perm.Unique k at Null o h e = absurd (cc e)
value_stands p s perm.Unique k at (Owned t) o h e = owned_stands p s k at t o h e
value_stands p s perm.Unique k at (Member n) o h e = absurd (cc e)
value_stands p s perm.Immutable k at (OfInt n) o h e = absurd (cc e)
value_stands p s perm.Immutable k at (OfBool b) o h e = absurd (cc e)
value_stands p s perm.Immutable k at Null o h e = absurd (cc e)
value_stands p s perm.Immutable k at (Owned t) o h e = owned_stands p s k at t o h e
value_stands p s perm.Immutable k at (Member n) o h e = absurd (cc e)
value_stands p s perm.Lent k at (OfInt n) o h e = absurd (cc e)
value_stands p s perm.Lent k at (OfBool b) o h e = absurd (cc e)
value_stands p s perm.Lent k at Null o h e = absurd (cc e)
value_stands p s perm.Lent k at (Owned t) o h e = owned_stands p s k at t o h e
value_stands p s perm.Lent k at (Member n) o h e = absurd (cc e)

-- the same by the value's form
form_stands : (p : Code) (s : State) (at : Address) (t : Form) (v : Val) (o : OpenedObject)
    → StandsIn s at.base at.fields v → open_form p s at t v ≡ Fine o → ObjectStands s o
form_stands p s at f.Int v o h e = absurd (cc e)
form_stands p s at f.Bool v o h e = absurd (cc e)
form_stands p s at (f.Object q k) v o h e = value_stands p s q k at v o h e

-- steps from what stands lead to what stands
steps_stand : (p : Code) (s : State) (xs : List NameAt) (from y : PlaceFound) → PlaceStands s from
    → steps p s xs from ≡ Fine y → PlaceStands s y
steps_stand p s [] from y h e =
    let same : from ≡ y = cc e in subst (λ (u : PlaceFound). PlaceStands s u) same h
steps_stand p s (x ∷ xs) from y h e =
    let a = fine_first (step_to p s x from) (steps p s xs) y e in
    let b = fine_first (open_place p s from) (λ o. into_field p o x.name) a.0 a.1 in
    steps_stand p s xs a.0 y
    (into_stands p s b.0 x.name a.0 (form_stands p s from.at from.form from.value b.0 h b.1) b.2) a.2

-- what a walk finds stands where the walk says
pub walk_stands : (p : Code) (s : State) (path : Path) (y : PlaceFound) → walk_to p s path ≡ Fine y → PlaceStands s y
walk_stands p s path y e =
    let a = fine_first (there (s.locals path.root.name))
    (λ b. steps p s path.steps (local_place path.root.name b)) y e in
    let from : PlaceStands s (local_place path.root.name a.0) =
    (a.0.value, ap (option_map (λ (b : Bound). b.value)) (there_is (s.locals path.root.name) a.0 a.1), refl)
    in steps_stand p s path.steps (local_place path.root.name a.0) y from a.2

-- an object that is reached stands where it was found
pub reach_stands : (p : Code) (s : State) (path : Path) (o : OpenedObject) → reach p s path ≡ Fine o
    → ObjectStands s o
reach_stands p s path o e =
    let a = fine_first (walk_to p s path) (open_place p s) o e in
    form_stands p s a.0.at a.0.form a.0.value o (walk_stands p s path a.0 a.1) a.2
