-- From states that agree on what a judged walk uses it leads to the same place, which stands in what they agree on.
use Rattle.std.proofs.Common.{◌≡◌, refl, sym, ap, ◌∙◌, subst, ℕ, Bool, true, false, List, [], ◌∷◌, Option, Some}
use Rattle.std.specs.Prelude.{slice_get, ⊤}
use Rattle.ae_text.specs.declared.refusal.Spot.{Spot}
use Rattle.ae_text.specs.declared.refusal.Rule.TheVariants as rule
use Rattle.ae_tree.specs.declared.tree.NameAt.{NameAt}
use Rattle.ae_tree.specs.declared.tree.Path.{Path}
use Rattle.ae_tree.specs.declared.form.Perm.TheVariants as perm
use Rattle.ae_tree.specs.declared.form.Kind.{Kind}
use Rattle.ae_tree.specs.declared.form.Form.{Form}
use Rattle.ae_tree.specs.declared.form.Form.TheVariants as f
use Rattle.ae_tree.specs.Plain.{Code}
use Rattle.ae_rules.specs.declared.held.Held.{Held}
use Rattle.ae_rules.specs.declared.held.Held.TheVariants as held
use Rattle.ae_rules.specs.declared.uses.Resource.{Resource}
use Rattle.ae_rules.specs.declared.uses.Resource.TheVariants as resource
use Rattle.ae_rules.specs.declared.uses.Mode.TheVariants as mode
use Rattle.ae_rules.specs.Edges.{Uses}
use Rattle.ae_rules.specs.Verdict.{Holds, found, in_turn}
use Rattle.ae_rules.specs.Lookups.{field_of, field_of_kind}
use Rattle.ae_rules.specs.Context.{Local, Context, access}
use Rattle.ae_rules.specs.Walks.{Place, step, walk, owner}
use Rattle.ae_rules.specs.Uses.{reach_use, of_judged, steps_use, walk_uses, end_uses, root_written}
use Rattle.ae_rules.specs.Uses.{write_uses}
use Rattle.ae_semantics.specs.Values.{Val, Owned, Member, value_fits, is_of_kind}
use Rattle.ae_semantics.specs.Places.{Outcome, Fine, ◌>>=◌, there, reached, Bound, State, store_of, Base, InLocal}
use Rattle.ae_semantics.specs.Places.{InGroup, Address, PlaceFound, OpenedObject, opened_if, opened_member, open_form}
use Rattle.ae_semantics.specs.Places.{open_place, NumberedField, numbered_field, field_value, field_place, met}
use Rattle.ae_semantics.specs.Places.{into_field, step_to, steps, local_place, walk_to, reach, last_item, ObjectField}
use Rattle.ae_semantics.specs.Places.{slot_in, slot}
use Rattle.ae_soundness.specs.Fits.{SameButPermission, FitsHeld, FitsPlace, place_held, has_value, FitsContext}
use Rattle.ae_needs.specs.Agree.{Agree}
use Rattle.ae_needs.proofs.AgreeLemmas.{AllIn, in_left, in_right, in_held, in_there, in_local, in_group, same_on}
use Rattle.ae_needs.proofs.from_rules.PathLemmas.{first_holds}
use Rattle.ae_needs.proofs.from_rules.SeenLemmas.{found_is}
use Rattle.ae_needs.proofs.from_semantics.Walked.{Fit, opens_same, fit_step, bind_same, steps_same}
use Rattle.ae_needs.proofs.from_soundness.StandLemmas.{fine_first, met_is, opened_is}
use Rattle.ae_needs.proofs.from_soundness.PlaceLemmas.{reached_value, root_value}

-- ---- forms

same_fields : (p : Code) (t now : Form) (n : ℕ) → SameButPermission t now → field_of p now n ≡ field_of p t n
same_fields p f.Int f.Int n h = refl
same_fields p f.Int f.Bool n h = absurd h
same_fields p f.Int (f.Object q k) n h = absurd h
same_fields p f.Bool f.Int n h = absurd h
same_fields p f.Bool f.Bool n h = refl
same_fields p f.Bool (f.Object q k) n h = absurd h
same_fields p (f.Object q k) f.Int n h = absurd h
same_fields p (f.Object q k) f.Bool n h = absurd h
same_fields p (f.Object q k) (f.Object r l) n h = ap (λ (y : Kind). field_of_kind p y n) (sym h)

-- what fits a place has its fields, and is shared where the place is held so
place_fit : (p : Code) (w : Place) (now : Form) (v : Val) → FitsPlace p w now v → Fit p now w
place_fit p w now v z = record {
  field = λ n. same_fields p w.form now n z.form;
  shared = λ g k e.
      let is : w.held ≡ held.Shared g = subst (λ (t : Form). FitsHeld t w.held) e z.held in ap reach_use is;
}

-- ---- where a place stands

-- the local or the group in which a place stands is in the set
abbrev pub StandsOn : (Resource → Bool) → Base → Type 0
StandsOn on (InLocal x) = on (resource.Local x) ≡ true
StandsOn on (InGroup g n) = on (resource.Group g) ≡ true

-- a field stands where its object does
into_base : (p : Code) (o : OpenedObject) (x : ℕ) (y : PlaceFound) → into_field p o x ≡ Fine y
    → o.at.base ≡ y.at.base
into_base p o x y e =
    let a = fine_first (there (numbered_field p o.kind x))
    (λ (d : NumberedField). there (field_value o.tree d.number) >>= λ v. met p (field_place o d v)) y e in
    let b = fine_first (there (field_value o.tree a.0.number)) (λ v. met p (field_place o a.0 v)) y a.2 in
    let z : PlaceFound = field_place o a.0 b.0 in
    ap (λ (u : PlaceFound). u.at.base) (met_is p z y (value_fits p z.form z.value) b.2)

same_base : (b : Bool) (o u : OpenedObject) → opened_if b o ≡ Fine u → o.at.base ≡ u.at.base
same_base b o u e = ap (λ (x : OpenedObject). x.at.base) (opened_is b o u e)

member_base : (p : Code) (s : State) (k : Kind) (g n : ℕ) (o : OpenedObject)
    → (store_of s g >>= opened_member p k g n) ≡ Fine o → InGroup g n ≡ o.at.base
member_base p s k g n o e =
    let a = fine_first (store_of s g) (opened_member p k g n) o e in
    let b = fine_first (reached (slice_get a.0 n))
    (λ t. opened_if (is_of_kind p k t) (record { at = record { base = InGroup g n; fields = [] }; kind = k; tree = t }))
    o a.2 in
    same_base (is_of_kind p k b.0)
    (record { at = record { base = InGroup g n; fields = [] }; kind = k; tree = b.0 }) o b.2

-- an object stands where its place does, or it is a member
open_base : (on : Resource → Bool) (p : Code) (s : State) (at : Address) (t : Form) (v : Val) (o : OpenedObject)
    → StandsOn on at.base → ((g : ℕ) (k : Kind) → t ≡ f.Object (perm.Shared g) k → on (resource.Group g) ≡ true)
    → open_form p s at t v ≡ Fine o → StandsOn on o.at.base
open_base on p s at f.Int v o b h e = absurd (cc e)
open_base on p s at f.Bool v o b h e = absurd (cc e)
open_base on p s at (f.Object (perm.Shared g) k) (Member n) o b h e =
    subst (StandsOn on) (member_base p s k g n o e) (h g k refl)
open_base on p s at (f.Object perm.Unique k) (Owned t) o b h e = subst (StandsOn on) (same_base _ _ o e) b
open_base on p s at (f.Object perm.Immutable k) (Owned t) o b h e = subst (StandsOn on) (same_base _ _ o e) b
open_base on p s at (f.Object perm.Lent k) (Owned t) o b h e = subst (StandsOn on) (same_base _ _ o e) b
open_base on p s at (f.Object q k) v o b h e = absurd (cc e)

-- what is opened behind a place stands in the set
opened_on : (on : Resource → Bool) (p : Code) (s : State) (x : PlaceFound) (y : Place) (o : OpenedObject)
    → Fit p x.form y → AllIn on (reach_use y.held) → StandsOn on x.at.base → open_place p s x ≡ Fine o
    → StandsOn on o.at.base
opened_on on p s x y o h i b e = open_base on p s x.at x.form x.value o b
    (λ g k d. in_group on mode.GroupWhole g (subst (AllIn on) (h.shared g k d) i)) e

steps_base : (on : Resource → Bool) (p : Code) (c : Context) (at : Spot) (s : State) (ns : List NameAt)
    (x : PlaceFound) (y w : Place) → Fit p x.form y → StandsOn on x.at.base → AllIn on (steps_use p c at ns y)
    → in_turn (step p c at) ns y ≡ Holds w → (z : PlaceFound) → steps p s ns x ≡ Fine z → StandsOn on z.at.base
steps_base on p c at s [] x y w h b i e z d =
    let same : x ≡ z = cc d in subst (λ (u : PlaceFound). StandsOn on u.at.base) same b
steps_base on p c at s (n ∷ ns) x y w h b i e z d =
    let a = first_holds (step p c at n y) (in_turn (step p c at) ns) w e in
    let q = fine_first (step_to p s n x) (steps p s ns) z d in
    let o = fine_first (open_place p s x) (λ o. into_field p o n.name) q.0 q.1 in
    let opened : StandsOn on o.0.at.base = opened_on on p s x y o.0 h
    (in_left on (reach_use y.held) (of_judged (step p c at n y) (steps_use p c at ns)) i) b o.1 in
    steps_base on p c at s ns q.0 a.0 w (fit_step p c at s n x y a.0 h a.1 q.0 q.1)
    (subst (StandsOn on) (into_base p o.0 n.name q.0 o.2) opened)
    (in_held on (step p c at n y) (steps_use p c at ns) a.0 a.1
    (in_right on (reach_use y.held) (of_judged (step p c at n y) (steps_use p c at ns)) i)) a.2 z q.2

-- ---- walks

-- what is known of a walk from two states
pub record WalksAlike (on : Resource → Bool) (p : Code) (s t : State) (path : Path) (w : Place) : Type 0 where
  pub same : walk_to p s path ≡ walk_to p t path
  pub stands : (z : PlaceFound) → walk_to p s path ≡ Fine z → StandsOn on z.at.base
  pub fit : has_value w ≡ true → (z : PlaceFound) → walk_to p s path ≡ Fine z → Fit p z.form w

-- From states that agree on what a judged walk uses it is the same.
pub walk_alike : (on : Resource → Bool) (p : Code) (c : Context) (s t : State) (path : Path) (w : Place)
    → FitsContext p c s → Agree on s t → walk p c path ≡ Holds w → on (resource.Local path.root.name) ≡ true
    → AllIn on (walk_uses p c path) → WalksAlike on p s t path w
walk_alike on p c s t path w z a e root i = by_value (has_value (place_held l)) refl
  where
    first : (l : Local) × (found (c.local path.root.name) rule.UnknownName path.root.at ≡ Holds l)
        × (in_turn (step p c path.root.at) path.steps (place_held l) ≡ Holds w)
    first = first_holds (found (c.local path.root.name) rule.UnknownName path.root.at) _ w e

    l : Local
    l = first.0

    is : c.local path.root.name ≡ Some l
    is = found_is (c.local path.root.name) rule.UnknownName path.root.at l first.1

    used : AllIn on (steps_use p c path.root.at path.steps (place_held l))
    used = in_there on (c.local path.root.name) (λ (y : Local). steps_use p c path.root.at path.steps (place_held y)) l
        is i

    along : State → List NameAt → Option Bound → Outcome PlaceFound
    along u xs o = there o >>= λ b. steps p u xs (local_place path.root.name b)

    by_bound : (b : Bound) → s.locals path.root.name ≡ Some b → Fit p b.form (place_held l)
        → WalksAlike on p s t path w
    by_bound b d h =
        let x : PlaceFound = local_place path.root.name b in
        let steps_are = steps_same p c path.root.at s t path.steps x (place_held l) w h
        (same_on on (steps_use p c path.root.at path.steps (place_held l)) s t used a) first.2 in
        let here : walk_to p s path ≡ steps p s path.steps x = ap (along s path.steps) d in
        let other : walk_to p t path ≡ steps p t path.steps x = ap (along t path.steps)
        (sym (a.locals path.root.name root) ∙ d) in
        record {
          same = here ∙ steps_are.0 ∙ sym other;
          stands = λ y k. steps_base on p c path.root.at s path.steps x (place_held l) w h root used first.2 y
              (sym here ∙ k);
          fit = λ v y k. steps_are.1 y (sym here ∙ k);
        }

    alone : (xs : List NameAt) → has_value (place_held l) ≡ false
        → in_turn (step p c path.root.at) xs (place_held l) ≡ Holds w
        → (along s xs (s.locals path.root.name) ≡ along t xs (t.locals path.root.name))
        × ((y : PlaceFound) → along s xs (s.locals path.root.name) ≡ Fine y → StandsOn on y.at.base)
        × (has_value w ≡ true → ⊥)
    alone [] v d =
        let same : place_held l ≡ w = cc d in (
          ap (along s []) (a.locals path.root.name root),
          λ y k.
              let b = fine_first (there (s.locals path.root.name)) (λ b. Fine (local_place path.root.name b)) y k in
              let here : local_place path.root.name b.0 ≡ y = cc (b.2) in
              subst (λ (u : PlaceFound). StandsOn on u.at.base) here root,
          λ k. let no : has_value w ≡ false = ap has_value (sym same) ∙ v in absurd (cc (no, k)),
        )
    alone (x ∷ xs) v d =
        let k : has_value (place_held l) ≡ true = root_value p c path.root.at (x ∷ xs) (place_held l) w d
        (λ i. absurd (cc i)) in absurd (cc (v, k))

    by_value : (b : Bool) → has_value (place_held l) ≡ b → WalksAlike on p s t path w
    by_value true v =
        let r = z.local path.root.name l is v in
        by_bound r.bound r.is (place_fit p (place_held l) r.bound.form r.bound.value r.fits)
    by_value false v =
        let r = alone path.steps v first.2 in
        record { same = r.0; stands = r.1; fit = λ k. absurd (r.2 k) }

-- ---- objects

-- what is known of an object that is reached from two states
pub record ReachesAlike (on : Resource → Bool) (p : Code) (s t : State) (path : Path) : Type 0 where
  pub walks : walk_to p s path ≡ walk_to p t path
  pub opens : (x : PlaceFound) → walk_to p s path ≡ Fine x → open_place p s x ≡ open_place p t x
  pub same : reach p s path ≡ reach p t path
  pub stands : (o : OpenedObject) → reach p s path ≡ Fine o → StandsOn on o.at.base

-- From states that agree on what it uses the object is the same to which a judged walk leads that may be reached.
pub reach_alike : (on : Resource → Bool) (p : Code) (c : Context) (s t : State) (path : Path) (w : Place) (at : Spot)
    (v : ⊤) → FitsContext p c s → Agree on s t → walk p c path ≡ Holds w → access c at w.held ≡ Holds v
    → on (resource.Local path.root.name) ≡ true → AllIn on (end_uses p c path) → ReachesAlike on p s t path
reach_alike on p c s t path w at v z a e h root i = record {
  walks = r.same;
  opens = opens;
  same = bind_same (walk_to p s path) (open_place p s) (open_place p t) opens
      ∙ ap (λ (q : Outcome PlaceFound). q >>= open_place p t) r.same;
  stands = λ o k.
      let x = fine_first (walk_to p s path) (open_place p s) o k in
      opened_on on p s x.0 w o (fits x.0 x.1) reached_use (r.stands x.0 x.1) x.2;
}
  where
    ends : Place → Uses
    ends y = reach_use y.held

    r : WalksAlike on p s t path w
    r = walk_alike on p c s t path w z a e root (in_left on (walk_uses p c path) (of_judged (walk p c path) ends) i)

    reached_use : AllIn on (reach_use w.held)
    reached_use = in_held on (walk p c path) ends w e
        (in_right on (walk_uses p c path) (of_judged (walk p c path) ends) i)

    fits : (x : PlaceFound) → walk_to p s path ≡ Fine x → Fit p x.form w
    fits = r.fit (reached_value c at w.form w.held v h)

    opens : (x : PlaceFound) → walk_to p s path ≡ Fine x → open_place p s x ≡ open_place p t x
    opens x d = opens_same p s t x w (fits x d) (same_on on (reach_use w.held) s t reached_use a)

-- ---- what is written

-- the root of a path to what is written is used
written_root : (on : Resource → Bool) (h : Held) (x : ℕ) → AllIn on (root_written h x)
    → on (resource.Local x) ≡ true
written_root on held.Unique x i = in_local on mode.Write x i
written_root on (held.Split n) x i = in_local on mode.Read x i
written_root on held.Immutable x i = in_local on mode.Read x i
written_root on held.Lent x i = in_local on mode.Read x i
written_root on (held.Shared g) x i = in_local on mode.Read x i
written_root on (held.Inner g) x i = in_local on mode.Read x i
written_root on held.None x i = in_local on mode.Read x i

-- From states that agree on what its writing uses the object is the same to which a judged walk leads.
pub written_alike : (on : Resource → Bool) (p : Code) (c : Context) (s t : State) (path : Path) (w : Place) (at : Spot)
    (v : ⊤) → FitsContext p c s → Agree on s t → walk p c path ≡ Holds w → access c at w.held ≡ Holds v
    → AllIn on (write_uses p c path) → ReachesAlike on p s t path
written_alike on p c s t path w at v z a e h i =
    reach_alike on p c s t path w at v z a e h
    (written_root on w.held path.root.name (in_held on (walk p c path) roots w e
    (in_right on (end_uses p c path) (of_judged (walk p c path) roots) i)))
    (in_left on (end_uses p c path) (of_judged (walk p c path) roots) i)
  where
    roots : Place → Uses
    roots y = root_written y.held path.root.name

-- A field is the same from states from which its object is.
pub slot_same : (on : Resource → Bool) (p : Code) (s t : State) (path : Path) → ReachesAlike on p s t (owner path)
    → slot p s path ≡ slot p t path
slot_same on p s t path r = ap
    (λ (q : Outcome OpenedObject). there (last_item path.steps) >>= λ x. q >>= λ o. slot_in p o x) r.same

-- A field's object stands in what they agree on.
pub slot_on : (on : Resource → Bool) (p : Code) (s t : State) (path : Path) → ReachesAlike on p s t (owner path)
    → (x : ObjectField) → slot p s path ≡ Fine x → StandsOn on x.object.at.base
slot_on on p s t path r x e =
    let a = fine_first (there (last_item path.steps)) (λ y. reach p s (owner path) >>= λ o. slot_in p o y) x e in
    let b = fine_first (reach p s (owner path)) (λ o. slot_in p o a.0) x a.2 in
    let d = fine_first (there (numbered_field p b.0.kind a.0.name))
    (λ d. Fine (record { object = b.0; part = d })) x b.2 in
    let same : record { object = b.0; part = d.0 } ≡ x = cc (d.2) in
    subst (λ (u : ObjectField). StandsOn on u.object.at.base) same (r.stands b.0 b.1)
