-- In which tree the object stands to which a judged walk leads: its root's, or that of a member of the group that is
-- held.
use Rattle.std.proofs.Common.{◌≡◌, ◌≢◌, refl, sym, ap, subst, ℕ, true}
use Rattle.std.proofs.Common.{Some, List, [], ◌∷◌}
use Rattle.std.specs.Prelude.{slice_get, ⊤}
use Rattle.ae_text.specs.declared.refusal.Spot.{Spot}
use Rattle.ae_text.specs.declared.refusal.Rule.TheVariants as rule
use Rattle.ae_tree.specs.declared.tree.NameAt.{NameAt}
use Rattle.ae_tree.specs.declared.tree.Path.{Path}
use Rattle.ae_tree.specs.declared.form.Perm.{Perm}
use Rattle.ae_tree.specs.declared.form.Perm.TheVariants as perm
use Rattle.ae_tree.specs.declared.form.Kind.{Kind}
use Rattle.ae_tree.specs.declared.form.Form.{Form}
use Rattle.ae_tree.specs.declared.form.Form.TheVariants as f
use Rattle.ae_tree.specs.Plain.{Code}
use Rattle.ae_rules.specs.declared.held.Held.{Held}
use Rattle.ae_rules.specs.declared.held.Held.TheVariants as held
use Rattle.ae_rules.specs.declared.uses.Resource.TheVariants as resource
use Rattle.ae_rules.specs.Edges.{Uses}
use Rattle.ae_rules.specs.Verdict.{Verdict, Holds, fine, found, require, in_turn}
use Rattle.ae_rules.specs.Lookups.{field_of}
use Rattle.ae_rules.specs.Groups.{Groups as GroupsKnown}
use Rattle.ae_rules.specs.Context.{Local, Context, access, may_change}
use Rattle.ae_rules.specs.Walks.{Place, held_inside, held_in_field, step, walk, write_access}
use Rattle.ae_rules.specs.BlockLaws.{may_hold, HoldsRight}
use Rattle.ae_rules.specs.Uses.{◌∪◌, of_judged, walk_uses, reach_use, root_written, write_uses}
use Rattle.ae_semantics.specs.Values.{Val, OfInt, OfBool, Null, Owned, Member, is_of_kind, value_fits, Tree}
use Rattle.ae_semantics.specs.Places.{Outcome, Fine, ◌>>=◌, there, reached, Bound, State, store_of, Base}
use Rattle.ae_semantics.specs.Places.{InLocal, InGroup, Address, PlaceFound, OpenedObject, opened_if, opened_member}
use Rattle.ae_semantics.specs.Places.{open_value, open_form, open_place, NumberedField, numbered_field, field_value}
use Rattle.ae_semantics.specs.Places.{field_place, met, into_field, step_to, steps, local_place, walk_to, reach}
use Rattle.ae_soundness.specs.Fits.{FitsHeld, FitsPlace, FitsLocal, FieldsHaveMembers, FitsContext}
use Rattle.ae_soundness.specs.Fits.{HoldsNoMember, place_held}
use Rattle.ae_soundness.specs.Laws.{IsFoundAs}
use Rattle.ae_soundness.proofs.PlaceLemmas.{step_known, root_value, reached_value}
use Rattle.ae_soundness.proofs.StandLemmas.{fine_first, there_is, met_is, opened_is}
use Rattle.ae_changes.proofs.from_rules.PathLemmas.{first_holds}
use Rattle.ae_changes.proofs.from_rules.SeenLemmas.{found_is, required}
use Rattle.ae_changes.proofs.from_text.Basics.{option_holds_one}
use Rattle.ae_changes.proofs.UsedLemmas.{IsWritten, Covers, written_left, written_right, local_itself, group_itself}
use Rattle.ae_changes.proofs.UsedLemmas.{covers_both, covers_left, covers_right, covers_then}
use Rattle.ae_changes.proofs.WriteLemmas.{BaseWritten}

-- the tree is a member of this group
abbrev pub IsMemberOf : ℕ → Base → Type 0
IsMemberOf g b = (n : ℕ) × (b ≡ InGroup g n)

-- the place of which this is held, on a path from this root, stands in such a tree; what is shared of a group is a
-- reference, which stands anywhere
abbrev pub StandsUnder : ℕ → Held → Base → Type 0
StandsUnder root held.Unique b = b ≡ InLocal root
StandsUnder root (held.Inner g) b = IsMemberOf g b
StandsUnder root (held.Shared g) b = Unit {0}
StandsUnder root (held.Split n) b = Unit {0}
StandsUnder root held.Immutable b = Unit {0}
StandsUnder root held.Lent b = Unit {0}
StandsUnder root held.None b = Unit {0}

-- the object of which this is held, on a path from this root, stands in such a tree
abbrev pub ObjectUnder : ℕ → Held → Base → Type 0
ObjectUnder root held.Unique b = b ≡ InLocal root
ObjectUnder root (held.Inner g) b = IsMemberOf g b
ObjectUnder root (held.Shared g) b = IsMemberOf g b
ObjectUnder root (held.Split n) b = Unit {0}
ObjectUnder root held.Immutable b = Unit {0}
ObjectUnder root held.Lent b = Unit {0}
ObjectUnder root held.None b = Unit {0}

-- ---- an object is opened

own_under : (root : ℕ) (h : Held) (b : Base) → HoldsNoMember h → StandsUnder root h b → ObjectUnder root h b
own_under root held.Unique b n u = u
own_under root (held.Inner g) b n u = u
own_under root (held.Shared g) b n u = absurd (n g refl)
own_under root (held.Split k) b n u = tt
own_under root held.Immutable b n u = tt
own_under root held.Lent b n u = tt
own_under root held.None b n u = tt

member_opened : (p : Code) (s : State) (k : Kind) (g n : ℕ) (o : OpenedObject)
    → (store_of s g >>= opened_member p k g n) ≡ Fine o → IsMemberOf g o.at.base
member_opened p s k g n o e =
    let a = fine_first (store_of s g) (opened_member p k g n) o e in
    let b = fine_first (reached (slice_get a.0 n))
    (λ t. opened_if (is_of_kind p k t) (record { at = record { base = InGroup g n; fields = [] }; kind = k; tree = t }))
    o a.2 in (
      n,
      sym (ap (λ (z : OpenedObject). z.at.base) (opened_is (is_of_kind p k b.0)
          (record { at = record { base = InGroup g n; fields = [] }; kind = k; tree = b.0 }) o b.2)),
    )

shared_opened : (p : Code) (s : State) (g : ℕ) (k : Kind) (a : Address) (v : Val) (o : OpenedObject)
    → open_value p s (perm.Shared g) k a v ≡ Fine o → IsMemberOf g o.at.base
shared_opened p s g k a (OfInt n) o e = absurd (cc e)
shared_opened p s g k a (OfBool b) o e = absurd (cc e)
shared_opened p s g k a Null o e = absurd (cc e)
shared_opened p s g k a (Owned t) o e = absurd (cc e)
shared_opened p s g k a (Member n) o e = member_opened p s k g n o e

owned_under : (p : Code) (k : Kind) (a : Address) (t : Tree) (o : OpenedObject) (root : ℕ) (h : Held)
    → HoldsNoMember h → opened_if (is_of_kind p k t) (record { at = a; kind = k; tree = t }) ≡ Fine o
    → StandsUnder root h a.base → ObjectUnder root h o.at.base
owned_under p k a t o root h n e u = subst (λ (z : OpenedObject). ObjectUnder root h z.at.base)
    (opened_is (is_of_kind p k t) (record { at = a; kind = k; tree = t }) o e) (own_under root h a.base n u)

own_opened : (p : Code) (s : State) (q : Perm) (k : Kind) (a : Address) (v : Val) (o : OpenedObject) (root : ℕ)
    (h : Held) → ((g : ℕ) → q ≢ perm.Shared g) → HoldsNoMember h → open_value p s q k a v ≡ Fine o
    → StandsUnder root h a.base → ObjectUnder root h o.at.base
own_opened p s (perm.Shared g) k a v o root h y n e u = absurd (y g refl)
own_opened p s perm.Unique k a (OfInt i) o root h y n e u = absurd (cc e)
own_opened p s perm.Unique k a (OfBool b) o root h y n e u = absurd (cc e)
own_opened p s perm.Unique k a Null o root h y n e u = absurd (cc e)
own_opened p s perm.Unique k a (Owned t) o root h y n e u = owned_under p k a t o root h n e u
own_opened p s perm.Unique k a (Member i) o root h y n e u = absurd (cc e)
own_opened p s perm.Immutable k a (OfInt i) o root h y n e u = absurd (cc e)
own_opened p s perm.Immutable k a (OfBool b) o root h y n e u = absurd (cc e)
own_opened p s perm.Immutable k a Null o root h y n e u = absurd (cc e)
own_opened p s perm.Immutable k a (Owned t) o root h y n e u = owned_under p k a t o root h n e u
own_opened p s perm.Immutable k a (Member i) o root h y n e u = absurd (cc e)
own_opened p s perm.Lent k a (OfInt i) o root h y n e u = absurd (cc e)
own_opened p s perm.Lent k a (OfBool b) o root h y n e u = absurd (cc e)
own_opened p s perm.Lent k a Null o root h y n e u = absurd (cc e)
own_opened p s perm.Lent k a (Owned t) o root h y n e u = owned_under p k a t o root h n e u
own_opened p s perm.Lent k a (Member i) o root h y n e u = absurd (cc e)

opened_under : (p : Code) (s : State) (now : Form) (a : Address) (v : Val) (o : OpenedObject) (root : ℕ) (h : Held)
    → FitsHeld now h → open_form p s a now v ≡ Fine o → StandsUnder root h a.base → ObjectUnder root h o.at.base
opened_under p s f.Int a v o root h y e u = absurd (cc e)
opened_under p s f.Bool a v o root h y e u = absurd (cc e)
opened_under p s (f.Object perm.Unique k) a v o root h y e u =
    own_opened p s perm.Unique k a v o root h (λ g i. cc i) y e u
opened_under p s (f.Object perm.Immutable k) a v o root h y e u =
    own_opened p s perm.Immutable k a v o root h (λ g i. cc i) y e u
opened_under p s (f.Object perm.Lent k) a v o root h y e u =
    own_opened p s perm.Lent k a v o root h (λ g i. cc i) y e u
opened_under p s (f.Object (perm.Shared g) k) a v o root h y e u =
    subst (λ (z : Held). ObjectUnder root z o.at.base) (sym y) (shared_opened p s g k a v o e)

-- ---- steps

inside_under : (root : ℕ) (h : Held) (b : Base) → ObjectUnder root h b → StandsUnder root (held_inside h) b
inside_under root held.Unique b u = u
inside_under root (held.Inner g) b u = u
inside_under root (held.Shared g) b u = u
inside_under root (held.Split k) b u = tt
inside_under root held.Immutable b u = tt
inside_under root held.Lent b u = tt
inside_under root held.None b u = tt

field_under : (root : ℕ) (h : Held) (t : Form) (b : Base) → ObjectUnder root h b
    → StandsUnder root (held_in_field h t) b
field_under root h f.Int b u = tt
field_under root h f.Bool b u = tt
field_under root h (f.Object perm.Unique k) b u = inside_under root h b u
field_under root h (f.Object perm.Immutable k) b u = tt
field_under root h (f.Object perm.Lent k) b u = tt
field_under root h (f.Object (perm.Shared g) k) b u = tt

into_base : (p : Code) (o : OpenedObject) (x : ℕ) (y : PlaceFound) → into_field p o x ≡ Fine y
    → y.at.base ≡ o.at.base
into_base p o x y e =
    let a = fine_first (there (numbered_field p o.kind x))
    (λ (d : NumberedField). there (field_value o.tree d.number) >>= λ v. met p (field_place o d v)) y e in
    let b = fine_first (there (field_value o.tree a.0.number)) (λ v. met p (field_place o a.0 v)) y a.2 in
    let z : PlaceFound = field_place o a.0 b.0 in
    sym (ap (λ (u : PlaceFound). u.at.base) (met_is p z y (value_fits p z.form z.value) b.2))

-- a place that is found fits, and stands so
abbrev FoundUnder : Code → ℕ → Place → PlaceFound → Type 0
FoundUnder p root w y = FitsPlace p w y.form y.value × StandsUnder root w.held y.at.base

step_under : (p : Code) (c : Context) (s : State) → FieldsHaveMembers p → FitsContext p c s → (at : Spot) (x : NameAt)
    (root : ℕ) (w u : Place) (from y : PlaceFound) → FoundUnder p root w from → step p c at x w ≡ Holds u
    → step_to p s x from ≡ Fine y → FoundUnder p root u y
step_under p c s m z at x root w u from y h e i =
    let fits : FitsPlace p u y.form y.value
    = subst (λ (o : Outcome PlaceFound). IsFoundAs p u o) i (step_known p c s m z at x w u from h.0 e) in
    let d = first_holds (found (field_of p w.form x.name) rule.UnknownField x.at) _ u e in
    let g = first_holds (access c at w.held) (λ _. Holds (record { form = d.0; held = held_in_field w.held d.0 })) u d.2
    in
    let same : record { form = d.0; held = held_in_field w.held d.0 } ≡ u = same_place _ u g.2 in
    let a = fine_first (open_place p s from) (λ o. into_field p o x.name) y i in
    let there : ObjectUnder root w.held a.0.at.base
    = opened_under p s from.form from.at from.value a.0 root w.held h.0.held a.1 h.1 in (
      fits,
      subst (λ (v : Place). StandsUnder root v.held y.at.base) same
          (field_under root w.held d.0 y.at.base
          (subst (ObjectUnder root w.held) (sym (into_base p a.0 x.name y a.2)) there)),
    )
  where
    same_place : (v w : Place) → Holds v ≡ Holds w → v ≡ w
    same_place v w k = cc k

steps_under : (p : Code) (c : Context) (s : State) → FieldsHaveMembers p → FitsContext p c s → (at : Spot)
    (xs : List NameAt) (root : ℕ) (w u : Place) (from y : PlaceFound) → FoundUnder p root w from
    → in_turn (step p c at) xs w ≡ Holds u → steps p s xs from ≡ Fine y → FoundUnder p root u y
steps_under p c s m z at [] root w u from y h e i =
    let same : w ≡ u = cc e in
    let it : from ≡ y = cc i in
    subst (λ (v : PlaceFound). FoundUnder p root u v) it (subst (λ (v : Place). FoundUnder p root v from) same h)
steps_under p c s m z at (x ∷ xs) root w u from y h e i =
    let b = first_holds (step p c at x w) (in_turn (step p c at) xs) u e in
    let n = fine_first (step_to p s x from) (steps p s xs) y i in
    steps_under p c s m z at xs root b.0 u n.0 y (step_under p c s m z at x root w b.0 from n.0 h b.1 n.1) b.2 n.2

-- ---- walks

no_inner : (gs : GroupsKnown) (t : Form) (g : ℕ) → may_hold gs t (held.Inner g) ≡ true → ⊥
no_inner gs f.Int g e = cc e
no_inner gs f.Bool g e = cc e
no_inner gs (f.Object perm.Unique k) g e = cc e
no_inner gs (f.Object perm.Immutable k) g e = cc e
no_inner gs (f.Object perm.Lent k) g e = cc e
no_inner gs (f.Object (perm.Shared h) k) g e = cc e

root_under : (gs : GroupsKnown) (t : Form) (h : Held) (root : ℕ) → may_hold gs t h ≡ true
    → StandsUnder root h (InLocal root)
root_under gs t held.Unique root e = refl
root_under gs t (held.Inner g) root e = absurd (no_inner gs t g e)
root_under gs t (held.Shared g) root e = tt
root_under gs t (held.Split n) root e = tt
root_under gs t held.Immutable root e = tt
root_under gs t held.Lent root e = tt
root_under gs t held.None root e = tt

-- The place to which a judged walk leads stands under what is held of it.
pub walk_under : (p : Code) (c : Context) (s : State) → FieldsHaveMembers p → FitsContext p c s → HoldsRight c
    → (path : Path) (w : Place) (y : PlaceFound) (at : Spot) → walk p c path ≡ Holds w → access c at w.held ≡ fine
    → walk_to p s path ≡ Fine y → FoundUnder p path.root.name w y
walk_under p c s m z right path w y at e n i =
    let a = first_holds (found (c.local path.root.name) rule.UnknownName path.root.at) _ w e in
    let l : Local = a.0 in
    let visible : c.local path.root.name ≡ Some l = found_is (c.local path.root.name) rule.UnknownName path.root.at l
    a.1 in
    let b : FitsLocal p s path.root.name (place_held l) = z.local path.root.name l visible
    (root_value p c path.root.at path.steps (place_held l) w a.2 (λ _. reached_value c at w.form w.held tt n)) in
    let r = fine_first (there (s.locals path.root.name))
    (λ b. steps p s path.steps (local_place path.root.name b)) y i in
    let same : b.bound ≡ r.0 = option_holds_one (s.locals path.root.name) b.bound r.0 b.is
    (there_is (s.locals path.root.name) r.0 r.1) in
    steps_under p c s m z path.root.at path.steps path.root.name (place_held l) w (local_place path.root.name r.0) y (
      subst (λ (x : Bound). FitsPlace p (place_held l) x.form x.value) same b.fits,
      root_under c.group l.form l.held path.root.name (right path.root.name l visible),
    ) a.2 r.2

-- The object to which a judged walk leads stands under what is held of it.
pub reach_under : (p : Code) (c : Context) (s : State) → FieldsHaveMembers p → FitsContext p c s → HoldsRight c
    → (path : Path) (w : Place) (o : OpenedObject) (at : Spot) → walk p c path ≡ Holds w → access c at w.held ≡ fine
    → reach p s path ≡ Fine o → ObjectUnder path.root.name w.held o.at.base
reach_under p c s m z right path w o at e n i =
    let a = fine_first (walk_to p s path) (open_place p s) o i in
    let f : FoundUnder p path.root.name w a.0 = walk_under p c s m z right path w a.0 at e n a.1 in
    opened_under p s a.0.form a.0.at a.0.value o path.root.name w.held f.0.held a.2 f.1

-- ---- writes

member_written : (u : Uses) (g : ℕ) (b : Base) → IsMemberOf g b → IsWritten u (resource.Group g) → BaseWritten u b
member_written u g b h w = subst (BaseWritten u) (sym h.1) w

-- the uses of a write to an object of which this is held
abbrev held_uses : ℕ → Held → Uses
held_uses root h = reach_use h ∪ root_written h root

under_written : (root : ℕ) (h : Held) (b : Base) → may_change h ≡ true → ObjectUnder root h b
    → BaseWritten (held_uses root h) b
under_written root held.Unique b m u = subst (BaseWritten (held_uses root held.Unique)) (sym u)
    (written_right (reach_use held.Unique) (root_written held.Unique root) (resource.Local root) (local_itself root))
under_written root (held.Inner g) b m u = member_written (held_uses root (held.Inner g)) g b u
    (written_left (reach_use (held.Inner g)) (root_written (held.Inner g) root) (resource.Group g) (group_itself g))
under_written root (held.Shared g) b m u = member_written (held_uses root (held.Shared g)) g b u
    (written_left (reach_use (held.Shared g)) (root_written (held.Shared g) root) (resource.Group g) (group_itself g))
under_written root (held.Split n) b m u = absurd (cc m)
under_written root held.Immutable b m u = absurd (cc m)
under_written root held.Lent b m u = absurd (cc m)
under_written root held.None b m u = absurd (cc m)

-- What covers what is written at a base writes it.
pub covers_base : (v u : Uses) (b : Base) → Covers v u → BaseWritten v b → BaseWritten u b
covers_base v u (InLocal x) k h = k (resource.Local x) h
covers_base v u (InGroup g n) k h = k (resource.Group g) h

-- An object at the end of a judged walk that may be changed stands where it is written.
pub object_written : (p : Code) (c : Context) (s : State) → FieldsHaveMembers p → FitsContext p c s → HoldsRight c
    → (path : Path) (w : Place) (o : OpenedObject) (at : Spot) (x : ⊤) → walk p c path ≡ Holds w
    → write_access c at w.held ≡ Holds x → reach p s path ≡ Fine o → BaseWritten (write_uses p c path) o.at.base
object_written p c s m z right path w o at x e n i =
    let a = first_holds (access c at w.held) (λ _. require (may_change w.held) rule.NeedsUnique at) x n in
    subst (λ (v : Verdict Place). BaseWritten (uses v) o.at.base) (sym e)
    (covers_base (held_uses root w.held) (uses (Holds w)) o.at.base
    (covers_both (reach_use w.held) (root_written w.held root) (uses (Holds w))
    (covers_then (reach_use w.held) (walk_uses p c path ∪ reach_use w.held) (uses (Holds w))
    (covers_right (walk_uses p c path) (reach_use w.held))
    (covers_left (walk_uses p c path ∪ reach_use w.held) (root_written w.held root)))
    (covers_right (walk_uses p c path ∪ reach_use w.held) (root_written w.held root)))
    (under_written root w.held o.at.base (required (may_change w.held) rule.NeedsUnique at x a.2)
    (reach_under p c s m z right path w o at e a.1 i)))
  where
    root : ℕ
    root = path.root.name

    uses : Verdict Place → Uses
    uses v = (walk_uses p c path ∪ of_judged v (λ (y : Place). reach_use y.held))
        ∪ of_judged v (λ (y : Place). root_written y.held root)
