-- What was read as unique may come back to its place.
use Rattle.std.proofs.Common.{◌≡◌, refl, sym, ap, ◌∙◌, subst, ℕ, true, List, [], ◌∷◌, ◌++◌, Option}
use Rattle.std.proofs.Common.{Some, append_assoc, append-nil}
use Rattle.std.proofs.lemmas.Option.{same_Some}
use Rattle.ae_text.specs.declared.refusal.Spot.{Spot}
use Rattle.ae_text.specs.declared.refusal.Rule.TheVariants as rule
use Rattle.ae_tree.specs.declared.tree.NameAt.{NameAt}
use Rattle.ae_tree.specs.declared.form.Perm.{Perm}
use Rattle.ae_tree.specs.declared.form.Perm.TheVariants as perm
use Rattle.ae_tree.specs.declared.form.Kind.{Kind}
use Rattle.ae_tree.specs.declared.form.Form.{Form}
use Rattle.ae_tree.specs.declared.form.Form.TheVariants as f
use Rattle.ae_tree.specs.Plain.{Code}
use Rattle.ae_rules.specs.declared.held.Held.{Held}
use Rattle.ae_rules.specs.declared.held.Held.TheVariants as held
use Rattle.ae_rules.specs.Verdict.{Holds, found, in_turn}
use Rattle.ae_rules.specs.Lookups.{field_of, field_of_kind}
use Rattle.ae_rules.specs.Context.{Local, Context, access}
use Rattle.ae_rules.specs.Walks.{Place, held_inside, held_in_field, step}
use Rattle.ae_semantics.specs.Values.{Val, OfInt, OfBool, Null, Owned, Member, Tree, Object, Array, is_of_kind}
use Rattle.ae_semantics.specs.Values.{value_fits, with_changed, put_at}
use Rattle.ae_semantics.specs.Places.{Outcome, Fine, Traps, Lacks, ◌>>=◌, there, Bound, State, with_bound, Base}
use Rattle.ae_semantics.specs.Places.{InLocal, Address, PlaceFound, OpenedObject, opened_if, open_value, open_form}
use Rattle.ae_semantics.specs.Places.{open_place, NumberedField, numbered_field, field_value, field_place, met}
use Rattle.ae_semantics.specs.Places.{into_field, step_to, steps, local_place, bind, write_in, write}
use Rattle.ae_semantics.specs.Meaning.{with_perm}
use Rattle.ae_soundness.specs.Fits.{IsOfForm, IsWhole, SameButPermission, FitsHeld, FitsPermission, FitsPlace}
use Rattle.ae_soundness.specs.Fits.{FitsLocal, FieldsHaveMembers, FitsContext, place_held, has_value}
use Rattle.ae_soundness.specs.Laws.{IsFoundAs}
use Rattle.ae_soundness.specs.Returns.{IsStateOf, ValuesComeBack}
use Rattle.ae_soundness.proofs.FieldLemmas.{FieldThere, field_there}
use Rattle.ae_soundness.proofs.PlaceLemmas.{object_with, step_known, root_value}
use Rattle.ae_soundness.proofs.IntoLemmas.{as_unique, no_member}
use Rattle.ae_soundness.proofs.LocalLemmas.{HasBound, bound_changed}
use Rattle.ae_soundness.proofs.OutcomeLemmas.{Comes}
use Rattle.ae_soundness.proofs.StandLemmas.{fine_first, there_is, met_is, opened_is}
use Rattle.ae_soundness.proofs.WriteLemmas.{changed_count, same_count, low_then}
use Rattle.ae_soundness.proofs.from_rules.PathLemmas.{first_holds}
use Rattle.ae_soundness.proofs.from_rules.SeenLemmas.{found_is}

-- the form as one that is unique
abbrev pub as_own : Form → Form
as_own t = with_perm perm.Unique t

-- a value of the one form may be put there into each value of the other
abbrev GoesInto : Code → Form → List ℕ → Form → Type 0
GoesInto p t fields u = (v new : Val) → IsOfForm p t v → IsOfForm p u new → IsOfForm p t (put_at fields new v)

-- ---- into an object

still_fits : (p : Code) (t : Form) (tree : Tree) (i : ℕ) (is : List ℕ) (new : Val)
    → value_fits p t (put_at (i ∷ is) new (Owned tree)) ≡ value_fits p t (Owned tree)
still_fits p t (Object c xs) i is new =
    same_count p t c (with_changed xs i (put_at is new)) xs (changed_count xs i (put_at is new))
still_fits p t (Array ns) i is new = refl

-- what goes into a field goes into its object
object_goes : (p : Code) (k : Kind) (x : ℕ) (t u : Form) (d : NumberedField) (is : List ℕ)
    → field_of_kind p k x ≡ Some t → numbered_field p k x ≡ Some d → GoesInto p t is u
    → GoesInto p (f.Object perm.Unique k) (d.number ∷ is) u
object_goes p k x t u d is e n g (OfInt i) new h j = absurd (cc (h.0))
object_goes p k x t u d is e n g (OfBool b) new h j = absurd (cc (h.0))
object_goes p k x t u d is e n g Null new h j = h
object_goes p k x t u d is e n g (Member i) new h j = absurd (cc (h.0))
object_goes p k x t u d is e n g (Owned tree) new h j =
    let o : OpenedObject = record { at = record { base = InLocal 0; fields = [] }; kind = k; tree = tree } in
    let y : FieldThere p o x t = field_there p k x t e o (refl, h.0, h.1) in
    let same : y.part ≡ d = same_Some y.part d (sym y.numbered ∙ n) in
    let whole : IsWhole p (put_at (d.number ∷ is) new (Owned tree))
    = subst (λ (z : NumberedField). IsWhole p (put_at (z.number ∷ is) new (Owned tree))) same
    (y.changed is new (λ v i. g v new i j)) in
    (still_fits p (f.Object perm.Unique k) tree d.number is new ∙ h.0, whole)

-- ---- one step

opened_so : (p : Code) (k : Kind) (a : Address) (t : Tree) (o : OpenedObject)
    → opened_if (is_of_kind p k t) (record { at = a; kind = k; tree = t }) ≡ Fine o → (o.at ≡ a) × (o.kind ≡ k)
opened_so p k a t o e =
    let same : record { at = a; kind = k; tree = t } ≡ o
    = opened_is (is_of_kind p k t) (record { at = a; kind = k; tree = t }) o e in
    (sym (ap (λ (z : OpenedObject). z.at) same), sym (ap (λ (z : OpenedObject). z.kind) same))

-- what is no member is opened where it is
opened_at : (p : Code) (s : State) (q : Perm) (k : Kind) (a : Address) (v : Val) (o : OpenedObject)
    → FitsPermission q held.Unique → open_value p s q k a v ≡ Fine o → (o.at ≡ a) × (o.kind ≡ k)
opened_at p s (perm.Shared g) k a v o h e = absurd (cc h)
opened_at p s perm.Unique k a (OfInt n) o h e = absurd (cc e)
opened_at p s perm.Unique k a (OfBool b) o h e = absurd (cc e)
opened_at p s perm.Unique k a Null o h e = absurd (cc e)
opened_at p s perm.Unique k a (Owned t) o h e = opened_so p k a t o e
opened_at p s perm.Unique k a (Member n) o h e = absurd (cc e)
opened_at p s perm.Immutable k a (OfInt n) o h e = absurd (cc e)
opened_at p s perm.Immutable k a (OfBool b) o h e = absurd (cc e)
opened_at p s perm.Immutable k a Null o h e = absurd (cc e)
opened_at p s perm.Immutable k a (Owned t) o h e = opened_so p k a t o e
opened_at p s perm.Immutable k a (Member n) o h e = absurd (cc e)
opened_at p s perm.Lent k a (OfInt n) o h e = absurd (cc e)
opened_at p s perm.Lent k a (OfBool b) o h e = absurd (cc e)
opened_at p s perm.Lent k a Null o h e = absurd (cc e)
opened_at p s perm.Lent k a (Owned t) o h e = opened_so p k a t o e
opened_at p s perm.Lent k a (Member n) o h e = absurd (cc e)

-- the field to which a step leads
record StepLeads (p : Code) (from y : PlaceFound) (k : Kind) (x : ℕ) : Type 0 where
  part : NumberedField
  numbered : numbered_field p k x ≡ Some part
  base : y.at.base ≡ from.at.base
  fields : y.at.fields ≡ from.at.fields ++ (part.number ∷ [])

step_leads : (p : Code) (s : State) (x : NameAt) (from y : PlaceFound) (q : Perm) (k : Kind)
    → from.form ≡ f.Object q k → FitsPermission q held.Unique → step_to p s x from ≡ Fine y
    → StepLeads p from y k x.name
step_leads p s x from y q k i h e =
    let a = fine_first (open_place p s from) (λ o. into_field p o x.name) y e in
    let r = opened_at p s q k from.at from.value a.0 h
    (subst (λ (t : Form). open_form p s from.at t from.value ≡ Fine a.0) i a.1) in
    let b = fine_first (there (numbered_field p a.0.kind x.name))
    (λ (d : NumberedField). there (field_value a.0.tree d.number) >>= λ v. met p (field_place a.0 d v)) y a.2 in
    let g = fine_first (there (field_value a.0.tree b.0.number)) (λ v. met p (field_place a.0 b.0 v)) y b.2 in
    let z : PlaceFound = field_place a.0 b.0 g.0 in
    let same : z ≡ y = met_is p z y (value_fits p z.form z.value) g.2 in
    record {
      part = b.0;
      numbered = subst (λ (l : Kind). numbered_field p l x.name ≡ Some b.0) r.1
          (there_is (numbered_field p a.0.kind x.name) b.0 b.1);
      base = sym (ap (λ (u : PlaceFound). u.at.base) same) ∙ ap (λ (u : Address). u.base) r.0;
      fields = sym (ap (λ (u : PlaceFound). u.at.fields) same)
          ∙ ap (λ (u : Address). u.fields ++ (b.0.number ∷ [])) r.0;
    }

-- ---- all steps

inside_alone : (h : Held) → held_inside h ≡ held.Unique → h ≡ held.Unique
inside_alone held.None e = absurd (cc e)
inside_alone held.Unique e = refl
inside_alone (held.Split n) e = absurd (cc e)
inside_alone held.Immutable e = absurd (cc e)
inside_alone held.Lent e = absurd (cc e)
inside_alone (held.Shared g) e = absurd (cc e)
inside_alone (held.Inner g) e = absurd (cc e)

-- what is held Unique in a field is unique, and its object is held Unique
field_alone : (h : Held) (t : Form) → held_in_field h t ≡ held.Unique → (h ≡ held.Unique) × (as_own t ≡ t)
field_alone h f.Int e = absurd (cc e)
field_alone h f.Bool e = absurd (cc e)
field_alone h (f.Object perm.Unique k) e = (inside_alone h e, refl)
field_alone h (f.Object perm.Immutable k) e = absurd (cc e)
field_alone h (f.Object perm.Lent k) e = absurd (cc e)
field_alone h (f.Object (perm.Shared g) k) e = absurd (cc e)

-- the object that stands where one is known of which all is held
from_object : (t now : Form) (q : Perm) (k : Kind) → t ≡ f.Object q k → SameButPermission t now
    → FitsHeld now held.Unique → (r : Perm) × (now ≡ f.Object r k) × FitsPermission r held.Unique
from_object t f.Int q k e s h = absurd (subst (λ (x : Form). SameButPermission x f.Int) e s)
from_object t f.Bool q k e s h = absurd (subst (λ (x : Form). SameButPermission x f.Bool) e s)
from_object t (f.Object r l) q k e s h =
    let same : k ≡ l = subst (λ (x : Form). SameButPermission x (f.Object r l)) e s in
    (r, ap (λ (m : Kind). f.Object r m) (sym same), h)

-- the fields to which the steps lead, and what goes there
record StepsLead (p : Code) (w u : Place) (from y : PlaceFound) : Type 0 where
  alone : w.held ≡ held.Unique
  rest : List ℕ
  base : y.at.base ≡ from.at.base
  fields : y.at.fields ≡ from.at.fields ++ rest
  goes : GoesInto p (as_own w.form) rest (as_own u.form)

steps_lead : (p : Code) (c : Context) (s : State) → FieldsHaveMembers p → FitsContext p c s
    → (at : Spot) (xs : List NameAt) (w u : Place) (from y : PlaceFound) → FitsPlace p w from.form from.value
    → in_turn (step p c at) xs w ≡ Holds u → u.held ≡ held.Unique → steps p s xs from ≡ Fine y
    → StepsLead p w u from y
steps_lead p c s m z at [] w u from y h e a i =
    let same : w ≡ u = cc e in
    let it : from ≡ y = cc i in
    record {
      alone = ap (λ (v : Place). v.held) same ∙ a;
      rest = [];
      base = sym (ap (λ (v : PlaceFound). v.at.base) it);
      fields = sym (ap (λ (v : PlaceFound). v.at.fields) it) ∙ sym (append-nil from.at.fields);
      goes = λ v new j k. subst (λ (t : Form). IsOfForm p (as_own t) new) (sym (ap (λ (v : Place). v.form) same)) k;
    }
steps_lead p c s m z at (x ∷ xs) w u from y h e a i =
    let b = first_holds (step p c at x w) (in_turn (step p c at) xs) u e in
    let n = fine_first (step_to p s x from) (steps p s xs) y i in
    let fits : FitsPlace p b.0 n.0.form n.0.value
    = subst (λ (o : Outcome PlaceFound). IsFoundAs p b.0 o) n.1 (step_known p c s m z at x w b.0 from h b.1) in
    let later : StepsLead p b.0 u n.0 y = steps_lead p c s m z at xs b.0 u n.0 y fits b.2 a n.2 in
    let d = first_holds (found (field_of p w.form x.name) rule.UnknownField x.at) _ b.0 b.1 in
    let t : Form = d.0 in
    let g = first_holds (access c at w.held) (λ _. Holds (record { form = t; held = held_in_field w.held t })) b.0 d.2
    in
    let same : record { form = t; held = held_in_field w.held t } ≡ b.0 = same_place _ b.0 g.2 in
    let o = object_with p w.form x.name t (found_is (field_of p w.form x.name) rule.UnknownField x.at t d.1) in
    let own = field_alone w.held t (ap (λ (v : Place). v.held) same ∙ later.alone) in
    let r = from_object w.form from.form o.0 o.1 o.2 h.form
    (subst (λ (k : Held). FitsHeld from.form k) own.0 h.held) in
    let l : StepLeads p from n.0 o.1 x.name = step_leads p s x from n.0 r.0 o.1 r.1 r.2 n.1 in
    let goes : GoesInto p t later.rest (as_own u.form)
    = subst (λ (v : Form). GoesInto p v later.rest (as_own u.form))
    (ap (λ (v : Place). as_own v.form) (sym same) ∙ own.1) later.goes in
    record {
      alone = own.0;
      rest = l.part.number ∷ later.rest;
      base = later.base ∙ l.base;
      fields = later.fields ∙ ap (λ (ys : List ℕ). ys ++ later.rest) l.fields
          ∙ append_assoc from.at.fields (l.part.number ∷ []) later.rest;
      goes = subst (λ (v : Form). GoesInto p (as_own v) (l.part.number ∷ later.rest) (as_own u.form)) (sym o.2)
          (object_goes p o.1 x.name t (as_own u.form) l.part later.rest o.3 l.numbered goes);
    }
  where
    same_place : (v w : Place) → Holds v ≡ Holds w → v ≡ w
    same_place v w k = cc k

-- ---- walks

-- what comes back to a local of which all is held fits it
own_fits : (p : Code) (t now : Form) (v new : Val) → SameButPermission t now → FitsHeld now held.Unique
    → IsOfForm p now v → (IsOfForm p (as_own t) v → IsOfForm p (as_own t) new) → IsOfForm p now new
own_fits p f.Int f.Int v new s h i go = go i
own_fits p f.Int f.Bool v new s h i go = absurd s
own_fits p f.Int (f.Object q k) v new s h i go = absurd s
own_fits p f.Bool f.Int v new s h i go = absurd s
own_fits p f.Bool f.Bool v new s h i go = go i
own_fits p f.Bool (f.Object q k) v new s h i go = absurd s
own_fits p (f.Object q k) f.Int v new s h i go = absurd s
own_fits p (f.Object q k) f.Bool v new s h i go = absurd s
own_fits p (f.Object q k) (f.Object r l) v new s h i go =
    let none : FitsPermission r held.None = no_member r held.Unique h (λ g d. absurd (cc d)) in
    let there = subst (λ (m : Kind). IsOfForm p (f.Object perm.Unique m) v → IsOfForm p (f.Object perm.Unique m) new) s
    go (sym (as_unique p r l v none) ∙ i.0, i.1) in
    (as_unique p r l new none ∙ there.0, there.1)

-- A state that comes is one that fits.
pub state_so : (p : Code) (d : Context) (o : Outcome State) → Comes (FitsContext p d) o → IsStateOf p d o
state_so p d (Fine s) h = h
state_so p d (Traps code) h = tt
state_so p d Lacks h = h

-- a write back to a local's place
local_written : (p : Code) (d : Context) (t : State) (x : ℕ) (l : Local) (fields : List ℕ) (u : Form) (v : Val)
    → FitsContext p d t → d.local x ≡ Some l → l.held ≡ held.Unique → GoesInto p (as_own l.form) fields u
    → IsOfForm p u v → Comes (FitsContext p d) (write_in t (InLocal x) fields v)
local_written p d t x l fields u v z e a g i = subst
    (λ (o : Option Bound). Comes (FitsContext p d) (there o >>= λ b. bind x b.form (put_at fields v b.value) t))
    (sym b.is)
    (low_then (FitsContext p d) (put_at fields v b.bound.value)
    (λ y. Fine (with_bound x (Some (record { form = b.bound.form; value = y })) t))
    (bound_changed p d t x (Some (record { form = b.bound.form; value = put_at fields v b.bound.value })) z
    (λ k j n. subst (λ (y : Local). HasBound p y (Some new)) (same_Some l k (sym e ∙ j)) (new, refl, fits))))
  where
    b : FitsLocal p t x (place_held l)
    b = z.local x l e (subst (λ (h : Held). has_value (record { form = l.form; held = h }) ≡ true) (sym a) refl)

    new : Bound
    new = record { form = b.bound.form; value = put_at fields v b.bound.value }

    fits : FitsPlace p (place_held l) new.form new.value
    fits = record {
      form = b.fits.form;
      held = b.fits.held;
      members = b.fits.members;
      value = own_fits p l.form b.bound.form b.bound.value new.value b.fits.form
          (subst (λ (h : Held). FitsHeld b.bound.form h) a b.fits.held) b.fits.value
          (λ j. g b.bound.value v j i);
    }

-- What was read as unique may come back to its place.
pub values_come_back : ValuesComeBack
values_come_back p c d s t path w x v m z e a i n same j =
    let g = first_holds (found (c.local path.root.name) rule.UnknownName path.root.at) _ w e in
    let l : Local = g.0 in
    let visible : c.local path.root.name ≡ Some l
    = found_is (c.local path.root.name) rule.UnknownName path.root.at l g.1 in
    let b : FitsLocal p s path.root.name (place_held l) = z.local path.root.name l visible
    (root_value p c path.root.at path.steps (place_held l) w g.2
    (λ _. subst (λ (h : Held). has_value (record { form = w.form; held = h }) ≡ true) (sym a) refl)) in
    let y = fine_first (there (s.locals path.root.name))
    (λ b. steps p s path.steps (local_place path.root.name b)) x i in
    let it : b.bound ≡ y.0 = same_Some b.bound y.0 (sym b.is ∙ there_is (s.locals path.root.name) y.0 y.1) in
    let k : StepsLead p (place_held l) w (local_place path.root.name b.bound) x
    = steps_lead p c s m z path.root.at path.steps (place_held l) w (local_place path.root.name b.bound) x b.fits g.2 a
    (subst (λ (r : Bound). steps p s path.steps (local_place path.root.name r) ≡ Fine x) (sym it) y.2) in
    state_so p d (write t x.at v)
    (subst (λ (r : Base). Comes (FitsContext p d) (write_in t r x.at.fields v)) (sym k.base)
    (subst (λ (fs : List ℕ). Comes (FitsContext p d) (write_in t (InLocal path.root.name) fs v)) (sym k.fields)
    (local_written p d t path.root.name l k.rest (as_own w.form) v n (same ∙ visible) k.alone k.goes j)))
