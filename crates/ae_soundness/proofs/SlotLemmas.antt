-- The field to which a judged walk leads is there, from a state that fits.
use Rattle.std.proofs.Common.{◌≡◌, refl, sym, ap, ◌∙◌, subst, false, List, [], ◌∷◌, ◌++◌, Option, Some}
use Rattle.ae_text.specs.declared.refusal.Rule.TheVariants as rule
use Rattle.ae_tree.specs.declared.tree.NameAt.{NameAt}
use Rattle.ae_tree.specs.declared.form.Kind.{Kind}
use Rattle.ae_tree.specs.declared.form.Form.{Form}
use Rattle.ae_tree.specs.Plain.{Code}
use Rattle.ae_rules.specs.Verdict.{Holds, found}
use Rattle.ae_rules.specs.Lookups.{is_empty, field_of, field_of_kind}
use Rattle.ae_rules.specs.Context.{access}
use Rattle.ae_rules.specs.Walks.{Place, held_in_field, owner, step, walk}
use Rattle.ae_rules.specs.Laws.{WalksGoByOwners}
use Rattle.ae_semantics.specs.Places.{Outcome, Fine, Traps, Lacks, ◌>>=◌, there, OpenedObject, NumberedField}
use Rattle.ae_semantics.specs.Places.{last_item, reach, slot_in}
use Rattle.ae_soundness.specs.Laws.{IsReachedAs, IsSlotOf, SlotsAreFound}
use Rattle.ae_soundness.proofs.FieldLemmas.{FieldThere, field_there}
use Rattle.ae_soundness.proofs.PlaceLemmas.{object_with, objects_are_reached}
use Rattle.ae_soundness.proofs.from_rules.PathLemmas.{first_holds}
use Rattle.ae_soundness.proofs.from_rules.SeenLemmas.{found_is}

-- a list that is not empty has a last item
abbrev EndsIn : List NameAt → List NameAt → NameAt → Type 0
EndsIn xs ys x = (xs ≡ ys ++ x ∷ []) × (last_item xs ≡ Some x)

last_of : (y : NameAt) (ys : List NameAt) → (zs : List NameAt) × (x : NameAt) × EndsIn (y ∷ ys) zs x
last_of y [] = ([], y, (refl, refl))
last_of y (z ∷ zs) =
    let r = last_of z zs in (y ∷ r.0, r.1, (ap (λ xs. y ∷ xs) r.2.0, r.2.1))

ends_in : (xs : List NameAt) → is_empty xs ≡ false → (zs : List NameAt) × (x : NameAt) × EndsIn xs zs x
ends_in [] e = absurd (cc)
ends_in (y ∷ ys) e = last_of y ys

-- the field of an object
slot_there : (p : Code) (k : Kind) (x : NameAt) (t : Form) → field_of_kind p k x.name ≡ Some t → (o : OpenedObject)
    → IsReachedAs p k (Fine o) → IsSlotOf p t (slot_in p o x)
slot_there p k x t e o r =
    let y : FieldThere p o x.name t = field_there p k x.name t e o r in
    let whole : IsReachedAs p o.kind (Fine o) = subst (λ (l : Kind). IsReachedAs p l (Fine o)) (sym r.0) r in
    subst (λ (d : Option NumberedField). IsSlotOf p t (there d >>= λ d. Fine (record { object = o; part = d })))
    (sym y.numbered) (whole, y.form, (λ w i. y.changed [] w (λ _ _. i)), y.value, y.there, y.fits)

then_slot : (p : Code) (k : Kind) (x : NameAt) (t : Form) → field_of_kind p k x.name ≡ Some t
    → (o : Outcome OpenedObject) → IsReachedAs p k o → IsSlotOf p t (o >>= λ y. slot_in p y x)
then_slot p k x t e (Fine o) r = slot_there p k x t e o r
then_slot p k x t e (Traps code) r = r
then_slot p k x t e Lacks r = absurd r

pub slots_are_found : WalksGoByOwners → SlotsAreFound
slots_are_found law p c s path w m z e n =
    let l = ends_in path.steps n in
    let x : NameAt = l.1 in
    let a = first_holds (walk p c (owner path)) (step p c path.root.at x) w (sym (law p c path l.0 x l.2.0) ∙ e) in
    let b = first_holds (found (field_of p a.0.form x.name) rule.UnknownField x.at) _ w a.2 in
    let d = first_holds (access c path.root.at a.0.held)
    (λ _. Holds (record { form = b.0; held = held_in_field a.0.held b.0 })) w b.2 in
    let same : b.0 ≡ w.form = ap (λ (v : Place). v.form) (same_place d.2) in
    let o = object_with p a.0.form x.name b.0 (found_is (field_of p a.0.form x.name) rule.UnknownField x.at b.0 b.1) in
    subst (λ (y : Option NameAt). IsSlotOf p w.form (there y >>= λ u. reach p s (owner path) >>= λ v. slot_in p v u))
    (sym l.2.1)
    (subst (λ (t : Form). IsSlotOf p t (reach p s (owner path) >>= λ v. slot_in p v x)) same
    (then_slot p o.1 x b.0 o.3 (reach p s (owner path))
    (objects_are_reached p c s (owner path) a.0 o.0 o.1 path.root.at m z a.1 o.2 d.1)))
  where
    same_place : {u v : Place} → Holds u ≡ Holds v → u ≡ v
    same_place h = cc h
