-- Facts on a field's value taken out: its place is that to which the whole path leads.
use Rattle.std.proofs.Common.{◌≡◌, refl, sym, ap, subst, ◌∙◌, Bool, true, false, if◌then◌else◌, List, [], ◌∷◌}
use Rattle.std.proofs.Common.{Option, None}
use Rattle.std.proofs.Common.{Some}
use Rattle.std.proofs.lemmas.Option.{same_Some, none-some}
use Rattle.ae_tree.specs.declared.tree.NameAt.{NameAt}
use Rattle.ae_tree.specs.declared.tree.Path.{Path}
use Rattle.ae_tree.specs.Plain.{Code}
use Rattle.ae_rules.specs.Walks.{without_last, owner}
use Rattle.ae_semantics.specs.Values.{Val, Null, value_fits}
use Rattle.ae_semantics.specs.Places.{Outcome, Fine, Traps, Lacks, ◌>>=◌, there, State, PlaceFound, OpenedObject}
use Rattle.ae_semantics.specs.Places.{NumberedField, numbered_field, field_value, field_place, met, into_field, step_to}
use Rattle.ae_semantics.specs.Places.{steps, local_place, walk_to, open_place, reach, Bound, write}
use Rattle.ae_semantics.specs.Places.{write_field, last_item}
use Rattle.ae_semantics.specs.Places.{slot_in}
use Rattle.ae_semantics.specs.Meaning.{take_field, take_from}
use Rattle.std.specs.Prelude.{is_some}
use Rattle.ae_rules.specs.Lookups.{is_empty}
use Rattle.ae_stores.specs.Targets.{ValueAt, place_aimed, value_aimed}
use Rattle.ae_stores.specs.Stand.{whole_at, value_standing, taken_at, KeepsObject}
use Rattle.ae_rules.specs.Verdict.{given}
use Rattle.ae_semantics.specs.Places.{Address}
use Rattle.ae_values.specs.Inside.{value_inside}
use Rattle.ae_stores.proofs.OutcomeLemmas.{fine_first, passed_is}
use Rattle.ae_stores.proofs.StandLemmas.{walk_stands}
use Rattle.ae_stores.proofs.WriteLemmas.{field_keeps_object}

-- what comes last as it is
ends_as_it_is : {A : Type 0} (o : Outcome A) → (o >>= λ x. Fine x) ≡ o
ends_as_it_is (Fine x) = refl
ends_as_it_is (Traps code) = refl
ends_as_it_is Lacks = refl

-- steps are all but the last, and then the last
steps_to_last : (p : Code) (s : State) (xs : List NameAt) (l : NameAt) → last_item xs ≡ Some l → (from : PlaceFound)
    → steps p s xs from ≡ (steps p s (without_last xs) from >>= step_to p s l)
steps_to_last p s [] l e from = absurd (none-some l e)
steps_to_last p s (x ∷ []) l e from = ends_as_it_is (step_to p s x from)
    ∙ ap (λ y. step_to p s y from) (same_Some x l e)
steps_to_last p s (x ∷ y ∷ xs) l e from = by_step (λ z. steps_to_last p s (y ∷ xs) l e z) (step_to p s x from)
  where
    by_step : ((z : PlaceFound) → steps p s (y ∷ xs) z ≡ (steps p s (without_last (y ∷ xs)) z >>= step_to p s l))
        → (o : Outcome PlaceFound)
        → (o >>= steps p s (y ∷ xs)) ≡ ((o >>= steps p s (without_last (y ∷ xs))) >>= step_to p s l)
    by_step further (Fine z) = further z
    by_step further (Traps code) = refl
    by_step further Lacks = refl

-- a walk is one to the object that has the last field, and then the last step
walk_by_owner : (p : Code) (s : State) (path : Path) (l : NameAt) → last_item path.steps ≡ Some l
    → walk_to p s path ≡ (walk_to p s (owner path) >>= step_to p s l)
walk_by_owner p s path l e = by_root (s.locals path.root.name)
  where
    by_root : (o : Option Bound) → (there o >>= λ b. steps p s path.steps (local_place path.root.name b))
        ≡ ((there o >>= λ b. steps p s (without_last path.steps) (local_place path.root.name b)) >>= step_to p s l)
    by_root None = refl
    by_root (Some b) = steps_to_last p s path.steps l e (local_place path.root.name b)

-- null in the place, and what stood there
abbrev pub emptied_at : State → PlaceFound → Outcome (Val × State)
emptied_at s x = write s x.at Null >>= λ t. Fine (x.value, t)

-- the same at the address of the value
abbrev pub cleared : State → ValueAt → Outcome (Val × State)
cleared s x = write s x.at Null >>= λ t. Fine (x.value, t)

-- taking from a field of an object is emptying the place to which the step leads
from_object : (p : Code) (s : State) (o : OpenedObject) (l : NameAt)
    → (slot_in p o l >>= take_from p s) ≡ (into_field p o l.name >>= emptied_at s)
from_object p s o l = by_field (numbered_field p o.kind l.name)
  where
    by_test : (x : PlaceFound) (b : Bool)
        → ((if b then Fine x else Traps 3) >>= λ place. write s x.at Null >>= λ t. Fine (place.value, t))
        ≡ ((if b then Fine x else Traps 3) >>= emptied_at s)
    by_test x true = refl
    by_test x false = refl

    by_value : (d : NumberedField) (v : Option Val)
        → (there v >>= λ v. met p (field_place o d v) >>= λ place. write_field s o d.number Null
        >>= λ t. Fine (place.value, t))
        ≡ ((there v >>= λ v. met p (field_place o d v)) >>= emptied_at s)
    by_value d None = refl
    by_value d (Some v) = by_test (field_place o d v) (value_fits p d.form v)

    by_field : (d : Option NumberedField)
        → ((there d >>= λ d. Fine (record { object = o; part = d })) >>= take_from p s)
        ≡ ((there d >>= λ d. there (field_value o.tree d.number) >>= λ v. met p (field_place o d v)) >>= emptied_at s)
    by_field None = refl
    by_field (Some d) = by_value d (field_value o.tree d.number)

-- the same from the place of the object
from_place : (p : Code) (s : State) (l : NameAt) (w : Outcome PlaceFound)
    → (((w >>= open_place p s) >>= λ o. slot_in p o l) >>= take_from p s)
    ≡ ((w >>= step_to p s l) >>= emptied_at s)
from_place p s l Lacks = refl
from_place p s l (Traps code) = refl
from_place p s l (Fine x) = by_object (open_place p s x)
  where
    by_object : (o : Outcome OpenedObject) → ((o >>= λ o. slot_in p o l) >>= take_from p s)
        ≡ ((o >>= λ o. into_field p o l.name) >>= emptied_at s)
    by_object (Fine o) = from_object p s o l
    by_object (Traps code) = refl
    by_object Lacks = refl

-- where a path has a last step, taking its field is emptying the place to which it leads
taken_by_walk : (p : Code) (s : State) (path : Path) (l : NameAt) → last_item path.steps ≡ Some l
    → take_field p s path ≡ (walk_to p s path >>= emptied_at s)
taken_by_walk p s path l e =
    ap (λ (o : Option NameAt). (there o >>= λ x. reach p s (owner path) >>= λ o. slot_in p o x) >>= take_from p s) e
    ∙ from_place p s l (walk_to p s (owner path))
    ∙ ap (λ (o : Outcome PlaceFound). o >>= emptied_at s) (sym (walk_by_owner p s path l e))

-- the same of the value to which it leads
pub taken_by_value : (p : Code) (s : State) (path : Path) (l : NameAt) → last_item path.steps ≡ Some l
    → take_field p s path ≡ (value_aimed p s path >>= cleared s)
taken_by_value p s path l e = taken_by_walk p s path l e ∙ by_place (walk_to p s path)
  where
    by_place : (o : Outcome PlaceFound) → (o >>= emptied_at s)
        ≡ ((o >>= λ x. Fine (record { at = x.at; value = x.value })) >>= cleared s)
    by_place (Fine x) = refl
    by_place (Traps code) = refl
    by_place Lacks = refl

-- a path without steps has no field to take
pub none_to_take : (p : Code) (s : State) (path : Path) → is_empty path.steps ≡ true → take_field p s path ≡ Lacks
none_to_take p s path e =
    ap (λ (o : Option NameAt). (there o >>= λ x. reach p s (owner path) >>= λ o. slot_in p o x) >>= take_from p s)
    (by_steps path.steps e)
  where
    by_steps : (xs : List NameAt) → is_empty xs ≡ true → last_item xs ≡ None
    by_steps [] e = refl
    by_steps (x ∷ xs) e = absurd (cc e)

-- a path with steps has a last one
pub last_is_there : (xs : List NameAt) → is_empty xs ≡ false → (l : NameAt) × (last_item xs ≡ Some l)
last_is_there [] e = absurd (cc e)
last_is_there (x ∷ []) e = (x, refl)
last_is_there (x ∷ y ∷ xs) e = last_is_there (y ∷ xs) refl

-- the place to which a path with a last step leads is a field: what has it stays an object when it is written
place_keeps_object : (p : Code) (s : State) (path : Path) (l : NameAt) (x : PlaceFound) (new : Val)
    → last_item path.steps ≡ Some l → walk_to p s path ≡ Fine x → KeepsObject x.at.fields new
place_keeps_object p s path l x new e is =
    let a = fine_first (walk_to p s (owner path)) (step_to p s l) x (sym (walk_by_owner p s path l e) ∙ is) in
    let b = fine_first (open_place p s a.0) (λ o. into_field p o l.name) x a.2 in
    let d = fine_first (there (numbered_field p b.0.kind l.name))
    (λ (d : NumberedField). there (field_value b.0.tree d.number) >>= λ v. met p (field_place b.0 d v)) x b.2 in
    let v = fine_first (there (field_value b.0.tree d.0.number)) (λ v. met p (field_place b.0 d.0 v)) x d.2 in
    let z : PlaceFound = field_place b.0 d.0 v.0 in
    subst (λ (y : PlaceFound). KeepsObject y.at.fields new) (passed_is (value_fits p z.form z.value) z x v.2)
    (field_keeps_object b.0.at.fields d.0.number new)

-- what such a value lies in stays an object when another is written in its place
pub value_keeps_object : (p : Code) (s : State) (path : Path) (l : NameAt) (x : ValueAt) (new : Val)
    → last_item path.steps ≡ Some l → value_aimed p s path ≡ Fine x → KeepsObject x.at.fields new
value_keeps_object p s path l x new e is =
    let a = fine_first (walk_to p s path) (λ y. Fine (record { at = y.at; value = y.value })) x is in
    let same : record { at = a.0.at; value = a.0.value } ≡ x = cc (a.2) in
    subst (λ (y : ValueAt). KeepsObject y.at.fields new) same (place_keeps_object p s path l a.0 new e a.1)

-- what such a value lies in is there
pub value_is_there : (p : Code) (s : State) (path : Path) (x : ValueAt) → value_aimed p s path ≡ Fine x
    → is_some (whole_at s x.at.base) ≡ true
value_is_there p s path x e =
    let a = fine_first (walk_to p s path) (λ y. Fine (record { at = y.at; value = y.value })) x e in
    let same : record { at = a.0.at; value = a.0.value } ≡ x = cc (a.2) in
    ap (λ (y : ValueAt). is_some (whole_at s y.at.base)) (sym same)
    ∙ ap is_some ((walk_stands p s path a.0 a.1).1)

-- where a path has a last step, taking its field is taking what stands where it leads
pub taken_in_place : (p : Code) (s : State) (path : Path) (l : NameAt) → last_item path.steps ≡ Some l
    → take_field p s path ≡ (place_aimed p s path >>= λ a. taken_at s a.base a.fields)
taken_in_place p s path l e = taken_by_walk p s path l e ∙ by_place (walk_to p s path) refl
  where
    none : Option Val
    none = None

    by_place : (o : Outcome PlaceFound) → walk_to p s path ≡ o
        → (o >>= emptied_at s) ≡ ((o >>= λ x. Fine x.at) >>= λ a. taken_at s a.base a.fields)
    by_place (Fine x) e =
        let h = walk_stands p s path x e in
        sym (ap (λ (v : Option Val). there v >>= λ v. write s x.at Null >>= λ t. Fine (v, t))
        (ap (λ (w : Option Val). given w none (value_inside x.at.fields)) h.1 ∙ h.2))
    by_place (Traps code) e = refl
    by_place Lacks e = refl

-- what stands where a path leads is there
pub standing_is_there : (p : Code) (s : State) (path : Path) (a : Address) → place_aimed p s path ≡ Fine a
    → is_some (value_standing s a.base a.fields) ≡ true
standing_is_there p s path a e =
    let x = fine_first (walk_to p s path) (λ y. Fine y.at) a e in
    let h = walk_stands p s path x.0 x.1 in
    let same : x.0.at ≡ a = cc (x.2) in
    ap (λ (b : Address). is_some (value_standing s b.base b.fields)) (sym same)
    ∙ ap is_some (ap (λ (w : Option Val). given w none (value_inside x.0.at.fields)) h.1 ∙ h.2)
  where
    none : Option Val
    none = None
