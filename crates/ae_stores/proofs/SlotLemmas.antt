-- Facts on fields at which writes are aimed: where they lie, and that a write of one is a write there.
use Rattle.std.proofs.Common.{◌≡◌, refl, sym, ap, ◌∙◌, subst, ℕ, List, [], ◌∷◌, ◌++◌, Option, Some}
use Rattle.std.specs.Prelude.{is_some, true}
use Rattle.ae_tree.specs.declared.tree.NameAt.{NameAt}
use Rattle.ae_tree.specs.declared.tree.Path.{Path}
use Rattle.ae_tree.specs.Plain.{Code, Expression}
use Rattle.ae_rules.specs.Walks.{without_last, owner}
use Rattle.ae_semantics.specs.Values.{Val}
use Rattle.ae_semantics.specs.Places.{Outcome, Fine, Traps, Lacks, ◌>>=◌, there, State, OpenedObject, ObjectField}
use Rattle.ae_semantics.specs.Places.{numbered_field, reach, last_item, slot, slot_in, write, write_field}
use Rattle.ae_semantics.specs.Calls.{without_moved}
use Rattle.ae_semantics.specs.Expressions.{value}
use Rattle.ae_semantics.specs.Meaning.{stored, name_moved}
use Rattle.ae_stores.specs.Stand.{whole_at, KeepsObject}
use Rattle.ae_stores.specs.Targets.{SlotAt, aimed, aimed_in, field_aimed, path_along}
use Rattle.ae_stores.proofs.OutcomeLemmas.{fine_first}
use Rattle.ae_stores.proofs.StandLemmas.{reach_stands}
use Rattle.ae_stores.proofs.WriteLemmas.{field_keeps_object}

-- the last of a list behind others
pub last_behind : {A : Type 0} (xs : List A) (x : A) → last_item (xs ++ x ∷ []) ≡ Some x
last_behind [] x = refl
last_behind (y ∷ []) x = refl
last_behind (y ∷ z ∷ xs) x = last_behind (z ∷ xs) x

-- the others before it
pub others_before : {A : Type 0} (xs : List A) (x : A) → without_last (xs ++ x ∷ []) ≡ xs
others_before [] x = refl
others_before (y ∷ []) x = refl
others_before (y ∷ z ∷ xs) x = ap (λ ys. y ∷ ys) (others_before (z ∷ xs) x)

-- the last field of a path is one of the object to which the other steps lead
pub field_by_owner : (p : Code) (s : State) (path : Path) (l : NameAt) (xs : List NameAt) → path.steps ≡ xs ++ l ∷ []
    → field_aimed p s path ≡ (reach p s (path_along path.root xs) >>= λ o. aimed_in p o l)
field_by_owner p s path l xs e =
    ap (λ (ys : List NameAt). (there (last_item ys) >>= λ x. reach p s (path_along path.root (without_last ys))
    >>= λ o. slot_in p o x) >>= aimed) e
    ∙ ap (λ (y : Option NameAt). (there y >>= λ x. reach p s (path_along path.root (without_last (xs ++ l ∷ [])))
    >>= λ o. slot_in p o x) >>= aimed) (last_behind xs l)
    ∙ ap (λ ys. (reach p s (path_along path.root ys) >>= λ o. slot_in p o l) >>= aimed) (others_before xs l)
    ∙ by_object (reach p s (path_along path.root xs))
  where
    by_object : (r : Outcome OpenedObject) → ((r >>= λ o. slot_in p o l) >>= aimed)
        ≡ (r >>= λ o. aimed_in p o l)
    by_object (Fine o) = refl
    by_object (Traps code) = refl
    by_object Lacks = refl

-- once the value is known, a write is one of the field at which it is aimed
pub stored_in_field : (p : Code) (s : State) (path : Path) (e : Expression) (v : Val) → value p s e ≡ Fine v
    → stored p path e s ≡ (field_aimed p s path
    >>= λ x. write s x.at v
    >>= λ t. Fine (without_moved (name_moved x.form e) t))
stored_in_field p s path e v is =
    ap (λ o. o >>= λ w. slot p s path >>= λ x. write_field s x.object x.part.number w
    >>= λ t. Fine (without_moved (name_moved x.part.form e) t)) is
    ∙ by_slot (slot p s path)
  where
    by_slot : (o : Outcome ObjectField) → (o >>= λ x. write_field s x.object x.part.number v
        >>= λ t. Fine (without_moved (name_moved x.part.form e) t))
        ≡ ((o >>= aimed) >>= λ x. write s x.at v >>= λ t. Fine (without_moved (name_moved x.form e) t))
    by_slot (Fine x) = refl
    by_slot (Traps code) = refl
    by_slot Lacks = refl

-- what is found of a field at which a write is aimed
abbrev pub IsAimed : Code → State → Path → SlotAt → Type 0
IsAimed p s path x = (o : OpenedObject) × (i : ℕ) × (l : NameAt) × (reach p s (owner path) ≡ Fine o)
    × (x.at.base ≡ o.at.base) × (x.at.fields ≡ o.at.fields ++ i ∷ [])

-- a field at which a write is aimed is one of an object that is reached
aimed_at_object : (p : Code) (s : State) (path : Path) (x : SlotAt) → field_aimed p s path ≡ Fine x
    → IsAimed p s path x
aimed_at_object p s path x e =
    let a = fine_first (slot p s path) aimed x e in
    let b = fine_first (there (last_item path.steps)) (λ y. reach p s (owner path) >>= λ o. slot_in p o y) a.0 a.1 in
    let d = fine_first (reach p s (owner path)) (λ o. slot_in p o b.0) a.0 b.2 in
    let n = fine_first (there (numbered_field p d.0.kind b.0.name))
    (λ n. Fine (record { object = d.0; part = n })) a.0 d.2
    in
    let same : record { object = d.0; part = n.0 } ≡ a.0 = cc (n.2) in
    let found : record {
      at = record { base = a.0.object.at.base; fields = a.0.object.at.fields ++ a.0.part.number ∷ [] };
      form = a.0.part.form;
    } ≡ x = cc (a.2) in (
      d.0,
      n.0.number,
      b.0,
      d.1,
      sym (ap (λ (y : SlotAt). y.at.base) found) ∙ sym (ap (λ (y : ObjectField). y.object.at.base) same),
      sym (ap (λ (y : SlotAt). y.at.fields) found)
          ∙ sym (ap (λ (y : ObjectField). y.object.at.fields ++ y.part.number ∷ []) same),
    )

-- what has such a field is there
pub slot_is_there : (p : Code) (s : State) (path : Path) (x : SlotAt) → field_aimed p s path ≡ Fine x
    → is_some (whole_at s x.at.base) ≡ true
slot_is_there p s path x e =
    let a = aimed_at_object p s path x e in
    let h = reach_stands p s (owner path) a.0 a.3 in
    ap (λ b. is_some (whole_at s b)) a.4 ∙ ap is_some h.1

-- what has such a field stays an object when the field is written
pub slot_keeps_object : (p : Code) (s : State) (path : Path) (x : SlotAt) (new : Val) → field_aimed p s path ≡ Fine x
    → KeepsObject x.at.fields new
slot_keeps_object p s path x new e =
    let a = aimed_at_object p s path x e in
    subst (λ is. KeepsObject is new) (sym a.5) (field_keeps_object a.0.at.fields a.1 new)
