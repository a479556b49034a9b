-- Where the declarations of a program hold, no method of a class has the name of a field.
use Rattle.std.proofs.Common.{◌≡◌, ℕ, zero, suc, nat_eq, Bool}
use Rattle.std.proofs.Common.{true, false, ◌||◌, not, if◌then◌else◌, List, [], ◌∷◌, ◌++◌, map}
use Rattle.std.proofs.Common.{Option, None, Some, refl, sym, ap, ◌∙◌, ◌<◌, length, get_or, arith}
use Rattle.std.specs.Prelude.{option_map, find, filter_map, position, ⊤}
use Rattle.std.specs.List.{list_any, cons_option}
use Rattle.std.proofs.lemmas.List.Quantifiers.{position-Some}
use Rattle.std.proofs.lemmas.Bool.{or_right, eqb-true, not-true, or_parts, or_from, or_left, both_ways}
use Rattle.ae_text.specs.declared.refusal.Rule.TheVariants as rule
use Rattle.ae_tree.specs.declared.tree.NameAt.{NameAt}
use Rattle.ae_tree.specs.declared.tree.Field.{Field}
use Rattle.ae_tree.specs.declared.tree.Class.{Class}
use Rattle.ae_tree.specs.Plain.{Definition, Code}
use Rattle.ae_rules.specs.declared.table.Member.TheVariants as member
use Rattle.ae_rules.specs.Verdict.{Holds, require, each, in_turn, given}
use Rattle.ae_rules.specs.Lookups.{Names, class_at, method_at, is_called}
use Rattle.ae_rules.specs.Lookups.{field_number, method_number, member_called, member_names}
use Rattle.ae_rules.specs.Table.{no_names, and_also, is_new, tops_differ}
use Rattle.ae_rules.specs.Table.{members_differ, TableHolds}
use Rattle.ae_calls.proofs.from_rules.PathLemmas.{first_holds, each_holds}
use Rattle.ae_calls.proofs.from_rules.SeenLemmas.{required}
use Rattle.ae_calls.proofs.from_judge.LookupLemmas.{of_field}

abbrev has_this : ℕ → List NameAt → Bool
has_this y xs = list_any (λ (x : NameAt). nat_eq x.name y) xs

-- a name that is new is none of those before
new_is_other : (x : NameAt) (e l : Names) (y : ℕ) → is_new rule.DuplicateMember x e ≡ Holds l → e y ≡ true
    → nat_eq x.name y ≡ false
new_is_other x e l y h k =
    let t = first_holds (require (not (e x.name)) rule.DuplicateMember x.at) _ l h in
    let n : e x.name ≡ false = not-true (e x.name)
    (required (not (e x.name)) rule.DuplicateMember x.at t.0 t.1) in
    by_test (nat_eq x.name y) refl n
  where
    by_test : (b : Bool) → nat_eq x.name y ≡ b → e x.name ≡ false → b ≡ false
    by_test true q n = absurd (both_ways (e y) (ap e (sym (eqb-true x.name y q)) ∙ n) k)
    by_test false q n = refl

-- then it is known with them
new_is_known : (x : NameAt) (e l : Names) → is_new rule.DuplicateMember x e ≡ Holds l → l ≡ and_also x.name e
new_is_known x e l h =
    let t = first_holds (require (not (e x.name)) rule.DuplicateMember x.at) _ l h in same t.2
  where
    same : Holds (and_also x.name e) ≡ Holds l → l ≡ and_also x.name e
    same q = cc

-- none of later names is one of those before
later_differ : (xs : List NameAt) (e l : Names) (y : ℕ) → in_turn (is_new rule.DuplicateMember) xs e ≡ Holds l
    → e y ≡ true → has_this y xs ≡ false
later_differ [] e l y h k = refl
later_differ (x ∷ xs) e l y h k =
    let t = first_holds (is_new rule.DuplicateMember x e) _ l h in
    or_from (nat_eq x.name y) (has_this y xs) (new_is_other x e t.0 y t.1 k)
    (later_differ xs t.0 l y t.2 (ap (λ (f : Names). f y) (new_is_known x e t.0 t.1)
    ∙ known_still (nat_eq x.name y) (e y) k))
  where
    known_still : (a b : Bool) → b ≡ true → (a || b) ≡ true
    known_still true b q = refl
    known_still false b q = q

-- nor one of the first of them
second_differ : (xs ys : List NameAt) (e l : Names) (y : ℕ)
    → in_turn (is_new rule.DuplicateMember) (xs ++ ys) e ≡ Holds l → (e y || has_this y xs) ≡ true
    → has_this y ys ≡ false
second_differ [] ys e l y h k = later_differ ys e l y h (no_other (e y) k)
  where
    no_other : (b : Bool) → (b || false) ≡ true → b ≡ true
    no_other true q = refl
    no_other false q = q
second_differ (x ∷ xs) ys e l y h k =
    let t = first_holds (is_new rule.DuplicateMember x e) _ l h in
    second_differ xs ys t.0 l y t.2 (ap (λ (f : Names). f y || has_this y xs) (new_is_known x e t.0 t.1)
    ∙ regrouped (nat_eq x.name y) (e y) (has_this y xs) k)
  where
    regrouped : (a b d : Bool) → (b || (a || d)) ≡ true → ((a || b) || d) ≡ true
    regrouped true b d q = refl
    regrouped false true d q = refl
    regrouped false false d q = q

-- a field with this name has it
name_at_place : (ds : List Field) (y n : ℕ) (d : Field) → n < length ds → nat_eq (get_or ds n d).name.name y ≡ true
    → has_this y (map (λ (z : Field). z.name) ds) ≡ true
name_at_place [] y n d l h = absurd (omega (arith, l))
name_at_place (z ∷ ds) y zero d l h = or_left (nat_eq z.name.name y) (has_this y (map (λ (w : Field). w.name) ds)) h
name_at_place (z ∷ ds) y (suc n) d l h = or_right (nat_eq z.name.name y) (has_this y (map (λ (w : Field). w.name) ds))
    (name_at_place ds y n d (omega (arith, l)) h)

field_has_name : (ds : List Field) (y n : ℕ) → position (λ (d : Field). nat_eq d.name.name y) ds ≡ Some n
    → has_this y (map (λ (d : Field). d.name) ds) ≡ true
field_has_name [] y n h = absurd (cc)
field_has_name (d ∷ ds) y n h =
    let r = position-Some (λ (z : Field). nat_eq z.name.name y) (d ∷ ds) n d h in
    name_at_place (d ∷ ds) y n d r.0 r.1

-- where no method has this name none is found
no_method_found : (p : Code) (ms : List ℕ) (y : ℕ)
    → has_this y (filter_map (λ n. option_map (λ (m : Definition). m.name) (method_at p n)) ms) ≡ false
    → find (is_called p y) ms ≡ None
no_method_found p [] y h = refl
no_method_found p (n ∷ ms) y h = by_method (method_at p n) refl h (no_method_found p ms y)
  where
    others : List NameAt
    others = filter_map (λ n. option_map (λ (m : Definition). m.name) (method_at p n)) ms

    by_method : (o : Option Definition) → method_at p n ≡ o
        → has_this y (cons_option (option_map (λ (m : Definition). m.name) o) others) ≡ false
        → (has_this y others ≡ false → find (is_called p y) ms ≡ None) → find (is_called p y) (n ∷ ms) ≡ None
    by_method None e h ih =
        ap (λ (o : Option Definition). if given o false (λ (m : Definition). nat_eq m.name.name y) then Some n else
        find (is_called p y) ms) e ∙ ih h
    by_method (Some m) e h ih =
        let r = or_parts (nat_eq m.name.name y) (has_this y others) h in
        ap (λ (o : Option Definition). if given o false (λ (m : Definition). nat_eq m.name.name y) then Some n else
        find (is_called p y) ms) e
        ∙ ap (λ b. if b then Some n else find (is_called p y) ms) r.0 ∙ ih r.1

-- the members of each class differ
class_differs : (p : Code) (n : ℕ) (c : Class) → TableHolds p → class_at p n ≡ Some c
    → (t : ⊤) × (members_differ p c ≡ Holds t)
class_differs p n c h e =
    let a = first_holds (tops_differ p) _ tt h in
    let b = first_holds (each (members_differ p) p.classes) _ tt a.2 in
    each_holds (members_differ p) p.classes b.0 n c b.1 e

-- a class with a field of this name has no method of this name
pub fields_are_no_methods : (p : Code) (n x k : ℕ) (c : Class) → TableHolds p → class_at p n ≡ Some c
    → Some (member.Field k) ≡ member_called p c x → None ≡ method_number p c x
fields_are_no_methods p n x k c h e f =
    let d = class_differs p n c h e in
    let names = first_holds (in_turn (is_new rule.DuplicateMember) (member_names p c) no_names) _ d.0 d.1 in
    sym (no_method_found p c.methods x
    (second_differ (map (λ (z : Field). z.name) c.fields) _ no_names names.0 x names.1
    (field_has_name c.fields x k (of_field (field_number c x) (method_number p c x) k f))))
