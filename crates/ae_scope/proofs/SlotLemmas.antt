-- The table by name, and the stack of locals.
use Rattle.std.proofs.Common.{◌≡◌, ◌↔◌, ◌⊎◌, inl, inr, ℕ, ◌<◌, ◌≤◌, zero, suc, nat_eq, if◌then◌else◌, Bool, true}
use Rattle.std.proofs.Common.{false, List, [], ◌∷◌, ◌++◌, length, map, Option, None, Some, get_or, set, refl}
use Rattle.std.proofs.Common.{sym, ap, ◌∙◌, arith}
use mathlib.Core.Path.{fun_ext}
use Rattle.std.proofs.Math.ListN.{replicate}
use Rattle.std.proofs.lemmas.List.{get_or-set_same, get_or-set_other}
use Rattle.std.proofs.lemmas.Bool.{cases_eq}
use Rattle.std.specs.List.{slice_get}
use Rattle.std.specs.Option.{option_map}
use Rattle.std.proofs.lemmas.Option.{slice_get-get_or, slice_get_within, slice_get_cases}
use Rattle.std.proofs.lemmas.Grind.{common_steps}
use Rattle.std.proofs.lemmas.Bool.Decides.{nat_tests}
use Rattle.ae_rules.specs.declared.held.Held.TheVariants as held
use Rattle.ae_scope.specs.declared.slot.Slot.{Slot}
use Rattle.ae_scope.specs.Slots.{names, place_in, Tied, local_of, local_in, held_at}

-- no local has this name
absent : (xs : List Slot) (x : ℕ) → ((i : ℕ) → slice_get (names xs) i ≡ Some x → ⊥) → local_in xs x ≡ None
absent [] x h = refl
absent (s ∷ xs) x h =
    let rest = absent xs x (λ (i : ℕ) (e : slice_get (names xs) i ≡ Some x). h (suc i) e) in
    let here : s.name ≡ x → ⊥ = λ e. h 0 (ap Some e) in
    grind (arith, nat_tests, rest, here)

-- the one local with this name
present : (xs : List Slot) (x i : ℕ) → slice_get (names xs) i ≡ Some x
    → ((j : ℕ) → slice_get (names xs) j ≡ Some x → j ≡ i) → local_in xs x ≡ option_map local_of (slice_get xs i)
present [] x i e h = absurd (cc)
present (s ∷ xs) x zero e h = let n : s.name ≡ x = cc in grind (arith, nat_tests, n)
present (s ∷ xs) x (suc i) e h =
    let rest = present xs x i e (λ (j : ℕ) (f : slice_get (names xs) j ≡ Some x). let g : suc j ≡ suc i =
    h (suc j) f in omega arith) in
    let other : s.name ≡ x → ⊥ = λ n. let g : zero ≡ suc i = h 0 (ap Some n) in omega arith in
    grind (arith, nat_tests, rest, other)

-- where the table says nothing
pub lost : (at : List (Option ℕ)) (xs : List Slot) (x : ℕ) → Tied at (names xs) → place_in at x ≡ None
    → local_in xs x ≡ None
lost at xs x t e = absent xs x (λ (i : ℕ) (f : slice_get (names xs) i ≡ Some x). let g : Some i ≡ place_in at x =
    sym ((t x i).1 f) in absurd (cc))

-- where the table has a place
pub met : (at : List (Option ℕ)) (xs : List Slot) (x i : ℕ) → Tied at (names xs) → place_in at x ≡ Some i
    → local_in xs x ≡ option_map local_of (slice_get xs i)
met at xs x i t e = present xs x i ((t x i).0 e) (λ (j : ℕ) (f : slice_get (names xs) j ≡ Some x). let g : Some j
    ≡ Some i = sym ((t x j).1 f) ∙ e in cc)

-- a place of the table is one of the stack
pub within : (at : List (Option ℕ)) (xs : List Slot) (x i : ℕ) → Tied at (names xs) → place_in at x ≡ Some i
    → i < length xs
within at xs x i t e =
    let f : slice_get (map (λ (s : Slot). s.name) xs) i ≡ Some x = (t x i).0 e in
    grind (arith, common_steps, slice_get_within (names xs) i x f)

pub met_slot : (at : List (Option ℕ)) (xs : List Slot) (x i : ℕ) (s : Slot) → Tied at (names xs)
    → place_in at x ≡ Some i → s ≡ get_or xs i s → local_in xs x ≡ Some (local_of s)
met_slot at xs x i s t e r =
    let l : i < length xs = within at xs x i t e in
    met at xs x i t e ∙ ap (option_map local_of) (slice_get-get_or xs i s l ∙ ap Some (sym r))

-- ---- changes

abbrev none_at : Option ℕ
none_at = None

-- a longer table with nothing in its new places
no_places : (k y : ℕ) → get_or (replicate k None) y None ≡ none_at
no_places zero y = refl
no_places (suc k) zero = refl
no_places (suc k) (suc y) = no_places k y

padded : (old : List (Option ℕ)) (k y : ℕ) → place_in (old ++ replicate k None) y ≡ place_in old y
padded [] k y = no_places k y
padded (o ∷ old) k zero = refl
padded (o ∷ old) k (suc y) = padded old k y

-- a name that is not visible has no place
pub no_place : (at : List (Option ℕ)) (xs : List Slot) (x : ℕ) → Tied at (names xs) → local_in xs x ≡ None
    → place_in at x ≡ None
no_place at xs x t e = by_place (place_in at x) refl
  where
    by_place : (o : Option ℕ) → place_in at x ≡ o → o ≡ None
    by_place None f = refl
    by_place (Some i) f =
        let l : i < length xs = within at xs x i t f in
        let g : local_in xs x ≡ option_map local_of (slice_get xs i) = met at xs x i t f in
        absurd (grind (arith, common_steps, slice_get_cases xs i))

pub get_pushed : (ns : List ℕ) (x i y : ℕ) → (slice_get (ns ++ x ∷ []) i ≡ Some y) ↔ ((slice_get ns i ≡ Some y)
    ⊎ ((i ≡ length ns) × (x ≡ y)))
get_pushed [] x zero y = ((λ e. inr (refl, cc)), (λ h. elim h [ inl e ↦ absurd (cc) | inr e ↦ ap Some e.1 ]))
get_pushed [] x (suc i) y = (
  (λ e. absurd (cc)),
  (λ h. elim h [
    | inl e ↦ absurd (cc)
    | inr e ↦ absurd
        (omega (arith, e.0))
  ]),
)
get_pushed (n ∷ ns) x zero y = ((λ e. inl e), (λ h. elim h [ inl e ↦ e | inr e ↦ absurd (omega (arith, e.0)) ]))
get_pushed (n ∷ ns) x (suc i) y = (
  (λ e. elim ((get_pushed ns x i y).0 e) [ inl f ↦ inl f | inr f ↦ inr (omega (arith, f.0), f.1) ]),
  (λ h. (get_pushed ns x i y).1 (elim h [ inl f ↦ inl f | inr f ↦ inr (omega (arith, f.0), f.1) ])),
)

-- a new name at the stack's end
pub tied_push : (at : List (Option ℕ)) (ns : List ℕ) (x n : ℕ) → Tied at ns → n ≡ length ns → x < length at
    → place_in at x ≡ None → Tied (set at x (Some n)) (ns ++ x ∷ [])
tied_push at ns x n t l w e = λ y i. (forth y i, back y i)
  where
    forth : (y i : ℕ) → place_in (set at x (Some n)) y ≡ Some i → slice_get (ns ++ x ∷ []) i ≡ Some y
    forth y i f = elim (cases_eq y x) [
      | inl s ↦ (get_pushed ns x i y).1 (inr (grind (arith, common_steps, get_or-set_same at x (Some n) None)))
      | inr s ↦ (get_pushed ns x i y).1 (inl ((t y i).0 (sym (get_or-set_other at x y (Some n) None s) ∙ f)))
    ]

    back : (y i : ℕ) → slice_get (ns ++ x ∷ []) i ≡ Some y → place_in (set at x (Some n)) y ≡ Some i
    back y i f = elim ((get_pushed ns x i y).0 f) [
      | inl g ↦ old y i g
      | inr g ↦ ap (λ (z : ℕ). place_in (set at x (Some n)) z) (sym g.1) ∙ get_or-set_same at x (Some n) None w
          ∙ ap Some (l ∙ sym g.0)
    ]
      where
        old : (y i : ℕ) → slice_get ns i ≡ Some y → place_in (set at x (Some n)) y ≡ Some i
        old y i g =
            let p : place_in at y ≡ Some i = (t y i).1 g in
            let s : y ≡ x → ⊥ = λ q. let r : Some i ≡ None = sym p ∙ ap (λ (z : ℕ). place_in at z) q ∙ e in cc in
            get_or-set_other at x y (Some n) None s ∙ p

-- the stack with one local more, as a function from names
added_at : (xs : List Slot) (s : Slot) → local_in xs s.name ≡ None → (y : ℕ)
    → local_in (xs ++ s ∷ []) y ≡ (if nat_eq s.name y then Some (local_of s) else local_in xs y)
added_at [] s e y = refl
added_at (r ∷ xs) s e y = by_first (λ f. added_at xs s f y) (nat_eq r.name s.name) refl
  where
    by_first : (local_in xs s.name ≡ None → local_in (xs ++ s ∷ []) y
        ≡ (if nat_eq s.name y then Some (local_of s) else local_in xs y)) → (b : Bool) → nat_eq r.name s.name ≡ b
        → local_in (r ∷ xs ++ s ∷ []) y ≡ (if nat_eq s.name y then Some (local_of s) else local_in (r ∷ xs) y)
    by_first ih true q = absurd (let f : Some (local_of r) ≡ None = grind (arith, nat_tests, q, e) in cc)
    by_first ih false q = let f : local_in xs s.name ≡ None = grind (arith, nat_tests, q, e) in
        let g : local_in (xs ++ s ∷ []) y ≡ (if nat_eq s.name y then Some (local_of s) else local_in xs y) = ih f in
        grind (arith, nat_tests, q, g)

pub added : (xs : List Slot) (s : Slot) → local_in xs s.name ≡ None
    → local_in (xs ++ s ∷ []) ≡ (λ y. if nat_eq s.name y then Some (local_of s) else local_in xs y)
added xs s e = fun_ext (λ y. added_at xs s e y)

pub ruleset slots = (lost, within, met_slot)

-- ---- what is held at a place

pub held_read : (xs : List Slot) (i : ℕ) (s : Slot) → s ≡ get_or xs i s → i < length xs → held_at xs i ≡ s.held
held_read [] i s e l = absurd (omega arith)
held_read (x ∷ xs) zero s e l = ap (λ (r : Slot). r.held) (sym e)
held_read (x ∷ xs) (suc i) s e l = held_read xs i s e (omega (arith, l))

pub held_past : (xs : List Slot) (i : ℕ) → length xs ≤ i → held_at xs i ≡ held.None
held_past [] i l = refl
held_past (x ∷ xs) zero l = absurd (omega arith)
held_past (x ∷ xs) (suc i) l = held_past xs i (omega (arith, l))

pub ruleset helds = (held_read, held_past)
