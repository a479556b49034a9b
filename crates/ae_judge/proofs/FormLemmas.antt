-- Lists of names compared, and names replaced, one after another.
use Rattle.std.proofs.Common.{◌≡◌, inl, inr, ℕ, ◌+◌, ◌<◌, ◌≤◌}
use Rattle.std.proofs.Common.{suc, nat_eq, Bool, true, false, if◌then◌else◌, List, [], ◌∷◌}
use Rattle.std.proofs.Common.{length, drop, get_or, refl, ap, ◌∙◌, arith}
use Rattle.std.specs.Prelude.{min}
use Rattle.std.proofs.lemmas.Bool.{cases_lt, eqb-true, and_right}
use Rattle.std.proofs.lemmas.List.{drop_more, drop_all}
use Rattle.ae_rules.specs.Forms.{same_names, in_place}

-- lists of two lengths have not the same names
pub lengths_tell_apart : (xs ys : List ℕ) → (length xs ≡ length ys → ⊥) → same_names xs ys ≡ false
lengths_tell_apart [] [] h = absurd (h refl)
lengths_tell_apart [] (y ∷ ys) h = refl
lengths_tell_apart (x ∷ xs) [] h = refl
lengths_tell_apart (x ∷ xs) (y ∷ ys) h = and_right (nat_eq x y) (same_names xs ys)
    (lengths_tell_apart xs ys (λ e. h (ap suc e)))

-- the first of the rests is replaced, or the others are looked at
pub place_from_here : (xs ys : List ℕ) (i g : ℕ) → i < length xs → i < length ys → in_place (drop i xs) (drop i ys) g
    ≡ (if nat_eq (get_or xs i 0) g then get_or ys i 0 else in_place (drop (i + 1) xs) (drop (i + 1) ys) g)
place_from_here xs ys i g l k = ap (λ (zs : List ℕ). in_place zs (drop i ys) g) (drop_more xs i 0 l)
    ∙ ap (λ (zs : List ℕ). in_place (get_or xs i 0 ∷ drop (i + 1) xs) zs g) (drop_more ys i 0 k)

-- where one of the lists ends a name stays
pub place_at_the_end : (xs ys : List ℕ) (i g : ℕ) → min (length xs) (length ys) ≤ i → in_place (drop i xs) (drop i ys) g
    ≡ g
place_at_the_end xs ys i g l =
    elim (cases_lt i (length xs)) [
      | inl h ↦ let k : length ys ≤ i = omega (arith, l, h) in ap (λ (zs : List ℕ). in_place (drop i xs) zs g)
          (drop_all i ys k) ∙ place_in_none (drop i xs) g
      | inr h ↦ ap (λ (zs : List ℕ). in_place zs (drop i ys) g) (drop_all i xs h)
    ]
  where
    place_in_none : (zs : List ℕ) (k : ℕ) → in_place zs [] k ≡ k
    place_in_none [] k = refl
    place_in_none (z ∷ zs) k = refl

-- a name that is not the first is looked for in the rests
pub place_passed_by : (xs ys : List ℕ) (i g : ℕ) → i < length xs → i < length ys → (get_or xs i 0 ≡ g → ⊥)
    → in_place (drop i xs) (drop i ys) g ≡ in_place (drop (i + 1) xs) (drop (i + 1) ys) g
place_passed_by xs ys i g l k h = place_from_here xs ys i g l k
    ∙ not_this (nat_eq (get_or xs i 0) g) refl
  where
    not_this : (b : Bool) → nat_eq (get_or xs i 0) g ≡ b
        → (if b then get_or ys i 0 else in_place (drop (i + 1) xs) (drop (i + 1) ys) g)
        ≡ in_place (drop (i + 1) xs) (drop (i + 1) ys) g
    not_this true e = absurd (h (eqb-true (get_or xs i 0) g e))
    not_this false e = refl
