-- Elements of lists.
use Rattle.std.proofs.Common.{◌≡◌, ◌↔◌, ℕ, zero, suc, ◌+◌, ◌<◌, ◌⊎◌, inl, inr, Bool, true, nat_eq, List, []}
use Rattle.std.proofs.Common.{◌∷◌, length, get_or, map, refl, subst, arith}
use Rattle.std.specs.List.{Contains, list_any}
use Rattle.std.specs.List.Sorted.{IsStrictlyIncreasing}
use Rattle.ae_rules.specs.Edges.{IsRising}
use Rattle.std.proofs.lemmas.Bool.{eqb-true, or_right, or_cases, or_left, eq-eqb}
use Rattle.std.proofs.lemmas.Bool.Decides.{same_from_decides}
use Rattle.ae_uses.proofs.from_text.Basics.{empty_has_nothing}

pub here : {X : Type 0} (x : X) (xs : List X) → Contains (x ∷ xs) x
here x xs = (0, omega arith, refl)

pub there : {X : Type 0} (x : X) (xs : List X) (y : X) → Contains xs y → Contains (x ∷ xs) y
there x xs y h = (suc h.0, omega (arith, h.1), h.2)

uncons_at : {X : Type 0} (x : X) (xs : List X) (y : X) (k : ℕ) → k < length (x ∷ xs) → get_or (x ∷ xs) k y ≡ y
    → (x ≡ y) ⊎ Contains xs y
uncons_at x xs y zero h e = inl e
uncons_at x xs y (suc k) h e = inr (k, omega (arith, h), e)

-- an element is the first one, or among the others
pub uncons : {X : Type 0} (x : X) (xs : List X) (y : X) → Contains (x ∷ xs) y → (x ≡ y) ⊎ Contains xs y
uncons x xs y h = uncons_at x xs y h.0 h.1 h.2

pub in_map : {X Y : Type 0} (f : X → Y) (xs : List X) (x : X) → Contains xs x → Contains (map f xs) (f x)
in_map f [] x h = absurd (empty_has_nothing x h)
in_map f (z ∷ xs) x h =
    elim (uncons z xs x h) [
      | inl e ↦ subst (λ (w : _). Contains (f z ∷ map f xs) (f w)) e (here (f z) (map f xs))
      | inr k ↦ there (f z) (map f xs) (f x) (in_map f xs x k)
    ]

pub from_map : {X Y : Type 0} (f : X → Y) (xs : List X) (y : Y) → Contains (map f xs) y → (x : X) × Contains xs x
    × (f x ≡ y)
from_map f [] y h = absurd (empty_has_nothing y h)
from_map f (z ∷ xs) y h =
    elim (uncons (f z) (map f xs) y h) [
      | inl e ↦ (z, here z xs, e)
      | inr k ↦ let r = from_map f xs y k in (r.0, there z xs r.0 r.1, r.2)
    ]

-- a number is among these
abbrev pub has : List ℕ → ℕ → Bool
has xs y = list_any (λ x. nat_eq x y) xs

pub has_from : (xs : List ℕ) (y : ℕ) → Contains xs y → has xs y ≡ true
has_from [] y h = absurd (empty_has_nothing y h)
has_from (x ∷ xs) y h =
    elim (uncons x xs y h) [
      | inl e ↦ or_left (nat_eq x y) (has xs y) (eq-eqb x y e)
      | inr k ↦ or_right (nat_eq x y) (has xs y) (has_from xs y k)
    ]

pub from_has : (xs : List ℕ) (y : ℕ) → has xs y ≡ true → Contains xs y
from_has [] y h = absurd (cc)
from_has (x ∷ xs) y h =
    elim (or_cases (nat_eq x y) (has xs y) h) [
      | inl e ↦ let q : x ≡ y = eqb-true x y e in subst (λ (w : ℕ). Contains (x ∷ xs) w) q (here x xs)
      | inr k ↦ there x xs y (from_has xs y k)
    ]

-- what contains the same numbers answers alike whether a number is among them
pub has_the_same : (xs ys : List ℕ) → ((y : ℕ) → Contains xs y ↔ Contains ys y) → (y : ℕ) → has xs y ≡ has ys y
has_the_same xs ys h y =
    same_from_decides {P = Contains ys y} (has xs y) (has ys y)
    (λ e. (h y).0 (from_has xs y e), λ k. has_from xs y ((h y).1 k)) (from_has ys y, has_from ys y)

-- each number is below the next
pub rising_from : (xs : List ℕ) → IsStrictlyIncreasing xs → IsRising xs
rising_from [] h = tt
rising_from (x ∷ []) h = tt
rising_from (x ∷ y ∷ xs) h = (
  h 0 (omega arith),
  rising_from (y ∷ xs) (λ k w. let g : suc k + 1 < length (x ∷ y ∷ xs) = omega (arith, w) in
      let e : suc k + 1 ≡ suc (k + 1) = omega arith in
      subst (λ (n : ℕ). get_or (x ∷ y ∷ xs) (suc k) 0 < get_or (x ∷ y ∷ xs) n 0) e (h (suc k) g)),
)
