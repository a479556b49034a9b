-- Elements of lists that are filtered, or put together from lists.
use Rattle.std.proofs.Common.{◌≡◌, ◌⊎◌, inl, inr, Bool, true, false, List, []}
use Rattle.std.proofs.Common.{◌∷◌, refl, sym, ap, ◌∙◌, subst}
use Rattle.std.proofs.Common.{cond}
use Rattle.std.proofs.lemmas.List.Elements.{Contains-append_left, Contains-append_right, Contains-append_cases}
use Rattle.std.specs.List.{Contains, filter, flat_map}
use Rattle.ae_graph.proofs.from_text.Basics.{empty_has_nothing}
use Rattle.ae_graph.proofs.from_uses.Elements.{here, there, uncons}

first_kept : {X : Type 0} (b : Bool) (z : X) (xs : List X) (x : X) → b ≡ true → z ≡ x → Contains (cond b (z ∷ xs) xs) x
first_kept true z xs x e q = subst (λ (w : _). Contains (z ∷ xs) w) q (here z xs)
first_kept false z xs x e q = absurd (cc)

later_kept : {X : Type 0} (b : Bool) (z : X) (xs : List X) (x : X) → Contains xs x → Contains (cond b (z ∷ xs) xs) x
later_kept true z xs x h = there z xs x h
later_kept false z xs x h = h

-- an element that passes the test is kept
pub in_filter : {X : Type 0} (t : X → Bool) (xs : List X) (x : X) → Contains xs x → t x ≡ true
    → Contains (filter t xs) x
in_filter t [] x h e = absurd (empty_has_nothing x h)
in_filter t (z ∷ xs) x h e =
    elim (uncons z xs x h) [
      | inl q ↦ first_kept (t z) z (filter t xs) x (ap t q ∙ e) q
      | inr k ↦ later_kept (t z) z (filter t xs) x (in_filter t xs x k e)
    ]

first_or_later : {X : Type 0} (b : Bool) (z : X) (xs : List X) (x : X) → Contains (cond b (z ∷ xs) xs) x
    → ((b ≡ true) × (z ≡ x)) ⊎ Contains xs x
first_or_later true z xs x h = elim (uncons z xs x h) [ inl q ↦ inl (refl, q) | inr k ↦ inr k ]
first_or_later false z xs x h = inr h

-- what is kept was there, and passes the test
pub from_filter : {X : Type 0} (t : X → Bool) (xs : List X) (x : X) → Contains (filter t xs) x
    → Contains xs x × (t x ≡ true)
from_filter t [] x h = absurd (empty_has_nothing x h)
from_filter t (z ∷ xs) x h =
    elim (first_or_later (t z) z (filter t xs) x h) [
      | inl q ↦ (subst (λ (w : _). Contains (z ∷ xs) w) q.1 (here z xs), sym (ap t q.1) ∙ q.0)
      | inr k ↦ let r = from_filter t xs x k in (there z xs x r.0, r.1)
    ]

pub in_flat_map : {X Y : Type 0} (f : X → List Y) (xs : List X) (x : X) (y : Y) → Contains xs x → Contains (f x) y
    → Contains (flat_map f xs) y
in_flat_map f [] x y h k = absurd (empty_has_nothing x h)
in_flat_map f (z ∷ xs) x y h k =
    elim (uncons z xs x h) [
      | inl q ↦ Contains-append_left (f z) (flat_map f xs) y (subst (λ (w : _). Contains (f w) y) (sym q) k)
      | inr r ↦ Contains-append_right (f z) (flat_map f xs) y (in_flat_map f xs x y r k)
    ]

pub from_flat_map : {X Y : Type 0} (f : X → List Y) (xs : List X) (y : Y) → Contains (flat_map f xs) y
    → (x : X) × Contains xs x × Contains (f x) y
from_flat_map f [] y h = absurd (empty_has_nothing y h)
from_flat_map f (z ∷ xs) y h =
    elim (Contains-append_cases (f z) (flat_map f xs) y h) [
      | inl k ↦ (z, here z xs, k)
      | inr k ↦ let r = from_flat_map f xs y k in (r.0, there z xs r.0 r.1, r.2)
    ]
