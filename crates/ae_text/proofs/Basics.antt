-- Facts on tests, numbers, lists and options that several crates share and the kit does not have in this form.
use Rattle.std.proofs.Common.{◌≡◌, ℕ, suc, ◌<◌, ◌⊎◌, inl, inr, refl, sym, ◌∙◌, subst, arith, nat_eq, Bool, true}
use Rattle.std.proofs.Common.{false, ◌&&◌, ◌||◌}
use Rattle.std.proofs.Common.{List, [], Option, None, Some}
use Rattle.std.specs.Prelude.{Contains, is_some}
use Rattle.std.proofs.lemmas.Bool.{and_parts, or_parts, both_ways, eq-eqb, cases_order}
use Rattle.std.proofs.lemmas.Option.{same_Some, none-some}

-- a number is equal to itself
pub number_is_itself : (n : ℕ) → nat_eq n n ≡ true
number_is_itself n = eq-eqb n n refl

-- of two tests that hold the first one holds
pub first_of_both : (x y : Bool) → (x && y) ≡ true → x ≡ true
first_of_both x y both = (and_parts x y both).0

-- of two tests that hold the second one holds
pub second_of_both : (x y : Bool) → (x && y) ≡ true → y ≡ true
second_of_both x y both = (and_parts x y both).1

-- no test is true and false
pub no_test_is_both : (b : Bool) → b ≡ true → b ≡ false → ⊥
no_test_is_both b holds fails = both_ways b fails holds

-- an option holds one thing
pub option_holds_one : {A : Type 0} (o : Option A) (x y : A) → o ≡ Some x → o ≡ Some y → x ≡ y
option_holds_one o x y p q = same_Some x y (sym p ∙ q)

-- what is there is not nothing
pub none_is_no_some : {A : Type 0} {x : A} → None ≡ Some x → ⊥
none_is_no_some {x = x} h = none-some x h

-- nothing is in the empty list
pub empty_has_nothing : {A : Type 0} (x : A) → Contains [] x → ⊥
empty_has_nothing x h = absurd (omega (arith, h.1))

-- a number below the next of another is below it or is it
pub below_or_last : (m n : ℕ) → m < suc n → (m < n) ⊎ (m ≡ n)
below_or_last m n h = elim (cases_order m n) [
  | inl same ↦ inr same
  | inr apart ↦ elim apart [ inl below ↦ inl below | inr above ↦ absurd (omega (arith, h, above)) ]
]

-- functions that agree everywhere are one
pub functions_agree : {A B : Type 0} (f g : A → B) → ((x : A) → f x ≡ g x) → f ≡ g
functions_agree f g h = λ i. λ x. h x i

-- where neither of two tests holds the first one fails
pub first_of_neither : (x y : Bool) → (x || y) ≡ false → x ≡ false
first_of_neither x y none = (or_parts x y none).0

-- where neither of two tests holds the second one fails
pub second_of_neither : (x y : Bool) → (x || y) ≡ false → y ≡ false
second_of_neither x y none = (or_parts x y none).1
