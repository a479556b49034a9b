-- The first place in a list at which a test holds, and the first number that has a name.
use Rattle.std.proofs.Common.{◌≡◌, ◌+◌, ℕ, suc, Bool, true, false, cond, not, List, [], ◌∷◌, ◌++◌}
use Rattle.std.proofs.Common.{length, Option, None, Some, refl, sym, ap, ◌∙◌, arith, add-zero, slice_get}
use Rattle.std.specs.Prelude.{nat_lt, position, find, filter_map, option_map}
use Rattle.std.specs.List.{position_or_len}
use Rattle.std.specs.Option.{option_or}
use Rattle.std.proofs.lemmas.Bool.{lt-ltb, le-ltb, ltb-true, ltb-false}
use Rattle.std.proofs.lemmas.List.Folds.{find-append}
use Rattle.std.proofs.lemmas.List.Elements.{filter_map-append}
use Rattle.ae_tree.specs.Grammar.{numbers_from}
use Rattle.ae_rules.specs.Verdict.{given}
use Rattle.ae_rules.specs.declared.table.Member.{Member}
use Rattle.ae_rules.specs.declared.table.Member.TheVariants as member

-- ---- the first place at which a test holds

next_is_less : (k n : ℕ) → nat_lt (1 + k) (suc n) ≡ nat_lt k n
next_is_less k n = by (nat_lt k n) refl
  where
    by : (b : Bool) → nat_lt k n ≡ b → nat_lt (1 + k) (suc n) ≡ nat_lt k n
    by true e = lt-ltb (1 + k) (suc n) (omega (arith, ltb-true k n e)) ∙ sym e
    by false e = le-ltb (1 + k) (suc n) (omega (arith, ltb-false k n e)) ∙ sym e

place_one_further : (w : Bool) (k : ℕ) → cond w (Some (1 + k)) None ≡ option_map (λ i. suc i) (cond w (Some k) None)
place_one_further true k = ap Some (omega arith)
place_one_further false k = refl

place_at_the_head : (b : Bool) (k n : ℕ) → cond (nat_lt (cond (not b) (1 + k) 0) (suc n)) (Some (cond (not b)
    (1 + k) 0)) None
    ≡ cond b (Some 0) (option_map (λ i. suc i) (cond (nat_lt k n) (Some k) None))
place_at_the_head true k n = ap (λ w. cond w (Some 0) None) (lt-ltb 0 (suc n) (omega arith))
place_at_the_head false k n = ap (λ w. cond w (Some (1 + k)) None) (next_is_less k n)
    ∙ place_one_further (nat_lt k n) k

-- the head of a list decides first
place_from_head : {A : Type 0} (t : A → Bool) (x : A) (xs : List A)
    → position t (x ∷ xs) ≡ cond (t x) (Some 0) (option_map (λ i. suc i) (position t xs))
place_from_head t x xs = place_at_the_head (t x) (position_or_len t xs) (length xs)

found_behind_the_head : (b w : Bool) (o : Option ℕ) (n : ℕ)
    → cond b (Some 0) (option_map (λ i. suc i) (option_or o (cond w (Some n) None)))
    ≡ option_or (cond b (Some 0) (option_map (λ i. suc i) o)) (cond w (Some (suc n)) None)
found_behind_the_head true w o n = refl
found_behind_the_head false true None n = refl
found_behind_the_head false false None n = refl
found_behind_the_head false w (Some i) n = refl

-- the last of a list decides last
pub place_with_last : {A : Type 0} (t : A → Bool) (xs : List A) (y : A)
    → position t (xs ++ y ∷ []) ≡ option_or (position t xs) (cond (t y) (Some (length xs)) None)
place_with_last t [] y = place_from_head t y []
place_with_last t (x ∷ xs) y =
    place_from_head t x (xs ++ y ∷ [])
    ∙ ap (λ o. cond (t x) (Some 0) (option_map (λ i. suc i) o)) (place_with_last t xs y)
    ∙ found_behind_the_head (t x) (t y) (position t xs) (length xs)
    ∙ ap (λ o. option_or o (cond (t y) (Some (suc (length xs))) None)) (sym (place_from_head t x xs))

-- ---- the first number that has a name

counted_one_further : (b : Bool) (k : ℕ) (o : Option ℕ) → cond b (Some k) (option_map (λ i. (k + 1) + i) o)
    ≡ option_map (λ i. k + i) (cond b (Some 0) (option_map (λ i. suc i) o))
counted_one_further true k o = ap Some (omega arith)
counted_one_further false k None = refl
counted_one_further false k (Some i) = ap Some (omega arith)

-- The first number of k, k + 1 and so on at which a test holds, where the test is one of the things in a list.
pub first_number_is_place : {A : Type 0} (t : A → Bool) (test : ℕ → Bool) (k : ℕ) (xs : List A)
    → ((i : ℕ) → test (k + i) ≡ given (slice_get xs i) false t)
    → find test (numbers_from k (length xs)) ≡ option_map (λ i. k + i) (position t xs)
first_number_is_place t test k [] same = refl
first_number_is_place t test k (x ∷ xs) same =
    ap (λ o. cond (test k) (Some k) o) (first_number_is_place t test (k + 1) xs
    (λ i. ap test (let e : (k + 1) + i ≡ k + suc i = omega arith in e) ∙ same (suc i)))
    ∙ ap (λ b. cond b (Some k) (option_map (λ i. (k + 1) + i) (position t xs))) (ap test (sym (add-zero k)) ∙ same 0)
    ∙ counted_one_further (t x) k (position t xs)
    ∙ ap (option_map (λ i. k + i)) (sym (place_from_head t x xs))

counted_from_zero : (o : Option ℕ) → option_map (λ i. 0 + i) o ≡ o
counted_from_zero None = refl
counted_from_zero (Some i) = ap Some (omega arith)

-- the same of 0, 1 and so on
pub first_of_all_is_place : {A : Type 0} (t : A → Bool) (test : ℕ → Bool) (xs : List A)
    → ((i : ℕ) → test i ≡ given (slice_get xs i) false t) → find test (numbers_from 0 (length xs)) ≡ position t xs
first_of_all_is_place t test xs same =
    first_number_is_place t test 0 xs (λ i. ap test (let e : 0 + i ≡ i = omega arith in e) ∙ same i)
    ∙ counted_from_zero (position t xs)

-- what one declaration more brings
pub found_with_last : {D : Type 0} (pick : D → Option ℕ) (called : ℕ → Bool) (ds : List D) (d : D)
    → find called (filter_map pick (ds ++ d ∷ []))
    ≡ option_or (find called (filter_map pick ds)) (find called (filter_map pick (d ∷ [])))
found_with_last pick called ds d =
    ap (find called) (filter_map-append pick ds (d ∷ []))
    ∙ find-append called (filter_map pick ds) (filter_map pick (d ∷ []))

-- nothing is behind
pub nothing_is_behind : {A : Type 0} (o : Option A) → option_or o None ≡ o
nothing_is_behind None = refl
nothing_is_behind (Some x) = refl

-- ---- fields and methods

-- one method more
pub methods_with_last : (o : Option Member) (found : Option ℕ) (more : Option ℕ)
    → option_or (option_or o (option_map member.Method found)) (option_map member.Method more)
    ≡ option_or o (option_map member.Method (option_or found more))
methods_with_last (Some m) found more = refl
methods_with_last None None more = refl
methods_with_last None (Some n) more = refl

-- one field more
pub fields_with_last : (found : Option ℕ) (b : Bool) (n : ℕ)
    → option_or (option_map member.Field found) (cond b (Some (member.Field n)) None)
    ≡ option_map member.Field (option_or found (cond b (Some n) None))
fields_with_last (Some i) b n = refl
fields_with_last None true n = refl
fields_with_last None false n = refl
