-- Premises asked one after the other, each told what those before it came to.
use Rattle.std.proofs.Common.{◌≡◌, ◌<◌, ◌+◌, ℕ, List, [], ◌∷◌, ◌++◌, drop, get_or, length, Result, Ok, Err}
use Rattle.std.proofs.Common.{IsErrAnd, refl, sym}
use Rattle.std.proofs.Common.{ap, subst, ◌∙◌}
use Rattle.std.specs.Prelude.{⊤}
use Rattle.std.proofs.lemmas.List.{drop_more}
use Rattle.ae_text.specs.declared.refusal.Deny.{Deny}
use Rattle.ae_text.specs.declared.refusal.Deny.TheVariants as deny
use Rattle.ae_rules.specs.Verdict.{Verdict, Holds, Broken, ◌>>=◌, ◌>>◌, fine, each, in_turn}
use Rattle.ae_rules.specs.Answers.{Answers, Leaves}

-- the element at a place, and what follows it, are the list from there on
pub element_and_rest : {A : Type 0} (xs : List A) (i : ℕ) (x : A) → i < length xs → x ≡ get_or xs i x
    → x ∷ drop (i + 1) xs ≡ drop i xs
element_and_rest xs i x l e = ap (λ y. y ∷ drop (i + 1) xs) e ∙ sym (drop_more xs i x l)

-- a list from a place on, where elements are copied
pub from_copied_place : {A : Type 0} (xs ys : List A) (i : ℕ) (d : A) → ys ≡ xs → i < length ys
    → drop i xs ≡ get_or ys i d ∷ drop (i + 1) xs
from_copied_place xs ys i d same l = ap (drop i) (sym same) ∙ drop_more ys i d l
    ∙ ap (λ zs. get_or ys i d ∷ drop (i + 1) zs) same

-- one premise of each that holds
pub one_premise_more : {A : Type 0} (premise : A → Verdict ⊤) (x : A) (xs ys : List A) (v : Verdict ⊤) → ys ≡ x ∷ xs
    → v ≡ each premise ys → premise x ≡ fine → v ≡ each premise xs
one_premise_more premise x xs ys v here before holds =
    before ∙ ap (each premise) here ∙ ap (λ w. w >> each premise xs) holds

-- one turn that holds
pub one_turn_more : {A S : Type 0} (premise : A → S → Verdict S) (x : A) (xs ys : List A) (v : Verdict S) (s t : S)
    → ys ≡ x ∷ xs → v ≡ in_turn premise ys s → premise x s ≡ Holds t → v ≡ in_turn premise xs t
one_turn_more premise x xs ys v s t here before holds =
    before ∙ ap (λ zs. in_turn premise zs s) here ∙ ap (λ w. w >>= in_turn premise xs) holds

-- a turn that breaks
pub a_turn_breaks : {A S : Type 0} (premise : A → S
    → Verdict S) (x : A) (xs ys : List A) (v : Verdict S) (s t : S) (e : Deny)
    → ys ≡ x ∷ xs → v ≡ in_turn premise ys s → Leaves (premise x s) t (Err e) → Leaves v t (Err e)
a_turn_breaks premise x xs ys v s t deny.Memory here before broken = tt
a_turn_breaks premise x xs ys v s t (deny.Refused r) here before broken =
    before ∙ ap (λ zs. in_turn premise zs s) here ∙ ap (λ w. w >>= in_turn premise xs) broken

both_parts_agree : {S : Type 0} (v : Verdict S) (whole first second : S → Verdict S)
    → ((s : S) → whole s ≡ first s >>= second) → v >>= whole ≡ (v >>= first) >>= second
both_parts_agree (Holds s) whole first second same = same s
both_parts_agree (Broken rule at) whole first second same = refl

-- turns in two parts
pub turns_in_two_parts : {A S : Type 0} (premise : A → S → Verdict S) (xs ys : List A) (s : S)
    → in_turn premise (xs ++ ys) s ≡ in_turn premise xs s >>= in_turn premise ys
turns_in_two_parts premise [] ys s = refl
turns_in_two_parts premise (x ∷ xs) ys s = both_parts_agree (premise x s) (in_turn premise (xs ++ ys))
    (in_turn premise xs)
    (in_turn premise ys) (turns_in_two_parts premise xs ys)

-- the first part breaks
pub first_part_breaks : {A S : Type 0} (premise : A → S → Verdict S) (xs ys : List A) (s t : S) (e : Deny)
    → Leaves (in_turn premise xs s) t (Err e) → Leaves (in_turn premise (xs ++ ys) s) t (Err e)
first_part_breaks premise xs ys s t deny.Memory broken = tt
first_part_breaks premise xs ys s t (deny.Refused r) broken =
    turns_in_two_parts premise xs ys s ∙ ap (λ v. v >>= in_turn premise ys) broken

-- a function that hands on an error of one that changes a state
pub left_by_that_error : {A : Type 0} (v : Verdict A) (x : A) (e : Deny) (r : Result (Unit {0}) Deny)
    → Leaves v x (Err e)
    → IsErrAnd r (λ y. y ≡ e) → Leaves v x r
left_by_that_error v x e (Ok y) broken same = absurd same
left_by_that_error v x e (Err y) broken same =
    let P : Deny → Type 0 = λ z. Leaves v x (Err z) in subst P (sym same) broken

answer_of_error : {A B : Type 0} (v : Verdict A) (view : B → A) (x : A) (e : Deny) → Leaves v x (Err e)
    → Answers v view (Err e)
answer_of_error v view x deny.Memory broken = tt
answer_of_error v view x (deny.Refused r) broken = broken

-- the same of one that gives a value
pub answered_by_that_error : {A B : Type 0} (v : Verdict A) (view : B → A) (x : A) (e : Deny) (r : Result B Deny)
    → Leaves v x (Err e) → IsErrAnd r (λ y. y ≡ e) → Answers v view r
answered_by_that_error v view x e (Ok y) broken same = absurd same
answered_by_that_error v view x e (Err y) broken same =
    let P : Deny → Type 0 = λ z. Answers v view (Err z) in subst P (sym same) (answer_of_error v view x e broken)

-- what was to come next is broken with what comes before
pub what_comes_next_breaks : {A B : Type 0} (v : Verdict A) (next : A → Verdict B) (x : A) (y : B) (e : Deny)
    → Leaves v x (Err e) → Leaves (v >>= next) y (Err e)
what_comes_next_breaks v next x y deny.Memory broken = tt
what_comes_next_breaks v next x y (deny.Refused r) broken = ap (λ u. u >>= next) broken
