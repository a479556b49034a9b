-- What is used of one thing of a list after the other.
use Rattle.std.proofs.Common.{◌≡◌, ℕ, ◌<◌, ◌≤◌, ◌+◌, List, [], ◌∷◌, map, drop, get_or, length, refl, sym}
use Rattle.std.proofs.Common.{ap, ◌∙◌, subst, arith}
use Rattle.std.specs.Prelude.{zip, min, ltb, Bool, true, false}
use Rattle.std.proofs.lemmas.Bool.{ltb-true, ltb-false}
use Rattle.std.proofs.lemmas.List.{drop_more}
use Rattle.std.proofs.Math.ListN.{drop_of_length-le}
use Rattle.ae_rules.specs.Edges.{Uses}
use Rattle.ae_rules.specs.Uses.{of_each}
use Rattle.ae_uses.specs.declared.used.Used.{Used}
use Rattle.ae_uses.specs.Used.{Adds, Owes}
use Rattle.ae_uses.proofs.UsedLemmas.{owes_one_less, owes_nothing_more}

-- one pair less of two lists is to be used
pub owes_rest_of_pairs : {A B C D : Type 0} (f : A → C) (g : B → D) (h : C × D → Uses) (xs : List A) (ys : List B)
    (i : ℕ) (x : A) (y : B) (u v w : Used) (whole : Uses) → i < length xs → x ≡ get_or xs i x → i < length ys
    → y ≡ get_or ys i y → Owes u whole v (of_each h (zip (map f (drop i xs)) (map g (drop i ys))))
    → Adds v (h (f x, g y)) w
    → Owes u whole w (of_each h (zip (map f (drop (i + 1) xs)) (map g (drop (i + 1) ys))))
owes_rest_of_pairs {A} {B} f g h xs ys i x y u v w whole l d n e o k =
    let p : drop i xs ≡ x ∷ drop (i + 1) xs = drop_more xs i x l ∙ ap (λ z. z ∷ drop (i + 1) xs) (sym d) in
    let q : drop i ys ≡ y ∷ drop (i + 1) ys = drop_more ys i y n ∙ ap (λ z. z ∷ drop (i + 1) ys) (sym e) in
    owes_one_less u v w whole (h (f x, g y)) (of_each h (zip (map f (drop (i + 1) xs)) (map g (drop (i + 1) ys))))
    (subst (λ (zs : List B). Owes u whole v (of_each h (zip (map f (x ∷ drop (i + 1) xs)) (map g zs)))) q
    (subst (λ (zs : List A). Owes u whole v (of_each h (zip (map f zs) (map g (drop i ys))))) p o)) k

zip_of_nothing : {A B : Type 0} (xs : List A) → ◌≡◌ {A = List (A × B)} (zip xs []) []
zip_of_nothing [] = refl
zip_of_nothing (x ∷ xs) = refl

-- at the end of the first of two lists nothing more is to be used
pub owes_none_of_first : {A B C D : Type 0} (f : A → C) (g : B → D) (h : C × D → Uses) (xs : List A) (ys : List B)
    (i : ℕ) (u v : Used) (whole : Uses) → length xs ≤ i
    → Owes u whole v (of_each h (zip (map f (drop i xs)) (map g (drop i ys)))) → Adds u whole v
owes_none_of_first {A} f g h xs ys i u v whole l o = owes_nothing_more u v whole
    (subst (λ (zs : List A). Owes u whole v (of_each h (zip (map f zs) (map g (drop i ys)))))
    (drop_of_length-le xs l) o)

-- at the end of the second of two lists nothing more is to be used
pub owes_none_of_second : {A B C D : Type 0} (f : A → C) (g : B → D) (h : C × D → Uses) (xs : List A) (ys : List B)
    (i : ℕ) (u v : Used) (whole : Uses) → length ys ≤ i
    → Owes u whole v (of_each h (zip (map f (drop i xs)) (map g (drop i ys)))) → Adds u whole v
owes_none_of_second {A} {B} {C} {D} f g h xs ys i u v whole l o = owes_nothing_more u v whole
    (subst (λ (zs : List (C × D)). Owes u whole v (of_each h zs)) (zip_of_nothing (map f (drop i xs)))
    (subst (λ (zs : List B). Owes u whole v (of_each h (zip (map f (drop i xs)) (map g zs))))
    (drop_of_length-le ys l) o))

-- at the end of the shorter of two lists nothing more is to be used
pub owes_none_of_pairs : {A B C D : Type 0} (f : A → C) (g : B → D) (h : C × D → Uses) (xs : List A) (ys : List B)
    (i : ℕ) (u v : Used) (whole : Uses) → min (length xs) (length ys) ≤ i
    → Owes u whole v (of_each h (zip (map f (drop i xs)) (map g (drop i ys)))) → Adds u whole v
owes_none_of_pairs f g h xs ys i u v whole l o = shorter (ltb i (length xs)) refl where
  shorter : (b : Bool) → ltb i (length xs) ≡ b → Adds u whole v
  shorter true e = owes_none_of_second f g h xs ys i u v whole (omega (arith, l, ltb-true i (length xs) e)) o
  shorter false e = owes_none_of_first f g h xs ys i u v whole (ltb-false i (length xs) e) o
