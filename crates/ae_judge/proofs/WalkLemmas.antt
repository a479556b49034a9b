-- The path to the object that has a path's last field.
use Rattle.std.proofs.Common.{◌≡◌, ◌-◌, suc, List, [], ◌∷◌, length, take, refl, ap, ◌∙◌, arith}
use Rattle.ae_rules.specs.Walks.{without_last}

-- all steps but the last
pub all_but_the_last : {A : Type 0} (xs : List A) → take (length xs - 1) xs ≡ without_last xs
all_but_the_last [] = refl
all_but_the_last (x ∷ []) = refl
all_but_the_last {A} (x ∷ y ∷ zs) =
    let e : suc (suc (length zs)) - 1 ≡ suc (length zs) = omega arith in
    let f : length zs ≡ suc (length zs) - 1 = omega arith in
    ap (λ n. take n (x ∷ y ∷ zs)) e ∙ ap (λ n. x ∷ take n (y ∷ zs)) f
    ∙ ap (λ (ws : List A). x ∷ ws) (all_but_the_last (y ∷ zs))
