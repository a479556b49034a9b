-- A vector of values as a function from names.
use Rattle.std.proofs.Common.{◌≡◌, ℕ, ◌<◌, ◌≤◌, ℤ, List, Option, Some, None, length, get_or, set, arith, ap, ◌∙◌}
use Rattle.std.proofs.lemmas.List.{get_or_past}
use Rattle.std.proofs.lemmas.Grind.{common_steps}
use Rattle.std.proofs.lemmas.Bool.Decides.{nat_tests}
use Rattle.ae_meaning.specs.Values.{Env, today_with}
use Rattle.ae_meaning.proofs.from_text.Basics.{functions_agree}

abbrev pub at : List (Option ℤ) → Env
at vs y = get_or vs y None

-- a longer vector with nothing in its new places
grown_at : (old new : List (Option ℤ)) (n : ℕ) → length new ≡ n
    → ((k : ℕ) (d : Option ℤ) → k < n → k < length old → get_or new k d ≡ get_or old k d)
    → ((k : ℕ) (d : Option ℤ) → length old ≤ k → k < n → get_or new k d ≡ None)
    → (y : ℕ) → length old ≤ n → get_or new y None ≡ get_or old y None
grown_at old new n l h1 h2 y m = grind (arith, h1 y None, h2 y None, get_or_past new y None, get_or_past old y None)

pub grown : (old new : List (Option ℤ)) (n : ℕ) → length new ≡ n → length old ≤ n
    → ((k : ℕ) (d : Option ℤ) → k < n → k < length old → get_or new k d ≡ get_or old k d)
    → ((k : ℕ) (d : Option ℤ) → length old ≤ k → k < n → get_or new k d ≡ None)
    → at new ≡ at old
grown old new n l m h1 h2 = functions_agree (at new) (at old) (λ y. grown_at old new n l h1 h2 y m)

put_at : (vs : List (Option ℤ)) (x : ℕ) (v : ℤ) → x < length vs → (y : ℕ) → get_or (set vs x (Some v)) y None
    ≡ today_with x v (at vs) y
put_at vs x v h y = grind (arith, nat_tests, common_steps)

-- a place that is written
pub put : (vs : List (Option ℤ)) (x : ℕ) (w v : ℤ) → x < length vs → w ≡ v
    → at (set vs x (Some w)) ≡ today_with x v (at vs)
put vs x w v h e = ap (λ u. at (set vs x (Some u))) e ∙ functions_agree (at (set vs x (Some v)))
    (today_with x v (at vs)) (put_at vs x v h)
