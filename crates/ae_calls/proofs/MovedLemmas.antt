-- Names that move one after another.
use Rattle.std.proofs.Common.{◌≡◌, ℕ, nat_eq, Bool, true, false, ◌||◌}
use Rattle.std.proofs.Common.{if◌then◌else◌, List, [], ◌∷◌, ◌++◌, Option, None, Some}
use Rattle.std.proofs.Common.{refl, ap, ◌∙◌}
use Rattle.std.specs.Prelude.{option_map}
use Rattle.ae_rules.specs.Lookups.{has_name}
use Rattle.ae_rules.specs.Context.{Local, Context, with_name_moved}
use Rattle.ae_rules.specs.Effects.{all_moved}
use Rattle.ae_calls.proofs.from_rules.GoneLemmas.{no_more}
use Rattle.ae_calls.proofs.from_text.Basics.{functions_agree}

or_nothing : (b : Bool) → (b || false) ≡ b
or_nothing true = refl
or_nothing false = refl

or_later : (a b d : Bool) → (a || (b || d)) ≡ ((a || b) || d)
or_later true b d = refl
or_later false b d = refl

-- a name behind others is one of all
pub has_the_last : (xs : List ℕ) (x y : ℕ) → has_name (xs ++ x ∷ []) y ≡ (has_name xs y || nat_eq x y)
has_the_last [] x y = or_nothing (nat_eq x y)
has_the_last (z ∷ zs) x y = ap (λ b. nat_eq z y || b) (has_the_last zs x y)
    ∙ or_later (nat_eq z y) (has_name zs y) (nat_eq x y)

moved_twice : (a b : Bool) (o : Option Local)
    → (if a || b then option_map no_more o else o)
    ≡ (if b then option_map no_more (if a then option_map no_more o else o) else
    (if a then option_map no_more o else o))
moved_twice true true None = refl
moved_twice true true (Some l) = refl
moved_twice true false o = refl
moved_twice false true o = refl
moved_twice false false o = refl

-- names that move, and then one more, are all of them
pub moved_last : (xs : List ℕ) (x : ℕ) (c : Context)
    → all_moved (xs ++ x ∷ []) c ≡ with_name_moved (Some x) (all_moved xs c)
moved_last xs x c = ap (λ (l : ℕ → Option Local). record c { local = l }) (functions_agree _ _ (λ y.
    ap (λ b. if b then option_map no_more (c.local y) else c.local y) (has_the_last xs x y)
    ∙ moved_twice (has_name xs y) (nat_eq x y) (c.local y)))

-- where no name moves the context is as it was
pub none_moved_is_same : (c : Context) → all_moved [] c ≡ c
none_moved_is_same c = refl

-- one name that moves
pub one_moved_is_last : (x : ℕ) (c : Context) → all_moved (x ∷ []) c ≡ with_name_moved (Some x) c
one_moved_is_last x c = moved_last [] x c

pub ruleset moved = (none_moved_is_same, one_moved_is_last)
