-- Names that move, one after the other.
use Rattle.std.proofs.Common.{◌≡◌, ◌<◌, ◌+◌, ℕ, nat_eq, Bool, true, false, ◌||◌, if◌then◌else◌, List, ◌∷◌, drop}
use Rattle.std.proofs.Common.{get_or, length, Option, None, Some, refl, sym, ap, ◌∙◌}
use mathlib.Core.Path.{fun_ext}
use Rattle.std.specs.Option.{is_some, option_map}
use Rattle.std.proofs.lemmas.List.{drop_more}
use Rattle.ae_rules.specs.declared.held.Held.TheVariants as held
use Rattle.ae_rules.specs.Lookups.{has_name}
use Rattle.ae_rules.specs.Groups.{known}
use Rattle.ae_rules.specs.Context.{Local, Context, is_visible, with_held}
use Rattle.ae_rules.specs.Effects.{all_moved}
use Rattle.ae_check.proofs.from_scope.ContextLemmas.{same_context}

abbrev no_local : Option Local
no_local = None

abbrev emptied : Option Local → Option Local
emptied o = option_map (λ (l : Local). record l { held = held.None }) o

-- emptied twice is emptied
emptied_twice : (o : Option Local) → emptied (emptied o) ≡ emptied o
emptied_twice None = refl
emptied_twice (Some l) = refl

either_order : (a b : Bool) (o : Option Local) → (if a || b then emptied o else o)
    ≡ (if b then emptied (if a then emptied o else o) else if a then emptied o else o)
either_order true true o = sym (emptied_twice o)
either_order true false o = refl
either_order false true o = refl
either_order false false o = refl

-- the first of the names moves, and then the others
pub first_moves : (x : ℕ) (xs : List ℕ) (c : Context) → all_moved (x ∷ xs) c ≡ all_moved xs (with_held x held.None c)
first_moves x xs c = same_context (all_moved (x ∷ xs) c) (all_moved xs (with_held x held.None c))
    (fun_ext (λ y. either_order (nat_eq x y) (has_name xs y) (c.local y))) refl

-- one name more has moved
pub next_moves : (xs : List ℕ) (i d : ℕ) (c0 c e : Context) → i < length xs → all_moved xs c0 ≡ all_moved (drop i xs) c
    → e ≡ with_held (get_or xs i d) held.None c → all_moved xs c0 ≡ all_moved (drop (i + 1) xs) e
next_moves xs i d c0 c e l r s =
    r ∙ ap (λ (ys : List ℕ). all_moved ys c) (drop_more xs i d l) ∙ first_moves (get_or xs i d) (drop (i + 1) xs) c
    ∙ ap (all_moved (drop (i + 1) xs)) (sym s)

-- a name that is not visible is not visible once others moved
pub still_new : (xs : List ℕ) (c d : Context) (x : ℕ) → is_visible c x ≡ false → d ≡ all_moved xs c → d.local x ≡ None
still_new xs c d x v e = ap (λ (k : Context). k.local x) e ∙ by_local (c.local x) v
  where
    by_local : (o : Option Local) → (is_some o || known c.group x) ≡ false
        → (if has_name xs x then emptied o else o) ≡ None
    by_local None f = by_name (has_name xs x)
      where
        by_name : (b : Bool) → (if b then None else None) ≡ no_local
        by_name true = refl
        by_name false = refl
    by_local (Some l) f = absurd (cc)
