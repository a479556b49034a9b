-- The edges of a block as a test and as lists.
use Rattle.std.specs.Prelude.{ℕ, zero, suc, nat_lt, Bool, true, false, ◌&&◌, ◌||◌, not, if◌then◌else◌, List, [], ◌∷◌}
use Rattle.std.specs.Prelude.{◌++◌, map, Option, None, Some}
use Rattle.ae_rules.specs.declared.uses.Resource.{Resource}
use Rattle.ae_rules.specs.declared.uses.Resource.TheVariants as resource
use Rattle.ae_rules.specs.declared.uses.Mode.{Mode}
use Rattle.ae_rules.specs.Edges.{are_compatible, is_strong, BlockUses}
use Rattle.ae_rules.specs.Context.{all_below}

-- ---- where each used name is below a bound

abbrev pub conflicts : Option Mode → Option Mode → Bool
conflicts (Some m) (Some n) = not (are_compatible m n)
conflicts _ _ = false

abbrev pub is_weak : Option Mode → Bool
is_weak None = true
is_weak (Some m) = not (is_strong m)

-- an edge on this resource
abbrev pub edge_on : BlockUses → ℕ → ℕ → Resource → Bool
edge_on uses i j r = conflicts (uses i r) (uses j r) && all_below j (λ k. not (nat_lt i k) || is_weak (uses k r))

-- some number below the bound passes
abbrev pub any_below : ℕ → (ℕ → Bool) → Bool
any_below zero test = false
any_below (suc n) test = any_below n test || test n

abbrev pub is_edge : ℕ → BlockUses → ℕ → ℕ → Bool
is_edge names uses i j = any_below names
    (λ x. edge_on uses i j (resource.Local x) || edge_on uses i j (resource.Group x))

-- the numbers below a bound that pass, rising
abbrev pub those_below : ℕ → (ℕ → Bool) → List ℕ
those_below zero test = []
those_below (suc n) test = those_below n test ++ (if test n then n ∷ [] else [])

-- the statements for which statement j waits
abbrev pub preds : ℕ → BlockUses → ℕ → List ℕ
preds names uses j = those_below j (λ i. is_edge names uses i j)

-- for each of so many statements, those for which it waits
abbrev pub graph : ℕ → BlockUses → ℕ → List (List ℕ)
graph names uses count = map (preds names uses) (those_below count (λ j. true))
