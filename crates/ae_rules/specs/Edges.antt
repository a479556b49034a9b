-- Which statements of a block wait for which, by what each of them uses.
use Rattle.std.specs.Prelude.{◌≡◌, ◌<◌, ◌↔◌, ℕ, Bool, true, false, List, [], ◌∷◌, Option, None, Some, Contains}
use Rattle.ae_rules.specs.declared.uses.Resource.{Resource}
use Rattle.ae_rules.specs.declared.uses.Mode.{Mode}
use Rattle.ae_rules.specs.declared.uses.Mode.TheVariants.{Read, Write, GroupShared, GroupWhole}

-- how each resource is used, if it is
abbrev pub Uses : Type 0
Uses = Resource → Option Mode

-- ---- modes

-- two reads go together, and two that share a group
abbrev pub are_compatible : Mode → Mode → Bool
are_compatible Read Read = true
are_compatible GroupShared GroupShared = true
are_compatible _ _ = false

-- this use shuts out every other
abbrev pub is_strong : Mode → Bool
is_strong Read = false
is_strong Write = true
is_strong GroupShared = false
is_strong GroupWhole = true

-- both use the resource, in ways that do not go together
abbrev pub IsConflict : Option Mode → Option Mode → Type 0
IsConflict (Some m) (Some n) = are_compatible m n ≡ false
IsConflict None n = ⊥
IsConflict (Some m) None = ⊥

abbrev pub IsWeak : Option Mode → Type 0
IsWeak None = Unit {0}
IsWeak (Some m) = is_strong m ≡ false

-- ---- statements of a block

-- how each statement of a block uses each resource
abbrev pub BlockUses : Type 0
BlockUses = ℕ → Uses

-- Statement j waits for statement i: they use a resource in ways that do not go together, and no statement strictly between them uses it by Write or GroupWhole.
pub record Edge (uses : BlockUses) (i j : ℕ) : Type 0 where
  pub before : i < j
  pub on : Resource
  pub conflict : IsConflict (uses i on) (uses j on)
  pub clear : (k : ℕ) → i < k → k < j → IsWeak (uses k on)

-- a chain of edges leads from statement i to statement j
pub data Before (uses : BlockUses) : ℕ → ℕ → Type 0 where
  Direct : (i j : ℕ) → Edge uses i j → Before uses i j
  Through : (i j k : ℕ) → Edge uses i j → Before uses j k → Before uses i k

-- each number is below those after it
abbrev pub IsRising : List ℕ → Type 0
IsRising [] = Unit {0}
IsRising (x ∷ []) = Unit {0}
IsRising (x ∷ y ∷ xs) = (x < y) × IsRising (y ∷ xs)

-- the numbers of exactly the statements for which statement j waits, rising
pub record Preds (uses : BlockUses) (j : ℕ) (preds : List ℕ) : Type 0 where
  pub rising : IsRising preds
  pub exact : (i : ℕ) → Contains preds i ↔ Edge uses i j
