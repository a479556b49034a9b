-- The groups of a scope by name, and how their changes are undone.
use Rattle.std.specs.Prelude.{◌≡◌, ℕ, ◌≤◌, true, List, [], ◌∷◌, drop, Option, None, is_some, slice_index_or, slice_set}
use Rattle.ae_rules.specs.declared.held.GroupPerm.{GroupPerm}
use Rattle.ae_rules.specs.Lookups.{has_name}
use Rattle.ae_scope.specs.declared.slot.GroupChange.{GroupChange}

-- each group that has a permission in the table is in the list
abbrev pub Listed : List (Option GroupPerm) → List ℕ → Type 0
Listed gs xs = (g : ℕ) → is_some (slice_index_or gs g None) ≡ true → has_name xs g ≡ true

-- the changes are undone, the last one first
abbrev pub groups_before : List GroupChange → List (Option GroupPerm) → List (Option GroupPerm)
groups_before [] gs = gs
groups_before (c ∷ cs) gs = slice_set (groups_before cs gs) c.name c.before

-- a group that was known after the first of the changes was known after more of them, too
abbrev pub Rising : List GroupChange → List (Option GroupPerm) → Type 0
Rising cs gs = (m n g : ℕ) → m ≤ n → is_some (slice_index_or (groups_before (drop m cs) gs) g None) ≡ true
    → is_some (slice_index_or (groups_before (drop n cs) gs) g None) ≡ true
