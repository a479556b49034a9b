-- The graph of a block as a list: for each statement, the numbers of those for which it waits.
use Rattle.std.specs.Prelude.{◌≡◌, ◌<◌, ◌+◌, ◌++◌, ◌↔◌, ℕ, nat_eq, Bool, List, [], ◌∷◌, length, slice_index_or}
use Rattle.std.specs.Prelude.{Contains, map}
use Rattle.ae_text.specs.declared.refusal.Edge.{Edge}
use Rattle.ae_rules.specs.Edges.{BlockUses, IsRising, Preds}

abbrev pub Graph : Type 0
Graph = List (List ℕ)

-- the statements for which statement j waits
abbrev pub preds_in : Graph → ℕ → List ℕ
preds_in g j = slice_index_or g j []

-- a statement with these waits for none
abbrev pub is_free : List ℕ → Bool
is_free preds = nat_eq (length preds) 0

-- the graph of so many statements that use resources so
abbrev pub IsGraphOf : BlockUses → ℕ → Graph → Type 0
IsGraphOf uses n g = (length g ≡ n) × ((j : ℕ) → j < length g → Preds uses j (preds_in g j))

-- the statements that wait for statement i, rising
pub record AreSuccs (g : Graph) (i : ℕ) (succs : List ℕ) : Type 0 where
  pub rising : IsRising succs
  pub exact : (j : ℕ) → Contains succs j ↔ Contains (preds_in g j) i

-- the edges to statement j
abbrev pub edges_to : ℕ → List ℕ → List Edge
edges_to j preds = map (λ i. record { from = i; to = j }) preds

-- all edges, by `to` and then by `from`; the first list is that of statement j
abbrev pub edges_from : ℕ → Graph → List Edge
edges_from j [] = []
edges_from j (preds ∷ g) = edges_to j preds ++ edges_from (j + 1) g

-- for each statement, those that wait for it
abbrev pub AreAllSuccs : Graph → List (List ℕ) → Type 0
AreAllSuccs g succs = (length succs ≡ length g) × ((i : ℕ) → i < length g → AreSuccs g i (slice_index_or succs i []))
