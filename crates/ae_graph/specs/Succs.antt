-- How those that wait for a statement are gathered.
use Rattle.std.specs.Prelude.{◌≡◌, ◌<◌, ◌++◌, ℕ, nat_eq, Bool, if◌then◌else◌, List, [], ◌∷◌, length, slice_index_or}
use Rattle.std.specs.Prelude.{All}
use Rattle.std.specs.List.{list_any}
use Rattle.ae_rules.specs.Edges.{IsRising}
use Rattle.ae_graph.specs.Graph.{Graph, preds_in}

-- each statement waits for earlier ones, in rising order
abbrev pub AreEarlier : Graph → Type 0
AreEarlier g = (j : ℕ) → j < length g → IsRising (preds_in g j) × All (λ i. i < j) (preds_in g j)

abbrev pub is_among : List ℕ → ℕ → Bool
is_among xs i = list_any (λ x. nat_eq x i) xs

abbrev pub joined : Bool → ℕ → List ℕ → List ℕ
joined joins j waiters = if joins then waiters ++ j ∷ [] else waiters

-- statement j joins those that wait for each of these statements
pub record JoinsWaiters (froms : List ℕ) (j : ℕ) (old new : Graph) : Type 0 where
  pub len : length new ≡ length old
  pub each : (i : ℕ) → i < length old → slice_index_or new i [] ≡ joined (is_among froms i) j (slice_index_or old i [])
