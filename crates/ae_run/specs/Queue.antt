-- For how many statements each one waits, and which are ready.
use Rattle.std.specs.Prelude.{◌≡◌, ◌<◌, ◌+◌, ℕ, nat_eq, Bool, not, if◌then◌else◌, List, length, slice_index}
use Rattle.std.specs.Prelude.{slice_index_or, count_by}
use Rattle.ae_graph.specs.Graph.{Graph, preds_in}
use Rattle.ae_text.specs.Numbers.{times}

abbrev pub zero_as_one : ℕ → ℕ
zero_as_one n = if nat_eq n 0 then 1 else 0

-- for how many a statement waits; a number that is none of the block's waits forever
abbrev pub waits_of : List ℕ → ℕ → ℕ
waits_of waits j = slice_index_or waits j 1

-- each statement waits for those of its predecessors that did not go through
pub record AreWaits (g : Graph) (went : ℕ → Bool) (waits : List ℕ) : Type 0 where
  pub size : length waits ≡ length g
  pub counts : (j : ℕ) → j < length g → slice_index waits j ≡ count_by (λ i. not (went i)) (preds_in g j)

-- exactly the statements that wait for none and were not taken are ready, each once
abbrev pub AreReady : (ℕ → Bool) → List ℕ → List ℕ → Type 0
AreReady taken waits ready = (j : ℕ) → times j ready + (if taken j then 1 else 0) ≡ zero_as_one (waits_of waits j)
