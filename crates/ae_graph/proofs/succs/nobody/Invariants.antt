use Rattle.std.proofs.Common.{◌≡◌, List, ℕ, [], vec_len}
use Rattle.std.specs.List.{All}
use Rattle.ae_graph.proofs.succs.nobody.Given as goal

abbrev pub invariant-loop : goal.invariant-loop
invariant-loop l = (vec_len l.succs ≡ l.counter) × All (λ (waiters : List ℕ). waiters ≡ []) l.succs.items
