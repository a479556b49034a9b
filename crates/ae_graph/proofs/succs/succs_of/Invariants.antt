use Rattle.std.proofs.Common.{◌≡◌, ◌<◌, ℕ, [], length, get_or, take}
use Rattle.ae_graph.specs.Graph.{AreSuccs}
use Rattle.ae_graph.proofs.succs.succs_of.Given as goal

abbrev pub invariant-loop-at : goal.invariant-loop-at
invariant-loop-at l = record {
  len : length l.succs.items ≡ length l.preds;
  each : (i : ℕ) → i < length l.preds → AreSuccs (take l.at l.preds) i (get_or l.succs.items i []);
}
