use Rattle.std.proofs.Common.{◌≡◌, ◌≤◌, take, count_by}
use Rattle.ae_graph.specs.Graph.{is_free}
use Rattle.ae_graph.proofs.block.count_free.Given as goal

abbrev pub invariant-loop-waits : goal.invariant-loop-waits
invariant-loop-waits l = record {
  counted : l.free ≡ count_by is_free (take l.waits-index l.preds);
  within : l.free
      ≤ l.waits-index;
}
