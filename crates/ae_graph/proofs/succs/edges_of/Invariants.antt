use Rattle.std.proofs.Common.{◌≡◌, take}
use Rattle.ae_graph.specs.Graph.{edges_from}
use Rattle.ae_graph.proofs.succs.edges_of.Given as goal

abbrev pub invariant-loop-at : goal.invariant-loop-at
invariant-loop-at l = l.edges ≡ edges_from 0 (take l.at l.preds)
