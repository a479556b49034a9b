use Rattle.std.proofs.Common.{◌≡◌, ◌++◌, take}
use Rattle.ae_graph.specs.Graph.{edges_to}
use Rattle.ae_graph.proofs.succs.put_edges.Given as goal

abbrev pub invariant-loop-from : goal.invariant-loop-from
invariant-loop-from l = l.edges ≡ l.initial.edges ++ edges_to l.to (take l.from-index l.froms)
