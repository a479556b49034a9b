use Rattle.std.proofs.Common.{take}
use Rattle.ae_graph.specs.Succs.{JoinsWaiters}
use Rattle.ae_graph.proofs.succs.join.Given as goal

abbrev pub invariant-loop-from : goal.invariant-loop-from
invariant-loop-from l = JoinsWaiters (take l.from-index l.froms) l.to l.initial.succs.items l.succs.items
