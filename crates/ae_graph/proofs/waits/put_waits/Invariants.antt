use Rattle.std.proofs.Common.{◌≡◌, ◌++◌, take}
use Rattle.ae_graph.specs.Opened.{waited}
use Rattle.ae_graph.proofs.waits.put_waits.Given as goal

abbrev pub invariant-loop-one : goal.invariant-loop-one
invariant-loop-one l = l.waits.items ≡ l.initial.waits.items ++ waited l.mode (take l.one-index l.past)
