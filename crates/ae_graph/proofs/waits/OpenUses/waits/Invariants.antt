use Rattle.std.proofs.Common.{◌≡◌, take}
use Rattle.ae_graph.specs.Opened.{kept_of, waited_by}
use Rattle.ae_graph.proofs.waits.OpenUses.waits.Given as goal

abbrev pub invariant-loop-one : goal.invariant-loop-one
invariant-loop-one l = l.waits.items ≡ waited_by (kept_of l.self) (take l.one-index l.uses)
