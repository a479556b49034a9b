use Rattle.std.proofs.Common.{◌≡◌, take}
use Rattle.ae_rules.specs.declared.uses.Resource.{Resource}
use Rattle.ae_graph.specs.Opened.{kept_of, after_uses}
use Rattle.ae_graph.proofs.waits.OpenUses.put_all.Given as goal

abbrev pub invariant-loop-one : goal.invariant-loop-one
invariant-loop-one l = (r : Resource) → kept_of l.self r ≡ after_uses l.stmt r (kept_of l.initial.self r)
    (take l.one-index l.uses)
