use Rattle.std.proofs.Common.{◌≡◌, take, map}
use Rattle.ae_values.specs.Shown.{tree_shown}
use Rattle.ae_values.proofs.store.Store.copy.Given as goal

abbrev pub invariant-loop-member : goal.invariant-loop-member
invariant-loop-member l = map tree_shown l.members.items ≡ map tree_shown (take l.member-index l.member-items)
