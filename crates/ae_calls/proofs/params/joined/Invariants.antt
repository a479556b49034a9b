use Rattle.std.proofs.Common.{◌≡◌, ◌++◌, take}
use Rattle.ae_tree.specs.Form.{bare_names}
use Rattle.ae_calls.proofs.params.joined.Given as goal

abbrev pub invariant-loop-item : goal.invariant-loop-item
invariant-loop-item l = l.names ≡ l.first ++ bare_names (take l.item-index l.second)
