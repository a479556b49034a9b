use Rattle.std.proofs.Common.{◌≡◌, take}
use Rattle.ae_tree.specs.Form.{bare_names}
use Rattle.ae_check.proofs.methods.names_of.Given as goal

abbrev pub invariant-loop-group : goal.invariant-loop-group
invariant-loop-group l = l.names ≡ bare_names (take l.group-index l.groups)
