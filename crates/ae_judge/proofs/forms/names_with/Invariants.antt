use Rattle.std.proofs.Common.{◌≡◌, map, take}
use Rattle.ae_tree.specs.Form.{bare_names}
use Rattle.ae_rules.specs.Forms.{in_place}
use Rattle.ae_judge.proofs.forms.names_with.Given as goal

abbrev pub invariant-loop-item : goal.invariant-loop-item
invariant-loop-item l = l.names ≡ map (in_place l.from l.to) (bare_names (take l.item-index l.list))
