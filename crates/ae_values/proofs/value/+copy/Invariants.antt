use Rattle.std.proofs.Common.{◌≡◌, take, map}
use Rattle.ae_values.specs.Shown.{value_shown}
use Rattle.ae_values.proofs.value.+copy.Given as goal

abbrev pub invariant-Object::copy-loop-field : goal.invariant-Object::copy-loop-field
invariant-Object::copy-loop-field l = map value_shown l.copied.items ≡ map value_shown
    (take l.field-index l.field-items)
