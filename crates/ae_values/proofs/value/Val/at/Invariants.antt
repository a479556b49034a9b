use Rattle.std.proofs.Common.{◌≡◌, drop}
use Rattle.ae_values.specs.Shown.{shown, IsMeasured}
use Rattle.ae_values.specs.Inside.{value_inside}
use Rattle.ae_values.proofs.value.Val.at.Given as goal

abbrev pub invariant-loop-field : goal.invariant-loop-field
invariant-loop-field l = IsMeasured l.value
    × (value_inside (drop l.field-index l.fields) (shown l.value) ≡ value_inside l.fields (shown l.self))
