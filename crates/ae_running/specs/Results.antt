-- What a method may have returned.
use Rattle.std.specs.Prelude.{Bool, true, Option, None, Some}
use Rattle.ae_values.specs.declared.value.Val.{Val}
use Rattle.ae_values.specs.Shown.{value_shown}

-- each height stored in what was returned is that of its tree
abbrev pub result_measured : Option Val → Bool
result_measured None = true
result_measured (Some v) = (value_shown v).measured
