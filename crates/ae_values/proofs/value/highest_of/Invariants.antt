use Rattle.std.proofs.Common.{◌≡◌, max, drop, true}
use Rattle.ae_semantics.specs.Values.{highest}
use Rattle.ae_values.specs.Shown.{fields_shown, all_measured}
use Rattle.ae_values.proofs.value.highest_of.Given as goal

abbrev pub invariant-loop-field : goal.invariant-loop-field
invariant-loop-field l =
    (all_measured l.fields ≡ true → all_measured (drop l.field-index l.fields) ≡ true)
    × (all_measured l.fields ≡ true → max l.most (highest (fields_shown (drop l.field-index l.fields)))
    ≡ highest (fields_shown l.fields))
