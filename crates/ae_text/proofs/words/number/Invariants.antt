use Rattle.std.proofs.Common.{◌≡◌, ◌<◌, ◌^◌, drop}
use Rattle.ae_text.specs.Tokens.{digits_value, value_from}
use Rattle.ae_text.proofs.words.number.Given as goal

abbrev pub invariant-loop-b : goal.invariant-loop-b
invariant-loop-b l = (value_from l.n (drop l.b-index l.s) ≡ digits_value l.s) × (l.n < 2 ^ 63)
