use Rattle.std.proofs.Common.{◌≡◌, take}
use Rattle.ae_parser.specs.Slices.{slices_bytes}
use Rattle.ae_parser.proofs.numbers.copied.Given as goal

abbrev pub invariant-loop-name : goal.invariant-loop-name
invariant-loop-name l = l.copies ≡ slices_bytes (take l.name-index l.names)
