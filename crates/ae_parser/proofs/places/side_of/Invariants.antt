use Rattle.std.proofs.Common.{take}
use Rattle.ae_parser.specs.Sides.{Describes}
use Rattle.ae_parser.proofs.places.side_of.Given as goal

abbrev pub invariant-loop-index : goal.invariant-loop-index
invariant-loop-index l = Describes (take l.index l.before) l.side
