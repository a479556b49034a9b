use Rattle.std.proofs.Common.{length}
use Rattle.ae_tree.specs.Grammar.{field}
use Rattle.ae_reading.specs.Reads.{Free}
use Rattle.ae_parser.proofs.from_reading.Runs.{Run}
use Rattle.ae_parser.specs.Productions.{NoType}
use Rattle.ae_parser.proofs.classes.fields.Given as goal

abbrev pub invariant-fields : goal.invariant-fields
invariant-fields l = Run field Free NoType l.ts l.fields l.rest

abbrev pub decreases-fields : goal.decreases-fields
decreases-fields l = length l.rest
