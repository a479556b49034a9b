use Rattle.std.proofs.Common.{length}
use Rattle.ae_tree.specs.Grammar.{further, need}
use Rattle.ae_reading.specs.Reads.{Free}
use Rattle.ae_parser.proofs.from_reading.Runs.{Run}
use Rattle.ae_parser.proofs.MethodLemmas.{Opening}
use Rattle.ae_parser.proofs.needs.further_needs.Given as goal

abbrev pub invariant-needs : goal.invariant-needs
invariant-needs l = Run (further need) Free Opening l.ts l.needs l.rest

abbrev pub decreases-needs : goal.decreases-needs
decreases-needs l = length l.rest
