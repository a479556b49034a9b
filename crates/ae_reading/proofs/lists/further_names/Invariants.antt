use Rattle.std.proofs.Common.{length}
use Rattle.ae_tree.specs.Grammar.{further, name}
use Rattle.ae_reading.specs.Reads.{Free}
use Rattle.ae_reading.proofs.Runs.{Run}
use Rattle.ae_reading.proofs.PartLemmas.{NoComma}
use Rattle.ae_reading.proofs.lists.further_names.Given as goal

abbrev pub invariant-names : goal.invariant-names
invariant-names l = Run (further name) Free NoComma l.ts l.names l.rest

abbrev pub decreases-names : goal.decreases-names
decreases-names l = length l.rest
