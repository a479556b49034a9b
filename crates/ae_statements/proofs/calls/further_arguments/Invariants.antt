use Rattle.std.proofs.Common.{length, map}
use Rattle.ae_tree.specs.Shown as shown
use Rattle.ae_statements.proofs.CallLemmas.{Arguments}
use Rattle.ae_statements.proofs.calls.further_arguments.Given as goal

abbrev pub invariant-more : goal.invariant-more
invariant-more l = Arguments l.ts (map shown.expression l.args) l.rest

abbrev pub decreases-more : goal.decreases-more
decreases-more l = length l.rest
