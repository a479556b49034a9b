use Rattle.std.proofs.Common.{length}
use Rattle.ae_parser.proofs.ParamLemmas.{ReadParams}
use Rattle.ae_parser.proofs.params.further_params.Given as goal

abbrev pub invariant-params : goal.invariant-params
invariant-params l = ReadParams l.ts l.params l.rest

abbrev pub decreases-params : goal.decreases-params
decreases-params l = length l.rest
