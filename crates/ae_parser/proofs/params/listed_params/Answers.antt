use Rattle.std.proofs.Common.{List, sym, subst}
use Rattle.ae_tree.specs.declared.tree.Param.{Param}
use Rattle.ae_tree.specs.Grammar.{param, separated, comma_list}
use Rattle.ae_reading.specs.Reads.{itself, Took}
use Rattle.ae_parser.proofs.from_reading.ReadsLemmas.{passes}
use Rattle.ae_parser.proofs.from_reading.Parts.{took_none, took_some, failed_some}
use Rattle.ae_parser.specs.Productions.{AtMostParams}
use Rattle.ae_parser.proofs.ParamLemmas.{Closing, no_params, at_most_16}
use Rattle.ae_parser.proofs.params.listed_params.Goals as goal

pub returns-then-is_sign_next : goal.returns-then-is_sign_next
returns-then-is_sign_next c =
    let P : List Param → Type 0 = λ l. Took (comma_list param) (AtMostParams 16) Closing c.args.ts.now l
    c.args.ts.now in
    subst P (sym c.new.ensures) (took_none param (AtMostParams 16) Closing at_most_16
    (no_params _ c.if-is_sign_next.ensures))

pub returns-else-is_sign_next : goal.returns-else-is_sign_next
returns-else-is_sign_next c = passes itself (separated param) (comma_list param) (AtMostParams 16)
    (AtMostParams 16) Closing Closing _ _ _
    (λ x rest s. took_some param (AtMostParams 16) at_most_16 c.if-is_sign_next.ensures s)
    (λ e s. failed_some param (AtMostParams 16) at_most_16 c.if-is_sign_next.ensures s) c.some_params.ensures
