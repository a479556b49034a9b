use Rattle.std.proofs.Common.{List, sym, subst}
use Rattle.ae_tree.specs.declared.tree.Param.{Param}
use Rattle.ae_tree.specs.Grammar.{param, separated}
use Rattle.ae_reading.specs.Reads.{itself, Took}
use Rattle.ae_parser.proofs.from_reading.ReadsLemmas.{exits}
use Rattle.ae_parser.proofs.from_reading.Parts.{took_separated, separated_first, separated_more}
use Rattle.ae_parser.specs.Productions.{AtMostParams}
use Rattle.ae_parser.proofs.ParamLemmas.{Closing, params_parted, params_commas, at_most_none}
use Rattle.ae_parser.proofs.params.some_params.Goals as goal

pub returns-in_err-first : goal.returns-in_err-first
returns-in_err-first c = exits itself (separated param) (AtMostParams 16) Closing _ _ _
    (separated_first (λ l x. AtMostParams 15 l) params_parted params_commas
    (λ l x w. at_most_none l) c.in_err-first.ensures) c.from_residual.ensures.1

pub returns-in_err-more : goal.returns-in_err-more
returns-in_err-more c = exits itself (separated param) (AtMostParams 16) Closing _ _ _
    (separated_more (λ l x. AtMostParams 15 l) params_parted params_commas c.in_ok-first.ensures
    c.in_err-more.ensures) c.from_residual-in_err-more.ensures.1

pub returns : goal.returns
returns c =
    let P : List Param → Type 0 = λ l. Took (separated param) (AtMostParams 16) Closing c.args.ts.now l
    c.in_ok-more.rest.now in
    subst P (sym c.in_ok-in_front.ensures)
    (took_separated (λ l x. AtMostParams 15 l) params_parted params_commas c.in_ok-first.ensures
    c.in_ok-more.ensures)
