use Rattle.ae_reading.specs.Reads.{itself}
use Rattle.ae_parser.proofs.from_reading.ReadsLemmas.{exits, first, second, both}
use Rattle.ae_parser.proofs.from_reading.Parts.{commas_link}
use Rattle.ae_tree.specs.Grammar.{param}
use Rattle.ae_parser.specs.Productions.{given_to_method, FewGiven}
use Rattle.ae_parser.proofs.ParamLemmas.{Closing, params_commas, has_furthers, led_took, led_failed, unled_took}
use Rattle.ae_parser.proofs.ParamLemmas.{unled_failed}
use Rattle.ae_parser.proofs.params.read_given.Goals as goal

pub returns-in_err-me-in-Some : goal.returns-in_err-me-in-Some
returns-in_err-me-in-Some c = exits itself (given_to_method c.args.class) FewGiven Closing _ _ _
    (led_failed _ _ _ _ c.in-Some.is
    (first (commas_link param params_commas) has_furthers c.in_err-me-in-Some.ensures)) c.from_residual.ensures.1

pub returns-in_err-params-in-Some : goal.returns-in_err-params-in-Some
returns-in_err-params-in-Some c = exits itself (given_to_method c.args.class) FewGiven Closing _ _ _
    (led_failed _ _ _ _ c.in-Some.is
    (second (commas_link param params_commas) c.in_ok-me-in-Some.ensures c.in_err-params-in-Some.ensures))
    c.from_residual-in_err-params-in-Some.ensures.1

pub returns-in_ok-params-in-Some : goal.returns-in_ok-params-in-Some
returns-in_ok-params-in-Some c = led_took _ _ _ _ _ c.in-Some.is
    (both (commas_link param params_commas) c.in_ok-me-in-Some.ensures c.in_ok-params-in-Some.ensures)

pub returns-in_err-params-in-None : goal.returns-in_err-params-in-None
returns-in_err-params-in-None c = exits itself (given_to_method c.args.class) FewGiven Closing _ _ _
    (unled_failed _ _ _ c.in-None.is c.in_err-params-in-None.ensures) c.from_residual-in_err-params-in-None.ensures.1

pub returns-in_ok-params-in-None : goal.returns-in_ok-params-in-None
returns-in_ok-params-in-None c = unled_took _ _ _ _ c.in-None.is c.in_ok-params-in-None.ensures
