use Rattle.ae_parser.proofs.from_reading.ReadsLemmas.{exits, first, second, both, free, took_mark, failed_mark}
use Rattle.ae_parser.proofs.from_reading.ReadsLemmas.{has_mark}
use Rattle.ae_reading.specs.Reads.{itself, Free, Always}
use Rattle.ae_text.specs.declared.token.Keyword.TheVariants as word
use Rattle.ae_tree.specs.declared.lexeme.Lexical.TheVariants as tok
use Rattle.ae_parser.proofs.from_reading.ReadsLemmas.{has_mark}
use Rattle.ae_parser.specs.Productions.{away_mark}
use Rattle.ae_parser.proofs.ParamLemmas.{given_took, given_failed}
use Rattle.ae_parser.proofs.params.given_away.Goals as goal

pub returns-in_err-at : goal.returns-in_err-at
returns-in_err-at c = exits itself away_mark Free Always _ _ _
    (given_failed _ _ (first (free _ Always) (has_mark (tok.Word word.None) tt) c.in_err-at.ensures))
    c.from_residual.ensures.1

pub returns-in_err-rest : goal.returns-in_err-rest
returns-in_err-rest c = exits itself away_mark Free Always _ _ _
    (given_failed _ _ (second (free _ Always) c.in_ok-at.ensures (failed_mark c.in_err-rest.ensures)))
    c.from_residual-in_err-rest.ensures.1

pub returns : goal.returns
returns c = given_took _ _ _ (both (free _ Always) c.in_ok-at.ensures (took_mark c.in_ok-rest.ensures))
