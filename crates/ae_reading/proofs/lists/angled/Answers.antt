use Rattle.ae_reading.proofs.ReadsLemmas.{exits, first, second, both, free, took_mark, failed_mark, has_mark}
use Rattle.ae_reading.specs.Reads.{itself, Free, Always}
use Rattle.ae_text.specs.declared.token.Sign.TheVariants as sign
use Rattle.ae_tree.specs.declared.lexeme.Lexical.TheVariants as tok
use Rattle.ae_reading.proofs.ReadsLemmas.{has_mark}
use Rattle.ae_reading.specs.Parts.{angled}
use Rattle.ae_reading.proofs.TypeLemmas.{has_angled_rest, greater_ends, angled_took, angled_failed}
use Rattle.ae_reading.proofs.lists.angled.Goals as goal

pub returns-in_err-rest : goal.returns-in_err-rest
returns-in_err-rest c = exits itself angled Free Always _ _ _
    (angled_failed _ _ (first (free _ Always) has_angled_rest (failed_mark c.in_err-rest.ensures)))
    c.from_residual.ensures.1

pub returns-in_err-names : goal.returns-in_err-names
returns-in_err-names c = exits itself angled Free Always _ _ _
    (angled_failed _ _ (second (free _ Always) (took_mark c.in_ok-rest.ensures)
    (first greater_ends (has_mark (tok.Sign sign.Greater) tt) c.in_err-names.ensures)))
    c.from_residual-in_err-names.ensures.1

pub returns-in_err-rest-2 : goal.returns-in_err-rest-2
returns-in_err-rest-2 c = exits itself angled Free Always _ _ _
    (angled_failed _ _ (second (free _ Always) (took_mark c.in_ok-rest.ensures)
    (second greater_ends c.in_ok-names.ensures (failed_mark c.in_err-rest-2.ensures))))
    c.from_residual-in_err-rest-2.ensures.1

pub returns : goal.returns
returns c = angled_took _ _ _ (both (free _ Always) (took_mark c.in_ok-rest.ensures)
    (both greater_ends c.in_ok-names.ensures (took_mark c.in_ok-rest-2.ensures)))
