use Rattle.ae_parser.proofs.from_reading.ReadsLemmas.{exits, first, second, both, free, took_mark, failed_mark}
use Rattle.ae_parser.proofs.from_reading.ReadsLemmas.{has_mark}
use Rattle.ae_tree.specs.Grammar.{field}
use Rattle.ae_reading.specs.Reads.{itself, Free, Always}
use Rattle.ae_text.specs.declared.token.Sign.TheVariants as sign
use Rattle.ae_tree.specs.declared.lexeme.Lexical.TheVariants as tok
use Rattle.ae_parser.proofs.from_reading.ReadsLemmas.{has_mark}
use Rattle.ae_parser.proofs.ParamLemmas.{named_ends}
use Rattle.ae_parser.proofs.ClassLemmas.{has_ended, field_took, field_failed}
use Rattle.ae_parser.proofs.classes.field.Goals as goal

pub returns-in_err-ty : goal.returns-in_err-ty
returns-in_err-ty c = exits itself field Free Always _ _ _
    (field_failed _ _ (first (named_ends _ Always) has_ended c.in_err-ty.ensures)) c.from_residual.ensures.1

pub returns-in_err-name : goal.returns-in_err-name
returns-in_err-name c = exits itself field Free Always _ _ _
    (field_failed _ _ (second (named_ends _ Always) c.in_ok-ty.ensures
    (first (free _ Always) (has_mark (tok.Sign sign.Semicolon) tt) c.in_err-name.ensures)))
    c.from_residual-in_err-name.ensures.1

pub returns-in_err-rest : goal.returns-in_err-rest
returns-in_err-rest c = exits itself field Free Always _ _ _
    (field_failed _ _ (second (named_ends _ Always) c.in_ok-ty.ensures
    (second (free _ Always) c.in_ok-name.ensures (failed_mark c.in_err-rest.ensures))))
    c.from_residual-in_err-rest.ensures.1

pub returns : goal.returns
returns c = field_took _ _ _ (both (named_ends _ Always) c.in_ok-ty.ensures
    (both (free _ Always) c.in_ok-name.ensures (took_mark c.in_ok-rest.ensures)))
