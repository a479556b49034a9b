use Rattle.std.proofs.Common.{None, Some}
use Rattle.ae_tree.specs.Grammar.{result, type_}
use Rattle.ae_reading.specs.Reads.{itself, Free, TokenMark}
use Rattle.ae_text.specs.declared.token.Keyword.TheVariants as word
use Rattle.ae_tree.specs.declared.lexeme.Lexical.TheVariants as tok
use Rattle.ae_parser.proofs.from_reading.ReadsLemmas.{exits, took_as, failed_as, took_mark, failed_mark, took_when}
use Rattle.ae_parser.proofs.from_reading.ReadsLemmas.{failed_when}
use Rattle.ae_parser.proofs.from_reading.TypeLemmas.{NoLess}
use Rattle.ae_parser.proofs.MethodLemmas.{void_when, some_along}
use Rattle.ae_parser.proofs.methods.returned.Goals as goal

pub returns-in_err-rest : goal.returns-in_err-rest
returns-in_err-rest c = exits itself result Free NoLess _ _ _
    (failed_when result (TokenMark (tok.Word word.Void)) (λ q. None) (void_when _ c.if-is_word_next.ensures)
    (failed_mark c.in_err-rest.ensures)) c.from_residual.ensures.1

pub returns-in_ok-rest : goal.returns-in_ok-rest
returns-in_ok-rest c = took_when result (TokenMark (tok.Word word.Void)) (λ q. None)
    (void_when _ c.if-is_word_next.ensures) (took_mark c.in_ok-rest.ensures)

pub returns-in_err-ty : goal.returns-in_err-ty
returns-in_err-ty c = exits itself result Free NoLess _ _ _
    (failed_as result type_ (λ q. Some q) (some_along _ c.if-is_word_next.ensures) c.in_err-ty.ensures)
    c.from_residual-in_err-ty.ensures.1

pub returns-in_ok-ty : goal.returns-in_ok-ty
returns-in_ok-ty c = took_as result type_ (λ q. Some q) (some_along _ c.if-is_word_next.ensures) c.in_ok-ty.ensures
