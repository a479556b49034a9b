use Rattle.ae_tree.specs.Grammar.{type_}
use Rattle.ae_reading.specs.Reads.{itself, Free, Token}
use Rattle.ae_text.specs.declared.token.Keyword.TheVariants as word
use Rattle.ae_tree.specs.declared.lexeme.Lexical.TheVariants as tok
use Rattle.ae_tree.specs.declared.tree.Ty.TheVariants as ty
use Rattle.ae_reading.proofs.ReadsLemmas.{exits, passes, took_as, failed_as, took_when, failed_when}
use Rattle.ae_reading.specs.Parts.{object}
use Rattle.ae_reading.proofs.TypeLemmas.{NoLess, int_when, bool_when, object_along}
use Rattle.ae_reading.proofs.types.type_.Goals as goal

pub returns-in_err-at : goal.returns-in_err-at
returns-in_err-at c = exits itself type_ Free NoLess _ _ _
    (failed_when type_ (Token (tok.Word word.Int)) ty.Int (int_when _ c.if-is_word_next.ensures) c.in_err-at.ensures)
    c.from_residual.ensures.1

pub returns-in_ok-at : goal.returns-in_ok-at
returns-in_ok-at c = took_when type_ (Token (tok.Word word.Int)) ty.Int (int_when _ c.if-is_word_next.ensures)
    c.in_ok-at.ensures

pub returns-in_err-at-2 : goal.returns-in_err-at-2
returns-in_err-at-2 c = exits itself type_ Free NoLess _ _ _
    (failed_when type_ (Token (tok.Word word.Bool)) ty.Bool (bool_when _ c.if-is_word_next-2.ensures)
    c.in_err-at-2.ensures) c.from_residual-in_err-at-2.ensures.1

pub returns-in_ok-at-2 : goal.returns-in_ok-at-2
returns-in_ok-at-2 c = took_when type_ (Token (tok.Word word.Bool)) ty.Bool (bool_when _ c.if-is_word_next-2.ensures)
    c.in_ok-at-2.ensures

pub returns-else-is_word_next-2 : goal.returns-else-is_word_next-2
returns-else-is_word_next-2 c = passes itself object type_ Free Free NoLess NoLess _ _ _
    (λ x rest s. took_as type_ object (λ q. q) (object_along _ c.if-is_word_next.ensures c.if-is_word_next-2.ensures)
    s) (λ e s. failed_as type_ object (λ q. q) (object_along _ c.if-is_word_next.ensures c.if-is_word_next-2.ensures)
    s) c.object.ensures
