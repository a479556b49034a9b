use Rattle.ae_tree.specs.Grammar.{kind}
use Rattle.ae_reading.specs.Reads.{itself, Free, Token}
use Rattle.ae_text.specs.declared.token.Keyword.TheVariants as word
use Rattle.ae_tree.specs.declared.lexeme.Lexical.TheVariants as tok
use Rattle.ae_tree.specs.declared.tree.KindAt.TheVariants as kind_at
use Rattle.ae_reading.proofs.ReadsLemmas.{exits, passes, took_as, failed_as, took_when, failed_when}
use Rattle.ae_reading.specs.Parts.{class}
use Rattle.ae_reading.proofs.TypeLemmas.{NoLess, ints_when, class_along}
use Rattle.ae_reading.proofs.types.kind.Goals as goal

pub returns-in_err-at : goal.returns-in_err-at
returns-in_err-at c = exits itself kind Free NoLess _ _ _
    (failed_when kind (Token (tok.Word word.Ints)) kind_at.Ints (ints_when _ c.if-is_word_next.ensures)
    c.in_err-at.ensures) c.from_residual.ensures.1

pub returns-in_ok-at : goal.returns-in_ok-at
returns-in_ok-at c = took_when kind (Token (tok.Word word.Ints)) kind_at.Ints (ints_when _ c.if-is_word_next.ensures)
    c.in_ok-at.ensures

pub returns-else-is_word_next : goal.returns-else-is_word_next
returns-else-is_word_next c = passes itself class kind Free Free NoLess NoLess _ _ _
    (λ x rest s. took_as kind class (λ q. q) (class_along _ c.if-is_word_next.ensures) s)
    (λ e s. failed_as kind class (λ q. q) (class_along _ c.if-is_word_next.ensures) s) c.class.ensures
