use Rattle.ae_tree.specs.Grammar.{permission}
use Rattle.ae_reading.specs.Reads.{itself, Free, Always, Token}
use Rattle.ae_text.specs.declared.token.Keyword.TheVariants as word
use Rattle.ae_tree.specs.declared.lexeme.Lexical.TheVariants as tok
use Rattle.ae_tree.specs.declared.tree.PermAt.TheVariants as perm_at
use Rattle.ae_reading.proofs.ReadsLemmas.{exits, passes, took_as, failed_as}
use Rattle.ae_reading.specs.Parts.{shared_permission}
use Rattle.ae_reading.proofs.TypeLemmas.{unique_along, immutable_along, lent_along, shared_along}
use Rattle.ae_reading.proofs.types.permission.Goals as goal

pub returns-in_err-at : goal.returns-in_err-at
returns-in_err-at c = exits itself permission Free Always _ _ _
    (failed_as permission (Token (tok.Word word.Unique)) perm_at.Unique (unique_along _ c.if-is_word_next.ensures)
    c.in_err-at.ensures) c.from_residual.ensures.1

pub returns-in_ok-at : goal.returns-in_ok-at
returns-in_ok-at c = took_as permission (Token (tok.Word word.Unique)) perm_at.Unique
    (unique_along _ c.if-is_word_next.ensures) c.in_ok-at.ensures

pub returns-in_err-at-2 : goal.returns-in_err-at-2
returns-in_err-at-2 c = exits itself permission Free Always _ _ _
    (failed_as permission (Token (tok.Word word.Immutable)) perm_at.Immutable
    (immutable_along _ c.if-is_word_next-2.ensures) c.in_err-at-2.ensures) c.from_residual-in_err-at-2.ensures.1

pub returns-in_ok-at-2 : goal.returns-in_ok-at-2
returns-in_ok-at-2 c = took_as permission (Token (tok.Word word.Immutable)) perm_at.Immutable
    (immutable_along _ c.if-is_word_next-2.ensures) c.in_ok-at-2.ensures

pub returns-in_err-at-3 : goal.returns-in_err-at-3
returns-in_err-at-3 c = exits itself permission Free Always _ _ _
    (failed_as permission (Token (tok.Word word.Lent)) perm_at.Lent (lent_along _ c.if-is_word_next-3.ensures)
    c.in_err-at-3.ensures) c.from_residual-in_err-at-3.ensures.1

pub returns-in_ok-at-3 : goal.returns-in_ok-at-3
returns-in_ok-at-3 c = took_as permission (Token (tok.Word word.Lent)) perm_at.Lent
    (lent_along _ c.if-is_word_next-3.ensures) c.in_ok-at-3.ensures

pub returns-else-is_word_next-3 : goal.returns-else-is_word_next-3
returns-else-is_word_next-3 c = passes itself shared_permission permission Free Free Always Always _ _ _
    (λ x rest s. took_as permission shared_permission (λ q. q)
    (shared_along _ c.if-is_word_next.ensures c.if-is_word_next-2.ensures c.if-is_word_next-3.ensures) s)
    (λ e s. failed_as permission shared_permission (λ q. q)
    (shared_along _ c.if-is_word_next.ensures c.if-is_word_next-2.ensures c.if-is_word_next-3.ensures) s)
    c.shared.ensures
