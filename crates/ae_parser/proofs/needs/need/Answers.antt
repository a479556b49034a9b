use Rattle.ae_tree.specs.Grammar.{need}
use Rattle.ae_reading.specs.Reads.{itself, Free, Always}
use Rattle.ae_parser.proofs.from_reading.ReadsLemmas.{passes, took_as, failed_as}
use Rattle.ae_parser.specs.Productions.{need_by}
use Rattle.ae_text.specs.declared.token.Keyword.TheVariants as word
use Rattle.ae_parser.proofs.MethodLemmas.{need_there, need_left}
use Rattle.ae_parser.proofs.needs.need.Goals as goal

pub returns-then-is_word_next : goal.returns-then-is_word_next
returns-then-is_word_next c = passes itself (need_by _) need Free Free Always Always _ _ _
    (λ x rest s. took_as need (need_by _) (λ q. q) (need_there word.Exclusive _ c.if-is_word_next.ensures) s)
    (λ e s. failed_as need (need_by _) (λ q. q) (need_there word.Exclusive _ c.if-is_word_next.ensures) s)
    c.need_by.ensures

pub returns-then-is_word_next-2 : goal.returns-then-is_word_next-2
returns-then-is_word_next-2 c = passes itself (need_by _) need Free Free Always Always _ _ _
    (λ x rest s. took_as need (need_by _) (λ q. q) (need_there word.Shared _ c.if-is_word_next-2.ensures) s)
    (λ e s. failed_as need (need_by _) (λ q. q) (need_there word.Shared _ c.if-is_word_next-2.ensures) s)
    c.need_by-then-is_word_next-2.ensures

pub returns-else-is_word_next-2 : goal.returns-else-is_word_next-2
returns-else-is_word_next-2 c = passes itself (need_by _) need Free Free Always Always _ _ _
    (λ x rest s. took_as need (need_by _) (λ q. q) (need_left _ c.if-is_word_next.ensures c.if-is_word_next-2.ensures)
    s) (λ e s. failed_as need (need_by _) (λ q. q) (need_left _ c.if-is_word_next.ensures c.if-is_word_next-2.ensures)
    s) c.need_by-else-is_word_next-2.ensures
