use Rattle.ae_tree.specs.Grammar.{needs}
use Rattle.ae_reading.specs.Reads.{itself, Free}
use Rattle.ae_parser.proofs.from_reading.ReadsLemmas.{passes, took_when, failed_when}
use Rattle.ae_parser.specs.Productions.{some_needs}
use Rattle.ae_parser.proofs.MethodLemmas.{Opening, needs_when, needs_none}
use Rattle.ae_parser.proofs.needs.needs.Goals as goal

pub returns-then-is_word_next : goal.returns-then-is_word_next
returns-then-is_word_next c = passes itself some_needs needs Free Free Opening Opening _ _ _
    (λ x rest s. took_when needs some_needs (λ q. q) (needs_when _ c.if-is_word_next.ensures) s)
    (λ e s. failed_when needs some_needs (λ q. q) (needs_when _ c.if-is_word_next.ensures) s) c.some_needs.ensures

pub returns-else-is_word_next : goal.returns-else-is_word_next
returns-else-is_word_next c = needs_none _ _ c.new.ensures c.if-is_word_next.ensures
