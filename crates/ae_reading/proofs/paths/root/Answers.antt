use Rattle.ae_tree.specs.Grammar.{name, root}
use Rattle.ae_reading.specs.Reads.{itself, Free, Always}
use Rattle.ae_reading.proofs.ReadsLemmas.{exits, passes}
use Rattle.ae_reading.proofs.PathLemmas.{this_took, this_failed, named_took, named_failed}
use Rattle.ae_reading.proofs.paths.root.Goals as goal

pub returns-in_err-at : goal.returns-in_err-at
returns-in_err-at c = exits itself root Free Always _ _ _
    (this_failed _ _ c.if-is_word_next.ensures c.in_err-at.ensures) c.from_residual.ensures.1

pub returns-in_ok-at : goal.returns-in_ok-at
returns-in_ok-at c = this_took _ _ _ c.if-is_word_next.ensures c.in_ok-at.ensures

pub returns-else-is_word_next : goal.returns-else-is_word_next
returns-else-is_word_next c = passes itself name root Free Free Always Always _ _ _
    (λ x rest s. named_took _ _ x c.if-is_word_next.ensures s) (λ e s. named_failed _ e c.if-is_word_next.ensures s)
    c.name.ensures
