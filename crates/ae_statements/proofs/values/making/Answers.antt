use Rattle.ae_tree.specs.Shown as shown
use Rattle.ae_tree.specs.Grammar.{right_of_equals}
use Rattle.ae_tree.specs.Limits.{KeepsRight}
use Rattle.ae_reading.specs.Reads.{Always}
use Rattle.ae_statements.proofs.from_reading.ReadsLemmas.{exits, passes}
use Rattle.ae_statements.specs.Productions.{with_semicolon, made_side}
use Rattle.ae_statements.proofs.MadeLemmas.{new_first, new_second, new_took}
use Rattle.ae_statements.proofs.values.making.Goals as goal

pub returns-in_err-at : goal.returns-in_err-at
returns-in_err-at c = exits shown.right_side (with_semicolon right_of_equals) KeepsRight Always _ _ _
    (new_first _ _ c.requires c.in_err-at.ensures) c.from_residual.ensures.1

pub returns-then-is_word_next : goal.returns-then-is_word_next
returns-then-is_word_next c = passes shown.right_side (made_side c.in_ok-at.at)
    (with_semicolon right_of_equals) KeepsRight KeepsRight Always Always _ _ _
    (λ x rest s. new_took _ _ _ _ _ c.requires c.in_ok-at.ensures s)
    (λ e s. new_second _ _ _ _ c.requires c.in_ok-at.ensures s) c.zeros.ensures

pub returns-else-is_word_next : goal.returns-else-is_word_next
returns-else-is_word_next c = passes shown.right_side (made_side c.in_ok-at.at)
    (with_semicolon right_of_equals) KeepsRight KeepsRight Always Always _ _ _
    (λ x rest s. new_took _ _ _ _ _ c.requires c.in_ok-at.ensures s)
    (λ e s. new_second _ _ _ _ c.requires c.in_ok-at.ensures s) c.object.ensures
