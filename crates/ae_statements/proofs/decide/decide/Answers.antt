use Rattle.ae_statements.proofs.DecideLemmas.{value_other}
use Rattle.ae_statements.proofs.DecidedLemmas.{from_none, from_name, from_this}
use Rattle.ae_statements.proofs.decide.decide.Goals as goal

pub returns-in_default : goal.returns-in_default
returns-in_default c = from_none _ c.requires c.in_default.ensures

pub returns-then-is_name_next : goal.returns-then-is_name_next
returns-then-is_name_next c = from_name _ _ _ _ _ c.in-Some.ensures c.if-is_name_next.ensures c.behind_steps.ensures
    c.behind_path.ensures

pub returns-then-is_word_next : goal.returns-then-is_word_next
returns-then-is_word_next c = from_this _ _ _ _ c.in-Some.ensures c.if-is_word_next.ensures c.behind_this.ensures

pub returns-else-is_word_next : goal.returns-else-is_word_next
returns-else-is_word_next c = value_other _ c.requires c.if-is_name_next.ensures c.if-is_word_next.ensures
