use Rattle.ae_statements.proofs.DecidedLemmas.{less_none, less_name, less_value, less_neither}
use Rattle.ae_statements.proofs.decide.behind_less.Goals as goal

pub returns-in_default : goal.returns-in_default
returns-in_default c = less_none _ c.in_default.ensures

pub returns-then-is_name_next : goal.returns-then-is_name_next
returns-then-is_name_next c = less_name _ _ _ _ c.in-Some.ensures c.if-is_name_next.ensures c.behind_name.ensures

pub returns-then-starts : goal.returns-then-starts
returns-then-starts c = less_value _ _ _ c.in-Some.ensures c.if-is_name_next.ensures c.if-starts.ensures

pub returns-else-starts : goal.returns-else-starts
returns-else-starts c = less_neither _ _ _ c.in-Some.ensures c.if-is_name_next.ensures c.if-starts.ensures
