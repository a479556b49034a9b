use Rattle.ae_statements.proofs.DecidedLemmas.{name_none, name_value, name_neither}
use Rattle.ae_statements.proofs.decide.behind_name.Goals as goal

pub returns-in_default : goal.returns-in_default
returns-in_default c = name_none _ c.in_default.ensures

pub returns-then-follows_compared : goal.returns-then-follows_compared
returns-then-follows_compared c = name_value _ _ _ c.in-Some.ensures c.if-follows_group.ensures
    c.if-follows_compared.ensures

pub returns-else-follows_compared : goal.returns-else-follows_compared
returns-else-follows_compared c = name_neither _ _ _ c.in-Some.ensures c.if-follows_group.ensures
    c.if-follows_compared.ensures
