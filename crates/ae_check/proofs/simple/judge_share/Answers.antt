use Rattle.std.proofs.Common.{sym, ap, ◌∙◌}
use Rattle.ae_rules.specs.Verdict.{Holds}
use Rattle.ae_check.proofs.ShareLemmas.{after_three_that_hold}
use Rattle.ae_check.proofs.simple.judge_share.Goals as goal

pub returns-clause-answer : goal.returns-clause-answer
returns-clause-answer c =
    after_three_that_hold _ _ _ _ c.in_ok-holds_alone.ensures c.in_ok-is_group.ensures c.in_ok-group_access.ensures
    ∙ ap Holds (sym c.in_ok-hold.ensures.context)
