use Rattle.ae_statements.proofs.DecidedLemmas.{this_steps, this_alone}
use Rattle.ae_statements.proofs.decide.behind_this.Goals as goal

pub returns-then-is_sign_next : goal.returns-then-is_sign_next
returns-then-is_sign_next c = this_steps _ _ _ c.if-is_sign_next.ensures c.behind_steps.ensures c.behind_path.ensures

pub returns-else-is_sign_next : goal.returns-else-is_sign_next
returns-else-is_sign_next c = this_alone _ c.if-is_sign_next.ensures
