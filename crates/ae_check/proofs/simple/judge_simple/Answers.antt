use Rattle.std.proofs.Common.{ap, ◌∙◌}
use Rattle.ae_tree.specs.Plain.{Action}
use Rattle.ae_tree.specs.Shown.{definition, action, action-Share}
use Rattle.ae_rules.specs.Statements.{judge_statement, judge_share}
use Rattle.ae_judge.specs.Tabled.{code_of}
use Rattle.ae_scope.specs.Scope.{context_of}
use Rattle.ae_check.proofs.BranchLemmas.{answers_the_same}
use Rattle.ae_check.proofs.simple.judge_simple.Goals as goal

pub returns-in-Share-clause-answer : goal.returns-in-Share-clause-answer
returns-in-Share-clause-answer c =
    let p = code_of c.args.tabled.now in
    let m = definition c.args.method.now in
    let k = context_of c.args.scope.now in
    let at = c.args.stmt.now.at in
    answers_the_same (judge_statement p m at (action c.args.stmt.now.kind) k) (judge_share k c.in-Share.x
    c.in-Share.group)
    (context_of c.judge_share.new.scope) c.judge_share.result
    (ap (λ (x : Action). judge_statement p m at x k) (ap action c.in-Share.is
    ∙ action-Share c.in-Share.x c.in-Share.group))
    c.judge_share.ensures.answer
