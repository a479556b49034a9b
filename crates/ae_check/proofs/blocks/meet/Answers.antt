use Rattle.std.proofs.Common.{ap, ◌∙◌}
use Rattle.ae_rules.specs.Verdict.{Holds, ◌>>◌, require}
use Rattle.ae_judge.specs.Tabled.{code_of}
use Rattle.ae_scope.specs.Scope.{context_of}
use Rattle.ae_check.proofs.BlockLemmas.{changes_are_compared}
use Rattle.ae_check.proofs.blocks.meet.Goals as goal

pub returns-then-branch-clause-answer : goal.returns-then-branch-clause-answer
returns-then-branch-clause-answer c =
    changes_are_compared (code_of c.args.tabled.now) c.args.scope.now c.settle.new.self c.args.changes c.args.rule
    c.args.at _ c.requires.table c.in_ok-settle.ensures.value c.in_ok-settle.ensures.locals
    c.in_ok-settle.ensures.groups
    ∙ ap (λ b. require b c.args.rule c.args.at >> Holds (context_of c.settle.new.self)) c.if-branch.true

pub returns-else-branch-clause-answer : goal.returns-else-branch-clause-answer
returns-else-branch-clause-answer c =
    rw c.deny.ensures
    (changes_are_compared (code_of c.args.tabled.now) c.args.scope.now c.settle.new.self c.args.changes c.args.rule
    c.args.at _ c.requires.table c.in_ok-settle.ensures.value c.in_ok-settle.ensures.locals
    c.in_ok-settle.ensures.groups
    ∙ ap (λ b. require b c.args.rule c.args.at >> Holds (context_of c.settle.new.self)) c.if-branch.false)
