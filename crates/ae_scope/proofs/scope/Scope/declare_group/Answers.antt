use Rattle.std.proofs.Common.{sym, ◌∙◌}
use Rattle.ae_scope.specs.Scope.{context_of}
use Rattle.ae_scope.proofs.RegroupLemmas.{found_is_none, group_is_declared}
use Rattle.ae_scope.proofs.scope.Scope.declare_group.Goals as goal

pub returns-clause-answer : goal.returns-clause-answer
returns-clause-answer c = group_is_declared (context_of c.args.self.now) (context_of c.know.new.self) c.args.group
    (found_is_none c.find.result _ _ (sym c.is_some.ensures ∙ c.if-is_some.false) c.find.ensures)
    c.in_ok-may_declare.ensures c.in_ok-know.ensures.context
