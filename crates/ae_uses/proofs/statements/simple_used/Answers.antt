use Rattle.std.proofs.Common.{sym, ap, ◌∙◌, subst, OnOk}
use Rattle.ae_tree.specs.Plain.{Action}
use Rattle.ae_tree.specs.Shown.{action, action-Index, definition}
use Rattle.ae_rules.specs.Uses.{statement_uses}
use Rattle.ae_scope.specs.Scope.{context_of}
use Rattle.ae_judge.specs.Tabled.{code_of}
use Rattle.ae_uses.specs.Used.{Adds}
use Rattle.ae_uses.proofs.statements.simple_used.Goals as goal

pub returns-in-Index : goal.returns-in-Index
returns-in-Index c =
    subst (λ (a : Action). OnOk c.store_at_used.result (Adds c.args.used.now (statement_uses
    (code_of c.args.tabled.now) (definition c.args.method.now) a (context_of c.args.scope.now))
    c.store_at_used.new.used))
    (sym (ap action c.in-Index.is ∙ action-Index c.in-Index.path c.in-Index.index c.in-Index.expr))
    c.store_at_used.ensures
