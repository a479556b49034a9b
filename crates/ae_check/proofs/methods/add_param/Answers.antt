use Rattle.std.proofs.Common.{◌≡◌, sym, ap, ◌∙◌}
use Rattle.ae_tree.specs.Form.{form}
use Rattle.ae_rules.specs.Verdict.{Holds}
use Rattle.ae_scope.specs.Scope.{context_of}
use Rattle.ae_check.proofs.MethodLemmas.{one_is_added}
use Rattle.ae_check.proofs.methods.add_param.Goals as goal

pub returns-clause-context : goal.returns-clause-context
returns-clause-context c =
    let h : Holds (form c.args.param.now.ty) ≡ Holds c.in_ok-form.form = c.in_ok-form.ensures in
    let i : c.in_ok-form.form ≡ form c.args.param.now.ty = cc in
    ap Holds (one_is_added c.args.param.now c.in_ok-form.form c.does_stay-stays.result (context_of c.args.scope.now)
    (sym c.is_taken.ensures ∙ c.if-is_taken.false) i c.does_stay-stays.ensures ∙ sym c.in_ok-add.ensures.context)
