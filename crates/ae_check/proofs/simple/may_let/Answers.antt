use Rattle.std.proofs.Common.{◌≡◌, sym, ap, ◌∙◌}
use Rattle.ae_tree.specs.Form.{form}
use Rattle.ae_tree.specs.Shown.{right_side}
use Rattle.ae_rules.specs.Verdict.{Verdict, Holds, ◌>>=◌}
use Rattle.ae_rules.specs.Context.{Context, with_local}
use Rattle.ae_rules.specs.Statements.{judge_right, judge_let}
use Rattle.ae_judge.specs.Tabled.{code_of}
use Rattle.ae_scope.specs.Scope.{context_of}
use Rattle.ae_check.proofs.LetLemmas.{right_side_decides, first_part_fails}
use Rattle.ae_check.proofs.simple.may_let.Goals as goal

pub returns-in-Ok-clause-answer : goal.returns-in-Ok-clause-answer
returns-in-Ok-clause-answer c =
    let h : Holds (form c.args.ty.now) ≡ Holds c.in_ok-form.form = c.in_ok-form.ensures in
    let i : c.in_ok-form.form ≡ form c.args.ty.now = cc in
    right_side_decides (code_of c.args.tabled.now) (context_of c.args.scope.now) c.args.ty.now c.args.x
    (right_side c.args.rhs.now) c.in_ok-form.form c.in_ok-forms_type.ensures
    (sym c.is_visible.ensures ∙ c.if-is_visible.false) i
    ∙ ap (λ (v : Verdict Context). v >>= λ d. Holds (with_local c.args.x.name c.in_ok-form.form d)) c.in-Ok.ensures

pub returns-in-Err-clause-answer : goal.returns-in-Err-clause-answer
returns-in-Err-clause-answer c =
    let p = code_of c.args.tabled.now in
    let k = context_of c.args.scope.now in
    let e = right_side c.args.rhs.now in
    let f = c.in_ok-form.form in
    let h : Holds (form c.args.ty.now) ≡ Holds f = c.in_ok-form.ensures in
    let i : f ≡ form c.args.ty.now = cc in
    first_part_fails (judge_let p k c.args.ty.now c.args.x e) (judge_right p k f e)
    (λ d. Holds (with_local c.args.x.name f d)) c.in-Err.fail
    (right_side_decides p k c.args.ty.now c.args.x e f c.in_ok-forms_type.ensures
    (sym c.is_visible.ensures ∙ c.if-is_visible.false) i) c.in-Err.ensures
