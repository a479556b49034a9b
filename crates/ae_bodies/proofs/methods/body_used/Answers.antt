use Rattle.std.proofs.Common.{◌≡◌, refl, sym, subst}
use Rattle.ae_tree.specs.Shown.{braced, definition}
use Rattle.ae_rules.specs.Blocks.{scenes}
use Rattle.ae_rules.specs.Context.{Context}
use Rattle.ae_rules.specs.Judges.{start}
use Rattle.ae_rules.specs.Statements.{judge_lines}
use Rattle.ae_rules.specs.Verdict.{Holds}
use Rattle.ae_judge.specs.Tabled.{code_of}
use Rattle.ae_scope.specs.Scope.{context_of}
use Rattle.ae_uses.specs.Opened.{AreOpenedFor}
use Rattle.ae_bodies.specs.Passed.{IsHeld, PassesBlock}
use Rattle.ae_bodies.proofs.PassedLemmas.{handed_on}
use Rattle.ae_bodies.proofs.MethodLemmas.{body_is_judged, body_opens}
use Rattle.ae_bodies.proofs.methods.body_used.Goals as goal

pub returns-in_err-block_used-clause-uses : goal.returns-in_err-block_used-clause-uses
returns-in_err-block_used-clause-uses c =
    let p = code_of c.args.tabled.now in
    let m = definition c.args.method.now in
    let b = braced c.args.method.now.body in
    let k = context_of c.start.new.scope in
    let h : Holds (start p m) ≡ Holds k = c.in_ok-start.ensures.context in
    let i : start p m ≡ k = cc in
    handed_on (PassesBlock p m b.no b.lines k (context_of c.block_used.new.scope) c.new-opened.result.items
    c.block_used.new.opened.items) _ _ c.in_err-block_used.field-0.0 c.from_residual-in_err-block_used.ensures.1
    (c.in_err-block_used.ensures.passed (subst (λ (x : Context). IsHeld (judge_lines p m b.lines x)) i
    (body_is_judged p c.requires.accepted c.requires.method.0 m c.requires.method.1)))

pub returns-clause-uses : goal.returns-clause-uses
returns-clause-uses c =
    let p = code_of c.args.tabled.now in
    let m = definition c.args.method.now in
    let b = braced c.args.method.now.body in
    let k = context_of c.start.new.scope in
    let h : Holds (start p m) ≡ Holds k = c.in_ok-start.ensures.context in
    let i : start p m ≡ k = cc in
    subst (AreOpenedFor p (scenes p m)) (sym c.from_vec.ensures)
    (body_opens p m b.no b.lines k (context_of c.block_used.new.scope) c.new-opened.result.items
    c.block_used.new.opened.items _ refl refl i c.new-opened.ensures.items
    (c.in_ok-block_used.ensures.passed (subst (λ (x : Context). IsHeld (judge_lines p m b.lines x)) i
    (body_is_judged p c.requires.accepted c.requires.method.0 m c.requires.method.1))))
