use Rattle.std.proofs.Common.{◌≡◌, Err, sym, subst, ◌∙◌}
use Rattle.std.specs.Prelude.{⊤}
use Rattle.ae_tree.specs.Shown.{definition}
use Rattle.ae_rules.specs.Answers.{Answers, done}
use Rattle.ae_rules.specs.Verdict.{Verdict, Holds}
use Rattle.ae_rules.specs.Judges.{start, judge_method}
use Rattle.ae_judge.specs.Tabled.{code_of}
use Rattle.ae_scope.specs.Scope.{context_of}
use Rattle.ae_check.specs.Ready.{IsReady}
use Rattle.ae_check.proofs.ProgramLemmas.{as_many_groups}
use Rattle.ae_check.proofs.MethodLemmas.{method_is_whole, answer_is_handed_on}
use Rattle.ae_check.proofs.methods.judge_method.Goals as goal

pub returns-in_err-judge_whole-clause-answer : goal.returns-in_err-judge_whole-clause-answer
returns-in_err-judge_whole-clause-answer c =
    let p = code_of c.args.tabled.now in
    let m = definition c.args.method.now in
    let k = context_of c.start.new.scope in
    let e = c.in_err-judge_whole.field-0.0 in
    let h : Holds (start p m) ≡ Holds k = c.in_ok-start.ensures.context in
    let i : start p m ≡ k = cc in
    answer_is_handed_on (judge_method p m) _ e c.from_residual-in_err-judge_whole.ensures.1
    (subst (λ (v : Verdict ⊤). Answers v done (Err e)) (sym (method_is_whole p m k i))
    c.in_err-judge_whole.ensures.answer)

pub returns-clause-answer : goal.returns-clause-answer
returns-clause-answer c =
    let p = code_of c.args.tabled.now in
    let m = definition c.args.method.now in
    let k = context_of c.start.new.scope in
    let h : Holds (start p m) ≡ Holds k = c.in_ok-start.ensures.context in
    let i : start p m ≡ k = cc in
    method_is_whole p m k i ∙ c.in_ok-judge_whole.ensures.answer

pub judge_whole-requires-clause-ready : goal.judge_whole-requires-clause-ready
judge_whole-requires-clause-ready c =
    let p = code_of c.args.tabled.now in
    let m = definition c.args.method.now in
    let k = context_of c.start.new.scope in
    let h : Holds (start p m) ≡ Holds k = c.in_ok-start.ensures.context in
    let i : start p m ≡ k = cc in
    subst (IsReady p) i c.requires.stays.first

pub clear-requires : goal.clear-requires
clear-requires c =
    let grown = c.in_ok-judge_whole.ensures.grows in
    as_many_groups c.start.new.scope c.judge_whole.new.scope grown ∙ c.in_ok-start.ensures.groups
    ∙ sym (grown.table ∙ c.in_ok-start.ensures.table)
