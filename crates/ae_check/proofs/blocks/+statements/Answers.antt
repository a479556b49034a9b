use Rattle.std.proofs.Common.{◌≡◌, ℕ, List, Err, length, rules, sym, ap, subst, ◌∙◌}
use Rattle.ae_tree.specs.declared.tree.NameAt.{NameAt}
use Rattle.ae_tree.specs.Plain.{Action, Lines, Splits, Locks}
use Rattle.ae_tree.specs.Shown.{definition, action, action-Split, action-Atomic, braced}
use Rattle.ae_tree.specs.Shown.{lines_from, lines-out}
use Rattle.ae_rules.specs.Answers.{Leaves}
use Rattle.ae_rules.specs.Verdict.{Verdict}
use Rattle.ae_rules.specs.Groups.{may_split_all, may_lock}
use Rattle.ae_rules.specs.Context.{Context}
use Rattle.ae_rules.specs.Statements.{judge_statement, judge_lines, while_split, while_locked}
use Rattle.ae_judge.specs.Tabled.{code_of}
use Rattle.ae_scope.specs.Scope.{context_of}
use Rattle.ae_check.specs.Ready.{IsReady, LinesNamed}
use Rattle.ae_check.specs.Blocks.{Branched, inside_verdict, keeps_held, choice_verdict}
use Rattle.ae_check.proofs.from_scope.GrowLemmas.{grows_same}
use Rattle.ae_check.proofs.from_scope.ReplayLemmas.{grows_then}
use Rattle.ae_check.proofs.from_scope.JoinLemmas.{Alike, back_to, same_scope}
use Rattle.ae_check.proofs.NamedLemmas.{this_line_named, next_lines_named, both_blocks_named}
use Rattle.ae_check.proofs.BlockLemmas.{next_line, group_is_left, inside_ends, ended_so, ended_grows, still_marked}
use Rattle.ae_check.proofs.BlockLemmas.{body_is_compared, split_opens, atomic_opens, opened_decides}
use Rattle.ae_check.proofs.BranchLemmas.{answers_the_same, failure_is_handed_on, second_block_fails, blocks_decide}
use Rattle.ae_check.proofs.BranchLemmas.{lone_block_decides, loop_block_decides, both_blocks_hold, branched_so}
use Rattle.ae_check.proofs.blocks.+statements.Goals as goal

pub judge_lines-loop-stmt-init : goal.judge_lines-loop-stmt-init
judge_lines-loop-stmt-init t c =
    let o : (braced c.args.block.now).lines ≡ lines_from c.as_slice-stmt-items.result.now =
    lines-out c.args.block.now ∙ ap lines_from (sym c.as_slice-stmt-items.ensures) in
    record {
      rest = ap (λ (b : Lines). judge_lines (code_of c.args.tabled.now) (definition c.args.method.now) b
          (context_of c.args.scope.now)) o;
      named = subst (LinesNamed (length c.args.tabled.now.program.now.names)) o c.requires.named;
      ready = c.requires.ready;
      grows = grows_same c.args.scope.now;
    }

pub judge_lines-loop-stmt-preserved : goal.judge_lines-loop-stmt-preserved
judge_lines-loop-stmt-preserved t c =
    let n = length c.args.tabled.now.program.now.names in
    let xs = c.as_slice-stmt-items.result.now in
    let i = c.loop-stmt.stmt-index in
    let x = c.stmt-item.result in
    record {
      rest = next_line (code_of c.args.tabled.now) (definition c.args.method.now) xs i x
          (braced c.args.block.now).lines (context_of c.args.scope.now) (context_of c.loop-stmt.scope)
          (context_of c.judge_stmt.new.scope) c.loop-stmt-test.true c.stmt-item.is c.loop-stmt.invariant.rest
          c.in_ok-judge_stmt.ensures.answer;
      named = next_lines_named n xs i x c.loop-stmt-test.true c.stmt-item.is c.loop-stmt.invariant.named;
      ready = c.requires.stays.statement x.at (action x.kind) (context_of c.loop-stmt.scope)
          (context_of c.judge_stmt.new.scope)
          (this_line_named n xs i x c.loop-stmt-test.true c.stmt-item.is c.loop-stmt.invariant.named)
          c.loop-stmt.invariant.ready c.in_ok-judge_stmt.ensures.answer;
      grows = grows_then c.args.scope.now c.loop-stmt.scope c.judge_stmt.new.scope c.loop-stmt.invariant.grows
          c.in_ok-judge_stmt.ensures.grows;
    }

-- ---- a block

pub judge_inside-returns-in_err-groups_stay-clause-answer : goal.judge_inside-returns-in_err-groups_stay-clause-answer
judge_inside-returns-in_err-groups_stay-clause-answer t c =
    let p = code_of c.args.tabled.now in
    let m = definition c.args.method.now in
    let d = c.judge_lines.new.scope in
    let b = (braced c.args.block.now).lines in
    let e = c.in_err-groups_stay.field-0.0 in
    λ s began. failure_is_handed_on (inside_verdict p m b (context_of s) (context_of c.args.scope.now)) (context_of
    d) _ e
    c.from_residual-in_err-groups_stay.ensures.1
    (group_is_left p m b s c.args.scope.now d c.args.mark (context_of d) e c.requires.stays began
    c.in_ok-judge_lines.ensures.answer c.in_ok-judge_lines.ensures.grows c.in_err-groups_stay.ensures)

pub judge_inside-end_block-requires-clause-locals : goal.judge_inside-end_block-requires-clause-locals
judge_inside-end_block-requires-clause-locals t c =
    (still_marked c.args.scope.now c.judge_lines.new.scope c.args.mark.locals c.args.mark.changes c.args.mark.groups
    c.in_ok-judge_lines.ensures.grows c.requires.locals c.requires.changes c.requires.groups).0

pub judge_inside-returns-clause-answer : goal.judge_inside-returns-clause-answer
judge_inside-returns-clause-answer t c =
    let p = code_of c.args.tabled.now in
    let m = definition c.args.method.now in
    λ s began. inside_ends p m (braced c.args.block.now).lines s c.args.scope.now c.judge_lines.new.scope
    c.end_block.new.self c.args.mark c.requires.stays began c.in_ok-judge_lines.ensures.answer
    c.in_ok-judge_lines.ensures.grows c.in_ok-groups_stay.ensures c.end_block.ensures

pub judge_inside-returns-clause-ended : goal.judge_inside-returns-clause-ended
judge_inside-returns-clause-ended t c =
    λ s began. ended_so (code_of c.args.tabled.now) s c.args.scope.now c.judge_lines.new.scope c.end_block.new.self
    c.args.mark began c.in_ok-judge_lines.ensures.grows c.end_block.ensures

pub judge_body-returns-clause-answer : goal.judge_body-returns-clause-answer
judge_body-returns-clause-answer t c =
    let p = code_of c.args.tabled.now in
    let m = definition c.args.method.now in
    let u = c.judge_block.new.scope in
    subst (λ (v : Verdict Context). Leaves v (context_of c.meet.new.scope) c.meet.result)
    (ap (λ (n : ℕ). keeps_held p n u c.args.rule c.args.at) c.mark-mark.ensures.changes
    ∙ sym (body_is_compared p m (braced c.args.block.now).lines c.args.rule c.args.at c.args.scope.now u
    c.in_ok-judge_block.ensures.answer c.in_ok-judge_block.ensures.ended))
    c.meet.ensures.answer

-- ---- choices and loops

pub judge_tested-judge_body-requires : goal.judge_tested-judge_body-requires
judge_tested-judge_body-requires t c =
    (search rules, (c.requires.table, (c.requires.stays, (c.requires.ready, c.requires.named))))

-- ---- split and atomic blocks

pub judge_split-judge_inside-requires : goal.judge_split-judge_inside-requires
judge_split-judge_inside-requires t c =
    let o = split_opens (code_of c.args.tabled.now) (definition c.args.method.now) c.args.groups.now
    c.args.scope.now c.enter_split.new.self c.mark-mark.result c.requires.stays c.requires.ready c.mark-mark.ensures
    c.in_ok-enter_split.ensures.grows c.in_ok-enter_split.ensures.answer in (
      search rules,
      (
        o.began.grows.table ∙ c.requires.table,
        (c.requires.stays, (o.ready, (c.requires.named, (o.locals, (o.changes, o.groups))))),
      ),
    )

pub judge_split-returns-clause-answer : goal.judge_split-returns-clause-answer
judge_split-returns-clause-answer t c =
    let p = code_of c.args.tabled.now in
    let m = definition c.args.method.now in
    let s = c.args.scope.now in
    let gs = c.args.groups.now in
    let b = (braced c.args.block.now).lines in
    let o = split_opens p m gs s c.enter_split.new.self c.mark-mark.result c.requires.stays c.requires.ready
    c.mark-mark.ensures c.in_ok-enter_split.ensures.grows c.in_ok-enter_split.ensures.answer in
    λ at. answers_the_same (judge_statement p m at (Splits gs (braced c.args.block.now).no b) (context_of s)) _
    (context_of c.judge_inside.new.scope) c.judge_inside.result (opened_decides p m b (may_split_all (context_of
    s).group gs) (while_split gs (context_of s)) s c.enter_split.new.self c.mark-mark.result o)
    (c.judge_inside.ensures.answer s o.began)

pub judge_split-returns-clause-grows : goal.judge_split-returns-clause-grows
judge_split-returns-clause-grows t c =
    let o = split_opens (code_of c.args.tabled.now) (definition c.args.method.now) c.args.groups.now
    c.args.scope.now c.enter_split.new.self c.mark-mark.result c.requires.stays c.requires.ready c.mark-mark.ensures
    c.in_ok-enter_split.ensures.grows c.in_ok-enter_split.ensures.answer in
    ended_grows c.args.scope.now c.judge_inside.new.scope c.judge_inside.result
    (c.judge_inside.ensures.ended c.args.scope.now o.began)

pub judge_atomic-judge_inside-requires : goal.judge_atomic-judge_inside-requires
judge_atomic-judge_inside-requires t c =
    let o = atomic_opens (code_of c.args.tabled.now) (definition c.args.method.now) c.args.group
    c.args.scope.now c.enter_atomic.new.self c.mark-mark.result c.requires.stays c.requires.ready c.mark-mark.ensures
    c.in_ok-enter_atomic.ensures.grows c.in_ok-enter_atomic.ensures.answer in (
      search rules,
      (
        o.began.grows.table ∙ c.requires.table,
        (c.requires.stays, (o.ready, (c.requires.named, (o.locals, (o.changes, o.groups))))),
      ),
    )

pub judge_atomic-returns-clause-answer : goal.judge_atomic-returns-clause-answer
judge_atomic-returns-clause-answer t c =
    let p = code_of c.args.tabled.now in
    let m = definition c.args.method.now in
    let s = c.args.scope.now in
    let g = c.args.group in
    let b = (braced c.args.block.now).lines in
    let o = atomic_opens p m g s c.enter_atomic.new.self c.mark-mark.result c.requires.stays c.requires.ready
    c.mark-mark.ensures c.in_ok-enter_atomic.ensures.grows c.in_ok-enter_atomic.ensures.answer in
    λ at. answers_the_same (judge_statement p m at (Locks g (braced c.args.block.now).no b) (context_of s)) _
    (context_of c.judge_inside.new.scope) c.judge_inside.result (opened_decides p m b (may_lock (context_of s).group g)
    (while_locked g.name (context_of s)) s c.enter_atomic.new.self c.mark-mark.result o)
    (c.judge_inside.ensures.answer s o.began)

pub judge_atomic-returns-clause-grows : goal.judge_atomic-returns-clause-grows
judge_atomic-returns-clause-grows t c =
    let o = atomic_opens (code_of c.args.tabled.now) (definition c.args.method.now) c.args.group
    c.args.scope.now c.enter_atomic.new.self c.mark-mark.result c.requires.stays c.requires.ready c.mark-mark.ensures
    c.in_ok-enter_atomic.ensures.grows c.in_ok-enter_atomic.ensures.answer in
    ended_grows c.args.scope.now c.judge_inside.new.scope c.judge_inside.result
    (c.judge_inside.ensures.ended c.args.scope.now o.began)

-- ---- statements

pub judge_stmt-returns-in-None-clause-answer : goal.judge_stmt-returns-in-None-clause-answer
judge_stmt-returns-in-None-clause-answer t c =
    answers_the_same _ _ (context_of c.judge_tested.new.scope) c.judge_tested.result
    (lone_block_decides (code_of c.args.tabled.now) (definition c.args.method.now) c.args.stmt.now.at
    (context_of c.args.scope.now) c.args.stmt.now.kind c.in-If.expr c.in-If.then c.in-If.otherwise c.in-If.is
    c.in-None.is)
    c.judge_tested.ensures.answer

pub judge_stmt-returns-in-While-clause-answer : goal.judge_stmt-returns-in-While-clause-answer
judge_stmt-returns-in-While-clause-answer t c =
    answers_the_same _ _ (context_of c.judge_tested-in-While.new.scope) c.judge_tested-in-While.result
    (loop_block_decides (code_of c.args.tabled.now) (definition c.args.method.now) c.args.stmt.now.at
    (context_of c.args.scope.now) c.args.stmt.now.kind c.in-While.expr c.in-While.block c.in-While.is)
    c.judge_tested-in-While.ensures.answer

pub judge_stmt-returns-in-Split-clause-answer : goal.judge_stmt-returns-in-Split-clause-answer
judge_stmt-returns-in-Split-clause-answer t c =
    let p = code_of c.args.tabled.now in
    let m = definition c.args.method.now in
    let k = context_of c.args.scope.now in
    let at = c.args.stmt.now.at in
    answers_the_same (judge_statement p m at (action c.args.stmt.now.kind) k) _ (context_of
    c.judge_split.new.scope) c.judge_split.result
    (ap (λ (x : Action). judge_statement p m at x k) (ap action c.in-Split.is
    ∙ action-Split c.in-Split.groups c.in-Split.block
    ∙ ap (λ (gs : List NameAt). Splits gs (braced c.in-Split.block).no (braced c.in-Split.block).lines)
    (sym c.as_slice-in-Split.ensures)))
    (c.judge_split.ensures.answer at)

pub judge_stmt-returns-in-Atomic-clause-answer : goal.judge_stmt-returns-in-Atomic-clause-answer
judge_stmt-returns-in-Atomic-clause-answer t c =
    let p = code_of c.args.tabled.now in
    let m = definition c.args.method.now in
    let k = context_of c.args.scope.now in
    let at = c.args.stmt.now.at in
    answers_the_same (judge_statement p m at (action c.args.stmt.now.kind) k) _ (context_of
    c.judge_atomic.new.scope) c.judge_atomic.result
    (ap (λ (x : Action). judge_statement p m at x k) (ap action c.in-Atomic.is
    ∙ action-Atomic c.in-Atomic.group c.in-Atomic.block))
    (c.judge_atomic.ensures.answer at)

-- ---- choices with two branches

pub judge_stmt-lines_are_named-requires : goal.judge_stmt-lines_are_named-requires
judge_stmt-lines_are_named-requires t c =
    (both_blocks_named (length c.args.tabled.now.program.now.names) c.args.stmt.now.kind c.in-If.expr c.in-If.then
    c.in-Some.other c.in-If.otherwise c.in-If.is c.in-Some.is c.requires.named).0

pub judge_stmt-context_is_ready-requires : goal.judge_stmt-context_is_ready-requires
judge_stmt-context_is_ready-requires t c =
    let s = c.args.scope.now in
    let u = c.judge_block.new.scope in
    let r = c.take_back.new.scope in
    let taken = c.in_ok-first-in-Some.ensures in
    let done = c.in_ok-judge_block-in-Some.ensures in
    let a : Alike s r = back_to s u r c.mark-mark.result.changes c.mark-mark.ensures.changes done.ended.grows
    done.ended.locals taken.locals taken.groups taken.table taken.trail done.ended.group_trail taken.group_trail in
    subst (IsReady (code_of c.args.tabled.now)) (sym (same_scope s r a)) c.requires.ready

pub judge_stmt-returns-in_err-judge_block-in-Some-2-clause-answer :
    goal.judge_stmt-returns-in_err-judge_block-in-Some-2-clause-answer
judge_stmt-returns-in_err-judge_block-in-Some-2-clause-answer t c =
    let p = code_of c.args.tabled.now in
    let m = definition c.args.method.now in
    let at = c.args.stmt.now.at in
    let b = (braced c.in-If.then).lines in
    let b' = (braced c.in-Some.other).lines in
    let v = judge_statement p m at (action c.args.stmt.now.kind) (context_of c.args.scope.now) in
    let decided : v ≡ choice_verdict p m b b' at (context_of c.args.scope.now) =
    blocks_decide p m at (context_of c.args.scope.now) c.args.stmt.now.kind c.in-If.expr c.in-If.then c.in-Some.other
    c.in-If.otherwise c.in-If.is c.in-Some.is c.in_ok-is_value-in-Some.ensures in
    let s = c.args.scope.now in
    let u = c.judge_block.new.scope in
    let r = c.take_back.new.scope in
    let taken = c.in_ok-first-in-Some.ensures in
    let done = c.in_ok-judge_block-in-Some.ensures in
    let a : Alike s r = back_to s u r c.mark-mark.result.changes c.mark-mark.ensures.changes done.ended.grows
    done.ended.locals taken.locals taken.groups taken.table taken.trail done.ended.group_trail taken.group_trail in
    let z = context_of c.judge_block-in-Some.new.scope in
    let e = c.in_err-judge_block-in-Some-2.field-0.0 in
    failure_is_handed_on v z _ e c.from_residual-in_err-judge_block-in-Some-2.ensures.1
    (answers_the_same v (choice_verdict p m b b' at (context_of s)) z (Err e) decided
    (second_block_fails p m b b' at s u r z e done.answer a c.in_err-judge_block-in-Some-2.ensures.answer))

pub judge_stmt-returns-in_ok-judge_block-in-Some-2-clause-answer :
    goal.judge_stmt-returns-in_ok-judge_block-in-Some-2-clause-answer
judge_stmt-returns-in_ok-judge_block-in-Some-2-clause-answer t c =
    let p = code_of c.args.tabled.now in
    let m = definition c.args.method.now in
    let at = c.args.stmt.now.at in
    let b = (braced c.in-If.then).lines in
    let b' = (braced c.in-Some.other).lines in
    let v = judge_statement p m at (action c.args.stmt.now.kind) (context_of c.args.scope.now) in
    let decided : v ≡ choice_verdict p m b b' at (context_of c.args.scope.now) =
    blocks_decide p m at (context_of c.args.scope.now) c.args.stmt.now.kind c.in-If.expr c.in-If.then c.in-Some.other
    c.in-If.otherwise c.in-If.is c.in-Some.is c.in_ok-is_value-in-Some.ensures in
    let s = c.args.scope.now in
    let u = c.judge_block.new.scope in
    let r = c.take_back.new.scope in
    let taken = c.in_ok-first-in-Some.ensures in
    let done = c.in_ok-judge_block-in-Some.ensures in
    let a : Alike s r = back_to s u r c.mark-mark.result.changes c.mark-mark.ensures.changes done.ended.grows
    done.ended.locals taken.locals taken.groups taken.table taken.trail done.ended.group_trail taken.group_trail in
    let w = c.judge_block-in-Some.new.scope in
    let branched : Branched s u c.mark-mark.result c.as_slice.result.now w =
    branched_so s u r w c.mark-mark.result c.as_slice.result.now c.mark-mark.ensures done.ended
    (c.as_slice.ensures.value ∙ taken.held) a c.in_ok-judge_block-in-Some-2.ensures.ended in
    answers_the_same v _ (context_of c.join.new.scope) c.join.result
    (decided ∙ both_blocks_hold p m b b' at s u r w done.answer a c.in_ok-judge_block-in-Some-2.ensures.answer)
    (c.join.ensures.answer s u branched)

pub judge_stmt-returns-in_ok-judge_block-in-Some-2-clause-grows :
    goal.judge_stmt-returns-in_ok-judge_block-in-Some-2-clause-grows
judge_stmt-returns-in_ok-judge_block-in-Some-2-clause-grows t c =
    let s = c.args.scope.now in
    let u = c.judge_block.new.scope in
    let r = c.take_back.new.scope in
    let taken = c.in_ok-first-in-Some.ensures in
    let done = c.in_ok-judge_block-in-Some.ensures in
    let a : Alike s r = back_to s u r c.mark-mark.result.changes c.mark-mark.ensures.changes done.ended.grows
    done.ended.locals taken.locals taken.groups taken.table taken.trail done.ended.group_trail taken.group_trail in
    let w = c.judge_block-in-Some.new.scope in
    let branched : Branched s u c.mark-mark.result c.as_slice.result.now w =
    branched_so s u r w c.mark-mark.result c.as_slice.result.now c.mark-mark.ensures done.ended
    (c.as_slice.ensures.value ∙ taken.held) a c.in_ok-judge_block-in-Some-2.ensures.ended in
    c.join.ensures.grows s u branched
