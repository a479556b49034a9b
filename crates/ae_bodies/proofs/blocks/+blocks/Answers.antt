use Rattle.std.proofs.Common.{◌≡◌, ◌+◌, ℕ, List, ◌∷◌, ◌++◌, length, drop, rules, arith, sym, ap, subst, ◌∙◌, Option}
use Rattle.std.proofs.lemmas.List.{drop_more, drop_all}
use Rattle.ae_tree.specs.declared.tree.NameAt.{NameAt}
use Rattle.ae_tree.specs.declared.tree.Block.{Block}
use Rattle.ae_tree.specs.declared.tree.Stmt.{Stmt}
use Rattle.ae_tree.specs.declared.tree.StmtKind.TheVariants as stmt
use Rattle.ae_tree.specs.Plain.{Action, Lines, ChoosesElse, Splits}
use Rattle.ae_tree.specs.Shown.{definition, expression, action, action-If, action-If_else, action-While}
use Rattle.ae_tree.specs.Shown.{action-Split, action-Atomic, braced, no-out}
use Rattle.ae_tree.specs.Shown.{lines_from, lines-out}
use Rattle.ae_rules.specs.declared.uses.Footprint.{Footprint}
use Rattle.ae_rules.specs.Statements.{judge_statement, judge_lines}
use Rattle.ae_judge.specs.Tabled.{code_of}
use Rattle.ae_scope.specs.Scope.{context_of}
use Rattle.ae_check.specs.Ready.{LinesNamed}
use Rattle.ae_check.specs.Blocks.{Ended}
use Rattle.ae_bodies.specs.Passed.{IsHeld, PassesLine, PassesLines, PassesBlock, PassesBranch}
use Rattle.ae_bodies.proofs.from_scope.GrowLemmas.{grows_same}
use Rattle.ae_bodies.proofs.from_scope.ReplayLemmas.{grows_then}
use Rattle.ae_bodies.proofs.from_scope.StackLemmas.{grown_longer, grows_cut, length_ended, group_trail_ended}
use Rattle.ae_bodies.proofs.from_scope.JoinLemmas.{back_to, same_scope}
use Rattle.ae_bodies.proofs.from_check.NamedLemmas.{next_lines_named, both_blocks_named}
use Rattle.ae_bodies.proofs.PassedLemmas.{handed_on, Completes, completes_next, completes_all, rest_is_held}
use Rattle.ae_bodies.proofs.PassedLemmas.{statement_is_held, line_passes, block_passes}
use Rattle.ae_bodies.proofs.InsideLemmas.{inside_passes, branch_passes, goes_alike, choice_goes, loop_goes}
use Rattle.ae_bodies.proofs.InsideLemmas.{still_there, both_are_held, both_go, split_goes, lock_goes}
use Rattle.ae_bodies.proofs.blocks.+blocks.Goals as goal

-- ---- the statements of a block

pub lines_used-loop-stmt-init : goal.lines_used-loop-stmt-init
lines_used-loop-stmt-init t c =
    let p = code_of c.args.tabled.now in
    let m = definition c.args.method.now in
    let k = context_of c.args.scope.now in
    let o : (braced c.args.block.now).lines ≡ lines_from c.as_slice-stmt-items.result.now =
    lines-out c.args.block.now ∙ ap lines_from (sym c.as_slice-stmt-items.ensures) in
    record {
      judged = λ h. subst (λ (b : Lines). IsHeld (judge_lines p m b k)) o h;
      completes = λ h e rs w gs l. subst (λ (b : Lines). PassesLines p m b k e c.args.opened.now.items rs
          c.args.inside.now w (c.new-uses.result.items ++ gs)) (sym o)
          (subst (λ (fs : List Footprint). PassesLines p m (lines_from c.as_slice-stmt-items.result.now) k e
          c.args.opened.now.items rs c.args.inside.now w (fs ++ gs)) (sym c.new-uses.ensures.items) l);
      named = subst (LinesNamed (length c.args.tabled.now.program.now.names)) o c.requires.named;
      grows = grows_same c.args.scope.now;
    }

pub lines_used-loop-stmt-preserved : goal.lines_used-loop-stmt-preserved
lines_used-loop-stmt-preserved t c =
    let p = code_of c.args.tabled.now in
    let m = definition c.args.method.now in
    let n = length c.args.tabled.now.program.now.names in
    let xs = c.as_slice-stmt-items.result.now in
    let i = c.loop-stmt.stmt-index in
    let x = c.stmt-item.result in
    let k = context_of c.loop-stmt.scope in
    let d = context_of c.next_used.new.scope in
    let rest = lines_from (drop (i + 1) xs) in
    let here : drop i xs ≡ x ∷ drop (i + 1) xs = drop_more xs i x c.loop-stmt-test.true
    ∙ ap (λ (y : Stmt). y ∷ drop (i + 1) xs) (sym c.stmt-item.is) in
    let judged : IsHeld (judge_lines p m (braced c.args.block.now).lines (context_of c.args.scope.now))
    → IsHeld (judge_lines p m (lines_from (x ∷ drop (i + 1) xs)) k) =
    λ h. subst (λ (ys : List Stmt). IsHeld (judge_lines p m (lines_from ys) k)) here (c.loop-stmt.invariant.judged h) in
    let passed : IsHeld (judge_lines p m (braced c.args.block.now).lines (context_of c.args.scope.now))
    → PassesLine p m x.at (action x.kind) k d c.loop-stmt.opened.items c.next_used.new.opened.items c.loop-stmt.inside
    c.next_used.new.inside c.loop-stmt.uses.items c.next_used.new.uses.items =
    λ h. c.in_ok-next_used.ensures.passed (statement_is_held p m x.at (action x.kind) rest k (judged h)) in
    record {
      judged = λ h. rest_is_held p m x.at (action x.kind) rest k d (judged h) (passed h).judged;
      completes = λ h. completes_next p m (braced c.args.block.now).lines (context_of c.args.scope.now)
          c.args.opened.now.items c.args.inside.now x.at (action x.kind) rest k d c.loop-stmt.opened.items
          c.next_used.new.opened.items c.loop-stmt.inside c.next_used.new.inside c.loop-stmt.uses.items
          c.next_used.new.uses.items
          (subst (λ (ys : List Stmt). Completes p m (braced c.args.block.now).lines (context_of c.args.scope.now)
          c.args.opened.now.items c.args.inside.now (lines_from ys) k c.loop-stmt.opened.items c.loop-stmt.inside
          c.loop-stmt.uses.items) here (c.loop-stmt.invariant.completes h)) (passed h);
      named = next_lines_named n xs i x c.loop-stmt-test.true c.stmt-item.is c.loop-stmt.invariant.named;
      grows = grows_then c.args.scope.now c.loop-stmt.scope c.next_used.new.scope c.loop-stmt.invariant.grows
          c.in_ok-next_used.ensures.grows;
    }

pub lines_used-returns-in_err-next_used-clause-passed : goal.lines_used-returns-in_err-next_used-clause-passed
lines_used-returns-in_err-next_used-clause-passed t c =
    let p = code_of c.args.tabled.now in
    let m = definition c.args.method.now in
    let xs = c.as_slice-stmt-items.result.now in
    let i = c.loop-stmt.stmt-index in
    let x = c.stmt-item.result in
    let k = context_of c.loop-stmt.scope in
    let rest = lines_from (drop (i + 1) xs) in
    let here : drop i xs ≡ x ∷ drop (i + 1) xs = drop_more xs i x c.loop-stmt-test.true
    ∙ ap (λ (y : Stmt). y ∷ drop (i + 1) xs) (sym c.stmt-item.is) in
    λ h. handed_on (λ (y : Unit {0}). PassesLine p m x.at (action x.kind) k (context_of c.next_used.new.scope)
    c.loop-stmt.opened.items c.next_used.new.opened.items c.loop-stmt.inside c.next_used.new.inside
    c.loop-stmt.uses.items c.next_used.new.uses.items) _ _ c.in_err-next_used.field-0.0 c.from_residual.ensures.1
    (c.in_err-next_used.ensures.passed (statement_is_held p m x.at (action x.kind) rest k
    (subst (λ (ys : List Stmt). IsHeld (judge_lines p m (lines_from ys) k)) here (c.loop-stmt.invariant.judged h))))

pub lines_used-returns-clause-passed : goal.lines_used-returns-clause-passed
lines_used-returns-clause-passed t c =
    let p = code_of c.args.tabled.now in
    let m = definition c.args.method.now in
    let xs = c.as_slice-stmt-items.result.now in
    let i = c.loop-stmt.stmt-index in
    λ h. subst (PassesLines p m (braced c.args.block.now).lines (context_of c.args.scope.now)
    (context_of c.loop-stmt.scope) c.args.opened.now.items c.loop-stmt.opened.items c.args.inside.now c.loop-stmt.inside)
    (sym c.from_vec.ensures)
    (completes_all p m (braced c.args.block.now).lines (context_of c.args.scope.now) (context_of c.loop-stmt.scope)
    c.args.opened.now.items c.loop-stmt.opened.items c.args.inside.now c.loop-stmt.inside c.loop-stmt.uses.items
    (subst (λ (ys : List Stmt). Completes p m (braced c.args.block.now).lines (context_of c.args.scope.now)
    c.args.opened.now.items c.args.inside.now (lines_from ys) (context_of c.loop-stmt.scope) c.loop-stmt.opened.items
    c.loop-stmt.inside c.loop-stmt.uses.items) (drop_all i xs c.loop-stmt-test.false)
    (c.loop-stmt.invariant.completes h)))

pub next_used-returns-clause-passed : goal.next_used-returns-clause-passed
next_used-returns-clause-passed t c =
    let p = code_of c.args.tabled.now in
    let m = definition c.args.method.now in
    let x = c.args.stmt.now in
    λ h. line_passes p m x.at (action x.kind) (context_of c.args.scope.now) (context_of c.line_used.new.scope)
    c.args.opened.now.items c.line_used.new.opened.items c.new-used.result c.line_used.new.used c.args.inside.now
    c.hand_on.new.inside c.args.uses.now.items c.hand_on.new.uses.items c.new-used.ensures
    (c.in_ok-line_used.ensures.passed h) c.in_ok-hand_on.ensures

-- ---- a block

pub block_used-returns-clause-passed : goal.block_used-returns-clause-passed
block_used-returns-clause-passed t c =
    let p = code_of c.args.tabled.now in
    let m = definition c.args.method.now in
    let b = (braced c.args.block.now).lines in
    let k = context_of c.args.scope.now in
    let d = context_of c.lines_used.new.scope in
    λ h. subst (λ (n : ℕ). PassesBlock p m n b k d c.args.opened.now.items c.fill.new.opened.items
    c.lines_used.new.inside) (sym (no-out c.args.block.now))
    (block_passes p m _ b k d c.args.opened.now.items c.open.new.opened.items c.lines_used.new.opened.items
    c.fill.new.opened.items c.new-inside.result c.lines_used.new.inside c.in_ok-uses.uses c.new-inside.ensures
    c.in_ok-at.ensures.opened (c.in_ok-uses.ensures.passed h)
    (λ xs rest o e l. c.fill.ensures xs rest o e (c.in_ok-at.ensures.place ∙ l)))

pub inside_used-end_block-requires-clause-locals : goal.inside_used-end_block-requires-clause-locals
inside_used-end_block-requires-clause-locals t c = omega (
  arith,
  c.requires.locals,
  grown_longer c.args.scope.now c.block_used.new.scope c.in_ok-inside.ensures.grows,
)

pub inside_used-returns-clause-passed : goal.inside_used-returns-clause-passed
inside_used-returns-clause-passed t c =
    let i = c.args.scope.now in
    let d = c.block_used.new.scope in
    λ s k f h. inside_passes (code_of c.args.tabled.now) (definition c.args.method.now) (braced c.args.block.now).no
    (braced c.args.block.now).lines c.args.but s i d c.end_block.new.self c.args.mark c.args.opened.now.items
    c.block_used.new.opened.items c.in_ok-inside.inside c.args.used.now c.adds_outside.new.self k f
    (grows_then s i d f c.in_ok-inside.ensures.grows) c.end_block.ensures (c.in_ok-inside.ensures.passed h)
    c.in_ok-adds_outside.ensures

pub inside_used-returns-clause-ended : goal.inside_used-returns-clause-ended
inside_used-returns-clause-ended t c =
    let i = c.args.scope.now in
    let d = c.block_used.new.scope in
    let u = c.end_block.new.self in
    λ s k f. let g = grows_then s i d f c.in_ok-inside.ensures.grows in
    record {
      grows = grows_cut s d u c.args.mark k g c.end_block.ensures;
      locals = length_ended s d u c.args.mark k g c.end_block.ensures;
      group_trail = group_trail_ended s d u c.args.mark k g c.end_block.ensures;
    }

-- ---- the forms that have blocks

pub branch_used-returns-clause-passed : goal.branch_used-returns-clause-passed
branch_used-returns-clause-passed t c =
    let s = c.args.scope.now in
    let u = c.inside_used.new.scope in
    let r = c.rewind.new.self in
    let done : Ended s u = c.in_ok-inside_used.ensures.ended s c.mark-mark.ensures (grows_same s) in
    let back = c.rewind.ensures in
    λ h. branch_passes (code_of c.args.tabled.now) (definition c.args.method.now) (braced c.args.block.now).no
    (braced c.args.block.now).lines (expression c.args.expr.now) (context_of s) (context_of u) (context_of r)
    c.args.opened.now.items c.inside_used.new.opened.items c.args.used.now c.value_used.new.used
    c.inside_used.new.used
    (same_scope s r (back_to s u r c.mark-mark.result.changes c.mark-mark.ensures.changes done.grows done.locals
    back.locals back.groups back.table back.trail done.group_trail back.group_trail))
    c.in_ok-value_used.ensures (c.in_ok-inside_used.ensures.passed s c.mark-mark.ensures (grows_same s) h)

pub split_used-inside_used-requires : goal.split_used-inside_used-requires
split_used-inside_used-requires t c =
    let s = c.args.scope.now in
    let i = c.enter_split.new.self in
    let grown = c.in_ok-enter_split.ensures.grows in (
      search rules,
      (
        grown.table ∙ c.requires.table,
        (
          c.requires.named,
          still_there s i c.mark-mark.result c.mark-mark.ensures grown,
        ),
      ),
    )

pub split_used-returns-clause-passed : goal.split_used-returns-clause-passed
split_used-returns-clause-passed t c =
    let s = c.args.scope.now in
    let i = c.enter_split.new.self in
    λ at. split_goes (code_of c.args.tabled.now) (definition c.args.method.now) at c.args.groups.now
    (braced c.args.block.now).no (braced c.args.block.now).lines (context_of s) (context_of i)
    (context_of c.inside_used.new.scope) c.args.opened.now.items c.inside_used.new.opened.items c.args.used.now
    c.groups_used.new.used c.inside_used.new.used c.inside_used.result c.in_ok-enter_split.ensures.answer
    c.in_ok-groups_used.ensures
    (c.inside_used.ensures.passed s c.mark-mark.ensures c.in_ok-enter_split.ensures.grows)

pub atomic_used-inside_used-requires : goal.atomic_used-inside_used-requires
atomic_used-inside_used-requires t c =
    let s = c.args.scope.now in
    let i = c.enter_atomic.new.self in
    let grown = c.in_ok-enter_atomic.ensures.grows in (
      search rules,
      (
        grown.table ∙ c.requires.table,
        (
          c.requires.named,
          still_there s i c.mark-mark.result c.mark-mark.ensures grown,
        ),
      ),
    )

pub atomic_used-returns-clause-passed : goal.atomic_used-returns-clause-passed
atomic_used-returns-clause-passed t c =
    let s = c.args.scope.now in
    let i = c.enter_atomic.new.self in
    λ at os. lock_goes (code_of c.args.tabled.now) (definition c.args.method.now) at c.args.group
    (braced c.args.block.now).no (braced c.args.block.now).lines (context_of s) (context_of i)
    (context_of c.inside_used.new.scope) os c.new-apart.result.items c.inside_used.new.opened.items c.args.used.now
    c.shares.new.self c.inside_used.new.used c.inside_used.result c.in_ok-enter_atomic.ensures.answer
    c.in_ok-shares.ensures
    (c.inside_used.ensures.passed s c.mark-mark.ensures c.in_ok-enter_atomic.ensures.grows)

-- ---- statements

pub line_used-lines_are_named-requires : goal.line_used-lines_are_named-requires
line_used-lines_are_named-requires t c =
    (both_blocks_named (length c.args.tabled.now.program.now.names) c.args.stmt.now.kind c.in-If.expr c.in-If.then
    c.in-Some.other c.in-If.otherwise c.in-If.is c.in-Some.is c.requires.named).0

pub line_used-returns-in_err-branch_used-in-Some-clause-passed :
    goal.line_used-returns-in_err-branch_used-in-Some-clause-passed
line_used-returns-in_err-branch_used-in-Some-clause-passed t c =
    let p = code_of c.args.tabled.now in
    let m = definition c.args.method.now in
    let at = c.args.stmt.now.at in
    let k = context_of c.args.scope.now in
    let x = braced c.in-If.then in
    let y = braced c.in-Some.other in
    let a : action c.args.stmt.now.kind ≡ ChoosesElse (expression c.in-If.expr) x.no x.lines y.no y.lines =
    ap action (c.in-If.is ∙ ap (λ (o : Option Block). stmt.If c.in-If.expr c.in-If.then o) c.in-Some.is)
    ∙ action-If_else c.in-If.expr c.in-If.then c.in-Some.other in
    λ h. handed_on (λ (z : Unit {0}). PassesBranch p m x.no x.lines (expression c.in-If.expr) k
    (context_of c.branch_used.new.scope) c.args.opened.now.items c.branch_used.new.opened.items c.args.used.now
    c.branch_used.new.used) _ _ c.in_err-branch_used-in-Some.field-0.0 c.from_residual.ensures.1
    (c.in_err-branch_used-in-Some.ensures.passed
    (both_are_held p m at (expression c.in-If.expr) x.no x.lines y.no y.lines k
    (subst (λ (z : Action). IsHeld (judge_statement p m at z k)) a h)).first)

pub line_used-returns-in_ok-branch_used-in-Some-clause-passed :
    goal.line_used-returns-in_ok-branch_used-in-Some-clause-passed
line_used-returns-in_ok-branch_used-in-Some-clause-passed t c =
    let p = code_of c.args.tabled.now in
    let m = definition c.args.method.now in
    let at = c.args.stmt.now.at in
    let k = context_of c.args.scope.now in
    let d = c.branch_used.new.scope in
    let x = braced c.in-If.then in
    let y = braced c.in-Some.other in
    let a : action c.args.stmt.now.kind ≡ ChoosesElse (expression c.in-If.expr) x.no x.lines y.no y.lines =
    ap action (c.in-If.is ∙ ap (λ (o : Option Block). stmt.If c.in-If.expr c.in-If.then o) c.in-Some.is)
    ∙ action-If_else c.in-If.expr c.in-If.then c.in-Some.other in
    goes_alike p m at (action c.args.stmt.now.kind)
    (ChoosesElse (expression c.in-If.expr) x.no x.lines y.no y.lines) k (context_of c.inside_used.new.scope)
    c.args.opened.now.items c.inside_used.new.opened.items c.args.used.now c.inside_used.new.used c.inside_used.result a
    (both_go p m at (expression c.in-If.expr) x.no x.lines y.no y.lines k (context_of d)
    (context_of c.inside_used.new.scope) c.args.opened.now.items c.branch_used.new.opened.items
    c.inside_used.new.opened.items c.args.used.now c.branch_used.new.used c.inside_used.new.used c.inside_used.result
    c.in_ok-branch_used-in-Some.ensures.passed
    (c.inside_used.ensures.passed d c.mark-mark.ensures (grows_same d)))

pub line_used-returns-in-None-clause-passed : goal.line_used-returns-in-None-clause-passed
line_used-returns-in-None-clause-passed t c =
    let p = code_of c.args.tabled.now in
    let m = definition c.args.method.now in
    let at = c.args.stmt.now.at in
    let k = context_of c.args.scope.now in
    let x = braced c.in-If.then in
    goes_alike p m at (action c.args.stmt.now.kind) _ k (context_of c.branch_used-in-None.new.scope)
    c.args.opened.now.items c.branch_used-in-None.new.opened.items c.args.used.now c.branch_used-in-None.new.used
    c.branch_used-in-None.result
    (ap action (c.in-If.is ∙ ap (λ (o : Option Block). stmt.If c.in-If.expr c.in-If.then o) c.in-None.is)
    ∙ action-If c.in-If.expr c.in-If.then)
    (choice_goes p m at (expression c.in-If.expr) x.no x.lines k (context_of c.branch_used-in-None.new.scope)
    c.args.opened.now.items c.branch_used-in-None.new.opened.items c.args.used.now c.branch_used-in-None.new.used
    c.branch_used-in-None.result c.branch_used-in-None.ensures.passed)

pub line_used-returns-in-While-clause-passed : goal.line_used-returns-in-While-clause-passed
line_used-returns-in-While-clause-passed t c =
    let p = code_of c.args.tabled.now in
    let m = definition c.args.method.now in
    let at = c.args.stmt.now.at in
    let k = context_of c.args.scope.now in
    let x = braced c.in-While.block in
    goes_alike p m at (action c.args.stmt.now.kind) _ k (context_of c.branch_used-in-While.new.scope)
    c.args.opened.now.items c.branch_used-in-While.new.opened.items c.args.used.now c.branch_used-in-While.new.used
    c.branch_used-in-While.result (ap action c.in-While.is ∙ action-While c.in-While.expr c.in-While.block)
    (loop_goes p m at (expression c.in-While.expr) x.no x.lines k (context_of c.branch_used-in-While.new.scope)
    c.args.opened.now.items c.branch_used-in-While.new.opened.items c.args.used.now c.branch_used-in-While.new.used
    c.branch_used-in-While.result c.branch_used-in-While.ensures.passed)

pub line_used-returns-in-Split-clause-passed : goal.line_used-returns-in-Split-clause-passed
line_used-returns-in-Split-clause-passed t c =
    let x = braced c.in-Split.block in
    goes_alike (code_of c.args.tabled.now) (definition c.args.method.now) c.args.stmt.now.at
    (action c.args.stmt.now.kind) _ (context_of c.args.scope.now) (context_of c.split_used.new.scope)
    c.args.opened.now.items c.split_used.new.opened.items c.args.used.now c.split_used.new.used c.split_used.result
    (ap action c.in-Split.is ∙ action-Split c.in-Split.groups c.in-Split.block
    ∙ ap (λ (gs : List NameAt). Splits gs x.no x.lines) (sym c.as_slice.ensures))
    (c.split_used.ensures.passed c.args.stmt.now.at)

pub line_used-returns-in-Atomic-clause-passed : goal.line_used-returns-in-Atomic-clause-passed
line_used-returns-in-Atomic-clause-passed t c =
    goes_alike (code_of c.args.tabled.now) (definition c.args.method.now) c.args.stmt.now.at
    (action c.args.stmt.now.kind) _ (context_of c.args.scope.now) (context_of c.atomic_used.new.scope)
    c.args.opened.now.items c.args.opened.now.items c.args.used.now c.atomic_used.new.used c.atomic_used.result
    (ap action c.in-Atomic.is ∙ action-Atomic c.in-Atomic.group c.in-Atomic.block)
    (c.atomic_used.ensures.passed c.args.stmt.now.at c.args.opened.now.items)

pub line_used-returns-in-Let-clause-passed : goal.line_used-returns-in-Let-clause-passed
line_used-returns-in-Let-clause-passed t c = c.flat_used.ensures.passed c.args.opened.now.items
