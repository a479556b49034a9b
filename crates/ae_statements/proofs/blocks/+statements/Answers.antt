use Rattle.std.proofs.Common.{◌+◌, ◌*◌, ◌≤◌, ◌<◌, ℕ, List, length, map, sym, subst, ap, arith, ◌∙◌, [], ◌∷◌}
use Rattle.std.proofs.lemmas.List.{map-append, length-map}
use Rattle.ae_text.specs.declared.refusal.Spot.{Spot}
use Rattle.ae_tree.specs.declared.tree.Stmt.{Stmt}
use Rattle.ae_tree.specs.Plain.{Action, Lines, Repeats, Splits, Locks, Chooses, ChoosesElse}
use Rattle.ae_tree.specs.Shown as shown
use Rattle.ae_tree.specs.Shown.{action-While, action-Split, action-Atomic, action-If, action-If_else, lines-roll}
use Rattle.ae_tree.specs.Shown.{no-roll}
use Rattle.ae_tree.specs.Grammar.{statements, blocks_opened, opened_in}
use Rattle.ae_reading.specs.Reads.{Took, Failed, Always}
use Rattle.ae_statements.proofs.from_reading.ReadsLemmas.{exits, passes, token_smaller, took_shorter}
use Rattle.ae_statements.specs.Productions.{stmt, KeepsStmt, NoElse, Closes, numbered_block, otherwise, KeepsBraced}
use Rattle.ae_statements.specs.Productions.{shown_block, shown_stmt, shown_numbered, shown_stmts}
use Rattle.ae_statements.proofs.ShapeLemmas.{pre_first, pre_second, took_pre}
use Rattle.ae_statements.proofs.BlockLemmas.{KeepsLines, braced_took, braced_first, braced_inner, braced_last}
use Rattle.ae_statements.proofs.BlockLemmas.{has_braced, looped, loops, divided, splits, locked, locks, one_took}
use Rattle.ae_statements.proofs.BlockLemmas.{one_first, one_second, one_third, behind, other_absent, two_took}
use Rattle.ae_statements.proofs.BlockLemmas.{two_first, two_second, choice_took, choice_first, choice_second}
use Rattle.ae_statements.proofs.BlockLemmas.{choice_third, next_number, both_numbers, other_took_at, other_failed_at}
use Rattle.ae_statements.proofs.LinesLemmas.{Body, lines_listed, body_start, body_more, body_failed, body_end}
use Rattle.ae_statements.proofs.LinesLemmas.{body_full, body_length, body_room, braced_room, stmt_smaller}
use Rattle.ae_statements.proofs.LinesLemmas.{simple_number}
use Rattle.ae_statements.proofs.blocks.+statements.Goals as goal

-- ---- a block

pub block-returns-in_err-rest-clause-reads : goal.block-returns-in_err-rest-clause-reads
block-returns-in_err-rest-clause-reads t c = exits shown_block (numbered_block c.args.no)
    (KeepsBraced c.args.levels) Always _ _ _
    (braced_first c.args.no c.args.levels c.requires.some c.in_err-rest.ensures) c.from_residual.ensures.1

pub block-returns-in_err-inner-clause-reads : goal.block-returns-in_err-inner-clause-reads
block-returns-in_err-inner-clause-reads t c = exits shown_block (numbered_block c.args.no)
    (KeepsBraced c.args.levels) Always _ _ _
    (braced_inner c.args.no c.args.levels c.requires.some c.in_ok-rest.ensures c.in_err-inner.ensures.reads)
    c.from_residual-in_err-inner.ensures.1

pub block-returns-in_err-rest-2-clause-reads : goal.block-returns-in_err-rest-2-clause-reads
block-returns-in_err-rest-2-clause-reads t c = exits shown_block (numbered_block c.args.no)
    (KeepsBraced c.args.levels) Always _ _ _
    (braced_last c.args.no c.args.levels c.requires.some c.in_ok-rest.ensures c.in_ok-inner.ensures.reads
    c.in_err-rest-2.ensures) c.from_residual-in_err-rest-2.ensures.1

pub block-returns-clause-reads : goal.block-returns-clause-reads
block-returns-clause-reads t c =
    let P : Lines → Type 0 = λ l. Took (numbered_block c.args.no) (KeepsBraced c.args.levels) Always c.args.ts.now l
    c.in_ok-rest-2.rest.now in
    subst P (sym (lines-roll _)) (braced_took c.args.no c.args.levels c.requires.some c.in_ok-rest.ensures
    c.in_ok-inner.ensures.reads c.in_ok-rest-2.ensures)

pub block-returns-clause-number : goal.block-returns-clause-number
block-returns-clause-number t c = no-roll _

pub block-returns-clause-next : goal.block-returns-clause-next
block-returns-clause-next t c = c.in_ok-inner.ensures.next ∙ ap (λ l. c.args.no + 1 + opened_in l) (sym (lines-roll _))

-- ---- the block behind `else`

pub otherwise-returns-in_err-rest-clause-reads : goal.otherwise-returns-in_err-rest-clause-reads
otherwise-returns-in_err-rest-clause-reads t c = exits shown_block (otherwise c.args.no)
    (KeepsBraced c.args.levels) Always _ _ _
    (pre_first (numbered_block c.args.no) (has_braced c.args.no c.args.levels c.requires.some) c.in_err-rest.ensures)
    c.from_residual.ensures.1

pub otherwise-returns-clause-reads : goal.otherwise-returns-clause-reads
otherwise-returns-clause-reads t c = passes shown_block (numbered_block c.args.no) (otherwise c.args.no)
    (KeepsBraced c.args.levels) (KeepsBraced c.args.levels) Always Always _ _ _
    (λ x rest s. took_pre (numbered_block c.args.no) c.in_ok-rest.ensures s)
    (λ e s. pre_second (numbered_block c.args.no) c.in_ok-rest.ensures s) c.block.ensures.reads

-- ---- repetition

pub repetition-returns-in_err-at-clause-reads : goal.repetition-returns-in_err-at-clause-reads
repetition-returns-in_err-at-clause-reads t c = exits shown_numbered (stmt c.args.no)
    (KeepsStmt c.args.levels) NoElse _ _ _
    (one_first (looped c.args.no) (loops c.args.no c.args.levels _ c.requires.some c.requires.word)
    c.in_err-at.ensures) c.from_residual.ensures.1

pub repetition-returns-in_err-e-clause-reads : goal.repetition-returns-in_err-e-clause-reads
repetition-returns-in_err-e-clause-reads t c = exits shown_numbered (stmt c.args.no)
    (KeepsStmt c.args.levels) NoElse _ _ _
    (one_second (looped c.args.no) (loops c.args.no c.args.levels _ c.requires.some c.requires.word)
    c.in_ok-at.ensures c.in_err-e.ensures) c.from_residual-in_err-e.ensures.1

pub repetition-returns-in_err-inner-clause-reads : goal.repetition-returns-in_err-inner-clause-reads
repetition-returns-in_err-inner-clause-reads t c = exits shown_numbered (stmt c.args.no)
    (KeepsStmt c.args.levels) NoElse _ _ _
    (one_third (looped c.args.no) (loops c.args.no c.args.levels _ c.requires.some c.requires.word) c.in_ok-at.ensures
    c.in_ok-e.ensures c.in_err-inner.ensures.reads) c.from_residual-in_err-inner.ensures.1

pub repetition-returns-clause-reads : goal.repetition-returns-clause-reads
repetition-returns-clause-reads t c =
    let P : Spot × Action → Type 0 = λ q. Took (stmt c.args.no) (KeepsStmt c.args.levels) NoElse c.args.ts.now q
    c.in_ok-inner.rest.now in
    subst P (sym (ap (λ a. (c.in_ok-at.at, a))
    (action-While _ _ ∙ ap (λ m. Repeats (shown.expression c.in_ok-e.e) m (shown_block c.in_ok-inner.inner))
    c.in_ok-inner.ensures.number)))
    (one_took (looped c.args.no) (loops c.args.no c.args.levels _ c.requires.some c.requires.word) c.in_ok-at.ensures
    c.in_ok-e.ensures c.in_ok-inner.ensures.reads)

pub repetition-returns-clause-next : goal.repetition-returns-clause-next
repetition-returns-clause-next t c = next_number _ _ _ _ (ap blocks_opened (action-While _ _))
    c.in_ok-inner.ensures.next

-- ---- splitting

pub splitting-returns-in_err-at-clause-reads : goal.splitting-returns-in_err-at-clause-reads
splitting-returns-in_err-at-clause-reads t c = exits shown_numbered (stmt c.args.no)
    (KeepsStmt c.args.levels) NoElse _ _ _
    (one_first (divided c.args.no) (splits c.args.no c.args.levels _ c.requires.some c.requires.word)
    c.in_err-at.ensures) c.from_residual.ensures.1

pub splitting-returns-in_err-groups-clause-reads : goal.splitting-returns-in_err-groups-clause-reads
splitting-returns-in_err-groups-clause-reads t c = exits shown_numbered (stmt c.args.no)
    (KeepsStmt c.args.levels) NoElse _ _ _
    (one_second (divided c.args.no) (splits c.args.no c.args.levels _ c.requires.some c.requires.word)
    c.in_ok-at.ensures c.in_err-groups.ensures) c.from_residual-in_err-groups.ensures.1

pub splitting-returns-in_err-inner-clause-reads : goal.splitting-returns-in_err-inner-clause-reads
splitting-returns-in_err-inner-clause-reads t c = exits shown_numbered (stmt c.args.no)
    (KeepsStmt c.args.levels) NoElse _ _ _
    (one_third (divided c.args.no) (splits c.args.no c.args.levels _ c.requires.some c.requires.word)
    c.in_ok-at.ensures c.in_ok-groups.ensures c.in_err-inner.ensures.reads) c.from_residual-in_err-inner.ensures.1

pub splitting-returns-clause-reads : goal.splitting-returns-clause-reads
splitting-returns-clause-reads t c =
    let P : Spot × Action → Type 0 = λ q. Took (stmt c.args.no) (KeepsStmt c.args.levels) NoElse c.args.ts.now q
    c.in_ok-inner.rest.now in
    subst P (sym (ap (λ a. (c.in_ok-at.at, a))
    (action-Split _ _ ∙ ap (λ m. Splits (c.in_ok-groups.groups) m (shown_block c.in_ok-inner.inner))
    c.in_ok-inner.ensures.number)))
    (one_took (divided c.args.no) (splits c.args.no c.args.levels _ c.requires.some c.requires.word)
    c.in_ok-at.ensures c.in_ok-groups.ensures c.in_ok-inner.ensures.reads)

pub splitting-returns-clause-next : goal.splitting-returns-clause-next
splitting-returns-clause-next t c = next_number _ _ _ _ (ap blocks_opened (action-Split _ _)) c.in_ok-inner.ensures.next

-- ---- locking

pub locking-returns-in_err-at-clause-reads : goal.locking-returns-in_err-at-clause-reads
locking-returns-in_err-at-clause-reads t c = exits shown_numbered (stmt c.args.no) (KeepsStmt c.args.levels) NoElse _
    _ _ (one_first (locked c.args.no) (locks c.args.no c.args.levels _ c.requires.some c.requires.word)
    c.in_err-at.ensures) c.from_residual.ensures.1

pub locking-returns-in_err-group-clause-reads : goal.locking-returns-in_err-group-clause-reads
locking-returns-in_err-group-clause-reads t c = exits shown_numbered (stmt c.args.no)
    (KeepsStmt c.args.levels) NoElse _ _ _
    (one_second (locked c.args.no) (locks c.args.no c.args.levels _ c.requires.some c.requires.word)
    c.in_ok-at.ensures c.in_err-group.ensures) c.from_residual-in_err-group.ensures.1

pub locking-returns-in_err-inner-clause-reads : goal.locking-returns-in_err-inner-clause-reads
locking-returns-in_err-inner-clause-reads t c = exits shown_numbered (stmt c.args.no)
    (KeepsStmt c.args.levels) NoElse _ _ _
    (one_third (locked c.args.no) (locks c.args.no c.args.levels _ c.requires.some c.requires.word) c.in_ok-at.ensures
    c.in_ok-group.ensures c.in_err-inner.ensures.reads) c.from_residual-in_err-inner.ensures.1

pub locking-returns-clause-reads : goal.locking-returns-clause-reads
locking-returns-clause-reads t c =
    let P : Spot × Action → Type 0 = λ q. Took (stmt c.args.no) (KeepsStmt c.args.levels) NoElse c.args.ts.now q
    c.in_ok-inner.rest.now in
    subst P (sym (ap (λ a. (c.in_ok-at.at, a))
    (action-Atomic _ _ ∙ ap (λ m. Locks (c.in_ok-group.group) m (shown_block c.in_ok-inner.inner))
    c.in_ok-inner.ensures.number)))
    (one_took (locked c.args.no) (locks c.args.no c.args.levels _ c.requires.some c.requires.word) c.in_ok-at.ensures
    c.in_ok-group.ensures c.in_ok-inner.ensures.reads)

pub locking-returns-clause-next : goal.locking-returns-clause-next
locking-returns-clause-next t c = next_number _ _ _ _ (ap blocks_opened (action-Atomic _ _)) c.in_ok-inner.ensures.next

-- ---- a choice

pub choice-returns-in_err-at-clause-reads : goal.choice-returns-in_err-at-clause-reads
choice-returns-in_err-at-clause-reads t c = exits shown_numbered (stmt c.args.no) (KeepsStmt c.args.levels) NoElse _ _
    _ (choice_first c.args.no c.args.levels c.requires.some c.requires.word c.in_err-at.ensures)
    c.from_residual.ensures.1

pub choice-returns-in_err-e-clause-reads : goal.choice-returns-in_err-e-clause-reads
choice-returns-in_err-e-clause-reads t c = exits shown_numbered (stmt c.args.no) (KeepsStmt c.args.levels) NoElse _ _
    _ (choice_second c.args.no c.args.levels c.requires.some c.requires.word c.in_ok-at.ensures c.in_err-e.ensures)
    c.from_residual-in_err-e.ensures.1

pub choice-returns-in_err-inner-clause-reads : goal.choice-returns-in_err-inner-clause-reads
choice-returns-in_err-inner-clause-reads t c = exits shown_numbered (stmt c.args.no)
    (KeepsStmt c.args.levels) NoElse _ _ _
    (choice_third c.args.no c.args.levels c.requires.word c.in_ok-at.ensures c.in_ok-e.ensures
    (two_first c.args.no c.args.levels c.in_err-inner.ensures.reads)) c.from_residual-in_err-inner.ensures.1

pub choice-returns-then-not-is_word_next-clause-reads : goal.choice-returns-then-not-is_word_next-clause-reads
choice-returns-then-not-is_word_next-clause-reads t c =
    let P : Spot × Action → Type 0 = λ q. Took (stmt c.args.no) (KeepsStmt c.args.levels) NoElse c.args.ts.now q
    c.in_ok-inner.rest.now in
    subst P (sym (ap (λ a. (c.in_ok-at.at, a))
    (action-If _ _ ∙ ap (λ m. Chooses (shown.expression c.in_ok-e.e) m (shown_block c.in_ok-inner.inner))
    c.in_ok-inner.ensures.number)))
    (choice_took c.args.no c.args.levels c.requires.word c.in_ok-at.ensures c.in_ok-e.ensures
    (two_took c.args.no c.args.levels c.in_ok-inner.ensures.reads
    (other_absent (behind c.args.no (shown_block c.in_ok-inner.inner)) c.args.levels
    c.if-not-is_word_next.ensures)))

pub choice-returns-then-not-is_word_next-clause-next : goal.choice-returns-then-not-is_word_next-clause-next
choice-returns-then-not-is_word_next-clause-next t c = next_number _ _ _ _ (ap blocks_opened (action-If _ _))
    c.in_ok-inner.ensures.next

pub choice-otherwise-requires : goal.choice-otherwise-requires
choice-otherwise-requires t c =
    let room : c.args.no + length c.in_ok-e.rest.now ≤ 4294967295 =
    omega (arith, c.requires.few, took_shorter c.in_ok-at.ensures, took_shorter c.in_ok-e.ensures) in
    let left : c.args.no + 1 + opened_in (shown_block c.in_ok-inner.inner) + length c.in_ok-inner.rest.now ≤
    4294967295 = braced_room _ _ _ _ _ c.in_ok-inner.ensures.reads room in
    let smaller : 4 * length c.in_ok-inner.rest.now < t =
    omega (
      arith,
      c.decreases,
      token_smaller _ _ _ _ _ c.in_ok-at.ensures,
      took_shorter c.in_ok-e.ensures,
      took_shorter c.in_ok-inner.ensures.reads,
    ) in
    (smaller, (omega (arith, left, c.in_ok-inner.ensures.next), c.requires.some))

pub choice-returns-in_err-second-clause-reads : goal.choice-returns-in_err-second-clause-reads
choice-returns-in_err-second-clause-reads t c = exits shown_numbered (stmt c.args.no)
    (KeepsStmt c.args.levels) NoElse _ _ _
    (choice_third c.args.no c.args.levels c.requires.word c.in_ok-at.ensures c.in_ok-e.ensures
    (two_second c.args.no c.args.levels c.in_ok-inner.ensures.reads
    (other_failed_at (behind c.args.no (shown_block c.in_ok-inner.inner)) c.args.levels _ c.in_ok-inner.ensures.next
    c.if-not-is_word_next.ensures c.in_err-second.ensures.reads))) c.from_residual-in_err-second.ensures.1

pub choice-returns-clause-reads : goal.choice-returns-clause-reads
choice-returns-clause-reads t c =
    let P : Spot × Action → Type 0 = λ q. Took (stmt c.args.no) (KeepsStmt c.args.levels) NoElse c.args.ts.now q
    c.in_ok-second.rest.now in
    let e = shown.expression c.in_ok-e.e in
    let b = shown_block c.in_ok-inner.inner in
    let d = shown_block c.in_ok-second.second in
    subst P (sym (ap (λ a. (c.in_ok-at.at, a))
    (action-If_else _ _ _ ∙ ap (λ m. ChoosesElse e m b (shown.braced c.in_ok-second.second.block).no d)
    c.in_ok-inner.ensures.number
    ∙ ap (λ m. ChoosesElse e c.args.no b m d) (c.in_ok-second.ensures.number ∙ c.in_ok-inner.ensures.next))))
    (choice_took c.args.no c.args.levels c.requires.word c.in_ok-at.ensures c.in_ok-e.ensures
    (two_took c.args.no c.args.levels c.in_ok-inner.ensures.reads
    (other_took_at (behind c.args.no b) c.args.levels _ c.in_ok-inner.ensures.next c.if-not-is_word_next.ensures
    c.in_ok-second.ensures.reads)))

pub choice-returns-clause-next : goal.choice-returns-clause-next
choice-returns-clause-next t c = both_numbers _ _ _ _ _ _ (ap blocks_opened (action-If_else _ _ _))
    c.in_ok-inner.ensures.next c.in_ok-second.ensures.next

-- ---- a statement

pub statement-returns-in_err-stmt-clause-reads : goal.statement-returns-in_err-stmt-clause-reads
statement-returns-in_err-stmt-clause-reads t c = exits shown_numbered (stmt c.args.no)
    (KeepsStmt c.args.levels) NoElse _ _ _ (c.in_err-stmt.ensures c.args.no c.args.levels) c.from_residual.ensures.1

pub statement-returns-then-not-opens_next-clause-next : goal.statement-returns-then-not-opens_next-clause-next
statement-returns-then-not-opens_next-clause-next t c = simple_number c.args.no _ _ _ c.if-not-opens_next.ensures
    (c.in_ok-stmt.ensures c.args.no c.args.levels)

pub statement-returns-then-levels-eq0-clause-reads : goal.statement-returns-then-levels-eq0-clause-reads
statement-returns-then-levels-eq0-clause-reads t c =
    let P : ℕ → Type 0 = λ k. Failed (stmt c.args.no) (KeepsStmt k) NoElse c.args.ts.now c.too_deep.result in
    subst P (sym c.if-levels-eq0.true) (c.too_deep.ensures c.args.no)

-- ---- statements

pub statements-body-init : goal.statements-body-init
statements-body-init t c =
    let P : List Stmt → Type 0 = λ xs. Body c.args.no c.args.levels c.args.ts.now (map shown_stmt xs) c.args.ts.now
    c.args.no in
    subst P (sym c.new-stmts.ensures) (body_start c.args.no c.args.levels c.args.ts.now)

pub statements-returns-then-len-ge-MOST_STATEMENTS-clause-reads
    : goal.statements-returns-then-len-ge-MOST_STATEMENTS-clause-reads
statements-returns-then-len-ge-MOST_STATEMENTS-clause-reads t c =
    let full : 1024 ≤ length (map shown_stmt c.body.stmts) =
    omega (arith, c.if-len-ge-MOST_STATEMENTS.true, c.len.ensures, length-map c.body.stmts shown_stmt) in
    record { why = body_full _ _ _ _ _ _ _ c.body-test.ensures full c.further.ensures c.body.invariant }

pub statements-returns-in_err-read-clause-reads : goal.statements-returns-in_err-read-clause-reads
statements-returns-in_err-read-clause-reads t c =
    let few : length (map shown_stmt c.body.stmts) < 1024 =
    omega (arith, c.if-len-ge-MOST_STATEMENTS.false, c.len.ensures, length-map c.body.stmts shown_stmt) in
    exits shown_stmts (statements c.args.no) (KeepsLines c.args.levels) Closes _ _ _
    (body_failed _ _ _ _ _ _ _ c.body-test.ensures few c.body.invariant c.in_err-read.ensures.reads)
    c.from_residual.ensures.1

pub statements-body-smaller : goal.statements-body-smaller
statements-body-smaller t c = stmt_smaller _ _ _ _ c.in_ok-read.ensures.reads

pub statements-body-preserved : goal.statements-body-preserved
statements-body-preserved t c =
    let few : length (map shown_stmt c.body.stmts) < 1024 =
    omega (arith, c.if-len-ge-MOST_STATEMENTS.false, c.len.ensures, length-map c.body.stmts shown_stmt) in
    let P : List (Spot × Action) → Type 0 =
    λ qs. Body c.args.no c.args.levels c.args.ts.now qs c.in_ok-read.after.now c.in_ok-read.read.next in
    subst P (sym (ap (λ (xs : List Stmt). map shown_stmt xs) c.in_ok-push.ensures.ok
    ∙ map-append shown_stmt c.body.stmts (c.in_ok-read.read.stmt ∷ [])))
    (body_more _ _ _ _ _ _ _ _ _ c.body-test.ensures few c.body.invariant c.in_ok-read.ensures.reads
    c.in_ok-read.ensures.next)

pub statements-statement-requires : goal.statements-statement-requires
statements-statement-requires t c =
    let smaller : 4 * length c.body.rest.now + 1 < t =
    omega (arith, c.decreases, body_length _ _ _ _ _ _ c.body.invariant) in
    (smaller, body_room _ _ _ _ _ _ _ c.body.invariant c.requires)

pub statements-returns-clause-reads : goal.statements-returns-clause-reads
statements-returns-clause-reads t c =
    let P : Lines → Type 0 = λ l. Took (statements c.args.no) (KeepsLines c.args.levels) Closes c.args.ts.now l
    c.body.rest.now in
    subst P (sym (lines_listed c.body.stmts)) (body_end _ _ _ _ _ _ c.body-test.ensures c.body.invariant)

pub statements-returns-clause-next : goal.statements-returns-clause-next
statements-returns-clause-next t c = c.body.invariant.number ∙ ap (λ l. c.args.no + opened_in l)
    (sym (lines_listed c.body.stmts))
