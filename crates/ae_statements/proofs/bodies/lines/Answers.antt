use Rattle.std.proofs.Common.{◌<◌, ◌≤◌, sym, subst, ap, arith, ◌∙◌, List}
use Rattle.ae_text.specs.declared.token.Sign.TheVariants as sign
use Rattle.ae_tree.specs.declared.lexeme.Lexical.TheVariants as tok
use Rattle.ae_tree.specs.declared.tree.Stmt.{Stmt}
use Rattle.ae_tree.specs.Plain.{Lines}
use Rattle.ae_tree.specs.Shown as shown
use Rattle.ae_tree.specs.Shown.{action-Return}
use Rattle.ae_tree.specs.Limits.{statement_count}
use Rattle.ae_reading.specs.Reads.{Is, Took}
use Rattle.ae_statements.proofs.from_reading.ReadsLemmas.{exits}
use Rattle.ae_statements.specs.Productions.{body_statements}
use Rattle.ae_statements.proofs.BlockLemmas.{KeepsLines}
use Rattle.ae_statements.proofs.BodyLemmas.{lines_first, lines_alone, lines_last, lines_second, lines_full}
use Rattle.ae_statements.proofs.BodyLemmas.{count_lines, lines_snoc}
use Rattle.ae_statements.proofs.bodies.lines.Goals as goal

pub returns-in_err-read : goal.returns-in_err-read
returns-in_err-read c = exits shown.lines_from body_statements (KeepsLines 63) (Is (tok.Sign sign.CloseBrace)) _ _ _
    (lines_first c.in_err-read.ensures.reads) c.from_residual.ensures.1

pub returns-then-not-is_word_next : goal.returns-then-not-is_word_next
returns-then-not-is_word_next c = lines_alone c.if-not-is_word_next.ensures c.in_ok-read.ensures.reads

pub returns-then-len-ge-MOST_STATEMENTS : goal.returns-then-len-ge-MOST_STATEMENTS
returns-then-len-ge-MOST_STATEMENTS c =
    let full : 1024 ≤ statement_count (shown.lines_from c.in_ok-read.read.stmts) =
    omega (arith, c.if-len-ge-MOST_STATEMENTS.true, c.len.ensures, count_lines c.in_ok-read.read.stmts) in
    record { why = lines_full full c.if-not-is_word_next.ensures c.in_ok-read.ensures.reads }

pub returns-in_err-at : goal.returns-in_err-at
returns-in_err-at c =
    let few : statement_count (shown.lines_from c.in_ok-read.read.stmts) < 1024 =
    omega (arith, c.if-len-ge-MOST_STATEMENTS.false, c.len.ensures, count_lines c.in_ok-read.read.stmts) in
    exits shown.lines_from body_statements (KeepsLines 63) (Is (tok.Sign sign.CloseBrace)) _ _ _
    (lines_second few c.if-not-is_word_next.ensures c.in_ok-read.ensures.reads c.in_err-at.ensures)
    c.from_residual-in_err-at.ensures.1

pub returns : goal.returns
returns c =
    let few : statement_count (shown.lines_from c.in_ok-read.read.stmts) < 1024 =
    omega (arith, c.if-len-ge-MOST_STATEMENTS.false, c.len.ensures, count_lines c.in_ok-read.read.stmts) in
    let P : Lines → Type 0 = λ l. Took body_statements (KeepsLines 63) (Is (tok.Sign sign.CloseBrace)) c.args.ts.now l
    c.in_ok-at.rest.now in
    subst P (sym (ap (λ (xs : List Stmt). shown.lines_from xs) c.in_ok-push.ensures.ok
    ∙ lines_snoc c.in_ok-read.read.stmts _ _ (action-Return _)))
    (lines_last few c.if-not-is_word_next.ensures c.in_ok-read.ensures.reads c.in_ok-at.ensures)
