use Rattle.std.proofs.Common.{sym, subst, List, map}
use Rattle.ae_tree.specs.declared.tree.Expr.{Expr}
use Rattle.ae_tree.specs.Shown as shown
use Rattle.ae_tree.specs.Grammar.{whole_expression, separated}
use Rattle.ae_tree.specs.Limits.{AllKeepDepth}
use Rattle.ae_reading.specs.Reads.{Took}
use Rattle.ae_statements.proofs.from_reading.ReadsLemmas.{exits}
use Rattle.ae_statements.proofs.from_reading.Parts.{took_separated, separated_first, separated_more}
use Rattle.ae_statements.proofs.CallLemmas.{none_within, Closed, commas, parted}
use Rattle.ae_statements.proofs.calls.some_arguments.Goals as goal

pub returns-in_err-first : goal.returns-in_err-first
returns-in_err-first c = exits (map shown.expression) (separated whole_expression) AllKeepDepth Closed _ _ _
    (separated_first (λ l x xs. AllKeepDepth l xs) parted commas (λ l x w. none_within l) c.in_err-first.ensures)
    c.from_residual.ensures.1

pub returns-in_err-more : goal.returns-in_err-more
returns-in_err-more c = exits (map shown.expression) (separated whole_expression) AllKeepDepth Closed _ _ _
    (separated_more (λ l x xs. AllKeepDepth l xs) parted commas c.in_ok-first.ensures c.in_err-more.ensures)
    c.from_residual-in_err-more.ensures.1

pub returns : goal.returns
returns c =
    let P : List Expr → Type 0 = λ l. Took (separated whole_expression) AllKeepDepth Closed c.args.ts.now
    (map shown.expression l) c.in_ok-more.rest.now in
    subst P (sym c.in_ok-in_front.ensures)
    (took_separated (λ l x xs. AllKeepDepth l xs) parted commas c.in_ok-first.ensures c.in_ok-more.ensures)
