use Rattle.std.proofs.Common.{refl, sym, subst, List, map}
use Rattle.ae_text.specs.declared.token.Sign.TheVariants as sign
use Rattle.ae_tree.specs.declared.lexeme.Lexical.TheVariants as tok
use Rattle.ae_tree.specs.declared.tree.Expr.{Expr}
use Rattle.ae_tree.specs.Shown as shown
use Rattle.ae_tree.specs.Grammar.{whole_expression, separated, comma_list}
use Rattle.ae_tree.specs.Limits.{AllKeepDepth}
use Rattle.ae_reading.specs.Reads.{Took}
use Rattle.ae_statements.proofs.from_reading.ReadsLemmas.{passes}
use Rattle.ae_statements.proofs.from_reading.Parts.{took_none, took_some, failed_some}
use Rattle.ae_statements.proofs.CallLemmas.{none_within, Closed, no_whole}
use Rattle.ae_statements.proofs.calls.any_arguments.Goals as goal

pub returns-then-is_sign_next : goal.returns-then-is_sign_next
returns-then-is_sign_next c =
    let P : List Expr → Type 0 = λ l. Took (comma_list whole_expression) AllKeepDepth Closed c.args.ts.now
    (map shown.expression l) c.args.ts.now in
    subst P (sym c.new.ensures) (took_none whole_expression AllKeepDepth Closed none_within
    (no_whole (tok.Sign sign.CloseParen) c.args.ts.now refl c.if-is_sign_next.ensures))

pub returns-else-is_sign_next : goal.returns-else-is_sign_next
returns-else-is_sign_next c = passes (map shown.expression) (separated whole_expression)
    (comma_list whole_expression) AllKeepDepth AllKeepDepth Closed Closed _ _ _
    (λ x rest s. took_some whole_expression AllKeepDepth none_within c.if-is_sign_next.ensures s)
    (λ e s. failed_some whole_expression AllKeepDepth none_within c.if-is_sign_next.ensures s)
    c.some_arguments.ensures
