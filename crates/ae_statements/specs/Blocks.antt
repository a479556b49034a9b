-- What a statement with a block begins with, and why it is refused where no block may be opened.
use Rattle.std.specs.Prelude.{ℕ, List}
use Rattle.ae_text.specs.declared.refusal.Spot.{Spot}
use Rattle.ae_text.specs.declared.token.Keyword.{Keyword}
use Rattle.ae_text.specs.declared.token.Keyword.TheVariants as word
use Rattle.ae_tree.specs.declared.lexeme.Lexical.TheVariants as tok
use Rattle.ae_tree.specs.declared.limits.Limit.{Limit}
use Rattle.ae_tree.specs.declared.tree.NameAt.{NameAt}
use Rattle.ae_tree.specs.declared.tree.Expr.{Expr}
use Rattle.ae_tree.specs.Plain.{Expression}
use Rattle.ae_tree.specs.Shown as shown
use Rattle.ae_tree.specs.Grammar.{Tokens, ◌⨾◌, one_at, name, separated, whole_expression}
use Rattle.ae_tree.specs.Limits.{KeepsDepth}
use Rattle.ae_reading.specs.declared.fail.Fail.{Fail}
use Rattle.ae_reading.specs.Reads.{Failed}
use Rattle.ae_statements.specs.Productions.{stmt, KeepsStmt, NoElse}

-- `if` or `while`, and an expression
abbrev pub condition : Keyword → Spot × Expression → Tokens → Type 0
condition w q = one_at (tok.Word w) q.0 ⨾ whole_expression q.1

abbrev pub KeepsCondition : Limit → Spot × Expression → Type 0
KeepsCondition l q = KeepsDepth l q.1

abbrev pub shown_condition : Spot × Expr → Spot × Expression
shown_condition q = (q.0, shown.expression q.1)

-- `split` and groups
abbrev pub split_groups : Spot × List NameAt → Tokens → Type 0
split_groups q = one_at (tok.Word word.Split) q.0 ⨾ separated name q.1

-- `atomic` and a group
abbrev pub locked_group : Spot × NameAt → Tokens → Type 0
locked_group q = one_at (tok.Word word.Atomic) q.0 ⨾ name q.1

-- why a statement is refused where no block may be opened
abbrev pub IsTooDeep : Tokens → Fail → Type 0
IsTooDeep ts e = (n : ℕ) → Failed (stmt n) (KeepsStmt 0) NoElse ts e
