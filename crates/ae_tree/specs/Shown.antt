-- The tree that a program holds, as plain data.
use Rattle.std.specs.Prelude.{◌≡◌, ℕ, ℤ, Bool, map, List, [], ◌∷◌, Option, None, Some, refl}
use Rattle.std.proofs.Common.{sym, ◌∙◌, ap}
use Rattle.ae_text.specs.declared.refusal.Spot.{Spot}
use Rattle.ae_tree.specs.declared.tree.NameAt.{NameAt}
use Rattle.ae_tree.specs.declared.tree.Ty.{Ty}
use Rattle.ae_tree.specs.declared.tree.Path.{Path}
use Rattle.ae_tree.specs.declared.tree.Op.{Op}
use Rattle.ae_tree.specs.declared.tree.Expr.{Expr, fold-Expr, fold-roll-Expr}
use Rattle.ae_tree.specs.declared.tree.Expr.TheVariants as e
use Rattle.ae_tree.specs.declared.tree.Expr.TheOpen as eo
use Rattle.ae_tree.specs.declared.tree.Call.{Call}
use Rattle.ae_tree.specs.declared.tree.Rhs.{Rhs}
use Rattle.ae_tree.specs.declared.tree.Rhs.TheVariants as r
use Rattle.ae_tree.specs.declared.tree.StmtKind.{StmtKind, fold-StmtKind, fold-roll-StmtKind}
use Rattle.ae_tree.specs.declared.tree.StmtKind.TheVariants as s
use Rattle.ae_tree.specs.declared.tree.StmtKind.TheOpen as so
use Rattle.ae_tree.specs.declared.tree.Stmt.{Stmt}
use Rattle.ae_tree.specs.declared.tree.StmtKind.TheFolds.{fold-Stmt, fold-roll-Stmt}
use Rattle.ae_tree.specs.declared.tree.Block.{Block, out-Block, roll-Block, fold-Block, fold_out-Block, fold-roll-Block}
use Rattle.ae_tree.specs.declared.tree.Method.{Method}
use Rattle.ae_tree.specs.declared.tree.Program.{Program}
use Rattle.ae_tree.specs.Plain.{Expression, Number, Truth, Nothing, Read, Item, Length, Grouped, Negated, Minus}
use Rattle.ae_tree.specs.Plain.{Binary, Invocation, RightSide, Value, Taken, Zeros, Made, Returned}
use Rattle.ae_tree.specs.Plain.{Action, Declares, Assigns, Stores, StoresAt, Calls, Chooses, ChoosesElse, Repeats}
use Rattle.ae_tree.specs.Plain.{Groups, Splits, Locks, Freezes, Shares, Prints, PrintsText, Asserts, Returns, Lines}
use Rattle.ae_tree.specs.Plain.{End, Next, Definition, Code}

-- ---- expressions

abbrev expression_layer : eo.Expr-F Expression → Expression
expression_layer (eo.Int n at) = Number n at
expression_layer (eo.Bool b at) = Truth b at
expression_layer (eo.Null at) = Nothing at
expression_layer (eo.Path p) = Read p
expression_layer (eo.Index p a) = Item p a
expression_layer (eo.Len p at) = Length p at
expression_layer (eo.Paren a at) = Grouped a at
expression_layer (eo.Not a at) = Negated a at
expression_layer (eo.Neg a at) = Minus a at
expression_layer (eo.Bin op a b) = Binary op a b

unfoldable pub expression : Expr → Expression
expression = fold-Expr Expression expression_layer

pub expression-Int : (n : ℤ) (at : Spot) → expression (e.Int n at) ≡ Number n at
unfolding expression
expression-Int n at = ap expression (sym (e.rolls-Int n at)) ∙ fold-roll-Expr Expression expression_layer (eo.Int n at)

pub expression-Bool : (b : Bool) (at : Spot) → expression (e.Bool b at) ≡ Truth b at
unfolding expression
expression-Bool b at = ap expression (sym (e.rolls-Bool b at)) ∙ fold-roll-Expr Expression expression_layer
    (eo.Bool b at)

pub expression-Null : (at : Spot) → expression (e.Null at) ≡ Nothing at
unfolding expression
expression-Null at = ap expression (sym (e.rolls-Null at)) ∙ fold-roll-Expr Expression expression_layer (eo.Null at)

pub expression-Path : (p : Path) → expression (e.Path p) ≡ Read p
unfolding expression
expression-Path p = ap expression (sym (e.rolls-Path p)) ∙ fold-roll-Expr Expression expression_layer (eo.Path p)

pub expression-Index : (p : Path) (a : Expr) → expression (e.Index p a) ≡ Item p (expression a)
unfolding expression
expression-Index p a = ap expression (sym (e.rolls-Index p a)) ∙ fold-roll-Expr Expression expression_layer
    (eo.Index p a)

pub expression-Len : (p : Path) (at : Spot) → expression (e.Len p at) ≡ Length p at
unfolding expression
expression-Len p at = ap expression (sym (e.rolls-Len p at)) ∙ fold-roll-Expr Expression expression_layer (eo.Len p at)

pub expression-Paren : (a : Expr) (at : Spot) → expression (e.Paren a at) ≡ Grouped (expression a) at
unfolding expression
expression-Paren a at = ap expression (sym (e.rolls-Paren a at)) ∙ fold-roll-Expr Expression expression_layer
    (eo.Paren a at)

pub expression-Not : (a : Expr) (at : Spot) → expression (e.Not a at) ≡ Negated (expression a) at
unfolding expression
expression-Not a at = ap expression (sym (e.rolls-Not a at)) ∙ fold-roll-Expr Expression expression_layer (eo.Not a at)

pub expression-Neg : (a : Expr) (at : Spot) → expression (e.Neg a at) ≡ Minus (expression a) at
unfolding expression
expression-Neg a at = ap expression (sym (e.rolls-Neg a at)) ∙ fold-roll-Expr Expression expression_layer (eo.Neg a at)

pub expression-Bin : (op : Op) (a b : Expr) → expression (e.Bin op a b) ≡ Binary op (expression a) (expression b)
unfolding expression
expression-Bin op a b = ap expression (sym (e.rolls-Bin op a b)) ∙ fold-roll-Expr Expression expression_layer
    (eo.Bin op a b)

abbrev pub invocation : Call → Invocation
invocation c = record { on = c.on; method = c.method; groups = c.groups; args = map expression c.args }

abbrev pub right_side : Rhs → RightSide
right_side (r.Expr a) = Value (expression a)
right_side (r.Take p at) = Taken p at
right_side (r.Ints a at) = Zeros (expression a) at
right_side (r.New c groups args at) = Made c groups (map expression args) at
right_side (r.Call c) = Returned (invocation c)

-- ---- statements

pub record ShownLine : Type 0 where
  pub at : Spot
  pub action : Action

-- a block: its number and its statements
pub record Braced : Type 0 where
  pub no : ℕ
  pub lines : Lines

-- a list of statements as lines
abbrev lines_of : List ShownLine → Lines
lines_of [] = End
lines_of (x ∷ xs) = Next x.at x.action (lines_of xs)

abbrev chosen_layer : Expression → Braced → Option Braced → Action
chosen_layer a b None = Chooses a b.no b.lines
chosen_layer a b (Some c) = ChoosesElse a b.no b.lines c.no c.lines

abbrev action_layer : so.StmtKind-F Action Braced ShownLine → Action
action_layer (so.Let ty x a) = Declares ty x (right_side a)
action_layer (so.Assign x a) = Assigns x (right_side a)
action_layer (so.Field p a) = Stores p (expression a)
action_layer (so.Index p a b) = StoresAt p (expression a) (expression b)
action_layer (so.Call c) = Calls (invocation c)
action_layer (so.If a b c) = chosen_layer (expression a) b c
action_layer (so.While a b) = Repeats (expression a) b.no b.lines
action_layer (so.Group g) = Groups g
action_layer (so.Split gs b) = Splits gs b.no b.lines
action_layer (so.Atomic g b) = Locks g b.no b.lines
action_layer (so.Freeze x) = Freezes x
action_layer (so.Share x g) = Shares x g
action_layer (so.PrintExpr a) = Prints (expression a)
action_layer (so.PrintText text) = PrintsText text
action_layer (so.Assert a) = Asserts (expression a)
action_layer (so.Return a) = Returns (expression a)

abbrev line_layer : so.Stmt-F Action Braced ShownLine → ShownLine
line_layer x = record { at = x.at; action = x.kind }

abbrev block_layer : so.Block-F Action Braced ShownLine → Braced
block_layer x = record { no = x.no; lines = lines_of x.stmts }

unfoldable pub action : StmtKind → Action
action = fold-StmtKind Action Braced ShownLine action_layer block_layer line_layer

unfoldable pub braced : Block → Braced
braced = fold-Block Action Braced ShownLine action_layer block_layer line_layer

-- the statements of a block
abbrev pub lines : Block → Lines
lines b = (braced b).lines

-- statements from a list of them
abbrev pub lines_from : List Stmt → Lines
lines_from [] = End
lines_from (x ∷ xs) = Next x.at (action x.kind) (lines_from xs)

pub action-Let : (ty : Ty) (x : NameAt) (a : Rhs) → action (s.Let ty x a) ≡ Declares ty x (right_side a)
unfolding action braced
action-Let ty x a = ap action (sym (s.rolls-Let ty x a))
    ∙ fold-roll-StmtKind Action Braced ShownLine action_layer block_layer line_layer (so.Let ty x a)

pub action-Assign : (x : NameAt) (a : Rhs) → action (s.Assign x a) ≡ Assigns x (right_side a)
unfolding action braced
action-Assign x a = ap action (sym (s.rolls-Assign x a))
    ∙ fold-roll-StmtKind Action Braced ShownLine action_layer block_layer line_layer (so.Assign x a)

pub action-Field : (p : Path) (a : Expr) → action (s.Field p a) ≡ Stores p (expression a)
unfolding action braced
action-Field p a = ap action (sym (s.rolls-Field p a))
    ∙ fold-roll-StmtKind Action Braced ShownLine action_layer block_layer line_layer (so.Field p a)

pub action-Index : (p : Path) (a b : Expr) → action (s.Index p a b) ≡ StoresAt p (expression a) (expression b)
unfolding action braced
action-Index p a b = ap action (sym (s.rolls-Index p a b))
    ∙ fold-roll-StmtKind Action Braced ShownLine action_layer block_layer line_layer (so.Index p a b)

pub action-Call : (c : Call) → action (s.Call c) ≡ Calls (invocation c)
unfolding action braced
action-Call c = ap action (sym (s.rolls-Call c)) ∙ fold-roll-StmtKind Action Braced ShownLine action_layer block_layer
    line_layer (so.Call c)

pub action-While : (a : Expr) (b : Block) → action (s.While a b) ≡ Repeats (expression a) (braced b).no (braced b).lines
unfolding action braced
action-While a b = ap action (sym (s.rolls-While a b))
    ∙ fold-roll-StmtKind Action Braced ShownLine action_layer block_layer line_layer (so.While a b)

pub action-Group : (g : NameAt) → action (s.Group g) ≡ Groups g
unfolding action braced
action-Group g = ap action (sym (s.rolls-Group g))
    ∙ fold-roll-StmtKind Action Braced ShownLine action_layer block_layer line_layer (so.Group g)

pub action-Split : (gs : List NameAt) (b : Block) → action (s.Split gs b) ≡ Splits gs (braced b).no (braced b).lines
unfolding action braced
action-Split gs b = ap action (sym (s.rolls-Split gs b))
    ∙ fold-roll-StmtKind Action Braced ShownLine action_layer block_layer line_layer (so.Split gs b)

pub action-Atomic : (g : NameAt) (b : Block) → action (s.Atomic g b) ≡ Locks g (braced b).no (braced b).lines
unfolding action braced
action-Atomic g b = ap action (sym (s.rolls-Atomic g b))
    ∙ fold-roll-StmtKind Action Braced ShownLine action_layer block_layer line_layer (so.Atomic g b)

pub action-Freeze : (x : NameAt) → action (s.Freeze x) ≡ Freezes x
unfolding action braced
action-Freeze x = ap action (sym (s.rolls-Freeze x))
    ∙ fold-roll-StmtKind Action Braced ShownLine action_layer block_layer line_layer (so.Freeze x)

pub action-Share : (x g : NameAt) → action (s.Share x g) ≡ Shares x g
unfolding action braced
action-Share x g = ap action (sym (s.rolls-Share x g))
    ∙ fold-roll-StmtKind Action Braced ShownLine action_layer block_layer line_layer (so.Share x g)

pub action-PrintExpr : (a : Expr) → action (s.PrintExpr a) ≡ Prints (expression a)
unfolding action braced
action-PrintExpr a = ap action (sym (s.rolls-PrintExpr a))
    ∙ fold-roll-StmtKind Action Braced ShownLine action_layer block_layer line_layer (so.PrintExpr a)

pub action-PrintText : (text : List ℕ) → action (s.PrintText text) ≡ PrintsText text
unfolding action braced
action-PrintText text = ap action (sym (s.rolls-PrintText text))
    ∙ fold-roll-StmtKind Action Braced ShownLine action_layer block_layer line_layer (so.PrintText text)

pub action-Assert : (a : Expr) → action (s.Assert a) ≡ Asserts (expression a)
unfolding action braced
action-Assert a = ap action (sym (s.rolls-Assert a))
    ∙ fold-roll-StmtKind Action Braced ShownLine action_layer block_layer line_layer (so.Assert a)

pub action-Return : (a : Expr) → action (s.Return a) ≡ Returns (expression a)
unfolding action braced
action-Return a = ap action (sym (s.rolls-Return a))
    ∙ fold-roll-StmtKind Action Braced ShownLine action_layer block_layer line_layer (so.Return a)

pub action-If : (a : Expr) (b : Block) → action (s.If a b None) ≡ Chooses (expression a) (braced b).no (braced b).lines
unfolding action braced
action-If a b = ap action (sym (s.rolls-If a b None))
    ∙ fold-roll-StmtKind Action Braced ShownLine action_layer block_layer line_layer (so.If a b None)

pub action-If_else : (a : Expr) (b c : Block) → action (s.If a b (Some c)) ≡ ChoosesElse (expression a) (braced b).no
    (braced b).lines (braced c).no (braced c).lines
unfolding action braced
action-If_else a b c = ap action (sym (s.rolls-If a b (Some c)))
    ∙ fold-roll-StmtKind Action Braced ShownLine action_layer block_layer line_layer (so.If a b (Some c))

abbrev pub line : Stmt → ShownLine
line x = record { at = x.at; action = action x.kind }

fold_line : (x : Stmt) → fold-Stmt Action Braced ShownLine action_layer block_layer line_layer x ≡ line x
unfolding action
fold_line x = fold-roll-Stmt Action Braced ShownLine action_layer block_layer line_layer
    (record { kind = x.kind; at = x.at })

lines_of_folds : (xs : List Stmt)
    → lines_of (map (fold-Stmt Action Braced ShownLine action_layer block_layer line_layer) xs) ≡ lines_from xs
unfolding action
lines_of_folds [] = refl
lines_of_folds (x ∷ xs) = ap (λ (l : ShownLine). Next l.at l.action
    (lines_of (map (fold-Stmt Action Braced ShownLine action_layer block_layer line_layer) xs))) (fold_line x)
    ∙ ap (λ l. Next x.at (action x.kind) l) (lines_of_folds xs)

pub lines-out : (b : Block) → (braced b).lines ≡ lines_from (out-Block b).stmts
unfolding action braced
lines-out b = ap (λ (x : Braced). x.lines)
    (fold_out-Block Action Braced ShownLine action_layer block_layer line_layer b)
    ∙ lines_of_folds (out-Block b).stmts

pub lines-roll : (x : so.Block-F StmtKind Block Stmt) → (braced (roll-Block x)).lines ≡ lines_from x.stmts
unfolding action braced
lines-roll x = ap (λ (y : Braced). y.lines)
    (fold-roll-Block Action Braced ShownLine action_layer block_layer line_layer x) ∙ lines_of_folds x.stmts

pub no-roll : (x : so.Block-F StmtKind Block Stmt) → (braced (roll-Block x)).no ≡ x.no
unfolding action braced
no-roll x = ap (λ (y : Braced). y.no) (fold-roll-Block Action Braced ShownLine action_layer block_layer line_layer x)

pub no-out : (b : Block) → (braced b).no ≡ (out-Block b).no
unfolding action braced
no-out b = ap (λ (y : Braced). y.no) (fold_out-Block Action Braced ShownLine action_layer block_layer line_layer b)

-- ---- methods and programs

abbrev pub definition : Method → Definition
definition m = record {
  class = m.class;
  result = m.result;
  name = m.name;
  groups = m.groups;
  me = m.me;
  params =
      m.params;
  needs = m.needs;
  no = (braced m.body).no;
  body = (braced m.body).lines;
}

abbrev pub code : Program → Code
code p = record { names = p.names; classes = p.classes; methods = map definition p.methods; decls = p.decls }

-- one equation for each form of the tree
pub ruleset shows = (
  expression-Int,
  expression-Bool,
  expression-Null,
  expression-Path,
  expression-Index,
  expression-Len,
  expression-Paren,
  expression-Not,
  expression-Neg,
  expression-Bin,
  action-Let,
  action-Assign,
  action-Field,
  action-Index,
  action-Call,
  action-While,
  action-Group,
  action-Split,
  action-Atomic,
  action-Freeze,
  action-Share,
  action-PrintExpr,
  action-PrintText,
  action-Assert,
  action-Return,
  action-If,
  action-If_else,
  lines-out,
  lines-roll,
  no-roll,
)
