-- What the goals of the layout are closed by: texts of lists, end to end.
use Rattle.std.proofs.Common.{arith, Result, Ok, Err, OnOk, ◌≡◌, ℕ, suc, false, Option, None, Some, ◌+◌, ◌<◌, ◌++◌}
use Rattle.std.proofs.Common.{List, [], ◌∷◌, length, drop, get_or, refl, ap, sym, ◌∙◌, append_assoc, append-nil}
use Rattle.std.proofs.Common.{add-one, drop-cons}
use Rattle.ae_layout.specs.Spelling.{Printed, printed_text, gap, token_text, tokens_text}
use Rattle.ae_layout.specs.Layout.{Spellings, near, open_brace, expression_tokens, first_line, Row, row_text}
use Rattle.ae_layout.specs.Layout.{rows_text, indented_more, close_row, else_row, block_rows, rows, row}
use Rattle.ae_layout.specs.Layout.{program_rows, layout}
use Rattle.ae_tree.specs.declared.tree.Stmt.{Stmt}
use Rattle.ae_tree.specs.Plain.{Code}
use Rattle.std.proofs.lemmas.Option.{slice_get-map}
use Rattle.ae_text.specs.Tokens.{Text}
use Rattle.ae_text.specs.declared.token.Keyword.TheVariants as word
use Rattle.ae_text.specs.declared.token.TokenKind.TheVariants as t
use Rattle.ae_tree.specs.declared.tree.Expr.{Expr}
use Rattle.ae_tree.specs.declared.tree.Block.{Block}
use Rattle.ae_tree.specs.declared.tree.StmtKind.{StmtKind}
use Rattle.ae_tree.specs.declared.tree.StmtKind.TheVariants as s
use Rattle.ae_tree.specs.Shown.{expression, action, braced, expression-Int, expression-Bool, expression-Null}
use Rattle.ae_tree.specs.Shown.{expression-Path, expression-Index, expression-Len, expression-Paren, expression-Not}
use Rattle.ae_tree.specs.Shown.{expression-Neg, expression-Bin, action-Let, action-Assign, action-Field}
use Rattle.ae_tree.specs.Shown.{action-Index, action-Call, action-While, action-Group, action-Split, action-Atomic}
use Rattle.ae_tree.specs.Shown.{action-Freeze, action-Share, action-PrintExpr, action-PrintText, action-Assert}
use Rattle.ae_tree.specs.Shown.{action-Return, action-If, action-If_else, lines-out, lines_from}
use Rattle.std.proofs.lemmas.Int.{to_z-of_z}

pub printed-is : (x : Printed) → printed_text x ≡ gap x.close ++ token_text x.kind
unfolding printed_text
printed-is x = refl

pub tokens_text-append : (xs ys : List Printed) → tokens_text (xs ++ ys) ≡ tokens_text xs ++ tokens_text ys
tokens_text-append [] ys = refl
tokens_text-append (x ∷ xs) ys = ap (λ s. printed_text x ++ s) (tokens_text-append xs ys)
    ∙ sym (append_assoc (printed_text x) (tokens_text xs) (tokens_text ys))

pub rows_text-append : (xs ys : List Row) → rows_text (xs ++ ys) ≡ rows_text xs ++ rows_text ys
rows_text-append [] ys = refl
rows_text-append (x ∷ xs) ys = ap (λ s. row_text x ++ s) (rows_text-append xs ys)
    ∙ sym (append_assoc (row_text x) (rows_text xs) (rows_text ys))

-- the front of what is left of a list
pub drop_one : {A : Type 0} (xs : List A) (i : ℕ) (x : A) → i < length xs → x ≡ get_or xs i x
    → drop i xs ≡ x ∷ drop (i + 1) xs
drop_one xs i x h e = rw add-one (drop-cons xs i x h ∙ ap (λ y. y ∷ drop (suc i) xs) (sym e))

pub ruleset spells = (printed-is, append_assoc, to_z-of_z)

pub ruleset texts = (append_assoc, append-nil, tokens_text-append)

-- with the equations of expressions
pub ruleset expressions = (
  texts,
  expression-Int,
  expression-Bool,
  expression-Null,
  expression-Path,
  expression-Index,
  expression-Len,
  expression-Paren,
  expression-Not,
  expression-Neg,
  expression-Bin,
  to_z-of_z,
)

pub ruleset forms = (
  action-Let,
  action-Assign,
  action-Field,
  action-Index,
  action-Call,
  action-While,
  action-Group,
  action-Split,
  action-Atomic,
  action-Freeze,
  action-Share,
  action-PrintExpr,
  action-PrintText,
  action-Assert,
  action-Return,
)

-- a choice begins with its condition, with or without another branch
pub first_line-If : (names : Spellings) (a : Expr) (b : Block) (c : Option Block)
    → first_line names (action (s.If a b c)) ≡ near (t.Word word.If) ∷ expression_tokens names false (expression a)
    ++ open_brace
first_line-If names a b None = ap (first_line names) (action-If a b)
first_line-If names a b (Some c) = ap (first_line names) (action-If_else a b c)

pub block_rows-If : (names : Spellings) (indent : Text) (a : Expr) (b : Block) (c : Option Block) → c ≡ None
    → block_rows names indent (action (s.If a b c)) ≡ rows names (indented_more indent) (braced b).lines
    ++ close_row indent ∷ []
block_rows-If names indent a b None e = ap (block_rows names indent) (action-If a b)
block_rows-If names indent a b (Some c) e = cc

pub block_rows-If_else : (names : Spellings) (indent : Text) (a : Expr) (b : Block) (c : Option Block) (d : Block)
    → c ≡ Some d → block_rows names indent (action (s.If a b c)) ≡ rows names (indented_more indent) (braced b).lines
    ++ else_row indent ∷ rows names (indented_more indent) (braced d).lines ++ close_row indent ∷ []
block_rows-If_else names indent a b None d e = cc
block_rows-If_else names indent a b (Some c) d e =
    let same : c ≡ d = cc in
    ap (block_rows names indent) (action-If_else a b c)
    ∙ ap (λ (x : Block). rows names (indented_more indent) (braced b).lines ++ else_row indent
    ∷ rows names (indented_more indent) (braced x).lines ++ close_row indent ∷ []) same

-- with the equations of statements
pub ruleset statements = (texts, forms, first_line-If)

-- with the lines of blocks
pub ruleset blocks = (append_assoc, append-nil, rows_text-append, lines-out, forms, block_rows-If, block_rows-If_else)

pub layout-is : (p : Code) → layout p ≡ rows_text (program_rows p)
unfolding layout
layout-is p = refl

-- with the numbers of methods
pub ruleset decls = (append_assoc, append-nil, rows_text-append, slice_get-map, layout-is)

-- one more statement of a block is written
pub rows_step : (names : Spellings) (before_first before_rest indent : Text) (xs : List Stmt) (i : ℕ) (x : Stmt)
    (whole o1 o2 o3 : Text) → before_first ≡ indent → before_rest ≡ indent → i < length xs → x ≡ get_or xs i x
    → whole ≡ o1 ++ rows_text (rows names indent (lines_from (drop i xs)))
    → o2 ≡ o1 ++ row_text (row before_first (first_line names (action x.kind)))
    → o3 ≡ o2 ++ rows_text (block_rows names before_rest (action x.kind))
    → whole ≡ o3 ++ rows_text (rows names indent (lines_from (drop (i + 1) xs)))
rows_step names before_first before_rest indent xs i x whole o1 o2 o3 e1 e2 lt is h p q =
    let e : drop i xs ≡ x ∷ drop (i + 1) xs = drop_one xs i x lt is in
    let h1 = rw e at h in
    grind (arith, append_assoc, rows_text-append, h1, p, q, e1, e2)

-- both branches of a choice are written
pub else_written : (names : Spellings) (indent : Text) (k : StmtKind) (a : Expr) (b : Block) (c : Option Block)
    (d : Block) (o0 o1 o2 o3 o4 : Text) → k ≡ s.If a b c → c ≡ Some d
    → o1 ≡ o0 ++ rows_text (rows names (indented_more indent) (braced b).lines)
    → o2 ≡ o1 ++ row_text (else_row indent)
    → o3 ≡ o2 ++ rows_text (rows names (indented_more indent) (braced d).lines)
    → o4 ≡ o3 ++ row_text (close_row indent) → o4 ≡ o0 ++ rows_text (block_rows names indent (action k))
else_written names indent k a b c d o0 o1 o2 o3 o4 is other p q r h =
    let e : block_rows names indent (action k) ≡ rows names (indented_more indent) (braced b).lines ++ else_row indent
    ∷ rows names (indented_more indent) (braced d).lines ++ close_row indent
    ∷ [] = ap (λ (x : StmtKind). block_rows names indent (action x)) is
    ∙ block_rows-If_else names indent a b c d other in
    rw e (grind (arith, append_assoc, append-nil, rows_text-append, p, q, r, h))

pub on_ok : {A E P Q : Type 0} (r : Result A E) → (P → Q) → OnOk r P → OnOk r Q
on_ok (Ok x) f h = f h
on_ok (Err e) f h = tt
