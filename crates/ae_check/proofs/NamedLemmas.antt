-- The statements in a statement have names of the program where it has.
use Rattle.std.proofs.Common.{◌≡◌, ◌<◌, ◌+◌, ℕ, List, ◌∷◌, drop, get_or, length, Option, Some}
use Rattle.std.proofs.Common.{sym, ap, subst, ◌∙◌}
use Rattle.std.proofs.lemmas.List.{drop_more}
use Rattle.ae_tree.specs.declared.tree.Expr.{Expr}
use Rattle.ae_tree.specs.declared.tree.Block.{Block}
use Rattle.ae_tree.specs.declared.tree.Stmt.{Stmt}
use Rattle.ae_tree.specs.declared.tree.StmtKind.{StmtKind}
use Rattle.ae_tree.specs.declared.tree.StmtKind.TheVariants as stmt
use Rattle.ae_tree.specs.Shown.{shows, action, action-If, action-If_else, action-While, action-Split, action-Atomic}
use Rattle.ae_tree.specs.Shown.{braced, lines_from}
use Rattle.ae_check.specs.Ready.{StatementNamed, LinesNamed}
use Rattle.ae_check.proofs.from_scope.GrowLemmas.{grows_same}
use Rattle.ae_check.proofs.from_scope.ReplayLemmas.{grows_then}

-- the lines from here on are this one and the rest
named_from_here : (n : ℕ) (xs : List Stmt) (i : ℕ) (x : Stmt) → i < length xs → x ≡ get_or xs i x
    → LinesNamed n (lines_from (drop i xs)) → LinesNamed n (lines_from (x ∷ drop (i + 1) xs))
named_from_here n xs i x l e f =
    subst (λ (ys : List Stmt). LinesNamed n (lines_from ys)) (drop_more xs i x l
    ∙ ap (λ (y : Stmt). y ∷ drop (i + 1) xs) (sym e)) f

-- this line is named where all from here on are
pub this_line_named : (n : ℕ) (xs : List Stmt) (i : ℕ) (x : Stmt) → i < length xs → x ≡ get_or xs i x
    → LinesNamed n (lines_from (drop i xs)) → StatementNamed n (action x.kind)
this_line_named n xs i x l e f = let g = named_from_here n xs i x l e f in (g.0, g.1)

-- and so are the lines after it
pub next_lines_named : (n : ℕ) (xs : List Stmt) (i : ℕ) (x : Stmt) → i < length xs → x ≡ get_or xs i x
    → LinesNamed n (lines_from (drop i xs)) → LinesNamed n (lines_from (drop (i + 1) xs))
next_lines_named n xs i x l e f = let g = named_from_here n xs i x l e f in g.2

-- both blocks of a choice are named
pub both_blocks_named : (n : ℕ) (kind : StmtKind) (e : Expr) (then other : Block) (o : Option Block)
    → kind ≡ stmt.If e then o → o ≡ Some other → StatementNamed n (action kind)
    → LinesNamed n (braced then).lines × LinesNamed n (braced other).lines
both_blocks_named n kind e then other o k l f =
    let g = subst (StatementNamed n) (ap action (k ∙ ap (λ (x : Option Block). stmt.If e then x) l)
    ∙ action-If_else e then other) f in g.1

pub ruleset lines = (grows_same, grows_then, this_line_named)

pub ruleset statements = (shows, grows_same, grows_then)
