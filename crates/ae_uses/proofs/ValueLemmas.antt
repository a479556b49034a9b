-- What expressions use, part by part.
use Rattle.std.proofs.Common.{◌≡◌, sym, ap, ◌∙◌, subst}
use Rattle.ae_text.specs.declared.refusal.Spot.{Spot}
use Rattle.ae_tree.specs.declared.tree.Path.{Path}
use Rattle.ae_tree.specs.declared.tree.Op.{Op}
use Rattle.ae_tree.specs.declared.tree.Expr.{Expr}
use Rattle.ae_tree.specs.declared.tree.Expr.TheVariants as e
use Rattle.ae_tree.specs.Plain.{Expression, Code}
use Rattle.ae_tree.specs.Shown.{expression, expression-Index, expression-Len, expression-Bin}
use Rattle.ae_rules.specs.Context.{Context}
use Rattle.ae_rules.specs.Uses.{value_uses, read_use, end_uses, ◌∪◌}
use Rattle.ae_uses.specs.declared.used.Used.{Used}
use Rattle.ae_uses.specs.Used.{Adds}
use Rattle.ae_uses.proofs.UsedLemmas.{adds_nothing_more, adds_one_then_other}

shown_adds : (p : Code) (c : Context) (u v : Used) (x : Expr) (y : Expression) → expression x ≡ y
    → Adds u (value_uses p c y) v → Adds u (value_uses p c (expression x)) v
shown_adds p c u v x y e h = subst (λ (z : Expression). Adds u (value_uses p c z) v) (sym e) h

-- an item: its path is read, the array is reached, and the index is used
pub item_adds_three : (p : Code) (c : Context) (u v w z : Used) (x : Expr) (path : Path) (i : Expr) → x ≡ e.Index path i
    → Adds u (read_use path.root.name) v → Adds v (end_uses p c path) w → Adds w (value_uses p c (expression i)) z
    → Adds u (value_uses p c (expression x)) z
item_adds_three p c u v w z x path i k f g h = shown_adds p c u z x _ (ap expression k ∙ expression-Index path i)
    (adds_one_then_other u v z (read_use path.root.name) (end_uses p c path ∪ value_uses p c (expression i)) f
    (adds_one_then_other v w z (end_uses p c path) (value_uses p c (expression i)) g h))

-- a length: its path is read, and the array is reached
pub length_adds_two : (p : Code) (c : Context) (u v w : Used) (x : Expr) (path : Path) (at : Spot) → x ≡ e.Len path at
    → Adds u (read_use path.root.name) v → Adds v (end_uses p c path) w → Adds u (value_uses p c (expression x)) w
length_adds_two p c u v w x path at k f g = shown_adds p c u w x _ (ap expression k ∙ expression-Len path at)
    (adds_one_then_other u v w (read_use path.root.name) (end_uses p c path) f g)

-- an operator: both operands are used
pub operator_adds_two : (p : Code) (c : Context) (u v w : Used) (x : Expr) (op : Op) (a b : Expr) → x ≡ e.Bin op a b
    → Adds u (value_uses p c (expression a)) v → Adds v (value_uses p c (expression b)) w
    → Adds u (value_uses p c (expression x)) w
operator_adds_two p c u v w x op a b k f g = shown_adds p c u w x _ (ap expression k ∙ expression-Bin op a b)
    (adds_one_then_other u v w (value_uses p c (expression a)) (value_uses p c (expression b)) f g)

pub ruleset values = (adds_nothing_more, item_adds_three, length_adds_two, operator_adds_two)
