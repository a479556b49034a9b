-- Expressions, from left to right: which are integers, which are booleans, and which premise fails first.
use Rattle.std.specs.Prelude.{not, Option, None, Some, ⊤}
use Rattle.ae_text.specs.declared.refusal.Spot.{Spot}
use Rattle.ae_text.specs.declared.refusal.Rule.TheVariants as rule
use Rattle.ae_tree.specs.declared.tree.Path.{Path}
use Rattle.ae_tree.specs.declared.tree.Op.{Op}
use Rattle.ae_tree.specs.declared.tree.Op.TheVariants as op
use Rattle.ae_tree.specs.declared.form.Form.{Form}
use Rattle.ae_tree.specs.declared.form.Form.TheVariants as f
use Rattle.ae_tree.specs.Plain.{Expression, Number, Truth, Nothing, Read, Item, Length, Grouped, Negated, Minus}
use Rattle.ae_tree.specs.Plain.{Binary, Code}
use Rattle.ae_rules.specs.Verdict.{Verdict, Holds, Broken, ◌>>=◌, ◌>>◌, require}
use Rattle.ae_rules.specs.Forms.{same_value, is_object, is_ints}
use Rattle.ae_rules.specs.Context.{Context, held_in, access, holds_nothing}
use Rattle.ae_rules.specs.Walks.{walk}

-- the place of an expression's first token
abbrev pub expression_spot : Expression → Spot
expression_spot (Number n at) = at
expression_spot (Truth b at) = at
expression_spot (Nothing at) = at
expression_spot (Read p) = p.root.at
expression_spot (Item p e) = p.root.at
expression_spot (Length p at) = at
expression_spot (Grouped e at) = at
expression_spot (Negated e at) = at
expression_spot (Minus e at) = at
expression_spot (Binary o a b) = expression_spot a

-- what an operator asks of its operands
pub data Operands : Type 0 where
  Numbers : Operands
  Truths : Operands
  Equals : Operands

abbrev pub operands : Op → Operands
operands op.Or = Truths
operands op.And = Truths
operands op.Eq = Equals
operands op.Ne = Equals
operands op.Lt = Numbers
operands op.Le = Numbers
operands op.Gt = Numbers
operands op.Ge = Numbers
operands op.Add = Numbers
operands op.Sub = Numbers
operands op.Mul = Numbers
operands op.Div = Numbers
operands op.Rem = Numbers

abbrev pub result_form : Op → Form
result_form op.Or = f.Bool
result_form op.And = f.Bool
result_form op.Eq = f.Bool
result_form op.Ne = f.Bool
result_form op.Lt = f.Bool
result_form op.Le = f.Bool
result_form op.Gt = f.Bool
result_form op.Ge = f.Bool
result_form op.Add = f.Int
result_form op.Sub = f.Int
result_form op.Mul = f.Int
result_form op.Div = f.Int
result_form op.Rem = f.Int

-- what was judged has this form, or else the fault stands at its place
abbrev pub has_form : Form → Verdict Form → Spot → Verdict ⊤
has_form wanted judged at = judged >>= λ form. require (same_value wanted form) rule.TypeMismatch at

-- a path beside `null`, and the place of the `null`
pub record Compared : Type 0 where
  pub path : Path
  pub null_at : Spot

abbrev pub path_beside_null : Expression → Spot → Option Compared
path_beside_null (Read path) at = Some (record { path = path; null_at = at })
path_beside_null _ at = None

-- an operand pair of `null` and a path, in either order
abbrev pub beside_null : Expression → Expression → Option Compared
beside_null (Nothing at) b = path_beside_null b at
beside_null (Read path) (Nothing at) = Some (record { path = path; null_at = at })
beside_null _ _ = None

-- The path is walked and leads to an object, and something is held of its root. The object itself is not reached.
abbrev pub null_and_path : Code → Context → Compared → Verdict ⊤
null_and_path p c pair =
    walk p c pair.path >>= λ w.
    require (is_object w.form) rule.TypeMismatch pair.null_at >>
    require (not (holds_nothing (held_in c pair.path.root.name))) rule.NoPermission pair.path.root.at

-- two integers or two booleans, where the operands are judged so
abbrev pub two_alike : Verdict Form → Verdict Form → Spot → Verdict ⊤
two_alike left right right_at = left >>= λ form. has_form form right right_at

abbrev pub equal_operands : Code → Context → Option Compared → Verdict Form → Verdict Form → Spot → Verdict ⊤
equal_operands p c None left right right_at = two_alike left right right_at
equal_operands p c (Some pair) left right right_at = null_and_path p c pair

abbrev pub both_have : Form → Verdict Form → Spot → Verdict Form → Spot → Verdict ⊤
both_have wanted left left_at right right_at = has_form wanted left left_at >> has_form wanted right right_at

-- the operands of an operator, which are judged so, the left one first
abbrev pub judge_operands : Code → Context → Operands → Expression → Expression → Verdict Form → Verdict Form
    → Verdict ⊤
judge_operands p c Numbers a b left right = both_have f.Int left (expression_spot a) right (expression_spot b)
judge_operands p c Truths a b left right = both_have f.Bool left (expression_spot a) right (expression_spot b)
judge_operands p c Equals a b left right = equal_operands p c (beside_null a b) left right (expression_spot b)

-- An expression that is an integer or a boolean. `null` and a path to an object are of a wrong form here.
abbrev pub judge_value : Code → Context → Expression → Verdict Form
judge_value p c (Number n at) = Holds f.Int
judge_value p c (Truth b at) = Holds f.Bool
judge_value p c (Nothing at) = Broken rule.TypeMismatch at
judge_value p c (Read path) =
    walk p c path >>= λ w.
    require (not (is_object w.form)) rule.TypeMismatch path.root.at >>
    Holds w.form
judge_value p c (Item path e) =
    walk p c path >>= λ w.
    require (is_ints w.form) rule.TypeMismatch path.root.at >>
    access c path.root.at w.held >>
    has_form f.Int (judge_value p c e) (expression_spot e) >>
    Holds f.Int
judge_value p c (Length path at) =
    walk p c path >>= λ w.
    require (is_ints w.form) rule.TypeMismatch path.root.at >>
    access c path.root.at w.held >>
    Holds f.Int
judge_value p c (Grouped e at) = judge_value p c e
judge_value p c (Negated e at) = has_form f.Bool (judge_value p c e) (expression_spot e) >> Holds f.Bool
judge_value p c (Minus e at) = has_form f.Int (judge_value p c e) (expression_spot e) >> Holds f.Int
judge_value p c (Binary o a b) =
    judge_operands p c (operands o) a b (judge_value p c a) (judge_value p c b) >> Holds (result_form o)

-- the expression has this form, int or bool
abbrev pub is_value : Code → Context → Form → Expression → Verdict ⊤
is_value p c wanted e = has_form wanted (judge_value p c e) (expression_spot e)
