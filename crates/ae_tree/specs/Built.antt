-- The forms that run by their graph: an accepted program of these alone runs in an order that its graph allows.
use Rattle.std.specs.Prelude.{◌≡◌, ◌≢◌, ◌≤◌, [], ◌∷◌, None}
use Rattle.ae_text.specs.declared.refusal.Spot.{Spot}
use Rattle.ae_tree.specs.declared.tree.Ty.{Ty}
use Rattle.ae_tree.specs.declared.tree.Ty.TheVariants as ty
use Rattle.ae_tree.specs.declared.tree.Need.TheVariants as need_of
use Rattle.ae_tree.specs.Plain.{Expression, Number, Truth, Nothing, Read, Item, Length, Grouped, Negated, Minus}
use Rattle.ae_tree.specs.Plain.{Binary, RightSide, Value, Taken, Zeros, Made, Returned, Lines, End, Next, Definition}
use Rattle.ae_tree.specs.Plain.{Code}
use Rattle.ae_tree.specs.Plain.{Action, Declares, Assigns, Prints}
use Rattle.ae_tree.specs.Names.{io, main, this}
use Rattle.ae_tree.specs.Grammar.{level}

-- integers, names, parentheses, prefix minus, and the operators of sums and products
abbrev pub IsBuiltExpression : Expression → Type 0
IsBuiltExpression (Number n at) = Unit {0}
IsBuiltExpression (Truth b at) = ⊥
IsBuiltExpression (Nothing at) = ⊥
IsBuiltExpression (Read p) = (p.steps ≡ []) × (p.root.name ≢ this)
IsBuiltExpression (Item p e) = ⊥
IsBuiltExpression (Length p at) = ⊥
IsBuiltExpression (Grouped e at) = IsBuiltExpression e
IsBuiltExpression (Negated e at) = ⊥
IsBuiltExpression (Minus e at) = IsBuiltExpression e
IsBuiltExpression (Binary op a b) = (3 ≤ level op) × IsBuiltExpression a × IsBuiltExpression b

abbrev pub IsBuiltRight : RightSide → Type 0
IsBuiltRight (Value e) = IsBuiltExpression e
IsBuiltRight (Taken p at) = ⊥
IsBuiltRight (Zeros e at) = ⊥
IsBuiltRight (Made c groups args at) = ⊥
IsBuiltRight (Returned c) = ⊥

abbrev pub IsBuiltType : Ty → Type 0
IsBuiltType (ty.Int at) = Unit {0}
IsBuiltType _ = ⊥

-- `let` of an integer, assignment and print of an expression
abbrev pub IsBuiltAction : Action → Type 0
IsBuiltAction (Declares t x e) = IsBuiltType t × IsBuiltRight e
IsBuiltAction (Assigns x e) = IsBuiltRight e
IsBuiltAction (Prints e) = IsBuiltExpression e
IsBuiltAction _ = ⊥

abbrev pub AreBuilt : Lines → Type 0
AreBuilt End = Unit {0}
AreBuilt (Next at a rest) = IsBuiltAction a × AreBuilt rest

-- a method at the top named main, without a result, groups and parameters, with the one need exclusive io
pub record IsMain (m : Definition) : Type 0 where
  pub class : m.class ≡ None
  pub result : m.result ≡ None
  pub is_named : m.name.name ≡ main
  pub groups : m.groups ≡ []
  pub me : m.me ≡ None
  pub params : m.params ≡ []
  pub at : Spot
  pub needs : m.needs ≡ record { need = need_of.Exclusive; group = record { name = io; at = at } } ∷ []
  pub no : m.no ≡ 0

-- one method, `main`, all of whose statements run today
pub record Built (p : Code) : Type 0 where
  pub method : Definition
  pub classes : p.classes ≡ []
  pub methods : p.methods ≡ method ∷ []
  pub is_main : IsMain method
  pub body : AreBuilt method.body
