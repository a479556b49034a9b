-- Values, and what an expression comes to.
use Rattle.std.specs.Prelude.{ℕ, ◌^◌, ℤ, pos, negsuc, ◌+ℤ◌, ◌-ℤ◌, ◌*ℤ◌, neg_ℤ, int_div, int_rem, nat_lt, nat_eq}
use Rattle.std.specs.Prelude.{if◌then◌else◌, List, [], ◌∷◌, Option, None, Some}
use Rattle.ae_tree.specs.declared.tree.Op.{Op}
use Rattle.ae_tree.specs.declared.tree.Op.TheVariants as op
use Rattle.ae_tree.specs.declared.tree.NameAt.{NameAt}
use Rattle.ae_tree.specs.Plain.{Expression, Number, Truth, Nothing, Read, Item, Length, Grouped, Negated, Minus, Binary}

-- the value of each name that has one
abbrev pub Env : Type 0
Env = ℕ → Option ℤ

abbrev pub empty : Env
empty x = None

abbrev pub today_with : ℕ → ℤ → Env → Env
today_with x v env y = if nat_eq x y then Some v else env y

-- an expression has a value, or it traps, or a name in it has no value
pub data TodayOutcome : Type 0 where
  Fine : ℤ → TodayOutcome
  Traps : ℕ → TodayOutcome
  Lacks : TodayOutcome

abbrev pub then_value : TodayOutcome → (ℤ → TodayOutcome) → TodayOutcome
then_value (Fine v) go = go v
then_value (Traps code) go = Traps code
then_value Lacks go = Lacks

abbrev pub today_found : Option ℤ → TodayOutcome
today_found None = Lacks
today_found (Some v) = Fine v

-- a number of 64 bits with a sign, and otherwise trap 1
abbrev pub today_fitted : ℤ → TodayOutcome
today_fitted (pos n) = if nat_lt n (2 ^ 63) then Fine (pos n) else Traps 1
today_fitted (negsuc n) = if nat_lt n (2 ^ 63) then Fine (negsuc n) else Traps 1

-- a zero divisor is trap 2
abbrev pub today_unless_zero : ℤ → TodayOutcome → TodayOutcome
today_unless_zero (pos n) o = if nat_eq n 0 then Traps 2 else o
today_unless_zero (negsuc n) o = o

-- a quotient is cut towards zero, and a remainder has the dividend's sign; order and truth come later
abbrev pub today_applied : Op → ℤ → ℤ → TodayOutcome
today_applied op.Or a b = Lacks
today_applied op.And a b = Lacks
today_applied op.Eq a b = Lacks
today_applied op.Ne a b = Lacks
today_applied op.Lt a b = Lacks
today_applied op.Le a b = Lacks
today_applied op.Gt a b = Lacks
today_applied op.Ge a b = Lacks
today_applied op.Add a b = today_fitted (a +ℤ b)
today_applied op.Sub a b = today_fitted (a -ℤ b)
today_applied op.Mul a b = today_fitted (a *ℤ b)
today_applied op.Div a b = today_unless_zero b (today_fitted (int_div a b))
today_applied op.Rem a b = today_unless_zero b (Fine (int_rem a b))

-- fields are not read yet
abbrev pub stepped : List NameAt → TodayOutcome → TodayOutcome
stepped [] o = o
stepped (step ∷ steps) o = Lacks

-- operands are evaluated from left to right
abbrev pub today_value : Expression → Env → TodayOutcome
today_value (Number n at) env = Fine n
today_value (Truth b at) env = Lacks
today_value (Nothing at) env = Lacks
today_value (Read p) env = stepped p.steps (today_found (env p.root.name))
today_value (Item p e) env = Lacks
today_value (Length p at) env = Lacks
today_value (Grouped e at) env = today_value e env
today_value (Negated e at) env = Lacks
today_value (Minus e at) env = then_value (today_value e env) (λ x. today_fitted (neg_ℤ x))
today_value (Binary op a b) env = then_value (today_value a env)
    (λ x. then_value (today_value b env) (λ y. today_applied op x y))
