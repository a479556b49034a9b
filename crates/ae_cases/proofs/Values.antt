-- An expression that runs today comes to the same by both meanings.
use Rattle.std.proofs.Common.{◌≡◌, ◌≤◌, ◌^◌, ℕ, ℤ, pos, negsuc, Bool, true, false, if◌then◌else◌, nat_eq, nat_lt}
use Rattle.std.proofs.Common.{List, [], Option, None, Some, refl, ap, ◌∙◌, arith}
use Rattle.std.specs.Prelude.{⊤, option_map, ◌+ℤ◌, ◌-ℤ◌, ◌*ℤ◌, neg_ℤ, int_div, int_rem}
use Rattle.ae_tree.specs.declared.tree.NameAt.{NameAt}
use Rattle.ae_tree.specs.declared.tree.Op.{Op}
use Rattle.ae_tree.specs.declared.tree.Op.TheVariants as op
use Rattle.ae_tree.specs.declared.form.Form.TheVariants as form_of
use Rattle.ae_tree.specs.Plain.{Code, Expression, Number, Truth, Nothing, Read, Item, Length, Grouped, Negated}
use Rattle.ae_tree.specs.Plain.{Minus, Binary}
use Rattle.ae_tree.specs.Grammar.{level}
use Rattle.ae_tree.specs.Built.{IsBuiltExpression}
use Rattle.ae_meaning.specs.Values as today
use Rattle.ae_semantics.specs.Values.{Val, OfInt}
use Rattle.ae_semantics.specs.Places.{Outcome, Fine, Traps, Lacks, ◌>>=◌, there, Bound, State, local_place, steps}
use Rattle.ae_semantics.specs.Expressions.{number, fitted, unless_zero, applied, both, value}

-- a value of today, as a local of the whole language
abbrev pub held : ℤ → Bound
held v = record { form = form_of.Int; value = OfInt v }

-- an outcome of today, as one of the whole language
abbrev pub outcome : today.TodayOutcome → Outcome Val
outcome (today.Fine v) = Fine (OfInt v)
outcome (today.Traps code) = Traps code
outcome today.Lacks = Lacks

-- each local has the value that it has today
abbrev pub SameLocals : today.Env → State → Type 0
SameLocals env s = (x : ℕ) → s.locals x ≡ option_map held (env x)

-- ---- numbers

fitted_choice : (b : Bool) (v : ℤ) → (if b then Fine (OfInt v) else Traps 1)
    ≡ outcome (if b then today.Fine v else today.Traps 1)
fitted_choice true v = refl
fitted_choice false v = refl

same_fitted : (z : ℤ) → fitted z ≡ outcome (today.today_fitted z)
same_fitted (pos n) = fitted_choice (nat_lt n (2 ^ 63)) (pos n)
same_fitted (negsuc n) = fitted_choice (nat_lt n (2 ^ 63)) (negsuc n)

zero_choice : (b : Bool) (o : today.TodayOutcome) → (if b then Traps 2 else outcome o)
    ≡ outcome (if b then today.Traps 2 else o)
zero_choice true o = refl
zero_choice false o = refl

same_unless : (z : ℤ) (o : today.TodayOutcome) → unless_zero z (outcome o) ≡ outcome (today.today_unless_zero z o)
same_unless (pos n) o = zero_choice (nat_eq n 0) o
same_unless (negsuc n) o = refl

same_applied : (o : Op) → 3 ≤ level o → (x y : ℤ) → applied o (OfInt x) (OfInt y) ≡ outcome (today.today_applied o x y)
same_applied op.Or h x y = absurd (omega arith)
same_applied op.And h x y = absurd (omega arith)
same_applied op.Eq h x y = absurd (omega arith)
same_applied op.Ne h x y = absurd (omega arith)
same_applied op.Lt h x y = absurd (omega arith)
same_applied op.Le h x y = absurd (omega arith)
same_applied op.Gt h x y = absurd (omega arith)
same_applied op.Ge h x y = absurd (omega arith)
same_applied op.Add h x y = same_fitted (x +ℤ y)
same_applied op.Sub h x y = same_fitted (x -ℤ y)
same_applied op.Mul h x y = same_fitted (x *ℤ y)
same_applied op.Div h x y = ap (unless_zero y) (same_fitted (int_div x y))
    ∙ same_unless y (today.today_fitted (int_div x y))
same_applied op.Rem h x y = same_unless y (today.Fine (int_rem x y))

-- an operator of sums and products takes both its operands
both_taken : (o : Op) → 3 ≤ level o → (v : Val) (rest : ⊤ → Outcome Val) → both o v rest ≡ (rest tt >>= applied o v)
both_taken op.Or h v rest = absurd (omega arith)
both_taken op.And h v rest = absurd (omega arith)
both_taken op.Eq h v rest = refl
both_taken op.Ne h v rest = refl
both_taken op.Lt h v rest = refl
both_taken op.Le h v rest = refl
both_taken op.Gt h v rest = refl
both_taken op.Ge h v rest = refl
both_taken op.Add h v rest = refl
both_taken op.Sub h v rest = refl
both_taken op.Mul h v rest = refl
both_taken op.Div h v rest = refl
both_taken op.Rem h v rest = refl

same_second : (o : Op) → 3 ≤ level o → (x : ℤ) (b : today.TodayOutcome) → (outcome b >>= applied o (OfInt x))
    ≡ outcome (today.then_value b (λ y. today.today_applied o x y))
same_second o h x (today.Fine y) = same_applied o h x y
same_second o h x (today.Traps code) = refl
same_second o h x today.Lacks = refl

same_both : (o : Op) → 3 ≤ level o → (a b : today.TodayOutcome)
    → (outcome a >>= λ v. both o v (λ _. outcome b))
    ≡ outcome (today.then_value a (λ x. today.then_value b (λ y. today.today_applied o x y)))
same_both o h (today.Fine x) b = both_taken o h (OfInt x) (λ _. outcome b) ∙ same_second o h x b
same_both o h (today.Traps code) b = refl
same_both o h today.Lacks b = refl

same_minus : (a : today.TodayOutcome) → (outcome a >>= λ v. number v >>= λ n. fitted (neg_ℤ n))
    ≡ outcome (today.then_value a (λ x. today.today_fitted (neg_ℤ x)))
same_minus (today.Fine x) = same_fitted (neg_ℤ x)
same_minus (today.Traps code) = refl
same_minus today.Lacks = refl

-- ---- names

abbrev name_read : Code → State → ℕ → List NameAt → Option Bound → Outcome Val
name_read p s x xs o = (there o >>= λ b. steps p s xs (local_place x b)) >>= λ y. Fine y.value

same_found : (p : Code) (s : State) (x : ℕ) (o : Option ℤ) → name_read p s x [] (option_map held o)
    ≡ outcome (today.today_found o)
same_found p s x None = refl
same_found p s x (Some v) = refl

same_name : (p : Code) (s : State) (x : ℕ) (xs : List NameAt) → xs ≡ [] → (b : Option Bound) (o : Option ℤ)
    → b ≡ option_map held o
    → name_read p s x xs b ≡ outcome (today.stepped xs (today.today_found o))
same_name p s x xs e b o d = rw (e, d) (same_found p s x o)

-- ---- expressions

pub same_value : (p : Code) (env : today.Env) (s : State) → SameLocals env s → (e : Expression) → IsBuiltExpression e
    → value p s e ≡ outcome (today.today_value e env)
same_value p env s l (Number n at) b = refl
same_value p env s l (Truth t at) b = absurd b
same_value p env s l (Nothing at) b = absurd b
same_value p env s l (Read path) b = same_name p s path.root.name path.steps b.0 (s.locals path.root.name)
    (env path.root.name) (l path.root.name)
same_value p env s l (Item path e) b = absurd b
same_value p env s l (Length path at) b = absurd b
same_value p env s l (Grouped e at) b = same_value p env s l e b
same_value p env s l (Negated e at) b = absurd b
same_value p env s l (Minus e at) b = rw (same_value p env s l e b) (same_minus (today.today_value e env))
same_value p env s l (Binary o x y) b = rw (same_value p env s l x b.1, same_value p env s l y b.2)
    (same_both o b.0 (today.today_value x env) (today.today_value y env))
