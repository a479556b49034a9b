-- What an expression comes to.
use Rattle.std.specs.Prelude.{ℕ, ◌^◌, ℤ, pos, negsuc, ◌+ℤ◌, ◌-ℤ◌, ◌*ℤ◌, neg_ℤ, int_div, int_rem, int_lt, int_le}
use Rattle.std.specs.Prelude.{nat_lt, nat_eq, Bool, true, false, not, if◌then◌else◌, List, length, slice_get, ⊤}
use Rattle.ae_tree.specs.declared.tree.Op.{Op}
use Rattle.ae_tree.specs.declared.tree.Op.TheVariants as op
use Rattle.ae_tree.specs.Plain.{Code, Expression, Number, Truth, Nothing, Read, Item, Length, Grouped, Negated}
use Rattle.ae_tree.specs.Plain.{Minus, Binary}
use Rattle.ae_semantics.specs.Values.{Val, OfInt, OfBool, Null, Owned, Member, Tree, Object, Array}
use Rattle.ae_semantics.specs.Places.{Outcome, Fine, Traps, Lacks, ◌>>=◌, there, State, OpenedObject, walk_to}
use Rattle.ae_semantics.specs.Places.{open_place, reach}

-- ---- numbers and truths

-- the value as an integer
abbrev pub number : Val → Outcome ℤ
number (OfInt n) = Fine n
number _ = Lacks

-- the value as a truth
abbrev pub truth : Val → Outcome Bool
truth (OfBool b) = Fine b
truth _ = Lacks

-- a number of 64 bits with a sign, and otherwise trap 1
abbrev pub fitted : ℤ → Outcome Val
fitted (pos n) = if nat_lt n (2 ^ 63) then Fine (OfInt (pos n)) else Traps 1
fitted (negsuc n) = if nat_lt n (2 ^ 63) then Fine (OfInt (negsuc n)) else Traps 1

-- a zero divisor is trap 2
abbrev pub unless_zero : ℤ → Outcome Val → Outcome Val
unless_zero (pos n) o = if nat_eq n 0 then Traps 2 else o
unless_zero (negsuc n) o = o

-- two integers are the same
abbrev pub same_number : ℤ → ℤ → Bool
same_number (pos m) (pos n) = nat_eq m n
same_number (negsuc m) (negsuc n) = nat_eq m n
same_number _ _ = false

-- two truths are the same
abbrev pub same_truth : Bool → Bool → Bool
same_truth true b = b
same_truth false b = not b

-- two numbers, two truths, or null and an object
abbrev pub same : Val → Val → Outcome Bool
same (OfInt m) (OfInt n) = Fine (same_number m n)
same (OfBool a) (OfBool b) = Fine (same_truth a b)
same Null Null = Fine true
same Null (Owned t) = Fine false
same Null (Member n) = Fine false
same (Owned t) Null = Fine false
same (Member n) Null = Fine false
same _ _ = Lacks

-- a comparison of two integers
abbrev pub ordered : (ℤ → ℤ → Bool) → ℤ → ℤ → Outcome Val
ordered test a b = Fine (OfBool (test a b))

-- a quotient is cut towards zero, and a remainder has the dividend's sign
abbrev pub calculated : Op → ℤ → ℤ → Outcome Val
calculated op.Lt a b = ordered int_lt a b
calculated op.Le a b = ordered int_le a b
calculated op.Gt a b = ordered int_lt b a
calculated op.Ge a b = ordered int_le b a
calculated op.Add a b = fitted (a +ℤ b)
calculated op.Sub a b = fitted (a -ℤ b)
calculated op.Mul a b = fitted (a *ℤ b)
calculated op.Div a b = unless_zero b (fitted (int_div a b))
calculated op.Rem a b = unless_zero b (Fine (OfInt (int_rem a b)))
calculated _ a b = Lacks

-- an operator on the values of both its operands
abbrev pub applied : Op → Val → Val → Outcome Val
applied op.Eq v w = same v w >>= λ b. Fine (OfBool b)
applied op.Ne v w = same v w >>= λ b. Fine (OfBool (not b))
applied op.Or v w = Lacks
applied op.And v w = Lacks
applied o v w = number v >>= λ a. number w >>= λ b. calculated o a b

-- ---- arrays

-- the integers of an array
abbrev pub numbers : Tree → Outcome (List ℤ)
numbers (Array ns) = Fine ns
numbers (Object c xs) = Lacks

-- an index below 0 or not below the length is trap 4
abbrev pub index : List ℤ → ℤ → Outcome ℕ
index ns (pos i) = if nat_lt i (length ns) then Fine i else Traps 4
index ns (negsuc i) = Traps 4

-- the item of an array with this number
abbrev pub item_at : List ℤ → ℕ → Outcome Val
item_at ns i = there (slice_get ns i) >>= λ n. Fine (OfInt n)

-- the integer at an index of an array
abbrev pub item : OpenedObject → ℤ → Outcome Val
item o n = numbers o.tree >>= λ ns. index ns n >>= item_at ns

-- ---- expressions

-- the second operand is evaluated only where the first does not decide
abbrev pub unless_false : Bool → (⊤ → Outcome Val) → Outcome Val
unless_false true rest = rest tt
unless_false false rest = Fine (OfBool false)

-- true at once, or else the next
abbrev pub unless_true : Bool → (⊤ → Outcome Val) → Outcome Val
unless_true true rest = Fine (OfBool true)
unless_true false rest = rest tt

-- an operator on the first operand and the next one, which `&&` and `||` may not need
abbrev pub both : Op → Val → (⊤ → Outcome Val) → Outcome Val
both op.And v rest = truth v >>= λ b. unless_false b rest
both op.Or v rest = truth v >>= λ b. unless_true b rest
both o v rest = rest tt >>= applied o v

-- Operands are evaluated from left to right. An index reads the path first, then its expression, and only then tests for null.
abbrev pub value : Code → State → Expression → Outcome Val
value p s (Number n at) = Fine (OfInt n)
value p s (Truth b at) = Fine (OfBool b)
value p s (Nothing at) = Fine Null
value p s (Read path) = walk_to p s path >>= λ x. Fine x.value
value p s (Item path e) = walk_to p s path >>= λ x. value p s e >>= λ v. number v >>= λ n. open_place p s x
    >>= λ o. item o n
value p s (Length path at) = reach p s path >>= λ o. numbers o.tree >>= λ ns. Fine (OfInt (pos (length ns)))
value p s (Grouped e at) = value p s e
value p s (Negated e at) = value p s e >>= λ v. truth v >>= λ b. Fine (OfBool (not b))
value p s (Minus e at) = value p s e >>= λ v. number v >>= λ n. fitted (neg_ℤ n)
value p s (Binary o a b) = value p s a >>= λ v. both o v (λ _. value p s b)

-- the integer that an expression comes to
abbrev pub number_of : Code → State → Expression → Outcome ℤ
number_of p s e = value p s e >>= number

-- the truth that an expression comes to
abbrev pub truth_of : Code → State → Expression → Outcome Bool
truth_of p s e = value p s e >>= truth
