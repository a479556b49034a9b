-- Facts on the values of arguments, one after another.
use Rattle.std.proofs.Common.{◌≡◌, ◌∙◌, ap, List, [], ◌∷◌, ◌++◌, sym, refl}
use Rattle.std.proofs.Common.{append_assoc, false, None}
use Rattle.ae_tree.specs.Plain.{Code, Expression, Number, Truth, Nothing, Read, Item, Length, Grouped, Negated, Minus}
use Rattle.ae_tree.specs.Plain.{Binary}
use Rattle.ae_semantics.specs.Places as places
use Rattle.ae_semantics.specs.Places.{Outcome, Fine, ◌>>=◌, State}
use Rattle.ae_semantics.specs.Expressions.{value}
use Rattle.ae_semantics.specs.Calls.{Argument, argument, each_argument}
use Rattle.ae_frames.specs.Givens.{is_path}

-- what is fine is one thing
same_fine : {A : Type 0} (x y : A) → Fine x ≡ Fine y → x ≡ y
same_fine x y h = cc

-- these arguments, and then those of these expressions, are what all comes to
abbrev pub GoesOnWith : Outcome (List Argument) → Code → State → List Argument → List Expression → Type 0
GoesOnWith all p s xs es = all ≡ (each_argument p s es >>= λ ys. Fine (xs ++ ys))

-- the arguments gathered so far go before one more
joined_more : (o : Outcome (List Argument)) (xs : List Argument) (a : Argument)
    → ((o >>= λ ys. Fine (a ∷ ys)) >>= λ ys. Fine (xs ++ ys)) ≡ (o >>= λ ys. Fine ((xs ++ a ∷ []) ++ ys))
joined_more (Fine ys) xs a = ap Fine (sym (append_assoc xs (a ∷ []) ys))
joined_more (places.Traps code) xs a = refl
joined_more places.Lacks xs a = refl

-- after one more argument
pub goes_on_after : (all : Outcome (List Argument)) (p : Code) (s : State) (xs : List Argument) (e : Expression)
    (es : List Expression) (a : Argument) → GoesOnWith all p s xs (e ∷ es) → argument p s e ≡ Fine a
    → GoesOnWith all p s (xs ++ a ∷ []) es
goes_on_after all p s xs e es a h is = h
    ∙ ap (λ o. (o >>= λ x. each_argument p s es >>= λ ys. Fine (x ∷ ys)) >>= λ ys. Fine (xs ++ ys)) is
    ∙ joined_more (each_argument p s es) xs a

-- an expression that is no path is read as a value without a place
pub is_value_alone : (p : Code) (s : State) (e : Expression) → is_path e ≡ false
    → argument p s e ≡ (value p s e >>= λ v. Fine (record { value = v; from = None }))
is_value_alone p s (Number n at) h = refl
is_value_alone p s (Truth b at) h = refl
is_value_alone p s (Nothing at) h = refl
is_value_alone p s (Read path) h = absurd (cc)
is_value_alone p s (Item path e) h = refl
is_value_alone p s (Length path at) h = refl
is_value_alone p s (Grouped e at) h = refl
is_value_alone p s (Negated e at) h = refl
is_value_alone p s (Minus e at) h = refl
is_value_alone p s (Binary o a b) h = refl
