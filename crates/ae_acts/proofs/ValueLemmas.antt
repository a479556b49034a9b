-- Facts on values that go to a place, where a name may move.
use Rattle.std.proofs.Common.{◌≡◌, ◌∙◌, refl, sym, ap, ℕ, Bool, true, false, List, [], ◌∷◌, Option, None, Some}
use Rattle.std.specs.Prelude.{option_map, if◌then◌else◌}
use Rattle.ae_rules.specs.Lookups.{is_empty, class_called}
use Rattle.std.proofs.lemmas.Bool.{false≢true}
use Rattle.std.proofs.lemmas.Option.{none-some, same_Some}
use Rattle.ae_text.specs.declared.refusal.Spot.{Spot}
use Rattle.ae_tree.specs.declared.tree.NameAt.{NameAt}
use Rattle.ae_tree.specs.declared.tree.Ty.{Ty}
use Rattle.ae_tree.specs.declared.form.Form.{Form}
use Rattle.ae_tree.specs.declared.form.Form.TheVariants as f
use Rattle.ae_tree.specs.Form.{form}
use Rattle.ae_tree.specs.Plain.{Expression}
use Rattle.ae_tree.specs.Plain.{RightSide, Value, Taken, Zeros, Made, Returned, Code, Definition}
use Rattle.ae_rules.specs.Verdict.{given}
use Rattle.ae_semantics.specs.Values.{Val, Owned, Object, values, is_low}
use Rattle.ae_semantics.specs.Places.{Outcome, Fine, Traps, Lacks, ◌>>=◌, there, Bound, State, PlaceFound, steps}
use Rattle.ae_semantics.specs.Places.{local_place, with_bound, low, bind}
use Rattle.ae_semantics.specs.Expressions.{value}
use Rattle.ae_semantics.specs.Calls.{without_moved}
use Rattle.ae_semantics.specs.Meaning.{made, each_value, fields_moved, name_moved, right_moved}
use Rattle.ae_acts.specs.Acts.{moved_out, put_into, put_again}
use Rattle.ae_acts.specs.Made.{beside, all_beside, lowered, made_low, object_low, new_low}
use Rattle.ae_acts.specs.Doing.{value_moved, without_kind, assigned_to, result_of}

-- ---- a name that stands alone

-- no step is made
pub alone_goes : (p : Code) (s : State) (x : ℕ) (o : Option Bound) (xs : List NameAt) → is_empty xs ≡ true
    → ((there o >>= λ b. steps p s xs (local_place x b)) >>= λ (y : PlaceFound). Fine y.value)
    ≡ there (option_map (λ (b : Bound). b.value) o)
alone_goes p s x None [] is = refl
alone_goes p s x (Some b) [] is = refl
alone_goes p s x o (y ∷ ys) is = absurd (false≢true is)

-- ---- right sides

-- an expression
pub expression_goes : (p : Code) (s : State) (target : Form) (e : Expression)
    → moved_out p target (Value e) s ≡ value_moved p target e s
expression_goes p s target e = by_cases (value p s e)
  where
    by_cases : (o : Outcome Val)
        → ((o >>= beside s) >>= λ (r : Val × State). beside (without_moved (name_moved target e) r.1) r.0)
        ≡ (o >>= beside (without_moved (name_moved target e) s))
    by_cases (Fine v) = refl
    by_cases (Traps code) = refl
    by_cases Lacks = refl

-- ---- a local that is assigned

-- the kind of a form does not count for what moves into it
kind_counts_not : (p : Code) (target : Form) (e : RightSide)
    → right_moved p (without_kind target) e ≡ right_moved p target e
kind_counts_not p f.Int e = refl
kind_counts_not p f.Bool e = refl
kind_counts_not p (f.Object q k) (Value e) = refl
kind_counts_not p (f.Object q k) (Taken path at) = refl
kind_counts_not p (f.Object q k) (Zeros e at) = refl
kind_counts_not p (f.Object q k) (Made c gs args at) = refl
kind_counts_not p (f.Object q k) (Returned i) = refl

-- a value that is low enough goes to a local
bind_lowered : (x : ℕ) (target : Form) (v : Val) (t : State)
    → bind x target v t ≡ ((low v >>= beside t) >>= λ (r : Val × State). bind x target r.0 r.1)
bind_lowered x target v t = by_test (is_low v) refl
  where
    bound_to : Val → Outcome State
    bound_to w = Fine (with_bound x (Some (record { form = target; value = w })) t)

    by_test : (b : Bool) → is_low v ≡ b → ((if b then Fine v else Traps 8) >>= bound_to)
        ≡ (((if b then Fine v else Traps 8) >>= beside t) >>= λ (r : Val × State). bind x target r.0 r.1)
    by_test true is = ap (λ b. (if b then Fine v else Traps 8) >>= bound_to) (sym is)
    by_test false is = refl

-- so does the value of a right side
pub put_lowered : (p : Code) (s : State) (x : ℕ) (target : Form) (e : RightSide)
    → put_into p x target e s ≡ (made_low p target e s >>= λ (r : Val × State). bind x target r.0 r.1)
put_lowered p s x target e = by_cases (moved_out p target e s)
  where
    by_cases : (o : Outcome (Val × State)) → (o >>= λ (r : Val × State). bind x target r.0 r.1)
        ≡ ((o >>= lowered) >>= λ (r : Val × State). bind x target r.0 r.1)
    by_cases (Fine r) = bind_lowered x target r.0 r.1
    by_cases (Traps code) = refl
    by_cases Lacks = refl

-- a right side goes to a local by way of the declared form without its kind
pub put_by_form : (p : Code) (s : State) (forms : ℕ → Option Form) (x : ℕ) (e : RightSide) (w : Form)
    → Some w ≡ option_map without_kind (forms x)
    → put_again p forms x e s ≡ (made_low p w e s >>= λ (r : Val × State). assigned_to forms x r.0 r.1)
put_by_form p s forms x e w known = by_cases (forms x) known
  where
    by_cases : (o : Option Form) → Some w ≡ option_map without_kind o
        → (there o >>= λ target. put_into p x target e s)
        ≡ (made_low p w e s >>= λ (r : Val × State). there o >>= λ target. bind x target r.0 r.1)
    by_cases None is = absurd (none-some w (sym is))
    by_cases (Some target) is = put_lowered p s x target e
        ∙ ap (λ ms. ((made p e s >>= λ (r : Val × State). beside (without_moved ms r.1) r.0) >>= lowered)
        >>= λ (r : Val × State). bind x target r.0 r.1)
        (sym (kind_counts_not p target e) ∙ ap (λ t. right_moved p t e) (same_Some (without_kind target) w (sym is)))

-- a new object that is low enough
pub object_goes : (p : Code) (s : State) (target : Form) (c : NameAt) (gs : List NameAt) (es : List Expression)
    (at : Spot) → made_low p target (Made c gs es at) s ≡ new_low p c.name gs es s
object_goes p s target c gs es at = by_cases (each_value p s es)
  where
    by_cases : (o : Outcome (List Val))
        → (((o >>= λ vs. beside s (Owned (Object c.name (values vs))))
        >>= λ (r : Val × State). beside (without_moved (given (class_called p c.name) [] (fields_moved gs es)) r.1) r.0)
        >>= lowered)
        ≡ ((o >>= all_beside (without_moved (given (class_called p c.name) [] (fields_moved gs es)) s)) >>= object_low c.name)
    by_cases (Fine vs) = refl
    by_cases (Traps code) = refl
    by_cases Lacks = refl

-- ---- results

-- the result of a method that has one
pub result_typed : (p : Code) (s : State) (m : Definition) (e : Expression) (t : Ty) → m.result ≡ Some t
    → result_of p m e s ≡ value_moved p (form t) e s
result_typed p s m e t is = ap (λ (o : Option Ty). value p s e >>= λ v.
    Fine (v, without_moved (given o [] (λ u. name_moved (form u) e)) s)) is
