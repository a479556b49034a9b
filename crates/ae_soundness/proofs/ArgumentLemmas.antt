-- What is given to a parameter is of its form.
use Rattle.std.proofs.Common.{◌≡◌, refl, sym, ◌∙◌, ℕ, Bool, true, List, [], ◌∷◌, map, zip}
use Rattle.std.proofs.Common.{length}
use Rattle.std.proofs.Common.{arith, Option, None, Some}
use Rattle.std.specs.Prelude.{option_map, ⊤}
use Rattle.ae_text.specs.declared.refusal.Spot.{Spot}
use Rattle.ae_text.specs.declared.refusal.Rule.TheVariants as rule
use Rattle.ae_tree.specs.declared.tree.Path.{Path}
use Rattle.ae_tree.specs.declared.tree.Me.{Me}
use Rattle.ae_tree.specs.declared.tree.Param.{Param}
use Rattle.ae_tree.specs.declared.form.Perm.{Perm}
use Rattle.ae_tree.specs.declared.form.Perm.TheVariants as perm
use Rattle.ae_tree.specs.declared.form.Kind.{Kind}
use Rattle.ae_tree.specs.declared.form.Form.{Form}
use Rattle.ae_tree.specs.declared.form.Form.TheVariants as f
use Rattle.ae_tree.specs.Form.{form}
use Rattle.ae_tree.specs.Plain.{Code, Definition, Expression, Number, Truth, Nothing, Read, Item, Length}
use Rattle.ae_tree.specs.Plain.{Grouped, Negated, Minus, Binary}
use Rattle.ae_rules.specs.declared.held.Held.{Held}
use Rattle.ae_rules.specs.declared.held.Held.TheVariants as held
use Rattle.ae_rules.specs.Verdict.{Holds, require, in_turn}
use Rattle.ae_rules.specs.Forms.{same_kind, is_object_of, is_unique, form_with}
use Rattle.ae_rules.specs.Context.{Context}
use Rattle.ae_rules.specs.Walks.{Place, walk, is_name}
use Rattle.ae_rules.specs.Expressions.{expression_spot, judge_value, is_value}
use Rattle.ae_rules.specs.Into.{may_leave, into_immutable, into_shared}
use Rattle.ae_rules.specs.Calls.{Roots, root_apart}
use Rattle.ae_rules.specs.Calls.{ParamSlot, param_slot, me_form, me_slot, if_some, may_be_lent}
use Rattle.ae_rules.specs.Calls.{to_param, path_to_param, to_form, to_slot}
use Rattle.ae_semantics.specs.Values.{Val, fits_object}
use Rattle.ae_semantics.specs.Places.{Outcome, Fine, Traps, Lacks, ◌>>=◌, State, PlaceFound, walk_to}
use Rattle.ae_semantics.specs.Expressions.{value}
use Rattle.ae_semantics.specs.Calls.{Argument, argument, each_argument}
use Rattle.ae_soundness.specs.Fits.{IsOfForm, FitsPermission, FitsPlace, has_value}
use Rattle.ae_soundness.specs.Fits.{FieldsHaveMembers, FitsContext}
use Rattle.ae_soundness.specs.Laws.{IsFoundAs, AreOfSlots}
use Rattle.ae_soundness.proofs.FieldLemmas.{same_value_fit}
use Rattle.ae_soundness.proofs.PlaceLemmas.{paths_are_found}
use Rattle.ae_soundness.proofs.ValueLemmas.{judged_so, values_are_found}
use Rattle.ae_soundness.proofs.IntoLemmas.{plain_fits, object_fits, place_fits, null_fits}
use Rattle.ae_soundness.proofs.OutcomeLemmas.{Comes, then_comes, value_comes}
use Rattle.ae_soundness.proofs.from_rules.PathLemmas.{first_holds}
use Rattle.ae_soundness.proofs.from_rules.SeenLemmas.{required}

-- ---- what may be given to a parameter

-- What is given to a parameter has a value.
pub given_value : (t : Form) (q : Perm) (away named : Bool) (h : Held) (at : Spot) (u : ⊤)
    → to_param q away named h at ≡ Holds u → has_value (record { form = t; held = h }) ≡ true
given_value t perm.Unique away named held.None at u e = absurd (cc e)
given_value t perm.Immutable away named held.None at u e = absurd (cc e)
given_value t perm.Lent away named held.None at u e = absurd (cc e)
given_value t (perm.Shared g) away named held.None at u e = absurd (cc e)
given_value t q away named held.Unique at u e = refl
given_value t q away named (held.Split n) at u e = refl
given_value t q away named held.Immutable at u e = refl
given_value t q away named held.Lent at u e = refl
given_value t q away named (held.Shared g) at u e = refl
given_value t q away named (held.Inner g) at u e = refl

-- a value that may be given to a unique parameter is one
to_unique_fits : (p : Code) (r : Perm) (k l : Kind) (v : Val) (h : Held) (away named : Bool) (at : Spot) (u : ⊤)
    → to_param perm.Unique away named h at ≡ Holds u → FitsPermission r h → same_kind k l ≡ true
    → fits_object p r l v ≡ true → fits_object p perm.Unique k v ≡ true
to_unique_fits p r k l v held.Unique away named at u e a s i = plain_fits p perm.Unique r k l v held.Unique
    (λ g d. absurd (cc d)) a (λ g d. absurd (cc d)) s i
to_unique_fits p r k l v (held.Split n) away named at u e a s i = absurd (cc e)
to_unique_fits p r k l v held.Immutable away named at u e a s i = absurd (cc e)
to_unique_fits p r k l v held.Lent away named at u e a s i = absurd (cc e)
to_unique_fits p r k l v (held.Shared g) away named at u e a s i = absurd (cc e)
to_unique_fits p r k l v (held.Inner g) away named at u e a s i = absurd (cc e)
to_unique_fits p r k l v held.None away named at u e a s i = absurd (cc e)

-- a value that may be lent fits a lent parameter
to_lent_fits : (p : Code) (r : Perm) (k l : Kind) (v : Val) (h : Held) → may_be_lent h ≡ true → FitsPermission r h
    → same_kind k l ≡ true → fits_object p r l v ≡ true → fits_object p perm.Lent k v ≡ true
to_lent_fits p r k l v held.Unique e a s i = plain_fits p perm.Lent r k l v held.Unique (λ g d. absurd (cc d)) a
    (λ g d. absurd (cc d)) s i
to_lent_fits p r k l v (held.Split n) e a s i = absurd (cc e)
to_lent_fits p r k l v held.Immutable e a s i = plain_fits p perm.Lent r k l v held.Immutable (λ g d. absurd (cc d)) a
    (λ g d. absurd (cc d)) s i
to_lent_fits p r k l v held.Lent e a s i = plain_fits p perm.Lent r k l v held.Lent (λ g d. absurd (cc d)) a
    (λ g d. absurd (cc d)) s i
to_lent_fits p r k l v (held.Shared g) e a s i = absurd (cc e)
to_lent_fits p r k l v (held.Inner g) e a s i = absurd (cc e)
to_lent_fits p r k l v held.None e a s i = absurd (cc e)

-- a value that may be given to a parameter fits it
to_param_fits : (p : Code) (q r : Perm) (k l : Kind) (v : Val) (h : Held) (away named : Bool) (at : Spot) (u : ⊤)
    → to_param q away named h at ≡ Holds u → FitsPermission r h → same_kind k l ≡ true
    → fits_object p r l v ≡ true → fits_object p q k v ≡ true
to_param_fits p perm.Unique r k l v h away named at u e a s i = to_unique_fits p r k l v h away named at u e a s i
to_param_fits p perm.Lent r k l v h away named at u e a s i = to_lent_fits p r k l v h
    (required (may_be_lent h) rule.NoPermission at u e) a s i
to_param_fits p perm.Immutable r k l v h away named at u e a s i = object_fits p perm.Immutable r k l v h named at u
    (first_holds (may_leave h at) (λ _. into_immutable h at) u e).2 a s i
to_param_fits p (perm.Shared g) r k l v h away named at u e a s i = object_fits p (perm.Shared g) r k l v h named at u
    (first_holds (may_leave h at) (λ _. into_shared g h at) u e).2 a s i

-- ---- arguments

-- an argument of this form
abbrev IsArgument : Code → Form → Argument → Type 0
IsArgument p t x = IsOfForm p t x.value

-- A place that is found comes.
pub place_comes : (p : Code) (w : Place) (o : Outcome PlaceFound) → IsFoundAs p w o
    → Comes (λ (x : PlaceFound). FitsPlace p w x.form x.value) o
place_comes p w (Fine x) h = h
place_comes p w (Traps code) h = tt
place_comes p w Lacks h = absurd h

read_argument : (p : Code) (t : Form) (o : Outcome PlaceFound) → Comes (IsOfForm p t) (o >>= λ x. Fine x.value)
    → Comes (IsArgument p t) (o >>= λ x. Fine (record { value = x.value; from = Some x.at }))
read_argument p t (Fine x) h = h
read_argument p t (Traps code) h = tt
read_argument p t Lacks h = absurd h

made_argument : (p : Code) (t : Form) (o : Outcome Val) → Comes (IsOfForm p t) o
    → Comes (IsArgument p t) (o >>= λ v. Fine (record { value = v; from = None }))
made_argument p t o h = then_comes (IsOfForm p t) (IsArgument p t) o (λ v. Fine (record { value = v; from = None })) h
    (λ v i. i)

-- an argument has the value of its expression
argument_comes : (p : Code) (s : State) (t : Form) (e : Expression) → Comes (IsOfForm p t) (value p s e)
    → Comes (IsArgument p t) (argument p s e)
argument_comes p s t (Read path) h = read_argument p t (walk_to p s path) h
argument_comes p s t (Number n at) h = made_argument p t (value p s (Number n at)) h
argument_comes p s t (Truth b at) h = made_argument p t (value p s (Truth b at)) h
argument_comes p s t (Nothing at) h = made_argument p t (value p s (Nothing at)) h
argument_comes p s t (Item path i) h = made_argument p t (value p s (Item path i)) h
argument_comes p s t (Length path at) h = made_argument p t (value p s (Length path at)) h
argument_comes p s t (Grouped i at) h = made_argument p t (value p s (Grouped i at)) h
argument_comes p s t (Negated i at) h = made_argument p t (value p s (Negated i at)) h
argument_comes p s t (Minus i at) h = made_argument p t (value p s (Minus i at)) h
argument_comes p s t (Binary o a b) h = made_argument p t (value p s (Binary o a b)) h

path_given : (p : Code) (c : Context) (s : State) (q : Perm) (k : Kind) (away : Bool) (path : Path) (at : Spot)
    (before after : Roots) → FieldsHaveMembers p → FitsContext p c s
    → path_to_param p c q k away path at before ≡ Holds after
    → Comes (IsOfForm p (f.Object q k)) (value p s (Read path))
path_given p c s q k away path at before after m z e =
    let a = first_holds (walk p c path) _ after e in
    let w : Place = a.0 in
    let b = first_holds (require (is_object_of k w.form) rule.TypeMismatch at) _ after a.2 in
    let r = first_holds (root_apart (is_unique (f.Object q k)) path at before) _ after b.2 in
    let d = first_holds (to_param q away (is_name path) w.held at) (λ _. Holds r.0) after r.2 in
    let object : is_object_of k w.form ≡ true = required (is_object_of k w.form) rule.TypeMismatch at b.0 b.1 in
    then_comes (λ (x : PlaceFound). FitsPlace p w x.form x.value) (IsOfForm p (f.Object q k)) (walk_to p s path)
    (λ x. Fine x.value)
    (place_comes p w (walk_to p s path) (paths_are_found p c s path w m z a.1
    (λ n. given_value w.form q away (is_name path) w.held at d.0 d.1)))
    (λ x h. place_fits p q k w.form x.form w.held x.value object
    (λ y l i j g. to_param_fits p q y k l x.value w.held away (is_name path) at d.0 d.1 i j g) h)

object_given : (p : Code) (c : Context) (s : State) (q : Perm) (k : Kind) (away : Bool) (e : Expression)
    (before after : Roots) → FieldsHaveMembers p → FitsContext p c s
    → to_form p c (f.Object q k) away e before ≡ Holds after → Comes (IsOfForm p (f.Object q k)) (value p s e)
object_given p c s q k away (Nothing at) before after m z h = (null_fits p q k, tt)
object_given p c s q k away (Read path) before after m z h =
    path_given p c s q k away path path.root.at before after m z h
object_given p c s q k away (Number n at) before after m z h = absurd (cc h)
object_given p c s q k away (Truth b at) before after m z h = absurd (cc h)
object_given p c s q k away (Item path i) before after m z h = absurd (cc h)
object_given p c s q k away (Length path at) before after m z h = absurd (cc h)
object_given p c s q k away (Grouped i at) before after m z h = absurd (cc h)
object_given p c s q k away (Negated i at) before after m z h = absurd (cc h)
object_given p c s q k away (Minus i at) before after m z h = absurd (cc h)
object_given p c s q k away (Binary o a b) before after m z h = absurd (cc h)

-- what is judged to go to a parameter has a value of its form
form_given : (p : Code) (c : Context) (s : State) (t : Form) (away : Bool) (e : Expression) (before after : Roots)
    → FieldsHaveMembers p → FitsContext p c s → to_form p c t away e before ≡ Holds after
    → Comes (IsOfForm p t) (value p s e)
form_given p c s f.Int away e before after m z h =
    let a = first_holds (is_value p c f.Int e) (λ _. Holds before) after h
    in value_comes p f.Int (value p s e) (values_are_found p c s e f.Int m z
    (judged_so f.Int (judge_value p c e) (expression_spot e) a.0 a.1).0)
form_given p c s f.Bool away e before after m z h =
    let a = first_holds (is_value p c f.Bool e) (λ _. Holds before) after h
    in value_comes p f.Bool (value p s e) (values_are_found p c s e f.Bool m z
    (judged_so f.Bool (judge_value p c e) (expression_spot e) a.0 a.1).0)
form_given p c s (f.Object q k) away e before after m z h = object_given p c s q k away e before after m z h

-- Each argument is of its parameter's form.
pub arguments_come : (p : Code) (c : Context) (s : State) (ts : List ParamSlot) (es : List Expression)
    (before after : Roots) → FieldsHaveMembers p → FitsContext p c s → length ts ≡ length es
    → in_turn (to_slot p c) (zip ts es) before ≡ Holds after → Comes (AreOfSlots p ts) (each_argument p s es)
arguments_come p c s [] [] before after m z n h = tt
arguments_come p c s [] (e ∷ es) before after m z n h = absurd (omega (arith, n))
arguments_come p c s (t ∷ ts) [] before after m z n h = absurd (omega (arith, n))
arguments_come p c s (t ∷ ts) (e ∷ es) before after m z n h =
    let a = first_holds (to_slot p c (t, e) before) (in_turn (to_slot p c) (zip ts es)) after h in
    then_comes (IsArgument p t.form) (AreOfSlots p (t ∷ ts)) (argument p s e) _
    (argument_comes p s t.form e (form_given p c s t.form t.away e before a.0 m z a.1))
    (λ x i. then_comes (AreOfSlots p ts) (AreOfSlots p (t ∷ ts)) (each_argument p s es) (λ xs. Fine (x ∷ xs))
    (arguments_come p c s ts es a.0 after m z (omega arith) a.2)
    (λ xs j. (i, j)))

-- ---- groups do not count

own_form : (p : Code) (new : ℕ → ℕ) (t : Form) (v : Val) → IsOfForm p (form_with new t) v
    → IsOfForm p (form_with (λ g. g) t) v
own_form p new t v i =
    let fits : _ ≡ true = same_value_fit p (λ g. g) t v ∙ sym (same_value_fit p new t v) ∙ i.0 in (fits, i.1)

own_params : (p : Code) (new : ℕ → ℕ) (ps : List Param) (xs : List Argument)
    → AreOfSlots p (map (param_slot new) ps) xs → AreOfSlots p (map (param_slot (λ g. g)) ps) xs
own_params p new [] [] h = tt
own_params p new [] (x ∷ xs) h = absurd h
own_params p new (y ∷ ps) [] h = absurd h
own_params p new (y ∷ ps) (x ∷ xs) h = (own_form p new (form y.ty) x.value h.0, own_params p new ps xs h.1)

-- What is of the parameters' forms is so with their own groups.
pub own_slots : (p : Code) (new : ℕ → ℕ) (m : Definition) (me : Option Me) (ps : List Param) (xs : List Argument)
    → AreOfSlots p (if_some (option_map (me_slot p new m) me) (map (param_slot new) ps)) xs
    → AreOfSlots p (if_some (option_map (me_slot p (λ g. g) m) me) (map (param_slot (λ g. g)) ps)) xs
own_slots p new m None ps xs h = own_params p new ps xs h
own_slots p new m (Some me) ps [] h = absurd h
own_slots p new m (Some me) ps (x ∷ xs) h =
    (own_form p new (me_form p m me) x.value h.0, own_params p new ps xs h.1)
