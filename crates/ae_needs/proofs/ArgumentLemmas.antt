-- From states that agree on what a judged call uses its receiver and its arguments come to the same.
use Rattle.std.proofs.Common.{◌≡◌, refl, ap, ◌∙◌, subst, ℕ, length, Bool, true, List, [], ◌∷◌, zip, arith}
use Rattle.std.proofs.Common.{Option, None, Some}
use Rattle.std.specs.Prelude.{is_some, option_map, ⊤}
use Rattle.ae_tree.specs.declared.tree.Path.{Path}
use Rattle.ae_tree.specs.declared.tree.Me.{Me}
use Rattle.ae_tree.specs.declared.form.Perm.{Perm}
use Rattle.ae_tree.specs.declared.form.Perm.TheVariants as perm
use Rattle.ae_tree.specs.declared.form.Kind.{Kind}
use Rattle.ae_tree.specs.declared.form.Form.{Form}
use Rattle.ae_tree.specs.declared.form.Form.TheVariants as f
use Rattle.ae_tree.specs.Plain.{Code, Definition, Expression, Number, Truth, Nothing, Read, Item, Length, Grouped}
use Rattle.ae_tree.specs.Plain.{Negated, Minus, Binary}
use Rattle.ae_rules.specs.declared.uses.Resource.{Resource}
use Rattle.ae_rules.specs.declared.uses.Resource.TheVariants as resource
use Rattle.ae_rules.specs.declared.uses.Mode.TheVariants as mode
use Rattle.ae_rules.specs.Edges.{Uses}
use Rattle.ae_rules.specs.Verdict.{Holds, in_turn}
use Rattle.ae_rules.specs.Context.{Context}
use Rattle.ae_rules.specs.Walks.{Place, walk}
use Rattle.ae_rules.specs.Expressions.{expression_spot, judge_value, is_value}
use Rattle.ae_rules.specs.Calls.{Roots, ParamSlot, me_slot, if_some, to_form, to_slot}
use Rattle.ae_rules.specs.Uses.{◌∪◌, of_each, root_lent, walk_uses, argument_uses, value_uses}
use Rattle.ae_semantics.specs.Values.{Val}
use Rattle.ae_semantics.specs.Places.{Outcome, Fine, ◌>>=◌, State, Address, PlaceFound, walk_to}
use Rattle.ae_semantics.specs.Expressions.{value}
use Rattle.ae_semantics.specs.Calls.{Argument, argument, each_argument}
use Rattle.ae_needs.proofs.AgreeLemmas.{AllIn, in_left, in_right, in_local}
use Rattle.ae_needs.proofs.WalkLemmas.{StandsOn, WalksAlike, walk_alike}
use Rattle.ae_needs.proofs.ValueLemmas.{Known, path_alike, form_alike}
use Rattle.ae_needs.proofs.from_rules.PathLemmas.{first_holds}
use Rattle.ae_needs.proofs.from_soundness.StandLemmas.{fine_first}
use Rattle.ae_needs.proofs.from_soundness.ValueLemmas.{judged_so}

-- the place that an argument was read from stands in the set
abbrev pub FromOn : (Resource → Bool) → Argument → Type 0
FromOn on x = (at : Address) → x.from ≡ Some at → StandsOn on at.base

-- so do the places of all of them
abbrev pub EachFromOn : (Resource → Bool) → List Argument → Type 0
EachFromOn on [] = Unit {0}
EachFromOn on (x ∷ xs) = FromOn on x × EachFromOn on xs

-- what is known of an argument from two states
pub record ArgumentAlike (on : Resource → Bool) (p : Code) (s t : State) (e : Expression) : Type 0 where
  pub same : argument p s e ≡ argument p t e
  pub stands : (x : Argument) → argument p s e ≡ Fine x → FromOn on x

same_argument : (x y : Argument) → Fine x ≡ Fine y → x ≡ y
same_argument x y e = cc e

path_argument : (on : Resource → Bool) (p : Code) (s t : State) (path : Path) (w : Place)
    → WalksAlike on p s t path w → ArgumentAlike on p s t (Read path)
path_argument on p s t path w h = record {
  same = ap (λ (r : Outcome PlaceFound). r >>= λ x. Fine (record { value = x.value; from = Some x.at })) h.same;
  stands = λ x e at i.
      let a = fine_first (walk_to p s path) (λ y. Fine (record { value = y.value; from = Some y.at })) x e in
      let same : record { value = a.0.value; from = Some a.0.at } ≡ x = same_argument _ x a.2 in
      let here : Some a.0.at ≡ Some at = ap (λ (y : Argument). y.from) same ∙ i in
      let at_is : a.0.at ≡ at = cc here in
      subst (λ (y : Address). StandsOn on y.base) at_is (h.stands a.0 a.1);
}

-- an argument that is no path, by its value
abbrev by_value : Outcome Val → Outcome Argument
by_value o = o >>= λ v. Fine (record { value = v; from = None })

no_place : (on : Resource → Bool) (o : Outcome Val) (x : Argument) → by_value o ≡ Fine x → FromOn on x
no_place on o x e at i =
    let a = fine_first o (λ v. Fine (record { value = v; from = None })) x e in
    let same : record { value = a.0; from = None } ≡ x = same_argument _ x a.2 in
    let none : None ≡ Some at = ap (λ (y : Argument). y.from) same ∙ i in absurd (cc none)

plain_argument : (on : Resource → Bool) (p : Code) (c : Context) (s t : State) → Known on p c s t → (wanted : Form)
    (e : Expression) (u : ⊤) → is_value p c wanted e ≡ Holds u → AllIn on (value_uses p c e)
    → ArgumentAlike on p s t e
plain_argument on p c s t k wanted (Read path) u h i =
    let j = judged_so wanted (judge_value p c (Read path)) (expression_spot (Read path)) u h in
    let a = first_holds (walk p c path) _ wanted j.0 in
    path_argument on p s t path a.0 (path_alike on p c s t k path a.0 a.1 i)
plain_argument on p c s t k wanted (Number n at) u h i =
    record { same = refl; stands = no_place on (value p s (Number n at)) }
plain_argument on p c s t k wanted (Truth b at) u h i =
    record { same = refl; stands = no_place on (value p s (Truth b at)) }
plain_argument on p c s t k wanted (Nothing at) u h i =
    record { same = refl; stands = no_place on (value p s (Nothing at)) }
plain_argument on p c s t k wanted (Item path j) u h i = record {
  same = ap by_value (form_alike on p c s t k (Item path j) wanted u h i);
  stands = no_place on (value p s (Item path j));
}
plain_argument on p c s t k wanted (Length path at) u h i = record {
  same = ap by_value (form_alike on p c s t k (Length path at) wanted u h i);
  stands = no_place on (value p s (Length path at));
}
plain_argument on p c s t k wanted (Grouped j at) u h i = record {
  same = ap by_value (form_alike on p c s t k (Grouped j at) wanted u h i);
  stands = no_place on (value p s (Grouped j at));
}
plain_argument on p c s t k wanted (Negated j at) u h i = record {
  same = ap by_value (form_alike on p c s t k (Negated j at) wanted u h i);
  stands = no_place on (value p s (Negated j at));
}
plain_argument on p c s t k wanted (Minus j at) u h i = record {
  same = ap by_value (form_alike on p c s t k (Minus j at) wanted u h i);
  stands = no_place on (value p s (Minus j at));
}
plain_argument on p c s t k wanted (Binary o a b) u h i = record {
  same = ap by_value (form_alike on p c s t k (Binary o a b) wanted u h i);
  stands = no_place on (value p s (Binary o a b));
}

-- the root of what is lent is used
lent_root : (on : Resource → Bool) (q : Perm) (x : ℕ) → AllIn on (root_lent q x) → on (resource.Local x) ≡ true
lent_root on perm.Unique x i = in_local on mode.Write x i
lent_root on perm.Immutable x i = in_local on mode.Read x i
lent_root on perm.Lent x i = in_local on mode.Read x i
lent_root on (perm.Shared g) x i = in_local on mode.Read x i

-- a path that is given is walked alike
given_alike : (on : Resource → Bool) (p : Code) (c : Context) (s t : State) → Known on p c s t → (q : Perm)
    (path : Path) (w : Place) → walk p c path ≡ Holds w
    → AllIn on (root_lent q path.root.name ∪ walk_uses p c path) → WalksAlike on p s t path w
given_alike on p c s t k q path w e i = walk_alike on p c s t path w k.fits k.agree e
    (lent_root on q path.root.name (in_left on (root_lent q path.root.name) (walk_uses p c path) i))
    (in_right on (root_lent q path.root.name) (walk_uses p c path) i)

object_argument : (on : Resource → Bool) (p : Code) (c : Context) (s t : State) → Known on p c s t → (q : Perm)
    (l : Kind) (away : Bool) (e : Expression) (before after : Roots)
    → to_form p c (f.Object q l) away e before ≡ Holds after → AllIn on (argument_uses p c (f.Object q l) e)
    → ArgumentAlike on p s t e
object_argument on p c s t k q l away (Nothing at) before after h i =
    record { same = refl; stands = no_place on (value p s (Nothing at)) }
object_argument on p c s t k q l away (Read path) before after h i =
    let a = first_holds (walk p c path) _ after h in
    path_argument on p s t path a.0 (given_alike on p c s t k q path a.0 a.1 i)
object_argument on p c s t k q l away (Number n at) before after h i = absurd (cc h)
object_argument on p c s t k q l away (Truth b at) before after h i = absurd (cc h)
object_argument on p c s t k q l away (Item path j) before after h i = absurd (cc h)
object_argument on p c s t k q l away (Length path at) before after h i = absurd (cc h)
object_argument on p c s t k q l away (Grouped j at) before after h i = absurd (cc h)
object_argument on p c s t k q l away (Negated j at) before after h i = absurd (cc h)
object_argument on p c s t k q l away (Minus j at) before after h i = absurd (cc h)
object_argument on p c s t k q l away (Binary o a b) before after h i = absurd (cc h)

form_argument : (on : Resource → Bool) (p : Code) (c : Context) (s t : State) → Known on p c s t → (w : Form)
    (away : Bool) (e : Expression) (before after : Roots) → to_form p c w away e before ≡ Holds after
    → AllIn on (argument_uses p c w e) → ArgumentAlike on p s t e
form_argument on p c s t k f.Int away e before after h i =
    let a = first_holds (is_value p c f.Int e) (λ _. Holds before) after h in plain_argument on p c s t k f.Int e
    a.0 a.1 i
form_argument on p c s t k f.Bool away e before after h i =
    let a = first_holds (is_value p c f.Bool e) (λ _. Holds before) after h in
    plain_argument on p c s t k f.Bool e a.0 a.1 i
form_argument on p c s t k (f.Object q l) away e before after h i = object_argument on p c s t k q l away e before after
    h i

-- ---- all arguments

-- what an argument uses
abbrev pub slot_uses : Code → Context → ParamSlot × Expression → Uses
slot_uses p c x = argument_uses p c x.0.form x.1

-- what is known of all arguments from two states
pub record ArgumentsAlike (on : Resource → Bool) (p : Code) (s t : State) (es : List Expression) : Type 0 where
  pub same : each_argument p s es ≡ each_argument p t es
  pub stand : (xs : List Argument) → each_argument p s es ≡ Fine xs → EachFromOn on xs

-- Judged arguments come to the same.
pub arguments_alike : (on : Resource → Bool) (p : Code) (c : Context) (s t : State) → Known on p c s t
    → (ts : List ParamSlot) (es : List Expression) (before after : Roots) → length ts ≡ length es
    → in_turn (to_slot p c) (zip ts es) before ≡ Holds after → AllIn on (of_each (slot_uses p c) (zip ts es))
    → ArgumentsAlike on p s t es
arguments_alike on p c s t k [] [] before after n h i = record {
  same = refl;
  stand = λ xs e. let none : [] ≡ xs = cc e in subst (EachFromOn on) none tt;
}
arguments_alike on p c s t k [] (e ∷ es) before after n h i = absurd (omega (arith, n))
arguments_alike on p c s t k (w ∷ ws) [] before after n h i = absurd (omega (arith, n))
arguments_alike on p c s t k (w ∷ ws) (e ∷ es) before after n h i =
    let a = first_holds (to_slot p c (w, e) before) (in_turn (to_slot p c) (zip ws es)) after h in
    let rest : Uses = of_each (slot_uses p c) (zip ws es) in
    let one : ArgumentAlike on p s t e = form_argument on p c s t k w.form w.away e before a.0 a.1
    (in_left on (argument_uses p c w.form e) rest i) in
    let more : ArgumentsAlike on p s t es = arguments_alike on p c s t k ws es a.0 after (omega (arith, n)) a.2
    (in_right on (argument_uses p c w.form e) rest i) in
    record {
      same = ap (λ (z : Outcome Argument). z >>= λ x. each_argument p s es >>= λ xs. Fine (x ∷ xs)) one.same
          ∙ ap (λ (z : Outcome (List Argument)). argument p t e >>= λ x. z >>= λ xs. Fine (x ∷ xs)) more.same;
      stand = λ xs j.
          let x = fine_first (argument p s e) (λ x. each_argument p s es >>= λ xs. Fine (x ∷ xs)) xs j in
          let y = fine_first (each_argument p s es) (λ xs. Fine (x.0 ∷ xs)) xs x.2 in
          let same : x.0 ∷ y.0 ≡ xs = cc (y.2) in
          subst (EachFromOn on) same (one.stands x.0 x.1, more.stand y.0 y.1);
    }

-- ---- the receiver

-- The path to the receiver of a judged call leads to the same place.
pub receiver_same : (on : Resource → Bool) (p : Code) (c : Context) (s t : State) → Known on p c s t → (new : ℕ → ℕ)
    (m : Definition) (me : Option Me) (ts : List ParamSlot) (path : Path) (es : List Expression)
    (before after : Roots) → is_some me ≡ true
    → in_turn (to_slot p c) (zip (if_some (option_map (me_slot p new m) me) ts) (Read path ∷ es)) before ≡ Holds after
    → AllIn on (of_each (slot_uses p c) (zip (if_some (option_map (me_slot p new m) me) ts) (Read path ∷ es)))
    → walk_to p s path ≡ walk_to p t path
receiver_same on p c s t k new m None ts path es before after n h i = absurd (cc n)
receiver_same on p c s t k new m (Some me) ts path es before after n h i =
    let a = first_holds (to_slot p c (me_slot p new m me, Read path) before) (in_turn (to_slot p c) (zip ts es)) after
    h in
    let b = first_holds (walk p c path) _ a.0 a.1 in
    (given_alike on p c s t k _ path b.0 b.1
    (in_left on (slot_uses p c (me_slot p new m me, Read path)) (of_each (slot_uses p c) (zip ts es)) i)).same
