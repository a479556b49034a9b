-- From states that agree on what a judged expression uses it comes to the same.
use Rattle.std.proofs.Common.{◌≡◌, refl, ap, ◌∙◌, ℕ, length, Bool, List, [], ◌∷◌, zip, Option, None}
use Rattle.std.proofs.Common.{Some, not, neg_ℤ, pos, arith}
use Rattle.std.specs.Prelude.{⊤}
use Rattle.ae_text.specs.declared.refusal.Spot.{Spot}
use Rattle.ae_text.specs.declared.refusal.Rule.TheVariants as rule
use Rattle.ae_tree.specs.declared.tree.Path.{Path}
use Rattle.ae_tree.specs.declared.form.Perm.{Perm}
use Rattle.ae_tree.specs.declared.form.Kind.{Kind}
use Rattle.ae_tree.specs.declared.form.Form.{Form}
use Rattle.ae_tree.specs.declared.form.Form.TheVariants as f
use Rattle.ae_tree.specs.Plain.{Code, Expression, Number, Truth, Nothing, Read, Item, Length, Grouped, Negated}
use Rattle.ae_tree.specs.Plain.{Minus, Binary}
use Rattle.ae_rules.specs.declared.uses.Resource.{Resource}
use Rattle.ae_rules.specs.declared.uses.Mode.TheVariants as mode
use Rattle.ae_rules.specs.Verdict.{Holds, require, in_turn, given}
use Rattle.ae_rules.specs.Forms.{is_ints}
use Rattle.ae_rules.specs.Context.{Context, access}
use Rattle.ae_rules.specs.Walks.{Place, walk}
use Rattle.ae_rules.specs.Expressions.{expression_spot, Operands, Numbers, Truths, Equals, operands, result_form}
use Rattle.ae_rules.specs.Expressions.{has_form, Compared, path_beside_null, beside_null, equal_operands}
use Rattle.ae_rules.specs.Expressions.{judge_operands, judge_value}
use Rattle.ae_rules.specs.Into.{moves, fits, name_into, into}
use Rattle.ae_rules.specs.Calls.{Filled, fills}
use Rattle.ae_rules.specs.Uses.{◌∪◌, of_each, of_found, read_use, write_use, walk_uses, path_uses, end_uses, value_uses}
use Rattle.ae_rules.specs.Uses.{into_uses}
use Rattle.ae_semantics.specs.Values.{Val, OfInt, OfBool}
use Rattle.ae_semantics.specs.Places.{Outcome, Fine, ◌>>=◌, State, PlaceFound, OpenedObject, walk_to, open_place}
use Rattle.ae_semantics.specs.Expressions.{number, truth, fitted, numbers, item, both, value}
use Rattle.ae_semantics.specs.Meaning.{each_value}
use Rattle.ae_soundness.specs.Fits.{FitsContext}
use Rattle.ae_needs.specs.Agree.{Agree}
use Rattle.ae_needs.proofs.AgreeLemmas.{AllIn, in_left, in_right, in_local}
use Rattle.ae_needs.proofs.WalkLemmas.{WalksAlike, walk_alike, ReachesAlike, reach_alike}
use Rattle.ae_needs.proofs.from_rules.PathLemmas.{first_holds}
use Rattle.ae_needs.proofs.from_semantics.Walked.{bind_same}
use Rattle.ae_needs.proofs.from_soundness.ValueLemmas.{judged_so}
use Rattle.ae_needs.proofs.from_soundness.RightLemmas.{FilledWith, filled_one}

-- two states that agree, the one of which fits what is known
pub record Known (on : Resource → Bool) (p : Code) (c : Context) (s t : State) : Type 0 where
  pub fits : FitsContext p c s
  pub agree : Agree on s t

-- From both states the expression comes to the same.
abbrev pub IsSame : Code → State → State → Expression → Type 0
IsSame p s t e = value p s e ≡ value p t e

-- ---- paths

-- A judged walk is the same.
pub path_alike : (on : Resource → Bool) (p : Code) (c : Context) (s t : State) → Known on p c s t → (path : Path)
    (w : Place) → walk p c path ≡ Holds w → AllIn on (path_uses p c path) → WalksAlike on p s t path w
path_alike on p c s t k path w e i = walk_alike on p c s t path w k.fits k.agree e
    (in_local on mode.Read path.root.name (in_left on (read_use path.root.name) (walk_uses p c path) i))
    (in_right on (read_use path.root.name) (walk_uses p c path) i)

read_same : (on : Resource → Bool) (p : Code) (c : Context) (s t : State) → Known on p c s t → (path : Path)
    (w : Place) → walk p c path ≡ Holds w → AllIn on (path_uses p c path) → IsSame p s t (Read path)
read_same on p c s t k path w e i = ap (λ (r : Outcome PlaceFound). r >>= λ x. Fine x.value)
    (path_alike on p c s t k path w e i).same

-- ---- operands

null_beside : (on : Resource → Bool) (p : Code) (c : Context) (s t : State) → Known on p c s t → (b : Expression)
    (at : Spot) (pair : Compared) (w : Place) → path_beside_null b at ≡ Some pair → walk p c pair.path ≡ Holds w
    → AllIn on (value_uses p c b) → IsSame p s t b
null_beside on p c s t k (Number n y) at pair w e h i = absurd (cc e)
null_beside on p c s t k (Truth n y) at pair w e h i = absurd (cc e)
null_beside on p c s t k (Nothing y) at pair w e h i = absurd (cc e)
null_beside on p c s t k (Read path) at pair w e h i =
    let same : path ≡ pair.path = ap (λ o. given o path (λ (x : Compared). x.path)) e in
    read_same on p c s t k path w (ap (walk p c) same ∙ h) i
null_beside on p c s t k (Item path j) at pair w e h i = absurd (cc e)
null_beside on p c s t k (Length path y) at pair w e h i = absurd (cc e)
null_beside on p c s t k (Grouped j y) at pair w e h i = absurd (cc e)
null_beside on p c s t k (Negated j y) at pair w e h i = absurd (cc e)
null_beside on p c s t k (Minus j y) at pair w e h i = absurd (cc e)
null_beside on p c s t k (Binary o j l) at pair w e h i = absurd (cc e)

-- both operands come to the same
abbrev BothSame : Code → State → State → Expression → Expression → Type 0
BothSame p s t a b = IsSame p s t a × IsSame p s t b

path_beside : (on : Resource → Bool) (p : Code) (c : Context) (s t : State) → Known on p c s t → (path : Path)
    (b : Expression) (pair : Compared) (w : Place) → beside_null (Read path) b ≡ Some pair
    → walk p c pair.path ≡ Holds w → AllIn on (path_uses p c path) → BothSame p s t (Read path) b
path_beside on p c s t k path (Nothing y) pair w e h i =
    let same : path ≡ pair.path = ap (λ o. given o path (λ (x : Compared). x.path)) e in
    (read_same on p c s t k path w (ap (walk p c) same ∙ h) i, refl)
path_beside on p c s t k path (Number n y) pair w e h i = absurd (cc e)
path_beside on p c s t k path (Truth n y) pair w e h i = absurd (cc e)
path_beside on p c s t k path (Read other) pair w e h i = absurd (cc e)
path_beside on p c s t k path (Item other j) pair w e h i = absurd (cc e)
path_beside on p c s t k path (Length other y) pair w e h i = absurd (cc e)
path_beside on p c s t k path (Grouped j y) pair w e h i = absurd (cc e)
path_beside on p c s t k path (Negated j y) pair w e h i = absurd (cc e)
path_beside on p c s t k path (Minus j y) pair w e h i = absurd (cc e)
path_beside on p c s t k path (Binary o j l) pair w e h i = absurd (cc e)

pair_same : (on : Resource → Bool) (p : Code) (c : Context) (s t : State) → Known on p c s t → (a b : Expression)
    (pair : Compared) (w : Place) → beside_null a b ≡ Some pair → walk p c pair.path ≡ Holds w
    → AllIn on (value_uses p c a) → AllIn on (value_uses p c b) → BothSame p s t a b
pair_same on p c s t k (Number n y) b pair w e h i j = absurd (cc e)
pair_same on p c s t k (Truth n y) b pair w e h i j = absurd (cc e)
pair_same on p c s t k (Nothing y) b pair w e h i j = (refl, null_beside on p c s t k b y pair w e h j)
pair_same on p c s t k (Read path) b pair w e h i j = path_beside on p c s t k path b pair w e h i
pair_same on p c s t k (Item path l) b pair w e h i j = absurd (cc e)
pair_same on p c s t k (Length path y) b pair w e h i j = absurd (cc e)
pair_same on p c s t k (Grouped l y) b pair w e h i j = absurd (cc e)
pair_same on p c s t k (Negated l y) b pair w e h i j = absurd (cc e)
pair_same on p c s t k (Minus l y) b pair w e h i j = absurd (cc e)
pair_same on p c s t k (Binary o l m) b pair w e h i j = absurd (cc e)

-- where the expression is judged it comes to the same
abbrev SameWhereJudged : Code → Context → State → State → Expression → Type 0
SameWhereJudged p c s t e = (u : Form) → judge_value p c e ≡ Holds u → IsSame p s t e

equals_same : (on : Resource → Bool) (p : Code) (c : Context) (s t : State) → Known on p c s t → (a b : Expression)
    → SameWhereJudged p c s t a → SameWhereJudged p c s t b → AllIn on (value_uses p c a) → AllIn on (value_uses p c b)
    → (pair : Option Compared) → beside_null a b ≡ pair → (u : ⊤)
    → equal_operands p c pair (judge_value p c a) (judge_value p c b) (expression_spot b) ≡ Holds u
    → BothSame p s t a b
equals_same on p c s t k a b x y i j None n u e =
    let q = first_holds (judge_value p c a) (λ t. has_form t (judge_value p c b) (expression_spot b)) u e in
    (x q.0 q.1, y q.0 (judged_so q.0 (judge_value p c b) (expression_spot b) u q.2).0)
equals_same on p c s t k a b x y i j (Some pair) n u e =
    let q = first_holds (walk p c pair.path) _ u e in pair_same on p c s t k a b pair q.0 n q.1 i j

operands_same : (on : Resource → Bool) (p : Code) (c : Context) (s t : State) → Known on p c s t → (a b : Expression)
    → SameWhereJudged p c s t a → SameWhereJudged p c s t b → AllIn on (value_uses p c a) → AllIn on (value_uses p c b)
    → (o : Operands) (u : ⊤) → judge_operands p c o a b (judge_value p c a) (judge_value p c b) ≡ Holds u
    → BothSame p s t a b
operands_same on p c s t k a b x y i j Numbers u e =
    let q = first_holds (has_form f.Int (judge_value p c a) (expression_spot a)) _ u e in (
      x f.Int (judged_so f.Int (judge_value p c a) (expression_spot a) q.0 q.1).0,
      y f.Int (judged_so f.Int (judge_value p c b) (expression_spot b) u q.2).0,
    )
operands_same on p c s t k a b x y i j Truths u e =
    let q = first_holds (has_form f.Bool (judge_value p c a) (expression_spot a)) _ u e in (
      x f.Bool (judged_so f.Bool (judge_value p c a) (expression_spot a) q.0 q.1).0,
      y f.Bool (judged_so f.Bool (judge_value p c b) (expression_spot b) u q.2).0,
    )
operands_same on p c s t k a b x y i j Equals u e = equals_same on p c s t k a b x y i j (beside_null a b) refl u e

-- ---- expressions

-- A judged expression comes to the same.
pub value_alike : (on : Resource → Bool) (p : Code) (c : Context) (s t : State) → Known on p c s t → (e : Expression)
    (u : Form) → judge_value p c e ≡ Holds u → AllIn on (value_uses p c e) → IsSame p s t e
value_alike on p c s t k (Number n at) u h i = refl
value_alike on p c s t k (Truth b at) u h i = refl
value_alike on p c s t k (Nothing at) u h i = refl
value_alike on p c s t k (Read path) u h i =
    let a = first_holds (walk p c path) _ u h in read_same on p c s t k path a.0 a.1 i
value_alike on p c s t k (Item path j) u h i =
    let a = first_holds (walk p c path) _ u h in
    let b = first_holds (require (is_ints a.0.form) rule.TypeMismatch path.root.at) _ u a.2 in
    let d = first_holds (access c path.root.at a.0.held) _ u b.2 in
    let q = first_holds (has_form f.Int (judge_value p c j) (expression_spot j)) (λ _. Holds f.Int) u d.2 in
    let rest : AllIn on (end_uses p c path ∪ value_uses p c j) = in_right on (read_use path.root.name)
    (end_uses p c path ∪ value_uses p c j) i in
    let r : ReachesAlike on p s t path = reach_alike on p c s t path a.0 path.root.at d.0 k.fits k.agree a.1 d.1
    (in_local on mode.Read path.root.name
    (in_left on (read_use path.root.name) (end_uses p c path ∪ value_uses p c j) i))
    (in_left on (end_uses p c path) (value_uses p c j) rest) in
    let same : IsSame p s t j = value_alike on p c s t k j f.Int
    (judged_so f.Int (judge_value p c j) (expression_spot j) q.0 q.1).0
    (in_right on (end_uses p c path) (value_uses p c j) rest) in
    bind_same (walk_to p s path) (λ x. value p s j >>= λ v. number v >>= λ n. open_place p s x >>= λ o. item o n)
    (λ x. value p t j >>= λ v. number v >>= λ n. open_place p t x >>= λ o. item o n)
    (λ x y. ap (λ (o : Outcome OpenedObject). value p s j >>= λ v. number v >>= λ n. o >>= λ o. item o n) (r.opens x y)
    ∙ ap (λ (z : Outcome Val). z >>= λ v. number v >>= λ n. open_place p t x >>= λ o. item o n) same)
    ∙ ap (λ (z : Outcome PlaceFound). z >>= λ x. value p t j >>= λ v. number v >>= λ n. open_place p t x
    >>= λ o. item o n) r.walks
value_alike on p c s t k (Length path at) u h i =
    let a = first_holds (walk p c path) _ u h in
    let b = first_holds (require (is_ints a.0.form) rule.TypeMismatch path.root.at) _ u a.2 in
    let d = first_holds (access c path.root.at a.0.held) (λ _. Holds f.Int) u b.2 in
    ap (λ (o : Outcome OpenedObject). o >>= λ o. numbers o.tree >>= λ ns. Fine (OfInt (pos (length ns))))
    (reach_alike on p c s t path a.0 path.root.at d.0 k.fits k.agree a.1 d.1
    (in_local on mode.Read path.root.name (in_left on (read_use path.root.name) (end_uses p c path) i))
    (in_right on (read_use path.root.name) (end_uses p c path) i)).same
value_alike on p c s t k (Grouped j at) u h i = value_alike on p c s t k j u h i
value_alike on p c s t k (Negated j at) u h i =
    let q = first_holds (has_form f.Bool (judge_value p c j) (expression_spot j)) (λ _. Holds f.Bool) u h in
    ap (λ (y : Outcome Val). y >>= λ v. truth v >>= λ b. Fine (OfBool (not b)))
    (value_alike on p c s t k j f.Bool (judged_so f.Bool (judge_value p c j) (expression_spot j) q.0 q.1).0 i)
value_alike on p c s t k (Minus j at) u h i =
    let q = first_holds (has_form f.Int (judge_value p c j) (expression_spot j)) (λ _. Holds f.Int) u h in
    ap (λ (y : Outcome Val). y >>= λ v. number v >>= λ n. fitted (neg_ℤ n))
    (value_alike on p c s t k j f.Int (judged_so f.Int (judge_value p c j) (expression_spot j) q.0 q.1).0 i)
value_alike on p c s t k (Binary o a b) u h i =
    let q = first_holds (judge_operands p c (operands o) a b (judge_value p c a) (judge_value p c b))
    (λ _. Holds (result_form o)) u h in
    let x : AllIn on (value_uses p c a) = in_left on (value_uses p c a) (value_uses p c b) i in
    let y : AllIn on (value_uses p c b) = in_right on (value_uses p c a) (value_uses p c b) i in
    let r : BothSame p s t a b = operands_same on p c s t k a b (λ v j. value_alike on p c s t k a v j x)
    (λ v j. value_alike on p c s t k b v j y) x y (operands o) q.0 q.1 in
    ap (λ (z : Outcome Val). z >>= λ v. both o v (λ _. value p s b)) r.0
    ∙ ap (λ (z : Outcome Val). value p t a >>= λ v. both o v (λ _. z)) r.1

-- An expression that is judged to be of a form comes to the same.
pub form_alike : (on : Resource → Bool) (p : Code) (c : Context) (s t : State) → Known on p c s t → (e : Expression)
    (wanted : Form) (u : ⊤) → has_form wanted (judge_value p c e) (expression_spot e) ≡ Holds u
    → AllIn on (value_uses p c e) → IsSame p s t e
form_alike on p c s t k e wanted u h i = value_alike on p c s t k e wanted
    (judged_so wanted (judge_value p c e) (expression_spot e) u h).0 i

-- ---- into a form

object_same : (on : Resource → Bool) (p : Code) (c : Context) (s t : State) → Known on p c s t → (q : Perm) (l : Kind)
    (e : Expression) (u : ⊤) → fits p c (f.Object q l) e ≡ Holds u → AllIn on (into_uses p c (f.Object q l) e)
    → IsSame p s t e
object_same on p c s t k q l (Nothing at) u h i = refl
object_same on p c s t k q l (Read path) u h i =
    let a = first_holds (walk p c path) _ u h in
    read_same on p c s t k path a.0 a.1 (in_left on (path_uses p c path) (of_found (moves q path) write_use) i)
object_same on p c s t k q l (Number n at) u h i = refl
object_same on p c s t k q l (Truth b at) u h i = refl
object_same on p c s t k q l (Item path j) u h i = absurd (cc h)
object_same on p c s t k q l (Length path at) u h i = absurd (cc h)
object_same on p c s t k q l (Grouped j at) u h i = absurd (cc h)
object_same on p c s t k q l (Negated j at) u h i = absurd (cc h)
object_same on p c s t k q l (Minus j at) u h i = absurd (cc h)
object_same on p c s t k q l (Binary o a b) u h i = absurd (cc h)

fitting_same : (on : Resource → Bool) (p : Code) (c : Context) (s t : State) → Known on p c s t → (w : Form)
    (e : Expression) (u : ⊤) → fits p c w e ≡ Holds u → AllIn on (into_uses p c w e) → IsSame p s t e
fitting_same on p c s t k f.Int e u h i = form_alike on p c s t k e f.Int u h i
fitting_same on p c s t k f.Bool e u h i = form_alike on p c s t k e f.Bool u h i
fitting_same on p c s t k (f.Object q l) e u h i = object_same on p c s t k q l e u h i

-- An expression that is judged to go into a form comes to the same.
pub into_alike : (on : Resource → Bool) (p : Code) (c : Context) (s t : State) → Known on p c s t → (w : Form)
    (e : Expression) (name : Option ℕ) → into p c w e ≡ Holds name → AllIn on (into_uses p c w e) → IsSame p s t e
into_alike on p c s t k w e name h i =
    let a = first_holds (fits p c w e) (λ _. Holds (name_into w e)) name h in
    fitting_same on p c s t k w e a.0 a.1 i

-- Expressions that are judged to fill the fields of a new object come to the same.
pub fillings_alike : (on : Resource → Bool) (p : Code) (c : Context) (s t : State) → Known on p c s t
    → (ws : List Form) (es : List Expression) (before after : Filled) → length es ≡ length ws
    → in_turn (fills p c) (zip ws es) before ≡ Holds after
    → AllIn on (of_each (λ (y : Form × Expression). into_uses p c y.0 y.1) (zip ws es))
    → each_value p s es ≡ each_value p t es
fillings_alike on p c s t k [] [] before after n h i = refl
fillings_alike on p c s t k [] (e ∷ es) before after n h i = absurd (omega (arith, n))
fillings_alike on p c s t k (w ∷ ws) [] before after n h i = refl
fillings_alike on p c s t k (w ∷ ws) (e ∷ es) before after n h i =
    let a = first_holds (fills p c (w, e) before) (in_turn (fills p c) (zip ws es)) after h in
    let b : FilledWith p c (w, e) before a.0 = filled_one p c (w, e) before a.0 a.1 in
    let rest = of_each (λ (y : Form × Expression). into_uses p c y.0 y.1) (zip ws es) in
    ap (λ (z : Outcome Val). z >>= λ v. each_value p s es >>= λ vs. Fine (v ∷ vs))
    (into_alike on p c s t k w e b.name b.goes (in_left on (into_uses p c w e) rest i))
    ∙ ap (λ (z : Outcome (List Val)). value p t e >>= λ v. z >>= λ vs. Fine (v ∷ vs))
    (fillings_alike on p c s t k ws es a.0 after (omega (arith, n)) a.2
    (in_right on (into_uses p c w e) rest i))
