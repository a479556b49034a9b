-- A judged expression is found, from a state that fits.
use Rattle.std.proofs.Common.{◌≡◌, ◌⊎◌, inl, inr, refl, sym, ap, ◌∙◌, subst, ℕ, ℤ, pos, negsuc, nat_lt}
use Rattle.std.proofs.Common.{Bool, true, false, ◌&&◌, not, if◌then◌else◌, List, [], ◌∷◌, length, Option, None}
use Rattle.std.proofs.Common.{Some}
use Rattle.std.specs.Prelude.{⊤, neg_ℤ}
use Rattle.std.proofs.lemmas.Bool.{ltb-true, not-true}
use Rattle.std.proofs.lemmas.Option.{slice_get-get_or}
use Rattle.ae_text.specs.declared.refusal.Spot.{Spot}
use Rattle.ae_text.specs.declared.refusal.Rule.TheVariants as rule
use Rattle.ae_tree.specs.declared.tree.NameAt.{NameAt}
use Rattle.ae_tree.specs.declared.tree.Path.{Path}
use Rattle.ae_tree.specs.declared.tree.Op.{Op}
use Rattle.ae_tree.specs.declared.form.Perm.{Perm}
use Rattle.ae_tree.specs.declared.form.Kind.TheVariants as kind
use Rattle.ae_tree.specs.declared.form.Form.{Form}
use Rattle.ae_tree.specs.declared.form.Form.TheVariants as f
use Rattle.ae_tree.specs.Plain.{Code, Expression, Number, Truth, Nothing, Read, Item, Length, Grouped, Negated, Minus}
use Rattle.ae_tree.specs.Plain.{Binary}
use Rattle.ae_rules.specs.declared.held.Held.TheVariants as held
use Rattle.ae_rules.specs.Verdict.{Verdict, Holds, require, found, given, in_turn}
use Rattle.ae_rules.specs.Forms.{same_value, is_object, is_ints}
use Rattle.ae_rules.specs.Lookups.{is_empty}
use Rattle.ae_rules.specs.Context.{Local, Context, access, held_in, holds_nothing}
use Rattle.ae_rules.specs.Walks.{Place, step, walk, is_name}
use Rattle.ae_rules.specs.Expressions.{expression_spot, Operands, Numbers, Truths, Equals, operands, result_form}
use Rattle.ae_rules.specs.Expressions.{has_form, Compared, path_beside_null, beside_null}
use Rattle.ae_rules.specs.Expressions.{equal_operands, judge_operands, judge_value}
use Rattle.ae_semantics.specs.Values.{Val, OfInt, OfBool, Null, Tree, Object, Array, is_of_kind}
use Rattle.ae_semantics.specs.Places.{Outcome, Fine, Traps, ◌>>=◌, State, PlaceFound}
use Rattle.ae_semantics.specs.Places.{open_place, walk_to, reach}
use Rattle.ae_semantics.specs.Expressions.{fitted, numbers, index}
use Rattle.ae_semantics.specs.Expressions.{item_at, item, both, value}
use Rattle.ae_soundness.specs.Fits.{IsOfForm, SameButPermission, place_held, has_value, FieldsHaveMembers}
use Rattle.ae_soundness.specs.Fits.{FitsContext}
use Rattle.ae_soundness.specs.Laws.{IsFoundAs, IsValueOf, ValuesAreFound}
use Rattle.ae_soundness.proofs.OperatorLemmas.{then_value, then_place, then_object, then_number, then_truth}
use Rattle.ae_soundness.proofs.OperatorLemmas.{fitted_value, operated, numbers_value, truths_value, compared_value}
use Rattle.ae_soundness.proofs.OperatorLemmas.{alike_compared, read_of, null_compared, compared_null}
use Rattle.ae_soundness.proofs.PlaceLemmas.{object_known, reached_value, paths_are_found, objects_are_reached}
use Rattle.ae_soundness.proofs.from_rules.PathLemmas.{first_holds}
use Rattle.ae_soundness.proofs.from_rules.SeenLemmas.{found_is, required}

-- ---- `null` and a path

path_value : (p : Code) (s : State) (b : Expression) (at : Spot) (pair : Compared) → path_beside_null b at ≡ Some pair
    → value p s b ≡ read_of (walk_to p s pair.path)
path_value p s (Number n y) at pair e = absurd (cc)
path_value p s (Truth n y) at pair e = absurd (cc)
path_value p s (Nothing y) at pair e = absurd (cc)
path_value p s (Read path) at pair e = ap
    (λ o. read_of (walk_to p s (given o path (λ (x : Compared). x.path)))) e
path_value p s (Item path i) at pair e = absurd (cc)
path_value p s (Length path y) at pair e = absurd (cc)
path_value p s (Grouped i y) at pair e = absurd (cc)
path_value p s (Negated i y) at pair e = absurd (cc)
path_value p s (Minus i y) at pair e = absurd (cc)
path_value p s (Binary o i j) at pair e = absurd (cc)

-- one of two outcomes is null, and the other is the path's
abbrev AreNullAnd : Outcome Val → Outcome Val → Outcome Val → Type 0
AreNullAnd r a b = ((a ≡ Fine Null) × (b ≡ r)) ⊎ ((a ≡ r) × (b ≡ Fine Null))

path_and_value : (p : Code) (s : State) (path : Path) (b : Expression) (pair : Compared)
    → beside_null (Read path) b ≡ Some pair
    → AreNullAnd (read_of (walk_to p s pair.path)) (value p s (Read path)) (value p s b)
path_and_value p s path (Number n y) pair e = absurd (cc)
path_and_value p s path (Truth n y) pair e = absurd (cc)
path_and_value p s path (Nothing y) pair e = inr
    (ap (λ o. read_of (walk_to p s (given o path (λ (x : Compared). x.path)))) e, refl)
path_and_value p s path (Read other) pair e = absurd (cc)
path_and_value p s path (Item other i) pair e = absurd (cc)
path_and_value p s path (Length other y) pair e = absurd (cc)
path_and_value p s path (Grouped i y) pair e = absurd (cc)
path_and_value p s path (Negated i y) pair e = absurd (cc)
path_and_value p s path (Minus i y) pair e = absurd (cc)
path_and_value p s path (Binary o i j) pair e = absurd (cc)

pair_values : (p : Code) (s : State) (a b : Expression) (pair : Compared) → beside_null a b ≡ Some pair
    → AreNullAnd (read_of (walk_to p s pair.path)) (value p s a) (value p s b)
pair_values p s (Number n y) b pair e = absurd (cc)
pair_values p s (Truth n y) b pair e = absurd (cc)
pair_values p s (Nothing y) b pair e = inl (refl, path_value p s b y pair e)
pair_values p s (Read path) b pair e = path_and_value p s path b pair e
pair_values p s (Item path i) b pair e = absurd (cc)
pair_values p s (Length path y) b pair e = absurd (cc)
pair_values p s (Grouped i y) b pair e = absurd (cc)
pair_values p s (Negated i y) b pair e = absurd (cc)
pair_values p s (Minus i y) b pair e = absurd (cc)
pair_values p s (Binary o i j) b pair e = absurd (cc)

pair_compared : (p : Code) (o : Op) → operands o ≡ Equals → (w : Place) → is_object w.form ≡ true
    → (r : Outcome PlaceFound) → IsFoundAs p w r → (a b : Outcome Val) → AreNullAnd (read_of r) a b
    → IsValueOf p (result_form o) (operated o a b)
pair_compared p o d w e r h a b (inl x) = rw (x.0, x.1)
    (compared_value p o d Null (read_of r) (null_compared p w e r h))
pair_compared p o d w e r h a b (inr x) = rw (x.0, x.1) (compared_null p o d w e r h)

-- a bare name of which something is held has a value
held_name : (p : Code) (c : Context) (at : Spot) (xs : List NameAt) (w u : Place) → in_turn (step p c at) xs w
    ≡ Holds u → holds_nothing w.held ≡ false → is_empty xs ≡ true → has_value u ≡ true
held_name p c at [] w u e h n =
    let same : w ≡ u = cc e in
    subst (λ (y : Place). has_value y ≡ true) same (rw h refl)
held_name p c at (x ∷ xs) w u e h n = absurd (cc n)

name_value : (p : Code) (c : Context) (path : Path) (w : Place) → walk p c path ≡ Holds w
    → not (holds_nothing (held_in c path.root.name)) ≡ true → is_name path ≡ true → has_value w ≡ true
name_value p c path w e h =
    let a = first_holds (found (c.local path.root.name) rule.UnknownName path.root.at) _ w e in
    let visible : c.local path.root.name ≡ Some a.0 = found_is (c.local path.root.name) rule.UnknownName path.root.at
    a.0 a.1 in
    let nothing : holds_nothing (held_in c path.root.name) ≡ false = not-true
    (holds_nothing (held_in c path.root.name)) h
    in held_name p c path.root.at path.steps (place_held a.0) w a.2
    (subst (λ (o : Option Local). holds_nothing (given o held.None (λ (l : Local). l.held)) ≡ false) visible nothing)

-- ---- operands

-- an expression that is judged to be of a form comes to a value of it
abbrev IsFound : Code → Context → State → Expression → Type 0
IsFound p c s e = (t : Form) → judge_value p c e ≡ Holds t → IsValueOf p t (value p s e)

same_is : (t u : Form) → same_value t u ≡ true → (t ≡ u) × (same_value t t ≡ true)
same_is f.Int f.Int e = (refl, refl)
same_is f.Int f.Bool e = absurd (cc)
same_is f.Int (f.Object q k) e = absurd (cc)
same_is f.Bool f.Int e = absurd (cc)
same_is f.Bool f.Bool e = (refl, refl)
same_is f.Bool (f.Object q k) e = absurd (cc)
same_is (f.Object q k) f.Int e = absurd (cc)
same_is (f.Object q k) f.Bool e = absurd (cc)
same_is (f.Object q k) (f.Object r l) e = absurd (cc)

-- What is tested for a form was judged to be of it.
pub judged_so : (wanted : Form) (v : Verdict Form) (at : Spot) (u : ⊤) → has_form wanted v at ≡ Holds u
    → (v ≡ Holds wanted) × (same_value wanted wanted ≡ true)
judged_so wanted v at u e =
    let a = first_holds v (λ t. require (same_value wanted t) rule.TypeMismatch at) u e in
    let b = same_is wanted a.0 (required (same_value wanted a.0) rule.TypeMismatch at u a.2) in
    (a.1 ∙ ap Holds (sym b.0), b.1)

equals_found : (p : Code) (c : Context) (s : State) (o : Op) (a b : Expression) → FieldsHaveMembers p
    → FitsContext p c s → IsFound p c s a → IsFound p c s b → operands o ≡ Equals → (pair : Option Compared)
    → beside_null a b ≡ pair → (u : ⊤)
    → equal_operands p c pair (judge_value p c a) (judge_value p c b) (expression_spot b) ≡ Holds u
    → IsValueOf p (result_form o) (operated o (value p s a) (value p s b))
equals_found p c s o a b m z h k d None n u e =
    let x = first_holds (judge_value p c a) (λ t. has_form t (judge_value p c b) (expression_spot b)) u e in
    let y = judged_so x.0 (judge_value p c b) (expression_spot b) u x.2 in
    then_value p x.0 (result_form o) (value p s a) (λ v. both o v (λ _. value p s b)) (h x.0 x.1)
    (λ v i. compared_value p o d v (value p s b) (alike_compared p x.0 y.1 v i (value p s b) (k x.0 y.0)))
equals_found p c s o a b m z h k d (Some pair) n u e =
    let x = first_holds (walk p c pair.path) _ u e in
    let w : Place = x.0 in
    let y = first_holds (require (is_object w.form) rule.TypeMismatch pair.null_at) _ u x.2 in
    let object : is_object w.form ≡ true = required (is_object w.form) rule.TypeMismatch pair.null_at y.0 y.1 in
    let held : not (holds_nothing (held_in c pair.path.root.name)) ≡ true = required
    (not (holds_nothing (held_in c pair.path.root.name))) rule.NoPermission pair.path.root.at u y.2
    in pair_compared p o d w object (walk_to p s pair.path)
    (paths_are_found p c s pair.path w m z x.1 (name_value p c pair.path w x.1 held)) (value p s a) (value p s b)
    (pair_values p s a b pair n)

operands_found : (p : Code) (c : Context) (s : State) (o : Op) (a b : Expression) → FieldsHaveMembers p
    → FitsContext p c s → IsFound p c s a → IsFound p c s b → (k : Operands) → operands o ≡ k → (u : ⊤)
    → judge_operands p c k a b (judge_value p c a) (judge_value p c b) ≡ Holds u
    → IsValueOf p (result_form o) (operated o (value p s a) (value p s b))
operands_found p c s o a b m z h k Numbers d u e =
    let x = first_holds (has_form f.Int (judge_value p c a) (expression_spot a)) _ u e
    in numbers_value p o d (value p s a) (value p s b)
    (h f.Int (judged_so f.Int (judge_value p c a) (expression_spot a) x.0 x.1).0)
    (k f.Int (judged_so f.Int (judge_value p c b) (expression_spot b) u x.2).0)
operands_found p c s o a b m z h k Truths d u e =
    let x = first_holds (has_form f.Bool (judge_value p c a) (expression_spot a)) _ u e
    in truths_value p o d (value p s a) (value p s b)
    (h f.Bool (judged_so f.Bool (judge_value p c a) (expression_spot a) x.0 x.1).0)
    (k f.Bool (judged_so f.Bool (judge_value p c b) (expression_spot b) u x.2).0)
operands_found p c s o a b m z h k Equals d u e = equals_found p c s o a b m z h k d (beside_null a b) refl u e

-- ---- arrays

then_numbers : (p : Code) (t : Tree) (go : List ℤ → Outcome Val) → is_of_kind p kind.Ints t ≡ true
    → ((ns : List ℤ) → IsValueOf p f.Int (go ns)) → IsValueOf p f.Int (numbers t >>= go)
then_numbers p (Array ns) go e h = h ns
then_numbers p (Object x xs) go e h = absurd (cc)

item_there : (p : Code) (ns : List ℤ) (i : ℕ) (b : Bool) → nat_lt i (length ns) ≡ b
    → IsValueOf p f.Int ((if b then Fine i else Traps 4) >>= item_at ns)
item_there p ns i true e =
    let there_is = slice_get-get_or ns i (pos 0) (ltb-true i (length ns) e) in
    rw there_is (refl, tt)
item_there p ns i false e = tt

item_value : (p : Code) (ns : List ℤ) (z : ℤ) → IsValueOf p f.Int (index ns z >>= item_at ns)
item_value p ns (pos i) = item_there p ns i (nat_lt i (length ns)) refl
item_value p ns (negsuc i) = tt

-- A form of integers is that of an object with some permission.
pub ints_is : (t : Form) → is_ints t ≡ true → (q : Perm) × (t ≡ f.Object q kind.Ints)
ints_is f.Int e = absurd (cc)
ints_is f.Bool e = absurd (cc)
ints_is (f.Object q kind.Ints) e = (q, refl)
ints_is (f.Object q (kind.Class c gs)) e = absurd (cc)

-- ---- names

no_object : (p : Code) (t now : Form) (v : Val) → is_object t ≡ false → SameButPermission t now → IsOfForm p now v
    → IsOfForm p t v
no_object p f.Int f.Int v e h i = i
no_object p f.Int f.Bool v e h i = absurd h
no_object p f.Int (f.Object q k) v e h i = absurd h
no_object p f.Bool f.Int v e h i = absurd h
no_object p f.Bool f.Bool v e h i = i
no_object p f.Bool (f.Object q k) v e h i = absurd h
no_object p (f.Object q k) now v e h i = absurd (cc)

no_both : (x : Bool) → not (x && false) ≡ true
no_both true = refl
no_both false = refl

plain_value : (w : Place) → is_object w.form ≡ false → has_value w ≡ true
plain_value w e = rw e (no_both (holds_nothing w.held))

-- ---- expressions

pub values_are_found : ValuesAreFound
values_are_found p c s (Number n at) t m z e = let same : f.Int ≡ t = cc e in
    subst (λ (x : Form). IsOfForm p x (OfInt n)) same (refl, tt)
values_are_found p c s (Truth b at) t m z e = let same : f.Bool ≡ t = cc e in
    subst (λ (x : Form). IsOfForm p x (OfBool b)) same (refl, tt)
values_are_found p c s (Nothing at) t m z e = absurd (cc e)
values_are_found p c s (Read path) t m z e =
    let a = first_holds (walk p c path) _ t e in
    let w : Place = a.0 in
    let b = first_holds (require (not (is_object w.form)) rule.TypeMismatch path.root.at) (λ _. Holds w.form) t a.2 in
    let same : w.form ≡ t = cc (b.2) in
    let plain : is_object w.form ≡ false = not-true (is_object w.form)
    (required (not (is_object w.form)) rule.TypeMismatch path.root.at b.0 b.1) in
    subst (λ (x : Form). IsValueOf p x (read_of (walk_to p s path))) same
    (then_place p w w.form (walk_to p s path) (λ x. Fine x.value)
    (paths_are_found p c s path w m z a.1 (λ n. plain_value w plain))
    (λ x h. no_object p w.form x.form x.value plain h.form h.value))
values_are_found p c s (Item path i) t m z e =
    let a = first_holds (walk p c path) _ t e in
    let w : Place = a.0 in
    let b = first_holds (require (is_ints w.form) rule.TypeMismatch path.root.at) _ t a.2 in
    let d = first_holds (access c path.root.at w.held) _ t b.2 in
    let r = first_holds (has_form f.Int (judge_value p c i) (expression_spot i)) (λ _. Holds f.Int) t d.2 in
    let same : f.Int ≡ t = cc (r.2) in
    let q = ints_is w.form (required (is_ints w.form) rule.TypeMismatch path.root.at b.0 b.1) in
    subst (λ (x : Form). IsValueOf p x (value p s (Item path i))) same
    (then_place p w f.Int (walk_to p s path) _
    (paths_are_found p c s path w m z a.1 (λ n. reached_value c path.root.at w.form w.held d.0 d.1))
    (λ x h. then_value p f.Int f.Int (value p s i) _
    (values_are_found p c s i f.Int m z (judged_so f.Int (judge_value p c i) (expression_spot i) r.0 r.1).0)
    (λ v k. then_number p f.Int v _ k
    (λ n. then_object p kind.Ints f.Int (open_place p s x) (λ o. item o n)
    (object_known p c s z w x.form x.value h q.0 kind.Ints q.1 x.at path.root.at d.1)
    (λ o y. then_numbers p o.tree (λ ns. index ns n >>= item_at ns) y.1 (λ ns. item_value p ns n))))))
values_are_found p c s (Length path at) t m z e =
    let a = first_holds (walk p c path) _ t e in
    let w : Place = a.0 in
    let b = first_holds (require (is_ints w.form) rule.TypeMismatch path.root.at) _ t a.2 in
    let d = first_holds (access c path.root.at w.held) (λ _. Holds f.Int) t b.2 in
    let same : f.Int ≡ t = cc (d.2) in
    let q = ints_is w.form (required (is_ints w.form) rule.TypeMismatch path.root.at b.0 b.1) in
    subst (λ (x : Form). IsValueOf p x (value p s (Length path at))) same
    (then_object p kind.Ints f.Int (reach p s path) _
    (objects_are_reached p c s path w q.0 kind.Ints path.root.at m z a.1 q.1 d.1)
    (λ o y. then_numbers p o.tree (λ ns. Fine (OfInt (pos (length ns)))) y.1 (λ ns. (refl, tt))))
values_are_found p c s (Grouped i at) t m z e = values_are_found p c s i t m z e
values_are_found p c s (Negated i at) t m z e =
    let r = first_holds (has_form f.Bool (judge_value p c i) (expression_spot i)) (λ _. Holds f.Bool) t e in
    let same : f.Bool ≡ t = cc (r.2) in
    subst (λ (x : Form). IsValueOf p x (value p s (Negated i at))) same
    (then_value p f.Bool f.Bool (value p s i) _
    (values_are_found p c s i f.Bool m z (judged_so f.Bool (judge_value p c i) (expression_spot i) r.0 r.1).0)
    (λ v k. then_truth p f.Bool v (λ b. Fine (OfBool (not b))) k (λ b. (refl, tt))))
values_are_found p c s (Minus i at) t m z e =
    let r = first_holds (has_form f.Int (judge_value p c i) (expression_spot i)) (λ _. Holds f.Int) t e in
    let same : f.Int ≡ t = cc (r.2) in
    subst (λ (x : Form). IsValueOf p x (value p s (Minus i at))) same
    (then_value p f.Int f.Int (value p s i) _
    (values_are_found p c s i f.Int m z (judged_so f.Int (judge_value p c i) (expression_spot i) r.0 r.1).0)
    (λ v k. then_number p f.Int v (λ n. fitted (neg_ℤ n)) k (λ n. fitted_value p (neg_ℤ n))))
values_are_found p c s (Binary o a b) t m z e =
    let r = first_holds (judge_operands p c (operands o) a b (judge_value p c a) (judge_value p c b))
    (λ _. Holds (result_form o)) t e in
    let same : result_form o ≡ t = cc (r.2) in
    subst (λ (x : Form). IsValueOf p x (value p s (Binary o a b))) same
    (operands_found p c s o a b m z (λ u j. values_are_found p c s a u m z j)
    (λ u j. values_are_found p c s b u m z j) (operands o) refl r.0 r.1)
