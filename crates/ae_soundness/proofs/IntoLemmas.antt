-- What is judged to go into a form has a value of it.
use Rattle.std.proofs.Common.{◌≡◌, refl, sym, ◌∙◌, subst, ℕ, nat_eq, Bool, true, ◌&&◌, List}
use Rattle.std.specs.Prelude.{⊤}
use Rattle.std.proofs.lemmas.Bool.{and_parts, eqb-true}
use Rattle.ae_text.specs.declared.refusal.Spot.{Spot}
use Rattle.ae_text.specs.declared.refusal.Rule.TheVariants as rule
use Rattle.ae_tree.specs.declared.tree.Path.{Path}
use Rattle.ae_tree.specs.declared.form.Perm.{Perm}
use Rattle.ae_tree.specs.declared.form.Perm.TheVariants as perm
use Rattle.ae_tree.specs.declared.form.Kind.{Kind}
use Rattle.ae_tree.specs.declared.form.Kind.TheVariants as kind
use Rattle.ae_tree.specs.declared.form.Form.{Form}
use Rattle.ae_tree.specs.declared.form.Form.TheVariants as f
use Rattle.ae_tree.specs.Plain.{Code, Expression, Number, Truth, Nothing, Read, Item, Length, Grouped, Negated, Minus}
use Rattle.ae_tree.specs.Plain.{Binary}
use Rattle.ae_rules.specs.declared.held.Held.{Held}
use Rattle.ae_rules.specs.declared.held.Held.TheVariants as held
use Rattle.ae_rules.specs.Verdict.{Holds, require}
use Rattle.ae_rules.specs.Forms.{same_names, same_kind, is_object_of}
use Rattle.ae_rules.specs.Context.{Context, is_held_alone, same_held}
use Rattle.ae_rules.specs.Walks.{Place, walk, is_name}
use Rattle.ae_rules.specs.Expressions.{expression_spot, judge_value}
use Rattle.ae_rules.specs.Into.{may_leave, into_perm, path_fits, fits, name_into}
use Rattle.ae_semantics.specs.Values.{Val, OfInt, OfBool, Null, Owned, Member, Tree, Object, Array, is_of_kind}
use Rattle.ae_semantics.specs.Values.{fits_object}
use Rattle.ae_semantics.specs.Places.{Fine, State, walk_to}
use Rattle.ae_semantics.specs.Expressions.{value}
use Rattle.ae_soundness.specs.Fits.{IsOfForm, HoldsNoMember, FitsPermission, FitsPlace, has_value}
use Rattle.ae_soundness.specs.Fits.{FieldsHaveMembers, FitsContext}
use Rattle.ae_soundness.specs.Laws.{IsValueOf, WhatGoesInFits}
use Rattle.ae_soundness.proofs.OperatorLemmas.{then_place}
use Rattle.ae_soundness.proofs.PlaceLemmas.{paths_are_found}
use Rattle.ae_soundness.proofs.ValueLemmas.{judged_so, values_are_found}
use Rattle.ae_soundness.proofs.from_rules.PathLemmas.{first_holds}
use Rattle.ae_soundness.proofs.from_rules.SeenLemmas.{required}
use Rattle.ae_soundness.proofs.from_rules.ShapeLemmas.{same_held_is}

-- ---- the class alone counts for a tree

other_groups : (p : Code) (c : ℕ) (gs hs : List ℕ) (t : Tree)
    → is_of_kind p (kind.Class c gs) t ≡ is_of_kind p (kind.Class c hs) t
other_groups p c gs hs (Object x xs) = refl
other_groups p c gs hs (Array ns) = refl

same_class : (p : Code) (k l : Kind) (t : Tree) → same_kind k l ≡ true → is_of_kind p l t ≡ is_of_kind p k t
same_class p kind.Ints kind.Ints t e = refl
same_class p kind.Ints (kind.Class d hs) t e = absurd (cc e)
same_class p (kind.Class c gs) kind.Ints t e = absurd (cc e)
same_class p (kind.Class c gs) (kind.Class d hs) t e =
    let same : c ≡ d = eqb-true c d (and_parts (nat_eq c d) (same_names gs hs) e).0 in
    subst (λ (x : ℕ). is_of_kind p (kind.Class x hs) t ≡ is_of_kind p (kind.Class c gs) t) same
    (other_groups p c hs gs t)

-- ---- permissions

-- What is no member fits as what is unique.
pub as_unique : (p : Code) (q : Perm) (k : Kind) (v : Val) → FitsPermission q held.None
    → fits_object p q k v ≡ fits_object p perm.Unique k v
as_unique p (perm.Shared g) k v h = absurd (cc h)
as_unique p perm.Unique k v h = refl
as_unique p perm.Immutable k (OfInt n) h = refl
as_unique p perm.Immutable k (OfBool b) h = refl
as_unique p perm.Immutable k Null h = refl
as_unique p perm.Immutable k (Owned t) h = refl
as_unique p perm.Immutable k (Member n) h = refl
as_unique p perm.Lent k (OfInt n) h = refl
as_unique p perm.Lent k (OfBool b) h = refl
as_unique p perm.Lent k Null h = refl
as_unique p perm.Lent k (Owned t) h = refl
as_unique p perm.Lent k (Member n) h = refl

-- Of one class what is unique fits alike.
pub of_same_class : (p : Code) (k l : Kind) (v : Val) → same_kind k l ≡ true
    → fits_object p perm.Unique l v ≡ fits_object p perm.Unique k v
of_same_class p k l (OfInt n) e = refl
of_same_class p k l (OfBool b) e = refl
of_same_class p k l Null e = refl
of_same_class p k l (Owned t) e = same_class p k l t e
of_same_class p k l (Member n) e = refl

-- What is shared fits every shared form.
pub as_shared : (p : Code) (g h : ℕ) (k l : Kind) (v : Val)
    → fits_object p (perm.Shared h) l v ≡ fits_object p (perm.Shared g) k v
as_shared p g h k l (OfInt n) = refl
as_shared p g h k l (OfBool b) = refl
as_shared p g h k l Null = refl
as_shared p g h k l (Owned t) = refl
as_shared p g h k l (Member n) = refl

-- Where nothing shared is held, there is no member now.
pub no_member : (r : Perm) (h : Held) → FitsPermission r h → HoldsNoMember h → FitsPermission r held.None
no_member perm.Unique h a b = λ g e. absurd (cc e)
no_member perm.Immutable h a b = λ g e. absurd (cc e)
no_member perm.Lent h a b = λ g e. absurd (cc e)
no_member (perm.Shared g) h a b = absurd (b g a)

-- A value that is no member goes where no member is wanted.
pub plain_fits : (p : Code) (q r : Perm) (k l : Kind) (v : Val) (h : Held) → FitsPermission q held.None
    → FitsPermission r h → HoldsNoMember h → same_kind k l ≡ true → fits_object p r l v ≡ true
    → fits_object p q k v ≡ true
plain_fits p q r k l v h a b n e i = as_unique p q k v a ∙ sym (of_same_class p k l v e)
    ∙ sym (as_unique p r l v (no_member r h b n)) ∙ i

-- a member goes where a member is wanted
member_fits : (p : Code) (g z : ℕ) (r : Perm) (k l : Kind) (v : Val) → FitsPermission r (held.Shared z)
    → fits_object p r l v ≡ true → fits_object p (perm.Shared g) k v ≡ true
member_fits p g z perm.Unique k l v h i = absurd (h z refl)
member_fits p g z perm.Immutable k l v h i = absurd (h z refl)
member_fits p g z perm.Lent k l v h i = absurd (h z refl)
member_fits p g z (perm.Shared y) k l v h i = sym (as_shared p g y k l v) ∙ i

into_shared_fits : (p : Code) (g : ℕ) (r : Perm) (k l : Kind) (v : Val) (h : Held) (named : Bool) (at : Spot) (u : ⊤)
    → into_perm (perm.Shared g) named h at ≡ Holds u → FitsPermission r h → fits_object p r l v ≡ true
    → fits_object p (perm.Shared g) k v ≡ true
into_shared_fits p g r k l v (held.Shared z) named at u e h i = member_fits p g z r k l v h i
into_shared_fits p g r k l v held.Unique named at u e h i = absurd (cc e)
into_shared_fits p g r k l v (held.Split n) named at u e h i = absurd (cc e)
into_shared_fits p g r k l v held.Immutable named at u e h i = absurd (cc e)
into_shared_fits p g r k l v held.Lent named at u e h i = absurd (cc e)
into_shared_fits p g r k l v (held.Inner n) named at u e h i = absurd (cc e)
into_shared_fits p g r k l v held.None named at u e h i = absurd (cc e)

holds_so : (h k : Held) → same_held h k ≡ true → HoldsNoMember h → HoldsNoMember k
holds_so h k e n = subst (λ (x : Held). HoldsNoMember x) (same_held_is h k e) n

-- A value goes into the form of an object that it is judged to go into.
pub object_fits : (p : Code) (q r : Perm) (k l : Kind) (v : Val) (h : Held) (named : Bool) (at : Spot) (u : ⊤)
    → into_perm q named h at ≡ Holds u → FitsPermission r h → same_kind k l ≡ true → fits_object p r l v ≡ true
    → fits_object p q k v ≡ true
object_fits p perm.Unique r k l v h named at u e a s i = plain_fits p perm.Unique r k l v h (λ g d. absurd (cc d)) a
    (holds_so held.Unique h
    (and_parts named (is_held_alone h) (required (named && is_held_alone h) rule.NeedsUnique at u e)).1
    (λ g d. absurd (cc d))) s i
object_fits p perm.Immutable r k l v h named at u e a s i = plain_fits p perm.Immutable r k l v h
    (λ g d. absurd (cc d)) a
    (holds_so held.Immutable h (required (same_held held.Immutable h) rule.NoPermission at u e) (λ g d. absurd (cc d)))
    s i
object_fits p perm.Lent r k l v h named at u e a s i = absurd (cc e)
object_fits p (perm.Shared g) r k l v h named at u e a s i = into_shared_fits p g r k l v h named at u e a i

-- A value of a place goes into the form of an object into which its own form may go.
pub place_fits : (p : Code) (q : Perm) (k : Kind) (t now : Form) (h : Held) (v : Val) → is_object_of k t ≡ true
    → ((r : Perm) (m : Kind) → FitsPermission r h → same_kind k m ≡ true → fits_object p r m v ≡ true
    → fits_object p q k v ≡ true)
    → FitsPlace p (record { form = t; held = h }) now v → IsOfForm p (f.Object q k) v
place_fits p q k f.Int now h v o goes z = absurd (cc o)
place_fits p q k f.Bool now h v o goes z = absurd (cc o)
place_fits p q k (f.Object y l) f.Int h v o goes z = absurd z.form
place_fits p q k (f.Object y l) f.Bool h v o goes z = absurd z.form
place_fits p q k (f.Object y l) (f.Object r m) h v o goes z =
    let same : same_kind k m ≡ true = subst (λ (x : Kind). same_kind k x ≡ true) z.form o
    in (goes r m z.held same z.value.0, z.value.1)

-- ---- expressions

-- what may leave has a value
leaving_value : (t : Form) (h : Held) (at : Spot) (u : ⊤) → may_leave h at ≡ Holds u
    → has_value (record { form = t; held = h }) ≡ true
leaving_value t held.None at u e = absurd (cc e)
leaving_value t held.Unique at u e = refl
leaving_value t (held.Split n) at u e = refl
leaving_value t held.Immutable at u e = refl
leaving_value t held.Lent at u e = refl
leaving_value t (held.Shared g) at u e = refl
leaving_value t (held.Inner g) at u e = refl

-- Null fits every object's form.
pub null_fits : (p : Code) (q : Perm) (k : Kind) → fits_object p q k Null ≡ true
null_fits p perm.Unique k = refl
null_fits p perm.Immutable k = refl
null_fits p perm.Lent k = refl
null_fits p (perm.Shared g) k = refl

path_in : (p : Code) (c : Context) (s : State) (q : Perm) (k : Kind) (path : Path) (at : Spot) (u : ⊤)
    → FieldsHaveMembers p → FitsContext p c s → path_fits p c q k path at ≡ Holds u
    → IsValueOf p (f.Object q k) (value p s (Read path))
path_in p c s q k path at u m z e =
    let a = first_holds (walk p c path) _ u e in
    let w : Place = a.0 in
    let b = first_holds (require (is_object_of k w.form) rule.TypeMismatch at) _ u a.2 in
    let d = first_holds (may_leave w.held at) (λ _. into_perm q (is_name path) w.held at) u b.2 in
    let object : is_object_of k w.form ≡ true = required (is_object_of k w.form) rule.TypeMismatch at b.0 b.1
    in then_place p w (f.Object q k) (walk_to p s path) (λ x. Fine x.value)
    (paths_are_found p c s path w m z a.1 (λ n. leaving_value w.form w.held at d.0 d.1))
    (λ x h. place_fits p q k w.form x.form w.held x.value object
    (λ r l a i e. object_fits p q r k l x.value w.held (is_name path) at u d.2 a i e) h)

object_in : (p : Code) (c : Context) (s : State) (q : Perm) (k : Kind) (e : Expression) (u : ⊤) → FieldsHaveMembers p
    → FitsContext p c s → fits p c (f.Object q k) e ≡ Holds u → IsValueOf p (f.Object q k) (value p s e)
object_in p c s q k (Nothing at) u m z h = (null_fits p q k, tt)
object_in p c s q k (Read path) u m z h = path_in p c s q k path path.root.at u m z h
object_in p c s q k (Number n at) u m z h = absurd (cc h)
object_in p c s q k (Truth b at) u m z h = absurd (cc h)
object_in p c s q k (Item path i) u m z h = absurd (cc h)
object_in p c s q k (Length path at) u m z h = absurd (cc h)
object_in p c s q k (Grouped i at) u m z h = absurd (cc h)
object_in p c s q k (Negated i at) u m z h = absurd (cc h)
object_in p c s q k (Minus i at) u m z h = absurd (cc h)
object_in p c s q k (Binary o a b) u m z h = absurd (cc h)

fitting_value : (p : Code) (c : Context) (s : State) (t : Form) (e : Expression) (u : ⊤) → FieldsHaveMembers p
    → FitsContext p c s → fits p c t e ≡ Holds u → IsValueOf p t (value p s e)
fitting_value p c s f.Int e u m z h = values_are_found p c s e f.Int m z
    (judged_so f.Int (judge_value p c e) (expression_spot e) u h).0
fitting_value p c s f.Bool e u m z h = values_are_found p c s e f.Bool m z
    (judged_so f.Bool (judge_value p c e) (expression_spot e) u h).0
fitting_value p c s (f.Object q k) e u m z h = object_in p c s q k e u m z h

pub what_goes_in_fits : WhatGoesInFits
what_goes_in_fits p c s t e name m z h =
    let a = first_holds (fits p c t e) (λ _. Holds (name_into t e)) name h
    in fitting_value p c s t e a.0 m z a.1
