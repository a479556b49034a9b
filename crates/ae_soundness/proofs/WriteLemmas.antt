-- A state keeps fitting where a tree in it is another that fits alike.
use Rattle.std.proofs.Common.{◌≡◌, refl, sym, ap, ◌∙◌, subst, ℕ, zero, suc, ◌+◌, ℤ, nat_eq, Bool, true, false, ◌&&◌}
use Rattle.std.proofs.Common.{if◌then◌else◌, List, [], ◌∷◌, ◌++◌, length, Option, Some}
use Rattle.std.specs.Prelude.{slice_get}
use Rattle.std.specs.Prelude as prelude
use Rattle.std.proofs.lemmas.Option.{same_Some}
use Rattle.ae_tree.specs.declared.tree.Class.{Class}
use Rattle.ae_tree.specs.declared.form.Perm.TheVariants as perm
use Rattle.ae_tree.specs.declared.form.Kind.TheVariants as kind
use Rattle.ae_tree.specs.declared.form.Form.{Form}
use Rattle.ae_tree.specs.declared.form.Form.TheVariants as f
use Rattle.ae_tree.specs.Form.{form}
use Rattle.ae_tree.specs.Plain.{Code}
use Rattle.ae_rules.specs.Verdict.{given}
use Rattle.ae_rules.specs.Lookups.{class_called}
use Rattle.ae_rules.specs.Context.{Local, Context}
use Rattle.ae_semantics.specs.Values.{Val, OfInt, OfBool, Null, Owned, Member, Tree, Object, Array, Values, NoValue}
use Rattle.ae_semantics.specs.Values.{AndValue, Store, value_count, value_fits, value_at, with_changed, put_at, is_low}
use Rattle.ae_semantics.specs.Places.{Outcome, Fine, Traps, ◌>>=◌, there, Bound, State, group_of}
use Rattle.ae_semantics.specs.Places.{with_bound, members, Base, InLocal, InGroup, OpenedObject}
use Rattle.ae_semantics.specs.Places.{low, bind, with_member, rewrite_member, write_in, write, write_field}
use Rattle.ae_soundness.specs.Fits.{AreWhole, IsWhole, IsWholeTree, FitsPlace, FitsLocal, FitsContext, fields_called}
use Rattle.ae_soundness.specs.Fits.{place_held, has_value}
use Rattle.ae_soundness.proofs.FieldLemmas.{given_some, changed_fields}
use Rattle.ae_soundness.proofs.LocalLemmas.{HasBound, bound_changed}
use Rattle.ae_soundness.proofs.StoreLemmas.{members_here, store_changed}
use Rattle.ae_soundness.proofs.OutcomeLemmas.{Comes}
use Rattle.ae_soundness.proofs.StandLemmas.{inside_at, StandsIn, ObjectStands}
use Rattle.ae_soundness.proofs.from_text.Basics.{option_holds_one}

-- ---- values put into values

changed_alike : (xs : Values) (i : ℕ) (v : Val) (a b : Val → Val) → value_at xs i ≡ Some v → a v ≡ b v
    → with_changed xs i a ≡ with_changed xs i b
changed_alike NoValue i v a b e h = absurd (cc e)
changed_alike (AndValue y xs) zero v a b e h =
    let same : y ≡ v = same_Some y v e in
    ap (λ (w : Val). AndValue w xs) (subst (λ (u : Val). a u ≡ b u) (sym same) h)
changed_alike (AndValue y xs) (suc i) v a b e h = ap (λ (ys : Values). AndValue y ys) (changed_alike xs i v a b e h)

-- As many values stay where one is changed.
pub changed_count : (xs : Values) (i : ℕ) (a : Val → Val) → value_count (with_changed xs i a) ≡ value_count xs
changed_count NoValue i a = refl
changed_count (AndValue v xs) zero a = refl
changed_count (AndValue v xs) (suc i) a = ap (λ (n : ℕ). n + 1) (changed_count xs i a)

-- What is put one field further is put in the value there.
put_further : (fields : List ℕ) (u v : Val) (i : ℕ) (new : Val) → inside_at fields u ≡ Some v
    → put_at (fields ++ i ∷ []) new u ≡ put_at fields (put_at (i ∷ []) new v) u
put_further [] u v i new e = ap (put_at (i ∷ []) new) (same_Some u v e)
put_further (k ∷ is) (OfInt n) v i new e = absurd (cc e)
put_further (k ∷ is) (OfBool b) v i new e = absurd (cc e)
put_further (k ∷ is) Null v i new e = absurd (cc e)
put_further (k ∷ is) (Owned (Object c xs)) v i new e =
    let w = given_some (value_at xs k) (inside_at is) v e in
    ap (λ (ys : Values). Owned (Object c ys))
    (changed_alike xs k w.0 (put_at (is ++ i ∷ []) new) (put_at is (put_at (i ∷ []) new v)) w.1
    (put_further is w.0 v i new w.2))
put_further (k ∷ is) (Owned (Array ns)) v i new e = absurd (cc e)
put_further (k ∷ is) (Member n) v i new e = absurd (cc e)

-- A write one field further is a write of the object.
write_further : (s : State) (b : Base) (fields : List ℕ) (v : Val) (i : ℕ) (new : Val) → StandsIn s b fields v
    → write_in s b (fields ++ i ∷ []) new ≡ write_in s b fields (put_at (i ∷ []) new v)
write_further s (InLocal x) fields v i new h = subst
    (λ (o : Option Bound). (there o >>= λ b. bind x b.form (put_at (fields ++ i ∷ []) new b.value) s)
    ≡ (there o >>= λ b. bind x b.form (put_at fields (put_at (i ∷ []) new v) b.value) s)) (sym h.1)
    (ap (λ (w : Val). bind x h.0.form w s) (put_further fields h.0.value v i new h.2))
write_further s (InGroup g n) fields v i new h = subst
    (λ (o : Option Store). (there o >>= rewrite_member s g n (fields ++ i ∷ []) new)
    ≡ (there o >>= rewrite_member s g n fields (put_at (i ∷ []) new v))) (sym h.1)
    (subst
    (λ (o : Option Tree). (there o >>= λ t. low (put_at (fields ++ i ∷ []) new (Owned t)) >>= with_member s g n h.0)
    ≡ (there o >>= λ t. low (put_at fields (put_at (i ∷ []) new v) (Owned t)) >>= with_member s g n h.0)) (sym h.3)
    (ap (λ (w : Val). low w >>= with_member s g n h.0) (put_further fields (Owned h.2) v i new h.4)))

-- ---- values that fit alike

-- where the one value fits, the other does
abbrev pub FitsLike : Code → Val → Val → Type 0
FitsLike p v w = (t : Form) → value_fits p t v ≡ true → value_fits p t w ≡ true

class_count : (p : Code) (x c : ℕ) (xs ys : Values) → value_count xs ≡ value_count ys
    → (nat_eq x c && given (class_called p x) false (λ (d : Class). nat_eq (length d.fields) (value_count xs)))
    ≡ (nat_eq x c && given (class_called p x) false (λ (d : Class). nat_eq (length d.fields) (value_count ys)))
class_count p x c xs ys e = ap
    (λ (n : ℕ). nat_eq x c && given (class_called p x) false (λ (d : Class). nat_eq (length d.fields) n)) e

-- An object fits as one of its class with as many fields.
pub same_count : (p : Code) (t : Form) (c : ℕ) (xs ys : Values) → value_count xs ≡ value_count ys
    → value_fits p t (Owned (Object c xs)) ≡ value_fits p t (Owned (Object c ys))
same_count p f.Int c xs ys e = refl
same_count p f.Bool c xs ys e = refl
same_count p (f.Object (perm.Shared g) k) c xs ys e = refl
same_count p (f.Object perm.Unique kind.Ints) c xs ys e = refl
same_count p (f.Object perm.Immutable kind.Ints) c xs ys e = refl
same_count p (f.Object perm.Lent kind.Ints) c xs ys e = refl
same_count p (f.Object perm.Unique (kind.Class x gs)) c xs ys e = class_count p x c xs ys e
same_count p (f.Object perm.Immutable (kind.Class x gs)) c xs ys e = class_count p x c xs ys e
same_count p (f.Object perm.Lent (kind.Class x gs)) c xs ys e = class_count p x c xs ys e

-- A whole value that fits like the one that stands somewhere in a whole value may be put there.
put_fits : (p : Code) (fields : List ℕ) (u v new : Val) → inside_at fields u ≡ Some v → FitsLike p v new
    → IsWhole p new → IsWhole p u → FitsLike p u (put_at fields new u) × IsWhole p (put_at fields new u)
put_fits p [] u v new e l w h = (subst (λ (y : Val). FitsLike p y new) (sym (same_Some u v e)) l, w)
put_fits p (k ∷ is) (OfInt n) v new e l w h = absurd (cc e)
put_fits p (k ∷ is) (OfBool b) v new e l w h = absurd (cc e)
put_fits p (k ∷ is) Null v new e l w h = absurd (cc e)
put_fits p (k ∷ is) (Owned (Object c xs)) v new e l w h =
    let a = given_some (value_at xs k) (inside_at is) v e in (
      λ t i. same_count p t c (with_changed xs k (put_at is new)) xs (changed_count xs k (put_at is new)) ∙ i,
      changed_fields p (fields_called p c) xs k (put_at is new) h
          (λ d y i j m.
          let same : a.0 ≡ y = option_holds_one (value_at xs k) a.0 y a.1 j in
          let r = put_fits p is y v new (subst (λ (z : Val). inside_at is z ≡ Some v) same a.2) l w m.1 in
          (r.0 (form d.ty) m.0, r.1)),
    )
put_fits p (k ∷ is) (Owned (Array ns)) v new e l w h = absurd (cc e)
put_fits p (k ∷ is) (Member n) v new e l w h = absurd (cc e)

-- a tree in a tree leaves a tree
put_tree : (fields : List ℕ) (t new : Tree) → (u : Tree) × (put_at fields (Owned new) (Owned t) ≡ Owned u)
put_tree [] t new = (new, refl)
put_tree (k ∷ is) (Object c xs) new = (Object c (with_changed xs k (put_at is (Owned new))), refl)
put_tree (k ∷ is) (Array ns) new = (Array ns, refl)

-- ---- writes

set_whole : (p : Code) (st : Store) (n : ℕ) (t : Tree) → IsWholeTree p t → AreWhole p st
    → AreWhole p (prelude.set st n t)
set_whole p [] n t i w k u e = absurd (cc e)
set_whole p (x ∷ st) zero t i w zero u e = subst (λ (y : Tree). IsWholeTree p y) (same_Some t u e) i
set_whole p (x ∷ st) zero t i w (suc k) u e = w (suc k) u e
set_whole p (x ∷ st) (suc n) t i w zero u e = w zero u e
set_whole p (x ∷ st) (suc n) t i w (suc k) u e = set_whole p st n t i (λ m y j. w (suc m) y j) k u e

-- What is not too high goes on.
pub low_then : {A : Type 0} (P : A → Type 0) (v : Val) (next : Val → Outcome A) → Comes P (next v)
    → Comes P (low v >>= next)
low_then {A} P v next h = by_test (is_low v)
  where
    by_test : (b : Bool) → Comes P ((if b then Fine v else Traps 8) >>= next)
    by_test true = h
    by_test false = tt

written_local : (p : Code) (c : Context) (s : State) (x : ℕ) (fields : List ℕ) (v new : Val) (b : Bound)
    → FitsContext p c s → s.locals x ≡ Some b → inside_at fields b.value ≡ Some v → FitsLike p v new → IsWhole p new
    → (l : Local) → c.local x ≡ Some l → has_value (place_held l) ≡ true
    → HasBound p l (Some (record { form = b.form; value = put_at fields new b.value }))
written_local p c s x fields v new b z e i l w y h j =
    let r : FitsLocal p s x (place_held y) = z.local x y h j in
    let same : r.bound ≡ b = option_holds_one (s.locals x) r.bound b r.is e in
    let k : FitsPlace p (place_held y) b.form b.value = subst
    (λ (a : Bound). FitsPlace p (place_held y) a.form a.value) same r.fits in
    let n = put_fits p fields b.value v new i l w k.value.1 in (
      _,
      refl,
      record { form = k.form; held = k.held; members = k.members; value = (n.0 b.form k.value.0, n.1) },
    )

written_member : (p : Code) (c : Context) (s : State) (g n : ℕ) (fields : List ℕ) (v : Val) (new t : Tree) (st : Store)
    → FitsContext p c s → members (group_of s g) ≡ Some st → slice_get st n ≡ Some t
    → inside_at fields (Owned t) ≡ Some v → FitsLike p v (Owned new) → IsWholeTree p new
    → Comes (FitsContext p c) (low (put_at fields (Owned new) (Owned t)) >>= with_member s g n st)
written_member p c s g n fields v new t st z e i j l w =
    let u = put_tree fields t new in
    subst (λ (y : Val). Comes (FitsContext p c) (low y >>= with_member s g n st)) (sym u.1)
    (low_then (FitsContext p c) (Owned u.0) (with_member s g n st)
    (store_changed p c s g st (prelude.set st n u.0) z (members_here (group_of s g) st e)
    (λ a. set_whole p st n u.0
    (subst (λ (y : Val). IsWhole p y) u.1 (put_fits p fields (Owned t) v (Owned new) j l w (a n t i)).1) a)))

write_base : (p : Code) (c : Context) (s : State) (b : Base) (fields : List ℕ) (v : Val) (new : Tree)
    → FitsContext p c s → StandsIn s b fields v → FitsLike p v (Owned new) → IsWholeTree p new
    → Comes (FitsContext p c) (write_in s b fields (Owned new))
write_base p c s (InLocal x) fields v new z h l w = subst
    (λ (o : Option Bound). Comes (FitsContext p c)
    (there o >>= λ b. bind x b.form (put_at fields (Owned new) b.value) s)) (sym h.1)
    (low_then (FitsContext p c) (put_at fields (Owned new) h.0.value)
    (λ y. Fine (with_bound x (Some (record { form = h.0.form; value = y })) s))
    (bound_changed p c s x (Some (record { form = h.0.form; value = put_at fields (Owned new) h.0.value })) z
    (written_local p c s x fields v (Owned new) h.0 z h.1 h.2 l w)))
write_base p c s (InGroup g n) fields v new z h l w = subst
    (λ (o : Option Store). Comes (FitsContext p c) (there o >>= rewrite_member s g n fields (Owned new))) (sym h.1)
    (subst
    (λ (o : Option Tree). Comes (FitsContext p c)
    (there o >>= λ t. low (put_at fields (Owned new) (Owned t)) >>= with_member s g n h.0)) (sym h.3)
    (written_member p c s g n fields v new h.2 h.0 z h.1 h.3 h.4 l w))

-- An object's tree may be another that is whole and fits alike.
pub tree_written : (p : Code) (c : Context) (s : State) (o : OpenedObject) (new : Tree) → FitsContext p c s
    → ObjectStands s o → FitsLike p (Owned o.tree) (Owned new) → IsWholeTree p new
    → Comes (FitsContext p c) (write s o.at (Owned new))
tree_written p c s o new z h l w = write_base p c s o.at.base o.at.fields (Owned o.tree) new z h l w

-- a value put into a tree leaves a tree that fits alike
put_in_tree : (p : Code) (t : Tree) (i : ℕ) (new : Val)
    → (u : Tree) × (put_at (i ∷ []) new (Owned t) ≡ Owned u) × FitsLike p (Owned t) (Owned u)
put_in_tree p (Object c xs) i new = (
  Object c (with_changed xs i (λ y. new)),
  refl,
  λ t e. same_count p t c (with_changed xs i (λ y. new)) xs (changed_count xs i (λ y. new)) ∙ e,
)
put_in_tree p (Array ns) i new = (Array ns, refl, λ t e. e)

-- A field of an object may have another value with which the object is whole.
pub field_written : (p : Code) (c : Context) (s : State) (o : OpenedObject) (i : ℕ) (new : Val) → FitsContext p c s
    → ObjectStands s o → IsWhole p (put_at (i ∷ []) new (Owned o.tree))
    → Comes (FitsContext p c) (write_field s o i new)
field_written p c s o i new z h w =
    let u = put_in_tree p o.tree i new in
    subst (λ (r : Outcome State). Comes (FitsContext p c) r)
    (sym (write_further s o.at.base o.at.fields (Owned o.tree) i new h
    ∙ ap (write_in s o.at.base o.at.fields) u.1))
    (tree_written p c s o u.0 z h u.2 (subst (λ (y : Val). IsWhole p y) u.1 w))

-- An array fits like any other.
pub array_like : (p : Code) (ms ns : List ℤ) → FitsLike p (Owned (Array ms)) (Owned (Array ns))
array_like p ms ns f.Int e = absurd (cc e)
array_like p ms ns f.Bool e = absurd (cc e)
array_like p ms ns (f.Object (perm.Shared g) k) e = absurd (cc e)
array_like p ms ns (f.Object perm.Unique kind.Ints) e = refl
array_like p ms ns (f.Object perm.Immutable kind.Ints) e = refl
array_like p ms ns (f.Object perm.Lent kind.Ints) e = refl
array_like p ms ns (f.Object perm.Unique (kind.Class x gs)) e = absurd (cc e)
array_like p ms ns (f.Object perm.Immutable (kind.Class x gs)) e = absurd (cc e)
array_like p ms ns (f.Object perm.Lent (kind.Class x gs)) e = absurd (cc e)
