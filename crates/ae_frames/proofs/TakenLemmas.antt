-- What was taken out of the caller's locals comes back to them as if it had stayed.
use Rattle.std.specs.Prelude as prelude
use Rattle.std.proofs.Common.{◌≡◌, ◌⊎◌, inl, inr, refl, sym, ap, ◌∙◌, subst, ℕ, zero, suc, nat_eq, Bool, true, false}
use Rattle.std.proofs.Common.{if◌then◌else◌, ◌||◌, List, [], ◌∷◌, Option, None, Some, option_map, slice_get}
use Rattle.std.proofs.lemmas.Bool.{eqb-true, eq-eqb, ne_eqb}
use Rattle.ae_rules.specs.Lookups.{has_name}
use Rattle.ae_tree.specs.declared.form.Form.{Form}
use Rattle.ae_semantics.specs.Values.{Val, OfInt, OfBool, Null, Owned, Member, Tree, Object, Array, Values, NoValue}
use Rattle.ae_semantics.specs.Values.{AndValue, Store, with_changed, put_at}
use Rattle.ae_semantics.specs.Places as places
use Rattle.ae_semantics.specs.Places.{Outcome, Fine, ◌>>=◌, there, low, Group, State, Bound, Base, InLocal, InGroup}
use Rattle.ae_semantics.specs.Places.{with, with_bound, with_member, rewrite_member, store_of, write_in, write}
use Rattle.ae_semantics.specs.Calls.{without_moved}
use Rattle.ae_stores.specs.Stand.{nulled}
use Rattle.ae_frames.specs.Asking.{with_locals}
use Rattle.ae_frames.specs.Granting.{LentGroup}
use Rattle.ae_frames.specs.Kept.{ComesBack, IsLocalLeft, AsItWas, GivenAway, TakenOut, backs_to}
use Rattle.ae_frames.specs.Kept.{values_brought_back, groups_come_back, brought_back}
use Rattle.ae_frames.proofs.from_text.Basics.{functions_agree, no_test_is_both, number_is_itself}

-- ---- a place that is written twice

changed_twice : (xs : Values) (i : ℕ) (f g h : Val → Val) → ((v : Val) → f (g v) ≡ h v)
    → with_changed (with_changed xs i g) i f ≡ with_changed xs i h
changed_twice NoValue i f g h same = refl
changed_twice (AndValue v xs) zero f g h same = ap (λ w. AndValue w xs) (same v)
changed_twice (AndValue v xs) (suc i) f g h same = ap (AndValue v) (changed_twice xs i f g h same)

-- what was written first is gone
written_twice : (fields : List ℕ) (old new v : Val) → put_at fields new (put_at fields old v) ≡ put_at fields new v
written_twice [] old new v = refl
written_twice (i ∷ is) old new (OfInt n) = refl
written_twice (i ∷ is) old new (OfBool b) = refl
written_twice (i ∷ is) old new Null = refl
written_twice (i ∷ is) old new (Owned (Object c xs)) = ap (λ ys. Owned (Object c ys))
    (changed_twice xs i (put_at is new) (put_at is old) (put_at is new) (written_twice is old new))
written_twice (i ∷ is) old new (Owned (Array ns)) = refl
written_twice (i ∷ is) old new (Member n) = refl

-- ---- values that come back to two callers

-- A local of one caller is as that of the other, or the one value that comes back to it was taken out of it.
abbrev pub IsAlike : List ComesBack → ℕ → Option Bound → Option Bound → Type 0
IsAlike back y now o = (now ≡ o) ⊎ ((fields : List ℕ) × (backs_to y back ≡ fields ∷ []) × (now ≡ option_map (nulled fields) o))

-- the same of all locals
abbrev pub AreAlike : List ComesBack → (ℕ → Option Bound) → (ℕ → Option Bound) → Type 0
AreAlike back l m = (y : ℕ) → IsAlike back y (l y) (m y)

-- the values that come back leave both alike
abbrev pub ComeAlike : List ComesBack → State → Type 0
ComeAlike back after = (l : ℕ → Option Bound) (s : State) → AreAlike back l s.locals
    → values_brought_back back after (with_locals l s) ≡ values_brought_back back after s

-- a place to which nothing comes back is alike already
nothing_taken : (l m : ℕ → Option Bound) → AreAlike [] l m → (y : ℕ) → l y ≡ m y
nothing_taken l m h y = by_case (h y)
  where
    by_case : IsAlike [] y (l y) (m y) → l y ≡ m y
    by_case (inl e) = e
    by_case (inr w) = absurd (cc w.1)

-- where a member is written
member_alike : (xs : List ComesBack) (after s : State) (g n : ℕ) (fields : List ℕ) (new : Val) (l : ℕ → Option Bound)
    → ComeAlike xs after → AreAlike xs l s.locals
    → (write_in (with_locals l s) (InGroup g n) fields new >>= values_brought_back xs after)
    ≡ (write_in s (InGroup g n) fields new >>= values_brought_back xs after)
member_alike xs after s g n fields new l further h = by_store (store_of s g)
  where
    by_value : (st : Store) (o : Outcome Val)
        → ((o >>= with_member (with_locals l s) g n st) >>= values_brought_back xs after)
        ≡ ((o >>= with_member s g n st) >>= values_brought_back xs after)
    by_value st (Fine (OfInt m)) = refl
    by_value st (Fine (OfBool b)) = refl
    by_value st (Fine Null) = refl
    by_value st (Fine (Owned t)) = further l (put t) h
      where
        put : Tree → State
        put t = places.with_store g (Some (places.Here (prelude.set st n t))) s
    by_value st (Fine (Member m)) = refl
    by_value st (places.Traps code) = refl
    by_value st places.Lacks = refl

    by_member : (st : Store) (o : Option Tree)
        → ((there o >>= λ t. low (put_at fields new (Owned t)) >>= with_member (with_locals l s) g n st)
        >>= values_brought_back xs after)
        ≡ ((there o >>= λ t. low (put_at fields new (Owned t)) >>= with_member s g n st)
        >>= values_brought_back xs after)
    by_member st None = refl
    by_member st (Some t) = by_value st (low (put_at fields new (Owned t)))

    by_store : (o : Outcome Store)
        → ((o >>= rewrite_member (with_locals l s) g n fields new) >>= values_brought_back xs after)
        ≡ ((o >>= rewrite_member s g n fields new) >>= values_brought_back xs after)
    by_store (Fine st) = by_member st (slice_get st n)
    by_store (places.Traps code) = refl
    by_store places.Lacks = refl

-- tests of two numbers are the same both ways
pub swapped : (m n : ℕ) → nat_eq m n ≡ nat_eq n m
swapped m n = by_test (nat_eq m n) refl
  where
    by_test : (t : Bool) → nat_eq m n ≡ t → t ≡ nat_eq n m
    by_test true e = sym (eq-eqb n m (sym (eqb-true m n e)))
    by_test false e = sym (ne_eqb n m (λ (k : n ≡ m). no_test_is_both (nat_eq m n) (eq-eqb m n (sym k)) e))

-- a value that comes back to a local
abbrev pub to_local : ℕ → ℕ → List ℕ → ComesBack
to_local name z fields = record { name = name; at = record { base = InLocal z; fields = fields } }

-- where a local is written it is the same afterwards
written_alike : (name z : ℕ) (fields : List ℕ) (xs : List ComesBack) (l m : ℕ → Option Bound) (b : Option Bound)
    → AreAlike (to_local name z fields ∷ xs) l m → AreAlike xs (with z b l) (with z b m)
written_alike name z fields xs l m b h y = by_test (nat_eq z y) refl
  where
    by_case : nat_eq z y ≡ false → IsAlike (to_local name z fields ∷ xs) y (l y) (m y) → IsAlike xs y (l y) (m y)
    by_case e (inl same) = inl same
    by_case e (inr w) = inr (
      w.0,
      sym (ap (λ (t : Bool). if t then fields ∷ backs_to y xs else backs_to y xs) (swapped y z ∙ e)) ∙ w.1,
      w.2,
    )

    by_test : (t : Bool) → nat_eq z y ≡ t → IsAlike xs y (if t then b else l y) (if t then b else m y)
    by_test true e = inl refl
    by_test false e = by_case e (h y)

pub first_same : {A : Type 0} (x y : A) (xs ys : List A) → x ∷ xs ≡ y ∷ ys → x ≡ y
first_same x y xs ys h = cc

-- where a local is written
local_alike : (name z : ℕ) (fields : List ℕ) (xs : List ComesBack) (after s : State) (new : Val) (l : ℕ → Option Bound)
    → ComeAlike xs after → AreAlike (to_local name z fields ∷ xs) l s.locals
    → (write_in (with_locals l s) (InLocal z) fields new >>= values_brought_back xs after)
    ≡ (write_in s (InLocal z) fields new >>= values_brought_back xs after)
local_alike name z fields xs after s new l further h = by_case (h z)
  where
    made : Form → Val → Option Bound
    made form w = Some (record { form = form; value = w })

    by_value : (form : Form) (o : Outcome Val)
        → ((o >>= λ w. Fine (with_bound z (made form w) (with_locals l s))) >>= values_brought_back xs after)
        ≡ ((o >>= λ w. Fine (with_bound z (made form w) s)) >>= values_brought_back xs after)
    by_value form (Fine w) = further (with z (made form w) l) (with_bound z (made form w) s)
        (written_alike name z fields xs l s.locals (made form w) h)
    by_value form (places.Traps code) = refl
    by_value form places.Lacks = refl

    -- both write the same
    by_bound : (o : Option Bound)
        → ((there o >>= λ b. places.bind z b.form (put_at fields new b.value) (with_locals l s))
        >>= values_brought_back xs after)
        ≡ ((there o >>= λ b. places.bind z b.form (put_at fields new b.value) s) >>= values_brought_back xs after)
    by_bound None = refl
    by_bound (Some b) = by_value b.form (low (put_at fields new b.value))

    -- what was taken out is written over
    by_taken : (o : Option Bound)
        → ((there (option_map (nulled fields) o) >>= λ b. places.bind z b.form (put_at fields new b.value)
        (with_locals l s)) >>= values_brought_back xs after)
        ≡ ((there o >>= λ b. places.bind z b.form (put_at fields new b.value) s) >>= values_brought_back xs after)
    by_taken None = refl
    by_taken (Some b) =
        ap (λ (v : Val). places.bind z b.form v (with_locals l s) >>= values_brought_back xs after)
        (written_twice fields Null new b.value)
        ∙ by_value b.form (low (put_at fields new b.value))

    out : Option Bound → Outcome State
    out o = (there o >>= λ b. places.bind z b.form (put_at fields new b.value) (with_locals l s))
        >>= values_brought_back xs after

    by_case : IsAlike (to_local name z fields ∷ xs) z (l z) (s.locals z)
        → out (l z)
        ≡ ((there (s.locals z) >>= λ b. places.bind z b.form (put_at fields new b.value) s)
        >>= values_brought_back xs after)
    by_case (inl same) = ap out same ∙ by_bound (s.locals z)
    by_case (inr w) = ap out (w.2 ∙ ap (λ (k : List ℕ). option_map (nulled k) (s.locals z)) (sym (first_same fields w.0
        (backs_to z xs) []
        (sym (ap (λ (t : Bool). if t then fields ∷ backs_to z xs else backs_to z xs) (number_is_itself z)) ∙ w.1))))
        ∙ by_taken (s.locals z)

-- values that come back leave alike what is alike
come_alike : (back : List ComesBack) (after : State) → ComeAlike back after
come_alike [] after l s h = ap (λ (m : ℕ → Option Bound). Fine (with_locals m s)) (functions_agree l s.locals
    (nothing_taken l s.locals h))
come_alike (x ∷ xs) after l s h = by_value (come_alike xs after) (after.locals x.name)
  where
    by_base : ComeAlike xs after → (new : Val) (base : Base)
        → AreAlike (record { name = x.name; at = record { base = base; fields = x.at.fields } } ∷ xs) l s.locals
        → (write_in (with_locals l s) base x.at.fields new >>= values_brought_back xs after)
        ≡ (write_in s base x.at.fields new >>= values_brought_back xs after)
    by_base further new (InLocal z) k = local_alike x.name z x.at.fields xs after s new l further k
    by_base further new (InGroup g n) k = member_alike xs after s g n x.at.fields new l further k

    by_value : ComeAlike xs after → (o : Option Bound)
        → ((there o >>= λ b. write (with_locals l s) x.at b.value) >>= values_brought_back xs after)
        ≡ ((there o >>= λ b. write s x.at b.value) >>= values_brought_back xs after)
    by_value further None = refl
    by_value further (Some b) = by_base further b.value x.at.base h

-- ---- the caller before values come back to it

-- the locals that are given away have no value
abbrev pub lost : List ℕ → (ℕ → Option Bound) → ℕ → Option Bound
lost [] l = l
lost (x ∷ xs) l = lost xs (with x None l)

moved_alike : (xs : List ℕ) (l : ℕ → Option Bound) (s : State)
    → without_moved xs (with_locals l s) ≡ with_locals (lost xs l) (without_moved xs s)
moved_alike [] l s = refl
moved_alike (x ∷ xs) l s = moved_alike xs (with x None l) (with_bound x None s)

moved_are_lost : (xs : List ℕ) (s : State) → (without_moved xs s).locals ≡ lost xs s.locals
moved_are_lost [] s = refl
moved_are_lost (x ∷ xs) s = moved_are_lost xs (with_bound x None s)

groups_alike : (lent : List LentGroup) (after : State) (l : ℕ → Option Bound) (s : State)
    → groups_come_back lent after (with_locals l s) ≡ with_locals l (groups_come_back lent after s)
groups_alike [] after l s = refl
groups_alike (x ∷ xs) after l s =
    groups_alike xs after l (record s { groups = with x.holder (after.groups x.group) s.groups })

groups_keep_locals : (lent : List LentGroup) (after s : State) → (groups_come_back lent after s).locals ≡ s.locals
groups_keep_locals [] after s = refl
groups_keep_locals (x ∷ xs) after s =
    groups_keep_locals xs after (record s { groups = with x.holder (after.groups x.group) s.groups })

-- what is lost of a local is nothing, where it is one of these names, and else what it was
lost_is : (xs : List ℕ) (l : ℕ → Option Bound) (y : ℕ) → lost xs l y ≡ (if has_name xs y then None else l y)
lost_is [] l y = refl
lost_is (x ∷ xs) l y = lost_is xs (with x None l) y ∙ by_test (nat_eq x y) (has_name xs y)
  where
    none : Option Bound
    none = None

    by_test : (t u : Bool) → (if u then none else (if t then None else l y)) ≡ (if t || u then None else l y)
    by_test true true = refl
    by_test true false = refl
    by_test false true = refl
    by_test false false = refl

-- where a local is left so, it is alike once what was given away is lost
left_is_alike : (back : List ComesBack) (gone : List ℕ) (y : ℕ) (o now : Option Bound) → IsLocalLeft back gone y o now
    → IsAlike back y (if has_name gone y then None else now) (if has_name gone y then None else o)
left_is_alike back gone y o now (AsItWas e) = inl (ap (λ (k : Option Bound). if has_name gone y then None else k) e)
left_is_alike back gone y o now (GivenAway e) =
    inl (ap (λ (t : Bool). if t then none else now) e ∙ sym (ap (λ (t : Bool). if t then none else o) e))
  where
    none : Option Bound
    none = None
left_is_alike back gone y o now (TakenOut fields e is) = by_test (has_name gone y)
  where
    by_test : (t : Bool) → IsAlike back y (if t then None else now) (if t then None else o)
    by_test true = inl refl
    by_test false = inr (fields, e, is)

-- all comes back to what is left of a caller as to one that had kept its locals
pub left_alike : (back : List ComesBack) (lent : List LentGroup) (gone : List ℕ) (after s : State) (l : ℕ → Option Bound)
    → ((y : ℕ) → IsLocalLeft back gone y (l y) (s.locals y))
    → brought_back back lent gone after s ≡ brought_back back lent gone after (with_locals l s)
left_alike back lent gone after s l h =
    let t : State = with_locals l s in
    let u : State = groups_come_back lent after (without_moved gone t) in
    ap (λ (k : State). values_brought_back back after (groups_come_back lent after k)) (moved_alike gone s.locals t)
    ∙ ap (values_brought_back back after) (groups_alike lent after (lost gone s.locals) (without_moved gone t))
    ∙ come_alike back after (lost gone s.locals) u
    (λ y. subst (λ (k : Option Bound). IsAlike back y (lost gone s.locals y) k)
    (sym (ap (λ (m : ℕ → Option Bound). m y) (groups_keep_locals lent after (without_moved gone t)
    ∙ moved_are_lost gone t) ∙ lost_is gone l y))
    (subst (λ (k : Option Bound). IsAlike back y k (if has_name gone y then None else l y))
    (sym (lost_is gone s.locals y)) (left_is_alike back gone y (l y) (s.locals y) (h y))))
