-- Small changes of a state change only what is written.
use Rattle.std.proofs.Common.{◌≡◌, refl, sym, ap, ◌∙◌, subst, ℕ, nat_eq, Bool, true, false, if◌then◌else◌}
use Rattle.std.proofs.Common.{Option, None, Some, List, [], ◌∷◌, ◌⊎◌, inl, inr}
use Rattle.std.specs.Prelude.{is_some, slice_get}
use Rattle.std.specs.Prelude as prelude
use Rattle.std.proofs.lemmas.Bool.{eqb-true}
use Rattle.ae_tree.specs.declared.form.Form.{Form}
use Rattle.ae_rules.specs.declared.uses.Resource.TheVariants as resource
use Rattle.ae_rules.specs.Edges.{Uses}
use Rattle.ae_rules.specs.Context.{Context}
use Rattle.ae_semantics.specs.Contexts.{shuts_out}
use Rattle.ae_semantics.specs.Values.{Val, OfInt, OfBool, Null, Owned, Member, Store}
use Rattle.ae_semantics.specs.Places.{Fine, there, Group, Here, Away, As, Bound, State, other_name}
use Rattle.ae_semantics.specs.Places.{name_of, with_bound, with_store, store_of, Base, InLocal, InGroup, low, bind}
use Rattle.ae_semantics.specs.Places.{with_member, rewrite_member, write_in}
use Rattle.ae_semantics.specs.Calls.{without_moved}
use Rattle.ae_soundness.proofs.BackLemmas.{is_no_name}
use Rattle.ae_soundness.proofs.LastingLemmas.{Gives, next_gives}
use Rattle.ae_changes.specs.Changes.{GoesBy, LeavesGroup, IsAsBefore, ChangesAsUsed}
use Rattle.ae_changes.proofs.UsedLemmas.{IsWritten}

-- ---- one after another

-- Nothing is as before.
pub before_itself : {A : Type 0} (b : Bool) (o : Option A) → IsAsBefore b o o
before_itself true o = refl
before_itself false o = inl refl

-- Where nothing is changed only what is written is.
pub changes_nothing : (c : Context) (u : Uses) (s : State) → ChangesAsUsed c u s s
changes_nothing c u s = record {
  local = λ x w. before_itself (is_some (c.local x)) (s.locals x);
  group = λ r w. refl;
  name = λ g r e. e;
}

-- What is written is not left alone.
pub written_not : {A : Type 0} (b : Bool) → b ≡ true → b ≡ false → A
written_not true h k = absurd (cc k)
written_not false h k = absurd (cc h)

-- ---- locals

-- A local that is written may be another.
pub bound_changes : (c : Context) (u : Uses) (s : State) (x : ℕ) (b : Option Bound) (t : State)
    → IsWritten u (resource.Local x) → ChangesAsUsed c u s t → ChangesAsUsed c u s (with_bound x b t)
bound_changes c u s x b t w h = record {
  local = λ y k. by_test y k (nat_eq x y) refl;
  group = h.group;
  name = h.name;
}
  where
    by_test : (y : ℕ) → shuts_out (u (resource.Local y)) ≡ false → (d : Bool) → nat_eq x y ≡ d
        → IsAsBefore (is_some (c.local y)) (s.locals y) (if d then b else t.locals y)
    by_test y k true e = written_not (shuts_out (u (resource.Local y)))
        (subst (λ (z : ℕ). IsWritten u (resource.Local z)) (eqb-true x y e) w) k
    by_test y k false e = h.local y k

-- each of these names is written
abbrev pub AreWritten : Uses → List ℕ → Type 0
AreWritten u [] = Unit {0}
AreWritten u (x ∷ xs) = IsWritten u (resource.Local x) × AreWritten u xs

-- Names that are written may move.
pub moved_changes : (c : Context) (u : Uses) (s : State) (xs : List ℕ) (t : State) → AreWritten u xs
    → ChangesAsUsed c u s t → ChangesAsUsed c u s (without_moved xs t)
moved_changes c u s [] t w h = h
moved_changes c u s (x ∷ xs) t w h =
    moved_changes c u s xs (with_bound x None t) w.1 (bound_changes c u s x None t w.0 h)

-- A local that is written may get a value.
pub bind_changes : (c : Context) (u : Uses) (s : State) (x : ℕ) (t : Form) (v : Val) (y : State)
    → IsWritten u (resource.Local x) → ChangesAsUsed c u s y → Gives (ChangesAsUsed c u s) (bind x t v y)
bind_changes c u s x t v y w h = next_gives (ChangesAsUsed c u s) (low v)
    (λ z. Fine (with_bound x (Some (record { form = t; value = z })) y))
    (λ z. bound_changes c u s x (Some (record { form = t; value = z })) y w h)

-- ---- groups

-- A group stands under the name that it has.
pub goes_by_name : (s : State) (g : ℕ) → GoesBy s (name_of s g) g
goes_by_name s g = by_group (s.groups g) refl
  where
    by_group : (o : Option Group) → s.groups g ≡ o → (g ≡ other_name g o) ⊎ (s.groups g ≡ Some (As (other_name g o)))
    by_group None e = inl refl
    by_group (Some (Here st)) e = inl refl
    by_group (Some (Away cell)) e = inl refl
    by_group (Some (As h)) e = inr e

-- What a group goes by later it went by before.
pub went_by : (c : Context) (u : Uses) (s t : State) (r g : ℕ) → ChangesAsUsed c u s t → GoesBy t r g → GoesBy s r g
went_by c u s t r g h (inl e) = inl e
went_by c u s t r g h (inr e) = inr (h.name g r e)

no_name_is : (o : Option Group) (r : ℕ) → is_no_name o ≡ true → o ≡ Some (As r) → ⊥
no_name_is o r n e = absurd (cc (sym n ∙ ap is_no_name e))

-- Of a group that is written there may be something else, but no other name.
pub store_changes : (c : Context) (u : Uses) (s : State) (g : ℕ) (o : Option Group) (t : State)
    → IsWritten u (resource.Group g) → is_no_name o ≡ true → ChangesAsUsed c u s t
    → ChangesAsUsed c u s (with_store g o t)
store_changes c u s g o t w n h = record {
  local = h.local;
  group = λ r k. by_test r k (nat_eq (name_of t g) r) refl;
  name = λ y r e. by_name y r (nat_eq (name_of t g) y) e;
}
  where
    by_test : (r : ℕ) → LeavesGroup u s r → (d : Bool) → nat_eq (name_of t g) r ≡ d
        → (if d then o else t.groups r) ≡ s.groups r
    by_test r k true e = written_not (shuts_out (u (resource.Group g))) w (k g (went_by c u s t r g h
        (subst (λ (z : ℕ). GoesBy t z g) (eqb-true (name_of t g) r e) (goes_by_name t g))))
    by_test r k false e = h.group r k

    by_name : (y r : ℕ) (d : Bool) → (if d then o else t.groups y) ≡ Some (As r) → s.groups y ≡ Some (As r)
    by_name y r true e = absurd (no_name_is o r n e)
    by_name y r false e = h.name y r e

-- ---- writes

-- the tree at this base may be written
abbrev pub BaseWritten : Uses → Base → Type 0
BaseWritten u (InLocal x) = IsWritten u (resource.Local x)
BaseWritten u (InGroup g n) = IsWritten u (resource.Group g)

member_changes : (c : Context) (u : Uses) (s t : State) (g n : ℕ) (st : Store) (v : Val)
    → IsWritten u (resource.Group g) → ChangesAsUsed c u s t → Gives (ChangesAsUsed c u s) (with_member t g n st v)
member_changes c u s t g n st (OfInt i) w h = tt
member_changes c u s t g n st (OfBool b) w h = tt
member_changes c u s t g n st Null w h = tt
member_changes c u s t g n st (Owned y) w h = store_changes c u s g (Some (Here (prelude.set st n y))) t w refl h
member_changes c u s t g n st (Member i) w h = tt

-- A tree that may be written may be another.
pub write_changes : (c : Context) (u : Uses) (s t : State) (b : Base) (fields : List ℕ) (new : Val)
    → BaseWritten u b → ChangesAsUsed c u s t → Gives (ChangesAsUsed c u s) (write_in t b fields new)
write_changes c u s t (InLocal x) fields new w h = next_gives (ChangesAsUsed c u s) (there (t.locals x)) _
    (λ (b : Bound). bind_changes c u s x b.form _ t w h)
write_changes c u s t (InGroup g n) fields new w h = next_gives (ChangesAsUsed c u s) (store_of t g)
    (rewrite_member t g n fields new)
    (λ st. next_gives (ChangesAsUsed c u s) (there (slice_get st n)) _
    (λ y. next_gives (ChangesAsUsed c u s) (low _) (with_member t g n st)
    (λ v. member_changes c u s t g n st v w h)))
