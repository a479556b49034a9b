-- Facts on writes: they go through where the whole value stays low, and are trap 8 where it would not.
use Rattle.std.proofs.Common.{◌≡◌, refl, ap, ◌∙◌, ℕ, Bool, true, if◌then◌else◌, List, [], ◌∷◌, ◌++◌}
use Rattle.std.proofs.Common.{Option, Some, slice_get}
use Rattle.std.specs.Prelude as prelude
use Rattle.ae_semantics.specs.Values.{Val, Owned, Tree, Object, Array, Store, put_at, with_changed, is_low}
use Rattle.ae_semantics.specs.Places.{Outcome, Fine, Traps, ◌>>=◌, there, low, bind, Here, Bound, State, with_bound}
use Rattle.ae_semantics.specs.Places.{with_store, with_member, rewrite_member, members, group_of, Base}
use Rattle.ae_semantics.specs.Places.{InLocal, InGroup}
use Rattle.ae_semantics.specs.Places.{write_in}
use Rattle.ae_stores.specs.Stand.{whole_at, KeepsObject}
use Rattle.ae_stores.proofs.WholeLemmas.{whole_local, whole_member}

-- a tree in an object leaves an object
pub tree_keeps_object : (fields : List ℕ) (new : Tree) → KeepsObject fields (Owned new)
tree_keeps_object [] new t = (new, refl)
tree_keeps_object (k ∷ is) new (Object c xs) = (Object c (with_changed xs k (put_at is (Owned new))), refl)
tree_keeps_object (k ∷ is) new (Array ns) = (Array ns, refl)

-- a value in a field of an object leaves an object
pub field_keeps_object : (fields : List ℕ) (i : ℕ) (new : Val) → KeepsObject (fields ++ i ∷ []) new
field_keeps_object [] i new (Object c xs) = (Object c (with_changed xs i (put_at [] new)), refl)
field_keeps_object [] i new (Array ns) = (Array ns, refl)
field_keeps_object (k ∷ is) i new (Object c xs) = (Object c (with_changed xs k (put_at (is ++ i ∷ []) new)), refl)
field_keeps_object (k ∷ is) i new (Array ns) = (Array ns, refl)

-- what is low, or too high, goes on so
low_by_test : {A : Type 0} (v : Val) (next : Val → Outcome A) (b : Bool) → is_low v ≡ b
    → (low v >>= next) ≡ ((if b then Fine v else Traps 8) >>= next)
low_by_test {A} v next b e = ap (λ t. (if t then Fine v else trap) >>= next) e
  where
    trap : Outcome Val
    trap = Traps 8

-- a write to a local that has a value
local_written : (s : State) (x : ℕ) (fields : List ℕ) (new : Val) (b : Bound) → s.locals x ≡ Some b
    → write_in s (InLocal x) fields new ≡ bind x b.form (put_at fields new b.value) s
local_written s x fields new b e =
    ap (λ (o : Option Bound). there o >>= λ b. bind x b.form (put_at fields new b.value) s) e

-- a write to a member that is there
member_written : (s : State) (g n : ℕ) (fields : List ℕ) (new : Val) (st : Store) (t : Tree)
    → members (group_of s g) ≡ Some st → slice_get st n ≡ Some t
    → write_in s (InGroup g n) fields new ≡ (low (put_at fields new (Owned t)) >>= with_member s g n st)
member_written s g n fields new st t here at =
    ap (λ (o : Option Store). there o >>= rewrite_member s g n fields new) here
    ∙ ap (λ (o : Option Tree). there o >>= λ t. low (put_at fields new (Owned t)) >>= with_member s g n st) at

-- where the whole value of a local stays low a write goes through
pub local_goes_through : (s : State) (x : ℕ) (fields : List ℕ) (new whole : Val) → whole_at s (InLocal x) ≡ Some whole
    → is_low (put_at fields new whole) ≡ true → (t : State) × (write_in s (InLocal x) fields new ≡ Fine t)
local_goes_through s x fields new whole e is =
    let w = whole_local s x whole e in (
      with_bound x (Some (record { form = w.0.form; value = put_at fields new w.0.value })) s,
      local_written s x fields new w.0 w.1
          ∙ low_by_test (put_at fields new w.0.value)
          (λ v. Fine (with_bound x (Some (record { form = w.0.form; value = v })) s))
          true (ap (λ u. is_low (put_at fields new u)) w.2 ∙ is),
    )

-- where the whole value stays low, and an object stays one, a write goes through
pub write_goes_through : (s : State) (base : Base) (fields : List ℕ) (new whole : Val) → KeepsObject fields new
    → whole_at s base ≡ Some whole → is_low (put_at fields new whole) ≡ true
    → (t : State) × (write_in s base fields new ≡ Fine t)
write_goes_through s (InLocal x) fields new whole keeps e is = local_goes_through s x fields new whole e is
write_goes_through s (InGroup g n) fields new whole keeps e is =
    let m = whole_member s g n whole e in
    let u = keeps m.2 in (
      with_store g (Some (Here (prelude.set m.0 n u.0))) s,
      member_written s g n fields new m.0 m.2 m.1 m.3
          ∙ low_by_test (put_at fields new (Owned m.2)) (with_member s g n m.0)
          true (ap (λ u. is_low (put_at fields new u)) m.4 ∙ is)
          ∙ ap (with_member s g n m.0) u.1,
    )
