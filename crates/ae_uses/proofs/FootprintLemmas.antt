-- What was used, as a footprint.
use Rattle.std.proofs.Common.{◌≡◌, ◌↔◌, ℕ, inl, inr, Bool, true, false, ◌||◌, if◌then◌else◌, List, [], ◌∷◌, ◌++◌}
use Rattle.std.proofs.Common.{map, None, Some, refl, sym, ap, ◌∙◌, subst}
use Rattle.std.specs.List.{Contains}
use Rattle.std.proofs.lemmas.Bool.{or_left, or_right, or_cases}
use Rattle.std.proofs.lemmas.List.Elements.{Contains-append_left, Contains-append_right, Contains-append_cases}
use Rattle.ae_rules.specs.declared.uses.Resource.{Resource}
use Rattle.ae_rules.specs.declared.uses.Resource.TheVariants as resource
use Rattle.ae_rules.specs.declared.uses.Mode.{Mode}
use Rattle.ae_rules.specs.declared.uses.Mode.TheVariants as mode
use Rattle.ae_rules.specs.declared.uses.Use.{Use}
use Rattle.ae_rules.specs.Edges.{IsRising}
use Rattle.ae_rules.specs.Lookups.{Names, has_name}
use Rattle.ae_uses.specs.declared.used.Used.{Used}
use Rattle.ae_uses.specs.Used.{used_as, mode_of}
use Rattle.ae_uses.specs.Footprint.{IsFootprintOf, AreInOrder}
use Rattle.ae_uses.specs.Joined.{AreJoined, local_as, group_as}
use Rattle.ae_uses.proofs.from_text.Basics.{option_holds_one}
use Rattle.ae_uses.proofs.UsedLemmas.{same_tests_choose_alike}
use Rattle.ae_uses.proofs.Elements.{in_map, from_map, has_from, from_has, has_the_same}

-- ---- order

groups_in_order : (s : Names) (gs : List ℕ) → IsRising gs → AreInOrder (map (group_as s) gs)
groups_in_order s [] r = tt
groups_in_order s (g ∷ []) r = tt
groups_in_order s (g ∷ h ∷ gs) r = (r.0, groups_in_order s (h ∷ gs) r.1)

last_local : (w s : Names) (x : ℕ) (gs : List ℕ) → IsRising gs
    → AreInOrder (local_as w x ∷ map (group_as s) gs)
last_local w s x [] r = tt
last_local w s x (g ∷ gs) r = (tt, groups_in_order s (g ∷ gs) r)

all_in_order : (w s : Names) (xs gs : List ℕ) → IsRising xs → IsRising gs
    → AreInOrder (map (local_as w) xs ++ map (group_as s) gs)
all_in_order w s [] gs q r = groups_in_order s gs r
all_in_order w s (x ∷ []) gs q r = last_local w s x gs r
all_in_order w s (x ∷ y ∷ xs) gs q r = (q.0, all_in_order w s (y ∷ xs) gs q.1 r)

-- ---- modes

-- a name of one of the lists has the mode of its list
mode_there : (weak strong : Mode) (b d : Bool) → (d || b) ≡ true
    → (if b then Some strong else (if d then Some weak else None)) ≡ Some (if b then strong else weak)
mode_there weak strong true d e = refl
mode_there weak strong false true e = refl
mode_there weak strong false false e = absurd (cc)

mode_from : (weak strong m : Mode) (b d : Bool)
    → (if b then Some strong else (if d then Some weak else None)) ≡ Some m
    → ((d || b) ≡ true) × ((if b then strong else weak) ≡ m)
mode_from weak strong m true true e = (refl, option_holds_one (Some m) strong m (sym e) refl)
mode_from weak strong m true false e = (refl, option_holds_one (Some m) strong m (sym e) refl)
mode_from weak strong m false true e = (refl, option_holds_one (Some m) weak m (sym e) refl)
mode_from weak strong m false false e = absurd (cc)

in_either : (xs ys : List ℕ) (x : ℕ) → Contains (xs ++ ys) x → (has_name xs x || has_name ys x) ≡ true
in_either xs ys x h = elim (Contains-append_cases xs ys x h) [
  | inl k ↦ or_left (has_name xs x) (has_name ys x) (has_from xs x k)
  | inr k ↦ or_right (has_name xs x) (has_name ys x) (has_from ys x k)
]

from_either : (xs ys : List ℕ) (x : ℕ) → (has_name xs x || has_name ys x) ≡ true → Contains (xs ++ ys) x
from_either xs ys x h = elim (or_cases (has_name xs x) (has_name ys x) h) [
  | inl k ↦ Contains-append_left xs ys x (from_has xs x k)
  | inr k ↦ Contains-append_right xs ys x (from_has ys x k)
]

-- a name of a joined list has the mode that its test says
joined_has_mode : (weak strong : Mode) (xs ys zs : List ℕ) (test : Names) → AreJoined xs ys zs
    → ((x : ℕ) → test x ≡ has_name ys x) → (x : ℕ) → Contains zs x
    → mode_of weak strong xs ys x ≡ Some (if test x then strong else weak)
joined_has_mode weak strong xs ys zs test j t x h =
    subst (λ (b : Bool). mode_of weak strong xs ys x ≡ Some (if b then strong else weak)) (sym (t x))
    (mode_there weak strong (has_name ys x) (has_name xs x) (in_either xs ys x ((j.same x).0 h)))

joined_from_mode : (weak strong : Mode) (xs ys zs : List ℕ) (test : Names) → AreJoined xs ys zs
    → ((x : ℕ) → test x ≡ has_name ys x) → (x : ℕ) (m : Mode) → mode_of weak strong xs ys x ≡ Some m
    → Contains zs x × ((if test x then strong else weak) ≡ m)
joined_from_mode weak strong xs ys zs test j t x m h =
    let r = mode_from weak strong m (has_name ys x) (has_name xs x) h in
    ((j.same x).1 (from_either xs ys x r.0), ap (λ (b : Bool). if b then strong else weak) (t x) ∙ r.1)

-- ---- both

-- two joined lists, with a test for the names of the stronger mode
record Parts (u : Used) (w s : Names) (xs gs : List ℕ) : Type 0 where
  locals : AreJoined u.read.items u.written.items xs
  groups : AreJoined u.together.items u.whole.items gs
  written : (x : ℕ) → w x ≡ has_name u.written.items x
  whole : (x : ℕ) → s x ≡ has_name u.whole.items x

is_used : (u : Used) (w s : Names) (xs gs : List ℕ) → Parts u w s xs gs → (y : Use)
    → Contains (map (local_as w) xs ++ map (group_as s) gs) y → used_as u y.what ≡ Some y.mode
is_used u w s xs gs p y h = elim (Contains-append_cases (map (local_as w) xs) (map (group_as s) gs) y h) [
  | inl k ↦ let r = from_map (local_as w) xs y k in
      subst (λ (z : Use). used_as u z.what ≡ Some z.mode) r.2
      (joined_has_mode mode.Read mode.Write u.read.items u.written.items xs w p.locals p.written r.0 r.1)
  | inr k ↦ let r = from_map (group_as s) gs y k in
      subst (λ (z : Use). used_as u z.what ≡ Some z.mode) r.2
      (joined_has_mode mode.GroupShared mode.GroupWhole u.together.items u.whole.items gs s p.groups p.whole r.0 r.1)
]

is_listed : (u : Used) (w s : Names) (xs gs : List ℕ) → Parts u w s xs gs → (r : Resource) (m : Mode)
    → used_as u r ≡ Some m → Contains (map (local_as w) xs ++ map (group_as s) gs) (record { what = r; mode = m })
is_listed u w s xs gs p (resource.Local x) m h =
    let r = joined_from_mode mode.Read mode.Write u.read.items u.written.items xs w p.locals p.written x m h in
    Contains-append_left (map (local_as w) xs) (map (group_as s) gs) _
    (subst (λ (n : Mode). Contains (map (local_as w) xs) (record { what = resource.Local x; mode = n })) r.1
    (in_map (local_as w) xs x r.0))
is_listed u w s xs gs p (resource.Group g) m h =
    let r = joined_from_mode mode.GroupShared mode.GroupWhole u.together.items u.whole.items gs s p.groups p.whole g m h
    in
    Contains-append_right (map (local_as w) xs) (map (group_as s) gs) _
    (subst (λ (n : Mode). Contains (map (group_as s) gs) (record { what = resource.Group g; mode = n })) r.1
    (in_map (group_as s) gs g r.0))

-- the uses of the locals, and then of the groups
pub joined_names_are_a_footprint : (u : Used) (w s : Names) (xs gs : List ℕ) (us : List Use)
    → us ≡ map (local_as w) xs ++ map (group_as s) gs → AreJoined u.read.items u.written.items xs
    → AreJoined u.together.items u.whole.items gs → ((x : ℕ) → w x ≡ has_name u.written.items x)
    → ((x : ℕ) → s x ≡ has_name u.whole.items x) → IsFootprintOf (used_as u) us
joined_names_are_a_footprint u w s xs gs us e q r f g =
    let p : Parts u w s xs gs = record { locals = q; groups = r; written = f; whole = g } in
    subst (λ (vs : List Use). IsFootprintOf (used_as u) vs) (sym e) (record {
      in_order = all_in_order w s xs gs q.in_order r.in_order;
      exact = λ y. (is_used u w s xs gs p y, is_listed u w s xs gs p y.what y.mode);
    })

-- ---- names once

once_has_mode : (weak strong : Mode) (xs ys zs ws : List ℕ) → ((x : ℕ) → Contains xs x ↔ Contains ys x)
    → ((x : ℕ) → Contains zs x ↔ Contains ws x) → (x : ℕ) → mode_of weak strong xs zs x ≡ mode_of weak strong ys ws x
once_has_mode weak strong xs ys zs ws e f x =
    same_tests_choose_alike weak strong _ _ _ _ (has_the_same zs ws f x) (has_the_same xs ys e x)

-- lists of the same names are the same uses
pub same_names_same_uses : (u v : Used) → ((x : ℕ) → Contains v.read.items x ↔ Contains u.read.items x)
    → ((x : ℕ) → Contains v.written.items x ↔ Contains u.written.items x)
    → ((x : ℕ) → Contains v.together.items x ↔ Contains u.together.items x)
    → ((x : ℕ) → Contains v.whole.items x ↔ Contains u.whole.items x) → (r : Resource) → used_as v r ≡ used_as u r
same_names_same_uses u v e f g h (resource.Local x) = once_has_mode mode.Read mode.Write _ _ _ _ e f x
same_names_same_uses u v e f g h (resource.Group x) = once_has_mode mode.GroupShared mode.GroupWhole _ _ _ _ g h x
