-- What was used elsewhere is used too.
use Rattle.std.proofs.Common.{◌≡◌, ℕ, Bool, true, false, ◌&&◌, not, nat_eq, if◌then◌else◌, List, ◌++◌}
use Rattle.std.proofs.Common.{Option, None, Some, refl, ap, ◌∙◌}
use Rattle.std.specs.List.{filter}
use Rattle.std.proofs.lemmas.Bool.{eqb-true}
use Rattle.std.proofs.lemmas.Map.Views.{any-filter_same}
use Rattle.ae_rules.specs.declared.uses.Resource.{Resource}
use Rattle.ae_rules.specs.declared.uses.Resource.TheVariants as resource
use Rattle.ae_rules.specs.declared.uses.Mode.{Mode}
use Rattle.ae_rules.specs.declared.uses.Mode.TheVariants as mode
use Rattle.ae_rules.specs.Groups.{known}
use Rattle.ae_rules.specs.Context.{Context}
use Rattle.ae_rules.specs.Lookups.{Names, has_name}
use Rattle.ae_rules.specs.Uses.{outside}
use Rattle.ae_uses.specs.declared.used.Used.{Used}
use Rattle.ae_uses.specs.Used.{Adds, mode_of, used_as}
use Rattle.ae_uses.specs.Outside.{is_local_outside, is_group_outside, without_group}
use Rattle.ae_uses.proofs.UsedLemmas.{chosen, same_tests_choose_alike, listed, lists_more}

-- all that was used elsewhere
pub all_of_it_more : (u v o : Used) → v.read.items ≡ u.read.items ++ o.read.items
    → v.written.items ≡ u.written.items ++ o.written.items → v.together.items ≡ u.together.items ++ o.together.items
    → v.whole.items ≡ u.whole.items ++ o.whole.items → Adds u (used_as o) v
all_of_it_more u v o e f g h =
    lists_more u v o.read.items o.written.items o.together.items o.whole.items (used_as o) e f g h same where
      same : (r : Resource) → listed o.read.items o.written.items o.together.items o.whole.items r ≡ used_as o r
      same (resource.Local x) = refl
      same (resource.Group g) = refl

-- ---- what is seen from outside

has_kept : (p : Names) (xs : List ℕ) (x : ℕ) → has_name (filter p xs) x ≡ (p x && has_name xs x)
has_kept p xs x = any-filter_same (λ y. nat_eq y x) p (p x) (λ y e. ap p (eqb-true y x e)) xs

if_kept : (weak strong : Mode) (p : Names) (xs ys : List ℕ) (x : ℕ)
    → mode_of weak strong (filter p xs) (filter p ys) x ≡ (if p x then mode_of weak strong xs ys x else None)
if_kept weak strong p xs ys x = same_tests_choose_alike weak strong _ _ _ _ (has_kept p ys x) (has_kept p xs x)
    ∙ by_test (p x) (has_name ys x) (has_name xs x) where
      by_test : (b s w : Bool) → chosen weak strong (b && s) (b && w) ≡ (if b then chosen weak strong s w else None)
      by_test true s w = refl
      by_test false s w = refl

by_known : (b : Bool) (m : Option Mode) → (if b && not false then m else None) ≡ (if b then m else None)
by_known true m = refl
by_known false m = refl

by_both : (b d : Bool) (m : Option Mode)
    → (if b && not d then m else None) ≡ (if d then None else (if b then m else None))
by_both true true m = refl
by_both true false m = refl
by_both false true m = refl
by_both false false m = refl

-- what was used inside, as far as it is seen from outside
pub what_is_outside_more : (u v o : Used) (c : Context) (but : Option ℕ)
    → v.read.items ≡ u.read.items ++ filter (is_local_outside c) o.read.items
    → v.written.items ≡ u.written.items ++ filter (is_local_outside c) o.written.items
    → v.together.items ≡ u.together.items ++ filter (is_group_outside c but) o.together.items
    → v.whole.items ≡ u.whole.items ++ filter (is_group_outside c but) o.whole.items
    → Adds u (without_group but (outside c (used_as o))) v
what_is_outside_more u v o c but e f g h = lists_more u v _ _ _ _ (without_group but (outside c (used_as o))) e f g h
    (seen but) where
      seen : (q : Option ℕ) (r : Resource)
          → listed (filter (is_local_outside c) o.read.items) (filter (is_local_outside c) o.written.items)
          (filter (is_group_outside c q) o.together.items) (filter (is_group_outside c q) o.whole.items) r
          ≡ without_group q (outside c (used_as o)) r
      seen None (resource.Local x) = if_kept mode.Read mode.Write (is_local_outside c) o.read.items o.written.items x
      seen (Some n) (resource.Local x) = if_kept mode.Read mode.Write (is_local_outside c) o.read.items
          o.written.items x
      seen None (resource.Group x) = if_kept mode.GroupShared mode.GroupWhole (is_group_outside c None) o.together.items
          o.whole.items x ∙ by_known (known c.group x) _
      seen (Some n) (resource.Group x) = if_kept mode.GroupShared mode.GroupWhole (is_group_outside c (Some n))
          o.together.items o.whole.items x ∙ by_both (known c.group x) (nat_eq n x) _
