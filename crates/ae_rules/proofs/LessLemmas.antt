-- What an instance uses is at most what the statement uses in which it lies.
use Rattle.std.proofs.Common.{◌≡◌, refl, Bool, true, false, not, if◌then◌else◌, List, [], ◌∷◌, Option, None, Some}
use Rattle.std.specs.Prelude.{zip}
use Rattle.ae_rules.specs.declared.uses.Resource.{Resource}
use Rattle.ae_rules.specs.declared.uses.Resource.TheVariants as resource
use Rattle.ae_rules.specs.declared.uses.Mode.{Mode}
use Rattle.ae_rules.specs.declared.uses.Mode.TheVariants as mode
use Rattle.ae_rules.specs.Edges.{is_strong, are_compatible, IsConflict, Uses}
use Rattle.ae_rules.specs.declared.held.GroupPerm.{GroupPerm}
use Rattle.ae_rules.specs.declared.held.GroupPerm.TheVariants as group
use Rattle.ae_rules.specs.Verdict.{given}
use Rattle.ae_rules.specs.Context.{Context}
use Rattle.ae_rules.specs.Uses.{nothing, same_resource, use_alone, stronger, ◌∪◌, of_each, of_found, is_seen}
use Rattle.ae_rules.specs.Uses.{outside, all_but}
use Rattle.ae_rules.specs.EdgeLaws.{IsAtMost, is_of_local, group_allows, is_allowed}
use Rattle.ae_rules.specs.Instances.{renamed}
use Rattle.ae_rules.proofs.EdgeLemmas.{strong_before, strong_after}
use Rattle.ae_rules.proofs.SeenLemmas.{Within}
use Rattle.ae_rules.proofs.from_text.Basics.{second_of_both}

-- ---- at most as strong

pub record Less (u v : Uses) : Type 0 where
  pub at : (r : Resource) → IsAtMost (u r) (v r)

itself : (o : Option Mode) → IsAtMost o o
itself None = tt
itself (Some m) = λ s. s

then_less : (o q s : Option Mode) → IsAtMost o q → IsAtMost q s → IsAtMost o s
then_less None q s h k = tt
then_less (Some m) None s h k = absurd h
then_less (Some m) (Some n) None h k = absurd k
then_less (Some m) (Some n) (Some l) h k = λ e. k (h e)

pub less_itself : (u : Uses) → Less u u
less_itself u = record { at = λ r. itself (u r) }

pub less_then : (u v w : Uses) → Less u v → Less v w → Less u w
less_then u v w h k = record { at = λ r. then_less (u r) (v r) (w r) (h.at r) (k.at r) }

pub less_nothing : (u : Uses) → Less nothing u
less_nothing u = record { at = λ r. tt }

strong_if : (b : Bool) (m n : Mode) → is_strong m ≡ b → is_strong m ≡ true → is_strong (if b then m else n) ≡ true
strong_if true m n e s = s
strong_if false m n e s = absurd (cc)

strong_else : (b : Bool) (m n : Mode) → is_strong m ≡ b → is_strong n ≡ true → is_strong (if b then m else n) ≡ true
strong_else true m n e s = e
strong_else false m n e s = s

in_left : (o q : Option Mode) → IsAtMost o (stronger o q)
in_left None q = tt
in_left (Some m) None = λ s. s
in_left (Some m) (Some n) = λ s. strong_if (is_strong m) m n refl s

in_right : (o q : Option Mode) → IsAtMost q (stronger o q)
in_right None q = itself q
in_right (Some m) None = tt
in_right (Some m) (Some n) = λ s. strong_else (is_strong m) m n refl s

pub less_left : (u v w : Uses) → Less u v → Less u (v ∪ w)
less_left u v w h = record { at = λ r. then_less (u r) (v r) (stronger (v r) (w r)) (h.at r) (in_left (v r) (w r)) }

pub less_right : (u v w : Uses) → Less u w → Less u (v ∪ w)
less_right u v w h = record { at = λ r. then_less (u r) (w r) (stronger (v r) (w r)) (h.at r) (in_right (v r) (w r)) }

strong_one : (b : Bool) (m n l : Mode) → (is_strong m ≡ true → is_strong l ≡ true)
    → (is_strong n ≡ true → is_strong l ≡ true) → is_strong (if b then m else n) ≡ true → is_strong l ≡ true
strong_one true m n l h k e = h e
strong_one false m n l h k e = k e

in_two : (o q s : Option Mode) → IsAtMost o s → IsAtMost q s → IsAtMost (stronger o q) s
in_two None q s h k = k
in_two (Some m) None s h k = h
in_two (Some m) (Some n) None h k = absurd h
in_two (Some m) (Some n) (Some l) h k = strong_one (is_strong m) m n l h k

pub less_both : (u v w : Uses) → Less u w → Less v w → Less (u ∪ v) w
less_both u v w h k = record { at = λ r. in_two (u r) (v r) (w r) (h.at r) (k.at r) }

shown_less : (b : Bool) (o q : Option Mode) → IsAtMost o q → IsAtMost (if b then o else None) (if b then q else None)
shown_less true o q h = h
shown_less false o q h = tt

pub less_outside : (c : Context) (u v : Uses) → Less u v → Less (outside c u) (outside c v)
less_outside c u v h = record { at = λ r. shown_less (is_seen c r) (u r) (v r) (h.at r) }

shown_once : (b : Bool) (o : Option Mode) → IsAtMost (if b then o else None) o
shown_once true o = itself o
shown_once false o = tt

pub outside_less : (c : Context) (u : Uses) → Less (outside c u) u
outside_less c u = record { at = λ r. shown_once (is_seen c r) (u r) }

hidden_less : (b : Bool) (o q : Option Mode) → IsAtMost o q → IsAtMost (if b then None else o) (if b then None else q)
hidden_less true o q h = tt
hidden_less false o q h = h

pub less_all_but : (s : Resource) (u v : Uses) → Less u v → Less (all_but s u) (all_but s v)
less_all_but s u v h = record { at = λ r. hidden_less (same_resource s r) (u r) (v r) (h.at r) }

one_less : (b : Bool) (m n : Mode) → (is_strong m ≡ true → is_strong n ≡ true)
    → IsAtMost (if b then Some m else None) (if b then Some n else None)
one_less true m n h = h
one_less false m n h = tt

pub less_one : (m n : Mode) (r : Resource) → (is_strong m ≡ true → is_strong n ≡ true)
    → Less (use_alone m r) (use_alone n r)
less_one m n r h = record { at = λ s. one_less (same_resource r s) m n h }

pub less_renamed : (o : Option Mode) (n : Mode) (r : Resource) → is_strong n ≡ true → Less (renamed o r) (use_alone n r)
less_renamed None n r h = less_nothing (use_alone n r)
less_renamed (Some m) n r h = less_one m n r (λ _. h)

pub less_found : {A : Type 0} (o : Option A) (u : A → Uses) (v : Uses) → ((x : A) → o ≡ Some x → Less (u x) v)
    → Less (of_found o u) v
less_found None u v h = less_nothing v
less_found (Some x) u v h = h x refl

pub less_each : {A : Type 0} (u : A → Uses) (v : Uses) → ((x : A) → Less (u x) v) → (xs : List A)
    → Less (of_each u xs) v
less_each u v h [] = less_nothing v
less_each u v h (x ∷ xs) = less_both (u x) (of_each u xs) v (h x) (less_each u v h xs)

-- each of a zipped list against the second of the pair
pub less_zip : {A B : Type 0} (u : A × B → Uses) (v : B → Uses) → ((x : A × B) → Less (u x) (v x.1))
    → (xs : List A) (ys : List B) → Less (of_each u (zip xs ys)) (of_each v ys)
less_zip u v h [] ys = less_nothing (of_each v ys)
less_zip u v h (x ∷ xs) [] = less_nothing nothing
less_zip u v h (x ∷ xs) (y ∷ ys) = less_both (u (x, y)) (of_each u (zip xs ys)) (v y ∪ of_each v ys)
    (less_left (u (x, y)) (v y) (of_each v ys) (h (x, y)))
    (less_right (of_each u (zip xs ys)) (v y) (of_each v ys) (less_zip u v h xs ys))

-- ---- a mode of its kind

abbrev pub suits : Resource → Mode → Bool
suits (resource.Local x) m = is_of_local m
suits (resource.Group g) m = not (is_of_local m)

abbrev pub Fit : Uses → Type 0
Fit u = (r : Resource) (n : Mode) → u r ≡ Some n → suits r n ≡ true

group_fits : (q : GroupPerm) (n : Mode) → group_allows q n ≡ true → not (is_of_local n) ≡ true
group_fits group.Exclusive mode.Read e = absurd (cc)
group_fits group.Exclusive mode.Write e = absurd (cc)
group_fits group.Protected mode.Read e = absurd (cc)
group_fits group.Protected mode.Write e = absurd (cc)
group_fits group.Shared mode.Read e = absurd (cc)
group_fits group.Shared mode.Write e = absurd (cc)
group_fits group.HeldBack n e = absurd (cc)
group_fits group.None n e = absurd (cc)
group_fits q mode.GroupShared e = refl
group_fits q mode.GroupWhole e = refl

given_fits : (o : Option GroupPerm) (n : Mode) → given o false (λ q. group_allows q n) ≡ true
    → not (is_of_local n) ≡ true
given_fits None n e = absurd (cc)
given_fits (Some q) n e = group_fits q n e

allowed_fits : (c : Context) (r : Resource) (n : Mode) → is_allowed c r n ≡ true → suits r n ≡ true
allowed_fits c (resource.Local x) n e = second_of_both _ (is_of_local n) e
allowed_fits c (resource.Group g) n e = given_fits (c.group g) n e

pub fit_within : (c : Context) (u : Uses) → Within c u → Fit u
fit_within c u h r n e = allowed_fits c r n (h r n e)

pub fit_nothing : Fit nothing
fit_nothing r n e = absurd (cc)

weak_apart : (r : Resource) (m n : Mode) → suits r m ≡ true → suits r n ≡ true → is_strong m ≡ false
    → is_strong n ≡ false → are_compatible m n ≡ false → ⊥
weak_apart r mode.Write n f g s t e = cc
weak_apart r mode.GroupWhole n f g s t e = cc
weak_apart r mode.Read mode.Write f g s t e = cc
weak_apart r mode.Read mode.GroupWhole f g s t e = cc
weak_apart r mode.GroupShared mode.Write f g s t e = cc
weak_apart r mode.GroupShared mode.GroupWhole f g s t e = cc
weak_apart r mode.Read mode.Read f g s t e = cc
weak_apart r mode.GroupShared mode.GroupShared f g s t e = cc
weak_apart (resource.Local x) mode.Read mode.GroupShared f g s t e = cc
weak_apart (resource.Group x) mode.Read mode.GroupShared f g s t e = cc
weak_apart (resource.Local x) mode.GroupShared mode.Read f g s t e = cc
weak_apart (resource.Group x) mode.GroupShared mode.Read f g s t e = cc

-- what conflicts still does, where both are used at least as strongly
modes_conflict : (r : Resource) (m n k l : Mode) (a b : Bool) → is_strong m ≡ a → is_strong n ≡ b → suits r m ≡ true
    → suits r n ≡ true → are_compatible m n ≡ false
    → (is_strong m ≡ true → is_strong k ≡ true) → (is_strong n ≡ true → is_strong l ≡ true) → are_compatible k l ≡ false
modes_conflict r m n k l true b s t f g e h i = strong_before k l (h s)
modes_conflict r m n k l false true s t f g e h i = strong_after k l (i t)
modes_conflict r m n k l false false s t f g e h i = absurd (weak_apart r m n f g s t e)

more_conflict : (r : Resource) (o q v w : Option Mode) → ((m : Mode) → o ≡ Some m → suits r m ≡ true)
    → ((m : Mode) → q ≡ Some m → suits r m ≡ true)
    → IsConflict o q → IsAtMost o v → IsAtMost q w → IsConflict v w
more_conflict r None q v w f g e h i = absurd e
more_conflict r (Some m) None v w f g e h i = absurd e
more_conflict r (Some m) (Some n) None w f g e h i = absurd h
more_conflict r (Some m) (Some n) (Some k) None f g e h i = absurd i
more_conflict r (Some m) (Some n) (Some k) (Some l) f g e h i = modes_conflict r m n k l (is_strong m)
    (is_strong n) refl refl (f m refl) (g n refl) e h i

pub conflict_more : (r : Resource) (u v x y : Uses) → Fit u → Fit v → Less u x → Less v y → IsConflict (u r) (v r)
    → IsConflict (x r) (y r)
conflict_more r u v x y f g h i e = more_conflict r (u r) (v r) (x r) (y r) (f r) (g r) e (h.at r) (i.at r)
