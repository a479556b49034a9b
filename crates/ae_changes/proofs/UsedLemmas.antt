-- Which resources are written.
use Rattle.std.proofs.Common.{◌≡◌, refl, ap, ℕ, nat_eq, Bool, true, false, if◌then◌else◌, not}
use Rattle.std.proofs.Common.{Option, None, Some, ◌⊎◌, inl, inr}
use Rattle.ae_rules.specs.declared.uses.Resource.{Resource}
use Rattle.ae_rules.specs.declared.uses.Resource.TheVariants as resource
use Rattle.ae_rules.specs.declared.uses.Mode.{Mode}
use Rattle.ae_rules.specs.declared.uses.Mode.TheVariants as mode
use Rattle.ae_rules.specs.Edges.{Uses, is_strong}
use Rattle.ae_rules.specs.Uses.{write_use, whole_group, stronger, ◌∪◌}
use Rattle.ae_semantics.specs.Contexts.{shuts_out}
use Rattle.ae_changes.proofs.from_text.Basics.{number_is_itself}

-- the resource is used so that nothing else uses it meanwhile
abbrev pub IsWritten : Uses → Resource → Type 0
IsWritten u r = shuts_out (u r) ≡ true

-- ---- uses put together

left_strong : (o q : Option Mode) → shuts_out o ≡ true → shuts_out (stronger o q) ≡ true
left_strong None q h = absurd (cc h)
left_strong (Some m) None h = h
left_strong (Some mode.Read) (Some n) h = absurd (cc h)
left_strong (Some mode.Write) (Some n) h = refl
left_strong (Some mode.GroupShared) (Some n) h = absurd (cc h)
left_strong (Some mode.GroupWhole) (Some n) h = refl

right_strong : (o q : Option Mode) → shuts_out q ≡ true → shuts_out (stronger o q) ≡ true
right_strong None q h = h
right_strong (Some m) None h = absurd (cc h)
right_strong (Some mode.Read) (Some n) h = h
right_strong (Some mode.Write) (Some n) h = refl
right_strong (Some mode.GroupShared) (Some n) h = h
right_strong (Some mode.GroupWhole) (Some n) h = refl

-- What is written by the one of two is written by both.
pub written_left : (u v : Uses) (r : Resource) → IsWritten u r → IsWritten (u ∪ v) r
written_left u v r h = left_strong (u r) (v r) h

-- What is written by the other of two is written by both.
pub written_right : (u v : Uses) (r : Resource) → IsWritten v r → IsWritten (u ∪ v) r
written_right u v r h = right_strong (u r) (v r) h

-- ---- single uses

by_itself : (b : Bool) (m : Mode) → b ≡ true → is_strong m ≡ true → shuts_out (if b then Some m else None) ≡ true
by_itself true m e h = ap not (ap not h)
by_itself false m e h = absurd (cc e)

-- A local that is written is written.
pub local_itself : (x : ℕ) → IsWritten (write_use x) (resource.Local x)
local_itself x = by_itself (nat_eq x x) mode.Write (number_is_itself x) refl

-- A group that is used as a whole is written.
pub group_itself : (g : ℕ) → IsWritten (whole_group g) (resource.Group g)
group_itself g = by_itself (nat_eq g g) mode.GroupWhole (number_is_itself g) refl

either_strong : (o q : Option Mode) → shuts_out (stronger o q) ≡ true → (shuts_out o ≡ true) ⊎ (shuts_out q ≡ true)
either_strong None q h = inr h
either_strong (Some m) None h = inl h
either_strong (Some mode.Read) (Some n) h = inr h
either_strong (Some mode.Write) (Some n) h = inl refl
either_strong (Some mode.GroupShared) (Some n) h = inr h
either_strong (Some mode.GroupWhole) (Some n) h = inl refl

-- What is written by both is written by one of them.
pub written_either : (u v : Uses) (r : Resource) → IsWritten (u ∪ v) r → IsWritten u r ⊎ IsWritten v r
written_either u v r h = either_strong (u r) (v r) h

-- ---- uses at least as strong

-- what the one uses writes, the other does
abbrev pub Covers : Uses → Uses → Type 0
Covers v u = (r : Resource) → IsWritten v r → IsWritten u r

-- What covers both covers them together.
pub covers_both : (u v w : Uses) → Covers u w → Covers v w → Covers (u ∪ v) w
covers_both u v w h k r i = by_either (written_either u v r i)
  where
    by_either : IsWritten u r ⊎ IsWritten v r → IsWritten w r
    by_either (inl e) = h r e
    by_either (inr e) = k r e

-- What covers the one of two is covered by both.
pub covers_left : (u v : Uses) → Covers u (u ∪ v)
covers_left u v r h = written_left u v r h

-- What covers the other of two is covered by both.
pub covers_right : (u v : Uses) → Covers v (u ∪ v)
covers_right u v r h = written_right u v r h

-- What covers what covers covers.
pub covers_then : (u v w : Uses) → Covers u v → Covers v w → Covers u w
covers_then u v w h k r i = k r (h r i)
