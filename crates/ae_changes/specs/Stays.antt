-- That a parameter that stays is as before after its method's body.
use Rattle.std.specs.Prelude.{◌≡◌, ℕ, true, Some}
use Rattle.ae_tree.specs.Plain.{Definition, Code}
use Rattle.ae_tree.specs.WellShaped.{WellShaped}
use Rattle.ae_rules.specs.Lookups.{method_at}
use Rattle.ae_rules.specs.Context.{Local}
use Rattle.ae_rules.specs.Judges.{Accepts, start}
use Rattle.ae_rules.specs.Uses.{outside, lines_use}
use Rattle.ae_semantics.specs.Places.{State}
use Rattle.ae_soundness.specs.Whole.{IsUnsplit}
use Rattle.ae_changes.specs.Changes.{ChangesAsUsed}

-- In an accepted and well-shaped program in which nothing is split each parameter that stays is as before, where of the
-- parameters of a method only those change that the statements of its body write.
abbrev pub StayingParametersStay : Type 0
StayingParametersStay = (p : Code) → WellShaped p → Accepts p → IsUnsplit p → (number : ℕ) (m : Definition)
    → method_at p number ≡ Some m → (s t : State)
    → ChangesAsUsed (start p m) (outside (start p m) (lines_use p m m.body (start p m))) s t
    → (x : ℕ) (l : Local) → (start p m).local x ≡ Some l → l.stays ≡ true → t.locals x ≡ s.locals x
