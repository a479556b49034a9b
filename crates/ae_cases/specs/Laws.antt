-- The meaning of the programs that run today is a case of the meaning of the whole language.
use Rattle.std.specs.Prelude.{◌≡◌, ℕ, ℤ, List, None, option_map}
use Rattle.ae_tree.specs.Plain.{Code}
use Rattle.ae_tree.specs.WellShaped.{WellShaped}
use Rattle.ae_tree.specs.Built.{Built}
use Rattle.ae_rules.specs.Judges.{Accepts}
use Rattle.ae_meaning.specs.declared.report.Ending as today_ending
use Rattle.ae_meaning.specs.declared.report.Ending.TheVariants as ends_today
use Rattle.ae_meaning.specs.Meaning as today
use Rattle.ae_semantics.specs.declared.report.Ending as whole_ending
use Rattle.ae_semantics.specs.declared.report.Ending.TheVariants as ends
use Rattle.ae_semantics.specs.Means as whole
use Rattle.ae_semantics.specs.Means.{pieces_bytes}

-- an ending of today, as an ending of the whole language
abbrev pub as_whole : today_ending.Ending → whole_ending.Ending
as_whole ends_today.Done = ends.Done
as_whole (ends_today.Trap code at) = ends.Trap code at
as_whole (ends_today.Fuel at) = ends.Fuel at

-- the ending and the bytes are those of today, and `io` is not split at the end, so that there are no other bytes
pub record IsAsToday (m : today.Meaning) (w : whole.Meant) : Type 0 where
  pub ending : w.ending ≡ option_map as_whole m.ending
  pub out : pieces_bytes w.log ≡ m.out
  pub unsplit : w.cell ≡ None

-- a well-shaped and accepted program of the forms that run comes to the same by both meanings
abbrev pub TodayIsACase : Type 0
TodayIsACase = (p : Code) → WellShaped p → Accepts p → Built p → (ints : List ℤ) (fuel : ℕ)
    → IsAsToday (today.today_seq p ints fuel) (whole.seq p ints fuel)
