-- Which programs have an ending.
use Rattle.std.specs.Prelude.{ℕ, ℤ, List, IsSome}
use Rattle.ae_tree.specs.Plain.{Code}
use Rattle.ae_tree.specs.Built.{Built}
use Rattle.ae_rules.specs.Judges.{Accepts}
use Rattle.ae_meaning.specs.Meaning.{today_seq}

-- an accepted program of the forms that run has an ending
abbrev pub AcceptedEnd : Type 0
AcceptedEnd = (p : Code) → Accepts p → Built p → (ints : List ℤ) (fuel : ℕ) → IsSome (today_seq p ints fuel).ending
