-- What the goals of this crate are closed by.
use Rattle.std.proofs.Common.{◌≡◌, ℕ, ℤ, List, refl}
use Rattle.std.proofs.lemmas.Int.{to_z-of_z}
use Rattle.ae_text.specs.declared.refusal.Spot.{Spot}
use Rattle.ae_tree.specs.Plain.{RightSide, Value, Taken, Zeros, Made, Returned, Code}
use Rattle.ae_tree.specs.Shown.{shows}
use Rattle.ae_meaning.specs.Meaning.{TodayState, Run, today_given, right, today_seq, meaning_of_run, today_many}
use Rattle.ae_meaning.specs.Meaning.{main_body, begin}
use Rattle.ae_meaning.specs.Running.{sought}

-- a right side is evaluated as an expression is
pub right-given : (e : RightSide) (at : Spot) (s : TodayState) (go : ℤ → Run)
    → right e at s go ≡ today_given (sought e s.env) at s go
right-given (Value e) at s go = refl
right-given (Taken p place) at s go = refl
right-given (Zeros e place) at s go = refl
right-given (Made c groups args place) at s go = refl
right-given (Returned c) at s go = refl

pub seq-ended : (p : Code) (ints : List ℤ) (fuel : ℕ)
    → today_seq p ints fuel ≡ meaning_of_run (today_many (main_body p.methods) begin)
unfolding today_seq
seq-ended p ints fuel = refl

pub ruleset forms = (shows, to_z-of_z, right-given, seq-ended)
