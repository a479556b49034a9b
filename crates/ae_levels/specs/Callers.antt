-- What is kept of a caller while the method that it called runs.
use Rattle.std.specs.Prelude.{◌≡◌, ℕ, List, drop, take, option_map}
use Rattle.ae_tree.specs.Plain.{Code, Invocation}
use Rattle.ae_semantics.specs.Places.{Fine, State}
use Rattle.ae_values.specs.declared.env.Bind.{Bind}
use Rattle.ae_values.specs.Shapes.{NameShape, shapes}
use Rattle.ae_values.specs.Shown.{shown}
use Rattle.ae_reads.specs.Answers.{one_name}
use Rattle.ae_names.specs.Known.{state_of}
use Rattle.ae_frames.specs.declared.left.Left.{Left}
use Rattle.ae_frames.specs.Shown.{backs_of, lents_of}
use Rattle.ae_frames.specs.Entries.{EnteredCall, entered, names_entered}
use Rattle.ae_frames.specs.Kept.{IsKept, IsLeftOf}
use Rattle.ae_frames.specs.Awaiting.{Awaits}

-- the names of the caller, where these binds wait
abbrev pub names_behind : Left → List Bind → List (ℕ × NameShape)
names_behind left waiting = shapes (drop left.waiting.base waiting)

-- the binds that wait for the caller, where these wait
abbrev pub waiting_behind : Left → List Bind → List Bind
waiting_behind left waiting = take left.waiting.base waiting

-- What is kept leads back to the caller that called from this state, where the method that it called has these names
-- and these binds wait.
pub record LeadsBack (p : Code) (left : Left) (x : EnteredCall) (i : Invocation) (before : State) (names : List (ℕ × NameShape))
    (waiting : List Bind) : Type 0 where
  pub was_entered : entered p i before ≡ Fine x
  pub awaits : Awaits left.waiting names waiting
  pub kept : IsKept x i (backs_of left.waiting.back.items) (lents_of left.waiting.lent.items) left.gone.items
  pub caller : IsLeftOf (backs_of left.waiting.back.items) (lents_of left.waiting.lent.items) left.gone.items before
      (state_of one_name (option_map shown left.result) (drop left.waiting.base waiting))
  pub names_are : names ≡ names_entered x
