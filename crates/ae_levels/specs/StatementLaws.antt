-- What becomes of statements that begin.
use Rattle.ae_acts.specs.Acts.{acted, is_flat}
use Rattle.ae_acts.specs.Doing.{bytes_of}
use Rattle.ae_levels.specs.Going.{Begun, Going}
use Rattle.ae_levels.specs.Halting.{HaltsAs, halt_at}
use Rattle.ae_levels.specs.Levels.{InBlock, Level, NamesInOrder}
use Rattle.ae_names.specs.Known.{form_in, names_declared}
use Rattle.ae_reads.specs.Answers.{FaultsAs}
use Rattle.ae_reads.specs.declared.stop.Stop.{Stop}
use Rattle.ae_semantics.specs.Observations.{Seen}
use Rattle.ae_semantics.specs.Places.{Fine, State}
use Rattle.ae_semantics.specs.Runs.{Run}
use Rattle.ae_text.specs.declared.refusal.Spot.{Spot}
use Rattle.ae_tree.specs.Plain.{Action, Code, Definition, Lines, Next}
use Rattle.ae_values.specs.declared.env.Bind.{Bind}
use Rattle.std.specs.Prelude.{List, Option, true, ℕ, ◌++◌, ◌∷◌, ◌≡◌}

-- a statement of a block begins, and what it does without blocks and calls
pub record StatementsGoOn : Type 0 where
  -- The first of the statements that are left begins, and the others stand for what is to be done after it.
  pub begun : (p : Code) (whole : Run (List Seen)) (names : NamesInOrder) (waiting : List Bind) (s : State) (out : List ℕ)
      (fuel depth : ℕ) (m : Definition) (at : Spot) (a : Action) (rest : Lines) (mark : ℕ) (ls : List Level)
      → Going p whole names waiting s out (InBlock fuel depth m (Next at a rest) mark ∷ ls)
      → Begun p whole names waiting s out fuel depth m at a (InBlock fuel depth m rest mark ∷ ls)
  -- A statement without blocks and calls goes on to the state that it leaves.
  pub act_goes_on : (p : Code) (whole : Run (List Seen)) (names : NamesInOrder) (waiting : List Bind) (s t : State)
      (out : List ℕ) (fuel depth : ℕ) (m : Definition) (at : Spot) (a : Action) (ls : List Level)
      (printed : Option (List ℕ)) → Begun p whole names waiting s out fuel depth m at a ls → is_flat a ≡ true
      → acted p m (form_in names) a s ≡ Fine (record { state = t; printed = printed })
      → Going p whole (names ++ names_declared a) waiting t (out ++ bytes_of printed) ls
  -- A fault of a statement without blocks and calls is the end.
  pub act_faults : (p : Code) (whole : Run (List Seen)) (names : NamesInOrder) (waiting : List Bind) (s : State)
      (out : List ℕ) (fuel depth : ℕ) (m : Definition) (at : Spot) (a : Action) (ls : List Level) (e : Stop)
      → Begun p whole names waiting s out fuel depth m at a ls → is_flat a ≡ true
      → FaultsAs (acted p m (form_in names) a s) e → HaltsAs whole out (halt_at at e)
