-- What becomes of loops.
use Rattle.ae_levels.specs.Going.{Begun, ComesTo, Going}
use Rattle.ae_levels.specs.Halting.{HaltsAs, halt_at}
use Rattle.ae_levels.specs.Levels.{InBlock, InLoop, Level, NamesInOrder}
use Rattle.ae_reads.specs.Answers.{FaultsAs}
use Rattle.ae_reads.specs.declared.stop.Stop.{Stop}
use Rattle.ae_semantics.specs.Expressions.{truth_of}
use Rattle.ae_semantics.specs.Observations.{Seen}
use Rattle.ae_semantics.specs.Places.{Fine, State}
use Rattle.ae_semantics.specs.Runs.{Run}
use Rattle.ae_semantics.specs.declared.report.Ending.TheVariants.{Fuel}
use Rattle.ae_text.specs.declared.refusal.Spot.{Spot}
use Rattle.ae_tree.specs.Plain.{Code, Definition, Expression, Lines, Repeats}
use Rattle.ae_values.specs.declared.env.Bind.{Bind}
use Rattle.std.specs.Prelude.{List, Some, false, length, suc, true, ℕ, ◌∷◌, ◌≡◌}

-- a loop begins, turns, and ends
pub record LoopsTurn : Type 0 where
  -- A loop begins with its first turn.
  pub loop_opens : (p : Code) (whole : Run (List Seen)) (names : NamesInOrder)
      (waiting : List Bind) (s : State) (out : List ℕ) (fuel depth : ℕ) (m : Definition) (at : Spot) (e : Expression)
      (i : ℕ) (b : Lines) (ls : List Level) → Begun p whole names waiting s out fuel depth m at (Repeats e i b) ls
      → Going p whole names waiting s out (InLoop fuel depth m at e b ∷ ls)
  -- A loop whose test is true takes one of the fuel, and goes on with its block, and then with the next turn.
  pub loop_goes_on : (p : Code) (whole : Run (List Seen)) (names : NamesInOrder)
      (waiting : List Bind) (s : State) (out : List ℕ) (fuel depth : ℕ) (m : Definition) (at : Spot) (e : Expression)
      (b : Lines) (ls : List Level) → Going p whole names waiting s out (InLoop (suc fuel) depth m at e b ∷ ls)
      → truth_of p s e ≡ Fine true
      → Going p whole names waiting s out (InBlock fuel depth m b (length names) ∷ InLoop fuel depth m at e b ∷ ls)
  -- A loop whose test is false is over.
  pub loop_over : (p : Code) (whole : Run (List Seen)) (names : NamesInOrder)
      (waiting : List Bind) (s : State) (out : List ℕ) (fuel depth : ℕ) (m : Definition) (at : Spot) (e : Expression)
      (b : Lines) (ls : List Level) → Going p whole names waiting s out (InLoop fuel depth m at e b ∷ ls)
      → truth_of p s e ≡ Fine false → Going p whole names waiting s out ls
  -- A loop whose test is true, and for which no fuel is left, is the end.
  pub loop_wants_fuel : (p : Code) (whole : Run (List Seen)) (names : NamesInOrder)
      (waiting : List Bind) (s : State) (out : List ℕ) (depth : ℕ) (m : Definition) (at : Spot) (e : Expression)
      (b : Lines) (ls : List Level) → Going p whole names waiting s out (InLoop 0 depth m at e b ∷ ls)
      → truth_of p s e ≡ Fine true → ComesTo whole (Some (Fuel at)) out
  -- A fault of its test is the end of a loop.
  pub loop_faults : (p : Code) (whole : Run (List Seen)) (names : NamesInOrder)
      (waiting : List Bind) (s : State) (out : List ℕ) (fuel depth : ℕ) (m : Definition) (at : Spot) (e : Expression)
      (b : Lines) (ls : List Level) (stop : Stop) → Going p whole names waiting s out (InLoop fuel depth m at e b ∷ ls)
      → FaultsAs (truth_of p s e) stop → HaltsAs whole out (halt_at at stop)
