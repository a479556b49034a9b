-- What becomes of blocks and branches.
use Rattle.ae_levels.specs.Going.{Begun, Going}
use Rattle.ae_levels.specs.Halting.{HaltsAs, halt_at}
use Rattle.ae_levels.specs.Levels.{InBlock, Level, NamesInOrder}
use Rattle.ae_names.specs.Known.{state_of}
use Rattle.ae_reads.specs.Answers.{FaultsAs}
use Rattle.ae_reads.specs.declared.stop.Stop.{Stop}
use Rattle.ae_semantics.specs.Expressions.{truth_of}
use Rattle.ae_semantics.specs.Observations.{Seen}
use Rattle.ae_semantics.specs.Places.{CellName, Fine, State}
use Rattle.ae_semantics.specs.Runs.{Run}
use Rattle.ae_semantics.specs.Values.{Val}
use Rattle.ae_text.specs.declared.refusal.Spot.{Spot}
use Rattle.ae_tree.specs.Plain.{Chooses, ChoosesElse, Code, Definition, End, Expression, Lines}
use Rattle.ae_values.specs.Shapes.{shapes}
use Rattle.ae_values.specs.declared.env.Bind.{Bind}
use Rattle.std.specs.Prelude.{Bool, List, Option, false, length, true, ℕ, ◌∷◌, ◌≡◌, if◌then◌else◌}
use Rattle.std.specs.Prelude.{take, if◌then◌else◌}

-- a branch opens its block, and a block ends
pub record BlocksOpenAndEnd : Type 0 where
  -- Where a block is over, the names end that were bound since it began.
  pub block_over : (p : Code) (whole : Run (List Seen)) (cells : ℕ → CellName)
      (r : Option Val) (bs : List Bind) (waiting : List Bind) (out : List ℕ) (fuel depth : ℕ) (m : Definition) (mark : ℕ)
      (ls : List Level)
      → Going p whole (shapes bs) waiting (state_of cells r bs) out (InBlock fuel depth m End mark ∷ ls)
      → Going p whole (shapes (take mark bs)) waiting (state_of cells r (take mark bs)) out ls
  -- Where the test is true the block of an `if` is gone on with.
  pub if_opens : (p : Code) (whole : Run (List Seen)) (names : NamesInOrder) (waiting : List Bind)
      (s : State) (out : List ℕ) (fuel depth : ℕ) (m : Definition) (at : Spot) (e : Expression) (i : ℕ) (b : Lines)
      (ls : List Level) → Begun p whole names waiting s out fuel depth m at (Chooses e i b) ls
      → truth_of p s e ≡ Fine true
      → Going p whole names waiting s out (InBlock fuel depth m b (length names) ∷ ls)
  -- Where the test is false an `if` is over.
  pub if_passes : (p : Code) (whole : Run (List Seen)) (names : NamesInOrder) (waiting : List Bind)
      (s : State) (out : List ℕ) (fuel depth : ℕ) (m : Definition) (at : Spot) (e : Expression) (i : ℕ) (b : Lines)
      (ls : List Level) → Begun p whole names waiting s out fuel depth m at (Chooses e i b) ls
      → truth_of p s e ≡ Fine false → Going p whole names waiting s out ls
  -- A fault of its test is the end of an `if`.
  pub if_faults : (p : Code) (whole : Run (List Seen)) (names : NamesInOrder) (waiting : List Bind)
      (s : State) (out : List ℕ) (fuel depth : ℕ) (m : Definition) (at : Spot) (e : Expression) (i : ℕ) (b : Lines)
      (ls : List Level) (stop : Stop) → Begun p whole names waiting s out fuel depth m at (Chooses e i b) ls
      → FaultsAs (truth_of p s e) stop → HaltsAs whole out (halt_at at stop)
  -- Either way a test goes, the one block of an `if` with an `else` is gone on with.
  pub else_opens : (p : Code) (whole : Run (List Seen)) (names : NamesInOrder)
      (waiting : List Bind) (s : State) (out : List ℕ) (fuel depth : ℕ) (m : Definition) (at : Spot) (e : Expression)
      (i : ℕ) (b : Lines) (j : ℕ) (b' : Lines) (ls : List Level) (test : Bool)
      → Begun p whole names waiting s out fuel depth m at (ChoosesElse e i b j b') ls → truth_of p s e ≡ Fine test
      → Going p whole names waiting s out (InBlock fuel depth m (if test then b else b') (length names) ∷ ls)
  -- A fault of its test is the end of an `if` with an `else`.
  pub else_faults : (p : Code) (whole : Run (List Seen)) (names : NamesInOrder)
      (waiting : List Bind) (s : State) (out : List ℕ) (fuel depth : ℕ) (m : Definition) (at : Spot) (e : Expression)
      (i : ℕ) (b : Lines) (j : ℕ) (b' : Lines) (ls : List Level) (stop : Stop)
      → Begun p whole names waiting s out fuel depth m at (ChoosesElse e i b j b') ls → FaultsAs (truth_of p s e) stop
      → HaltsAs whole out (halt_at at stop)
