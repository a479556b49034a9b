-- What becomes of calls.
use Rattle.ae_frames.specs.Entries.{EnteredCall, entered}
use Rattle.ae_frames.specs.declared.left.Left as kept
use Rattle.ae_levels.specs.Callers.{LeadsBack, names_behind, waiting_behind}
use Rattle.ae_levels.specs.Going.{Begun, CallBegun, ComesTo, Going, IsSound}
use Rattle.ae_levels.specs.Halting.{HaltsAs, halt_at}
use Rattle.ae_levels.specs.Levels.{Aim, InBlock, InCall, Level, NamesInOrder, Nowhere, ToNew, ToOld, names_aimed}
use Rattle.ae_levels.specs.Receiving.{back_received}
use Rattle.ae_names.specs.Known.{AreKnown}
use Rattle.ae_reads.specs.Answers.{FaultsAs}
use Rattle.ae_reads.specs.declared.stop.Stop.{Stop}
use Rattle.ae_rules.specs.Judges.{start}
use Rattle.ae_rules.specs.Lookups.{method_at}
use Rattle.ae_semantics.specs.Observations.{Seen}
use Rattle.ae_semantics.specs.Places.{Fine, State}
use Rattle.ae_semantics.specs.Runs.{Run}
use Rattle.ae_semantics.specs.declared.report.Ending.TheVariants.{Fuel, Trap}
use Rattle.ae_text.specs.declared.refusal.Spot.{Spot}
use Rattle.ae_tree.specs.Form.{form}
use Rattle.ae_tree.specs.Plain.{Assigns, Calls, Code, Declares, Definition, Invocation, Returned}
use Rattle.ae_tree.specs.declared.tree.NameAt.{NameAt}
use Rattle.ae_tree.specs.declared.tree.Ty.{Ty}
use Rattle.ae_values.specs.declared.env.Bind.{Bind}
use Rattle.std.specs.Prelude.{List, Some, false, length, nat_lt, suc, true, ℕ, ◌++◌, ◌+◌, ◌∷◌, ◌≡◌}

-- a call begins, is entered, and comes back
pub record CallsComeBack : Type 0 where
  -- A call whose result goes nowhere begins.
  pub call_begins : (p : Code) (whole : Run (List Seen)) (names : NamesInOrder)
      (waiting : List Bind) (s : State) (out : List ℕ) (fuel depth : ℕ) (m : Definition) (at : Spot) (i : Invocation)
      (ls : List Level) → Begun p whole names waiting s out fuel depth m at (Calls i) ls
      → CallBegun p whole names waiting s out fuel depth at i Nowhere ls
  -- A call whose result goes to a new local begins.
  pub let_call_begins : (p : Code) (whole : Run (List Seen)) (names : NamesInOrder)
      (waiting : List Bind) (s : State) (out : List ℕ) (fuel depth : ℕ) (m : Definition) (at : Spot) (t : Ty) (x : NameAt)
      (i : Invocation) (ls : List Level) → Begun p whole names waiting s out fuel depth m at (Declares t x (Returned i)) ls
      → CallBegun p whole names waiting s out fuel depth at i (ToNew (form t) x.name) ls
  -- A call whose result goes to a local that is there begins.
  pub assign_call_begins : (p : Code) (whole : Run (List Seen)) (names : NamesInOrder)
      (waiting : List Bind) (s : State) (out : List ℕ) (fuel depth : ℕ) (m : Definition) (at : Spot) (x : NameAt)
      (i : Invocation) (ls : List Level) → Begun p whole names waiting s out fuel depth m at (Assigns x (Returned i)) ls
      → CallBegun p whole names waiting s out fuel depth at i (ToOld x.name) ls
  -- A fault where a call is entered is the end.
  pub call_faults : (p : Code) (whole : Run (List Seen)) (names : NamesInOrder) (waiting : List Bind) (s : State)
      (out : List ℕ) (fuel depth : ℕ) (at : Spot) (i : Invocation) (to : Aim) (ls : List Level) (e : Stop)
      → CallBegun p whole names waiting s out fuel depth at i to ls → FaultsAs (entered p i s) e
      → HaltsAs whole out (halt_at at e)
  -- A call at depth 1,000 is trap 6.
  pub call_too_deep : (p : Code) (whole : Run (List Seen)) (names : NamesInOrder) (waiting : List Bind)
      (s : State) (out : List ℕ) (fuel depth : ℕ) (at : Spot) (i : Invocation) (to : Aim) (ls : List Level) (x : EnteredCall)
      → CallBegun p whole names waiting s out fuel depth at i to ls → entered p i s ≡ Fine x
      → nat_lt depth 1000 ≡ false → ComesTo whole (Some (Trap 6 at)) out
  -- A call for which no fuel is left is the end.
  pub call_wants_fuel : (p : Code) (whole : Run (List Seen)) (names : NamesInOrder) (waiting : List Bind)
      (s : State) (out : List ℕ) (depth : ℕ) (at : Spot) (i : Invocation) (to : Aim) (ls : List Level) (x : EnteredCall)
      → CallBegun p whole names waiting s out 0 depth at i to ls → entered p i s ≡ Fine x
      → nat_lt depth 1000 ≡ true → ComesTo whole (Some (Fuel at)) out
  -- A call that is entered goes on with its body, and then comes back.
  pub call_opens : (p : Code) (whole : Run (List Seen)) (names : NamesInOrder) (waiting : List Bind)
      (s : State) (out : List ℕ) (fuel depth : ℕ) (at : Spot) (i : Invocation) (to : Aim) (ls : List Level) (x : EnteredCall)
      (n : ℕ) (left : kept.Left) (inner : NamesInOrder) (behind : List Bind) → IsSound p → method_at p n ≡ Some x.callee.method
      → CallBegun p whole names waiting s out (suc fuel) depth at i to ls → entered p i s ≡ Fine x
      → nat_lt depth 1000 ≡ true → AreKnown (start p x.callee.method) inner → LeadsBack p left x i s inner behind
      → names_behind left behind ≡ names → waiting_behind left behind ≡ waiting
      → Going p whole inner behind x.state out
      (InBlock fuel (depth + 1) x.callee.method x.callee.method.body (length inner) ∷ InCall at i left to ∷ ls)
  -- A call that comes back leaves its caller as it was, with its result where it is wanted.
  pub call_over : (p : Code) (whole : Run (List Seen)) (names : NamesInOrder) (waiting : List Bind)
      (s u : State) (out : List ℕ) (at : Spot) (i : Invocation) (left : kept.Left) (to : Aim) (ls : List Level)
      (g : Going p whole names waiting s out (InCall at i left to ∷ ls)) → back_received p i g.stands.0 s ≡ Fine u
      → Going p whole (names_behind left waiting ++ names_aimed to) (waiting_behind left waiting) u out ls
  -- A fault where a call comes back is the end.
  pub back_faults : (p : Code) (whole : Run (List Seen)) (names : NamesInOrder)
      (waiting : List Bind) (s : State) (out : List ℕ) (at : Spot) (i : Invocation) (left : kept.Left) (to : Aim)
      (ls : List Level) (e : Stop) (g : Going p whole names waiting s out (InCall at i left to ∷ ls))
      → FaultsAs (back_received p i g.stands.0 s) e → HaltsAs whole out (halt_at at e)
