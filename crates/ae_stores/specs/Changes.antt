-- What a call that changes a run answers and leaves, against the outcome that the meaning comes to.
use Rattle.std.specs.Prelude.{◌≡◌, Result, Ok, Err}
use Rattle.ae_semantics.specs.Values as meant
use Rattle.ae_semantics.specs.Places.{Outcome, Fine, State}
use Rattle.ae_values.specs.declared.value.Val.{Val}
use Rattle.ae_values.specs.Shown.{shown}
use Rattle.ae_values.specs.Environments.{running_binds, waiting_binds}
use Rattle.ae_values.specs.Shapes.{shapes}
use Rattle.ae_reads.specs.declared.stop.Stop.{Stop}
use Rattle.ae_reads.specs.Answers.{FaultsAs}
use Rattle.ae_running.specs.declared.running.Running.{Running}
use Rattle.ae_running.specs.Seen.{seen}

-- a fault, after which the same is seen as before
abbrev pub FaultsAlike : {A : Type 0} → Outcome A → Running → Stop → Running → Type 0
FaultsAlike o old e new = FaultsAs o e × (seen new ≡ seen old)

-- The outcome is the state that is seen afterwards, or else it has the fault, and the same is seen as before.
abbrev pub ChangesAs : Outcome State → Running → Result (Unit {0}) Stop → Running → Type 0
ChangesAs o old (Ok done) new = o ≡ Fine (seen new)
ChangesAs o old (Err e) new = FaultsAlike o old e new

-- The outcome is the value with the state that is seen afterwards, or else it has the fault, and the same is seen as
-- before.
abbrev pub TakesAs : Outcome (meant.Val × State) → Running → Result Val Stop → Running → Type 0
TakesAs o old (Ok v) new = o ≡ Fine (shown v, seen new)
TakesAs o old (Err e) new = FaultsAlike o old e new

-- what no write changes: the names with their shapes, the calls that wait, what was returned and what was printed
pub record KeepsRest (old new : Running) : Type 0 where
  pub shapes_stay : shapes (running_binds new.env) ≡ shapes (running_binds old.env)
  pub waiting_stays : waiting_binds new.env ≡ waiting_binds old.env
  pub result_stays : new.result ≡ old.result
  pub out_stays : new.out ≡ old.out
