-- What the meaning sees of a run that is under way.
use Rattle.std.specs.Prelude.{◌≡◌, option_map, Result, Ok, Err}
use Rattle.ae_semantics.specs.Places.{State, Outcome, Fine, Address}
use Rattle.ae_values.specs.Shown.{shown}
use Rattle.ae_values.specs.Environments.{state_in}
use Rattle.ae_reads.specs.declared.stop.Stop.{Stop}
use Rattle.ae_reads.specs.Answers.{one_name, FaultsAs}
use Rattle.ae_running.specs.declared.running.Running.{Running}

-- the state: what is bound under the names of the running call, and what was returned
abbrev pub seen : Running → State
seen run = state_in one_name (option_map shown run.result) run.env

-- The answer is the outcome but for an address that it does not tell: there is one.
abbrev pub ReadsSomewhere : {A B : Type 0} → Outcome A → (Address → B → A) → Result B Stop → Type 0
ReadsSomewhere o view (Ok b) = (at : Address) × (o ≡ Fine (view at b))
ReadsSomewhere o view (Err e) = FaultsAs o e
