-- A run that is under way in the code, against the whole run that it is to be.
use Rattle.std.specs.Prelude.{◌≡◌, ◌<◌, ◌+◌, ℕ, suc, List, [], None}
use Rattle.ae_text.specs.declared.refusal.Spot.{Spot}
use Rattle.ae_tree.specs.Plain.{Action, Code}
use Rattle.ae_tree.specs.Shown.{definition}
use Rattle.ae_judge.specs.Tabled.{code_of}
use Rattle.ae_semantics.specs.Observations.{Seen}
use Rattle.ae_semantics.specs.Runs.{Run}
use Rattle.ae_semantics.specs.Means.{source_machine, run}
use Rattle.ae_values.specs.Environments.{running_binds, waiting_binds}
use Rattle.ae_values.specs.Shapes.{shapes}
use Rattle.ae_running.specs.declared.running.Running.{Running}
use Rattle.ae_running.specs.Seen.{seen}
use Rattle.ae_steps.specs.Costs.{costs, statement_cost}
use Rattle.ae_machine.specs.declared.task.Task.{Task}
use Rattle.ae_machine.specs.declared.frame.Rest.{Rest}
use Rattle.ae_levels.specs.Levels.{NamesInOrder, Level, levels_cost}
use Rattle.ae_levels.specs.Going.{Going, Begun}

-- the program of a task
abbrev pub code_in : Task → Code
code_in task = code_of task.tabled

-- the whole run that is wanted
abbrev pub whole_of : Task → Run (List Seen)
whole_of task = run (source_machine (code_in task)) task.ints.now task.fuel []

-- the names of the running call, each with its shape
abbrev pub names_in : Running → NamesInOrder
names_in run = shapes (running_binds run.env)

-- the run goes on at these levels
abbrev pub IsAt : Task → Running → List Level → Type 0
IsAt task run ls = Going (code_in task) (whole_of task) (names_in run) (waiting_binds run.env) (seen run) run.out.items ls

-- this statement of a block begins, at these levels behind it
abbrev pub IsAtStatement : Task → Running → Rest → Spot → Action → List Level → Type 0
IsAtStatement task run rest at a ls = Begun (code_in task) (whole_of task) (names_in run) (waiting_binds run.env)
    (seen run) run.out.items rest.fuel rest.depth (definition rest.method.now) at a ls

-- the run goes on at levels with less to do than this
abbrev pub IsPast : Task → Running → List Level → ℕ → Type 0
IsPast task run ls cost = IsAt task run ls × (levels_cost (code_in task) ls < cost)

-- how much there is to do of a statement and of what is behind it
abbrev pub cost_at : Task → Rest → Action → List Level → ℕ
cost_at task rest a ls = suc (statement_cost (costs (code_in task) rest.fuel) a) + levels_cost (code_in task) ls

-- nothing is bound, nothing was returned, and nothing is printed
pub record IsUntouched (run : Running) : Type 0 where
  pub running : running_binds run.env ≡ []
  pub waiting : waiting_binds run.env ≡ []
  pub returned : run.result ≡ None
  pub printed : run.out.items ≡ []
