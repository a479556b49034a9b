-- Statements that call begin their calls.
use Rattle.std.proofs.Common.{◌≡◌, ap, sym, subst, ℕ, suc, List, Some}
use Rattle.ae_text.specs.declared.refusal.Spot.{Spot}
use Rattle.ae_tree.specs.declared.form.Form.{Form}
use Rattle.ae_tree.specs.Form.{form as written}
use Rattle.ae_tree.specs.Plain.{Action, Invocation}
use Rattle.ae_tree.specs.Shown.{definition}
use Rattle.ae_values.specs.Environments.{waiting_binds}
use Rattle.ae_running.specs.declared.running.Running.{Running}
use Rattle.ae_running.specs.Seen.{seen}
use Rattle.ae_steps.specs.Costs.{costs, statement_cost}
use Rattle.ae_starts.specs.Laws.{call_in}
use Rattle.ae_levels.specs.CallLaws.{CallsComeBack}
use Rattle.ae_levels.specs.Going.{CallBegun}
use Rattle.ae_levels.specs.Levels.{Aim, Level, Nowhere, ToNew, ToOld}
use Rattle.ae_machine.specs.Calling.{CallsFor, IsJudgedCall}
use Rattle.ae_machine.specs.Tasks.{IsAtStatement, code_in, names_in, whole_of}
use Rattle.ae_machine.specs.declared.frame.Rest.{Rest}
use Rattle.ae_machine.specs.declared.task.Task.{Task}

-- the call of a statement begins, and is judged
abbrev pub Begins : Task → Running → Rest → Spot → Invocation → Aim → List Level → Type 0
Begins task run rest at i to ls = CallBegun (code_in task) (whole_of task) (names_in run) (waiting_binds run.env)
    (seen run) run.out.items rest.fuel rest.depth at i to ls

-- where the statement calls this for this aim, the call begins
pub call_of_statement : CallsComeBack → (task : Task) (run : Running) (rest : Rest) (at : Spot) (a : Action)
    (i : Invocation) (to : Aim) (ls : List Level) → CallsFor a i to → IsAtStatement task run rest at a ls
    → Begins task run rest at i to ls
call_of_statement law task run rest at a i Nowhere ls h g =
    law.call_begins (code_in task) (whole_of task) (names_in run) (waiting_binds run.env) (seen run) run.out.items
    rest.fuel rest.depth (definition rest.method.now) at i ls
    (subst (λ (b : Action). IsAtStatement task run rest at b ls) h g)
call_of_statement law task run rest at a i (ToNew f x) ls h g =
    subst (λ (form : Form). Begins task run rest at i (ToNew form x) ls) (sym h.3)
    (subst (λ (n : ℕ). Begins task run rest at i (ToNew (written h.0) n) ls) (sym h.4)
    (law.let_call_begins (code_in task) (whole_of task) (names_in run) (waiting_binds run.env) (seen run) run.out.items
    rest.fuel rest.depth (definition rest.method.now) at h.0 h.1 i ls
    (subst (λ (b : Action). IsAtStatement task run rest at b ls) h.2 g)))
call_of_statement law task run rest at a i (ToOld x) ls h g =
    subst (λ (n : ℕ). Begins task run rest at i (ToOld n) ls) (sym h.2)
    (law.assign_call_begins (code_in task) (whole_of task) (names_in run) (waiting_binds run.env) (seen run) run.out.items
    rest.fuel rest.depth (definition rest.method.now) at h.0 i ls
    (subst (λ (b : Action). IsAtStatement task run rest at b ls) h.1 g))

-- the call is the statement's
call_is_in : (a : Action) (i : Invocation) (to : Aim) → CallsFor a i to → call_in a ≡ Some i
call_is_in a i Nowhere h = ap call_in h
call_is_in a i (ToNew f x) h = ap call_in h.2
call_is_in a i (ToOld x) h = ap call_in h.1

-- and it is judged
pub call_is_judged : (task : Task) (run : Running) (rest : Rest) (at : Spot) (a : Action) (i : Invocation) (to : Aim)
    (ls : List Level) → CallsFor a i to → IsAtStatement task run rest at a ls
    → IsJudgedCall (code_in task) (names_in run) i
call_is_judged task run rest at a i to ls h g = record {
  method = definition rest.method.now;
  at = at;
  action = a;
  before = g.here.context;
  after = g.after;
  calls = call_is_in a i to h;
  judged = g.judged;
  known = g.known_here;
}

-- what a statement that calls costs
pub call_cost : (task : Task) (fuel : ℕ) (a : Action) (i : Invocation) (to : Aim) → CallsFor a i to
    → suc (costs (code_in task) fuel).call ≡ statement_cost (costs (code_in task) fuel) a
call_cost task fuel a i Nowhere h = ap (statement_cost (costs (code_in task) fuel)) (sym h)
call_cost task fuel a i (ToNew f x) h = ap (statement_cost (costs (code_in task) fuel)) (sym h.2)
call_cost task fuel a i (ToOld x) h = ap (statement_cost (costs (code_in task) fuel)) (sym h.1)
