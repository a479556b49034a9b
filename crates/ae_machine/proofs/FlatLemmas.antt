-- Statements without blocks and calls, done in a run that is under way.
use Rattle.std.proofs.Common.{◌≡◌, sym, subst, arith, ℕ, List, ◌++◌, Ok, Err, true}
use Rattle.ae_text.specs.declared.refusal.Spot.{Spot}
use Rattle.ae_tree.specs.Plain.{Action}
use Rattle.ae_tree.specs.Shown.{definition}
use Rattle.ae_values.specs.declared.env.Bind.{Bind}
use Rattle.ae_values.specs.Environments.{waiting_binds}
use Rattle.ae_names.specs.Known.{names_declared}
use Rattle.ae_reads.specs.declared.stop.Stop.{Stop}
use Rattle.ae_running.specs.declared.running.Running.{Running}
use Rattle.ae_running.specs.Seen.{seen}
use Rattle.ae_acts.specs.Acts.{acted, is_flat}
use Rattle.ae_acts.specs.Doing.{ActsAs, IsReady, forms_of}
use Rattle.ae_levels.specs.Going.{Going}
use Rattle.ae_levels.specs.Halting.{HaltsAs, halt_at}
use Rattle.ae_levels.specs.Levels.{Level, NamesInOrder}
use Rattle.ae_levels.specs.StatementLaws.{StatementsGoOn}
use Rattle.ae_machine.specs.Tasks.{IsAtStatement, IsPast, code_in, cost_at, names_in, whole_of}
use Rattle.ae_machine.specs.declared.frame.Rest.{Rest}
use Rattle.ae_machine.specs.declared.task.Task.{Task}

-- a statement that begins is ready to be done
pub begun_is_ready : (task : Task) (run : Running) (rest : Rest) (at : Spot) (a : Action) (ls : List Level)
    → IsAtStatement task run rest at a ls → IsReady (code_in task) (definition rest.method.now) a run
begun_is_ready task run rest at a ls g = (at, g.here.context, g.after, g.judged, g.known_here)

-- where it was done, the run goes on behind it
pub flat_goes_on : StatementsGoOn → (task : Task) (old run : Running) (rest : Rest) (at : Spot) (a : Action)
    (ls : List Level) → IsAtStatement task old rest at a ls → is_flat a ≡ true → (done : Unit {0})
    → ActsAs (acted (code_in task) (definition rest.method.now) (forms_of old) a (seen old)) (Ok done) old run
    → names_in run ≡ names_in old ++ names_declared a → waiting_binds run.env ≡ waiting_binds old.env
    → IsPast task run ls (cost_at task rest a ls)
flat_goes_on law task old run rest at a ls g flat done acts names waiting = (
  subst (λ (ns : NamesInOrder). Going (code_in task) (whole_of task) ns (waiting_binds run.env) (seen run) run.out.items ls)
      (sym names)
      (subst (λ (w : List Bind). Going (code_in task) (whole_of task) (names_in old ++ names_declared a) w (seen run)
      run.out.items ls) (sym waiting)
      (subst (λ (out : List ℕ). Going (code_in task) (whole_of task) (names_in old ++ names_declared a)
      (waiting_binds old.env) (seen run) out ls) (sym acts.2)
      (law.act_goes_on (code_in task) (whole_of task) (names_in old) (waiting_binds old.env) (seen old) (seen run)
      old.out.items rest.fuel rest.depth (definition rest.method.now) at a ls acts.0 g flat acts.1))),
  omega arith,
)

-- a fault of it is the end
pub flat_faults : StatementsGoOn → (task : Task) (old run : Running) (rest : Rest) (at : Spot) (a : Action)
    (ls : List Level) (e : Stop) → IsAtStatement task old rest at a ls → is_flat a ≡ true
    → ActsAs {B = Unit {0}} (acted (code_in task) (definition rest.method.now) (forms_of old) a (seen old)) (Err e) old run
    → HaltsAs (whole_of task) run.out.items (halt_at at e)
flat_faults law task old run rest at a ls e g flat acts =
    subst (λ (out : List ℕ). HaltsAs (whole_of task) out (halt_at at e)) (sym acts.1)
    (law.act_faults (code_in task) (whole_of task) (names_in old) (waiting_binds old.env) (seen old) old.out.items rest.fuel
    rest.depth (definition rest.method.now) at a ls e g flat acts.0)
