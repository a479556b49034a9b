-- Calls that are entered go on with the bodies of their methods.
use Rattle.std.proofs.Common.{◌≡◌, ◌<◌, refl, ap, sym, subst, arith, ℕ, suc, ◌+◌, nat_lt, List, ◌∷◌, length, Some, true}
use Rattle.std.specs.Prelude.{drop, take, option_map}
use Rattle.ae_text.specs.declared.refusal.Spot.{Spot}
use Rattle.ae_tree.specs.Plain.{Invocation, Definition, Code}
use Rattle.ae_tree.specs.Shown.{definition}
use Rattle.ae_rules.specs.Judges.{start}
use Rattle.ae_rules.specs.Lookups.{method_at}
use Rattle.ae_semantics.specs.Places.{Fine, State}
use Rattle.ae_values.specs.Environments.{running_binds, waiting_binds}
use Rattle.ae_values.specs.Shapes.{shapes}
use Rattle.ae_values.specs.Shown.{shown}
use Rattle.ae_names.specs.Known.{AreKnown}
use Rattle.ae_reads.specs.Answers.{one_name}
use Rattle.ae_running.specs.declared.running.Running.{Running}
use Rattle.ae_running.specs.Seen.{seen}
use Rattle.ae_steps.specs.Costs.{costs}
use Rattle.ae_frames.specs.Awaiting.{Awaits}
use Rattle.ae_frames.specs.Entering.{IsEntered}
use Rattle.ae_frames.specs.Entries.{EnteredCall, entered}
use Rattle.ae_frames.specs.declared.entering.Entered.{Entered}
use Rattle.ae_starts.specs.Laws.{BeginsKnown, EnteredNamesAreKnown}
use Rattle.ae_levels.specs.CallLaws.{CallsComeBack}
use Rattle.ae_levels.specs.CostLaws.{LevelsCostLess}
use Rattle.ae_levels.specs.Going.{CallBegun, Going, IsSound}
use Rattle.ae_levels.specs.Levels.{Aim, InBlock, InCall, Level, NamesInOrder, levels_cost}
use Rattle.ae_machine.specs.Calling.{IsJudgedCall}
use Rattle.ae_machine.specs.Tasks.{IsAt, code_in, names_in, whole_of}
use Rattle.ae_machine.specs.declared.task.Task.{Task}

-- what is known of a call that the code entered
pub record IsEnteredCall (task : Task) (i : Invocation) (old run : Running) (x : EnteredCall) (e : Entered) : Type 0 where
  pub enters : entered (code_in task) i (seen old) ≡ Fine x
  pub has : IsEntered x i (seen old) e run
  pub names : shapes (drop e.left.waiting.base (waiting_binds run.env)) ≡ names_in old
  pub outer : take e.left.waiting.base (waiting_binds run.env) ≡ waiting_binds old.env
  pub awaits : Awaits e.left.waiting (names_in run) (waiting_binds run.env)
  pub out : run.out ≡ old.out

-- the names with which the body of an entered call begins are known there
begins_known : EnteredNamesAreKnown → (task : Task) (i : Invocation) (old run : Running) (x : EnteredCall) (e : Entered)
    → IsSound (code_in task) → IsJudgedCall (code_in task) (names_in old) i → IsEnteredCall task i old run x e
    → BeginsKnown (code_in task) x
begins_known law task i old run x e sound j k =
    law (code_in task) sound.shaped sound.free sound.accepted j.method j.at j.action j.before j.after i one_name
    (option_map shown old.result) (running_binds old.env) (seen old) x j.judged j.calls j.known refl k.enters

-- a call that was entered goes on with the body of its method, and then comes back
pub call_goes_on : CallsComeBack → EnteredNamesAreKnown → (task : Task) (i : Invocation) (old run : Running)
    (x : EnteredCall) (e : Entered) (fuel depth : ℕ) (at : Spot) (to : Aim) (ls : List Level) → IsSound (code_in task)
    → CallBegun (code_in task) (whole_of task) (names_in old) (waiting_binds old.env) (seen old) old.out.items (suc fuel)
    depth at i to ls
    → IsJudgedCall (code_in task) (names_in old) i → IsEnteredCall task i old run x e → nat_lt depth 1000 ≡ true
    → IsAt task run (InBlock fuel (depth + 1) (definition e.method.now) (definition e.method.now).body
    (length (names_in run)) ∷ InCall at i e.left to ∷ ls)
call_goes_on calls law task i old run x e fuel depth at to ls sound g j k t =
    let p : Code = code_in task in
    let b : BeginsKnown p x = begins_known law task i old run x e sound j k in
    let known : AreKnown (start p x.callee.method) (names_in run) =
    subst (λ (ns : NamesInOrder). AreKnown (start p x.callee.method) ns) (sym k.has.names) b.0 in
    let at_method : Definition → State → List ℕ → Type 0 =
    λ (m : Definition) (s : State) (out : List ℕ). Going p (whole_of task) (names_in run) (waiting_binds run.env) s out
    (InBlock fuel (depth + 1) m m.body (length (names_in run)) ∷ InCall at i e.left to ∷ ls) in
    subst (λ (m : Definition). at_method m (seen run) run.out.items) k.has.method
    (subst (λ (s : State). at_method x.callee.method s run.out.items) k.has.state
    (subst (λ (out : List ℕ). at_method x.callee.method x.state out) (sym (ap (λ y. y.items) k.out))
    (calls.call_opens p (whole_of task) (names_in old) (waiting_binds old.env) (seen old) old.out.items fuel depth at i to
    ls x x.callee.number e.left (names_in run) (waiting_binds run.env) sound b.1 g k.enters t known (record {
      was_entered = k.enters;
      awaits = k.awaits;
      kept = k.has.kept;
      caller = k.has.left;
      names_are = k.has.names;
    }) k.names k.outer)))

-- a call costs more than what it goes on with
pub call_costs_more : LevelsCostLess → EnteredNamesAreKnown → (task : Task) (i : Invocation) (old run : Running)
    (x : EnteredCall) (e : Entered) (fuel depth : ℕ) (at : Spot) (to : Aim) (ls : List Level) → IsSound (code_in task)
    → IsJudgedCall (code_in task) (names_in old) i → IsEnteredCall task i old run x e
    → levels_cost (code_in task) (InBlock fuel (depth + 1) (definition e.method.now) (definition e.method.now).body
    (length (names_in run)) ∷ InCall at i e.left to ∷ ls)
    < suc (suc (costs (code_in task) (suc fuel)).call) + levels_cost (code_in task) ls
call_costs_more less law task i old run x e fuel depth at to ls sound j k =
    let b : BeginsKnown (code_in task) x = begins_known law task i old run x e sound j k in
    omega (
      arith,
      less.body_costs (code_in task) fuel x.callee.number (definition e.method.now)
          (subst (λ (m : Definition). method_at (code_in task) x.callee.number ≡ Some m) k.has.method b.1),
    )
