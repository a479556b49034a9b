-- Calls that come back, as the code does it.
use Rattle.std.proofs.Common.{◌≡◌, ap, sym, ◌∙◌, subst, arith, ℕ, ◌+◌, List, ◌∷◌, ◌++◌, Option, Ok}
use Rattle.std.specs.Prelude.{option_map}
use Rattle.ae_tree.specs.Shown.{invocation}
use Rattle.ae_semantics.specs.Places.{Fine, Outcome, State}
use Rattle.ae_semantics.specs.Calls.{leave}
use Rattle.ae_values.specs.declared.env.Bind.{Bind}
use Rattle.ae_values.specs.declared.value.Val.{Val}
use Rattle.ae_values.specs.Environments.{waiting_binds}
use Rattle.ae_values.specs.Shown.{shown}
use Rattle.ae_reads.specs.Answers.{FaultsAs}
use Rattle.ae_reads.specs.declared.stop.Stop.{Stop}
use Rattle.ae_running.specs.declared.running.Running.{Running}
use Rattle.ae_running.specs.Seen.{seen}
use Rattle.ae_frames.specs.Awaiting.{LeavesAs, left_as_kept}
use Rattle.ae_frames.specs.Entries.{CallsEnterAlike, frame_of}
use Rattle.ae_frames.specs.Leaving.{CallsLeaveAlike, NeededGroupsStay}
use Rattle.ae_starts.specs.Laws.{NamesStandApart}
use Rattle.ae_levels.specs.CallLaws.{CallsComeBack}
use Rattle.ae_levels.specs.Callers.{names_behind, waiting_behind}
use Rattle.ae_levels.specs.Going.{Going, IsSound}
use Rattle.ae_levels.specs.Halting.{HaltsAs, halt_at}
use Rattle.ae_levels.specs.Levels.{Level, NamesInOrder, OpenCall, levels_cost, names_aimed}
use Rattle.ae_levels.specs.Receiving.{back_received, received}
use Rattle.ae_machine.specs.Frames.{aim, level}
use Rattle.ae_machine.specs.Results.{received_as}
use Rattle.ae_machine.specs.Tasks.{IsAt, IsPast, code_in, names_in, whole_of}
use Rattle.ae_machine.specs.declared.frame.Frame.TheVariants as fr
use Rattle.ae_machine.specs.declared.frame.Waiting.{Waiting}
use Rattle.ae_machine.specs.declared.task.Task.{Task}
use Rattle.ae_machine.proofs.ReceiveLemmas.{back_is, left_is}
use Rattle.ae_machine.proofs.from_reads.WalkLemmas.{faults_equal, faults_go_on}

-- what calls are known to do
pub record BackLaws : Type 0 where
  pub enters : CallsEnterAlike
  pub leaves : CallsLeaveAlike
  pub stays : NeededGroupsStay
  pub apart : NamesStandApart
  pub back : CallsComeBack

-- what the code leaves is what the meaning leaves
meant_left : BackLaws → (task : Task) → IsSound (code_in task) → (w : Waiting) (run : Running) (ls : List Level)
    (g : IsAt task run (level (fr.Waiting w) ∷ ls))
    → left_as_kept w.left run
    ≡ leave (frame_of (code_in task) g.stands.0.here g.stands.0.entry) (invocation w.call.now) g.stands.0.before (seen run)
meant_left laws task sound w run ls g = left_is laws.enters laws.leaves laws.stays (code_in task) g.stands.0.here
    (invocation w.call.now) w.left g.stands.0.entry g.stands.0.before run
    (laws.apart (code_in task) sound.shaped sound.free sound.accepted) g.stands.3

-- a fault where a caller is left is the end
pub leaving_halts : BackLaws → (task : Task) → IsSound (code_in task) → (w : Waiting) (old run : Running) (ls : List Level)
    (e : Stop) → IsAt task old (level (fr.Waiting w) ∷ ls) → FaultsAs (left_as_kept w.left old) e → run.out ≡ old.out
    → HaltsAs (whole_of task) run.out.items (halt_at w.at e)
leaving_halts laws task sound w old run ls e g h out =
    let o : OpenCall = g.stands.0 in
    let left : Outcome State = leave (frame_of (code_in task) o.here o.entry) (invocation w.call.now) o.before (seen old) in
    subst (λ (ns : List ℕ). HaltsAs (whole_of task) ns (halt_at w.at e)) (sym (ap (λ y. y.items) out))
    (laws.back.back_faults (code_in task) (whole_of task) (names_in old) (waiting_binds old.env) (seen old) old.out.items
    w.at (invocation w.call.now) w.left (aim w.target) ls e g
    (faults_go_on left (received o.place (seen old).result) e
    (faults_equal left (left_as_kept w.left old) e (sym (meant_left laws task sound w old ls g)) h)))

-- what is known of a caller that was left, where its method returned this
pub record IsLeft (w : Waiting) (old run : Running) (r : Option Val) : Type 0 where
  pub leaves : LeavesAs (left_as_kept w.left old) (Ok r) old run
  pub names : names_in run ≡ names_behind w.left (waiting_binds old.env)
  pub waiting : waiting_binds run.env ≡ waiting_behind w.left (waiting_binds old.env)
  pub out : run.out ≡ old.out

-- where the caller was left, what comes back is what is received
back_received_is : BackLaws → (task : Task) → IsSound (code_in task) → (w : Waiting) (old mid : Running) (r : Option Val)
    (ls : List Level) (g : IsAt task old (level (fr.Waiting w) ∷ ls)) → IsLeft w old mid r
    → back_received (code_in task) (invocation w.call.now) g.stands.0 (seen old)
    ≡ received_as (names_in mid) (aim w.target) (option_map shown r) (seen mid)
back_received_is laws task sound w old mid r ls g k =
    back_is (code_in task) (invocation w.call.now) g.stands.0 (aim w.target)
    (names_behind w.left (waiting_binds old.env)) (seen old) (seen mid) (option_map shown r)
    (sym (meant_left laws task sound w old ls g) ∙ k.leaves.0) k.leaves.1 g.stands.4
    ∙ ap (λ (ns : NamesInOrder). received_as ns (aim w.target) (option_map shown r) (seen mid)) (sym k.names)

-- a fault where a result is received is the end
pub receiving_halts : BackLaws → (task : Task) → IsSound (code_in task) → (w : Waiting) (old mid run : Running)
    (r : Option Val) (ls : List Level) (e : Stop) → IsAt task old (level (fr.Waiting w) ∷ ls) → IsLeft w old mid r
    → FaultsAs (received_as (names_in mid) (aim w.target) (option_map shown r) (seen mid)) e → run.out ≡ mid.out
    → HaltsAs (whole_of task) run.out.items (halt_at w.at e)
receiving_halts laws task sound w old mid run r ls e g k h out =
    subst (λ (ns : List ℕ). HaltsAs (whole_of task) ns (halt_at w.at e)) (sym (ap (λ y. y.items) (out ∙ k.out)))
    (laws.back.back_faults (code_in task) (whole_of task) (names_in old) (waiting_binds old.env) (seen old) old.out.items
    w.at (invocation w.call.now) w.left (aim w.target) ls e g
    (faults_equal (back_received (code_in task) (invocation w.call.now) g.stands.0 (seen old))
    (received_as (names_in mid) (aim w.target) (option_map shown r) (seen mid)) e
    (back_received_is laws task sound w old mid r ls g k) h))

-- where the result was received, the run goes on with the caller
pub caller_goes_on : BackLaws → (task : Task) → IsSound (code_in task) → (w : Waiting) (old mid run : Running)
    (r : Option Val) (ls : List Level) → IsAt task old (level (fr.Waiting w) ∷ ls) → IsLeft w old mid r
    → received_as (names_in mid) (aim w.target) (option_map shown r) (seen mid) ≡ Fine (seen run)
    → names_in run ≡ names_in mid ++ names_aimed (aim w.target) → waiting_binds run.env ≡ waiting_binds mid.env
    → run.out ≡ mid.out → IsPast task run ls (1 + levels_cost (code_in task) ls)
caller_goes_on laws task sound w old mid run r ls g k h names waiting out =
    let p = code_in task in
    let to = aim w.target in
    let behind = names_behind w.left (waiting_binds old.env) in (
      subst (λ (ns : NamesInOrder). Going p (whole_of task) ns (waiting_binds run.env) (seen run) run.out.items ls)
          (sym (names ∙ ap (λ (ns : NamesInOrder). ns ++ names_aimed to) k.names))
          (subst (λ (bs : List Bind). Going p (whole_of task) (behind ++ names_aimed to) bs (seen run) run.out.items ls)
          (sym (waiting ∙ k.waiting))
          (subst (λ (ns : List ℕ). Going p (whole_of task) (behind ++ names_aimed to)
          (waiting_behind w.left (waiting_binds old.env)) (seen run) ns ls) (sym (ap (λ y. y.items) (out ∙ k.out)))
          (laws.back.call_over p (whole_of task) (names_in old) (waiting_binds old.env) (seen old) (seen run) old.out.items
          w.at (invocation w.call.now) w.left to ls g (back_received_is laws task sound w old mid r ls g k ∙ h)))),
      omega arith,
    )
