-- What a call that was entered has, and what waits for it.
use Rattle.std.specs.Prelude.{◌≡◌, ℕ, drop, Option, option_map, Result, Ok, Err}
use Rattle.ae_tree.specs.Plain.{Invocation}
use Rattle.ae_tree.specs.Shown.{definition}
use Rattle.ae_semantics.specs.Places.{Outcome, Fine, State}
use Rattle.ae_values.specs.declared.env.Env.{Env}
use Rattle.ae_values.specs.declared.value.Val.{Val}
use Rattle.ae_values.specs.Shown.{shown}
use Rattle.ae_values.specs.Binding.{bound_in}
use Rattle.ae_values.specs.Environments.{locals_in, groups_in, running_binds, waiting_binds}
use Rattle.ae_values.specs.Shapes.{shapes}
use Rattle.ae_reads.specs.declared.stop.Stop.{Stop}
use Rattle.ae_reads.specs.Answers.{one_name, FaultsAs}
use Rattle.ae_running.specs.declared.running.Running.{Running}
use Rattle.ae_running.specs.Seen.{seen}
use Rattle.ae_frames.specs.declared.entering.Entered.{Entered}
use Rattle.ae_frames.specs.Entries.{EnteredCall, names_entered}
use Rattle.ae_frames.specs.Kept.{IsKept, IsLeftOf}
use Rattle.ae_frames.specs.Shown.{backs_of, lents_of}

-- the state of the names that wait from this place on, where this was returned
abbrev pub waiting_state : ℕ → Option Val → Env → State
waiting_state base r e = record {
  locals = locals_in (bound_in (drop base (waiting_binds e)));
  groups =
      groups_in one_name (bound_in (drop base (waiting_binds e)));
  result = option_map shown r;
}

-- The call was entered: this method, from the state in which its body begins, with what is kept of the caller, of which
-- what is left waits.
pub record IsEntered (x : EnteredCall) (i : Invocation) (before : State) (e : Entered) (run : Running) : Type 0 where
  pub method : x.callee.method ≡ definition e.method.now
  pub number : x.callee.number ≡ e.number
  pub state : x.state ≡ seen run
  pub kept : IsKept x i (backs_of e.left.waiting.back.items) (lents_of e.left.waiting.lent.items) e.left.gone.items
  pub left : IsLeftOf (backs_of e.left.waiting.back.items) (lents_of e.left.waiting.lent.items) e.left.gone.items before
      (waiting_state e.left.waiting.base e.left.result run.env)
  pub names : shapes (running_binds run.env) ≡ names_entered x

-- The outcome is an entered call, which was entered, or has its fault.
abbrev pub EntersAs : Outcome EnteredCall → Invocation → State → Running → Result Entered Stop → Type 0
EntersAs o i before run (Ok e) = (x : EnteredCall) × (o ≡ Fine x) × IsEntered x i before e run
EntersAs o i before run (Err stop) = FaultsAs o stop
