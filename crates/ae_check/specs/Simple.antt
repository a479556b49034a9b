-- What the calls on statements without blocks answer.
use Rattle.std.specs.Prelude.{ℕ}
use Rattle.ae_tree.specs.Plain.{Invocation, Code}
use Rattle.ae_rules.specs.Verdict.{Verdict, Holds, ◌>>=◌}
use Rattle.ae_rules.specs.Context.{Context, with_held, with_local}
use Rattle.ae_rules.specs.Effects.{all_moved}
use Rattle.ae_rules.specs.Calls.{judge_call}
use Rattle.ae_check.specs.declared.simple.Introduced.{Introduced}
use Rattle.ae_check.specs.declared.simple.Assigned.{Assigned}

-- the context after a `let`
abbrev pub introduced : ℕ → Context → Introduced → Context
introduced x c a = with_local x a.form (all_moved a.moved.items c)

-- the context after an assignment
abbrev pub after_assignment : ℕ → Context → Assigned → Context
after_assignment x c a = with_held x a.held (all_moved a.moved.items c)

-- a call as a statement: the context after it
abbrev pub called : Code → Context → Invocation → Verdict Context
called p c i = judge_call p c i >>= λ called. Holds called.after
