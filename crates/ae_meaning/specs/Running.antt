-- What the parts of an evaluation hold and answer, against the meaning.
use Rattle.std.specs.Prelude.{◌≡◌, ℤ, slice_index_or, None, Result, Ok, Err}
use Rattle.ae_meaning.specs.declared.locals.Locals.{Locals}
use Rattle.ae_meaning.specs.declared.value.Fault.{Fault}
use Rattle.ae_meaning.specs.declared.value.Fault.TheVariants as fault
use Rattle.ae_text.specs.declared.refusal.Spot.{Spot}
use Rattle.ae_tree.specs.Plain.{RightSide, Value, Taken, Zeros, Made, Returned}
use Rattle.ae_meaning.specs.declared.report.Ending.TheVariants.{Done, Trap, Fuel}
use Rattle.ae_meaning.specs.declared.run.Running.{Running}
use Rattle.ae_meaning.specs.declared.run.Stop.{Stop}
use Rattle.ae_meaning.specs.declared.run.Stop.TheVariants as stop
use Rattle.ae_meaning.specs.Values.{Env, TodayOutcome, Fine, Traps, Lacks, today_value}
use Rattle.ae_meaning.specs.Meaning.{TodayState, Run, Went, Ends, Stops}

-- the value of each name, by its number
abbrev pub env_of : Locals → Env
env_of l x = slice_index_or l.values.items x None

-- the answer is this outcome
abbrev pub Comes : TodayOutcome → Result ℤ Fault → Type 0
Comes o (Ok v) = o ≡ Fine v
Comes o (Err (fault.Trap code)) = o ≡ Traps code
Comes o (Err fault.Lack) = o ≡ Lacks

-- what a run holds
abbrev pub held : Running → TodayState
held r = record { env = env_of r.locals; log = r.log.items }

-- the value, or the trap at this place, or no ending
abbrev pub FindsValue : TodayOutcome → Spot → Result ℤ Stop → Type 0
FindsValue o at (Ok v) = o ≡ Fine v
FindsValue o at (Err (stop.Ended (Trap code place))) = (o ≡ Traps code) × (place ≡ at)
FindsValue o at (Err (stop.Ended Done)) = ⊥
FindsValue o at (Err (stop.Ended (Fuel place))) = ⊥
FindsValue o at (Err stop.Lack) = o ≡ Lacks
FindsValue o at (Err stop.Memory) = ⊥

-- what a right side comes to; the other forms do not run yet
abbrev pub sought : RightSide → Env → TodayOutcome
sought (Value e) env = today_value e env
sought (Taken p at) env = Lacks
sought (Zeros e at) env = Lacks
sought (Made c groups args at) env = Lacks
sought (Returned c) env = Lacks

-- what statements answer and leave, against their run
abbrev pub AnswersAs : Run → Result (Unit {0}) Stop → TodayState → Type 0
AnswersAs run (Ok _) s = run ≡ Went s
AnswersAs run (Err (stop.Ended ending)) s = run ≡ Ends ending s.log
AnswersAs run (Err stop.Lack) s = run ≡ Stops s.log
AnswersAs run (Err stop.Memory) s = Unit {0}
