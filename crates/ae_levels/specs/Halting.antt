-- Why a run goes on no further, against the whole run.
use Rattle.std.specs.Prelude.{ℕ, List, None, Some, Result, Ok, Err}
use Rattle.ae_text.specs.declared.refusal.Spot.{Spot}
use Rattle.ae_semantics.specs.declared.report.Ending.TheVariants.{Trap}
use Rattle.ae_semantics.specs.Observations.{Seen}
use Rattle.ae_semantics.specs.Runs.{Run}
use Rattle.ae_reads.specs.declared.stop.Stop.{Stop}
use Rattle.ae_reads.specs.declared.stop.Stop.TheVariants as stop
use Rattle.ae_levels.specs.declared.halt.Halt.{Halt}
use Rattle.ae_levels.specs.declared.halt.Halt.TheVariants as halt
use Rattle.ae_levels.specs.Going.{ComesTo}

-- a stop at a statement that stands here
abbrev pub halt_at : Spot → Stop → Halt
halt_at at (stop.Trap code) = halt.Ends (Trap code at)
halt_at at stop.Lack = halt.Lack
halt_at at stop.Memory = halt.Memory

-- the whole run has this ending, or none, where these bytes are printed; of want of memory nothing is said
abbrev pub HaltsAs : Run (List Seen) → List ℕ → Halt → Type 0
HaltsAs whole out (halt.Ends ending) = ComesTo whole (Some ending) out
HaltsAs whole out halt.Lack = ComesTo whole None out
HaltsAs whole out halt.Memory = Unit {0}

-- it is so afterwards, or the whole run halts so
abbrev pub LeadsTo : {B : Type 0} → Run (List Seen) → List ℕ → Type 0 → Result B Halt → Type 0
LeadsTo whole out so (Ok x) = so
LeadsTo whole out so (Err h) = HaltsAs whole out h
