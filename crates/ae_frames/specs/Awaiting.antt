-- What a call that runs has to have so that it can be left, and what leaving it answers.
use Rattle.std.specs.Prelude.{◌≡◌, ℕ, true, List, drop, Option, IfSome, option_map, Result, Ok, Err}
use Rattle.ae_semantics.specs.Places.{Outcome, Fine, State}
use Rattle.ae_values.specs.declared.env.Bind.{Bind}
use Rattle.ae_values.specs.declared.value.Val.{Val}
use Rattle.ae_values.specs.Binding.{IsCallFrom}
use Rattle.ae_values.specs.Shapes.{NameShape, shapes}
use Rattle.ae_values.specs.Shown.{shown, IsMeasured}
use Rattle.ae_reads.specs.declared.stop.Stop.{Stop}
use Rattle.ae_reads.specs.Answers.{FaultsAs}
use Rattle.ae_running.specs.declared.running.Running.{Running}
use Rattle.ae_running.specs.Seen.{seen}
use Rattle.ae_frames.specs.declared.opening.Waiting.{Waiting}
use Rattle.ae_frames.specs.declared.left.Left.{Left}
use Rattle.ae_frames.specs.Entries.{all_differ}
use Rattle.ae_frames.specs.Entering.{waiting_state}
use Rattle.ae_frames.specs.Kept.{brought_back}
use Rattle.ae_frames.specs.Returns.{AreGroups, back_names, lent_names, lent_holders}
use Rattle.ae_frames.specs.Shown.{backs_of, lents_of}

-- What is kept leads back to a caller, where the method that runs has these names and these binds wait: the caller's
-- names wait from the base on, what comes back stands under different names, and each group that was lent stands under
-- its own name, as does the placeholder for it.
pub record Awaits (w : Waiting) (names : List (ℕ × NameShape)) (waiting : List Bind) : Type 0 where
  pub call : IsCallFrom waiting w.base
  pub values_differ : all_differ (back_names w.back.items) ≡ true
  pub groups_differ : all_differ (lent_names w.lent.items) ≡ true
  pub lent : AreGroups (lent_names w.lent.items) names
  pub held : AreGroups (lent_holders w.lent.items) (shapes (drop w.base waiting))

-- what a call that ends in this state leaves of its caller, by what was kept
abbrev pub left_as_kept : Left → Running → Outcome State
left_as_kept left run = brought_back (backs_of left.waiting.back.items) (lents_of left.waiting.lent.items) left.gone.items
    (seen run) (waiting_state left.waiting.base left.result run.env)

-- The answer is the outcome: the run has its state, and the method's result is handed out; or there is its fault.
abbrev pub LeavesAs : Outcome State → Result (Option Val) Stop → Running → Running → Type 0
LeavesAs o (Ok r) old new = (o ≡ Fine (seen new)) × (option_map shown r ≡ option_map shown old.result)
    × IfSome r (λ v. IsMeasured v)
LeavesAs o (Err stop) old new = FaultsAs o stop
