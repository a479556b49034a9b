-- A fault of what the first thing of a stack begins with is the end of the whole run.
use Rattle.std.proofs.Common.{◌≡◌, ap, ◌∙◌, ℕ, List}
use Rattle.ae_text.specs.declared.refusal.Spot.{Spot}
use Rattle.ae_tree.specs.Plain.{Code}
use Rattle.ae_semantics.specs.Places.{Outcome}
use Rattle.ae_semantics.specs.declared.report.Ending.TheVariants.{Trap}
use Rattle.ae_semantics.specs.Observations.{Seen}
use Rattle.ae_semantics.specs.Runs.{Run}
use Rattle.ae_semantics.specs.Means.{source_machine, pieces_bytes}
use Rattle.ae_semantics.specs.Stacks.{ToDo}
use Rattle.ae_steps.specs.Steps.{Left, left_given, resumed}
use Rattle.ae_reads.specs.declared.stop.Stop.{Stop}
use Rattle.ae_reads.specs.declared.stop.Stop.TheVariants as stop
use Rattle.ae_reads.specs.Answers.{FaultsAs}
use Rattle.ae_levels.specs.Halting.{halt_at, HaltsAs}
use Rattle.ae_levels.proofs.MoveLemmas.{SourceNotes, comes_to, comes_to_none}

-- what is left after a fault is the end
pub faulted : {A : Type 0} (p : Code) (whole : Run (List Seen)) (xs : List ToDo) (o : Outcome A) (at : Spot)
    (n : SourceNotes) (out : List ℕ) (go : A → Left (List Seen)) (e : Stop)
    → whole ≡ resumed (source_machine p) xs (left_given o at n go) → pieces_bytes n.log ≡ out → FaultsAs o e
    → HaltsAs whole out (halt_at at e)
faulted p whole xs o at n out go (stop.Trap code) w h f = comes_to whole (Trap code at) n out
    (w ∙ ap (λ (y : Outcome _). resumed (source_machine p) xs (left_given y at n go)) f) h
faulted p whole xs o at n out go stop.Lack w h f = comes_to_none whole n out
    (w ∙ ap (λ (y : Outcome _). resumed (source_machine p) xs (left_given y at n go)) f) h
faulted p whole xs o at n out go stop.Memory w h f = tt
