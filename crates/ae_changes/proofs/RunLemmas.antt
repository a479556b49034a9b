-- Runs that change only what is written, one after another.
use Rattle.std.proofs.Common.{◌≡◌, refl}
use Rattle.ae_text.specs.declared.refusal.Spot.{Spot}
use Rattle.ae_rules.specs.Edges.{Uses}
use Rattle.ae_rules.specs.Context.{Context}
use Rattle.ae_semantics.specs.Places.{Outcome, Fine, Traps, Lacks, State}
use Rattle.ae_semantics.specs.Observations.{Notes}
use Rattle.ae_semantics.specs.Runs.{Run, Went, Ends, Stops, outcome_given}
use Rattle.ae_soundness.proofs.LastingLemmas.{Leaves}
use Rattle.ae_changes.specs.Changes.{KeepsLog, RunChanges}

-- What comes of an outcome changes only what is written where what is done with it does.
pub outcome_changes : {A W : Type 0} (c : Context) (u : Uses) (still : Type 0) (s : State) (n k : Notes W)
    (o : Outcome A) (at : Spot) (go : A → Run W) → KeepsLog u n k
    → ((x : A) → o ≡ Fine x → RunChanges c u still s n (go x)) → RunChanges c u still s n (outcome_given o at k go)
outcome_changes c u still s n k (Fine x) at go l h = h x refl
outcome_changes c u still s n k (Traps code) at go l h = l
outcome_changes c u still s n k Lacks at go l h = l

-- A run that leaves the result as it was changes it nowhere.
pub with_result : {W : Type 0} (c : Context) (u : Uses) (any still : Type 0) (s : State) (n : Notes W) (r : Run W)
    → RunChanges c u any s n r → Leaves (λ t. t.result ≡ s.result) r → RunChanges c u still s n r
with_result c u any still s n (Went t k) h e = (h.0, h.1, λ y. e)
with_result c u any still s n (Ends ending k) h e = h
with_result c u any still s n (Stops k) h e = h
