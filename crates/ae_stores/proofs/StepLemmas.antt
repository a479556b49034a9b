-- Facts on steps that are made one after another: what is left of them from a place on their way.
use Rattle.std.proofs.Common.{◌≡◌, ◌∙◌, ℕ, ◌+◌, ◌<◌, ap, List, length, drop, get_or}
use Rattle.std.proofs.lemmas.List.{drop_more}
use Rattle.ae_tree.specs.declared.tree.NameAt.{NameAt}
use Rattle.ae_tree.specs.Plain.{Code}
use Rattle.ae_semantics.specs.Places.{Outcome, Fine, ◌>>=◌, State, PlaceFound, steps, step_to}
use Rattle.ae_reads.specs.declared.stop.Stop.{Stop}
use Rattle.ae_reads.specs.Answers.{FaultsAs}
use Rattle.ae_stores.proofs.from_reads.WalkLemmas.{faults_go_on, faults_equal}

-- after the step with this number those behind it are left
pub left_after_step : (p : Code) (s : State) (o : Outcome PlaceFound) (xs : List NameAt) (i : ℕ) (d : NameAt)
    (from next : PlaceFound) → i < length xs → o ≡ steps p s (drop i xs) from
    → step_to p s (get_or xs i d) from ≡ Fine next → o ≡ steps p s (drop (i + 1) xs) next
left_after_step p s o xs i d from next below h e =
    h ∙ ap (λ ys. steps p s ys from) (drop_more xs i d below)
    ∙ ap (λ (y : Outcome PlaceFound). y >>= steps p s (drop (i + 1) xs)) e

-- where the step with this number fails all do
pub step_fails : (p : Code) (s : State) (o : Outcome PlaceFound) (xs : List NameAt) (i : ℕ) (d : NameAt)
    (from : PlaceFound) (e : Stop) → i < length xs → o ≡ steps p s (drop i xs) from
    → FaultsAs (step_to p s (get_or xs i d) from) e → FaultsAs o e
step_fails p s o xs i d from e below h fails =
    faults_equal o (step_to p s (get_or xs i d) from >>= steps p s (drop (i + 1) xs)) e
    (h ∙ ap (λ ys. steps p s ys from) (drop_more xs i d below))
    (faults_go_on (step_to p s (get_or xs i d) from) (steps p s (drop (i + 1) xs)) e fails)
