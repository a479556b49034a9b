-- What a whole run comes to after one step of what is still to be done.
use Rattle.std.proofs.Common.{◌≡◌, ap, ◌∙◌, ℕ, List, ◌∷◌, ◌++◌, None, Some}
use Rattle.ae_tree.specs.Plain.{Code}
use Rattle.ae_semantics.specs.Places.{State}
use Rattle.ae_semantics.specs.declared.report.Ending.{Ending}
use Rattle.ae_semantics.specs.Observations.{Seen, Notes}
use Rattle.ae_semantics.specs.Runs.{Run, Ends, Stops}
use Rattle.ae_semantics.specs.Means.{in_order, source_machine, notes_of, ending_of, pieces_bytes}
use Rattle.ae_semantics.specs.Stacks.{ToDo, done_all}
use Rattle.ae_steps.specs.Steps.{GoesOn, Comes, first_left, resumed, StacksAreDoneBy}
use Rattle.ae_levels.specs.Going.{ComesTo}

-- what a list of answers notes
abbrev pub SourceNotes : Type 0
SourceNotes = Notes (List Seen)

-- the first thing of a stack is gone on with
pub one_step : StacksAreDoneBy (List Seen) → (p : Code) (whole : Run (List Seen)) (x : ToDo) (xs ys : List ToDo)
    (s t : State) (n k : SourceNotes) → whole ≡ done_all (source_machine p) (x ∷ xs) s n
    → first_left (source_machine p) x s n ≡ GoesOn ys t k → whole ≡ done_all (source_machine p) (ys ++ xs) t k
one_step law p whole x xs ys s t n k e f =
    e ∙ law p in_order x xs s n ∙ ap (resumed (source_machine p) xs) f

-- with the first thing of a stack the whole run comes to an end
pub last_step : StacksAreDoneBy (List Seen) → (p : Code) (whole : Run (List Seen)) (x : ToDo) (xs : List ToDo)
    (s : State) (n : SourceNotes) (r : Run (List Seen)) → whole ≡ done_all (source_machine p) (x ∷ xs) s n
    → first_left (source_machine p) x s n ≡ Comes r → whole ≡ r
last_step law p whole x xs s n r e f =
    e ∙ law p in_order x xs s n ∙ ap (resumed (source_machine p) xs) f

-- a whole run that is this ending has it
pub comes_to : (whole : Run (List Seen)) (ending : Ending) (n : SourceNotes) (out : List ℕ) → whole ≡ Ends ending n
    → pieces_bytes n.log ≡ out → ComesTo whole (Some ending) out
comes_to whole ending n out e h = record {
  ends = ap ending_of e;
  printed = ap (λ (r : Run (List Seen)). pieces_bytes (notes_of r).log) e ∙ h;
}

-- a whole run that stops has no ending
pub comes_to_none : (whole : Run (List Seen)) (n : SourceNotes) (out : List ℕ) → whole ≡ Stops n
    → pieces_bytes n.log ≡ out → ComesTo whole None out
comes_to_none whole n out e h = record {
  ends = ap ending_of e;
  printed = ap (λ (r : Run (List Seen)). pieces_bytes (notes_of r).log) e ∙ h;
}
