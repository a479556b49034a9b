-- What a whole run comes to is what the meaning is.
use Rattle.std.proofs.Common.{◌≡◌, refl, ap, ◌∙◌, ℕ, ℤ, List, [], ◌++◌, Option, None, Some}
use Rattle.std.proofs.lemmas.List.{append-nil}
use Rattle.ae_tree.specs.Plain.{Code}
use Rattle.ae_rules.specs.Verdict.{given}
use Rattle.ae_semantics.specs.Places.{CellName, State}
use Rattle.ae_semantics.specs.declared.report.Ending.{Ending}
use Rattle.ae_semantics.specs.Observations.{Seen}
use Rattle.ae_semantics.specs.declared.report.Ending.TheVariants.{Done}
use Rattle.ae_semantics.specs.Runs.{Run, Went}
use Rattle.ae_semantics.specs.Stacks.{ToDo, done_all}
use Rattle.ae_values.specs.declared.env.Bind.{Bind}
use Rattle.ae_semantics.specs.Means.{run, source_machine, ending_of, notes_of, pieces_bytes, mean, meant, bytes}
use Rattle.ae_soundness.specs.Whole.{AcceptedMeaningsEnd}
use Rattle.ae_levels.specs.Going.{Going, ComesTo, IsSound}
use Rattle.ae_levels.specs.Meanings.{MeansSo}
use Rattle.ae_levels.specs.Levels.{NamesInOrder}

-- where there are no further pieces, none are added, whether `io` is split at the end or not
nothing_more : (o : Option CellName) → given o [] (λ (c : CellName). pieces_bytes []) ≡ []
nothing_more None = refl
nothing_more (Some c) = refl

-- the bytes of a run with no further pieces are those of its log
log_alone : (r : Run (List Seen)) → bytes (meant r) [] ≡ pieces_bytes (notes_of r).log
log_alone r = ap (λ (xs : List ℕ). pieces_bytes (notes_of r).log ++ xs) (nothing_more (notes_of r).cell)
    ∙ append-nil (pieces_bytes (notes_of r).log)

-- the whole run has this ending and printed this, so the meaning has
pub means_so : (p : Code) (ints : List ℤ) (fuel : ℕ) (e : Ending) (out : List ℕ)
    → ComesTo (run (source_machine p) ints fuel []) (Some e) out → MeansSo p ints fuel e out
unfolding mean
means_so p ints fuel e out c = (c.ends, log_alone (run (source_machine p) ints fuel []) ∙ c.printed)

-- the meaning of an accepted program has an ending
pub has_ending : (p : Code) (ints : List ℤ) (fuel : ℕ) (out : List ℕ) → AcceptedMeaningsEnd → IsSound p
    → ComesTo (run (source_machine p) ints fuel []) None out → ⊥
unfolding mean
has_ending p ints fuel out law s c =
    let e : (e : Ending) × (ending_of (run (source_machine p) ints fuel []) ≡ Some e) =
    law p s.shaped s.free s.accepted s.unsplit ints fuel [] in
    absurd (cc (c.ends, e.1))

-- where no level is left, the whole run is done, and what is printed is what was printed
pub all_done : (p : Code) (whole : Run (List Seen)) (names : NamesInOrder) (waiting : List Bind) (s : State) (out : List ℕ)
    → Going p whole names waiting s out [] → ComesTo whole (Some Done) out
all_done p whole names waiting s out g =
    let w : whole ≡ Went s g.notes =
    g.comes ∙ ap (λ (xs : List ToDo). done_all (source_machine p) xs s g.notes) g.stands in
    record {
      ends = ap ending_of w;
      printed = ap (λ (r : Run (List Seen)). pieces_bytes (notes_of r).log) w ∙ g.printed;
    }
