-- What becomes of a whole run at its end.
use Rattle.std.specs.Prelude.{◌≡◌, ℕ, ℤ, List, [], ◌∷◌, length, None, Some}
use Rattle.ae_tree.specs.Names.{main}
use Rattle.ae_tree.specs.Plain.{Definition, Code}
use Rattle.ae_rules.specs.Judges.{start}
use Rattle.ae_rules.specs.Lookups.{method_at, top_number}
use Rattle.ae_semantics.specs.declared.report.Ending.{Ending}
use Rattle.ae_semantics.specs.declared.report.Ending.TheVariants.{Done}
use Rattle.ae_semantics.specs.Observations.{Seen}
use Rattle.ae_semantics.specs.Places.{State}
use Rattle.ae_semantics.specs.Runs.{Run}
use Rattle.ae_semantics.specs.Means.{run, source_machine, main_state}
use Rattle.ae_values.specs.declared.env.Bind.{Bind}
use Rattle.ae_levels.specs.Going.{Going, ComesTo, IsSound}
use Rattle.ae_levels.specs.Levels.{InBlock, NamesInOrder}
use Rattle.ae_names.specs.Known.{AreKnown}
use Rattle.ae_levels.specs.Meanings.{MeansSo}

-- a run begins with the body of `main`, one with no level left is done, what the whole run comes to is the meaning, and
-- it has an ending
pub record RunsMeanSo : Type 0 where
  -- where the program begins, the whole run is that of the body of its `main`
  pub run_begins : (p : Code) (ints : List ℤ) (fuel n : ℕ) (m : Definition) (names : NamesInOrder) (s : State) → IsSound p
      → top_number p main ≡ Some n → method_at p n ≡ Some m → AreKnown (start p m) names → s ≡ main_state p m ints
      → Going p (run (source_machine p) ints fuel []) names [] s [] (InBlock fuel 1 m m.body (length names) ∷ [])
  -- where no level is left, the whole run is done, and what is printed is what was printed
  pub all_done : (p : Code) (whole : Run (List Seen)) (names : NamesInOrder) (waiting : List Bind) (s : State)
      (out : List ℕ) → Going p whole names waiting s out [] → ComesTo whole (Some Done) out
  -- the whole run has this ending and printed this, so the meaning has
  pub means_so : (p : Code) (ints : List ℤ) (fuel : ℕ) (e : Ending) (out : List ℕ)
      → ComesTo (run (source_machine p) ints fuel []) (Some e) out → MeansSo p ints fuel e out
  -- the meaning of an accepted program has an ending
  pub has_ending : (p : Code) (ints : List ℤ) (fuel : ℕ) (out : List ℕ) → IsSound p
      → ComesTo (run (source_machine p) ints fuel []) None out → ⊥
