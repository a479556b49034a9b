-- A whole run is that of the body of `main`.
use Rattle.std.proofs.Common.{◌≡◌, refl, ap, sym, ◌∙◌, ℕ, ℤ, List, [], ◌∷◌, ◌++◌, length, Option, None, Some}
use Rattle.ae_tree.specs.Names.{main}
use Rattle.ae_tree.specs.Plain.{Definition, Code}
use Rattle.ae_rules.specs.Verdict.{given}
use Rattle.ae_rules.specs.Context.{Context}
use Rattle.ae_rules.specs.Lookups.{method_at, top_number}
use Rattle.ae_rules.specs.Judges.{start}
use Rattle.ae_semantics.specs.Places.{State}
use Rattle.ae_semantics.specs.Observations.{Seen}
use Rattle.ae_semantics.specs.Runs.{Run, Went, Ends, Stops, Where, and_then}
use Rattle.ae_semantics.specs.Meaning.{block, below, forgotten}
use Rattle.ae_semantics.specs.Means.{Start, run, run_start, start_at, source_machine, main_here, main_state, no_notes}
use Rattle.ae_semantics.specs.Stacks.{TheNames, done_all}
use Rattle.ae_names.specs.Known.{AreKnown}
use Rattle.ae_steps.specs.Steps.{block_left}
use Rattle.ae_levels.specs.Levels.{NamesInOrder, InBlock}
use Rattle.ae_levels.specs.Going.{Going, IsSound}
use Rattle.ae_levels.proofs.BlockLemmas.{stands_opened}
use Rattle.ae_levels.proofs.CallLemmas.{body_judged}

-- names that end after a run are what is still to be done after it
then_names_end : (p : Code) (c : Context) (r : Run (List Seen))
    → and_then r (λ s n. Went (forgotten c s) n) ≡ and_then r (done_all (source_machine p) (TheNames c ∷ []))
then_names_end p c (Went s n) = refl
then_names_end p c (Ends ending n) = refl
then_names_end p c (Stops n) = refl

-- what is run from a start, if there is one
abbrev run_from : Code → ℕ → Option Start → Run (List Seen)
run_from p fuel o = given o (Stops (no_notes [])) (λ (x : Start).
    block (source_machine p) (below (source_machine p) fuel) x.here x.method.body x.state (no_notes []))

-- the program starts at this method
starts_there : (p : Code) (ints : List ℤ) (n : ℕ) (m : Definition) → top_number p main ≡ Some n → method_at p n ≡ Some m
    → run_start p ints ≡ Some (record { here = main_here p n m; method = m; state = main_state p m ints })
starts_there p ints n m top is = ap (λ (o : Option ℕ). given o None (start_at p ints)) top
    ∙ ap (λ (o : Option Definition). given o None (λ (d : Definition).
    Some (record { here = main_here p n d; method = d; state = main_state p d ints }))) is

-- where the program begins, the whole run is that of the body of its `main`
pub run_begins : (p : Code) (ints : List ℤ) (fuel n : ℕ) (m : Definition) (names : NamesInOrder) (s : State) → IsSound p
    → top_number p main ≡ Some n → method_at p n ≡ Some m → AreKnown (start p m) names → s ≡ main_state p m ints
    → Going p (run (source_machine p) ints fuel []) names [] s [] (InBlock fuel 1 m m.body (length names) ∷ [])
run_begins p ints fuel n m names s sound top is known same =
    let here : Where = main_here p n m in
    let j = body_judged p n m sound is in
    record {
      stack = block_left fuel here m.body ++ [];
      notes = no_notes [];
      stands = stands_opened p names [] fuel 1 m m.body here j.0.0 [] [] refl refl j.0.1 j.1 known refl;
      comes = ap (run_from p fuel) (starts_there p ints n m top is)
          ∙ then_names_end p here.context _
          ∙ ap (λ (t : State). done_all (source_machine p) (block_left fuel here m.body) t (no_notes [])) (sym same);
      printed = refl;
    }
