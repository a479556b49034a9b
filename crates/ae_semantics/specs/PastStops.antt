-- The run past what stopped, beside the run up to the first ending with the same observations.
use Rattle.std.specs.Prelude.{◌≡◌, ◌⊎◌, ℕ, ℤ, List, [], ◌∷◌, ◌++◌, Option, None, Some, ⊤}
use Rattle.ae_text.specs.declared.refusal.Spot.{Spot}
use Rattle.ae_tree.specs.Plain.{Action, Code}
use Rattle.ae_rules.specs.Instances.{Instance}
use Rattle.ae_semantics.specs.declared.report.Ending.{Ending}
use Rattle.ae_semantics.specs.Places.{State}
use Rattle.ae_semantics.specs.Observations.{Mark, Stopped, Seen, Query, Notes}
use Rattle.ae_semantics.specs.Runs.{Run, Went, Ends, Stops, Where}
use Rattle.ae_semantics.specs.Means.{notes_of, run, stops_at}
use Rattle.ae_semantics.specs.Atom.{by_query, flow_machine}
use Rattle.ae_semantics.specs.Gathering.{doing}

-- the run stops, and the first stop that its marks tell of behind these is this one
pub record FirstStop {W : Type 0} (before : List Mark) (e : Option Ending) (r : Run W) : Type 0 where
  pub path : Instance
  pub more : List Mark
  pub notes : Notes W
  pub stops : r ≡ Stops notes
  pub marks : notes.marks ≡ before ++ (Stopped path e ∷ more)

-- Where the run up to the first ending goes through, the other is the same. Where it ends or stops, the other does so too, or it stops,
-- and the first stop that it tells of is that one.
abbrev pub GoesPast : {W : Type 0} → Run W → Run W → Type 0
GoesPast (Went s n) q = q ≡ Went s n
GoesPast (Ends e n) q = (q ≡ Ends e n) ⊎ FirstStop n.marks (Some e) q
GoesPast (Stops n) q = (q ≡ Stops n) ⊎ FirstStop n.marks None q

-- no mark tells of a stop
abbrev pub NoStop : List Mark → Type 0
NoStop [] = Unit {0}
NoStop (Stopped q e ∷ ms) = ⊥
NoStop (_ ∷ ms) = NoStop ms

-- a run past what stopped goes so, beside a run that tells of no stop
abbrev pub RunsGoPast : Type 0
RunsGoPast = (p : Code) (ints : List ℤ) (fuel : ℕ) (table : Query → Option Seen)
    → GoesPast (run (stops_at p (by_query {W = ⊤} table)) ints fuel tt) (run (flow_machine p table) ints fuel tt)
    × NoStop (notes_of (run (stops_at p (by_query {W = ⊤} table)) ints fuel tt)).marks

-- and so does a single statement, from any state and with any notes
abbrev pub StatementsGoPast : Type 0
StatementsGoPast = (p : Code) (fuel : ℕ) (table : Query → Option Seen) (here : Where) (at : Spot) (a : Action)
    (s : State) (n : Notes ⊤)
    → GoesPast (doing (stops_at p (by_query table)) fuel here at a s n)
    (doing (flow_machine p table) fuel here at a s n)
