-- The values at a moment of a run, and what two moments agree on.
use Rattle.ae_rules.specs.Edges.{Uses}
use Rattle.std.specs.Prelude.{◌≡◌, ℕ, Bool, true, List, [], Option, is_some, ⊤}
use Rattle.ae_rules.specs.declared.uses.Resource.TheVariants as resource
use Rattle.ae_rules.specs.declared.uses.Mode.{Mode}
use Rattle.ae_tree.specs.Names.{io}
use Rattle.ae_semantics.specs.Places.{Outcome, Fine, Lacks, CellName, State, group_of}
use Rattle.ae_semantics.specs.Contexts.{shuts_out}
use Rattle.ae_semantics.specs.declared.report.Piece.{Piece}
use Rattle.ae_semantics.specs.Observations.{Notes}
use Rattle.ae_semantics.specs.Runs.{Run, Went, Ends, Stops, Act}

-- the values at a moment of the run, the log of `io`, and the cell of `io` where it is split
pub record Moment : Type 0 where
  pub state : State
  pub log : List Piece
  pub cell : Option CellName

-- the moment that a run has come to
abbrev pub moment_of : {W : Type 0} → State → Notes W → Moment
moment_of s n = record { state = s; log = n.log; cell = n.cell }

-- the notes of a run that goes on from a moment
abbrev pub notes_from : Moment → Notes ⊤
notes_from m = record { log = m.log; cell = m.cell; marks = []; watch = tt }

-- what a run has come to, where it went through
abbrev pub moment_after : {W : Type 0} → Run W → Outcome Moment
moment_after (Went s n) = Fine (moment_of s n)
moment_after (Ends ending n) = Lacks
moment_after (Stops n) = Lacks

-- what is done from a moment, where it goes through
abbrev pub then_moment : Moment → Act ⊤ → Outcome Moment
then_moment m act = moment_after (act m.state (notes_from m))

-- the two moments have the same values
pub record AreSame (a b : Moment) : Type 0 where
  pub locals : (x : ℕ) → a.state.locals x ≡ b.state.locals x
  pub groups : (g : ℕ) → a.state.groups g ≡ b.state.groups g
  pub result : a.state.result ≡ b.state.result
  pub log : a.log ≡ b.log
  pub cell : a.cell ≡ b.cell

-- the two moments have the same values where the mode of use passes the test, and the same result
pub record Agrees (test : Option Mode → Bool) (u : Uses) (a b : Moment) : Type 0 where
  pub locals : (x : ℕ) → test (u (resource.Local x)) ≡ true → a.state.locals x ≡ b.state.locals x
  pub groups : (g : ℕ) → test (u (resource.Group g)) ≡ true → group_of a.state g ≡ group_of b.state g
  pub result : a.state.result ≡ b.state.result
  pub log : shuts_out (u (resource.Group io)) ≡ true → a.log ≡ b.log
  pub cell : test (u (resource.Group io)) ≡ true → a.cell ≡ b.cell

-- they agree on what is used
abbrev pub AgreesOnUsed : Uses → Moment → Moment → Type 0
AgreesOnUsed u a b = Agrees is_some u a b

-- they agree on what is changed
abbrev pub AgreesOnChanged : Uses → Moment → Moment → Type 0
AgreesOnChanged u a b = Agrees shuts_out u a b
