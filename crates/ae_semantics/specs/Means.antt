-- The meaning of a whole program with observations, and its bytes.
use Rattle.std.specs.Prelude.{ℕ, ℤ, false, List, [], ◌∷◌, ◌++◌, Option, None, Some}
use Rattle.ae_text.specs.declared.refusal.Spot.{Spot}
use Rattle.ae_tree.specs.Names.{main}
use Rattle.ae_tree.specs.Plain.{Definition, Code}
use Rattle.ae_rules.specs.Verdict.{given}
use Rattle.ae_rules.specs.Lookups.{method_at, top_number}
use Rattle.ae_rules.specs.Judges as judges
use Rattle.ae_rules.specs.Instances.{Instance}
use Rattle.ae_semantics.specs.Values.{Owned, Array}
use Rattle.ae_semantics.specs.Places.{CellName, State}
use Rattle.ae_semantics.specs.declared.report.Ending.{Ending}
use Rattle.ae_semantics.specs.declared.report.Ending.TheVariants.{Done}
use Rattle.ae_semantics.specs.declared.report.Piece.{Piece}
use Rattle.ae_semantics.specs.Observations.{Image, Ask, Seen, Origin, Mark, Ran, Turned, Entered, Asked, Used}
use Rattle.ae_semantics.specs.Observations.{Stopped, Notes, Observer}
use Rattle.ae_semantics.specs.Runs.{Run, Went, Ends, Stops, Where, stopping, Machine}
use Rattle.ae_semantics.specs.Calls.{takers, taken}
use Rattle.ae_semantics.specs.Meaning.{block, below}

-- ---- a whole run

-- the first method named `main` at the top begins
pub record Start : Type 0 where
  pub here : Where
  pub method : Definition
  pub state : State

-- where the body of `main` stands
abbrev pub main_here : Code → ℕ → Definition → Where
main_here p n m = record { number = n; method = m; depth = 1; path = []; context = judges.start p m; inside = false }

-- the integers are the value of main's parameter, where it has one
abbrev pub main_state : Code → Definition → List ℤ → State
main_state p m ints = record {
  locals = taken (takers p m) (record { value = Owned (Array ints); from = None } ∷ []);
  groups = λ g. None;
  result = None;
}

-- where the method with this number begins
abbrev pub start_at : Code → List ℤ → ℕ → Option Start
start_at p ints n = given (method_at p n) None (λ (m : Definition).
    Some (record { here = main_here p n m; method = m; state = main_state p m ints }))

-- where the program begins, where it has a `main`
abbrev pub run_start : Code → List ℤ → Option Start
run_start p ints = given (top_number p main) None (start_at p ints)

-- nothing is noted yet
abbrev pub no_notes : {W : Type 0} → W → Notes W
no_notes w = record { log = []; cell = None; marks = []; watch = w }

-- a run of `main` by a machine, with this fuel
abbrev pub run : {W : Type 0} → Machine W → List ℤ → ℕ → W → Run W
run m ints fuel w = given (run_start m.code ints) (Stops (no_notes w))
    (λ (x : Start). block m (below m fuel) x.here x.method.body x.state (no_notes w))

-- ---- what is read off a run

-- what a run leaves beside its state
abbrev pub notes_of : {W : Type 0} → Run W → Notes W
notes_of (Went s n) = n
notes_of (Ends ending n) = n
notes_of (Stops n) = n

-- the ending of a run, where it has one
abbrev pub ending_of : {W : Type 0} → Run W → Option Ending
ending_of (Went s n) = Some Done
ending_of (Ends ending n) = Some ending
ending_of (Stops n) = None

-- where the observations that were used came from, in order
abbrev pub origins_in : List Mark → List Origin
origins_in [] = []
origins_in (Used from ∷ ms) = from ∷ origins_in ms
origins_in (_ ∷ ms) = origins_in ms

-- a statement instance and its place
pub record At : Type 0 where
  pub path : Instance
  pub spot : Spot

-- the statement instances that ran, the one that ended included
abbrev pub ran_in : List Mark → List At
ran_in [] = []
ran_in (Ran path at ∷ ms) = record { path = path; spot = at } ∷ ran_in ms
ran_in (_ ∷ ms) = ran_in ms

-- a loop's turn
pub record Turn : Type 0 where
  pub path : Instance
  pub turn : ℕ

-- the turns whose condition was evaluated
abbrev pub turns_in : List Mark → List Turn
turns_in [] = []
turns_in (Turned path t ∷ ms) = record { path = path; turn = t } ∷ turns_in ms
turns_in (_ ∷ ms) = turns_in ms

-- a cell and what it held at first
pub record First : Type 0 where
  pub cell : CellName
  pub image : Image

-- the cells of the split blocks that were entered
abbrev pub firsts_in : List Mark → List First
firsts_in [] = []
firsts_in (Entered c image ∷ ms) = record { cell = c; image = image } ∷ firsts_in ms
firsts_in (_ ∷ ms) = firsts_in ms

-- what was asked, of which cell
pub record Asking : Type 0 where
  pub cell : CellName
  pub ask : Ask

-- what was asked, in order
abbrev pub asks_in : List Mark → List Asking
asks_in [] = []
asks_in (Asked c ask ∷ ms) = record { cell = c; ask = ask } ∷ asks_in ms
asks_in (_ ∷ ms) = asks_in ms

-- a statement instance that did not go through, with its ending where it has one
pub record Stop : Type 0 where
  pub path : Instance
  pub ending : Option Ending

-- the instances that did not go through, in order
abbrev pub stops_in : List Mark → List Stop
stops_in [] = []
stops_in (Stopped path ending ∷ ms) = record { path = path; ending = ending } ∷ stops_in ms
stops_in (_ ∷ ms) = stops_in ms

-- ---- the source meaning

-- what a run comes to: its ending, where it has one, the log of `io`, and its cell where `io` is split at the end
pub record Meant : Type 0 where
  pub ending : Option Ending
  pub used : List Origin
  pub ran : List At
  pub turns : List Turn
  pub firsts : List First
  pub asked : List Asking
  pub stopped : List Stop
  pub log : List Piece
  pub cell : Option CellName

-- what is read off a run
abbrev pub meant : {W : Type 0} → Run W → Meant
meant r =
    let n : Notes _ = notes_of r in
    record {
      ending = ending_of r;
      used = origins_in n.marks;
      ran = ran_in n.marks;
      turns = turns_in n.marks;
      firsts = firsts_in n.marks;
      asked = asks_in n.marks;
      stopped = stops_in n.marks;
      log = n.log;
      cell = n.cell;
    }

-- observations in source order
abbrev pub in_order : Observer (List Seen)
in_order [] q = None
in_order (x ∷ xs) q = Some (x, xs)

-- the machine that goes up to the first ending
abbrev pub stops_at : {W : Type 0} → Code → Observer W → Machine W
stops_at p o = record { code = p; observer = o; order = stopping }

-- the machine of the source order, by a list of observations
abbrev pub source_machine : Code → Machine (List Seen)
source_machine p = stops_at p in_order

-- statements in source order, up to the first ending
unfoldable pub mean : Code → List ℤ → ℕ → List Seen → Meant
mean p ints fuel seen = meant (run (source_machine p) ints fuel seen)

-- with no observations
unfoldable pub seq : Code → List ℤ → ℕ → Meant
seq p ints fuel = mean p ints fuel []

-- ---- bytes

-- the bytes of pieces
abbrev pub pieces_bytes : List Piece → List ℕ
pieces_bytes [] = []
pieces_bytes (x ∷ xs) = x.bytes ++ pieces_bytes xs

-- the bytes of the log, and where `io` is split at the end, the pieces of the blocks of its cell after them
abbrev pub bytes : Meant → List Piece → List ℕ
bytes m more = pieces_bytes m.log ++ given m.cell [] (λ c. pieces_bytes more)
