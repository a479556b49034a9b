-- A run that is under way, as a tree of the blocks that were begun: what went through in it, what waits, and what it has observed.
use Rattle.std.specs.Prelude.{ℕ, zero, suc, ℤ, if◌then◌else◌, List, [], ◌∷◌, ◌++◌, map, Option, None, Some}
use Rattle.ae_tree.specs.Plain.{Lines, End, Next, Code}
use Rattle.ae_rules.specs.Verdict.{given}
use Rattle.ae_semantics.specs.Places.{CellName}
use Rattle.ae_semantics.specs.Moments.{Moment}
use Rattle.ae_semantics.specs.Entries.{Inner, OfCall, OfBranch, OfTurn, OfSplit, Entry}
use Rattle.ae_semantics.specs.declared.report.Ending.{Ending}
use Rattle.ae_semantics.specs.declared.report.TraceLine.{TraceLine}
use Rattle.ae_semantics.specs.Observations.{Answer, Seen, OfBlock, Query, AtBlock, AtEnd}
use Rattle.ae_rules.specs.Instances.{Instance}
use Rattle.ae_semantics.specs.Means.{Start, run_start, Turn, Asking}
use Rattle.ae_semantics.specs.Report.{CellReport, last_in}
use Rattle.ae_semantics.specs.Regions.{same_instance}
use Rattle.ae_semantics.specs.Regions.{Region, Within, FromTurn}

-- ---- the tree

-- an atomic block that ran: its cell and what it asked, what it answered, and its stamp
pub record Happened : Type 0 where
  pub asking : Asking
  pub out : Answer
  pub stamp : ℕ

-- what ran so far inside a statement: its atomic blocks, the cells of the split blocks that it entered, with what each holds now, and the
-- lines of the tasks that ended
pub record Gained : Type 0 where
  pub events : List Happened
  pub cells : List CellReport
  pub trace : List TraceLine

mutual
  -- a block being run: what it was entered with, and how far each of its statements is
  pub data BlockTree : Type 0 where
    Begun : Moment → Stages → BlockTree

  -- how far the statements of a block are, in their order
  pub data Stages : Type 0 where
    NoMore : Stages
    Then : FrameStage → Stages → Stages

  -- How far a statement is. It waits; it is a task, begun or not; it is a loop from a turn on, with what the turns before left;
  -- it is the block of a call, a branch, a turn or a split block that is being run, with what the turns before gained and with
  -- the split block's cells; it went through, with what it left; it ended; or it is left out.
  pub data FrameStage : Type 0 where
    Waiting : FrameStage
    Task : Gained → FrameStage
    Loop : ℕ → Moment → Gained → FrameStage
    InCall : BlockTree → FrameStage
    InBranch : ℕ → BlockTree → FrameStage
    InTurn : ℕ → Gained → BlockTree → FrameStage
    InSplit : List CellReport → BlockTree → FrameStage
    Finished : Moment → Gained → FrameStage
    Halted : Ending → Gained → FrameStage
    LeftOut : FrameStage

-- all statements of a block wait
abbrev pub all_wait : Lines → Stages
all_wait End = NoMore
all_wait (Next at a rest) = Then Waiting (all_wait rest)

-- the number of statements of a block
abbrev pub how_many : Stages → ℕ
how_many NoMore = 0
how_many (Then x rest) = suc (how_many rest)

-- what the body of `main` is entered with
abbrev pub main_entry : Start → Entry
main_entry x = record {
  here = x.here;
  lines = x.method.body;
  values =
      record { state = x.state; log = []; cell = None };
  cells = [];
}

-- the tree before anything ran: the body of `main`, all of whose statements wait
abbrev pub fresh : Code → List ℤ → Option BlockTree
fresh p ints = given (run_start p ints) None
    (λ (x : Start). Some (Begun (main_entry x).values (all_wait x.method.body)))

-- ---- the statements of the tree

-- a statement instance and how far it is
pub record Node : Type 0 where
  pub path : Instance
  pub stage : FrameStage

abbrev mutual
  -- the statements of a block, and of all blocks inside it
  pub nodes_in : Instance → BlockTree → List Node
  nodes_in q (Begun m stages) = nodes_from q 0 stages

  -- the statements of a block from a number on
  pub nodes_from : Instance → ℕ → Stages → List Node
  nodes_from q j NoMore = []
  nodes_from q j (Then x rest) = record { path = q ++ (j ∷ []); stage = x }
      ∷ (nodes_inside (q ++ (j ∷ [])) x ++ nodes_from q (suc j) rest)

  -- the statements inside a statement; a branch and a turn have a number of their own
  pub nodes_inside : Instance → FrameStage → List Node
  nodes_inside q (InCall f) = nodes_in q f
  nodes_inside q (InBranch i f) = nodes_in (q ++ (i ∷ [])) f
  nodes_inside q (InTurn t gained f) = nodes_in (q ++ (t ∷ [])) f
  nodes_inside q (InSplit cells f) = nodes_in q f
  nodes_inside q _ = []

-- all statements of a tree, whose first block is the body of `main`
abbrev pub nodes : BlockTree → List Node
nodes tree = nodes_in [] tree

-- all things that the nodes of a tree give
abbrev pub from_nodes : {A : Type 0} → (Instance → FrameStage → List A) → List Node → List A
from_nodes give [] = []
from_nodes give (x ∷ xs) = give x.path x.stage ++ from_nodes give xs

-- ---- how far they are

-- the turns of a loop before this one
abbrev pub turns_before : Instance → ℕ → List Region
turns_before q zero = []
turns_before q (suc t) = turns_before q t ++ (Within (q ++ (t ∷ [])) ∷ [])

-- what went through: statements, and turns of loops that go on
abbrev pub finished_at : Instance → FrameStage → List Region
finished_at q (Finished m gained) = Within q ∷ []
finished_at q (Loop t m gained) = turns_before q t
finished_at q (InTurn t gained f) = turns_before q t
finished_at q _ = []

-- the unfinished tasks: statements that wait or are tasks, and loops from their next turn on
abbrev pub unfinished_at : Instance → FrameStage → List Region
unfinished_at q Waiting = Within q ∷ []
unfinished_at q (Task gained) = Within q ∷ []
unfinished_at q (Loop t m gained) = FromTurn q t ∷ []
unfinished_at q (InTurn t gained f) = FromTurn q (suc t) ∷ []
unfinished_at q _ = []

-- the statements whose block is being run, and loops between two turns
abbrev pub unfolded_at : Instance → FrameStage → List Instance
unfolded_at q (Loop t m gained) = q ∷ []
unfolded_at q (InCall f) = q ∷ []
unfolded_at q (InBranch i f) = q ∷ []
unfolded_at q (InTurn t gained f) = q ∷ []
unfolded_at q (InSplit cells f) = q ∷ []
unfolded_at q _ = []

-- a statement that ended, and its ending
pub record Halt : Type 0 where
  pub path : Instance
  pub ending : Ending

-- the statements that ended
abbrev pub halted_at : Instance → FrameStage → List Halt
halted_at q (Halted ending gained) = record { path = q; ending = ending } ∷ []
halted_at q _ = []

-- the statements that are left out
abbrev pub left_out_at : Instance → FrameStage → List Instance
left_out_at q LeftOut = q ∷ []
left_out_at q _ = []

-- what went through in the whole tree, and so for the other four
abbrev pub finished : BlockTree → List Region
finished tree = from_nodes finished_at (nodes tree)

-- the unfinished tasks of the whole tree
abbrev pub unfinished : BlockTree → List Region
unfinished tree = from_nodes unfinished_at (nodes tree)

-- the statements of the whole tree whose block is being run
abbrev pub unfolded : BlockTree → List Instance
unfolded tree = from_nodes unfolded_at (nodes tree)

-- the statements of the whole tree that ended
abbrev pub halted : BlockTree → List Halt
halted tree = from_nodes halted_at (nodes tree)

-- the statements of the whole tree that are left out
abbrev pub left_out : BlockTree → List Instance
left_out tree = from_nodes left_out_at (nodes tree)

-- ---- what the tree holds

-- a statement that went through, and what it left
pub record Result : Type 0 where
  pub path : Instance
  pub left : Moment

-- what the statements that went through left
abbrev pub results_at : Instance → FrameStage → List Result
results_at q (Finished m gained) = record { path = q; left = m } ∷ []
results_at q _ = []

-- a loop before a turn, and what the turns before it left
pub record Between : Type 0 where
  pub turn : Turn
  pub left : Moment

-- the loops between two turns
abbrev pub betweens_at : Instance → FrameStage → List Between
betweens_at q (Loop t m gained) = record { turn = record { path = q; turn = t }; left = m } ∷ []
betweens_at q _ = []

-- the turns that were begun, or are the next of their loop
abbrev pub turns_at : Instance → FrameStage → List Turn
turns_at q (Loop t m gained) = record { path = q; turn = t } ∷ []
turns_at q (InTurn t gained f) = record { path = q; turn = t } ∷ []
turns_at q _ = []

-- a block being run: the statement that it is in, which of its blocks it is, and the cells that were entered with it
pub record Running : Type 0 where
  pub path : Instance
  pub inner : Inner
  pub cells : List CellName
  pub frame : BlockTree

-- the blocks being run that stand in a statement
abbrev pub running_at : Instance → FrameStage → List Running
running_at q (InCall f) = record { path = q; inner = OfCall; cells = []; frame = f } ∷ []
running_at q (InBranch i f) = record { path = q; inner = OfBranch i; cells = []; frame = f } ∷ []
running_at q (InTurn t gained f) = record { path = q; inner = OfTurn t; cells = []; frame = f } ∷ []
running_at q (InSplit cells f) =
    record { path = q; inner = OfSplit; cells = map (λ (c : CellReport). c.name) cells; frame = f } ∷ []
running_at q _ = []

-- the atomic blocks that ran, but for those inside a block that is being run
abbrev pub events_at : Instance → FrameStage → List Happened
events_at q (Task gained) = gained.events
events_at q (Loop t m gained) = gained.events
events_at q (InTurn t gained f) = gained.events
events_at q (Finished m gained) = gained.events
events_at q (Halted ending gained) = gained.events
events_at q _ = []

-- the cells of the split blocks that were entered, but for those inside a block that is being run
abbrev pub cells_at : Instance → FrameStage → List CellReport
cells_at q (Task gained) = gained.cells
cells_at q (Loop t m gained) = gained.cells
cells_at q (InTurn t gained f) = gained.cells
cells_at q (InSplit cells f) = cells
cells_at q (Finished m gained) = gained.cells
cells_at q (Halted ending gained) = gained.cells
cells_at q _ = []

-- the lines of the tasks that ended, but for those inside a block that is being run
abbrev pub lines_at : Instance → FrameStage → List TraceLine
lines_at q (Task gained) = gained.trace
lines_at q (Loop t m gained) = gained.trace
lines_at q (InTurn t gained f) = gained.trace
lines_at q (Finished m gained) = gained.trace
lines_at q (Halted ending gained) = gained.trace
lines_at q _ = []

-- all of these in the whole tree
abbrev pub results : BlockTree → List Result
results tree = from_nodes results_at (nodes tree)

-- the loops of the whole tree that are between two turns
abbrev pub betweens : BlockTree → List Between
betweens tree = from_nodes betweens_at (nodes tree)

-- the turns of the whole tree that were begun or are next
abbrev pub turns : BlockTree → List Turn
turns tree = from_nodes turns_at (nodes tree)

-- the blocks of the whole tree that are being run, but for the first one
abbrev pub running : BlockTree → List Running
running tree = from_nodes running_at (nodes tree)

-- the atomic blocks of the whole tree that ran
abbrev pub events : BlockTree → List Happened
events tree = from_nodes events_at (nodes tree)

-- the cells of the whole tree
abbrev pub cells : BlockTree → List CellReport
cells tree = from_nodes cells_at (nodes tree)

-- the lines of the whole tree
abbrev pub stage_lines : BlockTree → List TraceLine
stage_lines tree = from_nodes lines_at (nodes tree)

-- ---- the tree as observations

-- what the events answer at a path
abbrev pub answered_in : List Happened → Instance → Option Seen
answered_in [] q = None
answered_in (e ∷ es) q = if same_instance e.asking.ask.path q then Some (OfBlock e.out) else answered_in es q

-- blocks answer as the tree's events, and a cell at its end holds what it holds in the tree
abbrev pub observed : BlockTree → Query → Option Seen
observed tree (AtBlock ask) = answered_in (events tree) ask.path
observed tree (AtEnd c first) = last_in (cells tree) c
