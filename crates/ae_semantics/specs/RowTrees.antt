-- The tree of a list of rows, what its rows have gained, and when rows are reached.
use Rattle.std.specs.Prelude.{ℕ, zero, suc, ℤ, not, filter, List, [], ◌∷◌, ◌++◌, length, Option}
use Rattle.std.specs.Prelude.{None, option_map}
use Rattle.std.specs.List.{flat_map, list_any}
use Rattle.ae_tree.specs.Plain.{Code}
use Rattle.ae_rules.specs.Verdict.{given}
use Rattle.ae_rules.specs.Instances.{Instance}
use Rattle.ae_semantics.specs.Places.{CellName}
use Rattle.ae_semantics.specs.declared.report.TraceLine.{TraceLine}
use Rattle.ae_semantics.specs.Observations.{Seen, Query, AtBlock, AtEnd}
use Rattle.ae_semantics.specs.Report.{CellReport, is_cell, last_in}
use Rattle.ae_semantics.specs.Entries.{Inner, OfCall, OfBranch, OfTurn, OfSplit}
use Rattle.ae_semantics.specs.BlockTrees.{Happened, Gained, BlockTree, Begun, Stages, NoMore, Then, FrameStage}
use Rattle.ae_semantics.specs.BlockTrees.{answered_in}
use Rattle.ae_semantics.specs.BlockTrees as tree
use Rattle.ae_semantics.specs.Stacks.{cells_entered_in}
use Rattle.ae_semantics.specs.BlockRows.{RowStage, Waiting, Finished, Halted, LeftOut, Inside, Loop, InTurn, Paused}
use Rattle.ae_semantics.specs.BlockRows.{BlockRow, row_at_path, inner_path}
use Rattle.ae_semantics.specs.Reached.{AreRowsRight}

-- ---- the tree

-- the stage of a statement whose block is being run
abbrev pub being_in : Inner → List CellReport → BlockTree → FrameStage
being_in OfCall cells b = tree.InCall b
being_in (OfBranch i) cells b = tree.InBranch i b
being_in (OfTurn t) cells b = tree.Waiting
being_in OfSplit cells b = tree.InSplit cells b

-- the stage of the statement at a path, by the trees of the blocks inside
abbrev pub stage_as : (Instance → Option BlockTree) → Instance → RowStage → FrameStage
stage_as blocks q Waiting = tree.Waiting
stage_as blocks q (Finished m gained) = tree.Finished m gained
stage_as blocks q (Halted e gained) = tree.Halted e.ending gained
stage_as blocks q LeftOut = tree.LeftOut
stage_as blocks q (Inside inner cells) = given (blocks (inner_path q inner)) tree.Waiting (being_in inner cells)
stage_as blocks q (Loop t fuel now gained) = tree.Loop t now gained
stage_as blocks q (InTurn t fuel gained) = given (blocks (q ++ (t ∷ []))) tree.Waiting (tree.InTurn t gained)
stage_as blocks q (Paused start stack now gained) = tree.Task gained

-- the stages of a block at a path, from a number on
abbrev pub stages_as : (Instance → Option BlockTree) → Instance → ℕ → List RowStage → Stages
stages_as blocks q j [] = NoMore
stages_as blocks q j (x ∷ xs) = Then (stage_as blocks (q ++ (j ∷ [])) x) (stages_as blocks q (suc j) xs)

-- the tree of the block at a path, with so many blocks in one another at most
abbrev pub block_tree : List BlockRow → ℕ → Instance → Option BlockTree
block_tree rows zero q = None
block_tree rows (suc n) q = option_map
    (λ (r : BlockRow). Begun r.entry.values (stages_as (block_tree rows n) q 0 r.stages)) (row_at_path rows q)

-- the tree of the rows; there are no more blocks in one another than rows
abbrev pub tree_of_rows : List BlockRow → Option BlockTree
tree_of_rows rows = block_tree rows (length rows) []

-- ---- what the rows have gained

-- nothing ran inside
abbrev pub nothing_gained : Gained
nothing_gained = record { events = []; cells = []; trace = [] }

-- what ran inside a statement, but for what is in rows of their own
abbrev pub gained_in : RowStage → Gained
gained_in (Finished m gained) = gained
gained_in (Halted e gained) = gained
gained_in (Loop t fuel now gained) = gained
gained_in (InTurn t fuel gained) = gained
gained_in (Paused start stack now gained) = gained
gained_in _ = nothing_gained

-- the cells of split blocks that are still being run
abbrev pub still_used : RowStage → List CellName
still_used (Paused start stack now gained) = cells_entered_in stack
still_used _ = []

-- the cells of a split block that is a row of its own
abbrev pub cells_of_row : RowStage → List CellReport
cells_of_row (Inside inner cells) = cells
cells_of_row _ = []

-- the stages of all rows
abbrev pub all_stages : List BlockRow → List RowStage
all_stages rows = flat_map (λ (r : BlockRow). r.stages) rows

-- the atomic blocks that ran
abbrev pub row_events : List BlockRow → List Happened
row_events rows = flat_map (λ (x : RowStage). (gained_in x).events) (all_stages rows)

-- the cells that were entered
abbrev pub row_cells : List BlockRow → List CellReport
row_cells rows = flat_map (λ (x : RowStage). cells_of_row x ++ (gained_in x).cells) (all_stages rows)

-- the lines of the tasks that ended
abbrev pub row_lines : List BlockRow → List TraceLine
row_lines rows = flat_map (λ (x : RowStage). (gained_in x).trace) (all_stages rows)

-- the cells that are not used any more
abbrev pub cells_left_by : RowStage → List CellReport
cells_left_by x = filter (λ (c : CellReport). not (list_any (λ n. is_cell n c) (still_used x))) (gained_in x).cells

-- Blocks answer as the rows' events. The cell of a split block is observed once that block was left, and so answers
-- only come to those there are.
abbrev pub seen_in : List BlockRow → Query → Option Seen
seen_in rows (AtBlock ask) = answered_in (row_events rows) ask.path
seen_in rows (AtEnd c first) = last_in (flat_map cells_left_by (all_stages rows)) c

-- the rows are right by their own answers
abbrev pub Reached : Code → List ℤ → ℕ → List BlockRow → Type 0
Reached p ints fuel rows = AreRowsRight p ints fuel (seen_in rows) rows
