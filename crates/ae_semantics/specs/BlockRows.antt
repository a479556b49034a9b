-- A run that is under way, as a flat list of the blocks that were begun: each with how far its statements are, and what
-- they find.
use Rattle.std.specs.Prelude.{ℕ, zero, suc, nat_lt, if◌then◌else◌, List, [], ◌∷◌, ◌++◌, Option, None, Some}
use Rattle.ae_text.specs.declared.refusal.Spot.{Spot}
use Rattle.ae_rules.specs.declared.uses.Resource.TheVariants as resource
use Rattle.ae_tree.specs.Names.{io}
use Rattle.ae_tree.specs.Plain.{Action, Lines, End, Next, Code}
use Rattle.ae_rules.specs.Edges.{Uses}
use Rattle.ae_rules.specs.Blocks.{Scene, scene_uses}
use Rattle.ae_rules.specs.Instances.{Instance}
use Rattle.ae_semantics.specs.Places.{CellName}
use Rattle.ae_semantics.specs.Contexts.{after, shuts_out}
use Rattle.ae_semantics.specs.declared.report.Ending.{Ending}
use Rattle.ae_semantics.specs.declared.report.Piece.{Piece}
use Rattle.ae_semantics.specs.Runs.{Where, deeper, knowing, whole_block}
use Rattle.ae_semantics.specs.Moments.{Moment}
use Rattle.ae_semantics.specs.Entries.{Inner, OfCall, OfBranch, OfTurn, OfSplit, Entry}
use Rattle.ae_semantics.specs.Report.{CellReport}
use Rattle.ae_semantics.specs.Regions.{same_instance}
use Rattle.ae_semantics.specs.BlockTrees.{Gained}
use Rattle.ae_semantics.specs.Trails.{Passage}
use Rattle.ae_semantics.specs.Stacks.{ToDo}

-- ---- rows

-- What source order tells of a statement that ended: its ending, the log and the cell of `io` then, and how many of the
-- events and of the cells that ran inside it come before the ending.
pub record EndedAs : Type 0 where
  pub ending : Ending
  pub log : List Piece
  pub cell : Option CellName
  pub events : ℕ
  pub cells : ℕ

-- How far a statement is. It waits; it went through, with what it left; it ended; it is left out; its block, with the
-- cells of a split block, is a row of its own; it is a loop before a turn, with the fuel and the values that are left
-- for it; it is a loop whose turn is a row of its own, with the fuel before that turn; or it is a body set aside, with
-- the moment it was started with, its stack, and the values there.
pub data RowStage : Type 0 where
  Waiting : RowStage
  Finished : Moment → Gained → RowStage
  Halted : EndedAs → Gained → RowStage
  LeftOut : RowStage
  Inside : Inner → List CellReport → RowStage
  Loop : ℕ → ℕ → Moment → Gained → RowStage
  InTurn : ℕ → ℕ → Gained → RowStage
  Paused : Moment → List ToDo → Moment → Gained → RowStage

-- a block that was begun: the fuel and all else that it was entered with, and the stages of its statements, in their
-- order
pub record BlockRow : Type 0 where
  pub fuel : ℕ
  pub entry : Entry
  pub stages : List RowStage

-- the path of a row is that of its block
abbrev pub row_path : BlockRow → Instance
row_path r = r.entry.here.path

-- the row of the block at a path
abbrev pub row_at_path : List BlockRow → Instance → Option BlockRow
row_at_path [] q = None
row_at_path (r ∷ rs) q = if same_instance (row_path r) q then Some r else row_at_path rs q

-- the path of a block inside the statement at this path
abbrev pub inner_path : Instance → Inner → Instance
inner_path q OfCall = q
inner_path q (OfBranch i) = q ++ (i ∷ [])
inner_path q (OfTurn t) = q ++ (t ∷ [])
inner_path q OfSplit = q

-- the block that is a row of its own, where the statement has one
abbrev pub inner_of : RowStage → Option Inner
inner_of (Inside inner cells) = Some inner
inner_of (InTurn t fuel gained) = Some (OfTurn t)
inner_of _ = None

-- what a call or a turn leaves of the fuel
abbrev pub one_spent : ℕ → Option ℕ
one_spent zero = None
one_spent (suc f) = Some f

-- the fuel of a block inside a statement, by the depth and the fuel there; at depth 1,000 nothing is called
abbrev pub fuel_inside : Inner → ℕ → ℕ → Option ℕ
fuel_inside OfCall depth f = if nat_lt depth 1000 then one_spent f else None
fuel_inside (OfBranch i) depth f = Some f
fuel_inside (OfTurn t) depth f = one_spent f
fuel_inside OfSplit depth f = Some f

-- all statements of a block wait
abbrev pub all_waiting : Lines → List RowStage
all_waiting End = []
all_waiting (Next at a rest) = Waiting ∷ all_waiting rest

-- a block before any of its statements ran
abbrev pub fresh_row : ℕ → Entry → BlockRow
fresh_row fuel e = record { fuel = fuel; entry = e; stages = all_waiting e.lines }

-- ---- the statements of a row

-- the values of the one moment where the use shuts out others, and those of the other elsewhere
abbrev pub overlaid : Uses → Moment → Moment → Moment
overlaid u m before = record {
  state = record {
    locals = λ x. if shuts_out (u (resource.Local x)) then m.state.locals x else before.state.locals x;
    groups = λ g. if shuts_out (u (resource.Group g)) then m.state.groups g else before.state.groups g;
    result = m.state.result;
  };
  log = if shuts_out (u (resource.Group io)) then m.log else before.log;
  cell = if shuts_out (u (resource.Group io)) then m.cell else before.cell;
}

-- what there is after a statement by its stage: what it left, where it went through
abbrev pub found_after : Uses → Moment → RowStage → Moment
found_after u found (Finished m gained) = overlaid u m found
found_after u found _ = found

-- the statements that did not go through, by their numbers
abbrev pub unfinished_after : ℕ → List ℕ → RowStage → List ℕ
unfinished_after j before (Finished m gained) = before
unfinished_after j before _ = j ∷ before

-- the statements that ended or are left out
abbrev pub barred_after : ℕ → List ℕ → RowStage → List ℕ
barred_after j before (Halted e gained) = j ∷ before
barred_after j before LeftOut = j ∷ before
barred_after j before _ = before

-- A statement of a row: where it stands and what all that finished before it left, its text, its fuel, and which before
-- it did not go through, and which of these ended or are left out.
pub record RowStatement : Type 0 where
  pub passage : Passage
  pub at : Spot
  pub action : Action
  pub fuel : ℕ
  pub unfinished : List ℕ
  pub barred : List ℕ

-- the statements of a block from a number on, each with its stage
abbrev pub statements_from : Code → ℕ → Where → Scene → ℕ → Lines → List RowStage → Moment → List ℕ → List ℕ
    → List (RowStatement × RowStage)
statements_from p fuel here all j End xs found unfinished barred = []
statements_from p fuel here all j (Next at a rest) [] found unfinished barred = []
statements_from p fuel here all j (Next at a rest) (x ∷ xs) found unfinished barred = (
  record {
    passage = record { here = deeper j here; block = all; number = j; moment = found };
    at = at;
    action = a;
    fuel = fuel;
    unfinished = unfinished;
    barred = barred;
  },
  x,
) ∷ statements_from p fuel (knowing (after p here.method at a here.context) here) all (suc j) rest xs
    (found_after (scene_uses p all j) found x) (unfinished_after j unfinished x) (barred_after j barred x)

-- the statements of a row
abbrev pub row_statements : Code → BlockRow → List (RowStatement × RowStage)
row_statements p r = statements_from p r.fuel r.entry.here (whole_block r.entry.lines r.entry.here) 0 r.entry.lines
    r.stages r.entry.values [] []
