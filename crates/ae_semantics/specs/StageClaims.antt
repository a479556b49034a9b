-- What the stages of rows say: each is what its statement does from what it finds.
use Rattle.std.specs.Prelude.{◌≡◌, ◌⊎◌, ℕ, true, is_some, List, [], ◌∷◌, map, take, Option, Some}
use Rattle.std.specs.Prelude.{Contains, ⊤}
use Rattle.ae_tree.specs.Plain.{Expression, Lines, Code}
use Rattle.ae_tree.specs.Plain.{Action, Repeats, Splits}
use Rattle.ae_rules.specs.declared.uses.Resource.{Resource}
use Rattle.ae_rules.specs.declared.uses.Resource.TheVariants as resource
use Rattle.ae_tree.specs.Names.{io}
use Rattle.ae_rules.specs.Edges.{IsConflict}
use Rattle.ae_rules.specs.Blocks.{Scene, scene_uses}
use Rattle.ae_rules.specs.Instances.{Instance}
use Rattle.ae_semantics.specs.Places.{Fine, CellName, State}
use Rattle.ae_semantics.specs.Contexts.{shuts_out}
use Rattle.ae_semantics.specs.Observations.{OfBlock, OfCell, Seen, AtBlock, AtEnd, Query, Mark, Notes}
use Rattle.ae_semantics.specs.Runs.{Run, Went, Ends, Where, Machine}
use Rattle.ae_semantics.specs.Blocks.{all_go_away}
use Rattle.ae_semantics.specs.Means.{notes_of, stops_at, First, firsts_in, asks_in}
use Rattle.ae_semantics.specs.Atom.{by_query, flow_machine}
use Rattle.ae_semantics.specs.Report.{CellReport, first_of}
use Rattle.ae_semantics.specs.Gathering.{doing, Extends}
use Rattle.ae_semantics.specs.Moments.{Moment, moment_of, notes_from, AgreesOnUsed, AgreesOnChanged}
use Rattle.ae_semantics.specs.Entries.{Inner, OfTurn, OfSplit, entry}
use Rattle.ae_semantics.specs.BlockTrees.{Happened, Gained}
use Rattle.ae_semantics.specs.Unfolding.{uses_of}
use Rattle.ae_semantics.specs.Stacks.{ToDo, TheTurns, done_all, cells_entered_in}
use Rattle.ae_semantics.specs.BlockRows.{EndedAs}
use Rattle.ae_semantics.specs.BlockRows.{BlockRow, row_at_path, inner_path, fuel_inside, RowStatement}

-- ---- which statements may run beside each other

-- both use a resource, in ways that do not go together
abbrev pub AreInConflict : Code → Scene → ℕ → ℕ → Type 0
AreInConflict p all i j = (r : Resource) × IsConflict (scene_uses p all i r) (scene_uses p all j r)

-- no unfinished statement before it is in conflict with it
abbrev pub IsUnhindered : Code → RowStatement → Type 0
IsUnhindered p x = (i : ℕ) → Contains x.unfinished i → AreInConflict p x.passage.block i x.passage.number → ⊥

-- one that ended or is left out is in conflict with it
abbrev pub IsBehindBarred : Code → RowStatement → Type 0
IsBehindBarred p x = (i : ℕ) × Contains x.barred i × AreInConflict p x.passage.block i x.passage.number

-- ---- answers

-- the block is answered so
abbrev pub IsAnsweredSo : (Query → Option Seen) → Happened → Type 0
IsAnsweredSo table e = table (AtBlock e.asking.ask) ≡ Some (OfBlock e.out)

-- the cell is one of those whose split block is still being run, or it is observed as it was left
abbrev pub IsOpenOrSeen : (Query → Option Seen) → List CellName → CellReport → Type 0
IsOpenOrSeen table still c = Contains still c.name ⊎ (table (AtEnd c.name c.first) ≡ Some (OfCell c.last))

-- What was gained is what these marks tell: the blocks asked, as they were answered, and the cells entered. Of the
-- cells these are still being used.
pub record TellsGained (table : Query → Option Seen) (still : List CellName) (marks : List Mark) (gained : Gained)
    : Type 0 where
  pub asked : asks_in marks ≡ map (λ (e : Happened). e.asking) gained.events
  pub entered : firsts_in marks ≡ map first_of gained.cells
  pub answers : (e : Happened) → Contains gained.events e → IsAnsweredSo table e
  pub ends : (c : CellReport) → Contains gained.cells c → IsOpenOrSeen table still c

-- ---- what a stage says

-- what the statement does from these values
abbrev pub run_from : Machine ⊤ → RowStatement → Moment → Run ⊤
run_from m x values = doing m x.fuel x.passage.here x.at x.action values.state (notes_from values)

-- the values agree with what the statement finds, on all that it uses
abbrev pub AreFound : Code → RowStatement → Moment → Type 0
AreFound p x values = AgreesOnUsed (uses_of p x.passage) values x.passage.moment

-- from some such values the statement goes through, asks and enters this and leaves this
pub record GoesThrough (p : Code) (table : Query → Option Seen) (x : RowStatement) (m : Moment) (gained : Gained)
    : Type 0 where
  pub values : Moment
  pub found : AreFound p x values
  pub state : State
  pub notes : Notes ⊤
  pub runs : run_from (stops_at p (by_query table)) x values ≡ Went state notes
  pub left : AgreesOnChanged (uses_of p x.passage) m (moment_of state notes)
  pub told : TellsGained table [] notes.marks gained

-- past what stopped these blocks are asked and these cells entered
pub record IsAskedPast (marks : List Mark) (gained : Gained) : Type 0 where
  pub asked : (e : Happened) → Contains gained.events e → Contains (asks_in marks) e.asking
  pub entered : (c : CellReport) → Contains gained.cells c → Contains (firsts_in marks) (first_of c)

-- From some such values the statement ends so, and asks and enters the first of this up to there. All of it is asked
-- and entered on the way past what stopped, by every table with at least these answers: blocks inside may have run on
-- behind the ending.
pub record EndsSo (p : Code) (table : Query → Option Seen) (x : RowStatement) (e : EndedAs) (gained : Gained)
    : Type 0 where
  pub values : Moment
  pub found : AreFound p x values
  pub notes : Notes ⊤
  pub runs : run_from (stops_at p (by_query table)) x values ≡ Ends e.ending notes
  pub log : shuts_out (uses_of p x.passage (resource.Group io)) ≡ true → e.log ≡ notes.log
  pub cell : is_some (uses_of p x.passage (resource.Group io)) ≡ true → e.cell ≡ notes.cell
  pub asked : asks_in notes.marks ≡ take e.events (map (λ (h : Happened). h.asking) gained.events)
  pub entered : firsts_in notes.marks ≡ take e.cells (map first_of gained.cells)
  pub answers : (h : Happened) → Contains gained.events h → IsAnsweredSo table h
  pub past : (more : Query → Option Seen) → Extends table more
      → IsAskedPast (notes_of (run_from (flow_machine p more) x values)).marks gained

-- what the stack does from this moment, where these marks were made before
abbrev pub stack_from : Machine ⊤ → List ToDo → Moment → List Mark → Run ⊤
stack_from m stack now marks = done_all m stack now.state
    (record { log = now.log; cell = now.cell; marks = marks; watch = tt })

-- By every table with at least these answers, and by both ways through blocks, the statement does from these values
-- what the stack does from now on, after these marks. By this table alone both might stop for want of the same answer.
abbrev pub ComesTo : Code → (Query → Option Seen) → RowStatement → Moment → List ToDo → Moment → List Mark → Type 0
ComesTo p table x values stack now marks = (more : Query → Option Seen) → Extends table more
    → (run_from (stops_at p (by_query more)) x values ≡ stack_from (stops_at p (by_query more)) stack now marks)
    × (run_from (flow_machine p more) x values ≡ stack_from (flow_machine p more) stack now marks)

-- from these values, which are such, the statement comes to this stack, and has asked and entered this
pub record RestsAt (p : Code) (table : Query → Option Seen) (x : RowStatement) (values : Moment) (stack : List ToDo)
    (now : Moment) (gained : Gained) : Type 0 where
  pub found : AreFound p x values
  pub marks : List Mark
  pub comes : ComesTo p table x values stack now marks
  pub told : TellsGained table (cells_entered_in stack) marks gained

-- The statement is a loop, which comes to this turn with this fuel from some such values. No turn before it is
-- remembered.
abbrev pub IsBeforeTurn : Code → (Query → Option Seen) → RowStatement → ℕ → ℕ → Moment → Gained → Type 0
IsBeforeTurn p table x t fuel now gained = (e : Expression) × (n : ℕ) × (b : Lines) × (values : Moment)
    × (x.action ≡ Repeats e n b)
    × RestsAt p table x values (TheTurns fuel x.passage.here t x.at e b ∷ []) now gained

-- ---- blocks inside statements

-- the cells that a split block is entered with, and what they hold then
abbrev pub cells_at_entry : Where → Moment → Action → Inner → List First
cells_at_entry here m (Splits gs n b) OfSplit =
    firsts_in (notes_of (all_go_away here gs m.state (notes_from m))).marks
cells_at_entry here m a inner = []

-- the row is this block of the statement, entered with these values
abbrev pub IsEnteredWith : Code → RowStatement → ℕ → Moment → Inner → BlockRow → Type 0
IsEnteredWith p x fuel values inner r = (entry p x.passage.here values x.action inner ≡ Fine r.entry)
    × (fuel_inside inner x.passage.here.depth fuel ≡ Some r.fuel)

-- it is entered so from some values as the statement finds them, and so are the cells
pub record IsRowInside (p : Code) (x : RowStatement) (inner : Inner) (cells : List CellReport) (r : BlockRow)
    : Type 0 where
  pub values : Moment
  pub found : AreFound p x values
  pub enters : IsEnteredWith p x x.fuel values inner r
  pub cells_are : map first_of cells ≡ cells_at_entry x.passage.here values x.action inner

-- the block inside is there as a row, which has this
abbrev pub IsRowThere : List BlockRow → Instance → (BlockRow → Type 0) → Type 0
IsRowThere rows q P = (r : BlockRow) × (row_at_path rows q ≡ Some r) × P r

-- a turn is a row, but no other block of a loop is
abbrev pub IsInBlock : Code → List BlockRow → RowStatement → Inner → List CellReport → Type 0
IsInBlock p rows x (OfTurn t) cells = ⊥
IsInBlock p rows x inner cells = IsRowThere rows (inner_path x.passage.here.path inner) (IsRowInside p x inner cells)

-- the row is this turn of the loop
abbrev pub IsRowOfTurn : Code → (Query → Option Seen) → RowStatement → ℕ → ℕ → Gained → BlockRow → Type 0
IsRowOfTurn p table x t fuel gained r = IsBeforeTurn p table x t fuel r.entry.values gained
    × IsEnteredWith p x fuel r.entry.values (OfTurn t) r
