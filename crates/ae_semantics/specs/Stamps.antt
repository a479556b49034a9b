-- When atomic blocks ran, and tasks began and ended, of a tree or of rows: their stamps, and the histories of the
-- cells.
use Rattle.std.specs.Prelude.{◌≡◌, ◌<◌, ◌↔◌, ℕ, ℤ, true, List, ◌++◌, map, Contains, Some}
use Rattle.ae_tree.specs.Names.{main}
use Rattle.ae_tree.specs.Plain.{Definition, Code}
use Rattle.ae_rules.specs.Lookups.{top_called}
use Rattle.ae_rules.specs.Instances.{Ordered}
use Rattle.ae_rules.specs.Paths.{comes_before}
use Rattle.ae_semantics.specs.declared.report.TraceLine.{TraceLine}
use Rattle.ae_semantics.specs.Report.{Event, CellReport, AllPairs, AllDiffer, Leads, line_stamps, KeepInTime}
use Rattle.ae_semantics.specs.BlockTrees.{Happened, BlockTree, fresh, events, cells, stage_lines}
use Rattle.ae_semantics.specs.BlockRows.{BlockRow}
use Rattle.ae_semantics.specs.RowTrees.{row_events, row_cells, row_lines}

-- all stamps of events and lines
abbrev pub stamps_of : List Happened → List TraceLine → List ℕ
stamps_of es ls = map (λ (e : Happened). e.stamp) es ++ line_stamps ls

-- an event of the tree as one of a report; where it leads does not ask for the place of its cell
abbrev pub as_event : Happened → Event
as_event e = record { cell = 0; path = e.asking.ask.path; ask = e.asking.ask; out = e.out; stamp = e.stamp }

-- these events of the cell, by rising stamp, lead from what it held at first to what it holds
pub record HasHistory (p : Code) (es : List Happened) (c : CellReport) : Type 0 where
  pub history : List Happened
  pub its_own : (e : Happened) → Contains history e ↔ (Contains es e × (e.asking.cell ≡ c.name))
  pub rising : AllPairs (λ (d e : Happened). d.stamp < e.stamp) history
  pub leads : Leads p (map as_event history) c.first c.last

-- The stamps differ and are below the clock. Events that keep their order have rising stamps, tasks that keep it do not
-- overlap, and each cell has its history.
pub record AreStamped (p : Code) (clock : ℕ) (es : List Happened) (cs : List CellReport) (ls : List TraceLine)
    : Type 0 where
  pub differ : AllDiffer (stamps_of es ls)
  pub below : (s : ℕ) → Contains (stamps_of es ls) s → s < clock
  pub ordered : (d e : Happened) → Contains es d → Contains es e
      → Ordered p d.asking.ask.path e.asking.ask.path → d.stamp < e.stamp
  pub spans : (l : TraceLine) → Contains ls l → l.began < l.ended
  pub keeps : (l m : TraceLine) → Contains ls l → Contains ls m → comes_before l.path m.path ≡ true
      → KeepInTime p l m
  pub histories : (c : CellReport) → Contains cs c → HasHistory p es c

-- the tree is stamped so
abbrev pub IsStamped : Code → ℕ → BlockTree → Type 0
IsStamped p clock tree = AreStamped p clock (events tree) (cells tree) (stage_lines tree)

-- and so is a list of rows
abbrev pub AreRowsStamped : Code → ℕ → List BlockRow → Type 0
AreRowsStamped p clock rows = AreStamped p clock (row_events rows) (row_cells rows) (row_lines rows)

-- in every program with a `main` the tree before anything ran is stamped, whatever the clock
abbrev pub FreshIsStamped : Type 0
FreshIsStamped = (p : Code) (m : Definition) (ints : List ℤ) (clock : ℕ) → top_called p main ≡ Some m
    → (tree : BlockTree) × (fresh p ints ≡ Some tree) × IsStamped p clock tree
