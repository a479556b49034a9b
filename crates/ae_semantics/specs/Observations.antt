-- What is observed of blocks and cells, what a block asks, and what a run leaves beside its state.
use Rattle.std.specs.Prelude.{ℕ, List, Option}
use Rattle.ae_text.specs.declared.refusal.Spot.{Spot}
use Rattle.ae_semantics.specs.declared.report.Ending.{Ending}
use Rattle.ae_semantics.specs.declared.report.Piece.{Piece}
use Rattle.ae_rules.specs.Instances.{Instance}
use Rattle.ae_semantics.specs.Values.{Store}
use Rattle.ae_semantics.specs.Places.{CellName, Bound}

-- what a group's cell holds: its members, or the log where the group is `io`
pub data Image : Type 0 where
  OfStore : Store → Image
  OfLog : List Piece → Image

-- values by name that go into a block or come out of it, and the pieces that it appends where it uses `io`
pub record Carried : Type 0 where
  pub locals : ℕ → Option Bound
  pub stores : ℕ → Option Store
  pub pieces : Option (List Piece)

-- a block asks: where it is, with how much fuel and how deep it runs, and the values in
pub record Ask : Type 0 where
  pub path : Instance
  pub method : ℕ
  pub block : ℕ
  pub fuel : ℕ
  pub depth : ℕ
  pub ins : Carried

-- a block's answer: the values out, or its trap, or its fuel was spent
pub data Answer : Type 0 where
  Gave : Carried → Answer
  Trapped : ℕ → Spot → Answer
  Spent : Spot → Answer

-- one observation: a block's answer, or what a cell holds at the end of its split block
pub data Seen : Type 0 where
  OfBlock : Answer → Seen
  OfCell : Image → Seen

-- where an observation comes from: the atomic block at this path, or this cell at the end of its split block
pub data Origin : Type 0 where
  FromBlock : Instance → Origin
  FromCell : CellName → Origin

-- what is to be observed next: the answer of this block, or the cell, with what it held at first
pub data Query : Type 0 where
  AtBlock : Ask → Query
  AtEnd : CellName → Image → Query

-- what a run tells as it goes
pub data Mark : Type 0 where
  Ran : Instance → Spot → Mark
  Turned : Instance → ℕ → Mark
  Entered : CellName → Image → Mark
  Asked : CellName → Ask → Mark
  Used : Origin → Mark
  Stopped : Instance → Option Ending → Mark

-- what a run leaves beside its state: the log of `io`, the cell of `io` where it is split, the marks in order, and the observer
pub record Notes (W : Type 0) : Type 0 where
  pub log : List Piece
  pub cell : Option CellName
  pub marks : List Mark
  pub watch : W

-- an observer is asked, and answers or has nothing more
abbrev pub Observer : Type 0 → Type 0
Observer W = W → Query → Option (Seen × W)
