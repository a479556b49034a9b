-- What a report of a run has to be: its events in a legal order, its ending and bytes explained by the meaning, and its lines those of the instances that ran.
use Rattle.std.specs.Prelude.{◌≡◌, ◌≢◌, ◌<◌, ◌⊎◌, ◌↔◌, ℕ, suc, ◌-◌, nat_eq, ℤ, Bool, true, false, ◌&&◌, not}
use Rattle.std.specs.Prelude.{if◌then◌else◌, List, [], ◌∷◌, ◌++◌, map, take, drop, length, slice_get, Option, None}
use Rattle.std.specs.Prelude.{Some, Contains}
use Rattle.ae_tree.specs.Plain.{Code}
use Rattle.ae_rules.specs.Verdict.{given}
use Rattle.ae_rules.specs.Edges.{IsRising}
use Rattle.ae_rules.specs.Instances.{Instance, Ordered, Conflict}
use Rattle.ae_rules.specs.Paths.{comes_before, is_prefix_of, later_of, is_simple_at}
use Rattle.ae_semantics.specs.Places.{CellName}
use Rattle.ae_semantics.specs.declared.report.TraceLine.{TraceLine}
use Rattle.ae_semantics.specs.declared.report.Ending.{Ending}
use Rattle.ae_semantics.specs.declared.report.Ending.TheVariants.{Done, Trap, Fuel}
use Rattle.ae_semantics.specs.declared.report.Piece.{Piece}
use Rattle.ae_semantics.specs.Observations.{Image, OfLog, Ask, Answer, Seen, OfBlock, OfCell, Origin, FromBlock}
use Rattle.ae_semantics.specs.Observations.{FromCell, Query, AtBlock, AtEnd}
use Rattle.ae_semantics.specs.Means.{At, Turn, First, Asking, Meant, mean, bytes}
use Rattle.ae_semantics.specs.Atom.{atom, part}
use Rattle.ae_semantics.specs.Regions.{same_instance, Within, FromTurn, lies_in, path_of}

-- ---- a report

-- an atomic block that ran: its cell by its place among the report's cells, what it asked and answered, and its stamp
pub record Event : Type 0 where
  pub cell : ℕ
  pub path : Instance
  pub ask : Ask
  pub out : Answer
  pub stamp : ℕ

-- the cell of a split block that was entered, with what it held at first and at last
pub record CellReport : Type 0 where
  pub name : CellName
  pub first : Image
  pub last : Image

-- what is told of a run: its ending and its bytes, its events and how many of them are past, their order, the cells, and the trace
pub record Report : Type 0 where
  pub ending : Ending
  pub out : List ℕ
  pub events : List Event
  pub past : ℕ
  pub order : List ℕ
  pub cells : List CellReport
  pub trace : List TraceLine

-- ---- lists

-- each thing of a list stands in this relation to each after it
abbrev pub AllPairs : {A : Type 0} → (A → A → Type 0) → List A → Type 0
AllPairs rel [] = Unit {0}
AllPairs rel (x ∷ xs) = ((y : _) → Contains xs y → rel x y) × AllPairs rel xs

-- the second list has those of the first that pass, in their order
abbrev pub Picks : {A : Type 0} → (A → Type 0) → List A → List A → Type 0
Picks passes [] ys = ys ≡ []
Picks passes (x ∷ xs) ys = (passes x × ((rest : List _) × (ys ≡ x ∷ rest) × Picks passes xs rest))
    ⊎ ((passes x → ⊥) × Picks passes xs ys)

-- ---- observations in source order

-- an observation, and where it comes from
pub record Item : Type 0 where
  pub from : Origin
  pub seen : Seen

-- the path of the block, or of the cell's split block
abbrev pub origin_path : Origin → Instance
origin_path (FromBlock q) = q
origin_path (FromCell c) = c.path

-- the observation is that of a cell
abbrev pub is_of_cell : Origin → Bool
is_of_cell (FromBlock q) = false
is_of_cell (FromCell c) = true

-- in source order, where a cell comes after all that lies in its split block
abbrev pub origin_before : Origin → Origin → Bool
origin_before a b = if is_prefix_of (origin_path a) (origin_path b) then not (is_of_cell a)
    else (if is_prefix_of (origin_path b) (origin_path a) then is_of_cell b else comes_before (origin_path a)
    (origin_path b))

-- an observation put in its place among sorted ones
abbrev pub inserted : Item → List Item → List Item
inserted x [] = x ∷ []
inserted x (y ∷ ys) = if origin_before y.from x.from then y ∷ inserted x ys else x ∷ y ∷ ys

-- observations in source order
abbrev pub sorted : List Item → List Item
sorted [] = []
sorted (x ∷ xs) = inserted x (sorted xs)

-- the answer of an event
abbrev pub event_item : Event → Item
event_item e = record { from = FromBlock e.path; seen = OfBlock e.out }

-- what a cell holds at last
abbrev pub cell_item : CellReport → Item
cell_item c = record { from = FromCell c.name; seen = OfCell c.last }

-- the answers of the events and what the cells hold at last, in source order; the cells of one block in written order
abbrev pub items : Report → List Item
items r = sorted (map event_item r.events ++ map cell_item r.cells)

-- the observations of a report, in source order
abbrev pub observations : Report → List Seen
observations r = map (λ (x : Item). x.seen) (items r)

-- ---- observations by what is asked

-- the answer of the event at this path
abbrev pub answer_in : List Event → Instance → Option Seen
answer_in [] q = None
answer_in (e ∷ es) q = if same_instance e.path q then Some (OfBlock e.out) else answer_in es q

-- the cell has this name
abbrev pub is_cell : CellName → CellReport → Bool
is_cell c x = same_instance x.name.path c.path && nat_eq x.name.group c.group

-- what the cell of this name holds at last
abbrev pub last_in : List CellReport → CellName → Option Seen
last_in [] c = None
last_in (x ∷ xs) c = if is_cell c x then Some (OfCell x.last) else last_in xs c

-- a report as observations by what is asked
abbrev pub by_report : Report → Query → Option Seen
by_report r (AtBlock ask) = answer_in r.events ask.path
by_report r (AtEnd c first) = last_in r.cells c

-- what is observed, or else what there was at first
abbrev pub or_first : Option Seen → Image → Option Seen
or_first None first = Some (OfCell first)
or_first (Some x) first = Some x

-- a split block that has no cell in the report ends with what its groups held where it was entered
abbrev pub by_report_or_first : Report → Query → Option Seen
by_report_or_first r (AtBlock ask) = answer_in r.events ask.path
by_report_or_first r (AtEnd c first) = or_first (last_in r.cells c) first

-- the meaning of a report's observations in source order, and the meaning past what stopped by their paths
abbrev pub mean_of : Code → List ℤ → ℕ → Report → Meant
mean_of p ints fuel r = mean p ints fuel (observations r)

-- the meaning past what stopped, with the observations of the report
abbrev pub part_of_report : Code → List ℤ → ℕ → Report → Meant
part_of_report p ints fuel r = part p ints fuel (by_report r)

-- ---- legal order

-- the stamps of events
abbrev pub stamps : List Event → List ℕ
stamps es = map (λ (e : Event). e.stamp) es

-- no number stands twice
abbrev pub AllDiffer : List ℕ → Type 0
AllDiffer xs = AllPairs (λ m n. m ≢ n) xs

-- a block leads from an image to the next, and its answer is what it gives
pub record LeadsTo (p : Code) (e : Event) (before after : Image) : Type 0 where
  pub image : (atom p e.ask before []).image ≡ after
  pub out : (atom p e.ask before []).out ≡ Some e.out

-- the events of a cell, in order
abbrev pub of_cell : ℕ → List Event → List Event
of_cell c [] = []
of_cell c (e ∷ es) = if nat_eq e.cell c then e ∷ of_cell c es else of_cell c es

-- events lead from the one image to the other, each from where the one before it led
abbrev pub Leads : Code → List Event → Image → Image → Type 0
Leads p [] first last = first ≡ last
Leads p (e ∷ es) first last = (next : Image) × LeadsTo p e first next × Leads p es next last

-- the events at these places, in this order
abbrev pub picked : List Event → List ℕ → List Event
picked es [] = []
picked es (i ∷ is) = given (slice_get es i) (picked es is) (λ e. e ∷ picked es is)

-- the order of the events, by their paths: places in a list of events tell it of one report alone
abbrev pub order_paths : Report → List Instance
order_paths r = map (λ (e : Event). e.path) (picked r.events r.order)

-- The order holds each event once, by rising stamps that differ. The events of each cell lead from what it held at first to what it
-- holds at last, and events that keep their order have rising stamps.
pub record Legal (p : Code) (r : Report) : Type 0 where
  pub differ : AllDiffer (stamps r.events)
  pub places : (i : ℕ) → i < length r.events ↔ Contains r.order i
  pub once : AllDiffer r.order
  pub rises : IsRising (stamps (picked r.events r.order))
  pub leads : (i : ℕ) (c : CellReport) → slice_get r.cells i ≡ Some c
      → Leads p (of_cell i (picked r.events r.order)) c.first c.last
  pub ordered : (d e : Event) → Contains r.events d → Contains r.events e → Ordered p d.path e.path → d.stamp < e.stamp

-- ---- explained

-- the path of a loop from a turn on
abbrev pub turn_path : Turn → Instance
turn_path x = path_of (FromTurn x.path x.turn)

-- the last of these paths, if there is one
abbrev pub last_path : List Instance → Instance
last_path [] = []
last_path (q ∷ []) = q
last_path (q ∷ r ∷ qs) = last_path (r ∷ qs)

-- what a run began: the statements that ran, and the turns whose condition it evaluated
abbrev pub began : Meant → List Instance
began m = map (λ (x : At). x.path) m.ran ++ map turn_path m.turns

-- Where a run ended: at the last thing that it began, which is a statement, or the turn of a loop whose condition it evaluated.
abbrev pub ended_at : Meant → Instance
ended_at m = later_of (last_path (map (λ (x : At). x.path) m.ran)) (last_path (map turn_path m.turns))

-- the events that are not past
abbrev pub used_events : Report → List Event
used_events r = take (length r.events - r.past) r.events

-- the events past the ending
abbrev pub past_events : Report → List Event
past_events r = drop (length r.events - r.past) r.events

-- what an event asks is for this cell
abbrev pub asking_of : Report → Event → Option Asking
asking_of r e = given (slice_get r.cells e.cell) None (λ c. Some (record { cell = c.name; ask = e.ask }))

-- what each of these events asks
abbrev pub event_askings : Report → List Event → List (Option Asking)
event_askings r es = map (asking_of r) es

-- a cell with what it held at first
abbrev pub first_of : CellReport → First
first_of c = record { cell = c.name; image = c.first }

-- a past event lies in the split block of a cell, or is ordered after it
abbrev pub Concerns : Code → CellName → Event → Type 0
Concerns p c e = (is_prefix_of c.path e.path ≡ true) ⊎ Ordered p c.path e.path

-- a past event concerns the cell
abbrev pub ConcernsSome : Code → Report → CellName → Type 0
ConcernsSome p r c = (e : Event) × Contains (past_events r) e × Concerns p c e

-- what is entered past the ending counts as entered where the meaning enters it too, or a past event concerns it
abbrev pub IsReported : Code → List ℤ → ℕ → Report → First → Type 0
IsReported p ints fuel r x = Contains (mean_of p ints fuel r).firsts x ⊎ ConcernsSome p r x.cell

-- the pieces that a block appended to its group's log
abbrev pub appended : Image → Image → List Piece
appended (OfLog old) (OfLog new) = drop (length old) new
appended _ _ = []

-- the event is not past
abbrev pub is_used : Report → Event → Bool
is_used r e = given (answer_in (used_events r) e.path) false (λ x. true)

-- the pieces, where the test holds
abbrev pub pieces_if : Bool → List Piece → List Piece
pieces_if true pieces = pieces
pieces_if false pieces = []

-- the pieces of the used events among those of a cell, which lead on from this image
abbrev pub used_pieces : Code → Report → List Event → Image → List Piece
used_pieces p r [] image = []
used_pieces p r (e ∷ es) image =
    let next : Image = (atom p e.ask image []).image in pieces_if (is_used r e) (appended image next)
    ++ used_pieces p r es next

-- the pieces that used events appended to the cell of this name
abbrev pub pieces_from : Code → Report → CellName → ℕ → List CellReport → List Piece
pieces_from p r c i [] = []
pieces_from p r c i (x ∷ xs) = if is_cell c x
    then used_pieces p r (of_cell i (picked r.events r.order)) x.first
    else pieces_from p r c (suc i) xs

-- the pieces of the cell of `io`, where `io` is split at the end, in the order of the cell
abbrev pub io_pieces : Code → Report → Meant → List Piece
io_pieces p r m = given m.cell [] (λ c. pieces_from p r c 0 r.cells)

-- the events are in source order, each at the path of what it asks, and of one of the report's cells
pub record AreEvents (r : Report) : Type 0 where
  pub in_order : AllPairs (λ d e. comes_before d.path e.path ≡ true) r.events
  pub own_path : (e : Event) → Contains r.events e → e.ask.path ≡ e.path
  pub of_a_cell : (e : Event) → Contains r.events e → e.cell < length r.cells

-- the observations that the meaning uses are the first ones of the report, and what it asks is what the events before the past ones ask
pub record AreUsed (m : Meant) (r : Report) : Type 0 where
  pub from : m.used ≡ take (length m.used) (map (λ (x : Item). x.from) (items r))
  pub asks : map Some m.asked ≡ event_askings r (used_events r)

-- the past events come after the ending, and where the program went through there are none
pub record ArePast (m : Meant) (r : Report) : Type 0 where
  pub within : r.past < suc (length r.events)
  pub later : (e : Event) → Contains (past_events r) e → comes_before (ended_at m) e.path ≡ true
  pub none : r.ending ≡ Done → r.past ≡ 0

-- The meaning with the report's observations ends as the report says. It uses the first of them, and the events behind these are past its
-- ending; what each event asks, the meaning past what stopped asks too. The cells are those of the split blocks that count as entered,
-- in the order in which the meaning past what stopped enters them, each with what it held then. The order is legal, and the bytes are the meaning's.
pub record Explained (p : Code) (ints : List ℤ) (fuel : ℕ) (r : Report) : Type 0 where
  pub ending : (mean_of p ints fuel r).ending ≡ Some r.ending
  pub events : AreEvents r
  pub used : AreUsed (mean_of p ints fuel r) r
  pub past : ArePast (mean_of p ints fuel r) r
  pub asked : (e : Event) (x : Asking) → Contains r.events e → asking_of r e ≡ Some x
      → Contains (part_of_report p ints fuel r).asked x
  pub cells : Picks (IsReported p ints fuel r) (part_of_report p ints fuel r).firsts (map first_of r.cells)
  pub legal : Legal p r
  pub out : r.out ≡ bytes (mean_of p ints fuel r) (io_pieces p r (mean_of p ints fuel r))

-- ---- traced

-- the meaning past what stopped, where split blocks without a cell in the report end as they were entered
abbrev pub traced_part : Code → List ℤ → ℕ → Report → Meant
traced_part p ints fuel r = part p ints fuel (by_report_or_first r)

-- a line covers what lies at its path or below it, and a loop from a turn on also what lies in later turns
abbrev pub Covers : Meant → TraceLine → Instance → Type 0
Covers m l q = (lies_in (Within l.path) q ≡ true)
    ⊎ ((x : Turn) × Contains m.turns x × (l.path ≡ turn_path x) × (lies_in (FromTurn x.path x.turn) q ≡ true))

-- the run ran the line's instance, or evaluated the condition of its turn
abbrev pub IsLineOf : Meant → TraceLine → Type 0
IsLineOf m l = Contains m.ran (record { path = l.path; spot = l.at })
    ⊎ ((x : Turn) × Contains m.turns x × (l.path ≡ turn_path x)
    × Contains m.ran (record { path = x.path; spot = l.at }))

-- the instance comes after the ending, which is not the end of the program
abbrev pub IsLater : Meant → Ending → Instance → Type 0
IsLater m Done q = ⊥
IsLater m (Trap code at) q = comes_before (ended_at m) q ≡ true
IsLater m (Fuel at) q = comes_before (ended_at m) q ≡ true

-- the stamps of lines, began and ended
abbrev pub line_stamps : List TraceLine → List ℕ
line_stamps [] = []
line_stamps (l ∷ ls) = l.began ∷ l.ended ∷ line_stamps ls

-- the paths keep their order in time
abbrev pub KeepInTime : Code → TraceLine → TraceLine → Type 0
KeepInTime p l m = (Ordered p l.path m.path ⊎ Conflict p l.path m.path) → l.ended < m.began

-- The lines are those of instances that ran, in source order, each covered once and each simple one covered. Their stamps differ from
-- each other and from those of the events, and lines that keep their order do not overlap.
pub record Traced (p : Code) (ints : List ℤ) (fuel : ℕ) (r : Report) : Type 0 where
  pub differ : AllDiffer (line_stamps r.trace ++ stamps r.events)
  pub spans : (l : TraceLine) → Contains r.trace l → l.began < l.ended
  pub once : AllPairs (λ (l m : TraceLine). (q : Instance) → Covers (traced_part p ints fuel r) l q
      → Covers (traced_part p ints fuel r) m q → ⊥) r.trace
  pub keeps : AllPairs (KeepInTime p) r.trace
  pub all_run : (x : At) → Contains (mean_of p ints fuel r).ran x → is_simple_at p x.path ≡ true
      → (l : TraceLine) × Contains r.trace l × Covers (traced_part p ints fuel r) l x.path
  pub run_only : (l : TraceLine) → Contains r.trace l → IsLineOf (traced_part p ints fuel r) l
  pub meant : (l : TraceLine) → Contains r.trace l → IsLater (mean_of p ints fuel r) r.ending l.path
      ⊎ IsLineOf (mean_of p ints fuel r) l
  pub rising : AllPairs (λ (l m : TraceLine). comes_before l.path m.path ≡ true) r.trace
