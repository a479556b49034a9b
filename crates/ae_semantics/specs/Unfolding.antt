-- When a tree of the blocks that were begun stands for the meaning past what stopped.
use Rattle.ae_rules.specs.Edges.{Uses}
use Rattle.std.specs.Prelude.{◌≡◌, ◌≢◌, ◌⊎◌, ℕ, zero, suc, ℤ, true, if◌then◌else◌, List, [], ◌∷◌, ◌++◌, map, Option}
use Rattle.std.specs.Prelude.{None, Some, Contains}
use Rattle.ae_text.specs.declared.refusal.Spot.{Spot}
use Rattle.ae_tree.specs.Limits.{statement_count}
use Rattle.ae_rules.specs.Uses.{statement_at}
use Rattle.ae_tree.specs.Plain.{Code}
use Rattle.ae_rules.specs.Verdict.{given}
use Rattle.ae_rules.specs.Blocks.{scene_uses}
use Rattle.ae_semantics.specs.Places.{Outcome, Fine, Lacks}
use Rattle.ae_semantics.specs.Moments.{Moment, AreSame, AgreesOnUsed, AgreesOnChanged}
use Rattle.ae_semantics.specs.Entries.{Inner, OfTurn, Entry, entry}
use Rattle.ae_semantics.specs.declared.report.Ending.{Ending}
use Rattle.ae_semantics.specs.Observations.{OfBlock, OfCell, AtBlock, AtEnd}
use Rattle.ae_rules.specs.Instances.{Instance, Ordered}
use Rattle.ae_rules.specs.Paths.{is_prefix_of}
use Rattle.ae_semantics.specs.Meaning.{forgotten}
use Rattle.ae_semantics.specs.Means.{Start, run_start, At, Turn, Stop, Meant}
use Rattle.ae_semantics.specs.Atom.{part}
use Rattle.ae_semantics.specs.Report.{CellReport, AllPairs}
use Rattle.ae_semantics.specs.Regions.{same_instance}
use Rattle.ae_semantics.specs.Regions.{Region, lies_in, path_of, Within, Only}
use Rattle.ae_semantics.specs.BlockTrees.{BlockTree, how_many, Happened, main_entry, Halt, finished, unfinished}
use Rattle.ae_semantics.specs.BlockTrees.{unfolded, halted, left_out, Result, Between, Running, results, betweens}
use Rattle.ae_semantics.specs.BlockTrees.{turns, running, events, cells, observed, Begun}
use Rattle.ae_semantics.specs.Trails.{Passage, Trail, trail}

-- ---- the meaning by the tree

-- the meaning past what stopped, with these observations
abbrev pub part_of_tree : Code → List ℤ → ℕ → BlockTree → Meant
part_of_tree p ints fuel tree = part p ints fuel (observed tree)

-- the same with the tree's observations
abbrev pub trail_of : Code → List ℤ → ℕ → BlockTree → Trail
trail_of p ints fuel tree = trail p ints fuel (observed tree)

-- ---- blocks and turns

-- the uses of the statement of a passage
abbrev pub uses_of : Code → Passage → Uses
uses_of p x = scene_uses p x.block x.number

-- what the statements of the block at this path left in the end, without the block's own names
abbrev pub left_by : List Passage → Instance → Moment → Moment
left_by [] q m = m
left_by (x ∷ xs) q m = if same_instance x.here.path (q ++ (x.number ∷ []))
    then left_by xs q (record x.moment { state = forgotten x.block.start x.moment.state })
    else left_by xs q m

-- what there is before a turn of the loop that found this
abbrev pub before_turn : List Passage → Instance → ℕ → Moment → Moment
before_turn xs q zero m = m
before_turn xs q (suc t) m = left_by xs (q ++ (t ∷ [])) (before_turn xs q t m)

-- the statement of a passage enters this block, from these values
abbrev pub entry_at : Code → Passage → Moment → Inner → Outcome Entry
entry_at p x m inner = given (statement_at x.block.lines x.number) Lacks (λ a. entry p x.here m a inner)

-- what there is for a block of a statement: before a turn what the turns before it left, and else what the statement found
abbrev pub found_for : Trail → Inner → Passage → Moment
found_for w (OfTurn t) x = before_turn w.left x.here.path t x.moment
found_for w inner x = x.moment

-- the block begins with these values, and has a stage for each of its statements
abbrev pub BeginsAs : Entry → BlockTree → Type 0
BeginsAs e (Begun m stages) = AreSame m e.values × (how_many stages ≡ statement_count e.lines)

-- the block is this one, which was entered, and the cells are those of the groups that went away
abbrev pub IsAsEntered : Outcome Entry → Running → Type 0
IsAsEntered (Fine e) r = BeginsAs e r.frame × (r.cells ≡ e.cells)
IsAsEntered _ r = ⊥

-- A block being run is what its statement enters, from some values that agree with what there is for it, as far as the statement uses them.
pub record IsFrameEntered (p : Code) (w : Trail) (r : Running) : Type 0 where
  pub passage : Passage
  pub found : Contains w.found passage
  pub place : passage.here.path ≡ r.path
  pub values : Moment
  pub agrees : AgreesOnUsed (uses_of p passage) values (found_for w r.inner passage)
  pub enters : IsAsEntered (entry_at p passage values r.inner) r

-- the first block is the body of `main`, where it begins
abbrev pub IsFirstFrame : Code → List ℤ → BlockTree → Type 0
IsFirstFrame p ints tree = (x : Start) × (run_start p ints ≡ Some x) × BeginsAs (main_entry x) tree

-- ---- stands for

-- the meaning runs the statement at this path
abbrev pub IsRun : Meant → Instance → Type 0
IsRun m q = (at : Spot) × Contains m.ran (record { path = q; spot = at })

-- the statement went through, and left what the meaning has there
abbrev pub IsLeft : Code → Trail → Result → Type 0
IsLeft p w r = (x : Passage) × Contains w.left x × (x.here.path ≡ r.path)
    × AgreesOnChanged (uses_of p x) r.left x.moment

-- the turns before left what the meaning has before this turn, as far as the loop uses it
abbrev pub IsBetween : Code → Trail → Between → Type 0
IsBetween p w b = (x : Passage) × Contains w.found x × (x.here.path ≡ b.turn.path)
    × AgreesOnUsed (uses_of p x) b.left (before_turn w.left b.turn.path b.turn.turn x.moment)

-- the first ending at an instance or in it
abbrev pub first_ending : Instance → List Stop → Option Ending
first_ending q [] = None
first_ending q (s ∷ ss) = if is_prefix_of q s.path then s.ending else first_ending q ss

-- the block's answer is what is observed at it, and the meaning asks it so
pub record IsAsked (m : Meant) (tree : BlockTree) (e : Happened) : Type 0 where
  pub answer : observed tree (AtBlock e.asking.ask) ≡ Some (OfBlock e.out)
  pub asked : Contains m.asked e.asking

-- the cell is observed as it is, and the meaning enters its split block with what the cell held at first
pub record IsOfEntered (m : Meant) (tree : BlockTree) (c : CellReport) : Type 0 where
  pub last : observed tree (AtEnd c.name c.first) ≡ Some (OfCell c.last)
  pub entered : Contains m.firsts (record { cell = c.name; image = c.first })

-- the instance lies in one of the places
abbrev pub LiesIn : List Region → Instance → Type 0
LiesIn places q = (x : Region) × Contains places x × (lies_in x q ≡ true)

-- the instance keeps its place after one of the places
abbrev pub IsAfter : Code → List Region → Instance → Type 0
IsAfter p places q = (x : Region) × Contains places x × Ordered p (path_of x) q

-- where a statement ended
abbrev pub halt_place : Halt → Region
halt_place h = Within h.path

-- what did not go through: unfinished tasks, what ended, and statements whose block is being run
abbrev pub under_way : BlockTree → List Region
under_way tree = unfinished tree ++ map halt_place (halted tree) ++ map Only (unfolded tree)

-- The tree stands for the meaning past what stopped, with the tree's own events and cells as the observations.
pub record StandsFor (p : Code) (ints : List ℤ) (fuel : ℕ) (tree : BlockTree) : Type 0 where
  -- what went through is run by the meaning, and has left what the meaning has there
  pub each_left : (x : Result) → Contains (results tree) x → IsRun (part_of_tree p ints fuel tree) x.path
      × IsLeft p (trail_of p ints fuel tree) x
  -- a turn that is begun or next is one whose condition the meaning evaluates
  pub each_turn : (x : Turn) → Contains (turns tree) x → Contains (part_of_tree p ints fuel tree).turns x
  pub each_between : (x : Between) → Contains (betweens tree) x → IsBetween p (trail_of p ints fuel tree) x
  -- the first block begins where the program does
  pub first : IsFirstFrame p ints tree
  -- a statement whose block is being run is run by the meaning, and the block is entered as it is there
  pub each_unfolded : (q : Instance) → Contains (unfolded tree) q → IsRun (part_of_tree p ints fuel tree) q
  pub each_entered : (x : Running) → Contains (running tree) x → IsFrameEntered p (trail_of p ints fuel tree) x
  -- what ended is the first to end there, with that ending
  pub each_halt : (x : Halt) → Contains (halted tree) x → first_ending x.path (part_of_tree p ints fuel tree).stopped
      ≡ Some x.ending
  -- what is left out keeps its place after what ended
  pub each_left_out : (q : Instance) → Contains (left_out tree) q → IsAfter p (map halt_place (halted tree)) q
  -- the events and the cells are what is observed, each once
  pub events_differ : AllPairs (λ (d e : Happened). d.asking.ask.path ≢ e.asking.ask.path) (events tree)
  pub cells_differ : AllPairs (λ (c d : CellReport). c.name ≢ d.name) (cells tree)
  pub each_event : (e : Happened) → Contains (events tree) e → IsAsked (part_of_tree p ints fuel tree) tree e
  pub each_cell : (c : CellReport) → Contains (cells tree) c → IsOfEntered (part_of_tree p ints fuel tree) tree c
  -- All else that the meaning runs is under way, or keeps its place after what is under way. A statement whose block is being run counts
  -- as under way until the block is put away, also where nothing in it is left to do.
  pub all_others : (x : At) → Contains (part_of_tree p ints fuel tree).ran x
      → LiesIn (finished tree) x.path ⊎ LiesIn (under_way tree) x.path ⊎ IsAfter p (under_way tree) x.path
