-- What holds of the meaning of every program.
use Rattle.std.specs.Prelude.{◌≡◌, ℕ, ℤ, List, [], ◌++◌, map, length, Some, true, false, Contains, ◌<◌}
use Rattle.ae_text.specs.declared.refusal.Spot.{Spot}
use Rattle.ae_tree.specs.Names.{main}
use Rattle.ae_tree.specs.Plain.{Action, Definition, Code}
use Rattle.ae_rules.specs.Lookups.{top_called}
use Rattle.ae_rules.specs.Context.{Context}
use Rattle.ae_rules.specs.Judges.{Judges}
use Rattle.ae_semantics.specs.Contexts.{after}
use Rattle.ae_rules.specs.Instances.{Instance}
use Rattle.ae_rules.specs.Paths.{comes_before}
use Rattle.ae_semantics.specs.declared.report.Ending.{Ending}
use Rattle.ae_semantics.specs.Observations.{Image, Carried, Ask, Seen}
use Rattle.ae_semantics.specs.Means.{First, mean}
use Rattle.ae_rules.specs.Edges.{Uses}
use Rattle.ae_semantics.specs.Values.{is_low}
use Rattle.ae_semantics.specs.Places.{Bound, State}
use Rattle.ae_semantics.specs.Blocks.{out_fits}
use Rattle.ae_semantics.specs.Atom.{atom}
use Rattle.ae_semantics.specs.Report.{Report, Picks, IsReported, Explained, part_of_report, first_of, began, ended_at}
use Rattle.ae_semantics.specs.BlockTrees.{BlockTree, fresh}
use Rattle.ae_semantics.specs.Unfolding.{StandsFor}

-- after a statement that is judged the context is that of the judgement
abbrev pub ContextsAreJudged : Type 0
ContextsAreJudged = (p : Code) (m : Definition) (at : Spot) (a : Action) (c d : Context) → Judges p m at a c d
    → after p m at a c ≡ d

-- a meaning that has an ending is the same with more observations after those that it has
abbrev pub MoreChangesNothing : Type 0
MoreChangesNothing = (p : Code) (ints : List ℤ) (fuel : ℕ) (seen more : List Seen) (e : Ending)
    → (mean p ints fuel seen).ending ≡ Some e → mean p ints fuel (seen ++ more) ≡ mean p ints fuel seen

-- what a meaning began is not after where it ended
abbrev pub NothingBegunIsAfter : Type 0
NothingBegunIsAfter = (p : Code) (ints : List ℤ) (fuel : ℕ) (seen : List Seen) (q : Instance)
    → Contains (began (mean p ints fuel seen)) q → comes_before (ended_at (mean p ints fuel seen)) q ≡ false

-- in every program with a `main` there is a tree before anything ran, and it stands for the meaning past what stopped
abbrev pub FreshStandsFor : Type 0
FreshStandsFor = (p : Code) (m : Definition) (ints : List ℤ) (fuel : ℕ) → top_called p main ≡ Some m
    → (tree : BlockTree) × (fresh p ints ≡ Some tree) × StandsFor p ints fuel tree

-- inside an atomic block nothing is asked: it asks no other block, and what it answers goes by its values and its group's image alone
abbrev pub AtomAsksNothing : Type 0
AtomAsksNothing = (p : Code) (ask : Ask) (image : Image) (inner : List Seen)
    → ((atom p ask image inner).asked ≡ []) × (atom p ask image inner ≡ atom p ask image [])

-- the cells of an explained report, and their order, are fixed by what else it tells
abbrev pub CellsAreFixed : Type 0
CellsAreFixed = (p : Code) (ints : List ℤ) (fuel : ℕ) (r : Report) (cells : List First) → Explained p ints fuel r
    → Picks (IsReported p ints fuel r) (part_of_report p ints fuel r).firsts cells → cells ≡ map first_of r.cells

-- no local that comes out of an answer that fits is too high
abbrev pub FittingIsLow : Type 0
FittingIsLow = (p : Code) (u : Uses) (later : Context) (before : State) (out : Carried)
    → out_fits p u later before out ≡ true
    → (x : ℕ) → x < length p.names → (b : Bound) → out.locals x ≡ Some b → is_low b.value ≡ true
