-- What follows from the rules on the blocks of a program and on the contexts in them.
use Rattle.std.specs.Prelude.{◌≡◌, ◌≢◌, ◌<◌, ◌↔◌, ℕ, nat_eq, Bool, true, false, if◌then◌else◌, List, [], ◌∷◌, ◌++◌}
use Rattle.std.specs.Prelude.{length, map, Option, Some, is_some, option_map}
use Rattle.std.specs.List.{All}
use Rattle.ae_tree.specs.Limits.{statement_count}
use Rattle.ae_rules.specs.Edges.{Preds}
use Rattle.ae_tree.specs.WellShaped.{InBlocks, ActionNamed, WellShaped}
use Rattle.ae_text.specs.declared.refusal.Spot.{Spot}
use Rattle.ae_tree.specs.declared.tree.NameAt.{NameAt}
use Rattle.ae_tree.specs.declared.tree.Path.{Path}
use Rattle.ae_tree.specs.declared.form.Form.{Form}
use Rattle.ae_tree.specs.Form.{form}
use Rattle.ae_tree.specs.Plain.{Action, Declares, Groups, Lines, End, Next, Definition, Code}
use Rattle.ae_rules.specs.declared.held.Held.{Held}
use Rattle.ae_rules.specs.declared.held.Held.TheVariants as held
use Rattle.ae_rules.specs.Forms.{is_unique}
use Rattle.ae_rules.specs.Lookups.{method_at}
use Rattle.ae_rules.specs.Verdict.{Holds, fine, in_turn}
use Rattle.ae_rules.specs.Groups.{Groups as GroupsKnown}
use Rattle.ae_rules.specs.Groups.{known, declare, may_split_all, may_lock}
use Rattle.ae_rules.specs.Context.{Local, Context, held_of, same_held, is_visible, held_in, hold_alike}
use Rattle.ae_rules.specs.Walks.{Place, walk}
use Rattle.ae_rules.specs.Statements.{none_shared, while_split, while_locked, judge_lines}
use Rattle.ae_rules.specs.Judges.{start, Judges, Accepts}
use Rattle.ae_rules.specs.Effects.{effect, lines_effect}
use Rattle.ae_rules.specs.Uses.{contexts}
use Rattle.ae_rules.specs.EdgeLists.{preds}
use Rattle.ae_rules.specs.EdgeLaws.{NamesBelow}
use Rattle.ae_rules.specs.Blocks.{Numbered, Opened, blocks_of, scenes, all_scenes, scene_uses}

-- ---- every block has its context

-- a block's number and its statements
abbrev pub as_text : Opened → Numbered
as_text x = (x.0, x.1.lines)

-- the block stands in this method, and each of its statements has a context before it
pub record IsReached (p : Code) (m : Definition) (x : Opened) : Type 0 where
  pub method : x.1.method ≡ m
  pub statements : length (contexts p m x.1.lines x.1.start) ≡ statement_count x.1.lines

-- in an accepted program each block of the text is there with its context, in the order of the text, and each statement in it is reached
abbrev pub BlocksAreReached : Type 0
BlocksAreReached = (p : Code) → Accepts p → (n : ℕ) (m : Definition) → method_at p n ≡ Some m
    → (map as_text (scenes p m) ≡ blocks_of false m) × All (IsReached p m) (scenes p m)
    × (map as_text (all_scenes p m) ≡ blocks_of true m) × All (IsReached p m) (all_scenes p m)

-- ---- the names in a block

-- what is visible has a number below this one
abbrev pub VisibleBelow : ℕ → Context → Type 0
VisibleBelow n c = (x : ℕ) → is_visible c x ≡ true → x < n

-- what is visible in a block, and what its statements use, has the number of a name, so that its graph has exactly its edges
pub record IsBelow (p : Code) (x : Opened) : Type 0 where
  pub visible : All (VisibleBelow (length p.names)) (contexts p x.1.method x.1.lines x.1.start)
  pub used : NamesBelow (length p.names) (scene_uses p x.1)
  pub graph : (j : ℕ) → Preds (scene_uses p x.1) j (preds (length p.names) (scene_uses p x.1) j)

-- in each block of a well-shaped program that is accepted only names of the program are visible and used
abbrev pub NamesAreBelow : Type 0
NamesAreBelow = (p : Code) → WellShaped p → Accepts p → (n : ℕ) (m : Definition) → method_at p n ≡ Some m
    → All (IsBelow p) (all_scenes p m) × All (IsBelow p) (scenes p m)

-- where what is visible has the number of a name, the tests that go over names are exact: two contexts hold alike where each local from outside
-- holds the same in both, and none is shared in a group where no local from outside holds what is shared in it
abbrev pub ComparisonsAreExact : Type 0
ComparisonsAreExact = (p : Code) (c : Context) → VisibleBelow (length p.names) c
    → ((d e : Context) → (hold_alike p c d e ≡ true) ↔ ((x : ℕ) → is_some (c.local x) ≡ true
    → held_in d x ≡ held_in e x))
    × ((d : Context) (g : ℕ) → (none_shared p c d g ≡ true) ↔ ((x : ℕ) → is_some (c.local x) ≡ true
    → held_in d x ≢ held.Shared g))

-- ---- what is held

-- what may be held of an object of a unique form: all of it, nothing, or what is left once it was frozen, or shared in a known group
abbrev pub may_become : GroupsKnown → Held → Bool
may_become gs held.Unique = true
may_become gs held.Immutable = true
may_become gs (held.Shared g) = known gs g
may_become gs held.None = true
may_become gs held.Lent = false
may_become gs (held.Split n) = false
may_become gs (held.Inner g) = false

-- what may be held of a local of this form; of one that is not unique, what the form says
abbrev pub may_hold : GroupsKnown → Form → Held → Bool
may_hold gs t h = if is_unique t then may_become gs h else same_held (held_of t) h

-- of each local is held what may be
abbrev pub HoldsRight : Context → Type 0
HoldsRight c = (x : ℕ) (l : Local) → c.local x ≡ Some l → may_hold c.group l.form l.held ≡ true

-- where of each local is held what may be, nothing that a walk leads to is split
abbrev pub WalksFindNoSplit : Type 0
WalksFindNoSplit = (p : Code) (c : Context) (path : Path) (w : Place) → HoldsRight c → walk p c path ≡ Holds w
    → (n : ℕ) → w.held ≢ held.Split n

-- only names of the program are visible, and of each local is held what may be
pub record IsRight (p : Code) (c : Context) : Type 0 where
  pub visible : VisibleBelow (length p.names) c
  pub holds : HoldsRight c

-- a method begins so; statements whose names are the program's keep it, where they are judged; and so do split and atomic blocks at their beginning
pub record RightIsKept (p : Code) (m : Definition) : Type 0 where
  pub first : IsRight p (start p m)
  pub statement : (at : Spot) (a : Action) (c d : Context) → ActionNamed (length p.names) a
      → InBlocks (ActionNamed (length p.names)) a → IsRight p c → Judges p m at a c d → IsRight p d
  pub split : (gs : List NameAt) (c : Context) → IsRight p c → may_split_all c.group gs ≡ fine
      → IsRight p (while_split gs c)
  pub lock : (g : NameAt) (c : Context) → IsRight p c → may_lock c.group g ≡ fine → IsRight p (while_locked g.name c)

-- in each method of a well-shaped program, accepted or not
abbrev pub JudgingKeepsRight : Type 0
JudgingKeepsRight = (p : Code) → WellShaped p → (n : ℕ) (m : Definition) → method_at p n ≡ Some m → RightIsKept p m

-- it is so before each statement of a block, and after the last
pub record IsHeldRight (p : Code) (x : Opened) : Type 0 where
  pub before : All (IsRight p) (contexts p x.1.method x.1.lines x.1.start)
  pub after : (d : Context) → judge_lines p x.1.method x.1.lines x.1.start ≡ Holds d → IsRight p d

-- in each block of a well-shaped program that is accepted, of each local is held what may be: never a part of what was split, nor what lies inside a
-- group's member
abbrev pub HeldIsRight : Type 0
HeldIsRight = (p : Code) → WellShaped p → Accepts p → (n : ℕ) (m : Definition) → method_at p n ≡ Some m
    → All (IsHeldRight p) (all_scenes p m)

-- ---- the context after

-- the context after judged statements is what they do
abbrev pub EffectsAreExact : Type 0
EffectsAreExact = (p : Code) (m : Definition)
    → ((at : Spot) (a : Action) (c d : Context) → Judges p m at a c d → d ≡ effect p m a c)
    × ((b : Lines) (c d : Context) → judge_lines p m b c ≡ Holds d → d ≡ lines_effect p m b c)

-- ---- what is known after a block's lines

-- what a local keeps for good: its form, and whether it stays
abbrev pub Shape : Type 0
Shape = Form × Bool

abbrev pub shape_of : Context → ℕ → Option Shape
shape_of c x = option_map (λ (l : Local). (l.form, l.stays)) (c.local x)

-- with the local that a statement declares
abbrev pub with_let : Action → (ℕ → Option Shape) → ℕ → Option Shape
with_let (Declares t x e) before y = if nat_eq x.name y then Some (form t, false) else before y
with_let _ before y = before y

-- with the locals that statements declare
abbrev pub with_lets : Lines → (ℕ → Option Shape) → ℕ → Option Shape
with_lets End before = before
with_lets (Next at a rest) before = with_lets rest (with_let a before)

abbrev pub group_in_line : Action → List NameAt
group_in_line (Groups g) = g ∷ []
group_in_line _ = []

-- the groups that statements declare, in order
abbrev pub groups_in_lines : Lines → List NameAt
groups_in_lines End = []
groups_in_lines (Next at a rest) = group_in_line a ++ groups_in_lines rest

-- after judged lines the locals are those before and those that the lines declare, and the groups those before and those that the lines declare
abbrev pub LinesDeclare : Type 0
LinesDeclare = (p : Code) (m : Definition) (b : Lines) (c d : Context) → judge_lines p m b c ≡ Holds d
    → ((x : ℕ) → shape_of d x ≡ with_lets b (shape_of c) x)
    × (in_turn declare (groups_in_lines b) c.group ≡ Holds d.group)
