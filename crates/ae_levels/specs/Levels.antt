-- The levels of a run that is under way, and what is still to be done that they stand for.
use Rattle.std.specs.Prelude.{◌≡◌, ◌≤◌, ℕ, ◌+◌, true, List, [], ◌∷◌, ◌++◌, length, take, drop, Option, None}
use Rattle.std.specs.Prelude.{Some}
use Rattle.ae_text.specs.declared.refusal.Spot.{Spot}
use Rattle.ae_tree.specs.declared.form.Form.{Form}
use Rattle.ae_tree.specs.Plain.{Expression, Invocation, Lines, Action, Definition, Code}
use Rattle.ae_tree.specs.WellShaped.{EachStatement}
use Rattle.ae_rules.specs.Verdict.{Holds}
use Rattle.ae_rules.specs.Groups.{known}
use Rattle.ae_rules.specs.Context.{Context}
use Rattle.ae_rules.specs.Statements.{judge_statement, judge_lines}
use Rattle.ae_rules.specs.Blocks.{Scene}
use Rattle.ae_semantics.specs.Places.{State}
use Rattle.ae_semantics.specs.Runs.{Where}
use Rattle.ae_semantics.specs.Stacks.{ResultPlace, ToDo, TheLines, TheTurns, TheNames, TheCall}
use Rattle.ae_soundness.specs.Whole.{SplitsNothing}
use Rattle.ae_values.specs.declared.env.Bind.{Bind}
use Rattle.ae_values.specs.Shapes.{NameShape, OfLocal}
use Rattle.ae_names.specs.Known.{form_in, AreKnown, AreNew, names_declared}
use Rattle.ae_steps.specs.Costs.{costs, block_cost}
use Rattle.ae_frames.specs.declared.left.Left.{Left}
use Rattle.ae_frames.specs.Entries.{EnteredCall, frame_of}
use Rattle.ae_levels.specs.Callers.{LeadsBack, names_behind, waiting_behind}

-- names in order, each with its shape
abbrev pub NamesInOrder : Type 0
NamesInOrder = List (ℕ × NameShape)

-- where the result of a call goes: nowhere, to a local of this form that is declared with it, or to one that is there
pub data Aim : Type 0 where
  Nowhere : Aim
  ToNew : Form → ℕ → Aim
  ToOld : ℕ → Aim

-- With its fuel, how deep its call is, and its method: the statements of a block from one on, with how many names there
-- were where it began; a loop from a turn on. A call whose method runs.
pub data Level : Type 0 where
  InBlock : ℕ → ℕ → Definition → Lines → ℕ → Level
  InLoop : ℕ → ℕ → Definition → Spot → Expression → Lines → Level
  InCall : Spot → Invocation → Left → Aim → Level

-- ---- how much there is to do

-- one level
abbrev pub level_cost : Code → Level → ℕ
level_cost p (InBlock fuel depth m lines mark) = block_cost (costs p fuel) lines
level_cost p (InLoop fuel depth m at e b) = (costs p fuel).turns b
level_cost p (InCall at i left to) = 1

-- all levels
abbrev pub levels_cost : Code → List Level → ℕ
levels_cost p [] = 0
levels_cost p (l ∷ ls) = level_cost p l + levels_cost p ls

-- ---- what is still to be done

-- where a block stands, its whole, the number of the statement that is next, and what is known outside
pub record OpenBlock : Type 0 where
  pub here : Where
  pub whole : Scene
  pub next : ℕ
  pub outside : Context

-- the groups that are known outside are known here
abbrev pub Stays : Context → Context → Type 0
Stays outside c = (g : ℕ) → known outside.group g ≡ true → known c.group g ≡ true

-- The rest of a block is judged where it stands, it splits nothing, and the names of its call are known there; the
-- first so many are those that are known outside.
pub record BlockFits (p : Code) (names : NamesInOrder) (depth : ℕ) (m : Definition) (lines : Lines) (mark : ℕ)
    (b : OpenBlock) : Type 0 where
  pub method : b.here.method ≡ m
  pub depth_here : b.here.depth ≡ depth
  pub after : Context
  pub judged : judge_lines p m lines b.here.context ≡ Holds after
  pub unsplit : EachStatement SplitsNothing lines
  pub known_here : AreKnown b.here.context names
  pub known_outside : AreKnown b.outside (take mark names)
  pub new_inside : AreNew b.outside (drop mark names)
  pub stays : Stays b.outside b.here.context
  pub within : mark ≤ length names

-- where a loop stands, and its turn
pub record OpenLoop : Type 0 where
  pub here : Where
  pub turn : ℕ

-- A loop is judged where it stands, it splits nothing, and the names of its call are known there.
pub record LoopFits (p : Code) (names : NamesInOrder) (depth : ℕ) (m : Definition) (e : Expression) (b : Lines) (l : OpenLoop) : Type 0 where
  pub method : l.here.method ≡ m
  pub depth_here : l.here.depth ≡ depth
  pub after : Context
  pub judged : judge_lines p m b l.here.context ≡ Holds after
  pub unsplit : EachStatement SplitsNothing b
  pub known_here : AreKnown l.here.context names

-- a call that was entered from a state, where it stands, and where its result goes
pub record OpenCall : Type 0 where
  pub here : Where
  pub entry : EnteredCall
  pub before : State
  pub place : Option ResultPlace

-- the names that a result declares
abbrev pub names_aimed : Aim → NamesInOrder
names_aimed Nowhere = []
names_aimed (ToNew form x) = (x, OfLocal form) ∷ []
names_aimed (ToOld x) = []

-- what is declared under this aim is declared by a judged statement, where these names are known
pub record IsDeclared (p : Code) (names : NamesInOrder) (to : Aim) : Type 0 where
  pub method : Definition
  pub at : Spot
  pub action : Action
  pub before : Context
  pub after : Context
  pub judged : judge_statement p method at action before ≡ Holds after
  pub known : AreKnown before names
  pub declares : names_declared action ≡ names_aimed to

-- the aim is this place, among these names
abbrev pub IsPlace : NamesInOrder → Aim → Option ResultPlace → Type 0
IsPlace names Nowhere place = place ≡ None
IsPlace names (ToNew form x) place = place ≡ Some (record { name = x; form = form })
IsPlace names (ToOld x) place = (form : Form) × (place ≡ Some (record { name = x; form = form }))
    × (form_in names x ≡ Some form)

-- The levels stand for what is still to be done, where the running call has these names, and these binds wait.
abbrev pub StandFor : Code → NamesInOrder → List Bind → List Level → List ToDo → Type 0
StandFor p names waiting [] xs = xs ≡ []
StandFor p names waiting (InBlock fuel depth m lines mark ∷ ls) xs = (b : OpenBlock) × (ys : List ToDo)
    × (xs ≡ TheLines fuel b.here b.whole b.next lines ∷ TheNames b.outside ∷ ys)
    × BlockFits p names depth m lines mark b × StandFor p (take mark names) waiting ls ys
StandFor p names waiting (InLoop fuel depth m at e b ∷ ls) xs = (l : OpenLoop) × (ys : List ToDo)
    × (xs ≡ TheTurns fuel l.here l.turn at e b ∷ ys)
    × LoopFits p names depth m e b l × StandFor p names waiting ls ys
StandFor p names waiting (InCall at i left to ∷ ls) xs = (o : OpenCall) × (ys : List ToDo)
    × (xs ≡ TheCall at i (frame_of p o.here o.entry) o.before o.place ∷ ys)
    × LeadsBack p left o.entry i o.before names waiting
    × IsPlace (names_behind left waiting) to o.place
    × IsDeclared p (names_behind left waiting) to
    × StandFor p (names_behind left waiting ++ names_aimed to) (waiting_behind left waiting) ls ys
