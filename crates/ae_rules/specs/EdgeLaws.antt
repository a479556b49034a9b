-- What follows from the rules on uses and edges.
use Rattle.std.specs.Prelude.{◌≡◌, ◌<◌, ◌↔◌, ◌⊎◌, ℕ, Bool, true, false, ◌&&◌, [], ◌∷◌, Option, None, Some, is_some}
use Rattle.ae_text.specs.declared.refusal.Spot.{Spot}
use Rattle.ae_rules.specs.declared.uses.Resource.{Resource}
use Rattle.ae_rules.specs.declared.uses.Resource.TheVariants as resource
use Rattle.ae_rules.specs.declared.uses.Mode.{Mode}
use Rattle.ae_rules.specs.declared.uses.Mode.TheVariants as mode
use Rattle.ae_rules.specs.Edges.{IsConflict, IsWeak, is_strong, BlockUses, Edge, Before, Preds}
use Rattle.ae_tree.specs.Plain.{Action, Definition, Code}
use Rattle.ae_rules.specs.declared.held.GroupPerm.{GroupPerm}
use Rattle.ae_rules.specs.declared.held.GroupPerm.TheVariants as group
use Rattle.ae_rules.specs.Verdict.{given}
use Rattle.ae_rules.specs.Context.{Context}
use Rattle.ae_rules.specs.Judges.{Judges, Accepts}
use Rattle.ae_rules.specs.Uses.{statement_uses}
use Rattle.ae_rules.specs.EdgeLists.{conflicts, is_weak, preds}
use Rattle.ae_rules.specs.Blocks.{Scene, scene_uses}
use Rattle.ae_rules.specs.Instances.{Instance, Point, InBlock, inside, first_point, Ordered, uses_from, Conflict}
use Rattle.ae_rules.specs.Paths.{comes_before}

-- an edge leads forward, and so does a chain of edges
abbrev pub EdgesGoForward : Type 0
EdgesGoForward = (uses : BlockUses) (i j : ℕ) → Edge uses i j → i < j

abbrev pub ChainsGoForward : Type 0
ChainsGoForward = (uses : BlockUses) (i j : ℕ) → Before uses i j → i < j

-- two statements that use a resource in ways that do not go together are joined by a chain
abbrev pub ConflictsAreOrdered : Type 0
ConflictsAreOrdered = (uses : BlockUses) (i j : ℕ) (r : Resource) → i < j → IsConflict (uses i r) (uses j r)
    → Before uses i j

-- the tests on modes are exact: each finds a conflict where there is one, and a use that lets others pass where it does
abbrev pub ModeTestsAreExact : Type 0
ModeTestsAreExact = (o q : Option Mode) → ((conflicts o q ≡ true) ↔ IsConflict o q) × ((is_weak o ≡ true) ↔ IsWeak o)

-- a local is read or written
abbrev pub is_of_local : Mode → Bool
is_of_local mode.Read = true
is_of_local mode.Write = true
is_of_local mode.GroupShared = false
is_of_local mode.GroupWhole = false

-- the whole of a group is used only where its members may be reached
abbrev pub group_allows : GroupPerm → Mode → Bool
group_allows group.Exclusive mode.GroupWhole = true
group_allows group.Exclusive mode.GroupShared = true
group_allows group.Protected mode.GroupWhole = true
group_allows group.Protected mode.GroupShared = true
group_allows group.Shared mode.GroupShared = true
group_allows _ _ = false

-- the resource is visible, and may be so used
abbrev pub is_allowed : Context → Resource → Mode → Bool
is_allowed c (resource.Local x) m = is_some (c.local x) && is_of_local m
is_allowed c (resource.Group g) m = given (c.group g) false (λ q. group_allows q m)

-- what a judged statement uses is visible after it, and may be so used
abbrev pub UsesAreAllowed : Type 0
UsesAreAllowed = (p : Code) (m : Definition) (at : Spot) (a : Action) (c d : Context) (r : Resource) (n : Mode)
    → Judges p m at a c d → statement_uses p m a c r ≡ Some n → is_allowed d r n ≡ true

-- what is held otherwise after a judged statement, or is new, the statement uses by Write; and a new group as a whole
abbrev pub ChangesAreUsed : Type 0
ChangesAreUsed = (p : Code) (m : Definition) (at : Spot) (a : Action) (c d : Context) → Judges p m at a c d
    → ((x : ℕ) → (statement_uses p m a c (resource.Local x) ≡ Some mode.Write) ⊎ (d.local x ≡ c.local x))
    × ((g : ℕ) → (statement_uses p m a c (resource.Group g) ≡ Some mode.GroupWhole) ⊎ (d.group g ≡ c.group g))

abbrev pub name_of_resource : Resource → ℕ
name_of_resource (resource.Local x) = x
name_of_resource (resource.Group g) = g

-- the number of each used name is below this one
abbrev pub NamesBelow : ℕ → BlockUses → Type 0
NamesBelow n uses = (i : ℕ) (r : Resource) (m : Mode) → uses i r ≡ Some m → name_of_resource r < n

-- the list has exactly the statements from which an edge leads to statement j
abbrev pub PredsAreEdges : Type 0
PredsAreEdges = (n : ℕ) (uses : BlockUses) → NamesBelow n uses → (j : ℕ) → Preds uses j (preds n uses j)

-- two instances of an accepted program that conflict, and part at two statements of a block, are ordered
abbrev pub ConflictsAreFirst : Type 0
ConflictsAreFirst = (p : Code) → Accepts p → (q r : Instance) (k : Conflict p q r) (locked : Bool) (s : Scene)
    → k.fork.at ≡ InBlock locked s → k.fork.left < k.fork.right → Ordered p q r

-- ---- along paths

-- the one use is at most as strong as the other
abbrev pub IsAtMost : Option Mode → Option Mode → Type 0
IsAtMost None q = Unit {0}
IsAtMost (Some m) None = ⊥
IsAtMost (Some m) (Some n) = is_strong m ≡ true → is_strong n ≡ true

-- the point to which a path leads from another one
abbrev pub point_from : Code → Point → Instance → Point
point_from p at [] = at
point_from p at (i ∷ q) = point_from p (inside p at i) q

-- what is used inside a statement of an accepted program, seen from where the statement stands, is at most what the statement uses
abbrev pub UsesInsideAreAtMost : Type 0
UsesInsideAreAtMost = (p : Code) → Accepts p → (q : Instance) (locked : Bool) (s : Scene)
    → point_from p (first_point p) q ≡ InBlock locked s
    → (i : ℕ) (r : Instance) (on : Resource) → IsAtMost (uses_from p (InBlock locked s) (i ∷ r) on)
    (scene_uses p s i on)

-- what is first stands first in the source
abbrev pub OrderIsOfTheSource : Type 0
OrderIsOfTheSource = (p : Code) (q r : Instance) → Ordered p q r → comes_before q r ≡ true

-- what is before what is before a third is before that
abbrev pub OrderIsTransitive : Type 0
OrderIsTransitive = (p : Code) (q r s : Instance) → Ordered p q r → Ordered p r s → Ordered p q s
