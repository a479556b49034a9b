-- What a statement uses of each local and each group. The context before it says what is held.
use Rattle.std.specs.Prelude.{ℕ, zero, suc, nat_eq, Bool, false, if◌then◌else◌, List, [], ◌∷◌, map, zip, slice_get}
use Rattle.std.specs.Prelude.{Option}
use Rattle.std.specs.Prelude.{None, Some, is_some}
use Rattle.ae_text.specs.declared.refusal.Spot.{Spot}
use Rattle.ae_tree.specs.declared.tree.NameAt.{NameAt}
use Rattle.ae_tree.specs.declared.tree.Path.{Path}
use Rattle.ae_tree.specs.declared.tree.Class.{Class}
use Rattle.ae_tree.specs.declared.tree.Need.TheVariants as need_of
use Rattle.ae_rules.specs.declared.uses.Resource.{Resource}
use Rattle.ae_rules.specs.declared.uses.Resource.TheVariants as resource
use Rattle.ae_rules.specs.declared.uses.Mode.{Mode}
use Rattle.ae_rules.specs.declared.uses.Mode.TheVariants as mode
use Rattle.ae_tree.specs.declared.form.Perm.{Perm}
use Rattle.ae_tree.specs.declared.form.Perm.TheVariants as perm
use Rattle.ae_tree.specs.declared.form.Form.{Form}
use Rattle.ae_tree.specs.declared.form.Form.TheVariants as f
use Rattle.ae_tree.specs.Form.{form, bare_names}
use Rattle.ae_tree.specs.Names.{io}
use Rattle.ae_rules.specs.Edges.{Uses, is_strong}
use Rattle.ae_tree.specs.Plain.{Expression, Number, Truth, Nothing, Read, Item, Length, Grouped, Negated, Minus}
use Rattle.ae_tree.specs.Plain.{Binary, Invocation, RightSide, Value, Taken, Zeros, Made, Returned, Lines, End, Next}
use Rattle.ae_tree.specs.Plain.{Definition, Code}
use Rattle.ae_tree.specs.Plain.{Action, Declares, Assigns, Stores, StoresAt, Calls, Chooses, ChoosesElse, Repeats}
use Rattle.ae_tree.specs.Plain.{Groups, Splits, Locks, Freezes, Shares, Prints, PrintsText, Asserts, Returns}
use Rattle.ae_rules.specs.declared.held.Held.{Held}
use Rattle.ae_rules.specs.declared.held.Held.TheVariants as held
use Rattle.ae_rules.specs.Verdict.{Verdict, given, judged}
use Rattle.ae_rules.specs.Lookups.{class_called, field_form}
use Rattle.ae_rules.specs.Groups.{Wanted, wanted_need, known}
use Rattle.ae_rules.specs.Context.{Local, Context}
use Rattle.ae_rules.specs.Walks.{Place, step, walk, owner}
use Rattle.ae_rules.specs.Into.{Source, Null, From, source, moves}
use Rattle.ae_rules.specs.Calls.{Callee, judge_callee, ParamSlot, group_in, slots, givens}
use Rattle.ae_rules.specs.Statements.{while_split, while_locked, judge_statement}

-- ---- uses put together

abbrev pub nothing : Uses
nothing r = None

abbrev pub same_resource : Resource → Resource → Bool
same_resource (resource.Local x) (resource.Local y) = nat_eq x y
same_resource (resource.Group g) (resource.Group h) = nat_eq g h
same_resource _ _ = false

-- this resource alone, so used
abbrev pub use_alone : Mode → Resource → Uses
use_alone m r = λ s. if same_resource r s then Some m else None

abbrev pub read_use : ℕ → Uses
read_use x = use_alone mode.Read (resource.Local x)

abbrev pub write_use : ℕ → Uses
write_use x = use_alone mode.Write (resource.Local x)

-- the whole group, so that no other statement uses it meanwhile
abbrev pub whole_group : ℕ → Uses
whole_group g = use_alone mode.GroupWhole (resource.Group g)

-- the group together with others
abbrev pub together : ℕ → Uses
together g = use_alone mode.GroupShared (resource.Group g)

-- the stronger of two modes of one resource
abbrev pub stronger : Option Mode → Option Mode → Option Mode
stronger None n = n
stronger (Some m) None = Some m
stronger (Some m) (Some n) = Some (if is_strong m then m else n)

-- both uses: each resource by the stronger mode
infixr 10 ◌∪◌
abbrev pub ◌∪◌ : Uses → Uses → Uses
u ∪ v = λ r. stronger (u r) (v r)

-- the uses of each of these
abbrev pub of_each : {A : Type 0} → (A → Uses) → List A → Uses
of_each uses [] = nothing
of_each uses (x ∷ xs) = uses x ∪ of_each uses xs

-- the uses of what a verdict gives; none, where a rule is broken
abbrev pub of_judged : {A : Type 0} → Verdict A → (A → Uses) → Uses
of_judged v uses = judged v nothing uses

-- the uses of what is there
abbrev pub of_found : {A : Type 0} → Option A → (A → Uses) → Uses
of_found o uses = given o nothing uses

-- a resource that is visible in this context
abbrev pub is_seen : Context → Resource → Bool
is_seen c (resource.Local x) = is_some (c.local x)
is_seen c (resource.Group g) = known c.group g

-- the uses of what is visible in this context
abbrev pub outside : Context → Uses → Uses
outside c u = λ r. if is_seen c r then u r else None

-- the uses of all but this resource
abbrev pub all_but : Resource → Uses → Uses
all_but r u = λ s. if same_resource r s then None else u s

-- ---- paths

-- A step, an index, a length or a write at an object of which this is held: a member of a group is reached with the whole group.
abbrev pub reach_use : Held → Uses
reach_use (held.Shared g) = whole_group g
reach_use (held.Inner g) = whole_group g
reach_use held.Unique = nothing
reach_use (held.Split n) = nothing
reach_use held.Immutable = nothing
reach_use held.Lent = nothing
reach_use held.None = nothing

-- the steps of a path from a place
abbrev pub steps_use : Code → Context → Spot → List NameAt → Place → Uses
steps_use p c at [] from = nothing
steps_use p c at (x ∷ xs) from = reach_use from.held ∪ of_judged (step p c at x from) (steps_use p c at xs)

-- the steps of a path
abbrev pub walk_uses : Code → Context → Path → Uses
walk_uses p c path = of_found (c.local path.root.name)
    (λ (l : Local). steps_use p c path.root.at path.steps (record { form = l.form; held = l.held }))

-- a path that is read
abbrev pub path_uses : Code → Context → Path → Uses
path_uses p c path = read_use path.root.name ∪ walk_uses p c path

-- the object at a path's end is reached
abbrev pub end_uses : Code → Context → Path → Uses
end_uses p c path = walk_uses p c path ∪ of_judged (walk p c path) (λ w. reach_use w.held)

-- the root of a path to an object that is written: it is written itself, where the object is held Unique
abbrev pub root_written : Held → ℕ → Uses
root_written held.Unique x = write_use x
root_written _ x = read_use x

-- a write to the object at a path's end
abbrev pub write_uses : Code → Context → Path → Uses
write_uses p c path = end_uses p c path ∪ of_judged (walk p c path) (λ w. root_written w.held path.root.name)

-- ---- expressions

-- an expression that is an integer or a boolean
abbrev pub value_uses : Code → Context → Expression → Uses
value_uses p c (Number n at) = nothing
value_uses p c (Truth b at) = nothing
value_uses p c (Nothing at) = nothing
value_uses p c (Read path) = path_uses p c path
value_uses p c (Item path e) = read_use path.root.name ∪ end_uses p c path ∪ value_uses p c e
value_uses p c (Length path at) = read_use path.root.name ∪ end_uses p c path
value_uses p c (Grouped e at) = value_uses p c e
value_uses p c (Negated e at) = value_uses p c e
value_uses p c (Minus e at) = value_uses p c e
value_uses p c (Binary o a b) = value_uses p c a ∪ value_uses p c b

-- a source that goes into a form with this permission; a name that moves is written
abbrev pub source_uses : Code → Context → Perm → Source → Uses
source_uses p c q Null = nothing
source_uses p c q (From path) = path_uses p c path ∪ of_found (moves q path) write_use

-- an expression into a form
abbrev pub into_uses : Code → Context → Form → Expression → Uses
into_uses p c f.Int e = value_uses p c e
into_uses p c f.Bool e = value_uses p c e
into_uses p c (f.Object q k) e = of_found (source e) (source_uses p c q)

-- ---- calls and right sides

-- the root of an argument for a parameter with this permission
abbrev pub root_lent : Perm → ℕ → Uses
root_lent perm.Unique x = write_use x
root_lent perm.Immutable x = read_use x
root_lent perm.Lent x = read_use x
root_lent (perm.Shared g) x = read_use x

-- a source that is given to a parameter with this permission
abbrev pub given_uses : Code → Context → Perm → Source → Uses
given_uses p c q Null = nothing
given_uses p c q (From path) = root_lent q path.root.name ∪ walk_uses p c path

-- an argument, or the receiver, for a parameter of this form
abbrev pub argument_uses : Code → Context → Form → Expression → Uses
argument_uses p c f.Int e = value_uses p c e
argument_uses p c f.Bool e = value_uses p c e
argument_uses p c (f.Object q k) e = of_found (source e) (given_uses p c q)

-- a need, of an actual group
abbrev pub need_uses : Wanted → Uses
need_uses (need_of.Exclusive, g) = whole_group g
need_uses (need_of.Shared, g) = together g
need_uses (need_of.Protected, g) = whole_group g

-- the arguments and the needs of a call
abbrev pub callee_uses : Code → Context → Invocation → Callee → Uses
callee_uses p c i m =
    let new : ℕ → ℕ = group_in m i.groups in
    of_each (λ (x : ParamSlot × Expression). argument_uses p c x.0.form x.1) (zip (slots p new m.method) (givens i))
    ∪ of_each need_uses (map (wanted_need new) m.method.needs)

abbrev pub call_uses : Code → Context → Invocation → Uses
call_uses p c i = of_judged (judge_callee p c i.on i.method) (callee_uses p c i)

-- the arguments of a new object, each into its field
abbrev pub made_uses : Code → Context → NameAt → List NameAt → List Expression → Uses
made_uses p c x gs args = of_found (class_called p x.name) (λ (k : Class).
    of_each (λ (y : Form × Expression). into_uses p c y.0 y.1) (zip (map (field_form k (bare_names gs)) k.fields) args))

-- a right side into a form
abbrev pub right_uses : Code → Context → Form → RightSide → Uses
right_uses p c target (Value e) = into_uses p c target e
right_uses p c target (Taken path at) = write_uses p c (owner path)
right_uses p c target (Zeros e at) = value_uses p c e
right_uses p c target (Made x gs args at) = made_uses p c x gs args
right_uses p c target (Returned i) = call_uses p c i

-- ---- statements

abbrev pub assign_uses : Code → Context → NameAt → RightSide → Uses
assign_uses p c x e = write_use x.name ∪ of_found (c.local x.name) (λ (l : Local). right_uses p c l.form e)

-- a write to a field
abbrev pub store_uses : Code → Context → Path → Expression → Uses
store_uses p c path e = write_uses p c (owner path) ∪ of_judged (walk p c path) (λ w. into_uses p c w.form e)

abbrev pub return_uses : Code → Definition → Context → Expression → Uses
return_uses p m c e = of_found m.result (λ t. into_uses p c (form t) e)

abbrev mutual
  -- the uses of a statement of a method, in the context before it
  pub statement_uses : Code → Definition → Action → Context → Uses
  statement_uses p m (Declares t x e) c = write_use x.name ∪ right_uses p c (form t) e
  statement_uses p m (Assigns x e) c = assign_uses p c x e
  statement_uses p m (Stores path e) c = store_uses p c path e
  statement_uses p m (StoresAt path i e) c = write_uses p c path ∪ value_uses p c i ∪ value_uses p c e
  statement_uses p m (Calls i) c = call_uses p c i
  statement_uses p m (Chooses e n b) c = value_uses p c e ∪ outside c (lines_use p m b c)
  statement_uses p m (ChoosesElse e n b k b') c = value_uses p c e ∪ outside c (lines_use p m b c) ∪ outside c
      (lines_use p m b' c)
  statement_uses p m (Repeats e n b) c = value_uses p c e ∪ outside c (lines_use p m b c)
  statement_uses p m (Groups g) c = whole_group g.name
  statement_uses p m (Splits gs n b) c = of_each (λ (g : NameAt). whole_group g.name) gs ∪ outside c
      (lines_use p m b (while_split gs c))
  statement_uses p m (Locks g n b) c = together g.name ∪ all_but (resource.Group g.name)
      (outside c (lines_use p m b (while_locked g.name c)))
  statement_uses p m (Freezes x) c = write_use x.name
  statement_uses p m (Shares x g) c = write_use x.name ∪ whole_group g.name
  statement_uses p m (Prints e) c = value_uses p c e ∪ whole_group io
  statement_uses p m (PrintsText s) c = whole_group io
  statement_uses p m (Asserts e) c = value_uses p c e
  statement_uses p m (Returns e) c = return_uses p m c e

  -- the uses of statements in order, each in the context before it
  pub lines_use : Code → Definition → Lines → Context → Uses
  lines_use p m End c = nothing
  lines_use p m (Next at a rest) c = statement_uses p m a c ∪ of_judged (judge_statement p m at a c)
      (lines_use p m rest)

-- ---- the statements of a block

-- the statement with this number
abbrev pub statement_at : Lines → ℕ → Option Action
statement_at End i = None
statement_at (Next at a rest) zero = Some a
statement_at (Next at a rest) (suc i) = statement_at rest i

-- the context before each statement of a block that begins in this one, as far as the statements are judged
abbrev pub contexts : Code → Definition → Lines → Context → List Context
contexts p m End c = []
contexts p m (Next at a rest) c = c ∷ judged (judge_statement p m at a c) [] (contexts p m rest)

-- the context before statement i of a block
abbrev pub context_at : Code → Definition → Lines → Context → ℕ → Option Context
context_at p m b c i = slice_get (contexts p m b c) i

-- how statement i of a block uses each resource; the block begins in this context
abbrev pub block_uses : Code → Definition → Lines → Context → ℕ → Uses
block_uses p m b c i = of_found (statement_at b i) (λ a. of_found (context_at p m b c i) (statement_uses p m a))
