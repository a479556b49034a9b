-- Statements as they run, by paths of numbers: where two of them part, which is first, and which conflict.
use Rattle.std.specs.Prelude.{◌≡◌, ◌<◌, ◌⊎◌, ℕ, zero, suc, nat_eq, Bool, true, false, if◌then◌else◌, List, [], ◌∷◌, ◌++◌, map, zip, Option, None, Some, option_map}
use Rattle.ae_tree.specs.declared.tree.Me.{Me}
use Rattle.ae_tree.specs.declared.tree.Param.{Param}
use Rattle.ae_rules.specs.declared.uses.Resource.{Resource}
use Rattle.ae_rules.specs.declared.uses.Resource.TheVariants as resource
use Rattle.ae_rules.specs.declared.uses.Mode.{Mode}
use Rattle.ae_tree.specs.declared.form.Form.{Form}
use Rattle.ae_tree.specs.Form.{bare_names}
use Rattle.ae_tree.specs.Names.{io, main, this}
use Rattle.ae_tree.specs.Limits.{statement_count}
use Rattle.ae_rules.specs.Edges.{IsConflict, Uses, Before}
use Rattle.ae_tree.specs.Plain.{Expression, Invocation, RightSide, Value, Taken, Zeros, Made, Returned, Definition}
use Rattle.ae_tree.specs.Plain.{Code}
use Rattle.ae_tree.specs.Plain.{Action, Declares, Assigns, Calls, Chooses, ChoosesElse, Repeats, Splits, Locks}
use Rattle.ae_rules.specs.Verdict.{given, judged}
use Rattle.ae_rules.specs.Forms.{is_unique, is_object}
use Rattle.ae_rules.specs.Lookups.{top_called, is_empty}
use Rattle.ae_rules.specs.Context.{Context}
use Rattle.ae_rules.specs.Into.{Source, Null, From, source}
use Rattle.ae_rules.specs.Calls.{Callee, judge_callee, ParamSlot, group_in, if_some, slots, givens}
use Rattle.ae_rules.specs.Statements.{while_split, while_locked}
use Rattle.ae_rules.specs.Judges.{start}
use Rattle.ae_rules.specs.Uses.{statement_at, nothing, use_alone, read_use, together, ◌∪◌, of_each, of_judged, of_found}
use Rattle.ae_rules.specs.Uses.{outside}
use Rattle.ae_rules.specs.Uses.{all_but, statement_uses, context_at}
use Rattle.ae_rules.specs.Blocks.{Scene, block_at, body_scene, scene_uses}

-- A statement as it runs: the numbers of the statements that lead to it, each inside the one before. After an `if` stands
-- the number of the branch, 0 or 1, and after a `while` that of the turn. A path may also end with a turn: the loop from there on.
abbrev pub Instance : Type 0
Instance = List ℕ

-- ---- along a path

-- What the next number of a path tells. The flag says that the place lies inside an atomic block.
pub data Point : Type 0 where
  -- a statement of this block
  InBlock : Bool → Scene → Point
  -- a branch; the second may be missing
  AtChoice : Bool → Scene → Option Scene → Point
  -- a turn of a loop, which uses this
  AtLoop : Bool → Uses → Scene → Point
  -- nothing runs inside
  Nowhere : Point

-- inside a call stands the body of the method
abbrev pub in_call : Code → Bool → Context → Invocation → Point
in_call p locked c i = judged (judge_callee p c i.on i.method) Nowhere
    (λ (k : Callee). InBlock locked (body_scene p k.method))

abbrev pub in_right : Code → Bool → Context → RightSide → Point
in_right p locked c (Returned i) = in_call p locked c i
in_right p locked c (Value e) = Nowhere
in_right p locked c (Taken path at) = Nowhere
in_right p locked c (Zeros e at) = Nowhere
in_right p locked c (Made x gs args at) = Nowhere

-- inside a statement of a method, from the context before it
abbrev pub in_statement : Code → Bool → Definition → Action → Context → Point
in_statement p locked m (Declares t x e) c = in_right p locked c e
in_statement p locked m (Assigns x e) c = in_right p locked c e
in_statement p locked m (Calls i) c = in_call p locked c i
in_statement p locked m (Chooses e n b) c = AtChoice locked (block_at m b c) None
in_statement p locked m (ChoosesElse e n b k b') c = AtChoice locked (block_at m b c) (Some (block_at m b' c))
in_statement p locked m (Repeats e n b) c = AtLoop locked (statement_uses p m (Repeats e n b) c) (block_at m b c)
in_statement p locked m (Splits gs n b) c = InBlock locked (block_at m b (while_split gs c))
in_statement p locked m (Locks g n b) c = InBlock true (block_at m b (while_locked g.name c))
in_statement p locked m _ c = Nowhere

-- from a point to the one inside this number
abbrev pub inside : Code → Point → ℕ → Point
inside p (InBlock locked s) i = given (statement_at s.lines i) Nowhere (λ a.
    given (context_at p s.method s.lines s.start i) Nowhere (in_statement p locked s.method a))
inside p (AtChoice locked s other) zero = InBlock locked s
inside p (AtChoice locked s other) (suc zero) = given other Nowhere (InBlock locked)
inside p (AtChoice locked s other) (suc (suc n)) = Nowhere
inside p (AtLoop locked uses s) turn = InBlock locked s
inside p Nowhere i = Nowhere

-- where a run begins: in the body of `main`
abbrev pub first_point : Code → Point
first_point p = given (top_called p main) Nowhere (λ m. InBlock false (body_scene p m))

-- ---- where two part

-- the point where two instances part, and how each goes on from there; the numbers differ
pub record Parting : Type 0 where
  pub at : Point
  pub left : ℕ
  pub left_rest : List ℕ
  pub right : ℕ
  pub right_rest : List ℕ

-- where two paths from a point part, if neither is the beginning of the other
abbrev pub parting_from : Code → Point → List ℕ → List ℕ → Option Parting
parting_from p at [] r = None
parting_from p at (i ∷ q) [] = None
parting_from p at (i ∷ q) (j ∷ r) = if nat_eq i j
    then parting_from p (inside p at i) q r
    else Some (record { at = at; left = i; left_rest = q; right = j; right_rest = r })

abbrev pub parting : Code → Instance → Instance → Option Parting
parting p q r = parting_from p (first_point p) q r

-- ---- which is first

-- Inside one atomic block source order holds among what is there; else a chain of edges leads from the one statement to the other, or they are two
-- turns of a loop.
abbrev pub IsFirstAt : Code → Point → ℕ → ℕ → Type 0
IsFirstAt p (InBlock locked s) i j = ((locked ≡ true) × (i < j) × (j < statement_count s.lines)) ⊎ Before (scene_uses p s) i j
IsFirstAt p (AtChoice locked s other) i j = (locked ≡ true) × (i < j) × (j < 2)
IsFirstAt p (AtLoop locked uses s) i j = i < j
IsFirstAt p Nowhere i j = ⊥

-- the two part, and the first ends before the second begins
pub record Ordered (p : Code) (first second : Instance) : Type 0 where
  pub fork : Parting
  pub parts : parting p first second ≡ Some fork
  pub order : IsFirstAt p fork.at fork.left fork.right

-- ---- what is used, seen from outside

-- a resource that is used inside, under its name outside
abbrev pub renamed : Option Mode → Resource → Uses
renamed o r = of_found o (λ m. use_alone m r)

-- The use of a parameter by what it was given: of a unique one it counts for the root, of another object as a read, and else for nothing.
abbrev pub source_outside : Form → Option Mode → Source → Uses
source_outside form o Null = nothing
source_outside form o (From path) = if is_unique form
    then renamed o (resource.Local path.root.name)
    else of_found o (λ m. read_use path.root.name)

abbrev pub param_outside : Form → Option Mode → Expression → Uses
param_outside form o e = if is_object form then of_found (source e) (source_outside form o) else nothing

-- the names of `this`, where the method has it, and of the parameters
abbrev pub param_names : Definition → List ℕ
param_names m = if_some (option_map (λ (x : Me). this) m.me) (map (λ (x : Param). x.name.name) m.params)

-- the parameters of a method that is called, each with the name and the slot, and what it is given
abbrev pub params_given : Code → Invocation → Callee → List (ℕ × (ParamSlot × Expression))
params_given p i k = zip (param_names k.method) (zip (slots p (group_in k i.groups) k.method) (givens i))

-- the groups that a method knows at its start
abbrev pub group_names : Callee → List ℕ
group_names k = io ∷ k.names ++ bare_names k.method.groups

-- what is used in the body of a method, as it counts at the call: by its parameters and by its groups
abbrev pub callee_outside : Code → Invocation → Uses → Callee → Uses
callee_outside p i u k =
    of_each (λ (x : ℕ × (ParamSlot × Expression)). param_outside x.1.0.form (u (resource.Local x.0)) x.1.1)
    (params_given p i k)
    ∪ of_each (λ g. renamed (u (resource.Group g)) (resource.Group (group_in k i.groups g))) (group_names k)

-- what is declared in the body counts for nothing
abbrev pub body_outside : Code → Invocation → Uses → Callee → Uses
body_outside p i u k = callee_outside p i (outside (start p k.method) u) k

abbrev pub call_outside : Code → Context → Invocation → Uses → Uses
call_outside p c i u = of_judged (judge_callee p c i.on i.method) (body_outside p i u)

-- an atomic block uses its group together with others, however it is used inside
abbrev pub lock_outside : ℕ → Uses → Uses
lock_outside g u = of_found (u (resource.Group g)) (λ m. together g) ∪ all_but (resource.Group g) u

abbrev pub right_outside : Code → Context → RightSide → Uses → Uses
right_outside p c (Returned i) u = call_outside p c i u
right_outside p c (Value e) u = nothing
right_outside p c (Taken path at) u = nothing
right_outside p c (Zeros e at) u = nothing
right_outside p c (Made x gs args at) u = nothing

-- what is used inside a statement, as it counts where the statement stands; what is declared inside counts for nothing
abbrev pub statement_outside : Code → Action → Context → Uses → Uses
statement_outside p (Declares t x e) c u = right_outside p c e u
statement_outside p (Assigns x e) c u = right_outside p c e u
statement_outside p (Calls i) c u = call_outside p c i u
statement_outside p (Chooses e n b) c u = outside c u
statement_outside p (ChoosesElse e n b k b') c u = outside c u
statement_outside p (Repeats e n b) c u = outside c u
statement_outside p (Splits gs n b) c u = outside c u
statement_outside p (Locks g n b) c u = lock_outside g.name (outside c u)
statement_outside p _ c u = nothing

-- what is used inside this number, as it counts at the point
abbrev pub outside_of : Code → Point → ℕ → Uses → Uses
outside_of p (InBlock locked s) i u = of_found (statement_at s.lines i) (λ a.
    of_found (context_at p s.method s.lines s.start i) (λ c. statement_outside p a c u))
outside_of p (AtChoice locked s other) i u = outside s.start u
outside_of p (AtLoop locked uses s) turn u = outside s.start u
outside_of p Nowhere i u = nothing

-- what is used by the instance that ends with this number
abbrev pub uses_here : Code → Point → ℕ → Uses
uses_here p (InBlock locked s) i = scene_uses p s i
uses_here p (AtChoice locked s other) i = nothing
uses_here p (AtLoop locked uses s) turn = uses
uses_here p Nowhere i = nothing

-- the uses of the instance that this path leads to, of what is visible at the point
abbrev pub uses_from : Code → Point → List ℕ → Uses
uses_from p at [] = nothing
uses_from p at (i ∷ q) = if is_empty q then uses_here p at i else outside_of p at i (uses_from p (inside p at i) q)

-- the two part, and both use a resource that is visible there, in ways that do not go together
pub record Conflict (p : Code) (first second : Instance) : Type 0 where
  pub fork : Parting
  pub parts : parting p first second ≡ Some fork
  pub on : Resource
  pub conflict : IsConflict (uses_from p fork.at (fork.left ∷ fork.left_rest) on)
      (uses_from p fork.at (fork.right ∷ fork.right_rest) on)
