-- What may come of a round, whoever ran its tasks and in whatever order: a relation between a plan and a result.
use Rattle.std.specs.Prelude.{◌≡◌, ◌≤◌, ◌<◌, ◌+◌, ◌++◌, ◌↔◌, ◌⊎◌, ℕ, nat_eq, if◌then◌else◌, Bool, true, false, List}
use Rattle.std.specs.Prelude.{[], ◌∷◌, length, map, slice_get, Contains, Option, None, Some, option_map}
use Rattle.ae_text.specs.declared.refusal.Edge.{Edge}
use Rattle.ae_rounds.specs.Rounds.{Round, IsEdge, MayRun}
use Rattle.ae_text.specs.Numbers.{times}

-- ---- the work of a round

-- What the tasks of a round take and give: inputs, the carries on edges, outputs, bodies that are set aside, and
-- entries in the histories of cells.
pub record Work (I C O B E : Type 0) : Type 1 where
  -- the task with this input and these carries may give this output
  pub gives : I → List C → O → Type 0
  -- the task with this input and these carries may be set aside with this body
  pub pauses : I → List C → B → Type 0
  -- with these carries the task with this input can go on
  pub ready : I → List C → Type 0
  -- the body may ask for the cell of this number where it pauses
  pub names : B → ℕ → Type 0
  -- what the output puts on the edge of this number
  pub carry : O → ℕ → C
  -- the output is that of a task that did not go through
  pub stops : O → Bool
  -- when the task of this output began, and when it ended
  pub began : O → ℕ
  pub ended : O → ℕ
  -- the entries that each has added to the cell of this number
  pub input_entries : I → ℕ → List E
  pub output_entries : O → ℕ → List E
  pub body_entries : B → ℕ → List E
  -- the stamps that stand in each
  pub input_stamps : I → List ℕ
  pub carry_stamps : C → List ℕ
  pub output_stamps : O → List ℕ
  pub body_stamps : B → List ℕ
  pub stamp : E → ℕ

-- ---- plans and results

-- the task's own input, and whether it may run
pub record TaskPlan (I : Type 0) : Type 0 where
  pub own : I
  pub may : Bool

-- the tasks, which waits for which, the history of each cell, and a number above all stamps so far
pub record Plan (I E : Type 0) : Type 0 where
  pub tasks : List (TaskPlan I)
  pub edges : List Edge
  pub cells : List (List E)
  pub clock : ℕ

-- what became of a task: it did not begin; it went through; it did not go through; it was set aside
pub data TaskEnd (I O B : Type 0) : Type 0 where
  Never : I → TaskEnd I O B
  Finished : O → TaskEnd I O B
  Stopped : O → TaskEnd I O B
  Aside : B → TaskEnd I O B

pub record Result (I O B E : Type 0) : Type 0 where
  pub tasks : List (TaskEnd I O B)
  pub cells : List (List E)
  pub clock : ℕ

abbrev pub may_run : {I : Type 0} → Option (TaskPlan I) → Bool
may_run None = false
may_run (Some task) = task.may

-- the shape of the round
abbrev pub round_of : {I E : Type 0} → Plan I E → Round
round_of p = record {
  tasks = length p.tasks;
  may = λ t. may_run (slice_get p.tasks t);
  edges = p.edges;
  cells =
      length p.cells;
}

-- this is the input of the task
abbrev pub IsInput : {I E : Type 0} → Plan I E → ℕ → I → Type 0
IsInput {I} p t x = option_map (λ (task : TaskPlan I). task.own) (slice_get p.tasks t) ≡ Some x

-- this became of the task
abbrev pub IsEnd : {I O B E : Type 0} → Result I O B E → ℕ → TaskEnd I O B → Type 0
IsEnd r t e = slice_get r.tasks t ≡ Some e

-- the task ended with this output, gone through or not
abbrev pub IsOutput : {I O B E : Type 0} → Result I O B E → ℕ → O → Type 0
IsOutput r t o = IsEnd r t (Finished o) ⊎ IsEnd r t (Stopped o)

abbrev pub HasBegun : {I O B : Type 0} → TaskEnd I O B → Type 0
HasBegun (Never x) = ⊥
HasBegun (Finished o) = Unit {0}
HasBegun (Stopped o) = Unit {0}
HasBegun (Aside b) = Unit {0}

-- The edges that enter a task, in the plan's order: of each its number, and the task from which it leads. The first
-- edge has this number.
abbrev pub entering : ℕ → List Edge → ℕ → List (ℕ × ℕ)
entering n [] t = []
entering n (e ∷ es) t = if nat_eq e.to t then (n, e.from) ∷ entering (n + 1) es t else entering (n + 1) es t

-- each number is above the one before
abbrev pub AreRising : List ℕ → Type 0
AreRising [] = Unit {0}
AreRising (x ∷ []) = Unit {0}
AreRising (x ∷ y ∷ xs) = (x < y) × AreRising (y ∷ xs)

-- ---- what a task was given, and what it added

-- each of these edges comes from a task that went through, and the carries are those of their outputs
abbrev pub AreCarries : {I C O B E : Type 0} → Work I C O B E → Result I O B E → List (ℕ × ℕ) → List C → Type 0
AreCarries w r [] cs = cs ≡ []
AreCarries {I} {C} {O} {B} {E} w r (x ∷ xs) cs = (o : O) × (rest : List C) × IsEnd r x.1 (Finished o)
    × (cs ≡ w.carry o x.0 ∷ rest) × AreCarries w r xs rest

-- the task was given this input and these carries
abbrev pub IsGiven : {I C O B E : Type 0} → Work I C O B E → Plan I E → Result I O B E → ℕ → I → List C → Type 0
IsGiven w p r t x cs = IsInput p t x × AreCarries w r (entering 0 p.edges t) cs

-- the entries and the stamps in what became of a task
abbrev pub entries_in : {I C O B E : Type 0} → Work I C O B E → TaskEnd I O B → ℕ → List E
entries_in w (Never x) k = w.input_entries x k
entries_in w (Finished o) k = w.output_entries o k
entries_in w (Stopped o) k = w.output_entries o k
entries_in w (Aside b) k = w.body_entries b k

abbrev pub stamps_in : {I C O B E : Type 0} → Work I C O B E → TaskEnd I O B → List ℕ
stamps_in w (Never x) = w.input_stamps x
stamps_in w (Finished o) = w.output_stamps o
stamps_in w (Stopped o) = w.output_stamps o
stamps_in w (Aside b) = w.body_stamps b

-- the task has added these entries to the cell in this round
abbrev pub HasAdded : {I C O B E : Type 0} → Work I C O B E → Plan I E → Result I O B E → ℕ → ℕ → List E → Type 0
HasAdded {I} {C} {O} {B} {E} w p r t k es = (x : I) × (e : TaskEnd I O B) × IsInput p t x × IsEnd r t e
    × (entries_in w e k ≡ w.input_entries x k ++ es)

-- no stamp of these carries
abbrev pub IsNewTo : {I C O B E : Type 0} → Work I C O B E → I → List C → ℕ → Type 0
IsNewTo {I} {C} {O} {B} {E} w x cs s = (Contains (w.input_stamps x) s → ⊥)
    × ((c : C) → Contains cs c → Contains (w.carry_stamps c) s → ⊥)

-- the stamp is one that the task has added in this round: it stands in what became of the task, and not in what it was
-- given
abbrev pub HasDrawn : {I C O B E : Type 0} → Work I C O B E → Plan I E → Result I O B E → ℕ → ℕ → Type 0
HasDrawn {I} {C} {O} {B} {E} w p r t s =
    (x : I) × (cs : List C) × (e : TaskEnd I O B) × IsGiven w p r t x cs × IsEnd r t e × HasBegun e
    × Contains (stamps_in w e) s × IsNewTo w x cs s

-- The history of a cell goes on with what tasks have added to it: by rising stamp, all of it, and nothing twice.
pub record GoesOn {I C O B E : Type 0} (w : Work I C O B E) (p : Plan I E) (r : Result I O B E) (k : ℕ)
    (old new : List E) : Type 0 where
  pub added : List E
  pub whole : new ≡ old ++ added
  pub rising : AreRising (map w.stamp added)
  pub exact : (e : E) → Contains added e ↔ ((t : ℕ) × (es : List E) × HasAdded w p r t k es × Contains es e)
  pub once : (t u i j : ℕ) (es fs : List E) (e : E) → HasAdded w p r t k es → HasAdded w p r u k fs
      → slice_get es i ≡ Some e → slice_get fs j ≡ Some e → (t ≡ u) × (i ≡ j)

-- ---- the relation

-- The result is one that may come of the plan.
pub record Flow {I C O B E : Type 0} (w : Work I C O B E) (p : Plan I E) (r : Result I O B E) : Type 0 where
  pub all_tasks : length r.tasks ≡ length p.tasks
  pub all_cells : length r.cells ≡ length p.cells
  -- what has begun may run, and all for which it waits went through
  pub begun_may : (t : ℕ) (e : TaskEnd I O B) → IsEnd r t e → HasBegun e → MayRun (round_of p) t
  pub begun_passed : (t f : ℕ) (e : TaskEnd I O B) → IsEnd r t e → HasBegun e
      → IsEdge (round_of p) f t → (o : O) × IsEnd r f (Finished o)
  -- outputs and bodies are what the work allows for what the task was given
  pub outputs : (t : ℕ) (o : O) → IsOutput r t o → (x : I) × (cs : List C) × IsGiven w p r t x cs × w.gives x cs o
  pub finished : (t : ℕ) (o : O) → IsEnd r t (Finished o) → w.stops o ≡ false
  pub stopped : (t : ℕ) (o : O) → IsEnd r t (Stopped o) → w.stops o ≡ true
  pub bodies : (t : ℕ) (b : B) → IsEnd r t (Aside b) → (x : I) × (cs : List C) × IsGiven w p r t x cs × w.pauses x cs b
  -- what has not begun has its own input
  pub never : (t : ℕ) (x : I) → IsEnd r t (Never x) → IsInput p t x
  pub cells : (k : ℕ) (old new : List E) → slice_get p.cells k ≡ Some old → slice_get r.cells k ≡ Some new
      → GoesOn w p r k old new
  -- the stamps that tasks have added differ from each other, and lie between the two clocks
  pub drawn_by_one : (t u s : ℕ) → HasDrawn w p r t s → HasDrawn w p r u s → t ≡ u
  pub drawn_once : (t s : ℕ) (e : TaskEnd I O B) → HasDrawn w p r t s → IsEnd r t e → times s (stamps_in w e) ≡ 1
  -- that an output began before it ended follows where its task has added two stamps; it is kept for readers
  pub began_before : (t : ℕ) (o : O) → IsOutput r t o → w.began o < w.ended o
  pub in_time : (t s : ℕ) → HasDrawn w p r t s → (p.clock ≤ s) × (s < r.clock)
  pub clock : p.clock ≤ r.clock
  -- a stamp that a task has added is above all in the outputs for which it waited
  pub above : (f t s z : ℕ) (o : O) → IsEdge (round_of p) f t → HasDrawn w p r t s → IsEnd r f (Finished o)
      → Contains (w.output_stamps o) z → z < s
  -- an output begins with the least stamp that its task has added, and ends with the greatest
  pub began_drawn : (t : ℕ) (o : O) → IsOutput r t o → HasDrawn w p r t (w.began o)
  pub ended_drawn : (t : ℕ) (o : O) → IsOutput r t o → HasDrawn w p r t (w.ended o)
  pub began_least : (t s : ℕ) (o : O) → IsOutput r t o → HasDrawn w p r t s → w.began o ≤ s
  pub ended_greatest : (t s : ℕ) (o : O) → IsOutput r t o → HasDrawn w p r t s → s ≤ w.ended o
