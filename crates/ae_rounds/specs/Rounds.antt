-- A round of tasks, and how it goes on: which task runs on which seat, and which seat holds which cell.
use Rattle.std.specs.Prelude.{◌≡◌, ◌≢◌, ◌<◌, ◌⊎◌, ℕ, zero, suc, nat_eq, Bool, true, false, if◌then◌else◌, List, []}
use Rattle.std.specs.Prelude.{◌∷◌, Option, None, Some, Contains}
use Rattle.ae_text.specs.declared.refusal.Edge.{Edge}

-- ---- the shape of a round

-- how many tasks and cells there are, which tasks may run, and which task waits for which
pub record Round : Type 0 where
  pub tasks : ℕ
  pub may : ℕ → Bool
  pub edges : List Edge
  pub cells : ℕ

-- there is an edge from task t to task u
abbrev pub IsEdge : Round → ℕ → ℕ → Type 0
IsEdge r t u = Contains r.edges (record { from = t; to = u })

-- each edge leads from a lower number to a higher one, and to a task
abbrev pub IsShape : Round → Type 0
IsShape r = (t u : ℕ) → IsEdge r t u → (t < u) × (u < r.tasks)

-- that many tasks lie on the way along edges from t to u
abbrev pub IsWay : Round → ℕ → ℕ → ℕ → Type 0
IsWay r zero t u = IsEdge r t u
IsWay r (suc n) t u = (v : ℕ) × IsEdge r t v × IsWay r n v u

-- a chain of edges leads from t to u
abbrev pub IsChain : Round → ℕ → ℕ → Type 0
IsChain r t u = (n : ℕ) × IsWay r n t u

-- t is a task of the round that may run
abbrev pub MayRun : Round → ℕ → Type 0
MayRun r t = (t < r.tasks) × (r.may t ≡ true)

-- ---- configurations

pub data Stage : Type 0 where
  Waiting : Stage
  Running : Stage
  Finished : Stage
  Stopped : Stage
  Aside : Stage

-- Of each task its stage, and of each cell whether it is held. Of each seat the task that it runs, and the cell that it
-- holds.
pub record Configuration : Type 0 where
  pub stage : ℕ → Stage
  pub held : ℕ → Bool
  pub runs : ℕ → Option ℕ
  pub holds : ℕ → Option ℕ

-- all tasks wait, and all cells are free
abbrev pub first : Configuration
first = record { stage = λ t. Waiting; held = λ k. false; runs = λ s. None; holds = λ s. None }

-- each task from which an edge leads to u is finished
abbrev pub ArePassed : Round → Configuration → ℕ → Type 0
ArePassed r c u = (t : ℕ) → IsEdge r t u → c.stage t ≡ Finished

-- ---- events

-- Of a seat: it begins a task; it ends its task, which went through or stopped; it takes a cell; it leaves a cell; it
-- sets its task aside.
pub data RoundEvent : Type 0 where
  Begin : (seat : ℕ) → (task : ℕ) → RoundEvent
  Finish : (seat : ℕ) → (stopped : Bool) → RoundEvent
  Take : (seat : ℕ) → (cell : ℕ) → RoundEvent
  Leave : (seat : ℕ) → (cell : ℕ) → RoundEvent
  SetAside : (seat : ℕ) → RoundEvent

-- the seat runs a task and holds no cell
abbrev pub HasHandsFree : Configuration → ℕ → Type 0
HasHandsFree c s = ((t : ℕ) × (c.runs s ≡ Some t)) × (c.holds s ≡ None)

-- the event may happen
abbrev pub Needs : Round → Configuration → RoundEvent → Type 0
Needs r c (Begin s t) = (c.runs s ≡ None) × MayRun r t × (c.stage t ≡ Waiting) × ArePassed r c t
Needs r c (Finish s stopped) = HasHandsFree c s
Needs r c (Take s k) = HasHandsFree c s × (k < r.cells) × (c.held k ≡ false)
Needs r c (Leave s k) = c.holds s ≡ Some k
Needs r c (SetAside s) = HasHandsFree c s

-- the same function but for its value at k
abbrev pub put : {A : Type 0} → ℕ → A → (ℕ → A) → ℕ → A
put k x f n = if nat_eq n k then x else f n

-- the seat no more runs this task, which is now in that stage
abbrev pub released : Configuration → ℕ → Option ℕ → Stage → Configuration
released c s None stage = c
released c s (Some t) stage = record {
  stage = put t stage c.stage;
  held = c.held;
  runs = put s None c.runs;
  holds =
      c.holds;
}

abbrev pub ended_as : Bool → Stage
ended_as stopped = if stopped then Stopped else Finished

-- what the event makes of a configuration
abbrev pub changed : Configuration → RoundEvent → Configuration
changed c (Begin s t) = record {
  stage = put t Running c.stage;
  held = c.held;
  runs = put s (Some t) c.runs;
  holds =
      c.holds;
}
changed c (Finish s stopped) = released c s (c.runs s) (ended_as stopped)
changed c (Take s k) = record {
  stage = c.stage;
  held = put k true c.held;
  runs = c.runs;
  holds =
      put s (Some k) c.holds;
}
changed c (Leave s k) = record { stage = c.stage; held = put k false c.held; runs = c.runs; holds = put s None c.holds }
changed c (SetAside s) = released c s (c.runs s) Aside

-- the event leads from one configuration to the other
abbrev pub Happens : Round → Configuration → RoundEvent → Configuration → Type 0
Happens r c e d = Needs r c e × (d ≡ changed c e)

-- the events, in turn, lead from one configuration to the other
abbrev pub Course : Round → Configuration → List RoundEvent → Configuration → Type 0
Course r c [] d = d ≡ c
Course r c (e ∷ es) d = (m : Configuration) × Happens r c e m × Course r m es d

-- ---- what holds of configurations

-- What holds at each moment of a round. By its type a configuration gives a seat one task and one cell at most.
pub record Lawful (r : Round) (c : Configuration) : Type 0 where
  pub running_is_run : (t : ℕ) → c.stage t ≡ Running → (s : ℕ) × (c.runs s ≡ Some t)
  pub run_by_one : (t s u : ℕ) → c.runs s ≡ Some t → c.runs u ≡ Some t → s ≡ u
  pub run_is_running : (s t : ℕ) → c.runs s ≡ Some t → c.stage t ≡ Running
  pub held_is_kept : (k : ℕ) → c.held k ≡ true → (s : ℕ) × (c.holds s ≡ Some k)
  pub kept_by_one : (k s u : ℕ) → c.holds s ≡ Some k → c.holds u ≡ Some k → s ≡ u
  pub kept_is_held : (s k : ℕ) → c.holds s ≡ Some k → c.held k ≡ true
  pub idle_holds_none : (s : ℕ) → c.runs s ≡ None → c.holds s ≡ None
  pub begun_may : (t : ℕ) → c.stage t ≢ Waiting → MayRun r t
  pub begun_passed : (t : ℕ) → c.stage t ≢ Waiting → ArePassed r c t

-- no chain of edges joins two running tasks, and no cell is held by two seats
pub record ConflictFree (r : Round) (c : Configuration) : Type 0 where
  pub apart : (t u : ℕ) → c.stage t ≡ Running → c.stage u ≡ Running → IsChain r t u → ⊥
  pub kept_by_one : (k s u : ℕ) → c.holds s ≡ Some k → c.holds u ≡ Some k → s ≡ u

-- Of two tasks that may both run, a chain of edges leads from the one of the lower number to the other where they
-- conflict, and from the first to the second where they are ordered so. Tasks are numbered in source order, so the
-- lower number is the first in source order.
pub record IsSound (r : Round) (Conflict Ordered : ℕ → ℕ → Type 0) : Type 0 where
  pub conflicts : (t u : ℕ) → MayRun r t → MayRun r u → t < u → Conflict t u ⊎ Conflict u t → IsChain r t u
  pub orders : (t u : ℕ) → MayRun r t → MayRun r u → Ordered t u → IsChain r t u

-- no two tasks that run are in conflict, and none that runs is ordered after another that does
pub record IsCalm (c : Configuration) (Conflict Ordered : ℕ → ℕ → Type 0) : Type 0 where
  pub conflicts : (t u : ℕ) → c.stage t ≡ Running → c.stage u ≡ Running → t ≢ u → Conflict t u → ⊥
  pub orders : (t u : ℕ) → c.stage t ≡ Running → c.stage u ≡ Running → Ordered t u → ⊥
