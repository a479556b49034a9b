-- What became of the statements of a block, against its run in source order.
use Rattle.std.specs.Prelude.{◌≡◌, ◌<◌, ◌≤◌, ◌⊎◌, ◌++◌, ℕ, Bool, true, false, List, [], ◌∷◌, length, slice_index_or}
use Rattle.std.specs.Prelude.{slice_set, Option, None, Some, Contains}
use Rattle.ae_tree.specs.Plain.{Lines, Code}
use Rattle.ae_tree.specs.Limits.{statement_count}
use Rattle.ae_rules.specs.Edges.{BlockUses}
use Rattle.ae_meaning.specs.declared.report.Ending.{Ending}
use Rattle.ae_meaning.specs.declared.report.Ending.TheVariants.{Done}
use Rattle.ae_meaning.specs.Values.{Env}
use Rattle.ae_meaning.specs.Meaning.{TodayState, Run, Went, Ends, Stops}
use Rattle.ae_meaning.specs.Running.{held}
use Rattle.ae_run.specs.declared.course.Fate.{Fate}
use Rattle.ae_run.specs.declared.course.Fate.TheVariants as fate
use Rattle.ae_run.specs.declared.course.Outcome.{Outcome}
use Rattle.ae_run.specs.declared.course.Outcome.TheVariants as outcome
use Rattle.ae_run.specs.declared.course.First.{First}
use Rattle.ae_run.specs.declared.course.Course.{Course}
use Rattle.ae_graph.specs.Graph.{Graph, preds_in}
use Rattle.ae_run.specs.Main.{main_lines, main_uses}
use Rattle.ae_run.specs.Flow.{turn, IsClosed, HasValues, Prints}

abbrev pub is_went : Fate → Bool
is_went fate.Waiting = false
is_went (fate.Went piece) = true
is_went fate.Stopped = false

-- a statement's turn has come
abbrev pub is_taken : Fate → Bool
is_taken fate.Waiting = false
is_taken (fate.Went piece) = true
is_taken fate.Stopped = true

abbrev pub fate_at : List Fate → ℕ → Fate
fate_at fates j = slice_index_or fates j fate.Waiting

abbrev pub went : List Fate → ℕ → Bool
went fates j = is_went (fate_at fates j)

abbrev pub was_taken : List Fate → ℕ → Bool
was_taken fates j = is_taken (fate_at fates j)

-- the bytes that statements printed, in source order
abbrev pub piece_of : Fate → List ℕ
piece_of fate.Waiting = []
piece_of (fate.Went piece) = piece
piece_of fate.Stopped = []

abbrev pub pieces : List Fate → List ℕ
pieces [] = []
pieces (f ∷ fs) = piece_of f ++ pieces fs

-- an ending is known before this statement
abbrev pub IsBehind : Option First → ℕ → Type 0
IsBehind None j = ⊥
IsBehind (Some first) j = first.at < j

-- an ending is known at this statement or before it
abbrev pub IsAtOrBehind : Option First → ℕ → Type 0
IsAtOrBehind None j = ⊥
IsAtOrBehind (Some first) j = first.at ≤ j

-- a statement went through as in source order; or it stands at an ending or after one; or it has no ending in source order
abbrev pub IsFate : Lines → Option First → ℕ → Fate → Type 0
IsFate b first j fate.Waiting = Unit {0}
IsFate b first j (fate.Went piece) = Prints (turn b j) piece
IsFate b first j fate.Stopped = IsAtOrBehind first j ⊎ (turn b j ≡ Stops [])

-- a known ending is that of its statement in source order
abbrev pub IsFirst : Lines → List Fate → Option First → Type 0
IsFirst b fates None = Unit {0}
IsFirst b fates (Some first) = (first.at < length fates) × (fate_at fates first.at ≡ fate.Stopped)
    × (turn b first.at ≡ Ends first.ending [])

-- all that is kept between two statements of a block that uses resources so
pub record IsRight (b : Lines) (uses : BlockUses) (all : List Fate) (known : Option First) (s : TodayState) : Type
    0 where
  pub size : length all ≡ statement_count b
  pub log : s.log ≡ []
  pub closed : IsClosed uses (went all)
  pub values : HasValues b uses (went all) s.env
  pub fates : (j : ℕ) → IsFate b known j (fate_at all j)
  pub first : IsFirst b all known

-- what became of the statements of a program is right
abbrev pub IsOnCourse : Code → Course → Type 0
IsOnCourse p c = IsRight (main_lines p) (main_uses p) c.fates.items c.first (held c.state)

-- what came of a statement, against its run: the locals are those after it, and nothing printed is left over
abbrev pub Gives : Run → Env → Outcome → TodayState → Type 0
Gives run env (outcome.Went piece) s = (run ≡ Went (record { env = s.env; log = piece })) × (s.log ≡ [])
Gives run env (outcome.Ended ending) s = (run ≡ Ends ending s.log) × (s.env ≡ env)
Gives run env outcome.Lacks s = (run ≡ Stops s.log) × (s.env ≡ env)

-- one statement's turn came, and it went through or not
pub record Settles (old new : List Fate) (j : ℕ) (through : Bool) : Type 0 where
  pub fate : Fate
  pub is : new ≡ slice_set old j fate
  pub taken : is_taken fate ≡ true
  pub went : is_went fate ≡ through

-- the ending of a run that is over
abbrev pub course_ending : Option First → Ending
course_ending None = Done
course_ending (Some first) = first.ending

-- the statement at which a run ended, or how many there are
abbrev pub course_end : Option First → ℕ → ℕ
course_end None n = n
course_end (Some first) n = first.at

-- the turn of each statement came for which all that it waits for went through
abbrev pub IsOver : Graph → List Fate → Type 0
IsOver g fates = (j : ℕ) → j < length g → ((i : ℕ) → Contains (preds_in g j) i → went fates i ≡ true)
    → was_taken fates j ≡ true
