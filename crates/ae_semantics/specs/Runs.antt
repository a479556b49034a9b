-- Runs, one after another, and the two ways through a block: up to the first ending, and past what stopped.
use Rattle.std.specs.Prelude.{ℕ, suc, Bool, true, false, if◌then◌else◌, List, [], ◌∷◌, ◌++◌, length, Option, None}
use Rattle.std.specs.Prelude.{Some, ⊤}
use Rattle.std.specs.List.{list_any}
use Rattle.ae_text.specs.declared.refusal.Spot.{Spot}
use Rattle.ae_tree.specs.declared.tree.NameAt.{NameAt}
use Rattle.ae_rules.specs.declared.uses.Resource.TheVariants as resource
use Rattle.ae_tree.specs.Plain.{Expression, Lines, Definition, Code}
use Rattle.ae_rules.specs.Context.{Context}
use Rattle.ae_rules.specs.Statements.{while_split, while_locked}
use Rattle.ae_rules.specs.EdgeLists.{is_edge}
use Rattle.ae_rules.specs.Blocks.{Scene, block_at, scene_uses}
use Rattle.ae_rules.specs.Instances.{Instance}
use Rattle.ae_semantics.specs.Places.{Outcome, Fine, Traps, Lacks, State}
use Rattle.ae_semantics.specs.Contexts.{shuts_out}
use Rattle.ae_semantics.specs.declared.report.Ending.{Ending}
use Rattle.ae_semantics.specs.declared.report.Ending.TheVariants.{Trap, Fuel}
use Rattle.ae_semantics.specs.declared.report.Piece.{Piece}
use Rattle.ae_semantics.specs.Observations.{Mark, Stopped, Notes, Observer}

-- ---- runs

-- statements go through, or end the run, or stop for want of an observation
pub data Run (W : Type 0) : Type 0 where
  Went : State → Notes W → Run W
  Ends : Ending → Notes W → Run W
  Stops : Notes W → Run W

-- what is done from a state
abbrev pub Act : Type 0 → Type 0
Act W = State → Notes W → Run W

-- first the one, then the other
abbrev pub and_then : {W : Type 0} → Run W → Act W → Run W
and_then (Went s n) go = go s n
and_then (Ends ending n) go = Ends ending n
and_then (Stops n) go = Stops n

-- a trap in an expression or a place stands at its statement
abbrev pub outcome_given : {A W : Type 0} → Outcome A → Spot → Notes W → (A → Run W) → Run W
outcome_given (Fine x) at n go = go x
outcome_given (Traps code) at n go = Ends (Trap code at) n
outcome_given Lacks at n go = Stops n

-- what takes one of the fuel; with none left the run ends
abbrev pub paid : {A W : Type 0} → Option A → Spot → Notes W → (A → Run W) → Run W
paid None at n go = Ends (Fuel at) n
paid (Some run) at n go = go run

-- the one or the other, by a test
abbrev pub chosen : {W : Type 0} → Bool → (⊤ → Run W) → (⊤ → Run W) → Run W
chosen true yes_then no_then = yes_then tt
chosen false yes_then no_then = no_then tt

-- the notes with one mark more
abbrev pub marked : {W : Type 0} → Mark → Notes W → Notes W
marked m n = record n { marks = n.marks ++ (m ∷ []) }

-- the notes with these pieces in the log
abbrev pub logged : {W : Type 0} → List Piece → Notes W → Notes W
logged pieces n = record n { log = n.log ++ pieces }

-- ---- where a statement stands

-- a method and its number, the depth of its call, the path to the block or statement, the context there, and whether an atomic block runs around it
pub record Where : Type 0 where
  pub number : ℕ
  pub method : Definition
  pub depth : ℕ
  pub path : Instance
  pub context : Context
  pub inside : Bool

-- one number further in
abbrev pub deeper : ℕ → Where → Where
deeper i here = record here { path = here.path ++ (i ∷ []) }

-- the same place in another context
abbrev pub knowing : Context → Where → Where
knowing c here = record here { context = c }

-- where a split block begins
abbrev pub splitting : List NameAt → Where → Where
splitting gs here = knowing (while_split gs here.context) here

-- where an atomic block begins
abbrev pub locking : NameAt → Where → Where
locking g here = knowing (while_locked g.name here.context) here

-- a whole block that begins here
abbrev pub whole_block : Lines → Where → Scene
whole_block b here = block_at here.method b here.context

-- ---- the ways through a block

-- How the statements of a block follow each other. `step` takes the whole block, a statement's number, those that were barred so far,
-- what the statement does, and what follows with the barred ones; `close` ends the block.
pub record Order (W : Type 0) : Type 0 where
  pub step : Where → Scene → ℕ → List ℕ → Act W → (List ℕ → Act W) → Act W
  pub close : List ℕ → Act W

-- up to the first ending
abbrev pub stopping : {W : Type 0} → Order W
stopping = record {
  step = λ here all j barred act next s n. and_then (act s n) (next barred);
  close = λ barred s n. Went s n;
}

-- what a statement that did not go through uses by Write or GroupWhole is absent from then on
abbrev pub absent : Code → Scene → ℕ → State → State
absent p all j s = record s {
  locals = λ x. if shuts_out (scene_uses p all j (resource.Local x)) then None else s.locals x;
  groups = λ g. if shuts_out (scene_uses p all j (resource.Group g)) then None else s.groups g;
}

-- what follows a statement: where it did not go through, it is barred, and that is noted
abbrev pub gone_on : {W : Type 0} → Run W → Instance → ℕ → List ℕ → State → (List ℕ → Act W) → Run W
gone_on (Went s n) path j barred kept next = next barred s n
gone_on (Ends ending n) path j barred kept next = next (j ∷ barred) kept (marked (Stopped path (Some ending)) n)
gone_on (Stops n) path j barred kept next = next (j ∷ barred) kept (marked (Stopped path None) n)

-- an edge leads to the statement from a barred one; a statement that is left out is barred itself, so no chain is asked for
abbrev pub is_left_out : Code → Scene → ℕ → List ℕ → Bool
is_left_out p all j barred = list_any (λ i. is_edge (length p.names) (scene_uses p all) i j) barred

-- a statement past what stopped: it is left out, or done and barred where it does not go through
abbrev pub flow_step : {W : Type 0} → Code → Where → Scene → ℕ → List ℕ → Act W → (List ℕ → Act W) → Act W
flow_step p here all j barred act next s n = chosen (is_left_out p all j barred)
    (λ _. next (j ∷ barred) (absent p all j s) n)
    (λ _. gone_on (act s n) (here.path ++ (j ∷ [])) j barred (absent p all j s) next)

-- a block with a barred statement stops
abbrev pub flow_close : {W : Type 0} → List ℕ → Act W
flow_close [] s n = Went s n
flow_close (j ∷ barred) s n = Stops n

-- past what stopped: a statement after a barred one, by an edge, is left out, and a block with a barred statement stops
abbrev pub flowing : {W : Type 0} → Code → Order W
flowing p = record { step = flow_step p; close = flow_close }

-- the program, what answers, and the way through blocks
pub record Machine (W : Type 0) : Type 0 where
  pub code : Code
  pub observer : Observer W
  pub order : Order W

-- With one of the fuel spent: how much is left, what a block does, and a loop from a turn on.
pub record Below (W : Type 0) : Type 0 where
  pub fuel : ℕ
  pub block : Where → Lines → Act W
  pub again : Where → ℕ → Spot → Expression → Lines → Act W

-- the fuel of a block, by what there is with one less
abbrev pub fuel_of : {W : Type 0} → Option (Below W) → ℕ
fuel_of None = 0
fuel_of (Some below) = suc below.fuel
