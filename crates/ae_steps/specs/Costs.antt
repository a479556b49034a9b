-- How much there is to do: a number that goes down with each step, so that a run ends.
use Rattle.std.specs.Prelude.{◌≡◌, ◌<◌, ℕ, zero, suc, ◌+◌, List, [], ◌∷◌, ⊤}
use Rattle.ae_tree.specs.Plain.{RightSide, Returned, Lines, End, Next, Definition, Code}
use Rattle.ae_tree.specs.Plain.{Action, Declares, Assigns, Calls, Chooses, ChoosesElse, Repeats, Splits, Locks}
use Rattle.ae_semantics.specs.Places.{State}
use Rattle.ae_semantics.specs.Observations.{Seen, Notes}
use Rattle.ae_semantics.specs.Runs.{Machine}
use Rattle.ae_semantics.specs.Stacks.{ToDo, TheStatement, TheLines, TheTurns, TheNames, TheGroups, TheCall}
use Rattle.ae_steps.specs.Steps.{GoesOn, first_left}

-- with some fuel: how much a call is, and a loop of these lines from a turn on
pub record Costs : Type 0 where
  pub call : ℕ
  pub turns : Lines → ℕ

-- a right side, which may be a call
abbrev pub right_cost : Costs → RightSide → ℕ
right_cost c (Returned i) = suc c.call
right_cost c e = 1

abbrev mutual
  -- a statement
  pub statement_cost : Costs → Action → ℕ
  statement_cost c (Declares t x e) = right_cost c e
  statement_cost c (Assigns x e) = right_cost c e
  statement_cost c (Calls i) = suc c.call
  statement_cost c (Chooses e nb b) = suc (suc (lines_cost c b))
  statement_cost c (ChoosesElse e nb b nc d) = suc (suc (lines_cost c b) + suc (lines_cost c d))
  statement_cost c (Repeats e nb b) = suc (c.turns b)
  statement_cost c (Splits gs nb b) = suc (suc (suc (lines_cost c b)))
  statement_cost c (Locks g nb b) = suc (suc (lines_cost c b))
  statement_cost c a = 1

  -- the statements of a block
  pub lines_cost : Costs → Lines → ℕ
  lines_cost c End = 1
  lines_cost c (Next at a rest) = suc (statement_cost c a + lines_cost c rest)

-- a block, at whose end its names end
abbrev pub block_cost : Costs → Lines → ℕ
block_cost c b = suc (lines_cost c b)

-- the bodies of all these methods
abbrev pub bodies_cost : Costs → List Definition → ℕ
bodies_cost c [] = 0
bodies_cost c (m ∷ ms) = block_cost c m.body + bodies_cost c ms

-- with one of the fuel more: a call may be one of any method, and is left at its end
abbrev pub one_more : Code → Costs → Costs
one_more p c = record {
  call = suc (bodies_cost c p.methods);
  turns = λ b. suc (block_cost c b + c.turns b);
}

-- with this fuel
abbrev pub costs : Code → ℕ → Costs
costs p zero = record { call = 0; turns = λ b. 1 }
costs p (suc fuel) = one_more p (costs p fuel)

-- one thing that is to be done
abbrev pub cost : Code → ToDo → ℕ
cost p (TheStatement fuel here at a) = statement_cost (costs p fuel) a
cost p (TheLines fuel here all j lines) = lines_cost (costs p fuel) lines
cost p (TheTurns fuel here t at e b) = (costs p fuel).turns b
cost p (TheNames c) = 1
cost p (TheGroups here gs before log) = 1
cost p (TheCall at i f before place) = 1

-- all that is to be done
abbrev pub stack_cost : Code → List ToDo → ℕ
stack_cost p [] = 0
stack_cost p (x ∷ xs) = cost p x + stack_cost p xs

-- What is left after a step is less than what was to be done.
abbrev pub StepsCostBy : Type 0 → Type 0
StepsCostBy W = (m : Machine W) (x : ToDo) (s t : State) (n k : Notes W) (ys : List ToDo)
    → first_left m x s n ≡ GoesOn ys t k → stack_cost m.code ys < cost m.code x

-- so it is with notes of nothing more, and with those that list what was answered
abbrev pub StepsCostByBoth : Type 0
StepsCostByBoth = StepsCostBy ⊤ × StepsCostBy (List Seen)
