-- A call of a judged statement.
use Rattle.std.specs.Prelude.{◌≡◌, Some}
use Rattle.ae_text.specs.declared.refusal.Spot.{Spot}
use Rattle.ae_tree.specs.declared.tree.NameAt.{NameAt}
use Rattle.ae_tree.specs.declared.tree.Ty.{Ty}
use Rattle.ae_tree.specs.Form.{form}
use Rattle.ae_tree.specs.Plain.{Action, Assigns, Calls, Code, Declares, Definition, Invocation, Returned}
use Rattle.ae_rules.specs.Verdict.{Holds}
use Rattle.ae_rules.specs.Context.{Context}
use Rattle.ae_rules.specs.Statements.{judge_statement}
use Rattle.ae_names.specs.Known.{AreKnown}
use Rattle.ae_starts.specs.Laws.{call_in}
use Rattle.ae_levels.specs.Levels.{Aim, NamesInOrder, Nowhere, ToNew, ToOld}

-- the statement calls this, and its result goes where it is aimed at
abbrev pub CallsFor : Action → Invocation → Aim → Type 0
CallsFor a i Nowhere = a ≡ Calls i
CallsFor a i (ToNew f x) = (t : Ty) × (n : NameAt) × (a ≡ Declares t n (Returned i)) × (f ≡ form t) × (x ≡ n.name)
CallsFor a i (ToOld x) = (n : NameAt) × (a ≡ Assigns n (Returned i)) × (x ≡ n.name)

-- the call is that of a judged statement, where these names are known
pub record IsJudgedCall (p : Code) (names : NamesInOrder) (i : Invocation) : Type 0 where
  pub method : Definition
  pub at : Spot
  pub action : Action
  pub before : Context
  pub after : Context
  pub calls : call_in action ≡ Some i
  pub judged : judge_statement p method at action before ≡ Holds after
  pub known : AreKnown before names
