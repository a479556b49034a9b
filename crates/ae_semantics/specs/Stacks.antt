-- A statement as a stack of what is still to be done of it, for a body that stops and goes on.
use Rattle.std.specs.Prelude.{ℕ, List, [], ◌∷◌, ◌++◌, Option, None, Some}
use Rattle.ae_text.specs.declared.refusal.Spot.{Spot}
use Rattle.ae_tree.specs.declared.tree.NameAt.{NameAt}
use Rattle.ae_tree.specs.declared.form.Form.{Form}
use Rattle.ae_tree.specs.Plain.{Action, Expression, Invocation, Lines}
use Rattle.ae_rules.specs.Context.{Context}
use Rattle.ae_rules.specs.Blocks.{Scene}
use Rattle.ae_semantics.specs.Values.{Val}
use Rattle.ae_semantics.specs.Places.{CellName, State}
use Rattle.ae_semantics.specs.declared.report.Piece.{Piece}
use Rattle.ae_semantics.specs.Runs.{Went, Act, and_then, outcome_given, Where, Machine}
use Rattle.ae_semantics.specs.Calls.{CallFrame, leave}
use Rattle.ae_semantics.specs.Blocks.{all_come_back, cell_of}
use Rattle.ae_semantics.specs.Meaning.{result_to, again, many, forgotten, below}
use Rattle.ae_semantics.specs.Gathering.{doing}
use Rattle.std.specs.Prelude.{map}

-- where the result of a call goes: to a local of this form, or nowhere
pub record ResultPlace : Type 0 where
  pub name : ℕ
  pub form : Form

-- What is still to be done. With its fuel: a statement; the statements of a whole block from a number on; a loop from a
-- turn on. The names of a block end; the groups of a split block come back, with the state and the log before it; a
-- call is left, with the caller's state.
pub data ToDo : Type 0 where
  TheStatement : ℕ → Where → Spot → Action → ToDo
  TheLines : ℕ → Where → Scene → ℕ → Lines → ToDo
  TheTurns : ℕ → Where → ℕ → Spot → Expression → Lines → ToDo
  TheNames : Context → ToDo
  TheGroups : Where → List NameAt → State → List Piece → ToDo
  TheCall : Spot → Invocation → CallFrame → State → Option ResultPlace → ToDo

-- the result of a call goes where it is wanted
abbrev pub result_goes : {W : Type 0} → Spot → Option ResultPlace → Option Val → Act W
result_goes at None r s n = Went s n
result_goes at (Some place) r s n = result_to at place.name place.form r s n

-- one thing is done
abbrev pub done_now : {W : Type 0} → Machine W → ToDo → Act W
done_now m (TheStatement fuel here at a) s n = doing m fuel here at a s n
done_now m (TheLines fuel here all j lines) s n = many m (below m fuel) here all j lines [] s n
done_now m (TheTurns fuel here t at e b) s n = again m (below m fuel) here t at e b s n
done_now m (TheNames c) s n = Went (forgotten c s) n
done_now m (TheGroups here gs before log) s n = all_come_back m here gs before log s n
done_now m (TheCall at i f before place) s n = outcome_given (leave f i before s) at n
    (λ t. result_goes at place s.result t n)

-- what a stack does, its first thing first
abbrev pub done_all : {W : Type 0} → Machine W → List ToDo → Act W
done_all m [] s n = Went s n
done_all m (x ∷ xs) s n = and_then (done_now m x s n) (done_all m xs)

-- the cells of the split blocks in which a stack stands
abbrev pub cells_entered_in : List ToDo → List CellName
cells_entered_in [] = []
cells_entered_in (TheGroups here gs before log ∷ xs) = map (λ (g : NameAt). cell_of here g.name) gs
    ++ cells_entered_in xs
cells_entered_in (_ ∷ xs) = cells_entered_in xs
