-- The judged_statements of a method with the contexts in which they are judged.
use Rattle.std.specs.Prelude.{◌≡◌, ℕ, List, [], ◌∷◌, Some}
use Rattle.ae_text.specs.declared.refusal.Spot.{Spot}
use Rattle.ae_tree.specs.declared.form.Form.TheVariants as form_of
use Rattle.ae_tree.specs.Plain.{Action, Lines, End, Next, Definition, Code}
use Rattle.ae_tree.specs.Built.{IsBuiltAction, AreBuilt}
use Rattle.ae_rules.specs.Verdict.{Holds, judged}
use Rattle.ae_rules.specs.Edges.{Uses}
use Rattle.ae_rules.specs.Context.{Local, Context}
use Rattle.ae_rules.specs.Statements.{judge_statement, judge_lines}
use Rattle.ae_rules.specs.Uses.{statement_uses}

-- a statement at its place, and the context before it
pub record Statement : Type 0 where
  pub at : Spot
  pub action : Action
  pub context : Context

-- the judged_statements of a block that begins in this context, as far as they are judged
abbrev pub judged_statements : Code → Definition → Lines → Context → List Statement
judged_statements p m End c = []
judged_statements p m (Next at a rest) c = record { at = at; action = a; context = c }
    ∷ judged (judge_statement p m at a c) [] (judged_statements p m rest)

-- what a statement of a method uses
abbrev pub uses_at : Code → Definition → Statement → Uses
uses_at p m x = statement_uses p m x.action x.context

-- each visible local is an integer
abbrev pub Integers : Context → Type 0
Integers c = (x : ℕ) (l : Local) → c.local x ≡ Some l → l.form ≡ form_of.Int

-- a statement of a form that runs is judged where each visible local is an integer
pub record IsJudged (p : Code) (m : Definition) (x : Statement) : Type 0 where
  pub built : IsBuiltAction x.action
  pub integers : Integers x.context
  pub later : Context
  pub holds : judge_statement p m x.at x.action x.context ≡ Holds later

-- each of these judged_statements is judged
abbrev pub AreAllJudged : Code → Definition → List Statement → Type 0
AreAllJudged p m [] = Unit {0}
AreAllJudged p m (x ∷ xs) = IsJudged p m x × AreAllJudged p m xs

-- lines of forms that run are judged from a context where each visible local is an integer
pub record AreJudged (p : Code) (m : Definition) (b : Lines) (c : Context) : Type 0 where
  pub built : AreBuilt b
  pub integers : Integers c
  pub later : Context
  pub holds : judge_lines p m b c ≡ Holds later
