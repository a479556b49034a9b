-- What cells are called is not read, nor is what was returned.
use Rattle.std.specs.Prelude.{◌≡◌, ℕ, Option}
use Rattle.ae_tree.specs.declared.tree.NameAt.{NameAt}
use Rattle.ae_tree.specs.declared.tree.Path.{Path}
use Rattle.ae_tree.specs.declared.form.Form.{Form}
use Rattle.ae_tree.specs.Plain.{Code, Expression}
use Rattle.ae_semantics.specs.Values.{Val}
use Rattle.ae_semantics.specs.Places.{CellName, State, Address, PlaceFound, open_form, step_to, walk_to, reach}
use Rattle.ae_semantics.specs.Expressions.{value}
use Rattle.ae_values.specs.declared.env.Env.{Env}
use Rattle.ae_values.specs.Environments.{state_in}
use Rattle.ae_reads.specs.Answers.{state_seen}

-- all that is read is the same in both states
pub record ReadAlike (p : Code) (s t : State) : Type 0 where
  pub opened : (at : Address) (form : Form) (v : Val) → open_form p s at form v ≡ open_form p t at form v
  pub stepped : (x : NameAt) (from : PlaceFound) → step_to p s x from ≡ step_to p t x from
  pub walked : (path : Path) → walk_to p s path ≡ walk_to p t path
  pub reached : (path : Path) → reach p s path ≡ reach p t path
  pub valued : (e : Expression) → value p s e ≡ value p t e

-- Each state that the meaning can see in an environment is read as the one that is seen there.
abbrev pub ReadsSeeNoCells : Type 0
ReadsSeeNoCells = (p : Code) (cells : ℕ → CellName) (r : Option Val) (env : Env)
    → ReadAlike p (state_in cells r env) (state_seen env)
