-- The context after a judged statement, told without the premises: by what is declared, and by which names move.
use Rattle.std.specs.Prelude.{ℕ, if◌then◌else◌, List, [], ◌∷◌, map, zip, filter_map, Option, None, Some, option_map}
use Rattle.ae_tree.specs.declared.tree.NameAt.{NameAt}
use Rattle.ae_tree.specs.declared.tree.Path.{Path}
use Rattle.ae_tree.specs.declared.tree.Class.{Class}
use Rattle.ae_tree.specs.declared.form.Form.{Form}
use Rattle.ae_tree.specs.Form.{form, bare_names}
use Rattle.ae_tree.specs.Plain.{Expression, Invocation, RightSide, Value, Taken, Zeros, Made, Returned, Lines, End}
use Rattle.ae_tree.specs.Plain.{Next, Definition, Code}
use Rattle.ae_tree.specs.Plain.{Action, Declares, Assigns, Stores, StoresAt, Calls, Chooses, ChoosesElse, Repeats}
use Rattle.ae_tree.specs.Plain.{Groups, Splits, Locks, Freezes, Shares, Prints, PrintsText, Asserts, Returns}
use Rattle.ae_rules.specs.declared.held.Held.TheVariants as held
use Rattle.ae_rules.specs.declared.held.GroupPerm.TheVariants as group
use Rattle.ae_rules.specs.Verdict.{given}
use Rattle.ae_rules.specs.Lookups.{has_name, class_called, field_form, field_of}
use Rattle.ae_rules.specs.Groups.{with_group}
use Rattle.ae_rules.specs.Context.{Local, Context, held_of, with_local, with_held, with_name_moved, closed}
use Rattle.ae_rules.specs.Into.{name_into}
use Rattle.ae_rules.specs.Calls.{Callee, callee_of, top_callee, ParamSlot, group_in, slots, givens}
use Rattle.ae_rules.specs.Statements.{while_split, while_locked}

-- ---- names that move

-- nothing is held of these any more
abbrev pub all_moved : List ℕ → Context → Context
all_moved xs c = record c {
  local =
      λ y. if has_name xs y then option_map (λ (l : Local). record l { held = held.None }) (c.local y) else c.local y;
}

-- the form of the place that these steps lead to
abbrev pub form_along : Code → Form → List NameAt → Option Form
form_along p t [] = Some t
form_along p t (x ∷ xs) = given (field_of p t x.name) None (λ (u : Form). form_along p u xs)

abbrev pub form_at : Code → Context → Path → Option Form
form_at p c path = given (c.local path.root.name) None (λ (l : Local). form_along p l.form path.steps)

-- the method that is called
abbrev pub callee_for : Code → Context → Option Path → NameAt → Option Callee
callee_for p c None x = top_callee p x.name
callee_for p c (Some path) x = given (form_at p c path) None (λ (t : Form). callee_of p t x.name)

-- the name that is given away for good: to a unique parameter that does not come back
abbrev pub gone_name : ParamSlot × Expression → Option ℕ
gone_name x = if x.0.away then name_into x.0.form x.1 else None

-- a call takes only the names that it is given for good
abbrev pub call_effect : Code → Context → Invocation → Context
call_effect p c i = given (callee_for p c i.on i.method) c (λ (m : Callee).
    all_moved (filter_map gone_name (zip (slots p (group_in m i.groups) m.method) (givens i))) c)

-- a new object takes the names that go into its unique fields
abbrev pub made_effect : Code → Context → NameAt → List NameAt → List Expression → Context
made_effect p c x gs args = given (class_called p x.name) c (λ (k : Class).
    all_moved (filter_map (λ (y : Form × Expression). name_into y.0 y.1)
    (zip (map (field_form k (bare_names gs)) k.fields) args)) c)

-- a right side that goes into a form
abbrev pub right_effect : Code → Context → Form → RightSide → Context
right_effect p c target (Value e) = with_name_moved (name_into target e) c
right_effect p c target (Taken path at) = c
right_effect p c target (Zeros e at) = c
right_effect p c target (Made x gs args at) = made_effect p c x gs args
right_effect p c target (Returned i) = call_effect p c i

-- ---- statements

abbrev pub assign_effect : Code → Context → NameAt → RightSide → Context
assign_effect p c x e = given (c.local x.name) c
    (λ (l : Local). with_held x.name (held_of l.form) (right_effect p c l.form e))

abbrev pub store_effect : Code → Context → Path → Expression → Context
store_effect p c path e = given (form_at p c path) c (λ (t : Form). with_name_moved (name_into t e) c)

abbrev pub return_effect : Definition → Context → Expression → Context
return_effect m c e = given m.result c (λ t. with_name_moved (name_into (form t) e) c)

abbrev mutual
  -- The context after a statement of a method, from the one before it. A loop and a lone branch leave it as it was.
  pub effect : Code → Definition → Action → Context → Context
  effect p m (Declares t x e) c = with_local x.name (form t) (right_effect p c (form t) e)
  effect p m (Assigns x e) c = assign_effect p c x e
  effect p m (Stores path e) c = store_effect p c path e
  effect p m (StoresAt path i e) c = c
  effect p m (Calls i) c = call_effect p c i
  effect p m (Chooses e n b) c = c
  effect p m (ChoosesElse e n b k b') c = closed c (lines_effect p m b' c)
  effect p m (Repeats e n b) c = c
  effect p m (Groups g) c = record c { group = with_group g.name group.Exclusive c.group }
  effect p m (Splits gs n b) c = closed c (lines_effect p m b (while_split gs c))
  effect p m (Locks g n b) c = closed c (lines_effect p m b (while_locked g.name c))
  effect p m (Freezes x) c = with_held x.name held.Immutable c
  effect p m (Shares x g) c = with_held x.name (held.Shared g.name) c
  effect p m (Prints e) c = c
  effect p m (PrintsText s) c = c
  effect p m (Asserts e) c = c
  effect p m (Returns e) c = return_effect m c e

  -- the context after statements in order
  pub lines_effect : Code → Definition → Lines → Context → Context
  lines_effect p m End c = c
  lines_effect p m (Next at a rest) c = lines_effect p m rest (effect p m a c)
