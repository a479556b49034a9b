-- The names that a call has, against what is known at a statement.
use Rattle.std.specs.Prelude.{◌≡◌, ℕ, Bool, true, false, List, [], ◌∷◌, ◌++◌, take, drop, Option, None, Some, option_map}
use Rattle.ae_tree.specs.declared.form.Form.{Form}
use Rattle.ae_tree.specs.Form.{form}
use Rattle.ae_text.specs.declared.refusal.Spot.{Spot}
use Rattle.ae_tree.specs.Plain.{Action, Declares, Groups, Definition, Code}
use Rattle.ae_rules.specs.Verdict.{Holds, given}
use Rattle.ae_rules.specs.Statements.{judge_statement}
use Rattle.ae_semantics.specs.Values.{Val}
use Rattle.ae_semantics.specs.Places.{CellName, State}
use Rattle.ae_semantics.specs.Meaning.{forgotten}
use Rattle.ae_values.specs.declared.env.Bind.{Bind}
use Rattle.ae_values.specs.Binding.{bound_in}
use Rattle.ae_values.specs.Environments.{locals_in, groups_in}
use Rattle.ae_rules.specs.Groups.{known}
use Rattle.ae_rules.specs.Context.{Local, Context}
use Rattle.ae_values.specs.Shapes.{NameShape, OfLocal, OfGroup, shapes, shape_in}

-- the form of what is a local
abbrev pub local_form : NameShape → Option Form
local_form (OfLocal form) = Some form
local_form (OfGroup other) = None

-- the name is that of a group
abbrev pub is_of_group : Option NameShape → Bool
is_of_group None = false
is_of_group (Some (OfLocal form)) = false
is_of_group (Some (OfGroup other)) = true

-- the form with which a local of this name was declared
abbrev pub form_in : List (ℕ × NameShape) → ℕ → Option Form
form_in names x = given (shape_in names x) None local_form

-- the names are those of the visible locals, each with its form, and of groups that are known
pub record AreKnown (c : Context) (names : List (ℕ × NameShape)) : Type 0 where
  pub local : (x : ℕ) → form_in names x ≡ option_map (λ (l : Local). l.form) (c.local x)
  pub group : (x : ℕ) → is_of_group (shape_in names x) ≡ true → known c.group x ≡ true

-- of these names none is a known group
abbrev pub AreNew : Context → List (ℕ × NameShape) → Type 0
AreNew c names = (x : ℕ) → is_of_group (shape_in names x) ≡ true → known c.group x ≡ false

-- the names that a statement declares
abbrev pub names_declared : Action → List (ℕ × NameShape)
names_declared (Declares t x e) = (x.name, OfLocal (form t)) ∷ []
names_declared (Groups g) = (g.name, OfGroup None) ∷ []
names_declared _ = []

-- the state in which names stand, where cells with these numbers have these names, and this was returned
abbrev pub state_of : (ℕ → CellName) → Option Val → List Bind → State
state_of cells r bs = record { locals = locals_in (bound_in bs); groups = groups_in cells (bound_in bs); result = r }

-- Where a block ends that began in this context, with the first so many names, all others end: that is what the meaning
-- forgets there.
abbrev pub NamesEnd : Type 0
NamesEnd = (cells : ℕ → CellName) (r : Option Val) (c : Context) (k : ℕ) (bs : List Bind)
    → AreKnown c (shapes (take k bs)) → AreNew c (shapes (drop k bs))
    → state_of cells r (take k bs) ≡ forgotten c (state_of cells r bs)

-- After a judged statement the names are known that were known before, and those that it declares.
abbrev pub NamesAreKnown : Type 0
NamesAreKnown = (p : Code) (m : Definition) (at : Spot) (a : Action) (c d : Context) (names : List (ℕ × NameShape))
    → judge_statement p m at a c ≡ Holds d → AreKnown c names → AreKnown d (names ++ names_declared a)

-- what a judged statement declares is bound to nothing
abbrev pub DeclaredAreFree : Type 0
DeclaredAreFree = (p : Code) (m : Definition) (at : Spot) (a : Action) (c d : Context) (bs : List Bind)
    → judge_statement p m at a c ≡ Holds d → AreKnown c (shapes bs)
    → (x : ℕ) (s : NameShape) → names_declared a ≡ (x, s) ∷ [] → bound_in bs x ≡ None
