-- Words to write programs as plain data with.
use Rattle.std.specs.Prelude.{ℕ, List, Option, None, Some}
use Rattle.ae_text.specs.declared.refusal.Spot.{Spot}
use Rattle.ae_tree.specs.declared.tree.NameAt.{NameAt}
use Rattle.ae_tree.specs.declared.tree.Ty.{Ty}
use Rattle.ae_tree.specs.declared.tree.Path.{Path}
use Rattle.ae_tree.specs.declared.tree.Me.{Me}
use Rattle.ae_tree.specs.declared.tree.Param.{Param}
use Rattle.ae_tree.specs.declared.tree.Need.{Need}
use Rattle.ae_tree.specs.declared.tree.GroupNeed.{GroupNeed}
use Rattle.ae_tree.specs.declared.tree.Field.{Field}
use Rattle.ae_tree.specs.declared.tree.Class.{Class}
use Rattle.ae_tree.specs.Plain.{Expression, Invocation, Lines, Definition}

-- a line and a column
abbrev pub at : ℕ → ℕ → Spot
at line col = record { line = line; col = col }

-- the name with this number, at a line and a column
abbrev pub name : ℕ → ℕ → ℕ → NameAt
name x line col = record { name = x; at = at line col }

-- a local, and the fields behind it
abbrev pub path : NameAt → List NameAt → Path
path root steps = record { root = root; steps = steps }

-- a call of a method at the top
abbrev pub call : NameAt → List NameAt → List Expression → Invocation
call m gs args = record { on = None; method = m; groups = gs; args = args }

-- a call on a receiver
abbrev pub call_on : Path → NameAt → List NameAt → List Expression → Invocation
call_on on m gs args = record { on = Some on; method = m; groups = gs; args = args }

-- a field of a class
abbrev pub field : Ty → NameAt → Field
field t x = record { ty = t; name = x }

-- a class with its groups, its fields, and the numbers of its methods
abbrev pub class_with : NameAt → List NameAt → List Field → List ℕ → Class
class_with x gs fields methods = record { name = x; groups = gs; fields = fields; methods = methods }

-- a parameter that comes back
abbrev pub param : Ty → NameAt → Param
param t x = record { ty = t; name = x; away = None }

-- a parameter that does not come back
abbrev pub given_away : Ty → NameAt → Spot → Param
given_away t x spot = record { ty = t; name = x; away = Some spot }

-- what a method needs of a group
abbrev pub need : Need → NameAt → GroupNeed
need n g = record { need = n; group = g }

-- a method at the top
abbrev pub top_method : Option Ty → NameAt → List NameAt → List Param → List GroupNeed → Lines → Definition
top_method result x gs params needs body = record {
  class = None;
  result = result;
  name = x;
  groups = gs;
  me = None;
  params = params;
  needs = needs;
  no = 0;
  body = body;
}

-- a method of the class with this number
abbrev pub class_method : ℕ → Me → Option Ty → NameAt → List NameAt → List Param → List GroupNeed → Lines → Definition
class_method c me result x gs params needs body = record {
  class = Some c;
  result = result;
  name = x;
  groups = gs;
  me = Some me;
  params = params;
  needs = needs;
  no = 0;
  body = body;
}
