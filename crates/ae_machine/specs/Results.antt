-- Where the result of a call goes, as the code puts it there.
use Rattle.std.specs.Prelude.{◌≡◌, None, Option}
use Rattle.ae_semantics.specs.Values.{Val}
use Rattle.ae_semantics.specs.Places.{Outcome, Fine, ◌>>=◌, there, State, bind}
use Rattle.ae_values.specs.Shapes.{shape_in}
use Rattle.ae_names.specs.Known.{form_in}
use Rattle.ae_acts.specs.Doing.{assigned_to}
use Rattle.ae_levels.specs.Levels.{Aim, Nowhere, ToNew, ToOld, NamesInOrder}

-- the name that an aim declares is free among these names
abbrev pub IsFree : NamesInOrder → Aim → Type 0
IsFree names Nowhere = Unit {0}
IsFree names (ToNew form x) = shape_in names x ≡ None
IsFree names (ToOld x) = Unit {0}

-- the result goes where it is aimed at, among these names
abbrev pub received_as : NamesInOrder → Aim → Option Val → State → Outcome State
received_as names Nowhere r s = Fine s
received_as names (ToNew form x) r s = there r >>= λ v. bind x form v s
received_as names (ToOld x) r s = there r >>= λ v. assigned_to (form_in names) x v s
