-- What a new object comes to: the values of its arguments, and the names that move with them.
use Rattle.std.specs.Prelude.{ℕ, nat_eq, Bool, true, false, ◌&&◌, ◌||◌, List, [], ◌∷◌, map, reverse, Option, None, Some}
use Rattle.ae_tree.specs.declared.tree.NameAt.{NameAt}
use Rattle.ae_tree.specs.declared.tree.Path.{Path}
use Rattle.ae_tree.specs.declared.tree.Class.{Class}
use Rattle.ae_tree.specs.declared.tree.Field.{Field}
use Rattle.ae_tree.specs.declared.form.Form.{Form}
use Rattle.ae_tree.specs.Plain.{Expression, Read, RightSide, Value, Taken, Zeros, Made, Returned, Code}
use Rattle.ae_rules.specs.Verdict.{given}
use Rattle.ae_rules.specs.Lookups.{class_called, field_form}
use Rattle.ae_rules.specs.Into.{name_into}
use Rattle.ae_rules.specs.Walks.{is_name}
use Rattle.ae_semantics.specs.Values as meant
use Rattle.ae_semantics.specs.Values.{Owned, Object, values}
use Rattle.ae_semantics.specs.Places.{Outcome, Fine, ◌>>=◌, State, low}
use Rattle.ae_semantics.specs.Calls.{without_moved}
use Rattle.ae_semantics.specs.Meaning.{each_value, fields_moved, take_field}
use Rattle.ae_values.specs.declared.value.Val.{Val}
use Rattle.ae_values.specs.Shown.{shown}
use Rattle.ae_acts.specs.Acts.{moved_out}

-- ---- names that move

-- the name that moves with each argument into its field, where one does
abbrev pub moves_by : Class → List ℕ → List Field → List Expression → List (Option ℕ)
moves_by c gs [] es = []
moves_by c gs (d ∷ ds) [] = []
moves_by c gs (d ∷ ds) (e ∷ es) = name_into (field_form c gs d) e ∷ moves_by c gs ds es

-- the names among these
abbrev pub names_there : List (Option ℕ) → List ℕ
names_there [] = []
names_there (None ∷ ms) = names_there ms
names_there (Some x ∷ ms) = x ∷ names_there ms

-- it is this name
abbrev pub is_this : Option ℕ → ℕ → Bool
is_this None x = false
is_this (Some y) x = nat_eq y x

-- the name is among these
abbrev pub is_noted : List (Option ℕ) → ℕ → Bool
is_noted [] x = false
is_noted (m ∷ ms) x = is_this m x || is_noted ms x

-- the expression is this name, alone
abbrev pub stands_alone : Expression → ℕ → Bool
stands_alone (Read path) x = is_name path && nat_eq path.root.name x
stands_alone _ x = false

-- ---- values

-- values with a state
abbrev pub all_beside : State → List meant.Val → Outcome (List meant.Val × State)
all_beside s vs = Fine (vs, s)

-- the values of expressions, and the state in which these names have none
abbrev pub moved_with : Code → List Expression → List ℕ → State → Outcome (List meant.Val × State)
moved_with p es names s = each_value p s es >>= all_beside (without_moved names s)

-- the values that stand here, the last first
abbrev pub shown_in_order : List Val → List meant.Val
shown_in_order xs = map shown (reverse xs)

-- a value with a state
abbrev pub beside : State → meant.Val → Outcome (meant.Val × State)
beside s v = Fine (v, s)

-- the object of a class with these values, which is low enough, and the state
abbrev pub object_low : ℕ → List meant.Val × State → Outcome (meant.Val × State)
object_low x r = low (Owned (Object x (values r.0))) >>= beside r.1

-- a new object that is low enough, and the state in which the names that moved into it have no value
abbrev pub new_low : Code → ℕ → List NameAt → List Expression → State → Outcome (meant.Val × State)
new_low p x gs es s = moved_with p es (given (class_called p x) [] (fields_moved gs es)) s >>= object_low x

-- a value that is low enough, and the state
abbrev pub lowered : meant.Val × State → Outcome (meant.Val × State)
lowered r = low r.0 >>= beside r.1

-- what stands right of a =, where its value is low enough for a local
abbrev pub made_low : Code → Form → RightSide → State → Outcome (meant.Val × State)
made_low p form e s = moved_out p form e s >>= lowered

-- a field's value, taken out of it, where it is low enough for a local
abbrev pub taken_low : Code → Path → State → Outcome (meant.Val × State)
taken_low p path s = take_field p s path >>= lowered

-- a right side that is an expression, or new integers
abbrev pub is_plain : RightSide → Bool
is_plain (Value e) = true
is_plain (Taken path at) = false
is_plain (Zeros e at) = true
is_plain (Made c gs args at) = false
is_plain (Returned i) = false
