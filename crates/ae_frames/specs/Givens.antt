-- The arguments and the parameters of a call, as the code holds them.
use Rattle.std.specs.Prelude.{ℕ, Bool, true, false, List, [], map, zip, Option, option_map}
use Rattle.std.specs.declared.alloc.Global.{Global}
use Rattle.std.specs.declared.vec.Vec.{Vec}
use Rattle.ae_tree.specs.declared.tree.Path.{Path}
use Rattle.ae_rules.specs.Calls.{if_some, me_slot, param_slot}
use Rattle.ae_tree.specs.declared.tree.Me.{Me}
use Rattle.ae_tree.specs.declared.tree.Param.{Param}
use Rattle.ae_tree.specs.Names.{this}
use Rattle.ae_tree.specs.Plain.{Code, Definition, Expression, Read}
use Rattle.ae_semantics.specs.Places.{Address}
use Rattle.ae_semantics.specs.Calls.{Argument, Taker}
use Rattle.ae_values.specs.Shown.{shown}
use Rattle.ae_reads.specs.Views.{address}
use Rattle.ae_calls.specs.Param.{slot_of}
use Rattle.ae_frames.specs.declared.given.Arg.{Arg}
use Rattle.ae_frames.specs.declared.given.Origin.{Origin}
use Rattle.ae_frames.specs.declared.given.Parameter.{Parameter}

-- the expression is a path
abbrev pub is_path : Expression → Bool
is_path (Read path) = true
is_path _ = false

-- the place from which a value was read
abbrev pub origin_of : Origin → Address
origin_of x = address x.base x.fields.items

-- an argument
abbrev pub argument_of : Arg → Argument
argument_of x = record { value = shown x.value; from = option_map origin_of x.from }

-- the arguments in order
abbrev pub arguments_of : List Arg → List Argument
arguments_of xs = map argument_of xs

-- a parameter
abbrev pub taker_of : Parameter → Taker
taker_of t = (t.name, slot_of t.slot)

-- the parameters in order
abbrev pub takers_of : List Parameter → List Taker
takers_of ts = map taker_of ts

-- the names of parameters
abbrev pub names_bound_by : List Parameter → List ℕ
names_bound_by ts = map (λ (t : Parameter). t.name) ts

-- the arguments that are gathered
abbrev pub all_arguments : Vec Arg Global → List Argument
all_arguments xs = arguments_of xs.items

-- the parameters that are gathered
abbrev pub all_takers : Vec Parameter Global → List Taker
all_takers ts = takers_of ts.items

-- the receiver, where there is one
abbrev pub receivers : Option Path → List Expression
receivers on = if_some (option_map Read on) []

-- the receiver as a parameter, where the method has one
abbrev pub me_taker : Code → Definition → List Taker
me_taker p m = zip (if_some (option_map (λ (x : Me). this) m.me) []) (if_some (option_map (me_slot p (λ g. g) m)
    m.me) [])

-- a parameter that is declared
abbrev pub param_taker : Param → Taker
param_taker x = (x.name.name, param_slot (λ g. g) x)
