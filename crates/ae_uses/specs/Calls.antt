-- What one argument of a call, or of a new object, uses.
use Rattle.std.specs.Prelude.{ℕ, [], zip, Option, option_map}
use Rattle.ae_tree.specs.declared.tree.Path.{Path}
use Rattle.ae_tree.specs.declared.form.Form.{Form}
use Rattle.ae_tree.specs.Plain.{Expression, Read, Definition, Code}
use Rattle.ae_rules.specs.Context.{Context}
use Rattle.ae_rules.specs.Edges.{Uses}
use Rattle.ae_rules.specs.Calls.{ParamSlot, if_some, me_slot}
use Rattle.ae_rules.specs.Uses.{argument_uses, into_uses, of_each}

-- an argument for its slot
abbrev pub slot_uses : Code → Context → ParamSlot × Expression → Uses
slot_uses p c x = argument_uses p c x.0.form x.1

-- an argument into its field
abbrev pub field_uses : Code → Context → Form × Expression → Uses
field_uses p c y = into_uses p c y.0 y.1

-- the receiver for the slot of the method that is called, where there are both
abbrev pub receiver_uses : Code → Context → (ℕ → ℕ) → Definition → Option Path → Uses
receiver_uses p c new m on = of_each (slot_uses p c) (zip (if_some (option_map (me_slot p new m) m.me) [])
    (if_some (option_map Read on) []))
