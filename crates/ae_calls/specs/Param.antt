-- The parameters of a method in a call, as plain data.
use Rattle.std.specs.Prelude.{ℕ}
use Rattle.ae_tree.specs.declared.form.Form.TheVariants as f
use Rattle.ae_rules.specs.Forms.{in_place}
use Rattle.ae_rules.specs.Calls.{ParamSlot as ParamSlotThere}
use Rattle.ae_calls.specs.declared.params.GroupsIn.{GroupsIn}
use Rattle.ae_calls.specs.declared.params.ParamSlot.{ParamSlot}
use Rattle.ae_calls.specs.declared.params.MeSlot.{MeSlot}

-- the group that stands for a group in a call
abbrev pub new_in : GroupsIn → ℕ → ℕ
new_in new = in_place new.names new.groups

abbrev pub slot_of : ParamSlot → ParamSlotThere
slot_of x = record { form = x.form; away = x.away }

-- the receiver's slot
abbrev pub object_slot_of : MeSlot → ParamSlotThere
object_slot_of x = record { form = f.Object x.perm x.kind; away = x.away }
