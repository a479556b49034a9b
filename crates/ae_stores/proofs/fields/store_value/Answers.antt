use Rattle.std.proofs.Common.{sym, subst}
use Rattle.ae_values.specs.Shown.{shown}
use Rattle.ae_judge.specs.Tabled.{code_of}
use Rattle.ae_running.specs.Seen.{seen}
use Rattle.ae_stores.specs.Parts.{slot_at}
use Rattle.ae_stores.specs.Stand.{KeepsObject}
use Rattle.ae_stores.proofs.SlotLemmas.{slot_is_there, slot_keeps_object}
use Rattle.ae_stores.proofs.fields.store_value.Goals as goal

pub put-requires-clause-there : goal.put-requires-clause-there
put-requires-clause-there c = slot_is_there (code_of c.args.tabled.now) (seen c.args.run.now) c.args.path.now
    (slot_at c.find_field.new.fields.items c.in-Ok-find_field.slot) c.in-Ok-find_field.ensures

pub put-requires-clause-object : goal.put-requires-clause-object
put-requires-clause-object c = subst (λ is. KeepsObject is (shown c.in-Ok.value)) (sym c.as_slice.ensures.value)
    (slot_keeps_object (code_of c.args.tabled.now) (seen c.args.run.now) c.args.path.now
    (slot_at c.find_field.new.fields.items c.in-Ok-find_field.slot) (shown c.in-Ok.value) c.in-Ok-find_field.ensures)
