-- What the parts of a write show.
use Rattle.std.specs.Prelude.{ℕ, List}
use Rattle.ae_semantics.specs.Places.{Address, OpenedObject}
use Rattle.ae_values.specs.Shown.{shown, shown_tree}
use Rattle.ae_reads.specs.declared.found.Base.{Base}
use Rattle.ae_reads.specs.Views.{address, shown_form, kind_of_form}
use Rattle.ae_stores.specs.declared.reaching.ObjectFound.{ObjectFound}
use Rattle.ae_stores.specs.declared.items.ItemFound.{ItemFound}
use Rattle.ae_stores.specs.declared.slots.SlotFound.{SlotFound}
use Rattle.ae_stores.specs.declared.taking.ValueFound.{ValueFound}
use Rattle.ae_stores.specs.Targets.{ItemAt, SlotAt, ValueAt}

-- the object to which these fields lead
abbrev pub object_at : List ℕ → ObjectFound → OpenedObject
object_at fields x = record {
  at = address x.base fields;
  kind = kind_of_form (shown_form x.form);
  tree = shown_tree x.tree.object.now;
}

-- the item of the array to which these fields lead
abbrev pub item_found : List ℕ → ItemFound → ItemAt
item_found fields x = record { at = address x.base fields; number = x.number }

-- the field to which these fields lead
abbrev pub slot_at : List ℕ → SlotFound → SlotAt
slot_at fields x = record { at = address x.base fields; form = x.form }

-- the value to which these fields lead
abbrev pub value_found : List ℕ → ValueFound → ValueAt
value_found fields x = record { at = address x.base fields; value = shown x.value }

-- the address to which these fields lead from the base that was found
abbrev pub address_from : List ℕ → Base → Address
address_from fields base = address base fields
