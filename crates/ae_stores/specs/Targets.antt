-- What a write is aimed at: an item of an array, or a field of an object.
use Rattle.std.specs.Prelude.{ℕ, ℤ, if◌then◌else◌, List, Option, None, Some}
use Rattle.ae_tree.specs.declared.tree.NameAt.{NameAt}
use Rattle.ae_tree.specs.declared.tree.Path.{Path}
use Rattle.ae_tree.specs.declared.form.Form.{Form}
use Rattle.ae_tree.specs.Plain.{Code, Expression, Read}
use Rattle.ae_rules.specs.Lookups.{is_empty}
use Rattle.ae_semantics.specs.Values.{Val, Tree}
use Rattle.ae_semantics.specs.Places.{Outcome, Fine, ◌>>=◌, State, Address, OpenedObject, ObjectField}
use Rattle.ae_semantics.specs.Places.{walk_to, reach, slot, slot_in}
use Rattle.ae_semantics.specs.Expressions.{numbers, index}
use Rattle.ae_reads.specs.Views.{field_at}

-- an item of an array, by the address of the array and the number of the item
pub record ItemAt : Type 0 where
  pub at : Address
  pub number : ℕ

-- a place that is a field, with the form of the field
pub record SlotAt : Type 0 where
  pub at : Address
  pub form : Form

-- where the place to which a path leads is
abbrev pub place_aimed : Code → State → Path → Outcome Address
place_aimed p s path = walk_to p s path >>= λ x. Fine x.at

-- a value, by its address
pub record ValueAt : Type 0 where
  pub at : Address
  pub value : Val

-- the value to which a path leads
abbrev pub value_aimed : Code → State → Path → Outcome ValueAt
value_aimed p s path = walk_to p s path >>= λ x. Fine (record { at = x.at; value = x.value })

-- the number of the item with this index in an array
abbrev pub item_number : Tree → ℤ → Outcome ℕ
item_number t n = numbers t >>= λ ns. index ns n

-- the item with this index in the array to which a path leads
abbrev pub item_aimed : Code → State → Path → ℤ → Outcome ItemAt
item_aimed p s path n = reach p s path
    >>= λ o. numbers o.tree
    >>= λ ns. index ns n
    >>= λ k. Fine (record { at = o.at; number = k })

-- the place of an object's field
abbrev pub aimed : ObjectField → Outcome SlotAt
aimed x = Fine (record { at = field_at x.object.at x.part.number; form = x.part.form })

-- the field with this name of an object
abbrev pub aimed_in : Code → OpenedObject → NameAt → Outcome SlotAt
aimed_in p o x = slot_in p o x >>= aimed

-- the last field of a path
abbrev pub field_aimed : Code → State → Path → Outcome SlotAt
field_aimed p s path = slot p s path >>= aimed

-- the path along these steps from this local
abbrev pub path_along : NameAt → List NameAt → Path
path_along root steps = record { root = root; steps = steps }

-- the name that an expression is, without steps
abbrev pub name_alone : Expression → Option ℕ
name_alone (Read path) = if is_empty path.steps then Some path.root.name else None
name_alone _ = None
