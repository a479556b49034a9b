-- What some statements without blocks use.
use Rattle.ae_tree.specs.declared.tree.NameAt.{NameAt}
use Rattle.ae_tree.specs.declared.tree.Path.{Path}
use Rattle.ae_tree.specs.declared.form.Form.{Form}
use Rattle.ae_tree.specs.Names.{io}
use Rattle.ae_tree.specs.Plain.{Expression, RightSide, Code}
use Rattle.ae_rules.specs.Context.{Context}
use Rattle.ae_rules.specs.Edges.{Uses}
use Rattle.ae_rules.specs.Uses.{◌∪◌, write_use, whole_group, value_uses, write_uses, right_uses}

-- a new local of this form
abbrev pub let_uses : Code → Context → Form → NameAt → RightSide → Uses
let_uses p c t x e = write_use x.name ∪ right_uses p c t e

-- a write to an item of integers
abbrev pub store_at_uses : Code → Context → Path → Expression → Expression → Uses
store_at_uses p c path i e = write_uses p c path ∪ value_uses p c i ∪ value_uses p c e

-- a `share` of a local in a group
abbrev pub share_uses : NameAt → NameAt → Uses
share_uses x g = write_use x.name ∪ whole_group g.name

-- a value that is printed
abbrev pub print_uses : Code → Context → Expression → Uses
print_uses p c e = value_uses p c e ∪ whole_group io
