-- What the parts of a program that runs by its graph are.
use Rattle.std.specs.Prelude.{◌≡◌, ◌≢◌, List, [], ◌∷◌, None}
use Rattle.ae_text.specs.declared.refusal.Spot.{Spot}
use Rattle.ae_tree.specs.declared.tree.Path.{Path}
use Rattle.ae_tree.specs.declared.tree.GroupNeed.{GroupNeed}
use Rattle.ae_tree.specs.declared.tree.Need.TheVariants.{Exclusive}
use Rattle.ae_tree.specs.Plain.{Definition}
use Rattle.ae_tree.specs.Names.{io, main, this}
use Rattle.ae_tree.specs.Built.{IsMain, AreBuilt}

-- a name without steps that is not `this`
abbrev pub IsPlainName : Path → Type 0
IsPlainName p = (p.steps ≡ []) × (p.root.name ≢ this)

-- `exclusive io`
abbrev pub IsExclusiveIo : GroupNeed → Type 0
IsExclusiveIo n = (at : Spot) × (n ≡ record { need = Exclusive; group = record { name = io; at = at } })

-- the one need `exclusive io`
abbrev pub NeedsIo : List GroupNeed → Type 0
NeedsIo ns = (at : Spot) × (ns ≡ record { need = Exclusive; group = record { name = io; at = at } } ∷ [])

-- a method at the top named main, without a result, groups and parameters
abbrev pub IsBare : Definition → Type 0
IsBare m = (m.class ≡ None) × (m.result ≡ None) × (m.name.name ≡ main) × (m.groups ≡ []) × (m.me ≡ None)
    × (m.params ≡ []) × (m.no ≡ 0)

-- a method `main` all of whose statements run by the graph
abbrev pub IsBuiltMethod : Definition → Type 0
IsBuiltMethod m = IsMain m × AreBuilt m.body
