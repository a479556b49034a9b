-- What a statement uses, as a list.
use Rattle.std.specs.Prelude.{◌≡◌, ◌<◌, ◌↔◌, List, [], ◌∷◌, Some, Contains}
use Rattle.ae_rules.specs.declared.uses.Resource.{Resource}
use Rattle.ae_rules.specs.declared.uses.Resource.TheVariants.{Local, Group}
use Rattle.ae_rules.specs.declared.uses.Use.{Use}
use Rattle.ae_rules.specs.Edges.{Uses}

-- a local stands before a group, and the smaller number before the greater
abbrev pub IsBelow : Resource → Resource → Type 0
IsBelow (Local x) (Local y) = x < y
IsBelow (Local x) (Group h) = Unit {0}
IsBelow (Group g) (Local y) = ⊥
IsBelow (Group g) (Group h) = g < h

-- each resource stands below the next one, so each stands once
abbrev pub AreInOrder : List Use → Type 0
AreInOrder [] = Unit {0}
AreInOrder (u ∷ []) = Unit {0}
AreInOrder (u ∷ v ∷ us) = IsBelow u.what v.what × AreInOrder (v ∷ us)

-- exactly these uses, in order: locals first, then groups, each by number, and each resource once
pub record IsFootprintOf (u : Uses) (xs : List Use) : Type 0 where
  pub in_order : AreInOrder xs
  pub exact : (x : Use) → Contains xs x ↔ (u x.what ≡ Some x.mode)
