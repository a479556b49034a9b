-- The blocks of a method with what their statements use.
use Rattle.std.specs.Prelude.{◌≡◌, ℕ, List, [], ◌∷◌, Some, length, slice_get}
use Rattle.ae_tree.specs.Limits.{statement_count}
use Rattle.ae_tree.specs.Plain.{Code}
use Rattle.ae_rules.specs.declared.uses.Footprint.{Footprint}
use Rattle.ae_rules.specs.Edges.{BlockUses}
use Rattle.ae_rules.specs.Blocks.{Opened, scene_uses}
use Rattle.ae_uses.specs.Footprint.{IsFootprintOf}
use Rattle.ae_uses.specs.declared.opened.OpenedBlock.{OpenedBlock}

-- what each of so many statements uses
abbrev pub AreFootprints : BlockUses → ℕ → List Footprint → Type 0
AreFootprints b n fs = (length fs ≡ n) × ((i : ℕ) (f : Footprint) → slice_get fs i ≡ Some f → IsFootprintOf (b i) f.uses)

-- a block under its number with what its statements use
abbrev pub IsOpenedFor : Code → Opened → OpenedBlock → Type 0
IsOpenedFor p x o = (o.no ≡ x.0) × AreFootprints (scene_uses p x.1) (statement_count x.1.lines) o.uses

-- one for each, in order
abbrev pub AreOpenedFor : Code → List Opened → List OpenedBlock → Type 0
AreOpenedFor p [] [] = Unit {0}
AreOpenedFor p [] (o ∷ os) = ⊥
AreOpenedFor p (x ∷ xs) [] = ⊥
AreOpenedFor p (x ∷ xs) (o ∷ os) = IsOpenedFor p x o × AreOpenedFor p xs os
