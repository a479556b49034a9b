-- Blocks with what their statements use, as far as their graphs go by it.
use Rattle.std.specs.Prelude.{◌≤◌, List, [], ◌∷◌, length}
use Rattle.ae_tree.specs.Limits.{statement_count}
use Rattle.ae_tree.specs.Plain.{Code}
use Rattle.ae_rules.specs.declared.uses.Footprint.{Footprint}
use Rattle.ae_rules.specs.Edges.{BlockUses}
use Rattle.ae_rules.specs.Blocks.{Opened}
use Rattle.ae_rules.specs.BlockLaws.{IsBelow}
use Rattle.ae_uses.specs.Opened.{AreFootprints, IsOpenedFor}
use Rattle.ae_uses.specs.declared.opened.OpenedBlock.{OpenedBlock}

-- these are what some statements use
abbrev pub AreOfSome : List Footprint → Type 0
AreOfSome fs = (uses : BlockUses) × AreFootprints uses (length fs) fs

-- a block within the limits, all of whose names are the program's, with what its statements use
pub record IsDrawable (p : Code) (x : Opened) (o : OpenedBlock) : Type 0 where
  pub opened : IsOpenedFor p x o
  pub below : IsBelow p x
  pub few : statement_count x.1.lines ≤ 1024

-- one for each, in order
abbrev pub AreDrawable : Code → List Opened → List OpenedBlock → Type 0
AreDrawable p [] [] = Unit {0}
AreDrawable p [] (o ∷ os) = ⊥
AreDrawable p (x ∷ xs) [] = ⊥
AreDrawable p (x ∷ xs) (o ∷ os) = IsDrawable p x o × AreDrawable p xs os
