use Rattle.std.proofs.Common.{◌≡◌, ◌++◌, List, take}
use Rattle.std.specs.List.{flat_map}
use Rattle.ae_tree.specs.Plain.{Code}
use Rattle.ae_rules.specs.Blocks.{Opened}
use Rattle.ae_graph.specs.GraphText.{text_of_block}
use Rattle.ae_graph.specs.Drawn.{AreDrawable}
use Rattle.ae_graph.proofs.text.put_blocks.Given as goal

abbrev pub invariant-loop-opened : goal.invariant-loop-opened
invariant-loop-opened l = (p : Code) (xs : List Opened) → AreDrawable p xs l.blocks
    → l.text.items ≡ l.initial.text.items ++ flat_map (text_of_block p) (take l.opened-index xs)
