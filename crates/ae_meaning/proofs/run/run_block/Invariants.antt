use Rattle.std.proofs.Common.{◌≡◌, drop}
use Rattle.ae_tree.specs.Shown.{braced, lines_from}
use Rattle.ae_meaning.specs.Meaning.{today_many}
use Rattle.ae_meaning.specs.Running.{held}
use Rattle.ae_meaning.proofs.run.run_block.Given as goal

-- the rest of the block does from here what the block does from its beginning
abbrev pub invariant-loop-stmt : goal.invariant-loop-stmt
invariant-loop-stmt l = today_many (braced l.block).lines (held l.initial.state)
    ≡ today_many (lines_from (drop l.stmt-index l.stmt-items)) (held l.state)
