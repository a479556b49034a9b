use Rattle.std.proofs.Common.{◌↔◌, drop}
use Rattle.ae_tree.specs.Shown.{braced, lines_from}
use Rattle.ae_unsplit.specs.Unsplit.{AreUnsplit}
use Rattle.ae_unsplit.proofs.unsplit.+blocks.Given as goal

-- nothing is split exactly where the rest splits nothing
abbrev pub invariant-is_unsplit_block-loop-stmt : goal.invariant-is_unsplit_block-loop-stmt
invariant-is_unsplit_block-loop-stmt l = AreUnsplit (braced l.block).lines
    ↔ AreUnsplit (lines_from (drop l.stmt-index l.stmt-items))
