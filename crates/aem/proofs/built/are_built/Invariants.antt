use Rattle.std.proofs.Common.{◌↔◌, drop}
use Rattle.ae_tree.specs.Shown.{lines_from}
use Rattle.ae_tree.specs.Built.{AreBuilt}
use Rattle.aem.proofs.built.are_built.Given as goal

-- all are built exactly where the rest is
abbrev pub invariant-loop-stmt : goal.invariant-loop-stmt
invariant-loop-stmt l = AreBuilt (lines_from l.stmts) ↔ AreBuilt (lines_from (drop l.stmt-index l.stmts))
