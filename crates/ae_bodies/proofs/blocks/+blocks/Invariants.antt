use Rattle.std.proofs.Common.{drop, length}
use Rattle.ae_tree.specs.Shown.{braced, lines_from, definition}
use Rattle.ae_rules.specs.Statements.{judge_lines}
use Rattle.ae_judge.specs.Tabled.{code_of}
use Rattle.ae_scope.specs.Scope.{context_of}
use Rattle.ae_scope.specs.Grows.{Grows}
use Rattle.ae_check.specs.Ready.{LinesNamed}
use Rattle.ae_bodies.specs.Passed.{IsHeld}
use Rattle.ae_bodies.proofs.PassedLemmas.{Completes}
use Rattle.ae_bodies.proofs.blocks.+blocks.Given as goal

-- the statements from here on are judged where all are, and once they were gone through all were
abbrev pub invariant-lines_used-loop-stmt : goal.invariant-lines_used-loop-stmt
invariant-lines_used-loop-stmt l = record {
  judged : IsHeld (judge_lines (code_of l.tabled) (definition l.method) (braced l.block).lines
      (context_of l.initial.scope)) → IsHeld (judge_lines (code_of l.tabled) (definition l.method)
      (lines_from (drop l.stmt-index l.stmt-items)) (context_of l.scope));
  completes : IsHeld (judge_lines (code_of l.tabled) (definition l.method) (braced l.block).lines
      (context_of l.initial.scope)) → Completes (code_of l.tabled) (definition l.method) (braced l.block).lines
      (context_of l.initial.scope) l.initial.opened.items l.initial.inside
      (lines_from (drop l.stmt-index l.stmt-items)) (context_of l.scope) l.opened.items l.inside l.uses.items;
  named : LinesNamed (length l.tabled.program.now.names) (lines_from (drop l.stmt-index l.stmt-items));
  grows : Grows l.initial.scope l.scope;
}
