use Rattle.std.proofs.Common.{◌≡◌, drop, length}
use Rattle.ae_tree.specs.Shown.{braced, lines_from, definition}
use Rattle.ae_rules.specs.Statements.{judge_lines}
use Rattle.ae_judge.specs.Tabled.{code_of}
use Rattle.ae_scope.specs.Scope.{context_of}
use Rattle.ae_scope.specs.Grows.{Grows}
use Rattle.ae_check.specs.Ready.{IsReady, LinesNamed}
use Rattle.ae_check.proofs.blocks.+statements.Given as goal

-- the rest of the block is judged from here as the block is from its beginning
abbrev pub invariant-judge_lines-loop-stmt : goal.invariant-judge_lines-loop-stmt
invariant-judge_lines-loop-stmt l = record {
  rest : judge_lines (code_of l.tabled) (definition l.method) (braced l.block).lines (context_of l.initial.scope)
      ≡ judge_lines (code_of l.tabled) (definition l.method) (lines_from (drop l.stmt-index l.stmt-items))
      (context_of l.scope);
  named : LinesNamed (length l.tabled.program.now.names) (lines_from (drop l.stmt-index l.stmt-items));
  ready : IsReady (code_of l.tabled) (context_of l.scope);
  grows : Grows l.initial.scope l.scope;
}
