use Rattle.std.proofs.Common.{◌≡◌, drop, length, map}
use Rattle.ae_tree.specs.Shown.{code, definition}
use Rattle.ae_rules.specs.Verdict.{each}
use Rattle.ae_rules.specs.Judges.{judge_method}
use Rattle.ae_scope.specs.Scope.{Empty}
use Rattle.ae_check.proofs.program.judge_methods.Given as goal

-- the rest decides, and nothing is known between two methods
abbrev pub invariant-loop-method : goal.invariant-loop-method
invariant-loop-method l = record {
  rest : each (judge_method (code l.program)) (map definition l.program.methods)
      ≡ each (judge_method (code l.program)) (map definition (drop l.method-index l.method-items));
  empty : Empty (length l.program.names) l.scope;
}
