use Rattle.std.proofs.Common.{◌≡◌, drop}
use Rattle.ae_rules.specs.Verdict.{each}
use Rattle.ae_rules.specs.Judges.{param_comes_back}
use Rattle.ae_scope.specs.Scope.{context_of}
use Rattle.ae_check.proofs.methods.params_come_back.Given as goal

-- the rest decides
abbrev pub invariant-loop-param : goal.invariant-loop-param
invariant-loop-param l =
    each (param_comes_back (context_of l.scope)) l.params
    ≡ each (param_comes_back (context_of l.scope)) (drop l.param-index l.params)
