use Rattle.std.proofs.Common.{◌≡◌, drop}
use Rattle.ae_tree.specs.Shown.{code}
use Rattle.ae_rules.specs.Verdict.{in_turn}
use Rattle.ae_rules.specs.Lookups.{has_name}
use Rattle.ae_rules.specs.Table.{param_holds}
use Rattle.ae_classes.proofs.declarations.params_hold.Given as goal

abbrev pub invariant-loop-param : goal.invariant-loop-param
invariant-loop-param l = in_turn (param_holds (code l.program) (has_name l.known)) l.params
    (has_name l.initial.earlier)
    ≡ in_turn (param_holds (code l.program) (has_name l.known)) (drop l.param-index l.params) (has_name l.earlier)
