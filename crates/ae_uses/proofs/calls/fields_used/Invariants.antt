use Rattle.std.proofs.Common.{map, drop}
use Rattle.std.specs.Prelude.{zip}
use Rattle.ae_tree.specs.Shown.{expression}
use Rattle.ae_rules.specs.Lookups.{field_form}
use Rattle.ae_rules.specs.Uses.{of_each}
use Rattle.ae_scope.specs.Scope.{context_of}
use Rattle.ae_judge.specs.Tabled.{code_of}
use Rattle.ae_uses.specs.Used.{Owes}
use Rattle.ae_uses.specs.Calls.{field_uses}
use Rattle.ae_uses.proofs.calls.fields_used.Given as goal

-- the arguments from here on are still to be used
abbrev pub invariant-loop-i : goal.invariant-loop-i
invariant-loop-i l = Owes l.initial.used (of_each (field_uses (code_of l.tabled) (context_of l.scope))
    (zip (map (field_form l.class l.groups) l.class.fields) (map expression l.args)))
    l.used (of_each (field_uses (code_of l.tabled) (context_of l.scope))
    (zip (map (field_form l.class l.groups) (drop l.i l.class.fields)) (map expression (drop l.i l.args))))
