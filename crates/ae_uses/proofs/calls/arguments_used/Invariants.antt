use Rattle.std.proofs.Common.{map, drop}
use Rattle.std.specs.Prelude.{zip}
use Rattle.ae_tree.specs.Shown.{expression}
use Rattle.ae_rules.specs.Calls.{param_slot}
use Rattle.ae_rules.specs.Uses.{of_each}
use Rattle.ae_scope.specs.Scope.{context_of}
use Rattle.ae_judge.specs.Tabled.{code_of}
use Rattle.ae_calls.specs.Param.{new_in}
use Rattle.ae_uses.specs.Used.{Owes}
use Rattle.ae_uses.specs.Calls.{slot_uses}
use Rattle.ae_uses.proofs.calls.arguments_used.Given as goal

-- the arguments from here on are still to be used
abbrev pub invariant-loop-i : goal.invariant-loop-i
invariant-loop-i l = Owes l.initial.used (of_each (slot_uses (code_of l.tabled) (context_of l.scope))
    (zip (map (param_slot (new_in l.new)) l.params) (map expression l.args)))
    l.used (of_each (slot_uses (code_of l.tabled) (context_of l.scope))
    (zip (map (param_slot (new_in l.new)) (drop l.i l.params)) (map expression (drop l.i l.args))))
