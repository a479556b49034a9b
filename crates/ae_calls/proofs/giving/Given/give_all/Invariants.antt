use Rattle.std.proofs.Common.{◌≡◌, ◌++◌, map, drop}
use Rattle.std.specs.Prelude.{zip, filter_map}
use Rattle.ae_tree.specs.Shown.{expression}
use Rattle.ae_rules.specs.Verdict.{in_turn}
use Rattle.ae_rules.specs.Calls.{param_slot, to_slot}
use Rattle.ae_rules.specs.Effects.{gone_name}
use Rattle.ae_scope.specs.Scope.{context_of}
use Rattle.ae_judge.specs.Tabled.{code_of}
use Rattle.ae_calls.specs.Param.{new_in}
use Rattle.ae_calls.specs.Roots.{roots_of}
use Rattle.ae_calls.proofs.giving.Given.give_all.Given as goal

-- the rest decides
abbrev pub invariant-loop-i : goal.invariant-loop-i
invariant-loop-i l = record {
  answer : in_turn (to_slot (code_of l.tabled) (context_of l.scope))
      (zip (map (param_slot (new_in l.new)) l.params) (map expression l.args)) (roots_of l.initial.self.roots)
      ≡ in_turn (to_slot (code_of l.tabled) (context_of l.scope))
      (zip (map (param_slot (new_in l.new)) (drop l.i l.params)) (map expression (drop l.i l.args)))
      (roots_of l.self.roots);
  gone : l.initial.self.gone.items ++ filter_map gone_name
      (zip (map (param_slot (new_in l.new)) l.params) (map expression l.args))
      ≡ l.self.gone.items ++ filter_map gone_name
      (zip (map (param_slot (new_in l.new)) (drop l.i l.params)) (map expression (drop l.i l.args)));
}
