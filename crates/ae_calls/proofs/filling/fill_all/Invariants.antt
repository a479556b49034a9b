use Rattle.std.proofs.Common.{◌≡◌, map, drop}
use Rattle.std.specs.Prelude.{zip}
use Rattle.ae_tree.specs.Shown.{expression}
use Rattle.ae_rules.specs.Verdict.{in_turn}
use Rattle.ae_rules.specs.Lookups.{field_form}
use Rattle.ae_rules.specs.Calls.{no_roots, fills}
use Rattle.ae_scope.specs.Scope.{context_of}
use Rattle.ae_judge.specs.Tabled.{code_of}
use Rattle.ae_calls.specs.Made.{filled_of}
use Rattle.ae_calls.proofs.filling.fill_all.Given as goal

-- the rest decides
abbrev pub invariant-loop-i : goal.invariant-loop-i
invariant-loop-i l = in_turn (fills (code_of l.tabled) (context_of l.scope))
    (zip (map (field_form l.class l.groups) l.class.fields) (map expression l.args))
    (record { roots = no_roots; after = context_of l.scope })
    ≡ in_turn (fills (code_of l.tabled) (context_of l.scope))
    (zip (map (field_form l.class l.groups) (drop l.i l.class.fields)) (map expression (drop l.i l.args)))
    (filled_of (context_of l.scope) l.filled)
