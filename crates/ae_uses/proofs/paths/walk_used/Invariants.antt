use Rattle.std.proofs.Common.{◌≡◌, drop}
use Rattle.ae_rules.specs.Verdict.{in_turn}
use Rattle.ae_rules.specs.Uses.{walk_uses, steps_use}
use Rattle.ae_rules.specs.Walks.{step, walk}
use Rattle.ae_scope.specs.Scope.{context_of}
use Rattle.ae_judge.specs.Tabled.{code_of}
use Rattle.ae_judge.specs.Views.{place_of}
use Rattle.ae_uses.specs.Used.{Owes}
use Rattle.ae_uses.proofs.paths.walk_used.Given as goal

-- the rest of the steps decides, and is still to be used
abbrev pub invariant-loop-x : goal.invariant-loop-x
invariant-loop-x l = record {
  walk : walk (code_of l.tabled) (context_of l.scope) (record { root = l.root; steps = l.steps })
      ≡ in_turn (step (code_of l.tabled) (context_of l.scope) l.root.at) (drop l.x-index l.steps) (place_of l.place);
  uses : Owes l.initial.used
      (walk_uses (code_of l.tabled) (context_of l.scope) (record { root = l.root; steps = l.steps }))
      l.used (steps_use (code_of l.tabled) (context_of l.scope) l.root.at (drop l.x-index l.steps) (place_of l.place));
}
