use Rattle.std.proofs.Common.{◌≡◌, ◌≤◌, drop}
use Rattle.ae_values.specs.Binding.{bound_in}
use Rattle.ae_values.proofs.env.scan.Given as goal

abbrev pub invariant-loop-at : goal.invariant-loop-at
invariant-loop-at l = (l.base ≤ l.at) × (bound_in (drop l.at l.binds) l.name ≡ bound_in (drop l.base l.binds) l.name)
