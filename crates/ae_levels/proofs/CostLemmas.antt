-- What is left to do goes down with each step.
use Rattle.std.proofs.Common.{◌≡◌, ◌<◌, arith, ℕ, suc, ◌+◌, Some}
use Rattle.ae_tree.specs.Plain.{Lines, Definition, Code}
use Rattle.ae_rules.specs.Lookups.{method_at}
use Rattle.ae_steps.specs.Costs.{costs, block_cost}
use Rattle.ae_levels.proofs.from_steps.CostLemmas.{one_body}

-- The body of a method costs less than a call with one of the fuel more.
pub body_costs : (p : Code) (fuel n : ℕ) (m : Definition) → method_at p n ≡ Some m
    → block_cost (costs p fuel) m.body < (costs p (suc fuel)).call
body_costs p fuel n m e = omega (arith, one_body (costs p fuel) p.methods n m e)

-- A turn costs its block and the turns with one of the fuel less, and more.
pub turn_costs : (p : Code) (fuel : ℕ) (b : Lines)
    → block_cost (costs p fuel) b + (costs p fuel).turns b < (costs p (suc fuel)).turns b
turn_costs p fuel b = omega arith
