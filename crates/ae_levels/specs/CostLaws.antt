-- How much there is to do at levels.
use Rattle.ae_rules.specs.Lookups.{method_at}
use Rattle.ae_steps.specs.Costs.{block_cost, costs}
use Rattle.ae_tree.specs.Plain.{Code, Definition, Lines}
use Rattle.std.specs.Prelude.{Some, suc, ℕ, ◌+◌, ◌<◌, ◌≡◌}

-- what is opened costs less than what opened it
pub record LevelsCostLess : Type 0 where
  -- The body of a method costs less than a call with one of the fuel more.
  pub body_costs : (p : Code) (fuel n : ℕ) (m : Definition) → method_at p n ≡ Some m
      → block_cost (costs p fuel) m.body < (costs p (suc fuel)).call
  -- A turn costs its block and the turns with one of the fuel less, and more.
  pub turn_costs : (p : Code) (fuel : ℕ) (b : Lines)
      → block_cost (costs p fuel) b + (costs p fuel).turns b < (costs p (suc fuel)).turns b
  -- A loop costs something.
  pub loop_costs : (p : Code) (fuel : ℕ) (b : Lines) → 0 < (costs p fuel).turns b
