-- Numbers in rising order.
use Rattle.std.specs.Prelude.{◌↔◌, ℕ, List, Contains}
use Rattle.ae_rules.specs.Edges.{IsRising}

-- the same numbers, each once and in rising order
pub record IsRisingOf (numbers rising : List ℕ) : Type 0 where
  pub in_order : IsRising rising
  pub same : (x : ℕ) → Contains rising x ↔ Contains numbers x
