-- Facts on the test whether a value is low, by a height that is no higher than the largest number.
use Rattle.std.proofs.Common.{◌≡◌, ℕ, min, arith}
use Rattle.std.proofs.Math.Dec.{leb}
use Rattle.std.proofs.lemmas.Bool.{leb-true, le-leb, ltb_from_iff}
use Rattle.ae_semantics.specs.Values.{Val, height, is_low}

-- a value is low where the number that tells its height is at most 1,000
pub low_by_height : (h : ℕ) (v : Val) → h ≡ min (height v) 4294967295 → leb h 1000 ≡ is_low v
low_by_height h v is = ltb_from_iff (
  λ t. omega (arith, is, leb-true h 1000 t),
  λ less. le-leb h 1000 (omega (arith, is, less)),
)
