-- Numbers in lists.
use Rattle.std.specs.Prelude.{ℕ, nat_eq, List, count_by}

-- how often a number stands in a list
abbrev pub times : ℕ → List ℕ → ℕ
times n xs = count_by (λ x. nat_eq x n) xs
