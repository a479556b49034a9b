-- Slices of bytes as their bytes.
use Rattle.std.specs.Prelude.{ℕ, List, map}
use Rattle.std.specs.Borrow.{Bor}

abbrev pub slices_bytes : List (Bor (List ℕ)) → List (List ℕ)
slices_bytes = map (λ slice. slice.now)
