-- What whoever runs a program is to tell of its meaning.
use Rattle.std.specs.Prelude.{◌≡◌, ℕ, ℤ, List, [], Some}
use Rattle.ae_tree.specs.Plain.{Code}
use Rattle.ae_semantics.specs.declared.report.Ending.{Ending}
use Rattle.ae_semantics.specs.Means.{mean, bytes}

-- with no observations the meaning has this ending, and these are its bytes
abbrev pub MeansSo : Code → List ℤ → ℕ → Ending → List ℕ → Type 0
MeansSo p ints fuel ending out = ((mean p ints fuel []).ending ≡ Some ending) × (bytes (mean p ints fuel []) [] ≡ out)
