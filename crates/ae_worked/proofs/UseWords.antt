-- Words to say with what statements use.
use Rattle.std.specs.Prelude.{ℕ, List, map, Option, None}
use Rattle.ae_rules.specs.declared.uses.Resource.{Resource}
use Rattle.ae_rules.specs.declared.uses.Mode.{Mode}
use Rattle.ae_tree.specs.Plain.{Definition, Code}
use Rattle.ae_rules.specs.Verdict.{given}
use Rattle.ae_rules.specs.Lookups.{method_at}
use Rattle.ae_rules.specs.Blocks.{Scene, scene, scene_uses}

-- how a statement uses a resource; its method, its block and itself by their numbers
abbrev use_at : Code → ℕ → ℕ → ℕ → Resource → Option Mode
use_at p k n i r = given (method_at p k) None (λ (m : Definition).
    given (scene p m n) None (λ (s : Scene). scene_uses p s i r))

-- how it uses each of these
abbrev pub used_of : Code → ℕ → ℕ → ℕ → List Resource → List (Option Mode)
used_of p k n i rs = map (use_at p k n i) rs
