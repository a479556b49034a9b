-- Where a statement of a program worked out stands.
use Rattle.std.proofs.Common.{◌≡◌, refl, [], ◌∷◌, Some}
use Rattle.std.specs.Prelude.{option_map}
use Rattle.ae_tree.specs.declared.tree.StmtAt.{StmtAt}
use Rattle.ae_semantics.specs.Runs.{Where}
use Rattle.ae_semantics.specs.Standing.{standing}
use Rattle.ae_worked.proofs.GroupUseExamples.{four_in_a_group}

-- the first statement of the first method, inside a call
abbrev first_of_all : StmtAt
first_of_all = record { method = 0; block = 0; stmt = 0 }

stands_there : option_map (λ (here : Where). here.path) (standing four_in_a_group first_of_all 2 (3 ∷ 0 ∷ 0 ∷ []))
    ≡ Some (3 ∷ 0 ∷ 0 ∷ [])
stands_there = refl
