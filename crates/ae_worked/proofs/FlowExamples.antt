-- What goes on past an ending, and which statements of a block are joined by an edge.
use Rattle.std.specs.Prelude.{◌≡◌, refl, ℕ, pos, true, false, List, [], ◌∷◌, Option, None, Some, Bool, map, length}
use Rattle.ae_tree.specs.Plain.{Code}
use Rattle.ae_semantics.specs.declared.report.Ending.TheVariants.{Trap}
use Rattle.ae_semantics.specs.Meaning.{one, many, below}
use Rattle.ae_tree.specs.Names.{main}
use Rattle.ae_rules.specs.declared.uses.Resource.{Resource}
use Rattle.ae_rules.specs.declared.uses.Resource.TheVariants.{Local, Group}
use Rattle.ae_rules.specs.declared.uses.Mode.{Mode}
use Rattle.ae_rules.specs.declared.uses.Mode.TheVariants as mode
use Rattle.ae_rules.specs.Verdict.{given}
use Rattle.ae_rules.specs.Lookups.{top_called}
use Rattle.ae_rules.specs.Blocks.{Scene, body_scene, scene_uses}
use Rattle.ae_rules.specs.EdgeLists.{is_edge}
use Rattle.ae_rules.specs.Instances.{Instance, Parting, parting, uses_from}
use Rattle.ae_semantics.specs.Means.{At, Meant}
use Rattle.ae_semantics.specs.Atom.{part}
use Rattle.ae_worked.proofs.ProgramWords.{at}
use Rattle.ae_worked.proofs.MeaningWords.{line, printed}
use Rattle.ae_worked.proofs.GroupUseExamples.{four_in_a_group}
use Rattle.ae_worked.proofs.RunExamples.{trap_beside_a_print}

-- The first statement traps. The third reads what it declares, and the others go on.
abbrev past : Meant
past = part trap_beside_a_print [] 100 (λ q. None)

abbrev paths : List At → List Instance
paths xs = map (λ (x : At). x.path) xs

past-ran : paths past.ran ≡ (0 ∷ []) ∷ (1 ∷ []) ∷ (3 ∷ []) ∷ []
unfolding part one many below
past-ran = refl

past-stopped : past.stopped ≡ record { path = 0 ∷ []; ending = Some (Trap 2 (at 2 1)) } ∷ []
unfolding part one many below
past-stopped = refl

past-printed : printed past ≡ line (pos 2) ∷ []
unfolding part one many below
past-printed = refl

abbrev edges_of : Code → Scene → List (ℕ × ℕ) → List Bool
edges_of p s xs = map (λ (x : ℕ × ℕ). is_edge (length p.names) (scene_uses p s) x.0 x.1) xs

abbrev edges_among : Code → List (ℕ × ℕ) → List Bool
edges_among p xs = given (top_called p main) [] (λ m. edges_of p (body_scene p m) xs)

trap_beside_a_print-edges : edges_among trap_beside_a_print
    ((0, 1) ∷ (0, 2) ∷ (0, 3) ∷ (1, 2) ∷ (1, 3) ∷ (2, 3) ∷ []) ≡ false ∷ true ∷ false ∷ false ∷ true ∷ false ∷ []
trap_beside_a_print-edges = refl

-- The object goes into the group, the block takes the group, and the print waits for both.
four_calls-edges : edges_among four_in_a_group ((0, 1) ∷ (0, 2) ∷ (1, 2) ∷ (0, 3) ∷ (2, 3) ∷ (2, 4) ∷ (3, 4) ∷ [])
    ≡ false ∷ true ∷ true ∷ false ∷ true ∷ true ∷ true ∷ []
four_calls-edges = refl

-- Two of the calls part at statements of the split block.
abbrev statements_of : Option Parting → List Instance
statements_of None = []
statements_of (Some k) = (k.left ∷ k.left_rest) ∷ (k.right ∷ k.right_rest) ∷ []

abbrev uses_of : Option Parting → Resource → List (Option Mode)
uses_of None x = []
uses_of (Some k) x = uses_from four_in_a_group k.at (k.left ∷ k.left_rest) x
    ∷ uses_from four_in_a_group k.at (k.right ∷ k.right_rest) x ∷ []

-- the write in the first call's atomic block, and the second call
abbrev two_calls : Option Parting
two_calls = parting four_in_a_group (3 ∷ 0 ∷ 0 ∷ 0 ∷ []) (3 ∷ 1 ∷ [])

two_calls-part : statements_of two_calls ≡ (0 ∷ 0 ∷ 0 ∷ []) ∷ (1 ∷ []) ∷ []
two_calls-part = refl

two_calls-share : uses_of two_calls (Group 6) ≡ Some mode.GroupShared ∷ Some mode.GroupShared ∷ []
two_calls-share = refl

two_calls-read : uses_of two_calls (Local 7) ≡ Some mode.Read ∷ Some mode.Read ∷ []
two_calls-read = refl
