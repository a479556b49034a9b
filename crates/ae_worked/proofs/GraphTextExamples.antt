-- The texts of the graphs of some programs.
use Rattle.std.proofs.Common.{rules, append_assoc, append-nil}
use Rattle.std.specs.Prelude.{◌≡◌, refl, ◌++◌, ℕ, List, [], ◌∷◌, codes}
use Rattle.std.specs.Fmt.{decimal}
use Rattle.ae_graph.specs.GraphText.{block_text}
use Rattle.ae_graph.specs.GraphText.{graph_text}
use Rattle.ae_worked.proofs.UseExamples.{blocks_of_a_choice_and_a_loop, lent_twice_then_changed, method_of_a_class}
use Rattle.ae_worked.proofs.GroupUseExamples.{four_in_a_group}

-- texts one after another
abbrev pub texts : List (List ℕ) → List ℕ
texts [] = []
texts (t ∷ ts) = t ++ texts ts

-- The line of statement 2 that waits for statements 0 and 1 says `2 after 0 1`.
one_block : block_text 0 ([] ∷ [] ∷ (0 ∷ 1 ∷ []) ∷ []) ≡ codes "block " ++ decimal 0 ++ codes " has " ++ decimal 3
    ++ codes "\n"
    ++ decimal 2 ++ codes " after " ++ decimal 0 ++ codes " " ++ decimal 1 ++ codes "\n"
one_block = search (rules, append_assoc, append-nil)

-- The blocks of a choice and of a loop stand behind the one that they lie in.
branches-text : graph_text blocks_of_a_choice_and_a_loop ≡ texts ((codes "method main\n" ++ texts (
    block_text 0 ([] ∷ (0 ∷ []) ∷ (0 ∷ 1 ∷ []) ∷ [])
    ∷ block_text 1 ([] ∷ (0 ∷ []) ∷ [])
    ∷ block_text 2 ([] ∷ [])
    ∷ block_text 3 ([] ∷ [])
    ∷ [])) ∷ [])
branches-text = refl

-- A method of a class has its name behind that of the class.
method_of_a_class-text : graph_text method_of_a_class ≡ texts (
    (codes "method Box.get\n" ++ texts (block_text 0 ([] ∷ []) ∷ []))
    ∷ (codes "method main\n" ++ texts (block_text 0 ([] ∷ (0 ∷ []) ∷ (1 ∷ []) ∷ []) ∷ []))
    ∷ [])
method_of_a_class-text = refl

-- methods in source order
lent_twice_then_changed-text : graph_text lent_twice_then_changed ≡ texts (
    (codes "method get\n" ++ texts (block_text 0 ([] ∷ []) ∷ []))
    ∷ (codes "method put\n" ++ texts (block_text 0 ([] ∷ []) ∷ []))
    ∷ (codes "method main\n" ++ texts
    (block_text 0 ([] ∷ (0 ∷ []) ∷ (0 ∷ []) ∷ (0 ∷ 1 ∷ 2 ∷ []) ∷ (3 ∷ []) ∷ []) ∷ []))
    ∷ [])
lent_twice_then_changed-text = refl

-- the atomic block of `bump` has no line, and the split block of `main` has one
four_in_a_group-text : graph_text four_in_a_group ≡ texts (
    (codes "method bump\n" ++ texts (block_text 0 ([] ∷ []) ∷ []))
    ∷ (codes "method main\n" ++ texts (
    block_text 0 ([] ∷ [] ∷ (0 ∷ 1 ∷ []) ∷ (2 ∷ []) ∷ (2 ∷ 3 ∷ []) ∷ [])
    ∷ block_text 1 ([] ∷ [] ∷ [] ∷ [] ∷ [])
    ∷ []))
    ∷ [])
four_in_a_group-text = refl
