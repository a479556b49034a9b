-- The texts of the graphs that the page on the language shows.
use Rattle.std.specs.Prelude.{◌≡◌, refl, ◌++◌, [], ◌∷◌, codes}
use Rattle.ae_graph.specs.GraphText.{block_text}
use Rattle.ae_graph.specs.GraphText.{graph_text}
use Rattle.ae_worked.proofs.GraphTextExamples.{texts}
use Rattle.ae_worked.proofs.PageExamples.{calls_that_share_a_group, readers_and_a_writer}
use Rattle.ae_worked.proofs.UseExamples.{two_locals}

-- statement 2 waits for 0 and 1
two_locals-text : graph_text two_locals ≡ texts (
    (codes "method main\n" ++ texts (block_text 0 ([] ∷ [] ∷ (0 ∷ 1 ∷ []) ∷ []) ∷ []))
    ∷ [])
two_locals-text = refl

-- the readers wait for the maker, the writer for both, and the print for the writer
readers_and_a_writer-text : graph_text readers_and_a_writer ≡ texts (
    (codes "method get\n" ++ texts (block_text 0 ([] ∷ []) ∷ []))
    ∷ (codes "method put\n" ++ texts (block_text 0 ([] ∷ []) ∷ []))
    ∷ (codes "method main\n"
    ++ texts (block_text 0 ([] ∷ (0 ∷ []) ∷ (0 ∷ []) ∷ (0 ∷ 1 ∷ 2 ∷ []) ∷ (3 ∷ []) ∷ []) ∷ []))
    ∷ [])
readers_and_a_writer-text = refl

-- the four calls wait for nothing in their block
calls_that_share_a_group-text : graph_text calls_that_share_a_group ≡ texts (
    (codes "method bump\n" ++ texts (block_text 0 ([] ∷ []) ∷ []))
    ∷ (codes "method main\n" ++ texts (
    block_text 0 ([] ∷ [] ∷ (0 ∷ 1 ∷ []) ∷ (2 ∷ []) ∷ (2 ∷ 3 ∷ []) ∷ [])
    ∷ block_text 1 ([] ∷ [] ∷ [] ∷ [] ∷ [])
    ∷ []))
    ∷ [])
calls_that_share_a_group-text = refl
