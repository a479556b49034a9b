-- The text of the graphs of a program.
use Rattle.std.specs.Prelude.{ℕ, ◌+◌, ◌++◌, List, [], ◌∷◌, length, slice_index_or, codes, if◌then◌else◌}
use Rattle.std.specs.Fmt.{decimal}
use Rattle.std.specs.List.{flat_map}
use Rattle.ae_tree.specs.declared.tree.Class.{Class}
use Rattle.ae_tree.specs.Plain.{Definition, Code}
use Rattle.ae_rules.specs.Verdict.{given}
use Rattle.ae_rules.specs.Lookups.{class_at}
use Rattle.ae_rules.specs.Blocks.{Opened, scenes, scene_graph}
use Rattle.ae_graph.specs.Graph.{Graph, is_free}

-- a name as it is written, and nothing for a number without a name
abbrev pub written_name : List (List ℕ) → ℕ → List ℕ
written_name names x = slice_index_or names x []

-- each number behind a space
abbrev pub spaced : List ℕ → List ℕ
spaced [] = []
spaced (i ∷ numbers) = 32 ∷ decimal i ++ spaced numbers

-- the line of statement j, where it waits for some
abbrev pub line_text : ℕ → List ℕ → List ℕ
line_text j preds = if is_free preds then [] else decimal j ++ codes " after" ++ spaced preds ++ codes "\n"

-- the lines from statement j on
abbrev pub lines_text : ℕ → Graph → List ℕ
lines_text j [] = []
lines_text j (preds ∷ g) = line_text j preds ++ lines_text (j + 1) g

abbrev pub block_text : ℕ → Graph → List ℕ
block_text number g = codes "block " ++ decimal number ++ codes " has " ++ decimal (length g) ++ codes "\n"
    ++ lines_text 0 g

-- a block with its number, and what each of its statements waits for
abbrev pub text_of_block : Code → Opened → List ℕ
text_of_block p s = block_text s.0 (scene_graph p s.1)

-- the class in which a method stands, with a dot
abbrev pub in_class : Code → Definition → List ℕ
in_class p m = given m.class []
    (λ n. given (class_at p n) [] (λ (k : Class). written_name p.names k.name.name ++ codes "."))

-- a method, and these blocks
abbrev pub text_of_blocks : Code → Definition → List Opened → List ℕ
text_of_blocks p m xs = codes "method " ++ in_class p m ++ written_name p.names m.name.name ++ codes "\n"
    ++ flat_map (text_of_block p) xs

-- a method, and its blocks that are not inside an atomic block, in the order in which they are opened
abbrev pub text_of_method : Code → Definition → List ℕ
text_of_method p m = text_of_blocks p m (scenes p m)

-- the methods in source order
abbrev pub graph_text : Code → List ℕ
graph_text p = flat_map (text_of_method p) p.methods
