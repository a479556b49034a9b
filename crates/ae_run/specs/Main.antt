-- The method that a program of the forms that run has, and what its statements use.
use Rattle.ae_tree.specs.Plain.{Lines, End, Definition, Code}
use Rattle.ae_tree.specs.Limits.{statement_count}
use Rattle.ae_rules.specs.Verdict.{given}
use Rattle.ae_rules.specs.Lookups.{method_at}
use Rattle.ae_rules.specs.Edges.{BlockUses}
use Rattle.ae_rules.specs.Uses.{nothing}
use Rattle.ae_rules.specs.Blocks.{body_scene, scene_uses}
use Rattle.ae_graph.specs.Graph.{Graph, IsGraphOf}
use Rattle.ae_meaning.specs.Meaning.{Run, today_many, begin}

-- the statements of the first method
abbrev pub main_lines : Code → Lines
main_lines p = given (method_at p 0) End (λ (m : Definition). m.body)

-- what each statement of the first method uses
abbrev pub main_uses : Code → BlockUses
main_uses p = given (method_at p 0) (λ i. nothing) (λ (m : Definition). scene_uses p (body_scene p m))

-- the graph of the first method's body
abbrev pub IsMainGraph : Code → Graph → Type 0
IsMainGraph p g = IsGraphOf (main_uses p) (statement_count (main_lines p)) g

-- the run of the first method's body in source order
abbrev pub main_run : Code → Run
main_run p = today_many (main_lines p) begin
