-- The blocks of a method in the order in which they are opened, each with the context in which it begins, and the graph of each.
use Rattle.std.specs.Prelude.{ℕ, nat_eq, Bool, true, false, if◌then◌else◌, List, [], ◌∷◌, ◌++◌, length, Option, None}
use Rattle.std.specs.Prelude.{Some, option_map}
use Rattle.ae_rules.specs.Edges.{BlockUses}
use Rattle.ae_tree.specs.Limits.{statement_count}
use Rattle.ae_tree.specs.Plain.{Action, Chooses, ChoosesElse, Repeats, Splits, Locks, Lines, End, Next, Definition}
use Rattle.ae_tree.specs.Plain.{Code}
use Rattle.ae_rules.specs.Verdict.{given, judged}
use Rattle.ae_rules.specs.Lookups.{method_at}
use Rattle.ae_rules.specs.Context.{Context}
use Rattle.ae_rules.specs.Statements.{while_split, while_locked, judge_statement}
use Rattle.ae_rules.specs.Judges.{start}
use Rattle.ae_rules.specs.Uses.{block_uses}
use Rattle.ae_rules.specs.EdgeLists.{graph}

-- a block of a method, and the context in which it begins
pub record Scene : Type 0 where
  pub method : Definition
  pub lines : Lines
  pub start : Context

abbrev pub block_at : Definition → Lines → Context → Scene
block_at m b c = record { method = m; lines = b; start = c }

-- the body of a method
abbrev pub body_scene : Code → Definition → Scene
body_scene p m = block_at m m.body (start p m)

-- ---- as text

-- a block's number and its statements
abbrev pub Numbered : Type 0
Numbered = ℕ × Lines

abbrev mutual
  -- the blocks in a statement in the order in which they are opened; atomic blocks and what is in them count only where this is said
  pub blocks_in : Bool → Action → List Numbered
  blocks_in atomic (Chooses e n b) = (n, b) ∷ blocks_among atomic b
  blocks_in atomic (ChoosesElse e n b k b') = ((n, b) ∷ blocks_among atomic b) ++ ((k, b') ∷ blocks_among atomic b')
  blocks_in atomic (Repeats e n b) = (n, b) ∷ blocks_among atomic b
  blocks_in atomic (Splits gs n b) = (n, b) ∷ blocks_among atomic b
  blocks_in atomic (Locks g n b) = if atomic then (n, b) ∷ blocks_among atomic b else []
  blocks_in atomic _ = []

  pub blocks_among : Bool → Lines → List Numbered
  blocks_among atomic End = []
  blocks_among atomic (Next at a rest) = blocks_in atomic a ++ blocks_among atomic rest

-- the blocks of a method, its body first
abbrev pub blocks_of : Bool → Definition → List Numbered
blocks_of atomic m = (m.no, m.body) ∷ blocks_among atomic m.body

-- ---- with their contexts

-- a block's number, and the block
abbrev pub Opened : Type 0
Opened = ℕ × Scene

abbrev mutual
  -- the blocks in a statement in the same order, from the context before it
  pub scenes_in : Code → Definition → Bool → Action → Context → List Opened
  scenes_in p m atomic (Chooses e n b) c = (n, block_at m b c) ∷ scenes_among p m atomic b c
  scenes_in p m atomic (ChoosesElse e n b k b') c = ((n, block_at m b c) ∷ scenes_among p m atomic b c)
      ++ ((k, block_at m b' c) ∷ scenes_among p m atomic b' c)
  scenes_in p m atomic (Repeats e n b) c = (n, block_at m b c) ∷ scenes_among p m atomic b c
  scenes_in p m atomic (Splits gs n b) c = (n, block_at m b (while_split gs c)) ∷ scenes_among p m atomic b
      (while_split gs c)
  scenes_in p m atomic (Locks g n b) c = if atomic then (n, block_at m b (while_locked g.name c))
      ∷ scenes_among p m atomic b (while_locked g.name c) else []
  scenes_in p m atomic _ c = []

  -- the blocks in statements in order, as far as the statements are judged
  pub scenes_among : Code → Definition → Bool → Lines → Context → List Opened
  scenes_among p m atomic End c = []
  scenes_among p m atomic (Next at a rest) c = scenes_in p m atomic a c ++ judged (judge_statement p m at a c) []
      (scenes_among p m atomic rest)

-- all blocks of a method, its body first
abbrev pub all_scenes : Code → Definition → List Opened
all_scenes p m = (m.no, body_scene p m) ∷ scenes_among p m true m.body (start p m)

-- the blocks of a method that are not inside an atomic block, its body first
abbrev pub scenes : Code → Definition → List Opened
scenes p m = (m.no, body_scene p m) ∷ scenes_among p m false m.body (start p m)

-- the block with this number among these
abbrev pub scene_numbered : ℕ → List Opened → Option Scene
scene_numbered n [] = None
scene_numbered n (x ∷ xs) = if nat_eq x.0 n then Some x.1 else scene_numbered n xs

-- the block with this number in a method
abbrev pub scene : Code → Definition → ℕ → Option Scene
scene p m n = scene_numbered n (all_scenes p m)

-- ---- graphs

-- how each statement of a block uses each resource
abbrev pub scene_uses : Code → Scene → BlockUses
scene_uses p s = block_uses p s.method s.lines s.start

abbrev pub scene_graph : Code → Scene → List (List ℕ)
scene_graph p s = graph (length p.names) (scene_uses p s) (statement_count s.lines)

-- For each statement of this block of the method with this number, the statements for which it waits. A block inside an atomic block has no graph.
abbrev pub graph_of : Code → ℕ → ℕ → Option (List (List ℕ))
graph_of p k n = given (method_at p k) None
    (λ (m : Definition). option_map (scene_graph p) (scene_numbered n (scenes p m)))
