use Rattle.std.proofs.Common.{◌≡◌, length, subst, sym, List}
use Rattle.std.specs.Prelude.{IfOk}
use Rattle.std.proofs.lemmas.Result.{IfOk-weaker}
use Rattle.ae_rules.specs.declared.uses.Footprint.{Footprint}
use Rattle.ae_rules.specs.Edges.{BlockUses}
use Rattle.ae_rules.specs.Blocks.{scene_graph, scene_uses}
use Rattle.ae_uses.specs.Opened.{AreFootprints}
use Rattle.ae_graph.specs.Drawn.{AreOfSome}
use Rattle.ae_graph.specs.Graph.{IsGraphOf}
use Rattle.ae_graph.proofs.Drawing.{drawn_are_of_some, uses_are_drawn, graph_is_drawn}
use Rattle.ae_graph.proofs.block.graph_drawn.Goals as goal

pub graph_by-requires-clause-used : goal.graph_by-requires-clause-used
graph_by-requires-clause-used c = subst AreOfSome (sym c.as_slice.ensures)
    (drawn_are_of_some c.requires.0 c.requires.1 c.args.opened.now c.requires.2)

pub returns : goal.returns
returns c = λ p x d.
    let by = subst (λ (fs : List Footprint). (uses : BlockUses) → AreFootprints uses (length fs) fs
    → IfOk c.graph_by.result (IsGraphOf uses (length fs))) c.as_slice.ensures c.graph_by.ensures in
    IfOk-weaker c.graph_by.result (IsGraphOf (scene_uses p x.1) (length c.args.opened.now.uses))
    (λ g. g ≡ scene_graph p x.1) (graph_is_drawn p x c.args.opened.now d)
    (by (scene_uses p x.1) (uses_are_drawn p x c.args.opened.now d))
