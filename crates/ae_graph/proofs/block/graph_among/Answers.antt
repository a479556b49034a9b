use Rattle.std.proofs.Common.{◌≡◌, ap, sym, ◌∙◌, Some}
use Rattle.std.specs.Prelude.{option_map}
use Rattle.std.proofs.lemmas.Result.{IfOk-weaker}
use Rattle.ae_rules.specs.Blocks.{scene_graph, scene_numbered}
use Rattle.ae_graph.proofs.Drawing.{drawn_under, no_graph_without_block}
use Rattle.ae_graph.proofs.block.graph_among.Goals as goal

pub unreachable-requires : goal.unreachable-requires
unreachable-requires c = no_graph_without_block c.requires.0 c.requires.1 c.args.blocks.now c.args.number c.requires.2
    c.in_default.ensures c.requires.3

pub graph_drawn-requires : goal.graph_drawn-requires
graph_drawn-requires c =
    let r = drawn_under c.requires.0 c.requires.1 c.args.blocks.now c.args.number c.requires.2 c.in-Some.opened.now
    c.in-Some.ensures in
    (c.requires.0, r.0, r.2)

pub returns : goal.returns
returns c = λ p xs d.
    let r = drawn_under p xs c.args.blocks.now c.args.number d c.in-Some.opened.now c.in-Some.ensures in
    IfOk-weaker c.graph_drawn.result (λ g. g ≡ scene_graph p r.0.1)
    (λ g. option_map (scene_graph p) (scene_numbered c.args.number xs) ≡ Some g)
    (λ g e. ap (option_map (scene_graph p)) r.1 ∙ ap Some (sym e)) (c.graph_drawn.ensures p r.0 r.2)
