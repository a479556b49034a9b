use Rattle.std.proofs.Common.{◌≡◌, subst, sym, ◌∙◌, Option, true}
use Rattle.std.specs.Prelude.{is_some}
use Rattle.ae_tree.specs.Shown.{definition}
use Rattle.ae_rules.specs.Blocks.{scenes}
use Rattle.ae_judge.specs.Tabled.{code_of}
use Rattle.ae_graph.specs.Drawn.{AreDrawable}
use Rattle.ae_graph.specs.Graph.{Graph}
use Rattle.ae_graph.proofs.Drawing.{graph_in_method}
use Rattle.ae_graph.proofs.block.graph_in.Goals as goal

pub graph_among-requires : goal.graph_among-requires
graph_among-requires c =
    let p = code_of c.args.tabled.now in
    let m = definition c.in-Some.method.now in (
      p,
      scenes p m,
      subst (AreDrawable p (scenes p m)) (sym c.as_slice.ensures) c.in_ok-blocks.ensures.drawable,
      subst (λ (o : Option Graph). is_some o ≡ true) (graph_in_method p c.args.method c.args.block m c.in-Some.ensures)
          c.requires.block,
    )

pub returns-in-Ok : goal.returns-in-Ok
returns-in-Ok c =
    let p = code_of c.args.tabled.now in
    let m = definition c.in-Some.method.now in
    graph_in_method p c.args.method c.args.block m c.in-Some.ensures
    ∙ c.in-Ok.ensures p (scenes p m)
    (subst (AreDrawable p (scenes p m)) (sym c.as_slice.ensures) c.in_ok-blocks.ensures.drawable)
