use Rattle.ae_graph.specs.Graph.{AreSuccs}
use Rattle.ae_graph.proofs.Lists.{succs_at}
use Rattle.std.proofs.Common.{List, get_or, subst, sym, ap, ◌∙◌}
use Rattle.ae_graph.proofs.block.BlockGraph.succs.Goals as goal

pub returns : goal.returns
returns c =
    let inv = c.self.invariant in
    subst (λ (l : List _). AreSuccs c.args.self.now c.args.i l) (sym c.as_slice-2.ensures)
    (succs_at c.args.self.now c.self.inside.succs c.args.i c.index-as_slice-i.result
    (rw c.self.view_is at inv.0) c.requires
    (c.index-as_slice-i.is ∙ ap (λ l. get_or l c.args.i c.index-as_slice-i.result) c.as_slice.ensures))
