use Rattle.std.proofs.Common.{arith, length, subst, sym, ap, ◌∙◌}
use Rattle.ae_graph.specs.Graph.{Graph, edges_from, AreAllSuccs}
use Rattle.ae_graph.specs.Succs.{AreEarlier}
use Rattle.ae_graph.proofs.Rows.{earlier}
use Rattle.ae_graph.proofs.block.graph_by.Goals as goal

pub preds_of-requires : goal.preds_of-requires
preds_of-requires c = omega (arith, c.requires.few)

pub succs_of-requires-clause-few : goal.succs_of-requires-clause-few
succs_of-requires-clause-few c =
    omega (
      arith,
      c.requires.few,
      (c.in_ok-preds.ensures c.requires.used.0 c.requires.used.1).0,
      ap length c.as_slice.ensures,
    )

pub succs_of-requires-clause-earlier : goal.succs_of-requires-clause-earlier
succs_of-requires-clause-earlier c = subst AreEarlier (sym c.as_slice.ensures)
    (earlier c.requires.used.0 c.in_ok-preds.preds (c.in_ok-preds.ensures c.requires.used.0 c.requires.used.1).1)

pub edges_of-requires : goal.edges_of-requires
edges_of-requires c = omega (
  arith,
  c.requires.few,
  (c.in_ok-preds.ensures c.requires.used.0 c.requires.used.1).0,
  ap length c.as_slice-2.ensures,
)

pub invariant_of-result : goal.invariant_of-result
invariant_of-result c = (
  subst (λ (g : Graph). AreAllSuccs g c.in_ok-succs.succs) c.as_slice.ensures c.in_ok-succs.ensures,
  c.in_ok-edges.ensures ∙ ap (edges_from 0) c.as_slice-2.ensures,
  omega (arith, c.requires.few, (c.in_ok-preds.ensures c.requires.used.0 c.requires.used.1).0),
)
