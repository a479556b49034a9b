use Rattle.std.proofs.Common.{[], sym, subst}
use Rattle.ae_levels.specs.Meanings.{MeansSo}
use Rattle.ae_tree.specs.Shown.{code as plain}
use Rattle.aem.proofs.Meanings.{graph_run_means}
use Rattle.aem.proofs.modes.run_by_graph.Goals as goal

pub returns-in-Ok : goal.returns-in-Ok
returns-in-Ok g c = let p = plain c.args.code.now.program in
    subst (λ ending. MeansSo p [] 100000 ending c.in-Ok.report.out) (sym c.whole_ending.ensures)
    (graph_run_means p c.in-Ok.report.ending c.in-Ok.report.out c.in-Ok.ensures.ending c.in-Ok.ensures.out)
