use Rattle.ae_tree.specs.Shown.{code as plain}
use Rattle.aem.proofs.from_run.Programs.{graph_there}
use Rattle.aem.proofs.calls_tests.graph_of.Goals as goal

pub of-requires-clause-block : goal.of-requires-clause-block
of-requires-clause-block c = graph_there (plain c.args.code.now.program) c.requires.built
