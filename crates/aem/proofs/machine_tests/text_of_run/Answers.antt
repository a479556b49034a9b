use Rattle.std.proofs.Common.{sym, subst}
use Rattle.ae_levels.specs.Going.{IsSound}
use Rattle.aem.proofs.machine_tests.text_of_run.Goals as goal

pub evaluate-requires : goal.evaluate-requires
evaluate-requires c = subst IsSound (sym c.tabled_of.ensures.program) c.requires
