use Rattle.std.proofs.Common.{sym, subst}
use Rattle.ae_tree.specs.Shown.{code as plain}
use Rattle.ae_judge.specs.Tabled.{code_of}
use Rattle.ae_levels.specs.Going.{IsSound}
use Rattle.aem.proofs.Meanings.{same_means}
use Rattle.aem.proofs.modes.run_in_order.Goals as goal

pub evaluate-requires : goal.evaluate-requires
evaluate-requires c = subst IsSound (sym c.tabled_of.ensures.program) c.requires

pub returns-in-Ok : goal.returns-in-Ok
returns-in-Ok c =
    same_means (code_of c.tabled_of.result) (plain c.args.code.now.program) c.in-Ok.meant.ending
    c.in-Ok.meant.out.items c.from_vec.result c.tabled_of.ensures.program c.from_vec.ensures c.in-Ok.ensures
