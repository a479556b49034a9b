use Rattle.ae_tree.specs.Shown.{code as plain}
use Rattle.aem.proofs.modes.checked.Goals as goal

pub judge-requires : goal.judge-requires
judge-requires c =
    c.derived_programs_are_well_shaped.ensures c.requires.1.tokens (plain c.args.program) c.requires.1.derives
