use Rattle.ae_rules.proofs.BelowLemmas.{names_are_below}
use Rattle.ae_rules.proofs.laws.names_are_of_the_program.Goals as goal

pub returns : goal.returns
returns c = names_are_below
