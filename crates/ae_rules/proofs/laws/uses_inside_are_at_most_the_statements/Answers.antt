use Rattle.ae_rules.proofs.PathLemmas.{uses_inside_are_at_most}
use Rattle.ae_rules.proofs.laws.uses_inside_are_at_most_the_statements.Goals as goal

pub returns : goal.returns
returns c = uses_inside_are_at_most
