use Rattle.ae_rules.proofs.LawLemmas.{nothing_to_take}
use Rattle.ae_rules.proofs.laws.nothing_to_take_inside_a_group.Goals as goal

pub returns : goal.returns
returns c = nothing_to_take
