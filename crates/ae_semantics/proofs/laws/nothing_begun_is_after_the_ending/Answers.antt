use Rattle.ae_semantics.proofs.Ended.{nothing_begun_is_after}
use Rattle.ae_semantics.proofs.laws.nothing_begun_is_after_the_ending.Goals as goal

pub returns : goal.returns
returns c = nothing_begun_is_after
