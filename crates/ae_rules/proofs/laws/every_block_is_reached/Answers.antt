use Rattle.ae_rules.proofs.BlockLemmas.{blocks_are_reached}
use Rattle.ae_rules.proofs.laws.every_block_is_reached.Goals as goal

pub returns : goal.returns
returns c = blocks_are_reached
