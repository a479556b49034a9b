use Rattle.ae_parser.proofs.SideLemmas.{nothing_yet}
use Rattle.ae_parser.proofs.places.side_of.Goals as goal

pub loop-index-init : goal.loop-index-init
loop-index-init c = nothing_yet
