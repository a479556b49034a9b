use Rattle.std.proofs.Common.{length}
use Rattle.ae_acts.proofs.objects.+lose.Given as goal

abbrev pub decreases-lose : goal.decreases-lose
decreases-lose l = length l.moves.now
