use Rattle.std.proofs.Common.{length}
use Rattle.ae_acts.proofs.objects.+highest_of.Given as goal

abbrev pub decreases-highest_of : goal.decreases-highest_of
decreases-highest_of l = length l.values.now
