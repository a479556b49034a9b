use Rattle.std.proofs.Common.{◌+◌, ◌*◌, length}
use Rattle.ae_acts.proofs.objects.+gather.Given as goal

abbrev pub decreases-gather : goal.decreases-gather
decreases-gather l = 2 * length l.args.now

abbrev pub decreases-gather_kept : goal.decreases-gather_kept
decreases-gather_kept l = 2 * length l.rest.now + 1

abbrev pub decreases-gather_moved : goal.decreases-gather_moved
decreases-gather_moved l = 2 * length l.rest.now + 1
