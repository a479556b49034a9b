use Rattle.std.proofs.Common.{length}
use Rattle.ae_acts.proofs.objects.+note_moves.Given as goal

abbrev pub decreases-note_moves : goal.decreases-note_moves
decreases-note_moves l = length l.args.now
