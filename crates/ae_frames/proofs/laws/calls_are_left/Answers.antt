use Rattle.ae_frames.proofs.LeftLemmas.{left_by_what_was_kept}
use Rattle.ae_frames.proofs.laws.calls_are_left.Goals as goal

pub returns : goal.returns
returns c = left_by_what_was_kept
