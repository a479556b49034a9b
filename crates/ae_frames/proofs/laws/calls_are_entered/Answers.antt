use Rattle.ae_frames.proofs.EnteredLemmas.{entered_anywhere}
use Rattle.ae_frames.proofs.laws.calls_are_entered.Goals as goal

pub returns : goal.returns
returns c = entered_anywhere
