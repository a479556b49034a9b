use Rattle.ae_frames.proofs.StayLemmas.{groups_stay_by_names}
use Rattle.ae_frames.proofs.laws.needed_groups_stay.Goals as goal

pub returns : goal.returns
returns c = groups_stay_by_names
