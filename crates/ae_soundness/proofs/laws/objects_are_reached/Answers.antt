use Rattle.ae_soundness.proofs.PlaceLemmas.{objects_are_reached}
use Rattle.ae_soundness.proofs.laws.objects_are_reached.Goals as goal

pub returns : goal.returns
returns c = objects_are_reached
