use Rattle.ae_soundness.proofs.BodyLemmas.{accepted_meanings_end}
use Rattle.ae_soundness.proofs.laws.accepted_meanings_end.Goals as goal

pub returns : goal.returns
returns c = accepted_meanings_end c.accepted_runs_never_lack.ensures
