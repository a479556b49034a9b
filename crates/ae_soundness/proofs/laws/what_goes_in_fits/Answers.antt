use Rattle.ae_soundness.proofs.IntoLemmas.{what_goes_in_fits}
use Rattle.ae_soundness.proofs.laws.what_goes_in_fits.Goals as goal

pub returns : goal.returns
returns c = what_goes_in_fits
