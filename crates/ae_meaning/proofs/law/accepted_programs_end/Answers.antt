use Rattle.ae_meaning.proofs.Fits.{program_ends}
use Rattle.ae_meaning.proofs.law.accepted_programs_end.Goals as goal

pub returns : goal.returns
returns c = program_ends
