use Rattle.ae_soundness.proofs.MethodLemmas.{methods_have_members}
use Rattle.ae_soundness.proofs.laws.methods_have_members.Goals as goal

pub returns : goal.returns
returns c = methods_have_members
