use Rattle.ae_semantics.proofs.Unasked.{atom_asks_nothing}
use Rattle.ae_semantics.proofs.laws.atom_asks_nothing.Goals as goal

pub returns : goal.returns
returns c = atom_asks_nothing
