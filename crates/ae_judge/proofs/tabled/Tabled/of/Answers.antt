use Rattle.ae_judge.proofs.ReceiverLemmas.{receivers_fit}
use Rattle.ae_judge.proofs.tabled.Tabled.of.Goals as goal

pub invariant_of-result : goal.invariant_of-result
invariant_of-result c = record {
  holds = c.requires.holds;
  stands = c.requires.stands;
  receivers = receivers_fit _ c.requires.shaped;
}
