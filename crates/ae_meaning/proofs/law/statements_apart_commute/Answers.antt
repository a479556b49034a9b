use Rattle.ae_meaning.proofs.Laws.{apart_commute}
use Rattle.ae_meaning.proofs.law.statements_apart_commute.Goals as goal

pub returns : goal.returns
returns c = apart_commute
