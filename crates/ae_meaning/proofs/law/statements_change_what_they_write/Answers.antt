use Rattle.ae_meaning.proofs.Laws.{changes_its_writes}
use Rattle.ae_meaning.proofs.law.statements_change_what_they_write.Goals as goal

pub returns : goal.returns
returns c = changes_its_writes
