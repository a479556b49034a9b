use Rattle.ae_meaning.proofs.Laws.{reads_its_uses}
use Rattle.ae_meaning.proofs.law.statements_read_what_they_use.Goals as goal

pub returns : goal.returns
returns c = reads_its_uses
