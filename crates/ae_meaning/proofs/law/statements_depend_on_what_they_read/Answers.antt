use Rattle.ae_meaning.proofs.Laws.{depends_on_reads}
use Rattle.ae_meaning.proofs.law.statements_depend_on_what_they_read.Goals as goal

pub returns : goal.returns
returns c = depends_on_reads
