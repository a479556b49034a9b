use Rattle.ae_meaning.proofs.Laws.{adds_to_the_log}
use Rattle.ae_meaning.proofs.law.statements_add_to_the_log.Goals as goal

pub returns : goal.returns
returns c = adds_to_the_log
