use Rattle.ae_semantics.proofs.Answering.{more_answers_keep}
use Rattle.ae_semantics.proofs.laws.statement_stays_with_more_answers.Goals as goal

pub returns : goal.returns
returns c = more_answers_keep
