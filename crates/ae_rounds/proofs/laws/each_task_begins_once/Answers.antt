use Rattle.ae_rounds.proofs.LawLemmas.{begins_once}
use Rattle.ae_rounds.proofs.laws.each_task_begins_once.Goals as goal

pub returns : goal.returns
returns c = begins_once
