use Rattle.std.proofs.Common.{option_map}
use Rattle.ae_values.specs.Shown.{shown}
use Rattle.ae_reads.specs.Answers.{one_name}
use Rattle.ae_frames.proofs.from_stores.EmptyLemmas.{emptied_is_seen}
use Rattle.ae_frames.proofs.restoring.lose.Goals as goal

pub returns-clause-meant : goal.returns-clause-meant
returns-clause-meant c = emptied_is_seen one_name (option_map shown c.args.run.now.result) c.args.run.now.env
    c.take.new.self c.args.name c.take.ensures.left
