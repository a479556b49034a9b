use Rattle.ae_judge.specs.Tabled.{code_of}
use Rattle.ae_running.specs.Seen.{seen}
use Rattle.ae_frames.proofs.AskedLemmas.{path_stands}
use Rattle.ae_frames.proofs.arguments.path_asked.Goals as goal

pub returns-in-Some-clause-asked : goal.returns-in-Some-clause-asked
returns-in-Some-clause-asked c = path_stands (code_of c.args.tabled.now) (seen c.args.run.now) c.args.path.now
    c.in-Ok.found c.walk_noting.new.fields.items c.in-Some.name c.in-Ok.ensures c.in-Some.ensures.0
