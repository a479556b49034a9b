use Rattle.ae_rules.proofs.DeclareLemmas.{lines_declare}
use Rattle.ae_rules.proofs.laws.lines_add_what_they_declare.Goals as goal

pub returns : goal.returns
returns c = lines_declare
