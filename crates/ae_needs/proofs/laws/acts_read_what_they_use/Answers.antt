use Rattle.ae_needs.proofs.ActLemmas.{acts_read_what_they_use}
use Rattle.ae_needs.proofs.laws.acts_read_what_they_use.Goals as goal

pub returns : goal.returns
returns c = acts_read_what_they_use
    (record { allowed = c.uses_are_allowed.ensures; lines = c.lines_add_what_they_declare.ensures })
