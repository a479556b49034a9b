use Rattle.ae_check.proofs.StartLemmas.{judging_stays_ready}
use Rattle.ae_check.proofs.laws.judging_stays_ready.Goals as goal

pub returns : goal.returns
returns c = judging_stays_ready c.judging_keeps_right.ensures c.lines_add_what_they_declare.ensures
    c.statements_keep_what_is_visible.ensures
