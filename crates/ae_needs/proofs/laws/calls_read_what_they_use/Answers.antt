use Rattle.ae_needs.proofs.CallLemmas.{calls_read_what_they_use}
use Rattle.ae_needs.proofs.laws.calls_read_what_they_use.Goals as goal

pub returns : goal.returns
returns c = calls_read_what_they_use
    (record { allowed = c.uses_are_allowed.ensures; lines = c.lines_add_what_they_declare.ensures })
    (record { entered = c.calls_are_entered.ensures; slots = c.every_slot_is_given.ensures })
