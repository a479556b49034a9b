use Rattle.ae_reading.proofs.ReadsLemmas.{refuses}
use Rattle.ae_reading.proofs.ReadsLemmas.{name_end, name_other, took_name}
use Rattle.ae_reading.proofs.terminals.name.Goals as goal

pub returns-in_default : goal.returns-in_default
returns-in_default c = refuses _ _ _ _ _ _ c.unexpected.ensures (name_end _ _ c.in_default.ensures)

pub returns-in_default-kind : goal.returns-in_default-kind
returns-in_default-kind c = refuses _ _ _ _ _ _ c.unexpected-in_default-kind.ensures
    (name_other _ _ _ _ c.in-Some.ensures c.in_default-kind.not-Name)

pub returns-in-Name : goal.returns-in-Name
returns-in-Name c = took_name _ _ c.in-Some.first.now _ c.in-Some.ensures c.in-Name.is
