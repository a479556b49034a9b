use Rattle.ae_reading.specs.Reads.{itself, Free, Always}
use Rattle.ae_statements.proofs.from_reading.ReadsLemmas.{exits}
use Rattle.ae_statements.specs.Blocks.{locked_group}
use Rattle.ae_statements.proofs.DeepLemmas.{lock_took, lock_first, lock_second}
use Rattle.ae_statements.proofs.deep.locked_group.Goals as goal

pub returns-in_err-at : goal.returns-in_err-at
returns-in_err-at c = exits itself locked_group Free Always _ _ _
    (lock_first c.in_err-at.ensures) c.from_residual.ensures.1

pub returns-in_err-group : goal.returns-in_err-group
returns-in_err-group c = exits itself locked_group Free Always _ _ _
    (lock_second c.in_ok-at.ensures c.in_err-group.ensures) c.from_residual-in_err-group.ensures.1

pub returns : goal.returns
returns c = lock_took c.in_ok-at.ensures c.in_ok-group.ensures
