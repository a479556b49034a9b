use Rattle.ae_reading.specs.Reads.{Always}
use Rattle.ae_statements.proofs.from_reading.ReadsLemmas.{exits}
use Rattle.ae_statements.specs.Productions.{returned, KeepsReturned, shown_returned}
use Rattle.ae_statements.proofs.BodyLemmas.{returned_took, returned_first, returned_second}
use Rattle.ae_statements.proofs.bodies.result_of.Goals as goal

pub returns-in_err-at : goal.returns-in_err-at
returns-in_err-at c = exits shown_returned returned KeepsReturned Always _ _ _ (returned_first c.in_err-at.ensures)
    c.from_residual.ensures.1

pub returns-in_err-e : goal.returns-in_err-e
returns-in_err-e c = exits shown_returned returned KeepsReturned Always _ _ _
    (returned_second c.in_ok-at.ensures c.in_err-e.ensures) c.from_residual-in_err-e.ensures.1

pub returns : goal.returns
returns c = returned_took c.in_ok-at.ensures c.in_ok-e.ensures
