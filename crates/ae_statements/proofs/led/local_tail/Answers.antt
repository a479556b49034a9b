use Rattle.ae_reading.specs.Reads.{Always}
use Rattle.ae_statements.proofs.from_reading.ReadsLemmas.{exits, took_as, failed_as}
use Rattle.ae_statements.specs.Productions.{local_value}
use Rattle.ae_statements.specs.declared.led.Front.TheVariants as front
use Rattle.ae_statements.specs.Productions.{Assigned, tail, KeepsTail, shown_tail}
use Rattle.ae_statements.proofs.LedLemmas.{local_along}
use Rattle.ae_statements.proofs.led.local_tail.Goals as goal

pub returns-in_err-e : goal.returns-in_err-e
returns-in_err-e c = exits shown_tail (tail front.Local) KeepsTail Always _ _ _
    (failed_as (tail front.Local) local_value Assigned (local_along _ c.requires) c.in_err-e.ensures)
    c.from_residual.ensures.1

pub returns : goal.returns
returns c = took_as (tail front.Local) local_value Assigned (local_along _ c.requires) c.in_ok-e.ensures
