use Rattle.ae_reading.specs.Reads.{Always}
use Rattle.ae_statements.proofs.from_reading.ReadsLemmas.{exits, took_as, failed_as}
use Rattle.ae_statements.specs.Productions.{indexed, tail, KeepsTail, shown_tail}
use Rattle.ae_statements.proofs.LedLemmas.{at_place, index_along}
use Rattle.ae_statements.proofs.led.index_tail.Goals as goal

pub returns-in_err-index : goal.returns-in_err-index
returns-in_err-index c = exits shown_tail (tail c.args.front) KeepsTail Always _ _ _
    (failed_as (tail c.args.front) indexed at_place (index_along _ _ c.requires) c.in_err-index.ensures)
    c.from_residual.ensures.1

pub returns : goal.returns
returns c = took_as (tail c.args.front) indexed at_place (index_along _ _ c.requires) c.in_ok-index.ensures
