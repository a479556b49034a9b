use Rattle.ae_reading.specs.Reads.{Always}
use Rattle.ae_statements.proofs.from_reading.ReadsLemmas.{exits, took_as, failed_as}
use Rattle.ae_statements.specs.declared.led.Front.TheVariants as front
use Rattle.ae_statements.specs.Productions.{stored_value, Stored, tail, KeepsTail, shown_tail}
use Rattle.ae_statements.proofs.LedLemmas.{member_along}
use Rattle.ae_statements.proofs.led.member_tail.Goals as goal

pub returns-in_err-e : goal.returns-in_err-e
returns-in_err-e c = exits shown_tail (tail front.Member) KeepsTail Always _ _ _
    (failed_as (tail front.Member) stored_value Stored (member_along _ c.requires) c.in_err-e.ensures)
    c.from_residual.ensures.1

pub returns : goal.returns
returns c = took_as (tail front.Member) stored_value Stored (member_along _ c.requires) c.in_ok-e.ensures
