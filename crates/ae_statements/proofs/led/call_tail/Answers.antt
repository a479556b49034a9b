use Rattle.ae_reading.specs.Reads.{Always}
use Rattle.ae_statements.proofs.from_reading.ReadsLemmas.{exits, took_as, failed_as}
use Rattle.ae_statements.specs.Productions.{call_rest, tail, KeepsTail, shown_tail}
use Rattle.ae_statements.proofs.LedLemmas.{calling, call_along}
use Rattle.ae_statements.proofs.led.call_tail.Goals as goal

pub returns-in_err-groups : goal.returns-in_err-groups
returns-in_err-groups c = exits shown_tail (tail c.args.front) KeepsTail Always _ _ _
    (failed_as (tail c.args.front) call_rest calling
    (call_along _ _ c.requires.named c.requires.assign c.requires.index) c.in_err-groups.ensures)
    c.from_residual.ensures.1

pub returns : goal.returns
returns c = took_as (tail c.args.front) call_rest calling
    (call_along _ _ c.requires.named c.requires.assign c.requires.index) c.in_ok-groups.ensures
