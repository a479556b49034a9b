use Rattle.ae_tree.specs.Grammar.{further, need, one_by_one}
use Rattle.ae_reading.specs.Reads.{itself, Free, Always}
use Rattle.ae_parser.proofs.from_reading.ReadsLemmas.{exits, mark_smaller}
use Rattle.ae_parser.proofs.from_reading.Parts.{Comma}
use Rattle.ae_parser.proofs.from_reading.PartLemmas.{loop_start, loop_more, loop_failed, commas_end}
use Rattle.ae_parser.proofs.MethodLemmas.{Opening, comma_or_brace}
use Rattle.ae_parser.proofs.needs.further_needs.Goals as goal

pub needs-init : goal.needs-init
needs-init c = loop_start (further need) Opening _ _ c.new-needs.ensures

pub returns-in_err-need : goal.returns-in_err-need
returns-in_err-need c = exits itself (one_by_one (further need)) Free Opening _ _ _
    (loop_failed (further need) Opening _ _ _ _ (comma_or_brace _ c.needs-test.ensures) c.needs.invariant
    c.in_err-need.ensures) c.from_residual.ensures.1

pub needs-smaller : goal.needs-smaller
needs-smaller c = mark_smaller Comma need Free Always _ _ _ c.in_ok-need.ensures

pub needs-preserved : goal.needs-preserved
needs-preserved c = loop_more (further need) Opening _ _ _ _ _ _ (comma_or_brace _ c.needs-test.ensures)
    c.in_ok-push.ensures.ok c.needs.invariant c.in_ok-need.ensures

pub returns : goal.returns
returns c = commas_end need Opening _ _ _ c.needs-test.ensures c.needs.invariant
