use Rattle.ae_tree.specs.Grammar.{whole_expression}
use Rattle.ae_reading.specs.Reads.{Always}
use Rattle.ae_statements.proofs.from_reading.ReadsLemmas.{exits, first, second, both}
use Rattle.ae_statements.specs.Productions.{with_semicolon}
use Rattle.ae_statements.proofs.ShapeLemmas.{pre_first, pre_second, took_pre, has_whole}
use Rattle.ae_statements.specs.Productions.{stored_value, indexed, KeepsIndexed, shown_indexed}
use Rattle.ae_statements.proofs.SimpleLemmas.{has_ended}
use Rattle.ae_statements.proofs.LedLemmas.{has_stored, has_bracketed, inside, has_inside, bracket_ends}
use Rattle.ae_statements.proofs.led.indexed.Goals as goal

pub returns-in_err-rest : goal.returns-in_err-rest
returns-in_err-rest c = exits shown_indexed indexed KeepsIndexed Always _ _ _
    (pre_first inside has_inside c.in_err-rest.ensures) c.from_residual.ensures.1

pub returns-in_err-index : goal.returns-in_err-index
returns-in_err-index c = exits shown_indexed indexed KeepsIndexed Always _ _ _
    (pre_second inside c.in_ok-rest.ensures (first bracket_ends has_bracketed c.in_err-index.ensures))
    c.from_residual-in_err-index.ensures.1

pub returns-in_err-rest-2 : goal.returns-in_err-rest-2
returns-in_err-rest-2 c = exits shown_indexed indexed KeepsIndexed Always _ _ _
    (pre_second inside c.in_ok-rest.ensures
    (second bracket_ends c.in_ok-index.ensures (pre_first stored_value has_stored c.in_err-rest-2.ensures)))
    c.from_residual-in_err-rest-2.ensures.1

pub returns-in_err-rest-3 : goal.returns-in_err-rest-3
returns-in_err-rest-3 c = exits shown_indexed indexed KeepsIndexed Always _ _ _
    (pre_second inside c.in_ok-rest.ensures
    (second bracket_ends c.in_ok-index.ensures
    (pre_second stored_value c.in_ok-rest-2.ensures
    (pre_first (with_semicolon whole_expression) (has_ended whole_expression has_whole) c.in_err-rest-3.ensures))))
    c.from_residual-in_err-rest-3.ensures.1

pub returns-in_err-e : goal.returns-in_err-e
returns-in_err-e c = exits shown_indexed indexed KeepsIndexed Always _ _ _
    (pre_second inside c.in_ok-rest.ensures
    (second bracket_ends c.in_ok-index.ensures
    (pre_second stored_value c.in_ok-rest-2.ensures
    (pre_second (with_semicolon whole_expression) c.in_ok-rest-3.ensures c.in_err-e.ensures))))
    c.from_residual-in_err-e.ensures.1

pub returns : goal.returns
returns c = took_pre inside c.in_ok-rest.ensures
    (both bracket_ends c.in_ok-index.ensures
    (took_pre stored_value c.in_ok-rest-2.ensures
    (took_pre (with_semicolon whole_expression) c.in_ok-rest-3.ensures c.in_ok-e.ensures)))
