use Rattle.ae_parser.proofs.DeclarationLemmas.{parts_start, parts_more, parts_end, parts_failed, leaves_all}
use Rattle.ae_parser.proofs.DeclarationLemmas.{add_smaller}
use Rattle.ae_parser.proofs.declarations.read_all_declarations.Goals as goal

pub declarations-init : goal.declarations-init
declarations-init c = parts_start _ _ c.new.ensures c.new-2.ensures c.new-3.ensures

pub returns-in_err-rest : goal.returns-in_err-rest
returns-in_err-rest c = leaves_all _ _ _
    (parts_failed _ _ _ _ c.declarations-test.ensures c.declarations.invariant c.in_err-rest.ensures)
    c.from_residual.ensures.1

pub declarations-smaller : goal.declarations-smaller
declarations-smaller c = add_smaller _ _ _ _ c.in_ok-rest.ensures

pub declarations-preserved : goal.declarations-preserved
declarations-preserved c = parts_more _ _ _ _ _ c.declarations-test.ensures c.declarations.invariant
    c.in_ok-rest.ensures

pub returns : goal.returns
returns c = parts_end _ _ _ c.declarations-test.ensures c.declarations.invariant
