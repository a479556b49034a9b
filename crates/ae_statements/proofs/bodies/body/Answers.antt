use Rattle.std.proofs.Common.{sym, subst}
use Rattle.ae_tree.specs.Plain.{Lines}
use Rattle.ae_tree.specs.Shown as shown
use Rattle.ae_tree.specs.Shown.{lines-roll, no-roll}
use Rattle.ae_tree.specs.Grammar as grammar
use Rattle.ae_reading.specs.Reads.{Always, Took}
use Rattle.ae_statements.proofs.from_reading.ReadsLemmas.{exits}
use Rattle.ae_statements.proofs.BlockLemmas.{KeepsLines}
use Rattle.ae_statements.proofs.BodyLemmas.{body_took, body_first, body_inner, body_last}
use Rattle.ae_statements.proofs.bodies.body.Goals as goal

pub returns-in_err-rest-clause-reads : goal.returns-in_err-rest-clause-reads
returns-in_err-rest-clause-reads c = exits shown.lines grammar.method_body (KeepsLines 63) Always _ _ _
    (body_first c.in_err-rest.ensures) c.from_residual.ensures.1

pub returns-in_err-stmts-clause-reads : goal.returns-in_err-stmts-clause-reads
returns-in_err-stmts-clause-reads c = exits shown.lines grammar.method_body (KeepsLines 63) Always _ _ _
    (body_inner c.in_ok-rest.ensures c.in_err-stmts.ensures) c.from_residual-in_err-stmts.ensures.1

pub returns-in_err-rest-2-clause-reads : goal.returns-in_err-rest-2-clause-reads
returns-in_err-rest-2-clause-reads c = exits shown.lines grammar.method_body (KeepsLines 63) Always _ _ _
    (body_last c.in_ok-rest.ensures c.in_ok-stmts.ensures c.in_err-rest-2.ensures)
    c.from_residual-in_err-rest-2.ensures.1

pub returns-clause-reads : goal.returns-clause-reads
returns-clause-reads c =
    let P : Lines → Type 0 = λ l. Took grammar.method_body (KeepsLines 63) Always c.args.ts.now l
    c.in_ok-rest-2.rest.now in
    subst P (sym (lines-roll _)) (body_took c.in_ok-rest.ensures c.in_ok-stmts.ensures c.in_ok-rest-2.ensures)

pub returns-clause-number : goal.returns-clause-number
returns-clause-number c = no-roll _
