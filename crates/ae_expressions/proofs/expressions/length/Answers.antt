use Rattle.std.proofs.Common.{◌≡◌, ◌-◌, ◌+◌, sym, subst, ap, arith, ◌∙◌}
use Rattle.ae_tree.specs.Plain.{Expression}
use Rattle.ae_tree.specs.Limits.{marks}
use Rattle.ae_tree.specs.Shown.{expression-Len}
use Rattle.ae_reading.specs.Reads.{Took}
use Rattle.ae_expressions.proofs.from_reading.ReadsLemmas.{exits}
use Rattle.ae_expressions.specs.Ends.{Ends}
use Rattle.ae_expressions.specs.Productions.{AtMostMarks, counted}
use Rattle.ae_expressions.proofs.OperandLemmas.{len_operand, length_took, length_failed_word, length_failed_path}
use Rattle.ae_expressions.proofs.expressions.length.Goals as goal

pub returns-in_err-at-clause-reads : goal.returns-in_err-at-clause-reads
returns-in_err-at-clause-reads c =
    let all : c.args.budget - 1 + 1 ≡ c.args.budget = omega (arith, c.requires.one) in
    exits counted len_operand (AtMostMarks c.args.budget) (Ends 5) c.args.ts.now _ _
    (length_failed_word _ _ _ _ all c.in_err-at.ensures) c.from_residual.ensures.1

pub returns-in_err-array-clause-reads : goal.returns-in_err-array-clause-reads
returns-in_err-array-clause-reads c =
    let all : c.args.budget - 1 + 1 ≡ c.args.budget = omega (arith, c.requires.one) in
    exits counted len_operand (AtMostMarks c.args.budget) (Ends 5) c.args.ts.now _ _
    (length_failed_path _ _ _ _ _ _ all c.in_ok-at.ensures c.in_err-array.ensures)
    c.from_residual-in_err-array.ensures.1

pub returns-clause-reads : goal.returns-clause-reads
returns-clause-reads c =
    let all : c.args.budget - 1 + 1 ≡ c.args.budget = omega (arith, c.requires.one) in
    let P : Expression → Type 0 = λ x. Took len_operand (AtMostMarks c.args.budget)
    (Ends 5) c.args.ts.now x c.in_ok-array.rest.now in
    subst P (sym (expression-Len _ _)) (length_took _ _ _ _ _ _ _ all c.in_ok-at.ensures c.in_ok-array.ensures)

pub returns-clause-count : goal.returns-clause-count
returns-clause-count c = ap (λ n. 1 + n) c.len-marks.ensures ∙ sym (ap marks (expression-Len _ _))
