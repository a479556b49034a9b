use Rattle.std.proofs.Common.{◌≡◌, ◌≤◌, ◌-◌, ◌+◌, length, sym, subst, ap, arith, ◌∙◌, refl}
use Rattle.ae_tree.specs.declared.limits.Limit.TheVariants.{Depth}
use Rattle.ae_tree.specs.declared.tree.Expr.{Expr}
use Rattle.ae_tree.specs.Plain.{Expression, Item, Grouped, Negated, Minus}
use Rattle.ae_tree.specs.Limits.{marks}
use Rattle.ae_tree.specs.Shown.{expression, expression-Path, expression-Index, expression-Paren, expression-Not}
use Rattle.ae_tree.specs.Shown.{expression-Neg}
use Rattle.ae_reading.specs.Reads.{Took, Always, Free}
use Rattle.ae_expressions.proofs.from_reading.ReadsLemmas.{exits, passes, failed_by, refuses}
use Rattle.ae_expressions.specs.Ends.{Ends}
use Rattle.ae_expressions.specs.declared.starts.Mark.{Mark}
use Rattle.ae_expressions.specs.declared.starts.Mark.TheVariants as mark
use Rattle.ae_expressions.specs.declared.starts.Start.TheVariants as start
use Rattle.ae_expressions.specs.Productions.{AtMostMarks, AtMostInside, Next, at_level, counted, enclosed}
use Rattle.ae_expressions.specs.Productions.{enclosed_shown, mark_kind, literal, operand, start_of}
use Rattle.ae_expressions.proofs.ChainLemmas.{chain_start, chain_more, chain_stopped, chain_first_stopped}
use Rattle.ae_expressions.proofs.ChainLemmas.{chain_over, chain_ends, sum_stopped, sum_alone, compared_over}
use Rattle.ae_expressions.proofs.ChainLemmas.{compared_stopped, compared_took}
use Rattle.ae_expressions.proofs.OperandLemmas.{operand_took, operand_failed, operand_other, operand_end}
use Rattle.ae_expressions.proofs.OperandLemmas.{literal_fits, literal_failed, enclosed_took, enclosed_failed_open}
use Rattle.ae_expressions.proofs.OperandLemmas.{enclosed_failed_inner, enclosed_failed_close, paren_operand}
use Rattle.ae_expressions.proofs.OperandLemmas.{grouped_took, grouped_failed, not_operand, negated_took}
use Rattle.ae_expressions.proofs.OperandLemmas.{negated_failed_sign, negated_failed_operand, minus_operand}
use Rattle.ae_expressions.proofs.OperandLemmas.{minus_took, minus_failed_sign, minus_failed_operand, place_operand}
use Rattle.ae_expressions.proofs.OperandLemmas.{place_failed_path, place_alone, place_over, place_failed_index}
use Rattle.ae_expressions.proofs.OperandLemmas.{place_indexed, mark_over, marked_took, marked_failed}
use Rattle.ae_expressions.proofs.expressions.+expression.Goals as goal

pub chain-returns-in_err-left-clause-reads : goal.chain-returns-in_err-left-clause-reads
chain-returns-in_err-left-clause-reads t c =
    exits counted (at_level c.args.level) (AtMostMarks c.args.budget) (Ends c.args.level) c.args.ts.now _ _
    (failed_by (λ why left s. chain_first_stopped _ _ c.if-level-eq2.false _ why left s)
    c.in_err-left.ensures.reads) c.from_residual.ensures.1

pub chain-more-init : goal.chain-more-init
chain-more-init t c = chain_start _ _ _ _ _ _ c.in_ok-left.ensures.reads c.in_ok-left.ensures.count

pub chain-returns-then-left-budget-clause-reads : goal.chain-returns-then-left-budget-clause-reads
chain-returns-then-left-budget-clause-reads t c = refuses counted (at_level c.args.level) (AtMostMarks c.args.budget)
    (Ends c.args.level) c.args.ts.now _ c.over.ensures
    (chain_over _ _ c.if-level-eq2.false _ _ _ _ _ _ c.more.invariant c.in-Some.ensures c.if-left-budget.true)

pub chain-returns-in_err-right-clause-reads : goal.chain-returns-in_err-right-clause-reads
chain-returns-in_err-right-clause-reads t c =
    let all : c.args.budget - c.more.left.marks - 1 + c.more.left.marks + 1 ≡ c.args.budget =
    omega (arith, c.if-left-budget.false) in
    exits counted (at_level c.args.level) (AtMostMarks c.args.budget) (Ends c.args.level) c.args.ts.now _ _
    (failed_by (λ why left s. chain_stopped _ _ _ c.if-level-eq2.false _ _ _ _ _ _ why left c.more.invariant
    c.in-Some.ensures all s) c.in_err-right.ensures.reads) c.from_residual-in_err-right.ensures.1

pub chain-binary-requires : goal.chain-binary-requires
chain-binary-requires t c = omega (
  arith,
  c.in_ok-right.ensures.count,
  c.in_ok-right.ensures.reads.within Depth refl,
  c.if-left-budget.false,
  c.requires.few,
)

pub chain-more-preserved : goal.chain-more-preserved
chain-more-preserved t c =
    let all : c.args.budget - c.more.left.marks - 1 + c.more.left.marks + 1 ≡ c.args.budget =
    omega (arith, c.if-left-budget.false) in
    chain_more _ _ _ _ _ _ _ _ _ _ _ _ _ c.more.invariant c.in-Some.ensures all c.in_ok-right.ensures.reads
    c.in_ok-left-2.ensures.tree (omega (arith, c.in_ok-left-2.ensures.count, c.in_ok-right.ensures.count))

pub chain-returns-clause-reads : goal.chain-returns-clause-reads
chain-returns-clause-reads t c = chain_ends _ _ c.if-level-eq2.false _ _ _ _ c.more.invariant c.in_default.ensures

pub comparison-returns-in_err-left-clause-reads : goal.comparison-returns-in_err-left-clause-reads
comparison-returns-in_err-left-clause-reads t c =
    exits counted (at_level 2) (AtMostMarks c.args.budget) (Ends 2) c.args.ts.now _ _
    (failed_by (λ why left s. sum_stopped _ _ why left s) c.in_err-left.ensures.reads) c.from_residual.ensures.1

pub comparison-returns-in_default-clause-reads : goal.comparison-returns-in_default-clause-reads
comparison-returns-in_default-clause-reads t c = sum_alone _ _ _ _ c.in_ok-left.ensures.reads c.in_default.ensures

pub comparison-returns-then-left-budget-clause-reads : goal.comparison-returns-then-left-budget-clause-reads
comparison-returns-then-left-budget-clause-reads t c =
    let many : c.args.budget ≤ marks (counted c.in_ok-left.left) =
    omega (arith, c.in_ok-left.ensures.count, c.if-left-budget.true) in
    refuses counted (at_level 2) (AtMostMarks c.args.budget) (Ends 2) c.args.ts.now _ c.over.ensures
    (compared_over _ _ _ _ _ _ c.in_ok-left.ensures.reads c.in-Some.ensures many)

pub comparison-returns-in_err-right-clause-reads : goal.comparison-returns-in_err-right-clause-reads
comparison-returns-in_err-right-clause-reads t c =
    let all : c.args.budget - c.in_ok-left.left.marks - 1 + marks (counted c.in_ok-left.left) + 1 ≡ c.args.budget =
    omega (arith, c.in_ok-left.ensures.count, c.if-left-budget.false) in
    exits counted (at_level 2) (AtMostMarks c.args.budget) (Ends 2) c.args.ts.now _ _
    (failed_by (λ why left s. compared_stopped _ _ _ _ _ _ _ why left c.in_ok-left.ensures.reads c.in-Some.ensures
    all s) c.in_err-right.ensures.reads) c.from_residual-in_err-right.ensures.1

pub comparison-returns-clause-reads : goal.comparison-returns-clause-reads
comparison-returns-clause-reads t c =
    let all : c.args.budget - c.in_ok-left.left.marks - 1 + marks (counted c.in_ok-left.left) + 1 ≡ c.args.budget =
    omega (arith, c.in_ok-left.ensures.count, c.if-left-budget.false) in
    compared_took _ _ _ _ _ _ _ _ _ _ c.in_ok-left.ensures.reads c.in-Some.ensures all c.in_ok-right.ensures.reads
    c.in_ok-both.ensures.tree

pub enclosed-returns-in_err-at-clause-reads : goal.enclosed-returns-in_err-at-clause-reads
enclosed-returns-in_err-at-clause-reads t c =
    exits enclosed_shown (enclosed c.args.opening c.args.closing) (AtMostInside c.args.budget) Always c.args.ts.now _
    _ (enclosed_failed_open _ _ _ _ _ c.in_err-at.ensures) c.from_residual.ensures.1

pub enclosed-returns-in_err-inner-clause-reads : goal.enclosed-returns-in_err-inner-clause-reads
enclosed-returns-in_err-inner-clause-reads t c =
    exits enclosed_shown (enclosed c.args.opening c.args.closing) (AtMostInside c.args.budget) Always c.args.ts.now _
    _ (enclosed_failed_inner _ _ _ _ _ _ _ c.requires.closes c.in_ok-at.ensures c.in_err-inner.ensures.reads)
    c.from_residual-in_err-inner.ensures.1

pub enclosed-returns-in_err-rest-clause-reads : goal.enclosed-returns-in_err-rest-clause-reads
enclosed-returns-in_err-rest-clause-reads t c =
    exits enclosed_shown (enclosed c.args.opening c.args.closing) (AtMostInside c.args.budget) Always c.args.ts.now _
    _ (enclosed_failed_close _ _ _ _ _ _ _ _ _ c.requires.closes c.in_ok-at.ensures c.in_ok-inner.ensures.reads
    c.in_err-rest.ensures) c.from_residual-in_err-rest.ensures.1

pub enclosed-returns-clause-reads : goal.enclosed-returns-clause-reads
enclosed-returns-clause-reads t c = enclosed_took _ _ _ _ _ _ _ _ _ _ c.requires.closes c.in_ok-at.ensures
    c.in_ok-inner.ensures.reads c.in_ok-rest.ensures

pub grouped-returns-in_err-at-clause-reads : goal.grouped-returns-in_err-at-clause-reads
grouped-returns-in_err-at-clause-reads t c =
    let all : c.args.budget - 1 + 1 ≡ c.args.budget = omega (arith, c.requires.one) in
    exits counted paren_operand (AtMostMarks c.args.budget) (Ends 5) c.args.ts.now _ _
    (grouped_failed _ _ _ _ all c.in_err-at.ensures.reads) c.from_residual.ensures.1

pub grouped-returns-clause-reads : goal.grouped-returns-clause-reads
grouped-returns-clause-reads t c =
    let all : c.args.budget - 1 + 1 ≡ c.args.budget = omega (arith, c.requires.one) in
    let P : Expression → Type 0 = λ x. Took paren_operand (AtMostMarks c.args.budget)
    (Ends 5) c.args.ts.now x c.in_ok-at.rest.now in
    subst P (sym (expression-Paren _ _
    ∙ ap (λ (e : Expr). Grouped (expression e) c.in_ok-at.at) c.in_ok-group.ensures))
    (grouped_took _ _ _ _ _ all c.in_ok-at.ensures.reads)

pub grouped-returns-clause-count : goal.grouped-returns-clause-count
grouped-returns-clause-count t c = ap (λ n. 1 + n) c.in_ok-at.ensures.count
    ∙ sym (ap marks (expression-Paren _ _
    ∙ ap (λ (e : Expr). Grouped (expression e) c.in_ok-at.at) c.in_ok-group.ensures))

pub negated-returns-in_err-at-clause-reads : goal.negated-returns-in_err-at-clause-reads
negated-returns-in_err-at-clause-reads t c =
    let all : c.args.budget - 1 + 1 ≡ c.args.budget = omega (arith, c.requires.one) in
    exits counted not_operand (AtMostMarks c.args.budget) (Ends 5) c.args.ts.now _ _
    (negated_failed_sign _ _ _ _ all c.in_err-at.ensures) c.from_residual.ensures.1

pub negated-returns-in_err-inner-clause-reads : goal.negated-returns-in_err-inner-clause-reads
negated-returns-in_err-inner-clause-reads t c =
    let all : c.args.budget - 1 + 1 ≡ c.args.budget = omega (arith, c.requires.one) in
    exits counted not_operand (AtMostMarks c.args.budget) (Ends 5) c.args.ts.now _ _
    (negated_failed_operand _ _ _ _ _ _ all c.in_ok-at.ensures c.in_err-inner.ensures.reads)
    c.from_residual-in_err-inner.ensures.1

pub negated-returns-clause-reads : goal.negated-returns-clause-reads
negated-returns-clause-reads t c =
    let all : c.args.budget - 1 + 1 ≡ c.args.budget = omega (arith, c.requires.one) in
    let P : Expression → Type 0 = λ x. Took not_operand (AtMostMarks c.args.budget)
    (Ends 5) c.args.ts.now x c.in_ok-inner.rest.now in
    subst P (sym (expression-Not _ _ ∙ ap (λ (e : Expr). Negated (expression e) c.in_ok-at.at) c.in_ok-boxed.ensures))
    (negated_took _ _ _ _ _ _ _ all c.in_ok-at.ensures c.in_ok-inner.ensures.reads)

pub negated-returns-clause-count : goal.negated-returns-clause-count
negated-returns-clause-count t c = ap (λ n. 1 + n) c.in_ok-inner.ensures.count
    ∙ sym (ap marks (expression-Not _ _
    ∙ ap (λ (e : Expr). Negated (expression e) c.in_ok-at.at) c.in_ok-boxed.ensures))

pub minus-returns-in_err-at-clause-reads : goal.minus-returns-in_err-at-clause-reads
minus-returns-in_err-at-clause-reads t c =
    let all : c.args.budget - 1 + 1 ≡ c.args.budget = omega (arith, c.requires.one) in
    exits counted minus_operand (AtMostMarks c.args.budget) (Ends 5) c.args.ts.now _ _
    (minus_failed_sign _ _ _ _ all c.in_err-at.ensures) c.from_residual.ensures.1

pub minus-returns-in_err-inner-clause-reads : goal.minus-returns-in_err-inner-clause-reads
minus-returns-in_err-inner-clause-reads t c =
    let all : c.args.budget - 1 + 1 ≡ c.args.budget = omega (arith, c.requires.one) in
    exits counted minus_operand (AtMostMarks c.args.budget) (Ends 5) c.args.ts.now _ _
    (minus_failed_operand _ _ _ _ _ _ all c.in_ok-at.ensures c.in_err-inner.ensures.reads)
    c.from_residual-in_err-inner.ensures.1

pub minus-returns-clause-reads : goal.minus-returns-clause-reads
minus-returns-clause-reads t c =
    let all : c.args.budget - 1 + 1 ≡ c.args.budget = omega (arith, c.requires.one) in
    let P : Expression → Type 0 = λ x. Took minus_operand (AtMostMarks c.args.budget)
    (Ends 5) c.args.ts.now x c.in_ok-inner.rest.now in
    subst P (sym (expression-Neg _ _ ∙ ap (λ (e : Expr). Minus (expression e) c.in_ok-at.at) c.in_ok-boxed.ensures))
    (minus_took _ _ _ _ _ _ _ all c.in_ok-at.ensures c.in_ok-inner.ensures.reads)

pub minus-returns-clause-count : goal.minus-returns-clause-count
minus-returns-clause-count t c = ap (λ n. 1 + n) c.in_ok-inner.ensures.count
    ∙ sym (ap marks (expression-Neg _ _
    ∙ ap (λ (e : Expr). Minus (expression e) c.in_ok-at.at) c.in_ok-boxed.ensures))

pub place-returns-in_err-path-clause-reads : goal.place-returns-in_err-path-clause-reads
place-returns-in_err-path-clause-reads t c =
    exits counted place_operand (AtMostMarks c.args.budget) (Ends 5) c.args.ts.now _ _
    (place_failed_path _ _ _ c.in_err-path.ensures) c.from_residual.ensures.1

pub place-returns-then-not-is_sign_next-clause-reads : goal.place-returns-then-not-is_sign_next-clause-reads
place-returns-then-not-is_sign_next-clause-reads t c =
    let P : Expression → Type 0 = λ x. Took place_operand (AtMostMarks c.args.budget)
    (Ends 5) c.args.ts.now x c.in_ok-path.rest.now in
    subst P (sym (expression-Path _)) (place_alone _ _ _ _ c.in_ok-path.ensures c.if-not-is_sign_next.ensures)

pub place-returns-then-not-is_sign_next-clause-count : goal.place-returns-then-not-is_sign_next-clause-count
place-returns-then-not-is_sign_next-clause-count t c = c.len-steps.ensures ∙ sym (ap marks (expression-Path _))

pub place-returns-then-steps-budget-clause-reads : goal.place-returns-then-steps-budget-clause-reads
place-returns-then-steps-budget-clause-reads t c =
    let many : c.args.budget ≤ length c.in_ok-path.path.steps =
    omega (arith, c.len-steps.ensures, c.if-steps-budget.true) in
    refuses counted place_operand (AtMostMarks c.args.budget) (Ends 5) c.args.ts.now _ c.over.ensures
    (place_over _ _ _ _ c.in_ok-path.ensures c.if-not-is_sign_next.ensures many)

pub place-returns-in_err-index-clause-reads : goal.place-returns-in_err-index-clause-reads
place-returns-in_err-index-clause-reads t c =
    let all : c.args.budget - c.len-steps.result - 1 + length c.in_ok-path.path.steps + 1 ≡ c.args.budget =
    omega (arith, c.len-steps.ensures, c.if-steps-budget.false) in
    exits counted place_operand (AtMostMarks c.args.budget) (Ends 5) c.args.ts.now _ _
    (place_failed_index _ _ _ _ _ _ c.in_ok-path.ensures c.if-not-is_sign_next.ensures all
    c.in_err-index.ensures.reads) c.from_residual-in_err-index.ensures.1

pub place-returns-clause-reads : goal.place-returns-clause-reads
place-returns-clause-reads t c =
    let all : c.args.budget - c.len-steps.result - 1 + length c.in_ok-path.path.steps + 1 ≡ c.args.budget =
    omega (arith, c.len-steps.ensures, c.if-steps-budget.false) in
    let P : Expression → Type 0 = λ x. Took place_operand (AtMostMarks c.args.budget)
    (Ends 5) c.args.ts.now x c.in_ok-index.rest.now in
    subst P (sym (expression-Index _ _ ∙ ap (λ (e : Expr). Item c.in_ok-path.path (expression e))
    c.in_ok-boxed.ensures)) (place_indexed _ _ _ _ _ _ _ c.in_ok-path.ensures c.if-not-is_sign_next.ensures all
    c.in_ok-index.ensures.reads)

pub place-returns-clause-count : goal.place-returns-clause-count
place-returns-clause-count t c =
    let tree : marks (expression _)
    ≡ _ = ap marks (expression-Index _ _ ∙ ap (λ (e : Expr). Item c.in_ok-path.path (expression e))
    c.in_ok-boxed.ensures) in
    omega (arith, tree, c.len-steps.ensures, c.in_ok-index.ensures.count)

pub operand-returns-in_default-clause-reads : goal.operand-returns-in_default-clause-reads
operand-returns-in_default-clause-reads t c = refuses counted (at_level 5) (AtMostMarks c.args.budget)
    (Ends 5) _ _ c.unexpected.ensures (operand_end _ _ c.in_default.ensures)

pub operand-returns-in-Literal-clause-reads : goal.operand-returns-in-Literal-clause-reads
operand-returns-in-Literal-clause-reads t c =
    let is : start_of c.in-Some.first.now.kind ≡ start.Literal = sym c.start_of.ensures.is ∙ c.in-Literal.is in
    passes counted literal (at_level 5) Free (AtMostMarks c.args.budget) Always (Ends 5) c.args.ts.now c.args.ts.now _
    (λ x rest u. operand_took start.Literal _ _ _ _ _ x is c.in-Some.ensures (literal_fits _ _ rest x u))
    (λ e f. operand_failed start.Literal _ _ _ _ e is c.in-Some.ensures (literal_failed _ _ e f))
    c.literal.ensures.reads

pub operand-returns-in-Place-clause-reads : goal.operand-returns-in-Place-clause-reads
operand-returns-in-Place-clause-reads t c =
    let is : start_of c.in-Some.first.now.kind ≡ start.Place = sym c.start_of.ensures.is ∙ c.in-Place.is in
    passes counted place_operand (at_level 5) (AtMostMarks c.args.budget) (AtMostMarks c.args.budget) (Ends 5)
    (Ends 5) c.args.ts.now c.args.ts.now _
    (λ x rest u. operand_took start.Place _ _ _ _ _ x is c.in-Some.ensures u)
    (λ e f. operand_failed start.Place _ _ _ _ e is c.in-Some.ensures f) c.place.ensures.reads

pub operand-returns-in-Other-clause-reads : goal.operand-returns-in-Other-clause-reads
operand-returns-in-Other-clause-reads t c =
    let is : start_of c.in-Some.first.now.kind ≡ start.Other = sym c.start_of.ensures.is ∙ c.in-Other.is in
    refuses counted (at_level 5) (AtMostMarks c.args.budget) (Ends 5) _ _ c.unexpected-in-Other.ensures
    (operand_other _ _ _ _ is c.in-Some.ensures)

pub marked-returns-then-budget-eq0-clause-reads : goal.marked-returns-then-budget-eq0-clause-reads
marked-returns-then-budget-eq0-clause-reads t c = refuses counted (at_level 5) (AtMostMarks c.args.budget)
    (Ends 5) c.args.ts.now _ c.over.ensures (mark_over c.args.mark _ _ c.if-budget-eq0.true c.requires.next)

pub marked-returns-in-Len-clause-reads : goal.marked-returns-in-Len-clause-reads
marked-returns-in-Len-clause-reads t c =
    let P : Mark → Type 0 = λ m. Next (mark_kind m) c.args.ts.now in
    let next : P mark.Len = subst P c.in-Len.is c.requires.next in
    passes counted (operand (start.Counted mark.Len)) (at_level 5) (AtMostMarks c.args.budget)
    (AtMostMarks c.args.budget) (Ends 5) (Ends 5) c.args.ts.now c.args.ts.now _
    (λ x rest u. marked_took mark.Len _ _ rest x next u) (λ e f. marked_failed mark.Len _ _ e next f)
    c.length.ensures.reads

pub marked-returns-in-Paren-clause-reads : goal.marked-returns-in-Paren-clause-reads
marked-returns-in-Paren-clause-reads t c =
    let P : Mark → Type 0 = λ m. Next (mark_kind m) c.args.ts.now in
    let next : P mark.Paren = subst P c.in-Paren.is c.requires.next in
    passes counted (operand (start.Counted mark.Paren)) (at_level 5) (AtMostMarks c.args.budget)
    (AtMostMarks c.args.budget) (Ends 5) (Ends 5) c.args.ts.now c.args.ts.now _
    (λ x rest u. marked_took mark.Paren _ _ rest x next u) (λ e f. marked_failed mark.Paren _ _ e next f)
    c.grouped.ensures.reads

pub marked-returns-in-Not-clause-reads : goal.marked-returns-in-Not-clause-reads
marked-returns-in-Not-clause-reads t c =
    let P : Mark → Type 0 = λ m. Next (mark_kind m) c.args.ts.now in
    let next : P mark.Not = subst P c.in-Not.is c.requires.next in
    passes counted (operand (start.Counted mark.Not)) (at_level 5) (AtMostMarks c.args.budget)
    (AtMostMarks c.args.budget) (Ends 5) (Ends 5) c.args.ts.now c.args.ts.now _
    (λ x rest u. marked_took mark.Not _ _ rest x next u) (λ e f. marked_failed mark.Not _ _ e next f)
    c.negated.ensures.reads

pub marked-returns-in-Minus-clause-reads : goal.marked-returns-in-Minus-clause-reads
marked-returns-in-Minus-clause-reads t c =
    let P : Mark → Type 0 = λ m. Next (mark_kind m) c.args.ts.now in
    let next : P mark.Minus = subst P c.in-Minus.is c.requires.next in
    passes counted (operand (start.Counted mark.Minus)) (at_level 5) (AtMostMarks c.args.budget)
    (AtMostMarks c.args.budget) (Ends 5) (Ends 5) c.args.ts.now c.args.ts.now _
    (λ x rest u. marked_took mark.Minus _ _ rest x next u) (λ e f. marked_failed mark.Minus _ _ e next f)
    c.minus.ensures.reads
