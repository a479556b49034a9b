use Rattle.std.proofs.Common.{◌+◌, ◌*◌, ◌-◌, length}
use Rattle.ae_expressions.specs.Productions.{counted}
use Rattle.ae_expressions.proofs.ChainLemmas.{Chain}
use Rattle.ae_expressions.proofs.expressions.+expression.Given as goal

abbrev pub decreases-enclosed : goal.decreases-enclosed
decreases-enclosed l = 16 * length l.ts.now

abbrev pub decreases-grouped : goal.decreases-grouped
decreases-grouped l = 16 * length l.ts.now + 1

abbrev pub decreases-negated : goal.decreases-negated
decreases-negated l = 16 * length l.ts.now + 1

abbrev pub decreases-minus : goal.decreases-minus
decreases-minus l = 16 * length l.ts.now + 1

abbrev pub decreases-place : goal.decreases-place
decreases-place l = 16 * length l.ts.now + 2

abbrev pub decreases-marked : goal.decreases-marked
decreases-marked l = 16 * length l.ts.now + 2

abbrev pub decreases-operand : goal.decreases-operand
decreases-operand l = 16 * length l.ts.now + 3

abbrev pub decreases-comparison : goal.decreases-comparison
decreases-comparison l = 16 * length l.ts.now + 9

abbrev pub decreases-chain : goal.decreases-chain
decreases-chain l = 16 * length l.ts.now + 4 + 2 * (5 - l.level)

abbrev pub invariant-chain-more : goal.invariant-chain-more
invariant-chain-more l = Chain l.level l.budget l.fn.ts (counted l.left) l.left.marks l.rest

abbrev pub decreases-chain-more : goal.decreases-chain-more
decreases-chain-more l = length l.rest
