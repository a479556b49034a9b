use Rattle.std.proofs.Common.{◌+◌, ◌*◌, length, map}
use Rattle.ae_statements.specs.Productions.{shown_stmt}
use Rattle.ae_statements.proofs.LinesLemmas.{Body}
use Rattle.ae_statements.proofs.blocks.+statements.Given as goal

abbrev pub decreases-block : goal.decreases-block
decreases-block l = 4 * length l.ts.now

abbrev pub decreases-otherwise : goal.decreases-otherwise
decreases-otherwise l = 4 * length l.ts.now

abbrev pub decreases-repetition : goal.decreases-repetition
decreases-repetition l = 4 * length l.ts.now

abbrev pub decreases-splitting : goal.decreases-splitting
decreases-splitting l = 4 * length l.ts.now

abbrev pub decreases-locking : goal.decreases-locking
decreases-locking l = 4 * length l.ts.now

abbrev pub decreases-choice : goal.decreases-choice
decreases-choice l = 4 * length l.ts.now

abbrev pub decreases-statement : goal.decreases-statement
decreases-statement l = 4 * length l.ts.now + 1

abbrev pub decreases-statements : goal.decreases-statements
decreases-statements l = 4 * length l.ts.now + 2

abbrev pub invariant-statements-body : goal.invariant-statements-body
invariant-statements-body l = Body l.no l.levels l.fn.ts (map shown_stmt l.stmts) l.rest l.next

abbrev pub decreases-statements-body : goal.decreases-statements-body
decreases-statements-body l = length l.rest
