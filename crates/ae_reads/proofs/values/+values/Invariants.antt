use Rattle.std.proofs.Common.{◌+◌, ◌*◌, max}
use Rattle.ae_tree.proofs.tree.Expr.TheLaws
use Rattle.ae_reads.proofs.values.+values.Given as goal

abbrev pub decreases-look : goal.decreases-look
decreases-look l = 3 * TheLaws.the_size l.expr.now

abbrev pub decreases-item_at : goal.decreases-item_at
decreases-item_at l = 3 * TheLaws.the_size l.index.now + 1

abbrev pub decreases-item_seen : goal.decreases-item_seen
decreases-item_seen l = 3 * TheLaws.the_size l.index.now + 2

abbrev pub decreases-negated : goal.decreases-negated
decreases-negated l = 3 * TheLaws.the_size l.inner.now + 1

abbrev pub decreases-minus : goal.decreases-minus
decreases-minus l = 3 * TheLaws.the_size l.inner.now + 1

-- the deeper of both operands
abbrev pub decreases-unless_false : goal.decreases-unless_false
decreases-unless_false l = 3 * max (TheLaws.the_size l.a.now) (TheLaws.the_size l.b.now) + 1

abbrev pub decreases-unless_true : goal.decreases-unless_true
decreases-unless_true l = 3 * max (TheLaws.the_size l.a.now) (TheLaws.the_size l.b.now) + 1

abbrev pub decreases-both : goal.decreases-both
decreases-both l = 3 * max (TheLaws.the_size l.a.now) (TheLaws.the_size l.b.now) + 2
