use Rattle.std.proofs.Common.{◌+◌, arith}
use Rattle.std.proofs.lemmas.Bool.Decides.{nat_tests}
use Rattle.ae_parser.specs.declared.places.Side.TheVariants.{Closed, Few, Many}
use Rattle.ae_parser.proofs.SideLemmas.{grows_as, marked_few, marked_many, mark_closed, stays_many}
use Rattle.ae_parser.proofs.places.with_mark.Goals as goal

pub returns-then-marks-lt-MOST_MARKS : goal.returns-then-marks-lt-MOST_MARKS
returns-then-marks-lt-MOST_MARKS c next is =
    let n = c.in-Few.marks in
    grows_as c.args.side (Few n) (Few (n + 1)) next c.args.index c.in-Few.is
    (marked_few n c.args.index (grind (arith, nat_tests, c.if-marks-lt-MOST_MARKS.true)) next is)

pub returns-else-marks-lt-MOST_MARKS : goal.returns-else-marks-lt-MOST_MARKS
returns-else-marks-lt-MOST_MARKS c next is =
    let n = c.in-Few.marks in
    grows_as c.args.side (Few n) (Many c.args.index) next c.args.index c.in-Few.is
    (marked_many n c.args.index (grind (arith, nat_tests, c.if-marks-lt-MOST_MARKS.false)) next is)

pub returns-in-Closed : goal.returns-in-Closed
returns-in-Closed c next is = grows_as c.args.side Closed Closed next c.args.index c.in-Closed.is
    (mark_closed next c.args.index is)

pub returns-in-Many : goal.returns-in-Many
returns-in-Many c next is =
    let first = Many c.in-Many.first in
    grows_as c.args.side first first next c.args.index c.in-Many.is (stays_many c.in-Many.first next c.args.index is.0)
