use Rattle.ae_parser.proofs.SideLemmas.{placed_many, placed_few, placed_closed}
use Rattle.ae_parser.proofs.places.steps_back.Goals as goal

pub returns-in-Many : goal.returns-in-Many
returns-in-Many c = placed_many c.args.before.now c.in-Many.index c.in-Many.ensures

pub returns-in-Few : goal.returns-in-Few
returns-in-Few c = placed_few c.args.before.now c.in-Few.field-0 c.in-Few.ensures

pub returns-in-Closed : goal.returns-in-Closed
returns-in-Closed c = placed_closed c.args.before.now c.in-Closed.ensures
