use Rattle.ae_parser.proofs.PlaceLemmas.{refuses}
use Rattle.ae_parser.proofs.places.left_from_refused.Goals as goal

pub returns : goal.returns
returns c = refuses c.args.why c.args.lexemes.now c.args.left c.steps.result c.requires c.steps.ensures
