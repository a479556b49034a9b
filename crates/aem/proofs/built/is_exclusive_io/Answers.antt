use Rattle.aem.proofs.Forms.{exclusive_io}
use Rattle.aem.proofs.built.is_exclusive_io.Goals as goal

pub returns-in-Exclusive : goal.returns-in-Exclusive
returns-in-Exclusive c = exclusive_io c.args.need c.in-Exclusive.is
