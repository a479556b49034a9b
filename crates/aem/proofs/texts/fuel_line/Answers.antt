use Rattle.std.proofs.Common.{rules, append_assoc}
use Rattle.aem.proofs.texts.fuel_line.Goals as goal

pub returns : goal.returns
returns c = let h = c.format.ensures.ok in search (rules, append_assoc)
