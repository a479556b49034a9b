-- What the goals of this crate are closed by.
use Rattle.std.proofs.Common.{append_assoc}
use Rattle.std.proofs.lemmas.List.{append-nil}
use Rattle.ae_tree.specs.Shown.{shows, no-out}

pub ruleset forms = (shows, append_assoc, append-nil, no-out)
