use Rattle.std.proofs.Common.{◌≡◌, drop}
use Rattle.ae_frames.specs.Asking.{is_once}
use Rattle.ae_frames.proofs.CollectLemmas.{once_from}
use Rattle.ae_frames.proofs.collecting.is_sole.Given as goal

abbrev pub invariant-loop-other : goal.invariant-loop-other
invariant-loop-other l = once_from l.found l.name (drop l.other-index l.names) ≡ is_once l.name l.names
