use Rattle.std.proofs.Common.{◌≡◌, ◌++◌, drop}
use Rattle.ae_frames.specs.Asking.{names_standing}
use Rattle.ae_frames.proofs.collecting.locals_of.Given as goal

abbrev pub invariant-loop-one : goal.invariant-loop-one
invariant-loop-one l = l.names.items ++ names_standing (drop l.one-index l.asked) ≡ names_standing l.asked
