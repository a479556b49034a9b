use Rattle.std.proofs.Common.{◌≡◌, take}
use Rattle.std.specs.Prelude.{vec_len}
use Rattle.ae_values.proofs.env.unbind.Given as goal

abbrev pub invariant-loop-binds : goal.invariant-loop-binds
invariant-loop-binds l = take l.keep l.binds.items ≡ take l.keep l.initial.binds.items

abbrev pub decreases-loop-binds : goal.decreases-loop-binds
decreases-loop-binds l = vec_len l.binds
