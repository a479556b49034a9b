use Rattle.std.proofs.Common.{drop}
use Rattle.ae_semantics.specs.Places.{Address}
use Rattle.ae_judge.specs.Tabled.{code_of}
use Rattle.ae_reads.proofs.WalkLemmas.{GoesOn}
use Rattle.ae_reads.proofs.walks.walk.Given as goal

-- the walk goes on from here
abbrev pub invariant-loop-x : goal.invariant-loop-x
invariant-loop-x l = (at : Address) × GoesOn (code_of l.tabled) l.env l.path (drop l.x-index l.x-items) at l.place
