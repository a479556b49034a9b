use Rattle.std.proofs.Common.{drop}
use Rattle.ae_judge.specs.Tabled.{code_of}
use Rattle.ae_reads.specs.Views.{address}
use Rattle.ae_reads.proofs.WalkLemmas.{GoesOn}
use Rattle.ae_reads.proofs.walks.walk_noting.Given as goal

-- the walk goes on from here, at the address that was noted
abbrev pub invariant-loop-x : goal.invariant-loop-x
invariant-loop-x l = GoesOn (code_of l.tabled) l.env l.path (drop l.x-index l.x-items)
    (address l.base l.fields.items) l.place
