use Rattle.std.proofs.Common.{◌≡◌, drop}
use Rattle.ae_semantics.specs.Places.{steps}
use Rattle.ae_judge.specs.Tabled.{code_of}
use Rattle.ae_reads.specs.Answers.{state_seen}
use Rattle.ae_reads.specs.Views.{address, place_at}
use Rattle.ae_stores.proofs.reaching.walk_from.Given as goal

-- the steps that are left go on from here, at the address that was noted
abbrev pub invariant-loop-x : goal.invariant-loop-x
invariant-loop-x l =
    steps (code_of l.tabled) (state_seen l.env) l.steps
    (place_at (address l.initial.base l.initial.fields.items) l.initial.place)
    ≡ steps (code_of l.tabled) (state_seen l.env) (drop l.x-index l.steps)
    (place_at (address l.base l.fields.items) l.place)
