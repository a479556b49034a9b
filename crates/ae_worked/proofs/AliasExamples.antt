-- Groups that are split inside an atomic block: what calls do to them stays, also where one group is given for two.
use Rattle.std.specs.Prelude.{refl, pos, List, [], ◌∷◌}
use Rattle.ae_tree.specs.Plain.{Code}
use Rattle.ae_rules.specs.Verdict.{given}
use Rattle.ae_semantics.specs.declared.report.Ending.TheVariants.{Done}
use Rattle.ae_semantics.specs.Observations.{Seen, OfBlock, OfCell, OfStore}
use Rattle.ae_semantics.specs.Meaning.{one, many, below}
use Rattle.ae_semantics.specs.Means.{mean, Asking}
use Rattle.ae_semantics.specs.Atom.{atom}
use Rattle.ae_worked.proofs.MeaningWords.{line, Comes}
use Rattle.ae_worked.proofs.NewExamples.{one_group_for_two, shared_in_a_block}

-- what the blocks that were asked answer where their group is empty, and that it is empty at the end
abbrev answers : List Asking → Code → List Seen
answers [] p = []
answers (x ∷ xs) p = given (atom p x.ask (OfStore []) []).out [] (λ a. OfBlock a ∷ OfCell (OfStore []) ∷ [])

-- what a program with one atomic block observes, whose group is empty
abbrev observed : Code → List Seen
observed p = answers (mean p [] 100 []).asked p

-- What a call does to a group that was split inside an atomic block stays.
shared_in_a_block-comes : Comes shared_in_a_block [] 100 (observed shared_in_a_block) Done (line (pos 1) ∷ []) 2
unfolding mean one many below atom
shared_in_a_block-comes = record { ending = refl; out = refl; used = refl }

-- A call is given one group for two of its method's: what is done by either name is done to the one.
one_group_for_two-comes : Comes one_group_for_two [] 100 (observed one_group_for_two) Done (line (pos 2) ∷ []) 2
unfolding mean one many below atom
one_group_for_two-comes = record { ending = refl; out = refl; used = refl }
