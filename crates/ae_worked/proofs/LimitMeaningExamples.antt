-- What programs at the limits come to.
use Rattle.std.specs.Prelude.{refl, pos, [], ◌∷◌}
use Rattle.ae_semantics.specs.declared.report.Ending.TheVariants.{Done, Trap}
use Rattle.ae_semantics.specs.Meaning.{one, many, below}
use Rattle.ae_semantics.specs.Means.{mean}
use Rattle.ae_worked.proofs.ProgramWords.{at}
use Rattle.ae_worked.proofs.MeaningWords.{line, Comes}
use Rattle.ae_worked.proofs.LimitExamples.{main_alone, source_without_spaces}
use Rattle.ae_worked.proofs.LimitExamples.{calls_to_the_greatest_depth, calls_one_too_deep, list_as_high_as_given}

main_alone-comes : Comes main_alone [] 100 [] Done [] 0
unfolding mean one many below
main_alone-comes = record { ending = refl; out = refl; used = refl }

source_without_spaces-comes : Comes source_without_spaces [] 100 [] Done (line (pos 9) ∷ []) 0
unfolding mean one many below
source_without_spaces-comes = record { ending = refl; out = refl; used = refl }

calls_to_the_greatest_depth-comes : Comes calls_to_the_greatest_depth [] 1100 [] Done [] 0
unfolding mean one many below
calls_to_the_greatest_depth-comes = record { ending = refl; out = refl; used = refl }

calls_one_too_deep-comes : Comes calls_one_too_deep [] 1100 [] (Trap 6 (at 1 38)) [] 0
unfolding mean one many below
calls_one_too_deep-comes = record { ending = refl; out = refl; used = refl }

-- a list of height 1,000, and one that would be higher
list_as_high_as_given-comes : Comes list_as_high_as_given (pos 1000 ∷ []) 1100 [] Done [] 0
unfolding mean one many below
list_as_high_as_given-comes = record { ending = refl; out = refl; used = refl }

list_as_high_as_given-traps : Comes list_as_high_as_given (pos 1001 ∷ []) 1100 [] (Trap 8 (at 7 1)) [] 0
unfolding mean one many below
list_as_high_as_given-traps = record { ending = refl; out = refl; used = refl }
