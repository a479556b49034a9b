-- What some programs come to.
use Rattle.std.specs.Prelude.{refl, pos, negsuc, [], ◌∷◌, codes}
use Rattle.ae_semantics.specs.declared.report.Ending.TheVariants.{Done, Trap, Fuel}
use Rattle.ae_semantics.specs.Meaning.{one, many, below}
use Rattle.ae_semantics.specs.Means.{mean}
use Rattle.ae_worked.proofs.ProgramWords.{at}
use Rattle.ae_worked.proofs.MeaningWords.{line, Comes}
use Rattle.ae_worked.proofs.RunExamples.{false_assertion, first_trap_ends, index_before_null, index_through_null}
use Rattle.ae_worked.proofs.RunExamples.{index_too_large, length_below_zero, loop_of_three_turns, method_calls_itself}
use Rattle.ae_worked.proofs.RunExamples.{no_integers, one_too_many, right_operand_not_needed, sum_too_large}
use Rattle.ae_worked.proofs.RunExamples.{written_through_null}
use Rattle.ae_worked.proofs.LendExamples.{frozen_and_read}
use Rattle.ae_worked.proofs.UseExamples.{lent_twice_then_changed, two_locals}
use Rattle.ae_worked.proofs.TableExamples.{main_with_integers}
use Rattle.ae_worked.proofs.ObjectRunExamples.{member_of_a_group, part_comes_back, read_before_moved}
use Rattle.ae_worked.proofs.ObjectRunExamples.{receiver_counts_up, result_stays, taken_field, tree_of_calls}
use Rattle.ae_worked.proofs.GroupExamples.{printed_with_io}

-- Locals are declared and summed.
sum_of_locals-comes : Comes two_locals [] 100 [] Done (line (pos 5) ∷ []) 0
unfolding mean one many below
sum_of_locals-comes = record { ending = refl; out = refl; used = refl }

-- The first trap in source order ends the run, and what was printed before it stays.
first_trap_ends-comes : Comes first_trap_ends [] 100 [] (Trap 2 (at 3 1)) (line (pos 7) ∷ []) 0
unfolding mean one many below
first_trap_ends-comes = record { ending = refl; out = refl; used = refl }

-- A false assertion ends the run.
false_assertion-comes : Comes false_assertion [] 100 [] (Trap 5 (at 3 1)) (line (pos 1) ∷ []) 0
unfolding mean one many below
false_assertion-comes = record { ending = refl; out = refl; used = refl }

-- An object is lent to two calls, and a third writes it.
lent_and_written-comes : Comes lent_twice_then_changed [] 100 [] Done (line (pos 2) ∷ []) 0
unfolding mean one many below
lent_and_written-comes = record { ending = refl; out = refl; used = refl }

-- Each turn of a loop takes one of the fuel, and the last test takes none.
loop_on_its_fuel-comes : Comes loop_of_three_turns [] 3 [] Done (line (pos 3) ∷ []) 0
unfolding mean one many below
loop_on_its_fuel-comes = record { ending = refl; out = refl; used = refl }

-- With too little fuel a loop ends at its place.
loop_out_of_fuel-comes : Comes loop_of_three_turns [] 2 [] (Fuel (at 3 1)) [] 0
unfolding mean one many below
loop_out_of_fuel-comes = record { ending = refl; out = refl; used = refl }

-- Main has the integers of the run.
integers_of_main-comes : Comes main_with_integers (negsuc 4 ∷ pos 7 ∷ []) 1 [] Done
    (line (negsuc 4) ∷ line (pos 2) ∷ []) 0
unfolding mean one many below
integers_of_main-comes = record { ending = refl; out = refl; used = refl }

-- A frozen object is read by two names.
frozen-comes : Comes frozen_and_read [] 100 [] Done (line (pos 2) ∷ []) 0
unfolding mean one many below
frozen-comes = record { ending = refl; out = refl; used = refl }

-- A write through null.
written_through_null-comes : Comes written_through_null [] 100 [] (Trap 3 (at 4 1)) [] 0
unfolding mean one many below
written_through_null-comes = record { ending = refl; out = refl; used = refl }

-- A sum that is no number of 64 bits.
sum_too_large-comes : Comes sum_too_large [] 100 [] (Trap 1 (at 1 73)) [] 0
unfolding mean one many below
sum_too_large-comes = record { ending = refl; out = refl; used = refl }

-- A call that calls itself ends with the fuel.
call_out_of_fuel-comes : Comes method_calls_itself [] 5 [] (Fuel (at 1 22)) [] 0
unfolding mean one many below
call_out_of_fuel-comes = record { ending = refl; out = refl; used = refl }

-- The second operand is evaluated only where the first does not decide.
right_operand_not_needed-comes : Comes right_operand_not_needed [] 100 [] (Trap 2 (at 4 1))
    (codes "false\n" ∷ codes "true\n" ∷ []) 0
unfolding mean one many below
right_operand_not_needed-comes = record { ending = refl; out = refl; used = refl }

-- An index is evaluated before null is met, and null before the length.
index_before_null-comes : Comes index_before_null [] 100 [] (Trap 2 (at 3 1)) [] 0
unfolding mean one many below
index_before_null-comes = record { ending = refl; out = refl; used = refl }

-- An index through null.
index_through_null-comes : Comes index_through_null [] 100 [] (Trap 3 (at 3 1)) [] 0
unfolding mean one many below
index_through_null-comes = record { ending = refl; out = refl; used = refl }

-- An index at the length.
index_too_large-comes : Comes index_too_large [] 100 [] (Trap 4 (at 5 1)) (line (pos 5) ∷ []) 0
unfolding mean one many below
index_too_large-comes = record { ending = refl; out = refl; used = refl }

-- An array of a negative length.
length_below_zero-comes : Comes length_below_zero [] 100 [] (Trap 7 (at 2 1)) [] 0
unfolding mean one many below
length_below_zero-comes = record { ending = refl; out = refl; used = refl }

-- A name moves when all operands of its statement are read.
read_before_moved-comes : Comes read_before_moved [] 100 [] Done (line (pos 4) ∷ line (pos 4) ∷ []) 0
unfolding mean one many below
read_before_moved-comes = record { ending = refl; out = refl; used = refl }

-- A field that was taken is null.
taken_field-comes : Comes taken_field [] 100 [] Done (codes "true\n" ∷ line (pos 3) ∷ []) 0
unfolding mean one many below
taken_field-comes = record { ending = refl; out = refl; used = refl }

-- A part of an object that is lent uniquely comes back to its place.
part_comes_back-comes : Comes part_comes_back [] 100 [] Done (line (pos 6) ∷ []) 0
unfolding mean one many below
part_comes_back-comes = record { ending = refl; out = refl; used = refl }

-- Values come back first, and then the result goes to its target.
result_stays-comes : Comes result_stays [] 100 [] Done (line (pos 7) ∷ line (pos 2) ∷ []) 0
unfolding mean one many below
result_stays-comes = record { ending = refl; out = refl; used = refl }

-- A method that calls itself sums a tree.
tree_of_calls-comes : Comes tree_of_calls [] 20 [] Done (line (pos 3) ∷ []) 0
unfolding mean one many below
tree_of_calls-comes = record { ending = refl; out = refl; used = refl }

-- A class's method changes its receiver.
method_of_a_class-comes : Comes receiver_counts_up [] 100 [] Done (line (pos 2) ∷ []) 0
unfolding mean one many below
method_of_a_class-comes = record { ending = refl; out = refl; used = refl }

-- An object that is shared is a member of its group, and is reached by two references.
member_of_a_group-comes : Comes member_of_a_group [] 100 [] Done (line (pos 5) ∷ []) 0
unfolding mean one many below
member_of_a_group-comes = record { ending = refl; out = refl; used = refl }

-- The greatest number is a number, and one more is not.
one_too_many-comes : Comes one_too_many [] 100 [] (Trap 1 (at 1 22)) [] 0
unfolding mean one many below
one_too_many-comes = record { ending = refl; out = refl; used = refl }

-- A run without integers gives main an array without items.
no_integers-comes : Comes no_integers [] 100 [] (Trap 4 (at 1 35)) [] 0
unfolding mean one many below
no_integers-comes = record { ending = refl; out = refl; used = refl }

-- A text is printed as it is, with no line feed.
text_alone-comes : Comes printed_with_io [] 100 [] Done (codes "hi" ∷ []) 0
unfolding mean one many below
text_alone-comes = record { ending = refl; out = refl; used = refl }
