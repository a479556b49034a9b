-- What the programs of the page on the language come to.
use Rattle.std.specs.Prelude.{refl, pos, negsuc, [], ◌∷◌, codes}
use Rattle.ae_semantics.specs.Values.{OfInt, Object, NoValue, AndValue}
use Rattle.ae_semantics.specs.declared.report.Piece.{Piece}
use Rattle.ae_semantics.specs.Observations.{OfBlock, OfCell, OfStore, OfLog, Gave, Trapped}
use Rattle.ae_semantics.specs.declared.report.Ending.TheVariants.{Done, Trap, Fuel}
use Rattle.ae_semantics.specs.Meaning.{one, many, below}
use Rattle.ae_semantics.specs.Means.{mean}
use Rattle.ae_worked.proofs.ProgramWords.{at}
use Rattle.ae_worked.proofs.MeaningWords.{line, Comes, nothing_out, number_out}
use Rattle.ae_worked.proofs.RunRowExamples.{array_stored_and_taken, assertion_is_false, calls_without_end}
use Rattle.ae_worked.proofs.RunRowExamples.{chain_too_high, divisor_is_zero, frozen_for_two_names, index_at_the_length}
use Rattle.ae_worked.proofs.RunRowExamples.{loop_in_one_line, negative_length, null_written, parameter_comes_back}
use Rattle.ae_worked.proofs.RunRowExamples.{quotient_not_needed, quotients_and_texts}
use Rattle.ae_worked.proofs.PageExamples.{atomic_block_that_traps, atomic_blocks_with_an_edge}
use Rattle.ae_worked.proofs.PageExamples.{atomic_blocks_without_an_edge, calls_that_share_a_group, canonical_layout}
use Rattle.ae_worked.proofs.PageExamples.{first_ending_counts, readers_and_a_writer, tree_of_parallel_calls}

quotients_and_texts-comes : Comes quotients_and_texts [] 100 [] Done
    (line (pos 3) ∷ line (negsuc 2) ∷ line (negsuc 0) ∷ codes "true\n" ∷ codes "done" ∷ []) 0
unfolding mean one many below
quotients_and_texts-comes = record { ending = refl; out = refl; used = refl }

quotient_not_needed-comes : Comes quotient_not_needed [] 100 [] Done (codes "false\n" ∷ []) 0
unfolding mean one many below
quotient_not_needed-comes = record { ending = refl; out = refl; used = refl }

array_stored_and_taken-comes : Comes array_stored_and_taken [] 100 [] Done (line (pos 3) ∷ codes "true\n" ∷ []) 0
unfolding mean one many below
array_stored_and_taken-comes = record { ending = refl; out = refl; used = refl }

frozen_for_two_names-comes : Comes frozen_for_two_names [] 100 [] Done (line (pos 2) ∷ []) 0
unfolding mean one many below
frozen_for_two_names-comes = record { ending = refl; out = refl; used = refl }

-- fuel for three turns
loop_in_one_line-comes : Comes loop_in_one_line [] 3 [] Done (line (pos 3) ∷ []) 0
unfolding mean one many below
loop_in_one_line-comes = record { ending = refl; out = refl; used = refl }

-- fuel for two
loop_in_one_line-spent : Comes loop_in_one_line [] 2 [] (Fuel (at 1 55)) [] 0
unfolding mean one many below
loop_in_one_line-spent = record { ending = refl; out = refl; used = refl }

calls_without_end-spent : Comes calls_without_end [] 5 [] (Fuel (at 1 22)) [] 0
unfolding mean one many below
calls_without_end-spent = record { ending = refl; out = refl; used = refl }

-- with more fuel it is too deep
calls_without_end-comes : Comes calls_without_end [] 1100 [] (Trap 6 (at 1 22)) [] 0
unfolding mean one many below
calls_without_end-comes = record { ending = refl; out = refl; used = refl }

parameter_comes_back-comes : Comes parameter_comes_back [] 100 [] Done (line (pos 2) ∷ codes "true\n" ∷ []) 0
unfolding mean one many below
parameter_comes_back-comes = record { ending = refl; out = refl; used = refl }

divisor_is_zero-comes : Comes divisor_is_zero [] 100 [] (Trap 2 (at 1 22)) [] 0
unfolding mean one many below
divisor_is_zero-comes = record { ending = refl; out = refl; used = refl }

null_written-comes : Comes null_written [] 100 [] (Trap 3 (at 1 68)) [] 0
unfolding mean one many below
null_written-comes = record { ending = refl; out = refl; used = refl }

index_at_the_length-comes : Comes index_at_the_length [] 100 [] (Trap 4 (at 1 55)) [] 0
unfolding mean one many below
index_at_the_length-comes = record { ending = refl; out = refl; used = refl }

assertion_is_false-comes : Comes assertion_is_false [] 100 [] (Trap 5 (at 1 49)) (line (pos 1) ∷ []) 0
unfolding mean one many below
assertion_is_false-comes = record { ending = refl; out = refl; used = refl }

negative_length-comes : Comes negative_length [] 100 [] (Trap 7 (at 1 22)) [] 0
unfolding mean one many below
negative_length-comes = record { ending = refl; out = refl; used = refl }

chain_too_high-comes : Comes chain_too_high [] 1100 [] (Trap 8 (at 1 101)) [] 0
unfolding mean one many below
chain_too_high-comes = record { ending = refl; out = refl; used = refl }

canonical_layout-comes : Comes canonical_layout [] 100 [] Done (line (pos 9) ∷ []) 0
unfolding mean one many below
canonical_layout-comes = record { ending = refl; out = refl; used = refl }

readers_and_a_writer-comes : Comes readers_and_a_writer [] 100 [] Done (line (pos 2) ∷ []) 0
unfolding mean one many below
readers_and_a_writer-comes = record { ending = refl; out = refl; used = refl }

-- four blocks answer, and the cell has counted them
calls_that_share_a_group-comes : Comes calls_that_share_a_group [] 100
    (OfBlock (Gave nothing_out) ∷ OfBlock (Gave nothing_out) ∷ OfBlock (Gave nothing_out) ∷ OfBlock (Gave nothing_out)
    ∷ OfCell (OfStore (Object 3 (AndValue (OfInt (pos 4)) NoValue) ∷ [])) ∷ []) Done (line (pos 4) ∷ []) 5
unfolding mean one many below
calls_that_share_a_group-comes = record { ending = refl; out = refl; used = refl }

-- the first block answers with a
atomic_blocks_with_an_edge-comes : Comes atomic_blocks_with_an_edge [] 100
    (OfBlock (Gave (number_out 7 (pos 5))) ∷ OfBlock (Gave nothing_out)
    ∷ OfCell (OfStore (Object 3 (AndValue (OfInt (pos 6)) NoValue) ∷ [])) ∷ []) Done (line (pos 6) ∷ []) 3
unfolding mean one many below
atomic_blocks_with_an_edge-comes = record { ending = refl; out = refl; used = refl }

first_ending_counts-comes : Comes first_ending_counts [] 100 [] (Trap 2 (at 3 5)) (line (pos 7) ∷ []) 0
unfolding mean one many below
first_ending_counts-comes = record { ending = refl; out = refl; used = refl }

atomic_block_that_traps-comes : Comes atomic_block_that_traps [] 100 (OfBlock (Trapped 5 (at 7 29)) ∷ [])
    (Trap 5 (at 7 29)) [] 1
unfolding mean one many below
atomic_block_that_traps-comes = record { ending = refl; out = refl; used = refl }

-- five odd numbers are counted
tree_of_parallel_calls-comes : Comes tree_of_parallel_calls (pos 10 ∷ []) 100
    (OfBlock (Gave nothing_out) ∷ OfBlock (Gave nothing_out) ∷ OfBlock (Gave nothing_out) ∷ OfBlock (Gave nothing_out)
    ∷ OfBlock (Gave nothing_out)
    ∷ OfCell (OfStore (Object 7 (AndValue (OfInt (pos 5)) NoValue) ∷ [])) ∷ []) Done
    (line (pos 45) ∷ line (pos 5) ∷ []) 6
unfolding mean one many below
tree_of_parallel_calls-comes = record { ending = refl; out = refl; used = refl }

-- the first block's piece, and the second one's
abbrev first_piece : Piece
first_piece = record { path = 0 ∷ 0 ∷ 0 ∷ []; bytes = line (pos 1) }

abbrev second_piece : Piece
second_piece = record { path = 0 ∷ 1 ∷ 0 ∷ []; bytes = line (pos 2) }

-- the bytes are those of the cell, whichever block came first
in_order-comes : Comes atomic_blocks_without_an_edge [] 100
    (OfBlock (Gave nothing_out) ∷ OfBlock (Gave nothing_out)
    ∷ OfCell (OfLog (first_piece ∷ second_piece ∷ [])) ∷ []) Done (line (pos 1) ∷ line (pos 2) ∷ []) 3
unfolding mean one many below
in_order-comes = record { ending = refl; out = refl; used = refl }

other_order-comes : Comes atomic_blocks_without_an_edge [] 100
    (OfBlock (Gave nothing_out) ∷ OfBlock (Gave nothing_out)
    ∷ OfCell (OfLog (second_piece ∷ first_piece ∷ [])) ∷ []) Done (line (pos 2) ∷ line (pos 1) ∷ []) 3
unfolding mean one many below
other_order-comes = record { ending = refl; out = refl; used = refl }
