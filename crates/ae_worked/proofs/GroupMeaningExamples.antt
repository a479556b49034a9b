-- What some programs with split blocks come to, with observations.
use Rattle.std.specs.Prelude.{◌≡◌, refl, ℕ, pos, List, [], ◌∷◌, codes, Option, None, Some}
use Rattle.ae_tree.specs.declared.form.Form.TheVariants as f
use Rattle.ae_tree.specs.Plain.{Code}
use Rattle.ae_semantics.specs.Values.{OfInt, Member, Object, NoValue, AndValue}
use Rattle.ae_semantics.specs.Places.{Bound}
use Rattle.ae_semantics.specs.declared.report.Ending.TheVariants.{Done, Trap}
use Rattle.ae_semantics.specs.declared.report.Piece.{Piece}
use Rattle.ae_semantics.specs.Observations.{OfBlock, OfCell, Image, OfStore, OfLog, Answer, Gave, Trapped}
use Rattle.ae_semantics.specs.Meaning.{one, many, below}
use Rattle.ae_semantics.specs.Means.{mean, Asking}
use Rattle.ae_semantics.specs.Atom.{Atomed, atom}
use Rattle.ae_worked.proofs.ProgramWords.{at}
use Rattle.ae_worked.proofs.MeaningWords.{line, Comes, Waits, nothing_out, number_out, pieces_out, gave_local}
use Rattle.ae_worked.proofs.GroupExamples.{block_with_an_assertion, blocks_of_one_group, nested_atomic}
use Rattle.ae_worked.proofs.GroupUseExamples.{four_in_a_group}
use Rattle.ae_worked.proofs.SplitRunExamples.{log_that_was_split, print_in_a_block, protected_call}
use Rattle.ae_worked.proofs.SplitRunExamples.{reference_without_a_member, ring_of_references, split_in_a_split}
use Rattle.ae_worked.proofs.SplitRunExamples.{taken_from_a_member}

-- A split block whose atomic blocks all answer, in a method that four calls run.
four_answers-comes : Comes four_in_a_group [] 100
    (OfBlock (Gave nothing_out) ∷ OfBlock (Gave nothing_out) ∷ OfBlock (Gave nothing_out)
    ∷ OfBlock (Gave nothing_out) ∷ OfCell (OfStore (Object 3 (AndValue (OfInt (pos 4)) NoValue) ∷ [])) ∷ []) Done
    (line (pos 4) ∷ []) 5
unfolding mean one many below
four_answers-comes = record { ending = refl; out = refl; used = refl }

-- A block answers with the local that it assigned, and the cell comes back at the end of the split block.
local_comes_out-comes : Comes blocks_of_one_group [] 100
    (OfBlock (Gave (number_out 7 (pos 5))) ∷ OfBlock (Gave nothing_out)
    ∷ OfCell (OfStore (Object 3 (AndValue (OfInt (pos 6)) NoValue) ∷ [])) ∷ []) Done (line (pos 6) ∷ []) 3
unfolding mean one many below
local_comes_out-comes = record { ending = refl; out = refl; used = refl }

-- Without an answer there is no ending.
no_answer-waits : Waits blocks_of_one_group [] 100 [] [] 0
unfolding mean one many below
no_answer-waits = record { ending = refl; out = refl; used = refl }

-- An answer without the local that the block assigns does not fit, and is not used.
answer_that_does_not_fit-waits : Waits blocks_of_one_group [] 100 (OfBlock (Gave nothing_out) ∷ []) [] 0
unfolding mean one many below
answer_that_does_not_fit-waits = record { ending = refl; out = refl; used = refl }

-- A cell's members are no answer of a block.
cell_in_place_of_an_answer-waits : Waits blocks_of_one_group [] 100
    (OfCell (OfStore (Object 3 (AndValue (OfInt (pos 6)) NoValue) ∷ [])) ∷ []) [] 0
unfolding mean one many below
cell_in_place_of_an_answer-waits = record { ending = refl; out = refl; used = refl }

-- A block that traps ends the run at its own statement.
answer_that_traps-comes : Comes block_with_an_assertion [] 100 (OfBlock (Trapped 5 (at 7 21)) ∷ [])
    (Trap 5 (at 7 21)) [] 1
unfolding mean one many below
answer_that_traps-comes = record { ending = refl; out = refl; used = refl }

-- A reference without a member in its store counts as null.
reference_without_a_member-comes : Comes reference_without_a_member [] 100 (OfCell (OfStore []) ∷ [])
    (Trap 3 (at 7 1)) [] 1
unfolding mean one many below
reference_without_a_member-comes = record { ending = refl; out = refl; used = refl }

-- A member that refers to itself, in a class with a group, is written along its references.
ring_of_references-comes : Comes ring_of_references [] 100 [] Done (line (pos 7) ∷ []) 0
unfolding mean one many below
ring_of_references-comes = record { ending = refl; out = refl; used = refl }

-- A method with a protected group is called in an atomic block of that group.
protected_call-comes : Comes protected_call [] 100
    (OfBlock (Gave nothing_out) ∷ OfCell
    (OfStore (Object 3 (AndValue (OfInt (pos 2)) (AndValue (Member 0) NoValue)) ∷ [])) ∷ []) Done
    (line (pos 2) ∷ []) 2
unfolding mean one many below
protected_call-comes = record { ending = refl; out = refl; used = refl }

-- A block of a group that prints answers with its pieces.
print_in_a_block-comes : Comes print_in_a_block [] 100
    (OfBlock (Gave (pieces_out (record { path = 3 ∷ 0 ∷ 0 ∷ []; bytes = line (pos 4) }
    ∷ record { path = 3 ∷ 0 ∷ 1 ∷ []; bytes = codes "x" } ∷ [])))
    ∷ OfCell (OfStore (Object 3 (AndValue (OfInt (pos 4)) NoValue) ∷ [])) ∷ []) Done
    (line (pos 4) ∷ codes "x" ∷ line (pos 9) ∷ []) 2
unfolding mean one many below
print_in_a_block-comes = record { ending = refl; out = refl; used = refl }

-- A unique field of a member is taken, and given to another method that does not give it back.
taken_from_a_member-comes : Comes taken_from_a_member [] 100 [] Done (line (pos 8) ∷ codes "true\n" ∷ []) 0
unfolding mean one many below
taken_from_a_member-comes = record { ending = refl; out = refl; used = refl }

-- A split block of another group inside a split block, and a loop around an atomic block.
split_in_a_split-comes : Comes split_in_a_split [] 100
    (OfBlock (Gave nothing_out) ∷ OfCell (OfStore []) ∷ OfBlock (Gave nothing_out) ∷ OfCell (OfStore [])
    ∷ OfCell (OfStore (Object 3 (AndValue (OfInt (pos 2)) NoValue) ∷ [])) ∷ []) Done (line (pos 2) ∷ []) 5
unfolding mean one many below
split_in_a_split-comes = record { ending = refl; out = refl; used = refl }

-- Where the log was split, what comes back is the log.
log_that_was_split-comes : Comes log_that_was_split [] 100
    (OfBlock (Gave nothing_out) ∷ OfBlock (Gave nothing_out)
    ∷ OfCell (OfLog (record { path = []; bytes = line (pos 2) } ∷ record { path = []; bytes = line (pos 1) } ∷ []))
    ∷ []) Done (line (pos 2) ∷ line (pos 1) ∷ line (pos 3) ∷ []) 3
unfolding mean one many below
log_that_was_split-comes = record { ending = refl; out = refl; used = refl }

-- The first of the two blocks answers with what the local comes to, and leaves the group as it was.
abbrev with_five : Image
with_five = OfStore (Object 3 (AndValue (OfInt (pos 5)) NoValue) ∷ [])

abbrev answer_to : Code → List Asking → Image → Option Atomed
answer_to p [] image = None
answer_to p (x ∷ xs) image = Some (atom p x.ask image [])

abbrev out_local : Option Atomed → ℕ → Option Bound
out_local None x = None
out_local (Some a) x = gave_local a.out x

abbrev pieces_of : Option Answer → Option (List Piece)
pieces_of None = None
pieces_of (Some (Gave out)) = out.pieces
pieces_of (Some _) = None

abbrev out_pieces : Option Atomed → Option (List Piece)
out_pieces None = None
out_pieces (Some a) = pieces_of a.out

abbrev image_then : Option Atomed → Option Image
image_then None = None
image_then (Some a) = Some a.image

-- The method's changes come back to the block's group.
abbrev ring_with : ℕ → Image
ring_with n = OfStore (Object 3 (AndValue (OfInt (pos n)) (AndValue (Member 0) NoValue)) ∷ [])

protected_call-leaves : image_then (answer_to protected_call (mean protected_call [] 100 []).asked (ring_with 1))
    ≡ Some (ring_with 2)
unfolding mean one many below atom
protected_call-leaves = refl

-- The block's pieces have the paths of its prints, which begin with the block's own.
print_in_a_block-answers : out_pieces
    (answer_to print_in_a_block (mean print_in_a_block [] 100 []).asked
    (OfStore (Object 3 (AndValue (OfInt (pos 4)) NoValue) ∷ [])))
    ≡ Some (record { path = 3 ∷ 0 ∷ 0 ∷ []; bytes = line (pos 4) }
    ∷ record { path = 3 ∷ 0 ∷ 1 ∷ []; bytes = codes "x" } ∷ [])
unfolding mean one many below atom
print_in_a_block-answers = refl

first_block-answers : out_local
    (answer_to blocks_of_one_group (mean blocks_of_one_group [] 100 []).asked with_five) 7
    ≡ Some (record { form = f.Int; value = OfInt (pos 5) })
unfolding mean one many below atom
first_block-answers = refl

first_block-leaves : image_then (answer_to blocks_of_one_group (mean blocks_of_one_group [] 100 []).asked with_five)
    ≡ Some with_five
unfolding mean one many below atom
first_block-leaves = refl

-- A block that traps leaves its group as it was.
abbrev out_of : Option Atomed → Option Answer
out_of None = None
out_of (Some a) = a.out

trapped_block-answers : out_of (answer_to block_with_an_assertion
    (mean block_with_an_assertion [] 100 []).asked with_five) ≡ Some (Trapped 5 (at 7 21))
unfolding mean one many below atom
trapped_block-answers = refl

trapped_block-leaves : image_then
    (answer_to block_with_an_assertion (mean block_with_an_assertion [] 100 []).asked with_five) ≡ Some with_five
unfolding mean one many below atom
trapped_block-leaves = refl

-- A block in a block, where both groups were split outside. Such programs are refused today.
block_in_a_block-comes : Comes nested_atomic [] 100
    (OfBlock (Gave nothing_out) ∷ OfCell (OfStore []) ∷ OfCell (OfStore []) ∷ []) Done [] 3
unfolding mean one many below
block_in_a_block-comes = record { ending = refl; out = refl; used = refl }
