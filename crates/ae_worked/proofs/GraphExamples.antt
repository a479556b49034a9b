-- The graphs of some programs.
use Rattle.std.specs.Prelude.{◌≡◌, refl, [], ◌∷◌, Some}
use Rattle.ae_rules.specs.Blocks.{graph_of}
use Rattle.ae_worked.proofs.GroupUseExamples.{beside_null, blocks_with_a_local, four_in_a_group, members_of_a_group}
use Rattle.ae_worked.proofs.GroupUseExamples.{needs_of_one_group, no_need, prints_in_order, two_groups_split}
use Rattle.ae_worked.proofs.UseExamples.{branch_reads_and_writes, field_taken, frozen_read_side_by_side}
use Rattle.ae_worked.proofs.UseExamples.{integers_written, lent_twice_then_changed, loop_counts, name_moves}
use Rattle.ae_worked.proofs.UseExamples.{names_inside, receiver_changed, two_locals, written_alone}

-- Two locals do not wait for each other, and what is printed waits for both.
two_locals-graph : graph_of two_locals 0 0 ≡ Some ([] ∷ [] ∷ (0 ∷ 1 ∷ []) ∷ [])
two_locals-graph = refl

-- Two calls that an object is lent to may run together; a call that changes it waits for both.
lent_twice_then_changed-graph : graph_of lent_twice_then_changed 2 0
    ≡ Some ([] ∷ (0 ∷ []) ∷ (0 ∷ []) ∷ (0 ∷ 1 ∷ 2 ∷ []) ∷ (3 ∷ []) ∷ [])
lent_twice_then_changed-graph = refl

get-graph : graph_of lent_twice_then_changed 0 0 ≡ Some ([] ∷ [])
get-graph = refl

put-graph : graph_of lent_twice_then_changed 1 0 ≡ Some ([] ∷ [])
put-graph = refl

-- Calls that need a group shared may run together.
bump-graph : graph_of four_in_a_group 0 0 ≡ Some ([] ∷ [])
bump-graph = refl

four_in_a_group-graph : graph_of four_in_a_group 1 0 ≡ Some ([] ∷ [] ∷ (0 ∷ 1 ∷ []) ∷ (2 ∷ []) ∷ (2 ∷ 3 ∷ []) ∷ [])
four_in_a_group-graph = refl

four_in_a_group-together : graph_of four_in_a_group 1 1 ≡ Some ([] ∷ [] ∷ [] ∷ [] ∷ [])
four_in_a_group-together = refl

-- What a branch reads and writes outside counts for the whole statement.
branch_reads_and_writes-graph : graph_of branch_reads_and_writes 0 0
    ≡ Some ([] ∷ [] ∷ (0 ∷ 1 ∷ []) ∷ (2 ∷ []) ∷ (0 ∷ 3 ∷ []) ∷ [])
branch_reads_and_writes-graph = refl

branch_reads_and_writes-graph_of_branch : graph_of branch_reads_and_writes 0 1 ≡ Some ([] ∷ (0 ∷ []) ∷ [])
branch_reads_and_writes-graph_of_branch = refl

-- Names that are declared inside count for nothing outside.
names_inside-graph : graph_of names_inside 0 0 ≡ Some ([] ∷ [] ∷ (0 ∷ []) ∷ (1 ∷ []) ∷ [])
names_inside-graph = refl

-- A loop uses what its condition and its block use.
loop_counts-graph : graph_of loop_counts 0 0 ≡ Some ([] ∷ [] ∷ (0 ∷ 1 ∷ []) ∷ (2 ∷ []) ∷ [])
loop_counts-graph = refl

loop_counts-graph_of_turn : graph_of loop_counts 0 1 ≡ Some ([] ∷ (0 ∷ []) ∷ [])
loop_counts-graph_of_turn = refl

-- What is frozen may be read side by side.
frozen_and_read-graph : graph_of frozen_read_side_by_side 0 0
    ≡ Some ([] ∷ (0 ∷ []) ∷ (1 ∷ []) ∷ (1 ∷ []) ∷ (2 ∷ 3 ∷ []) ∷ [])
frozen_and_read-graph = refl

-- A name that moves is written.
moved-graph : graph_of name_moves 0 0 ≡ Some ([] ∷ (0 ∷ []) ∷ (0 ∷ 1 ∷ []) ∷ (1 ∷ 2 ∷ []) ∷ [])
moved-graph = refl

-- A write to what is held Unique writes the root, so a read waits for it.
written_alone-graph : graph_of written_alone 0 0 ≡ Some ([] ∷ [] ∷ (0 ∷ []) ∷ (1 ∷ []) ∷ (2 ∷ []) ∷ [])
written_alone-graph = refl

-- A write to an item of integers writes the root.
integers_written-graph : graph_of integers_written 0 0 ≡ Some ([] ∷ [] ∷ (0 ∷ 1 ∷ []) ∷ (2 ∷ []) ∷ (2 ∷ []) ∷ [])
integers_written-graph = refl

-- A field that is taken writes the root, where the object is held Unique.
field_taken-graph : graph_of field_taken 0 0 ≡ Some ([] ∷ (0 ∷ []) ∷ (1 ∷ []) ∷ [])
field_taken-graph = refl

-- Where a group is exclusive, each step into a member uses the whole of it.
members_of_a_group-graph : graph_of members_of_a_group 0 0
    ≡ Some ([] ∷ [] ∷ [] ∷ (0 ∷ 1 ∷ []) ∷ (2 ∷ 3 ∷ []) ∷ (3 ∷ 4 ∷ []) ∷ (4 ∷ 5 ∷ []) ∷ [] ∷ [])
members_of_a_group-graph = refl

-- A path beside `null` does not reach the member.
beside_null-graph : graph_of beside_null 0 0 ≡ Some ([] ∷ [] ∷ (0 ∷ 1 ∷ []) ∷ (2 ∷ []) ∷ (2 ∷ []) ∷ (2 ∷ []) ∷ [])
beside_null-graph = refl

-- A call whose method needs nothing of a group does not wait for it.
no_need-graph : graph_of no_need 1 0 ≡ Some ([] ∷ [] ∷ [])
no_need-graph = refl

-- A call that needs a group exclusive or protected uses the whole of it.
needs_of_one_group-graph : graph_of needs_of_one_group 2 0 ≡ Some ([] ∷ [] ∷ (0 ∷ []) ∷ (2 ∷ []) ∷ (1 ∷ []) ∷ [])
needs_of_one_group-graph = refl

-- Split blocks of two groups may run together.
two_groups_split-graph : graph_of two_groups_split 1 0
    ≡ Some ([] ∷ [] ∷ [] ∷ [] ∷ (0 ∷ 2 ∷ []) ∷ (1 ∷ 3 ∷ []) ∷ (4 ∷ []) ∷ (5 ∷ []) ∷ [])
two_groups_split-graph = refl

-- Atomic blocks of one group go together, unless a local outside joins them.
blocks_with_a_local-graph : graph_of blocks_with_a_local 0 0 ≡ Some ([] ∷ [] ∷ (0 ∷ 1 ∷ []) ∷ [] ∷ (2 ∷ 3 ∷ []) ∷ [])
blocks_with_a_local-graph = refl

blocks_with_a_local-graph_of_split : graph_of blocks_with_a_local 0 1 ≡ Some ([] ∷ [] ∷ (0 ∷ []) ∷ [])
blocks_with_a_local-graph_of_split = refl

-- What is printed waits for what was printed before; blocks that share io do not.
prints_in_order-graph : graph_of prints_in_order 0 0 ≡ Some ([] ∷ (0 ∷ []) ∷ (1 ∷ []) ∷ (2 ∷ []) ∷ [])
prints_in_order-graph = refl

prints_in_order-graph_of_split : graph_of prints_in_order 0 1 ≡ Some ([] ∷ [] ∷ [])
prints_in_order-graph_of_split = refl

-- A receiver counts as an argument does.
receiver_changed-graph : graph_of receiver_changed 2 0
    ≡ Some ([] ∷ (0 ∷ []) ∷ (0 ∷ []) ∷ (0 ∷ 1 ∷ 2 ∷ []) ∷ (2 ∷ []) ∷ [])
receiver_changed-graph = refl
