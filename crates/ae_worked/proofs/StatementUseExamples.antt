-- What statements of some programs use.
use Rattle.std.specs.Prelude.{◌≡◌, refl, [], ◌∷◌, None, Some}
use Rattle.ae_rules.specs.declared.uses.Resource.TheVariants.{Local, Group}
use Rattle.ae_rules.specs.declared.uses.Mode.TheVariants.{Read, Write, GroupShared, GroupWhole}
use Rattle.ae_worked.proofs.UseWords.{used_of}
use Rattle.ae_worked.proofs.UsePremiseExamples.{path_through_two_groups, argument_inside_a_member, index_is_read}
use Rattle.ae_worked.proofs.UsePremiseExamples.{array_of_a_group_reached, length_is_read, conditions_are_read}
use Rattle.ae_worked.proofs.UsePremiseExamples.{locals_of_blocks, each_way_to_use}
use Rattle.ae_worked.proofs.GroupUseExamples.{four_in_a_group}

-- g and h are reached, and x is read
path_through_two_groups-uses : used_of path_through_two_groups 0 0 0 (Group 9 ∷ Group 6 ∷ Local 10 ∷ [])
    ≡ Some GroupWhole ∷ Some GroupWhole ∷ Some Read ∷ []
path_through_two_groups-uses = refl

-- g is reached, and x is read
argument_inside_a_member-uses : used_of argument_inside_a_member 1 0 0 (Group 8 ∷ Local 9 ∷ [])
    ≡ Some GroupWhole ∷ Some Read ∷ []
argument_inside_a_member-uses = refl

-- an item that is read: a and i are read, n is not used, m is written
item-uses : used_of index_is_read 0 0 0 (Local 4 ∷ Local 5 ∷ Local 6 ∷ Local 7 ∷ [])
    ≡ Some Read ∷ Some Read ∷ None ∷ Some Write ∷ []
item-uses = refl

-- an item that is set: a is written, i and n are read
set_item-uses : used_of index_is_read 0 0 1 (Local 4 ∷ Local 5 ∷ Local 6 ∷ Local 7 ∷ [])
    ≡ Some Write ∷ Some Read ∷ Some Read ∷ None ∷ []
set_item-uses = refl

-- g is reached, and a is read
item_of_a_group-uses : used_of array_of_a_group_reached 0 0 0 (Group 4 ∷ Local 5 ∷ [])
    ≡ Some GroupWhole ∷ Some Read ∷ []
item_of_a_group-uses = refl

length_of_a_group-uses : used_of array_of_a_group_reached 0 0 1 (Group 4 ∷ Local 5 ∷ [])
    ≡ Some GroupWhole ∷ Some Read ∷ []
length_of_a_group-uses = refl

-- n is read, and a is written
length_is_read-uses : used_of length_is_read 0 0 0 (Local 4 ∷ Local 5 ∷ []) ≡ Some Read ∷ Some Write ∷ []
length_is_read-uses = refl

-- `if`, `if` with `else`, `while`, `assert` and `!` read b
if-reads : used_of conditions_are_read 0 0 0 (Local 4 ∷ Local 5 ∷ []) ≡ Some Read ∷ None ∷ []
if-reads = refl

else-reads : used_of conditions_are_read 0 0 1 (Local 4 ∷ Local 5 ∷ []) ≡ Some Read ∷ None ∷ []
else-reads = refl

while-reads : used_of conditions_are_read 0 0 2 (Local 4 ∷ Local 5 ∷ []) ≡ Some Read ∷ None ∷ []
while-reads = refl

assert-reads : used_of conditions_are_read 0 0 3 (Local 4 ∷ Local 5 ∷ []) ≡ Some Read ∷ None ∷ []
assert-reads = refl

not-reads : used_of conditions_are_read 0 0 4 (Local 4 ∷ Local 5 ∷ []) ≡ Some Read ∷ None ∷ []
not-reads = refl

-- a prefix `-` and parentheses read n
minus-reads : used_of conditions_are_read 0 0 5 (Local 4 ∷ Local 5 ∷ Local 6 ∷ [])
    ≡ None ∷ Some Read ∷ Some Write ∷ []
minus-reads = refl

parentheses-read : used_of conditions_are_read 0 0 6 (Local 4 ∷ Local 5 ∷ Local 7 ∷ [])
    ≡ None ∷ Some Read ∷ Some Write ∷ []
parentheses-read = refl

-- t and s count for nothing outside of `if`, of both branches, of `while`, of `split` and of `atomic`
if-outside : used_of locals_of_blocks 0 0 0 (Local 5 ∷ Local 6 ∷ []) ≡ None ∷ None ∷ []
if-outside = refl

else-outside : used_of locals_of_blocks 0 0 1 (Local 5 ∷ Local 6 ∷ []) ≡ None ∷ None ∷ []
else-outside = refl

while-outside : used_of locals_of_blocks 0 0 2 (Local 5 ∷ Local 6 ∷ []) ≡ None ∷ None ∷ []
while-outside = refl

split-outside : used_of locals_of_blocks 0 0 3 (Local 5 ∷ Local 6 ∷ Group 4 ∷ []) ≡ None ∷ None ∷ Some GroupWhole ∷ []
split-outside = refl

atomic-outside : used_of locals_of_blocks 0 5 1 (Local 5 ∷ Local 6 ∷ Group 4 ∷ [])
    ≡ None ∷ None ∷ Some GroupShared ∷ []
atomic-outside = refl

-- x, g and io: made, lent uniquely, lent, written; the group; shared; printed; a text
made-uses : used_of each_way_to_use 2 0 0 (Local 8 ∷ Group 9 ∷ Group 0 ∷ []) ≡ Some Write ∷ None ∷ None ∷ []
made-uses = refl

lent_uniquely-uses : used_of each_way_to_use 2 0 1 (Local 8 ∷ Group 9 ∷ Group 0 ∷ []) ≡ Some Write ∷ None ∷ None ∷ []
lent_uniquely-uses = refl

lent-uses : used_of each_way_to_use 2 0 2 (Local 8 ∷ Group 9 ∷ Group 0 ∷ []) ≡ Some Read ∷ None ∷ None ∷ []
lent-uses = refl

written-uses : used_of each_way_to_use 2 0 3 (Local 8 ∷ Group 9 ∷ Group 0 ∷ []) ≡ Some Write ∷ None ∷ None ∷ []
written-uses = refl

group-uses : used_of each_way_to_use 2 0 4 (Local 8 ∷ Group 9 ∷ Group 0 ∷ []) ≡ None ∷ Some GroupWhole ∷ None ∷ []
group-uses = refl

shared-uses : used_of each_way_to_use 2 0 5 (Local 8 ∷ Group 9 ∷ Group 0 ∷ [])
    ≡ Some Write ∷ Some GroupWhole ∷ None ∷ []
shared-uses = refl

printed-uses : used_of each_way_to_use 2 0 6 (Local 8 ∷ Group 9 ∷ Group 0 ∷ [])
    ≡ Some Read ∷ Some GroupWhole ∷ Some GroupWhole ∷ []
printed-uses = refl

text-uses : used_of each_way_to_use 2 0 7 (Local 8 ∷ Group 9 ∷ Group 0 ∷ []) ≡ None ∷ None ∷ Some GroupWhole ∷ []
text-uses = refl

-- a call that needs g shared uses it together with others, and reads c
need-uses : used_of four_in_a_group 1 1 0 (Local 7 ∷ Group 6 ∷ []) ≡ Some Read ∷ Some GroupShared ∷ []
need-uses = refl
