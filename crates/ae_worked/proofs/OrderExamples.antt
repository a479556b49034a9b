-- Which of two broken premises counts. Made by `tests/worked`.
use Rattle.std.specs.Prelude.{refl, pos, true, false, [], ◌∷◌, codes, None}
use Rattle.ae_text.specs.declared.refusal.Rule.TheVariants as rule
use Rattle.ae_tree.specs.declared.tree.PermAt.TheVariants as perm_at
use Rattle.ae_tree.specs.declared.tree.KindAt.TheVariants as kind_at
use Rattle.ae_tree.specs.declared.tree.Ty.TheVariants as ty
use Rattle.ae_tree.specs.declared.tree.Op.TheVariants as op
use Rattle.ae_tree.specs.declared.tree.Decl.TheVariants as decl
use Rattle.ae_tree.specs.Plain.{Code, Number, Truth, Nothing, Read, Item, Binary}
use Rattle.ae_tree.specs.Plain.{Value, Taken, Zeros, Made, End, Next}
use Rattle.ae_tree.specs.Plain.{Declares, Assigns, Stores, StoresAt, Calls, Chooses, ChoosesElse}
use Rattle.ae_tree.specs.Plain.{Shares, Prints, Asserts}
use Rattle.ae_rules.specs.Judges.{FirstBroken}
use Rattle.ae_worked.proofs.ProgramWords.{at, name, path, call, field, class_with, param}
use Rattle.ae_worked.proofs.ProgramWords.{top_method}

-- Only an array has an index, which is tested before what is held.
abbrev pub index_of_a_moved_object : Code
index_of_a_moved_object = record {
  names = codes "io" ∷ codes "main" ∷ codes "this" ∷ codes "C" ∷ codes "c" ∷ codes "d" ∷ codes "a" ∷ [];
  classes =
      class_with (name 3 1 7) [] [] []
      ∷ [];
  methods =
      (top_method None (name 1 1 25) [] [] []
      (Next (at 1 34) (Declares (ty.Object (perm_at.Unique (at 1 38)) (kind_at.Class (name 3 1 45) [])) (name 4 1 47)
      (Value (Nothing (at 1 51))))
      (Next (at 1 57) (Declares (ty.Object (perm_at.Unique (at 1 61)) (kind_at.Class (name 3 1 68) [])) (name 5 1 70)
      (Value (Read (path (name 4 1 74) []))))
      (Next (at 1 77) (Declares (ty.Int (at 1 81)) (name 6 1 85)
      (Value (Item (path (name 4 1 89) []) (Number (pos 0) (at 1 91))))) End))))
      ∷ [];
  decls = decl.Class 0 ∷ decl.Method 0 ∷ [];
}

index_of_a_moved_object-refused : FirstBroken index_of_a_moved_object rule.TypeMismatch (at 1 89)
index_of_a_moved_object-refused = refl

-- The class is tested before what is held.
abbrev pub moved_object_of_another_class : Code
moved_object_of_another_class = record {
  names = codes "io" ∷ codes "main" ∷ codes "this" ∷ codes "C" ∷ codes "D" ∷ codes "c" ∷ codes "d" ∷ codes "y"
      ∷ [];
  classes =
      class_with (name 3 1 7) [] [] []
      ∷ class_with (name 4 1 19) [] [] []
      ∷ [];
  methods =
      (top_method None (name 1 1 37) [] [] []
      (Next (at 1 46) (Declares (ty.Object (perm_at.Unique (at 1 50)) (kind_at.Class (name 3 1 57) [])) (name 5 1 59)
      (Value (Nothing (at 1 63))))
      (Next (at 1 69) (Declares (ty.Object (perm_at.Unique (at 1 73)) (kind_at.Class (name 3 1 80) [])) (name 6 1 82)
      (Value (Read (path (name 5 1 86) []))))
      (Next (at 1 89) (Declares (ty.Object (perm_at.Unique (at 1 93)) (kind_at.Class (name 4 1 100) [])) (name 7 1 102)
      (Value (Read (path (name 5 1 106) [])))) End))))
      ∷ [];
  decls = decl.Class 0 ∷ decl.Class 1 ∷ decl.Method 0 ∷ [];
}

moved_object_of_another_class-refused : FirstBroken moved_object_of_another_class rule.TypeMismatch (at 1 106)
moved_object_of_another_class-refused = refl

-- The roots of two arguments are tested before the permission.
abbrev pub one_object_for_unique_and_immutable : Code
one_object_for_unique_and_immutable = record {
  names = codes "io" ∷ codes "main" ∷ codes "this" ∷ codes "C" ∷ codes "f" ∷ codes "a" ∷ codes "b" ∷ codes "c"
      ∷ [];
  classes =
      class_with (name 3 1 7) [] [] []
      ∷ [];
  methods =
      (top_method None (name 4 1 25) [] (param (ty.Object (perm_at.Unique (at 1 27)) (kind_at.Class (name 3 1 34) []))
      (name 5 1 36) ∷ param (ty.Object (perm_at.Immutable (at 1 39)) (kind_at.Class (name 3 1 49) [])) (name 6 1 51)
      ∷ []) []
      End)
      ∷ (top_method None (name 1 1 70) [] [] []
      (Next (at 1 79) (Declares (ty.Object (perm_at.Unique (at 1 83)) (kind_at.Class (name 3 1 90) [])) (name 7 1 92)
      (Made (name 3 1 100) [] [] (at 1 96)))
      (Next (at 1 105) (Calls (call (name 4 1 105) [] ((Read (path (name 7 1 107) [])) ∷ (Read (path (name 7 1 110) []))
      ∷ []))) End)))
      ∷ [];
  decls = decl.Class 0 ∷ decl.Method 0 ∷ decl.Method 1 ∷ [];
}

one_object_for_unique_and_immutable-refused : FirstBroken one_object_for_unique_and_immutable rule.UsedTwice (at 1 110)
one_object_for_unique_and_immutable-refused = refl

-- That the field is unique is tested before write access, so the place is that of take.
abbrev pub immutable_field_of_a_lent_object_taken : Code
immutable_field_of_a_lent_object_taken = record {
  names = codes "io" ∷ codes "main" ∷ codes "this" ∷ codes "Box" ∷ codes "v" ∷ codes "im" ∷ codes "f" ∷ codes "b"
      ∷ codes "x" ∷ [];
  classes =
      class_with (name 3 1 7) [] (field (ty.Int (at 1 13)) (name 4 1 17)
      ∷ field (ty.Object (perm_at.Immutable (at 1 20)) (kind_at.Ints (at 1 30))) (name 5 1 35) ∷ []) []
      ∷ [];
  methods =
      (top_method None (name 6 1 53) [] (param (ty.Object (perm_at.Lent (at 1 55)) (kind_at.Class (name 3 1 60) []))
      (name 7 1 64) ∷ []) []
      (Next (at 1 69) (Declares (ty.Object (perm_at.Immutable (at 1 73)) (kind_at.Ints (at 1 83))) (name 8 1 88)
      (Taken (path (name 7 1 97) ((name 5 1 99) ∷ [])) (at 1 92))) End))
      ∷ (top_method None (name 1 1 117) [] [] []
      End)
      ∷ [];
  decls = decl.Class 0 ∷ decl.Method 0 ∷ decl.Method 1 ∷ [];
}

immutable_field_of_a_lent_object_taken-refused : FirstBroken immutable_field_of_a_lent_object_taken rule.NeedsUnique
    (at 1 92)
immutable_field_of_a_lent_object_taken-refused = refl

-- The type of a let is tested before its name.
abbrev pub visible_name_of_an_unknown_class : Code
visible_name_of_an_unknown_class = record {
  names = codes "io" ∷ codes "main" ∷ codes "this" ∷ codes "f" ∷ codes "a" ∷ codes "Nope" ∷ [];
  classes = [];
  methods =
      (top_method None (name 3 1 13) [] (param (ty.Int (at 1 15)) (name 4 1 19) ∷ []) []
      (Next (at 1 24) (Declares (ty.Object (perm_at.Unique (at 1 28)) (kind_at.Class (name 5 1 35) [])) (name 4 1 40)
      (Value (Number (pos 1) (at 1 44)))) End))
      ∷ (top_method None (name 1 1 61) [] [] []
      End)
      ∷ [];
  decls = decl.Method 0 ∷ decl.Method 1 ∷ [];
}

visible_name_of_an_unknown_class-refused : FirstBroken visible_name_of_an_unknown_class rule.UnknownClass (at 1 35)
visible_name_of_an_unknown_class-refused = refl

-- That a local may be assigned is tested before the right side.
abbrev pub lent_parameter_set_to_an_unknown_name : Code
lent_parameter_set_to_an_unknown_name = record {
  names = codes "io" ∷ codes "main" ∷ codes "this" ∷ codes "C" ∷ codes "f" ∷ codes "c" ∷ codes "d" ∷ [];
  classes =
      class_with (name 3 1 7) [] [] []
      ∷ [];
  methods =
      (top_method None (name 4 1 25) [] (param (ty.Object (perm_at.Lent (at 1 27)) (kind_at.Class (name 3 1 32) []))
      (name 5 1 34) ∷ []) []
      (Next (at 1 39) (Assigns (name 5 1 39) (Value (Read (path (name 6 1 43) [])))) End))
      ∷ (top_method None (name 1 1 60) [] [] []
      End)
      ∷ [];
  decls = decl.Class 0 ∷ decl.Method 0 ∷ decl.Method 1 ∷ [];
}

lent_parameter_set_to_an_unknown_name-refused : FirstBroken lent_parameter_set_to_an_unknown_name rule.ParameterMoved
    (at 1 39)
lent_parameter_set_to_an_unknown_name-refused = refl

-- The walk comes before write access.
abbrev pub no_such_field_of_a_lent_object : Code
no_such_field_of_a_lent_object = record {
  names = codes "io" ∷ codes "main" ∷ codes "this" ∷ codes "Box" ∷ codes "v" ∷ codes "im" ∷ codes "f" ∷ codes "b"
      ∷ codes "w" ∷ [];
  classes =
      class_with (name 3 1 7) [] (field (ty.Int (at 1 13)) (name 4 1 17)
      ∷ field (ty.Object (perm_at.Immutable (at 1 20)) (kind_at.Ints (at 1 30))) (name 5 1 35) ∷ []) []
      ∷ [];
  methods =
      (top_method None (name 6 1 53) [] (param (ty.Object (perm_at.Lent (at 1 55)) (kind_at.Class (name 3 1 60) []))
      (name 7 1 64) ∷ []) []
      (Next (at 1 69) (Stores (path (name 7 1 69) ((name 8 1 71) ∷ [])) (Number (pos 1) (at 1 75))) End))
      ∷ (top_method None (name 1 1 92) [] [] []
      End)
      ∷ [];
  decls = decl.Class 0 ∷ decl.Method 0 ∷ decl.Method 1 ∷ [];
}

no_such_field_of_a_lent_object-refused : FirstBroken no_such_field_of_a_lent_object rule.UnknownField (at 1 71)
no_such_field_of_a_lent_object-refused = refl

-- Write access is tested before what is stored.
abbrev pub truth_into_a_lent_object : Code
truth_into_a_lent_object = record {
  names = codes "io" ∷ codes "main" ∷ codes "this" ∷ codes "Box" ∷ codes "v" ∷ codes "im" ∷ codes "f" ∷ codes "b"
      ∷ [];
  classes =
      class_with (name 3 1 7) [] (field (ty.Int (at 1 13)) (name 4 1 17)
      ∷ field (ty.Object (perm_at.Immutable (at 1 20)) (kind_at.Ints (at 1 30))) (name 5 1 35) ∷ []) []
      ∷ [];
  methods =
      (top_method None (name 6 1 53) [] (param (ty.Object (perm_at.Lent (at 1 55)) (kind_at.Class (name 3 1 60) []))
      (name 7 1 64) ∷ []) []
      (Next (at 1 69) (Stores (path (name 7 1 69) ((name 4 1 71) ∷ [])) (Truth true (at 1 75))) End))
      ∷ (top_method None (name 1 1 95) [] [] []
      End)
      ∷ [];
  decls = decl.Class 0 ∷ decl.Method 0 ∷ decl.Method 1 ∷ [];
}

truth_into_a_lent_object-refused : FirstBroken truth_into_a_lent_object rule.NeedsUnique (at 1 69)
truth_into_a_lent_object-refused = refl

-- Write access is tested before the index.
abbrev pub truth_as_index_of_a_lent_array : Code
truth_as_index_of_a_lent_array = record {
  names = codes "io" ∷ codes "main" ∷ codes "this" ∷ codes "f" ∷ codes "a" ∷ [];
  classes = [];
  methods =
      (top_method None (name 3 1 13) [] (param (ty.Object (perm_at.Lent (at 1 15)) (kind_at.Ints (at 1 20)))
      (name 4 1 25) ∷ []) []
      (Next (at 1 30) (StoresAt (path (name 4 1 30) []) (Truth true (at 1 32)) (Number (pos 1) (at 1 40))) End))
      ∷ (top_method None (name 1 1 57) [] [] []
      End)
      ∷ [];
  decls = decl.Method 0 ∷ decl.Method 1 ∷ [];
}

truth_as_index_of_a_lent_array-refused : FirstBroken truth_as_index_of_a_lent_array rule.NeedsUnique (at 1 30)
truth_as_index_of_a_lent_array-refused = refl

-- The index is tested before the item.
abbrev pub truth_as_index_and_item : Code
truth_as_index_and_item = record {
  names = codes "io" ∷ codes "main" ∷ codes "this" ∷ codes "f" ∷ codes "a" ∷ [];
  classes = [];
  methods =
      (top_method None (name 3 1 13) [] (param (ty.Object (perm_at.Unique (at 1 15)) (kind_at.Ints (at 1 22)))
      (name 4 1 27) ∷ []) []
      (Next (at 1 32) (StoresAt (path (name 4 1 32) []) (Truth true (at 1 34)) (Truth false (at 1 42))) End))
      ∷ (top_method None (name 1 1 63) [] [] []
      End)
      ∷ [];
  decls = decl.Method 0 ∷ decl.Method 1 ∷ [];
}

truth_as_index_and_item-refused : FirstBroken truth_as_index_and_item rule.TypeMismatch (at 1 34)
truth_as_index_and_item-refused = refl

-- That something is held is tested before write access.
abbrev pub item_of_a_moved_array : Code
item_of_a_moved_array = record {
  names = codes "io" ∷ codes "main" ∷ codes "this" ∷ codes "a" ∷ codes "b" ∷ [];
  classes = [];
  methods =
      (top_method None (name 1 1 13) [] [] []
      (Next (at 1 22) (Declares (ty.Object (perm_at.Unique (at 1 26)) (kind_at.Ints (at 1 33))) (name 3 1 38)
      (Zeros (Number (pos 1) (at 1 51)) (at 1 42)))
      (Next (at 1 55) (Declares (ty.Object (perm_at.Unique (at 1 59)) (kind_at.Ints (at 1 66))) (name 4 1 71)
      (Value (Read (path (name 3 1 75) []))))
      (Next (at 1 78) (StoresAt (path (name 3 1 78) []) (Number (pos 0) (at 1 80)) (Number (pos 1) (at 1 85))) End))))
      ∷ [];
  decls = decl.Method 0 ∷ [];
}

item_of_a_moved_array-refused : FirstBroken item_of_a_moved_array rule.NoPermission (at 1 78)
item_of_a_moved_array-refused = refl

-- The condition is judged before the first block.
abbrev pub number_as_a_condition_of_an_if : Code
number_as_a_condition_of_an_if = record {
  names = codes "io" ∷ codes "main" ∷ codes "this" ∷ codes "x" ∷ [];
  classes = [];
  methods =
      (top_method None (name 1 1 13) [] [] []
      (Next (at 1 22) (Chooses (Number (pos 1) (at 1 25)) 1
      (Next (at 1 29) (Assigns (name 3 1 29) (Value (Number (pos 2) (at 1 33)))) End)) End))
      ∷ [];
  decls = decl.Method 0 ∷ [];
}

number_as_a_condition_of_an_if-refused : FirstBroken number_as_a_condition_of_an_if rule.TypeMismatch (at 1 25)
number_as_a_condition_of_an_if-refused = refl

-- The first block is judged before the second.
abbrev pub first_block_before_the_second : Code
first_block_before_the_second = record {
  names = codes "io" ∷ codes "main" ∷ codes "this" ∷ codes "x" ∷ codes "y" ∷ [];
  classes = [];
  methods =
      (top_method None (name 1 1 13) [] [] []
      (Next (at 1 22) (ChoosesElse (Truth true (at 1 25)) 1
      (Next (at 1 32) (Assigns (name 3 1 32) (Value (Number (pos 2) (at 1 36)))) End) 2
      (Next (at 1 48) (Assigns (name 4 1 48) (Value (Number (pos 2) (at 1 52)))) End)) End))
      ∷ [];
  decls = decl.Method 0 ∷ [];
}

first_block_before_the_second-refused : FirstBroken first_block_before_the_second rule.UnknownName (at 1 32)
first_block_before_the_second-refused = refl

-- What is shared is tested before the group.
abbrev pub unknown_name_into_an_unknown_group : Code
unknown_name_into_an_unknown_group = record {
  names = codes "io" ∷ codes "main" ∷ codes "this" ∷ codes "x" ∷ codes "h" ∷ [];
  classes = [];
  methods =
      (top_method None (name 1 1 13) [] [] []
      (Next (at 1 22) (Shares (name 3 1 28) (name 4 1 35)) End))
      ∷ [];
  decls = decl.Method 0 ∷ [];
}

unknown_name_into_an_unknown_group-refused : FirstBroken unknown_name_into_an_unknown_group rule.UnknownName (at 1 28)
unknown_name_into_an_unknown_group-refused = refl

-- What is printed is judged before io.
abbrev pub unknown_name_printed_without_io : Code
unknown_name_printed_without_io = record {
  names = codes "io" ∷ codes "main" ∷ codes "this" ∷ codes "b" ∷ [];
  classes = [];
  methods =
      (top_method None (name 1 1 13) [] [] []
      (Next (at 1 22) (Prints (Read (path (name 3 1 28) []))) End))
      ∷ [];
  decls = decl.Method 0 ∷ [];
}

unknown_name_printed_without_io-refused : FirstBroken unknown_name_printed_without_io rule.UnknownName (at 1 28)
unknown_name_printed_without_io-refused = refl

-- The left operand is judged first.
abbrev pub left_operand_of_and_first : Code
left_operand_of_and_first = record {
  names = codes "io" ∷ codes "main" ∷ codes "this" ∷ codes "a" ∷ codes "b" ∷ [];
  classes = [];
  methods =
      (top_method None (name 1 1 13) [] [] []
      (Next (at 1 22) (Asserts (Binary op.And (Read (path (name 3 1 29) [])) (Read (path (name 4 1 34) [])))) End))
      ∷ [];
  decls = decl.Method 0 ∷ [];
}

left_operand_of_and_first-refused : FirstBroken left_operand_of_and_first rule.UnknownName (at 1 29)
left_operand_of_and_first-refused = refl
