-- New objects and right sides: the rows of the page on the language. Made by `tests/worked`.
use Rattle.std.specs.Prelude.{refl, pos, true, [], ◌∷◌, codes, None}
use Rattle.ae_text.specs.declared.refusal.Rule.TheVariants as rule
use Rattle.ae_tree.specs.declared.tree.PermAt.TheVariants as perm_at
use Rattle.ae_tree.specs.declared.tree.KindAt.TheVariants as kind_at
use Rattle.ae_tree.specs.declared.tree.Ty.TheVariants as ty
use Rattle.ae_tree.specs.declared.tree.Need.TheVariants as need_of
use Rattle.ae_tree.specs.declared.tree.Decl.TheVariants as decl
use Rattle.ae_tree.specs.Plain.{Code, Number, Truth, Read, Length}
use Rattle.ae_tree.specs.Plain.{Taken, Zeros, Made, End, Next}
use Rattle.ae_tree.specs.Plain.{Declares, Groups}
use Rattle.ae_rules.specs.Judges.{Accepts, FirstBroken}
use Rattle.ae_worked.proofs.ProgramWords.{at, name, path, field, class_with, param}
use Rattle.ae_worked.proofs.ProgramWords.{need, top_method}

-- What is taken is an object.
abbrev pub number_taken : Code
number_taken = record {
  names = codes "io" ∷ codes "main" ∷ codes "this" ∷ codes "Box" ∷ codes "v" ∷ codes "f" ∷ codes "b" ∷ codes "x"
      ∷ [];
  classes =
      class_with (name 3 1 7) [] (field (ty.Int (at 1 13)) (name 4 1 17) ∷ []) []
      ∷ [];
  methods =
      (top_method None (name 5 1 34) [] (param (ty.Object (perm_at.Unique (at 1 36)) (kind_at.Class (name 3 1 43) []))
      (name 6 1 47) ∷ []) []
      (Next (at 1 52) (Declares (ty.Object (perm_at.Unique (at 1 56)) (kind_at.Class (name 3 1 63) [])) (name 7 1 67)
      (Taken (path (name 6 1 76) ((name 4 1 78) ∷ [])) (at 1 71))) End))
      ∷ (top_method None (name 1 1 95) [] [] []
      End)
      ∷ [];
  decls = decl.Class 0 ∷ decl.Method 0 ∷ decl.Method 1 ∷ [];
}

number_taken-refused : FirstBroken number_taken rule.TypeMismatch (at 1 71)
number_taken-refused = refl

-- What is taken is unique.
abbrev pub immutable_field_taken : Code
immutable_field_taken = record {
  names = codes "io" ∷ codes "main" ∷ codes "this" ∷ codes "Box" ∷ codes "v" ∷ codes "f" ∷ codes "b" ∷ codes "x"
      ∷ [];
  classes =
      class_with (name 3 1 7) [] (field (ty.Object (perm_at.Immutable (at 1 13)) (kind_at.Ints (at 1 23))) (name 4 1 28)
      ∷ []) []
      ∷ [];
  methods =
      (top_method None (name 5 1 45) [] (param (ty.Object (perm_at.Unique (at 1 47)) (kind_at.Class (name 3 1 54) []))
      (name 6 1 58) ∷ []) []
      (Next (at 1 63) (Declares (ty.Object (perm_at.Immutable (at 1 67)) (kind_at.Ints (at 1 77))) (name 7 1 82)
      (Taken (path (name 6 1 91) ((name 4 1 93) ∷ [])) (at 1 86))) End))
      ∷ (top_method None (name 1 1 110) [] [] []
      End)
      ∷ [];
  decls = decl.Class 0 ∷ decl.Method 0 ∷ decl.Method 1 ∷ [];
}

immutable_field_taken-refused : FirstBroken immutable_field_taken rule.NeedsUnique (at 1 86)
immutable_field_taken-refused = refl

-- Nothing is taken out of what is held Lent.
abbrev pub taken_from_a_lent_object : Code
taken_from_a_lent_object = record {
  names = codes "io" ∷ codes "main" ∷ codes "this" ∷ codes "Box" ∷ codes "v" ∷ codes "f" ∷ codes "b" ∷ codes "x"
      ∷ [];
  classes =
      class_with (name 3 1 7) [] (field (ty.Object (perm_at.Unique (at 1 13)) (kind_at.Ints (at 1 20))) (name 4 1 25)
      ∷ []) []
      ∷ [];
  methods =
      (top_method None (name 5 1 42) [] (param (ty.Object (perm_at.Lent (at 1 44)) (kind_at.Class (name 3 1 49) []))
      (name 6 1 53) ∷ []) []
      (Next (at 1 58) (Declares (ty.Object (perm_at.Unique (at 1 62)) (kind_at.Ints (at 1 69))) (name 7 1 74)
      (Taken (path (name 6 1 83) ((name 4 1 85) ∷ [])) (at 1 78))) End))
      ∷ (top_method None (name 1 1 102) [] [] []
      End)
      ∷ [];
  decls = decl.Class 0 ∷ decl.Method 0 ∷ decl.Method 1 ∷ [];
}

taken_from_a_lent_object-refused : FirstBroken taken_from_a_lent_object rule.NeedsUnique (at 1 83)
taken_from_a_lent_object-refused = refl

-- The length of an array is a number.
abbrev pub length_is_a_truth : Code
length_is_a_truth = record {
  names = codes "io" ∷ codes "main" ∷ codes "this" ∷ codes "a" ∷ [];
  classes = [];
  methods =
      (top_method None (name 1 1 13) [] [] []
      (Next (at 1 22) (Declares (ty.Object (perm_at.Unique (at 1 26)) (kind_at.Ints (at 1 33))) (name 3 1 38)
      (Zeros (Truth true (at 1 51)) (at 1 42))) End))
      ∷ [];
  decls = decl.Method 0 ∷ [];
}

length_is_a_truth-refused : FirstBroken length_is_a_truth rule.TypeMismatch (at 1 51)
length_is_a_truth-refused = refl

-- The class of a new object is not declared.
abbrev pub new_of_an_unknown_class : Code
new_of_an_unknown_class = record {
  names = codes "io" ∷ codes "main" ∷ codes "this" ∷ codes "Box" ∷ codes "v" ∷ codes "x" ∷ codes "Bax" ∷ [];
  classes =
      class_with (name 3 1 7) [] (field (ty.Int (at 1 13)) (name 4 1 17) ∷ []) []
      ∷ [];
  methods =
      (top_method None (name 1 1 34) [] [] []
      (Next (at 1 43) (Declares (ty.Object (perm_at.Unique (at 1 47)) (kind_at.Class (name 3 1 54) [])) (name 5 1 58)
      (Made (name 6 1 66) [] ((Number (pos 1) (at 1 70)) ∷ []) (at 1 62))) End))
      ∷ [];
  decls = decl.Class 0 ∷ decl.Method 0 ∷ [];
}

new_of_an_unknown_class-refused : FirstBroken new_of_an_unknown_class rule.UnknownClass (at 1 66)
new_of_an_unknown_class-refused = refl

-- The class of a new object is given too few groups.
abbrev pub new_without_its_group : Code
new_without_its_group = record {
  names = codes "io" ∷ codes "main" ∷ codes "this" ∷ codes "C" ∷ codes "g" ∷ codes "h" ∷ codes "x" ∷ [];
  classes =
      class_with (name 3 1 7) ((name 4 1 9) ∷ []) [] []
      ∷ [];
  methods =
      (top_method None (name 1 1 28) [] [] []
      (Next (at 1 37) (Groups (name 5 1 43))
      (Next (at 1 46) (Declares (ty.Object (perm_at.Unique (at 1 50))
      (kind_at.Class (name 3 1 57) ((name 5 1 59) ∷ []))) (name 6 1 62) (Made (name 3 1 70) [] [] (at 1 66))) End)))
      ∷ [];
  decls = decl.Class 0 ∷ decl.Method 0 ∷ [];
}

new_without_its_group-refused : FirstBroken new_without_its_group rule.GroupCount (at 1 70)
new_without_its_group-refused = refl

-- A group of a new object is not known.
abbrev pub new_with_an_unknown_group : Code
new_with_an_unknown_group = record {
  names = codes "io" ∷ codes "main" ∷ codes "this" ∷ codes "C" ∷ codes "g" ∷ codes "h" ∷ codes "x" ∷ codes "k"
      ∷ [];
  classes =
      class_with (name 3 1 7) ((name 4 1 9) ∷ []) [] []
      ∷ [];
  methods =
      (top_method None (name 1 1 28) [] [] []
      (Next (at 1 37) (Groups (name 5 1 43))
      (Next (at 1 46) (Declares (ty.Object (perm_at.Unique (at 1 50))
      (kind_at.Class (name 3 1 57) ((name 5 1 59) ∷ []))) (name 6 1 62)
      (Made (name 3 1 70) ((name 7 1 72) ∷ []) [] (at 1 66))) End)))
      ∷ [];
  decls = decl.Class 0 ∷ decl.Method 0 ∷ [];
}

new_with_an_unknown_group-refused : FirstBroken new_with_an_unknown_group rule.UnknownGroup (at 1 72)
new_with_an_unknown_group-refused = refl

-- There are not as many arguments as fields.
abbrev pub new_without_arguments : Code
new_without_arguments = record {
  names = codes "io" ∷ codes "main" ∷ codes "this" ∷ codes "Box" ∷ codes "v" ∷ codes "x" ∷ [];
  classes =
      class_with (name 3 1 7) [] (field (ty.Int (at 1 13)) (name 4 1 17) ∷ []) []
      ∷ [];
  methods =
      (top_method None (name 1 1 34) [] [] []
      (Next (at 1 43) (Declares (ty.Object (perm_at.Unique (at 1 47)) (kind_at.Class (name 3 1 54) [])) (name 5 1 58)
      (Made (name 3 1 66) [] [] (at 1 62))) End))
      ∷ [];
  decls = decl.Class 0 ∷ decl.Method 0 ∷ [];
}

new_without_arguments-refused : FirstBroken new_without_arguments rule.ArgumentCount (at 1 66)
new_without_arguments-refused = refl

-- Two arguments have one root, one for a unique field.
abbrev pub one_array_for_two_fields : Code
one_array_for_two_fields = record {
  names = codes "io" ∷ codes "main" ∷ codes "this" ∷ codes "Pair" ∷ codes "a" ∷ codes "b" ∷ codes "x" ∷ codes "p"
      ∷ [];
  classes =
      class_with (name 3 1 7) [] (field (ty.Object (perm_at.Unique (at 1 14)) (kind_at.Ints (at 1 21))) (name 4 1 26)
      ∷ field (ty.Object (perm_at.Unique (at 1 29)) (kind_at.Ints (at 1 36))) (name 5 1 41) ∷ []) []
      ∷ [];
  methods =
      (top_method None (name 1 1 58) [] [] []
      (Next (at 1 67) (Declares (ty.Object (perm_at.Unique (at 1 71)) (kind_at.Ints (at 1 78))) (name 6 1 83)
      (Zeros (Number (pos 1) (at 1 96)) (at 1 87)))
      (Next (at 1 100) (Declares (ty.Object (perm_at.Unique (at 1 104)) (kind_at.Class (name 3 1 111) []))
      (name 7 1 116) (Made (name 3 1 124) [] ((Read (path (name 6 1 129) [])) ∷ (Read (path (name 6 1 132) [])) ∷ [])
      (at 1 120))) End)))
      ∷ [];
  decls = decl.Class 0 ∷ decl.Method 0 ∷ [];
}

one_array_for_two_fields-refused : FirstBroken one_array_for_two_fields rule.UsedTwice (at 1 132)
one_array_for_two_fields-refused = refl

-- A unique field is taken out of a member of a protected group.
abbrev pub taken_from_a_protected_member : Code
taken_from_a_protected_member = record {
  names = codes "io" ∷ codes "main" ∷ codes "this" ∷ codes "N" ∷ codes "n" ∷ codes "f" ∷ codes "g" ∷ codes "x"
      ∷ codes "y" ∷ [];
  classes =
      class_with (name 3 1 7) [] (field (ty.Object (perm_at.Unique (at 1 11)) (kind_at.Class (name 3 1 18) []))
      (name 4 1 20) ∷ []) []
      ∷ [];
  methods =
      (top_method None (name 5 1 37) ((name 6 1 39) ∷ []) (param
      (ty.Object (perm_at.Shared (at 1 42) (name 6 1 49)) (kind_at.Class (name 3 1 52) [])) (name 7 1 54) ∷ [])
      (need need_of.Protected (name 6 1 72) ∷ [])
      (Next (at 1 76) (Declares (ty.Object (perm_at.Unique (at 1 80)) (kind_at.Class (name 3 1 87) [])) (name 8 1 89)
      (Taken (path (name 7 1 98) ((name 4 1 100) ∷ [])) (at 1 93))) End))
      ∷ (top_method None (name 1 1 117) [] [] []
      End)
      ∷ [];
  decls = decl.Class 0 ∷ decl.Method 0 ∷ decl.Method 1 ∷ [];
}

taken_from_a_protected_member-accepted : Accepts taken_from_a_protected_member
taken_from_a_protected_member-accepted = refl

-- A number for a field may read what moves.
abbrev pub length_beside_the_moved_array : Code
length_beside_the_moved_array = record {
  names = codes "io" ∷ codes "main" ∷ codes "this" ∷ codes "P" ∷ codes "a" ∷ codes "n" ∷ codes "x" ∷ codes "p"
      ∷ [];
  classes =
      class_with (name 3 1 7) [] (field (ty.Object (perm_at.Unique (at 1 11)) (kind_at.Ints (at 1 18))) (name 4 1 23)
      ∷ field (ty.Int (at 1 26)) (name 5 1 30) ∷ []) []
      ∷ [];
  methods =
      (top_method None (name 1 1 47) [] [] []
      (Next (at 1 56) (Declares (ty.Object (perm_at.Unique (at 1 60)) (kind_at.Ints (at 1 67))) (name 6 1 72)
      (Zeros (Number (pos 1) (at 1 85)) (at 1 76)))
      (Next (at 1 89) (Declares (ty.Object (perm_at.Unique (at 1 93)) (kind_at.Class (name 3 1 100) [])) (name 7 1 102)
      (Made (name 3 1 110) [] ((Read (path (name 6 1 112) [])) ∷ (Length (path (name 6 1 119) []) (at 1 115)) ∷ [])
      (at 1 106))) End)))
      ∷ [];
  decls = decl.Class 0 ∷ decl.Method 0 ∷ [];
}

length_beside_the_moved_array-accepted : Accepts length_beside_the_moved_array
length_beside_the_moved_array-accepted = refl
