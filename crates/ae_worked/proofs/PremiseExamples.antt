-- A program for each premise that no other worked program needs. Made by `tests/worked`.
use Rattle.std.specs.Prelude.{refl, pos, true, [], ◌∷◌, codes, None, Some}
use Rattle.ae_text.specs.declared.refusal.Rule.TheVariants as rule
use Rattle.ae_tree.specs.declared.tree.PermAt.TheVariants as perm_at
use Rattle.ae_tree.specs.declared.tree.KindAt.TheVariants as kind_at
use Rattle.ae_tree.specs.declared.tree.Ty.TheVariants as ty
use Rattle.ae_tree.specs.declared.tree.Op.TheVariants as op
use Rattle.ae_tree.specs.declared.tree.Decl.TheVariants as decl
use Rattle.ae_tree.specs.Plain.{Code, Number, Truth, Nothing, Read, Item, Binary}
use Rattle.ae_tree.specs.Plain.{Value, Returned, End, Next}
use Rattle.ae_tree.specs.Plain.{Declares, Calls, ChoosesElse, Groups, Locks}
use Rattle.ae_tree.specs.Plain.{Asserts, Returns}
use Rattle.ae_rules.specs.Judges.{FirstBroken}
use Rattle.ae_worked.proofs.ProgramWords.{at, name, path, call, field, class_with, param, given_away}
use Rattle.ae_worked.proofs.ProgramWords.{top_method}

-- Only an array has an index.
abbrev pub index_of_an_object : Code
index_of_an_object = record {
  names = codes "io" ∷ codes "main" ∷ codes "this" ∷ codes "C" ∷ codes "D" ∷ codes "Box" ∷ codes "v" ∷ codes "im"
      ∷ codes "f" ∷ codes "c" ∷ codes "a" ∷ [];
  classes =
      class_with (name 3 1 7) [] [] []
      ∷ class_with (name 4 1 19) [] [] []
      ∷ class_with (name 5 1 31) [] (field (ty.Int (at 1 37)) (name 6 1 41)
      ∷ field (ty.Object (perm_at.Immutable (at 1 44)) (kind_at.Ints (at 1 54))) (name 7 1 59) ∷ []) []
      ∷ [];
  methods =
      (top_method None (name 8 1 77) [] (param (ty.Object (perm_at.Lent (at 1 79)) (kind_at.Class (name 3 1 84) []))
      (name 9 1 86) ∷ []) []
      (Next (at 1 91) (Declares (ty.Int (at 1 95)) (name 10 1 99)
      (Value (Item (path (name 9 1 103) []) (Number (pos 0) (at 1 105))))) End))
      ∷ (top_method None (name 1 1 123) [] [] []
      End)
      ∷ [];
  decls = decl.Class 0 ∷ decl.Class 1 ∷ decl.Class 2 ∷ decl.Method 0 ∷ decl.Method 1 ∷ [];
}

index_of_an_object-refused : FirstBroken index_of_an_object rule.TypeMismatch (at 1 103)
index_of_an_object-refused = refl

-- A path to a number beside null: the null is misplaced.
abbrev pub number_parameter_beside_null : Code
number_parameter_beside_null = record {
  names = codes "io" ∷ codes "main" ∷ codes "this" ∷ codes "f" ∷ codes "n" ∷ [];
  classes = [];
  methods =
      (top_method None (name 3 1 13) [] (param (ty.Int (at 1 15)) (name 4 1 19) ∷ []) []
      (Next (at 1 24) (Asserts (Binary op.Eq (Read (path (name 4 1 31) [])) (Nothing (at 1 36)))) End))
      ∷ (top_method None (name 1 1 56) [] [] []
      End)
      ∷ [];
  decls = decl.Method 0 ∷ decl.Method 1 ∷ [];
}

number_parameter_beside_null-refused : FirstBroken number_parameter_beside_null rule.TypeMismatch (at 1 36)
number_parameter_beside_null-refused = refl

-- What is held Unique is no member of a group by its let.
abbrev pub unique_object_into_shared : Code
unique_object_into_shared = record {
  names = codes "io" ∷ codes "main" ∷ codes "this" ∷ codes "C" ∷ codes "D" ∷ codes "Box" ∷ codes "v" ∷ codes "im"
      ∷ codes "g" ∷ codes "x" ∷ codes "y" ∷ [];
  classes =
      class_with (name 3 1 7) [] [] []
      ∷ class_with (name 4 1 19) [] [] []
      ∷ class_with (name 5 1 31) [] (field (ty.Int (at 1 37)) (name 6 1 41)
      ∷ field (ty.Object (perm_at.Immutable (at 1 44)) (kind_at.Ints (at 1 54))) (name 7 1 59) ∷ []) []
      ∷ [];
  methods =
      (top_method None (name 1 1 77) [] [] []
      (Next (at 1 86) (Groups (name 8 1 92))
      (Next (at 1 95) (Declares (ty.Object (perm_at.Unique (at 1 99)) (kind_at.Class (name 3 1 106) [])) (name 9 1 108)
      (Value (Nothing (at 1 112))))
      (Next (at 1 118) (Declares (ty.Object (perm_at.Shared (at 1 122) (name 8 1 129))
      (kind_at.Class (name 3 1 132) [])) (name 10 1 134) (Value (Read (path (name 9 1 138) [])))) End))))
      ∷ [];
  decls = decl.Class 0 ∷ decl.Class 1 ∷ decl.Class 2 ∷ decl.Method 0 ∷ [];
}

unique_object_into_shared-refused : FirstBroken unique_object_into_shared rule.NoPermission (at 1 138)
unique_object_into_shared-refused = refl

-- A result of another form.
abbrev pub number_result_as_a_truth : Code
number_result_as_a_truth = record {
  names = codes "io" ∷ codes "main" ∷ codes "this" ∷ codes "f" ∷ codes "b" ∷ [];
  classes = [];
  methods =
      (top_method (Some (ty.Int (at 1 8))) (name 3 1 12) [] [] []
      (Next (at 1 18) (Returns (Number (pos 1) (at 1 25))) End))
      ∷ (top_method None (name 1 1 42) [] [] []
      (Next (at 1 51) (Declares (ty.Bool (at 1 55)) (name 4 1 60) (Returned (call (name 3 1 64) [] []))) End))
      ∷ [];
  decls = decl.Method 0 ∷ decl.Method 1 ∷ [];
}

number_result_as_a_truth-refused : FirstBroken number_result_as_a_truth rule.TypeMismatch (at 1 64)
number_result_as_a_truth-refused = refl

-- An argument of another class.
abbrev pub argument_of_another_class : Code
argument_of_another_class = record {
  names = codes "io" ∷ codes "main" ∷ codes "this" ∷ codes "C" ∷ codes "D" ∷ codes "Box" ∷ codes "v" ∷ codes "im"
      ∷ codes "f" ∷ codes "c" ∷ codes "m" ∷ codes "d" ∷ [];
  classes =
      class_with (name 3 1 7) [] [] []
      ∷ class_with (name 4 1 19) [] [] []
      ∷ class_with (name 5 1 31) [] (field (ty.Int (at 1 37)) (name 6 1 41)
      ∷ field (ty.Object (perm_at.Immutable (at 1 44)) (kind_at.Ints (at 1 54))) (name 7 1 59) ∷ []) []
      ∷ [];
  methods =
      (top_method None (name 8 1 77) [] (param (ty.Object (perm_at.Lent (at 1 79)) (kind_at.Class (name 3 1 84) []))
      (name 9 1 86) ∷ []) []
      End)
      ∷ (top_method None (name 10 1 105) [] (param (ty.Object (perm_at.Lent (at 1 107))
      (kind_at.Class (name 4 1 112) [])) (name 11 1 114) ∷ []) []
      (Next (at 1 119) (Calls (call (name 8 1 119) [] ((Read (path (name 11 1 121) [])) ∷ []))) End))
      ∷ (top_method None (name 1 1 139) [] [] []
      End)
      ∷ [];
  decls = decl.Class 0 ∷ decl.Class 1 ∷ decl.Class 2 ∷ decl.Method 0 ∷ decl.Method 1 ∷ decl.Method 2 ∷ [];
}

argument_of_another_class-refused : FirstBroken argument_of_another_class rule.TypeMismatch (at 1 121)
argument_of_another_class-refused = refl

-- The branches hold different things, with an else too.
abbrev pub moved_in_one_of_two_branches : Code
moved_in_one_of_two_branches = record {
  names = codes "io" ∷ codes "main" ∷ codes "this" ∷ codes "C" ∷ codes "D" ∷ codes "Box" ∷ codes "v" ∷ codes "im"
      ∷ codes "m" ∷ codes "c" ∷ codes "x" ∷ [];
  classes =
      class_with (name 3 1 7) [] [] []
      ∷ class_with (name 4 1 19) [] [] []
      ∷ class_with (name 5 1 31) [] (field (ty.Int (at 1 37)) (name 6 1 41)
      ∷ field (ty.Object (perm_at.Immutable (at 1 44)) (kind_at.Ints (at 1 54))) (name 7 1 59) ∷ []) []
      ∷ [];
  methods =
      (top_method None (name 8 1 77) [] (given_away (ty.Object (perm_at.Unique (at 1 79))
      (kind_at.Class (name 3 1 86) [])) (name 9 1 88) (at 1 90) ∷ []) []
      (Next (at 1 101) (ChoosesElse (Truth true (at 1 104)) 1
      (Next (at 1 111) (Declares (ty.Object (perm_at.Unique (at 1 115)) (kind_at.Class (name 3 1 122) []))
      (name 10 1 124) (Value (Read (path (name 9 1 128) [])))) End) 2
      End) End))
      ∷ (top_method None (name 1 1 156) [] [] []
      End)
      ∷ [];
  decls = decl.Class 0 ∷ decl.Class 1 ∷ decl.Class 2 ∷ decl.Method 0 ∷ decl.Method 1 ∷ [];
}

moved_in_one_of_two_branches-refused : FirstBroken moved_in_one_of_two_branches rule.BranchesDiffer (at 1 101)
moved_in_one_of_two_branches-refused = refl

-- The group of an atomic block is not known.
abbrev pub atomic_of_an_unknown_group : Code
atomic_of_an_unknown_group = record {
  names = codes "io" ∷ codes "main" ∷ codes "this" ∷ codes "g" ∷ [];
  classes = [];
  methods =
      (top_method None (name 1 1 13) [] [] []
      (Next (at 1 22) (Locks (name 3 1 29) 1
      End) End))
      ∷ [];
  decls = decl.Method 0 ∷ [];
}

atomic_of_an_unknown_group-refused : FirstBroken atomic_of_an_unknown_group rule.UnknownGroup (at 1 29)
atomic_of_an_unknown_group-refused = refl
