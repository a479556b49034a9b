-- What goes into a form: the rows of the page on the language. Made by `tests/worked`.
use Rattle.std.specs.Prelude.{refl, [], ◌∷◌, codes, None, Some}
use Rattle.ae_text.specs.declared.refusal.Rule.TheVariants as rule
use Rattle.ae_tree.specs.declared.tree.PermAt.TheVariants as perm_at
use Rattle.ae_tree.specs.declared.tree.KindAt.TheVariants as kind_at
use Rattle.ae_tree.specs.declared.tree.Ty.TheVariants as ty
use Rattle.ae_tree.specs.declared.tree.Decl.TheVariants as decl
use Rattle.ae_tree.specs.Plain.{Code, Nothing, Read}
use Rattle.ae_tree.specs.Plain.{Value, Made, Returned, End, Next}
use Rattle.ae_tree.specs.Plain.{Declares}
use Rattle.ae_tree.specs.Plain.{Returns}
use Rattle.ae_rules.specs.Judges.{FirstBroken}
use Rattle.ae_worked.proofs.ProgramWords.{at, name, path, call, field, class_with, param}
use Rattle.ae_worked.proofs.ProgramWords.{top_method}

-- An object of another class.
abbrev pub object_of_another_class : Code
object_of_another_class = record {
  names = codes "io" ∷ codes "main" ∷ codes "this" ∷ codes "C" ∷ codes "D" ∷ codes "x" ∷ codes "y" ∷ [];
  classes =
      class_with (name 3 1 7) [] [] []
      ∷ class_with (name 4 1 19) [] [] []
      ∷ [];
  methods =
      (top_method None (name 1 1 37) [] [] []
      (Next (at 1 46) (Declares (ty.Object (perm_at.Unique (at 1 50)) (kind_at.Class (name 3 1 57) [])) (name 5 1 59)
      (Value (Nothing (at 1 63))))
      (Next (at 1 69) (Declares (ty.Object (perm_at.Unique (at 1 73)) (kind_at.Class (name 4 1 80) [])) (name 6 1 82)
      (Value (Read (path (name 5 1 86) [])))) End)))
      ∷ [];
  decls = decl.Class 0 ∷ decl.Class 1 ∷ decl.Method 0 ∷ [];
}

object_of_another_class-refused : FirstBroken object_of_another_class rule.TypeMismatch (at 1 86)
object_of_another_class-refused = refl

-- Nothing is held there.
abbrev pub moved_name_moved_again : Code
moved_name_moved_again = record {
  names = codes "io" ∷ codes "main" ∷ codes "this" ∷ codes "C" ∷ codes "x" ∷ codes "y" ∷ codes "z" ∷ [];
  classes =
      class_with (name 3 1 7) [] [] []
      ∷ [];
  methods =
      (top_method None (name 1 1 25) [] [] []
      (Next (at 1 34) (Declares (ty.Object (perm_at.Unique (at 1 38)) (kind_at.Class (name 3 1 45) [])) (name 4 1 47)
      (Value (Nothing (at 1 51))))
      (Next (at 1 57) (Declares (ty.Object (perm_at.Unique (at 1 61)) (kind_at.Class (name 3 1 68) [])) (name 5 1 70)
      (Value (Read (path (name 4 1 74) []))))
      (Next (at 1 77) (Declares (ty.Object (perm_at.Unique (at 1 81)) (kind_at.Class (name 3 1 88) [])) (name 6 1 90)
      (Value (Read (path (name 4 1 94) [])))) End))))
      ∷ [];
  decls = decl.Class 0 ∷ decl.Method 0 ∷ [];
}

moved_name_moved_again-refused : FirstBroken moved_name_moved_again rule.NoPermission (at 1 94)
moved_name_moved_again-refused = refl

-- What is held Lent is not kept.
abbrev pub lent_object_kept : Code
lent_object_kept = record {
  names = codes "io" ∷ codes "main" ∷ codes "this" ∷ codes "C" ∷ codes "f" ∷ codes "c" ∷ codes "x" ∷ [];
  classes =
      class_with (name 3 1 7) [] [] []
      ∷ [];
  methods =
      (top_method None (name 4 1 25) [] (param (ty.Object (perm_at.Lent (at 1 27)) (kind_at.Class (name 3 1 32) []))
      (name 5 1 34) ∷ []) []
      (Next (at 1 39) (Declares (ty.Object (perm_at.Immutable (at 1 43)) (kind_at.Class (name 3 1 53) [])) (name 6 1 55)
      (Value (Read (path (name 5 1 59) [])))) End))
      ∷ (top_method None (name 1 1 76) [] [] []
      End)
      ∷ [];
  decls = decl.Class 0 ∷ decl.Method 0 ∷ decl.Method 1 ∷ [];
}

lent_object_kept-refused : FirstBroken lent_object_kept rule.LentEscapes (at 1 59)
lent_object_kept-refused = refl

-- What is not held Unique does not go into a unique form.
abbrev pub immutable_into_unique : Code
immutable_into_unique = record {
  names = codes "io" ∷ codes "main" ∷ codes "this" ∷ codes "C" ∷ codes "f" ∷ codes "c" ∷ codes "x" ∷ [];
  classes =
      class_with (name 3 1 7) [] [] []
      ∷ [];
  methods =
      (top_method None (name 4 1 25) [] (param (ty.Object (perm_at.Immutable (at 1 27))
      (kind_at.Class (name 3 1 37) [])) (name 5 1 39) ∷ []) []
      (Next (at 1 44) (Declares (ty.Object (perm_at.Unique (at 1 48)) (kind_at.Class (name 3 1 55) [])) (name 6 1 57)
      (Value (Read (path (name 5 1 61) [])))) End))
      ∷ (top_method None (name 1 1 78) [] [] []
      End)
      ∷ [];
  decls = decl.Class 0 ∷ decl.Method 0 ∷ decl.Method 1 ∷ [];
}

immutable_into_unique-refused : FirstBroken immutable_into_unique rule.NeedsUnique (at 1 61)
immutable_into_unique-refused = refl

-- A part of an object does not move.
abbrev pub part_into_unique : Code
part_into_unique = record {
  names = codes "io" ∷ codes "main" ∷ codes "this" ∷ codes "C" ∷ codes "c" ∷ codes "x" ∷ codes "y" ∷ [];
  classes =
      class_with (name 3 1 7) [] (field (ty.Object (perm_at.Unique (at 1 11)) (kind_at.Class (name 3 1 18) []))
      (name 4 1 20) ∷ []) []
      ∷ [];
  methods =
      (top_method None (name 1 1 37) [] [] []
      (Next (at 1 46) (Declares (ty.Object (perm_at.Unique (at 1 50)) (kind_at.Class (name 3 1 57) [])) (name 5 1 59)
      (Made (name 3 1 67) [] ((Nothing (at 1 69)) ∷ []) (at 1 63)))
      (Next (at 1 76) (Declares (ty.Object (perm_at.Unique (at 1 80)) (kind_at.Class (name 3 1 87) [])) (name 6 1 89)
      (Value (Read (path (name 5 1 93) ((name 4 1 95) ∷ []))))) End)))
      ∷ [];
  decls = decl.Class 0 ∷ decl.Method 0 ∷ [];
}

part_into_unique-refused : FirstBroken part_into_unique rule.NeedsUnique (at 1 93)
part_into_unique-refused = refl

-- What is held Unique is not immutable by its let.
abbrev pub unique_into_immutable : Code
unique_into_immutable = record {
  names = codes "io" ∷ codes "main" ∷ codes "this" ∷ codes "C" ∷ codes "x" ∷ codes "y" ∷ [];
  classes =
      class_with (name 3 1 7) [] [] []
      ∷ [];
  methods =
      (top_method None (name 1 1 25) [] [] []
      (Next (at 1 34) (Declares (ty.Object (perm_at.Unique (at 1 38)) (kind_at.Class (name 3 1 45) [])) (name 4 1 47)
      (Made (name 3 1 55) [] [] (at 1 51)))
      (Next (at 1 60) (Declares (ty.Object (perm_at.Immutable (at 1 64)) (kind_at.Class (name 3 1 74) [])) (name 5 1 76)
      (Value (Read (path (name 4 1 80) [])))) End)))
      ∷ [];
  decls = decl.Class 0 ∷ decl.Method 0 ∷ [];
}

unique_into_immutable-refused : FirstBroken unique_into_immutable rule.NoPermission (at 1 80)
unique_into_immutable-refused = refl

-- A member of another group.
abbrev pub member_into_another_group : Code
member_into_another_group = record {
  names = codes "io" ∷ codes "main" ∷ codes "this" ∷ codes "C" ∷ codes "f" ∷ codes "g" ∷ codes "h" ∷ codes "c"
      ∷ codes "x" ∷ [];
  classes =
      class_with (name 3 1 7) [] [] []
      ∷ [];
  methods =
      (top_method None (name 4 1 25) ((name 5 1 27) ∷ (name 6 1 30) ∷ [])
      (param (ty.Object (perm_at.Shared (at 1 33) (name 5 1 40)) (kind_at.Class (name 3 1 43) [])) (name 7 1 45)
      ∷ []) []
      (Next (at 1 50) (Declares (ty.Object (perm_at.Shared (at 1 54) (name 6 1 61)) (kind_at.Class (name 3 1 64) []))
      (name 8 1 66) (Value (Read (path (name 7 1 70) [])))) End))
      ∷ (top_method None (name 1 1 87) [] [] []
      End)
      ∷ [];
  decls = decl.Class 0 ∷ decl.Method 0 ∷ decl.Method 1 ∷ [];
}

member_into_another_group-refused : FirstBroken member_into_another_group rule.TypeMismatch (at 1 70)
member_into_another_group-refused = refl

-- A new object is no array.
abbrev pub new_object_as_integers : Code
new_object_as_integers = record {
  names = codes "io" ∷ codes "main" ∷ codes "this" ∷ codes "C" ∷ codes "a" ∷ [];
  classes =
      class_with (name 3 1 7) [] [] []
      ∷ [];
  methods =
      (top_method None (name 1 1 25) [] [] []
      (Next (at 1 34) (Declares (ty.Object (perm_at.Unique (at 1 38)) (kind_at.Ints (at 1 45))) (name 4 1 50)
      (Made (name 3 1 58) [] [] (at 1 54))) End))
      ∷ [];
  decls = decl.Class 0 ∷ decl.Method 0 ∷ [];
}

new_object_as_integers-refused : FirstBroken new_object_as_integers rule.TypeMismatch (at 1 54)
new_object_as_integers-refused = refl

-- A result that is not unique does not go into a unique form.
abbrev pub immutable_result_into_unique : Code
immutable_result_into_unique = record {
  names = codes "io" ∷ codes "main" ∷ codes "this" ∷ codes "C" ∷ codes "f" ∷ codes "c" ∷ codes "m" ∷ codes "x"
      ∷ [];
  classes =
      class_with (name 3 1 7) [] [] []
      ∷ [];
  methods =
      (top_method (Some (ty.Object (perm_at.Immutable (at 1 20)) (kind_at.Class (name 3 1 30) []))) (name 4 1 32) []
      (param (ty.Object (perm_at.Immutable (at 1 34)) (kind_at.Class (name 3 1 44) [])) (name 5 1 46) ∷ []) []
      (Next (at 1 51) (Returns (Read (path (name 5 1 58) []))) End))
      ∷ (top_method None (name 6 1 75) [] (param (ty.Object (perm_at.Immutable (at 1 77))
      (kind_at.Class (name 3 1 87) [])) (name 5 1 89) ∷ []) []
      (Next (at 1 94) (Declares (ty.Object (perm_at.Unique (at 1 98)) (kind_at.Class (name 3 1 105) [])) (name 7 1 107)
      (Returned (call (name 4 1 111) [] ((Read (path (name 5 1 113) [])) ∷ [])))) End))
      ∷ (top_method None (name 1 1 131) [] [] []
      End)
      ∷ [];
  decls = decl.Class 0 ∷ decl.Method 0 ∷ decl.Method 1 ∷ decl.Method 2 ∷ [];
}

immutable_result_into_unique-refused : FirstBroken immutable_result_into_unique rule.NeedsUnique (at 1 111)
immutable_result_into_unique-refused = refl

-- A new object is not immutable by its let.
abbrev pub new_object_into_immutable : Code
new_object_into_immutable = record {
  names = codes "io" ∷ codes "main" ∷ codes "this" ∷ codes "C" ∷ codes "x" ∷ [];
  classes =
      class_with (name 3 1 7) [] [] []
      ∷ [];
  methods =
      (top_method None (name 1 1 25) [] [] []
      (Next (at 1 34) (Declares (ty.Object (perm_at.Immutable (at 1 38)) (kind_at.Class (name 3 1 48) [])) (name 4 1 50)
      (Made (name 3 1 58) [] [] (at 1 54))) End))
      ∷ [];
  decls = decl.Class 0 ∷ decl.Method 0 ∷ [];
}

new_object_into_immutable-refused : FirstBroken new_object_into_immutable rule.NoPermission (at 1 54)
new_object_into_immutable-refused = refl
