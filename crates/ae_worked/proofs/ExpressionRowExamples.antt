-- Expressions: the rows of the page on the language. Made by `tests/worked`.
use Rattle.std.specs.Prelude.{refl, pos, true, [], ◌∷◌, codes, None}
use Rattle.ae_text.specs.declared.refusal.Rule.TheVariants as rule
use Rattle.ae_tree.specs.declared.tree.PermAt.TheVariants as perm_at
use Rattle.ae_tree.specs.declared.tree.KindAt.TheVariants as kind_at
use Rattle.ae_tree.specs.declared.tree.Ty.TheVariants as ty
use Rattle.ae_tree.specs.declared.tree.Op.TheVariants as op
use Rattle.ae_tree.specs.declared.tree.Need.TheVariants as need_of
use Rattle.ae_tree.specs.declared.tree.Decl.TheVariants as decl
use Rattle.ae_tree.specs.Plain.{Code, Number, Truth, Nothing, Read, Length, Grouped, Binary}
use Rattle.ae_tree.specs.Plain.{Value, End, Next}
use Rattle.ae_tree.specs.Plain.{Declares}
use Rattle.ae_tree.specs.Plain.{Asserts}
use Rattle.ae_rules.specs.Judges.{Accepts, FirstBroken}
use Rattle.ae_worked.proofs.ProgramWords.{at, name, path, field, class_with, param}
use Rattle.ae_worked.proofs.ProgramWords.{need, top_method}

-- An operand has another form.
abbrev pub sum_with_a_truth : Code
sum_with_a_truth = record {
  names = codes "io" ∷ codes "main" ∷ codes "this" ∷ codes "a" ∷ [];
  classes = [];
  methods =
      (top_method None (name 1 1 13) [] [] []
      (Next (at 1 22) (Declares (ty.Int (at 1 26)) (name 3 1 30)
      (Value (Binary op.Add (Number (pos 1) (at 1 34)) (Truth true (at 1 38))))) End))
      ∷ [];
  decls = decl.Method 0 ∷ [];
}

sum_with_a_truth-refused : FirstBroken sum_with_a_truth rule.TypeMismatch (at 1 38)
sum_with_a_truth-refused = refl

-- A number has no length.
abbrev pub length_of_a_number : Code
length_of_a_number = record {
  names = codes "io" ∷ codes "main" ∷ codes "this" ∷ codes "f" ∷ codes "n" ∷ codes "a" ∷ [];
  classes = [];
  methods =
      (top_method None (name 3 1 13) [] (param (ty.Int (at 1 15)) (name 4 1 19) ∷ []) []
      (Next (at 1 24) (Declares (ty.Int (at 1 28)) (name 5 1 32) (Value (Length (path (name 4 1 40) []) (at 1 36))))
      End))
      ∷ (top_method None (name 1 1 57) [] [] []
      End)
      ∷ [];
  decls = decl.Method 0 ∷ decl.Method 1 ∷ [];
}

length_of_a_number-refused : FirstBroken length_of_a_number rule.TypeMismatch (at 1 40)
length_of_a_number-refused = refl

-- An object where a number is wanted.
abbrev pub object_as_a_number : Code
object_as_a_number = record {
  names = codes "io" ∷ codes "main" ∷ codes "this" ∷ codes "Box" ∷ codes "v" ∷ codes "f" ∷ codes "b" ∷ codes "a"
      ∷ [];
  classes =
      class_with (name 3 1 7) [] (field (ty.Int (at 1 13)) (name 4 1 17) ∷ []) []
      ∷ [];
  methods =
      (top_method None (name 5 1 34) [] (param (ty.Object (perm_at.Lent (at 1 36)) (kind_at.Class (name 3 1 41) []))
      (name 6 1 45) ∷ []) []
      (Next (at 1 50) (Declares (ty.Int (at 1 54)) (name 7 1 58) (Value (Read (path (name 6 1 62) [])))) End))
      ∷ (top_method None (name 1 1 79) [] [] []
      End)
      ∷ [];
  decls = decl.Class 0 ∷ decl.Method 0 ∷ decl.Method 1 ∷ [];
}

object_as_a_number-refused : FirstBroken object_as_a_number rule.TypeMismatch (at 1 62)
object_as_a_number-refused = refl

-- Two objects are not compared.
abbrev pub two_objects_compared : Code
two_objects_compared = record {
  names = codes "io" ∷ codes "main" ∷ codes "this" ∷ codes "Box" ∷ codes "v" ∷ codes "f" ∷ codes "b" ∷ [];
  classes =
      class_with (name 3 1 7) [] (field (ty.Int (at 1 13)) (name 4 1 17) ∷ []) []
      ∷ [];
  methods =
      (top_method None (name 5 1 34) [] (param (ty.Object (perm_at.Lent (at 1 36)) (kind_at.Class (name 3 1 41) []))
      (name 6 1 45) ∷ []) []
      (Next (at 1 50) (Asserts (Binary op.Eq (Read (path (name 6 1 57) [])) (Read (path (name 6 1 62) [])))) End))
      ∷ (top_method None (name 1 1 79) [] [] []
      End)
      ∷ [];
  decls = decl.Class 0 ∷ decl.Method 0 ∷ decl.Method 1 ∷ [];
}

two_objects_compared-refused : FirstBroken two_objects_compared rule.TypeMismatch (at 1 57)
two_objects_compared-refused = refl

-- A null beside what is no path to an object.
abbrev pub number_compared_with_null : Code
number_compared_with_null = record {
  names = codes "io" ∷ codes "main" ∷ codes "this" ∷ [];
  classes = [];
  methods =
      (top_method None (name 1 1 13) [] [] []
      (Next (at 1 22) (Asserts (Binary op.Eq (Number (pos 1) (at 1 29)) (Nothing (at 1 34)))) End))
      ∷ [];
  decls = decl.Method 0 ∷ [];
}

number_compared_with_null-refused : FirstBroken number_compared_with_null rule.TypeMismatch (at 1 34)
number_compared_with_null-refused = refl

-- A null on both sides.
abbrev pub null_compared_with_null : Code
null_compared_with_null = record {
  names = codes "io" ∷ codes "main" ∷ codes "this" ∷ [];
  classes = [];
  methods =
      (top_method None (name 1 1 13) [] [] []
      (Next (at 1 22) (Asserts (Binary op.Eq (Nothing (at 1 29)) (Nothing (at 1 37)))) End))
      ∷ [];
  decls = decl.Method 0 ∷ [];
}

null_compared_with_null-refused : FirstBroken null_compared_with_null rule.TypeMismatch (at 1 29)
null_compared_with_null-refused = refl

-- A null in parentheses.
abbrev pub null_in_brackets : Code
null_in_brackets = record {
  names = codes "io" ∷ codes "main" ∷ codes "this" ∷ codes "Box" ∷ codes "v" ∷ codes "f" ∷ codes "b" ∷ [];
  classes =
      class_with (name 3 1 7) [] (field (ty.Int (at 1 13)) (name 4 1 17) ∷ []) []
      ∷ [];
  methods =
      (top_method None (name 5 1 34) [] (param (ty.Object (perm_at.Lent (at 1 36)) (kind_at.Class (name 3 1 41) []))
      (name 6 1 45) ∷ []) []
      (Next (at 1 50) (Asserts (Binary op.Eq (Grouped (Nothing (at 1 58)) (at 1 57)) (Read (path (name 6 1 67) []))))
      End))
      ∷ (top_method None (name 1 1 84) [] [] []
      End)
      ∷ [];
  decls = decl.Class 0 ∷ decl.Method 0 ∷ decl.Method 1 ∷ [];
}

null_in_brackets-refused : FirstBroken null_in_brackets rule.TypeMismatch (at 1 58)
null_in_brackets-refused = refl

-- A path beside null whose root holds None.
abbrev pub moved_name_compared_with_null : Code
moved_name_compared_with_null = record {
  names = codes "io" ∷ codes "main" ∷ codes "this" ∷ codes "Box" ∷ codes "v" ∷ codes "x" ∷ codes "y" ∷ [];
  classes =
      class_with (name 3 1 7) [] (field (ty.Int (at 1 13)) (name 4 1 17) ∷ []) []
      ∷ [];
  methods =
      (top_method None (name 1 1 34) [] [] []
      (Next (at 1 43) (Declares (ty.Object (perm_at.Unique (at 1 47)) (kind_at.Class (name 3 1 54) [])) (name 5 1 58)
      (Value (Nothing (at 1 62))))
      (Next (at 1 68) (Declares (ty.Object (perm_at.Unique (at 1 72)) (kind_at.Class (name 3 1 79) [])) (name 6 1 83)
      (Value (Read (path (name 5 1 87) []))))
      (Next (at 1 90) (Asserts (Binary op.Eq (Read (path (name 5 1 97) [])) (Nothing (at 1 102)))) End))))
      ∷ [];
  decls = decl.Class 0 ∷ decl.Method 0 ∷ [];
}

moved_name_compared_with_null-refused : FirstBroken moved_name_compared_with_null rule.NoPermission (at 1 97)
moved_name_compared_with_null-refused = refl

-- A member of a shared group beside null.
abbrev pub shared_member_compared_with_null : Code
shared_member_compared_with_null = record {
  names = codes "io" ∷ codes "main" ∷ codes "this" ∷ codes "Box" ∷ codes "v" ∷ codes "f" ∷ codes "g" ∷ codes "b"
      ∷ [];
  classes =
      class_with (name 3 1 7) [] (field (ty.Int (at 1 13)) (name 4 1 17) ∷ []) []
      ∷ [];
  methods =
      (top_method None (name 5 1 34) ((name 6 1 36) ∷ []) (param
      (ty.Object (perm_at.Shared (at 1 39) (name 6 1 46)) (kind_at.Class (name 3 1 49) [])) (name 7 1 53) ∷ [])
      (need need_of.Shared (name 6 1 68) ∷ [])
      (Next (at 1 72) (Asserts (Binary op.Ne (Read (path (name 7 1 79) [])) (Nothing (at 1 84)))) End))
      ∷ (top_method None (name 1 1 104) [] [] []
      End)
      ∷ [];
  decls = decl.Class 0 ∷ decl.Method 0 ∷ decl.Method 1 ∷ [];
}

shared_member_compared_with_null-accepted : Accepts shared_member_compared_with_null
shared_member_compared_with_null-accepted = refl
