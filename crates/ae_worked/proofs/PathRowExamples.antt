-- Paths: the rows of the page on the language. Made by `tests/worked`.
use Rattle.std.specs.Prelude.{refl, pos, [], ◌∷◌, codes, None}
use Rattle.ae_text.specs.declared.refusal.Rule.TheVariants as rule
use Rattle.ae_tree.specs.declared.tree.PermAt.TheVariants as perm_at
use Rattle.ae_tree.specs.declared.tree.KindAt.TheVariants as kind_at
use Rattle.ae_tree.specs.declared.tree.Ty.TheVariants as ty
use Rattle.ae_tree.specs.declared.tree.Op.TheVariants as op
use Rattle.ae_tree.specs.declared.tree.Need.TheVariants as need_of
use Rattle.ae_tree.specs.declared.tree.Decl.TheVariants as decl
use Rattle.ae_tree.specs.Plain.{Code, Number, Read, Binary}
use Rattle.ae_tree.specs.Plain.{Value, Made, End, Next}
use Rattle.ae_tree.specs.Plain.{Declares, Stores}
use Rattle.ae_rules.specs.Judges.{Accepts, FirstBroken}
use Rattle.ae_worked.proofs.ProgramWords.{at, name, path, field, class_with, param}
use Rattle.ae_worked.proofs.ProgramWords.{need, top_method}

-- The root of a path is not visible.
abbrev pub root_not_visible : Code
root_not_visible = record {
  names = codes "io" ∷ codes "main" ∷ codes "this" ∷ codes "a" ∷ codes "b" ∷ [];
  classes = [];
  methods =
      (top_method None (name 1 1 13) [] [] []
      (Next (at 1 22) (Declares (ty.Int (at 1 26)) (name 3 1 30) (Value (Read (path (name 4 1 34) [])))) End))
      ∷ [];
  decls = decl.Method 0 ∷ [];
}

root_not_visible-refused : FirstBroken root_not_visible rule.UnknownName (at 1 34)
root_not_visible-refused = refl

-- The object has no such field.
abbrev pub no_such_field : Code
no_such_field = record {
  names = codes "io" ∷ codes "main" ∷ codes "this" ∷ codes "Box" ∷ codes "v" ∷ codes "f" ∷ codes "b" ∷ codes "a"
      ∷ codes "w" ∷ [];
  classes =
      class_with (name 3 1 7) [] (field (ty.Int (at 1 13)) (name 4 1 17) ∷ []) []
      ∷ [];
  methods =
      (top_method None (name 5 1 34) [] (param (ty.Object (perm_at.Lent (at 1 36)) (kind_at.Class (name 3 1 41) []))
      (name 6 1 45) ∷ []) []
      (Next (at 1 50) (Declares (ty.Int (at 1 54)) (name 7 1 58)
      (Value (Read (path (name 6 1 62) ((name 8 1 64) ∷ []))))) End))
      ∷ (top_method None (name 1 1 81) [] [] []
      End)
      ∷ [];
  decls = decl.Class 0 ∷ decl.Method 0 ∷ decl.Method 1 ∷ [];
}

no_such_field-refused : FirstBroken no_such_field rule.UnknownField (at 1 64)
no_such_field-refused = refl

-- A number has no fields.
abbrev pub field_of_a_number : Code
field_of_a_number = record {
  names = codes "io" ∷ codes "main" ∷ codes "this" ∷ codes "f" ∷ codes "n" ∷ codes "a" ∷ codes "v" ∷ [];
  classes = [];
  methods =
      (top_method None (name 3 1 13) [] (param (ty.Int (at 1 15)) (name 4 1 19) ∷ []) []
      (Next (at 1 24) (Declares (ty.Int (at 1 28)) (name 5 1 32)
      (Value (Read (path (name 4 1 36) ((name 6 1 38) ∷ []))))) End))
      ∷ (top_method None (name 1 1 55) [] [] []
      End)
      ∷ [];
  decls = decl.Method 0 ∷ decl.Method 1 ∷ [];
}

field_of_a_number-refused : FirstBroken field_of_a_number rule.UnknownField (at 1 38)
field_of_a_number-refused = refl

-- Nothing is held at the root.
abbrev pub path_from_a_moved_name : Code
path_from_a_moved_name = record {
  names = codes "io" ∷ codes "main" ∷ codes "this" ∷ codes "Box" ∷ codes "v" ∷ codes "x" ∷ codes "y" ∷ codes "a"
      ∷ [];
  classes =
      class_with (name 3 1 7) [] (field (ty.Int (at 1 13)) (name 4 1 17) ∷ []) []
      ∷ [];
  methods =
      (top_method None (name 1 1 34) [] [] []
      (Next (at 1 43) (Declares (ty.Object (perm_at.Unique (at 1 47)) (kind_at.Class (name 3 1 54) [])) (name 5 1 58)
      (Made (name 3 1 66) [] ((Number (pos 1) (at 1 70)) ∷ []) (at 1 62)))
      (Next (at 1 74) (Declares (ty.Object (perm_at.Unique (at 1 78)) (kind_at.Class (name 3 1 85) [])) (name 6 1 89)
      (Value (Read (path (name 5 1 93) []))))
      (Next (at 1 96) (Declares (ty.Int (at 1 100)) (name 7 1 104)
      (Value (Read (path (name 5 1 108) ((name 4 1 110) ∷ []))))) End))))
      ∷ [];
  decls = decl.Class 0 ∷ decl.Method 0 ∷ [];
}

path_from_a_moved_name-refused : FirstBroken path_from_a_moved_name rule.NoPermission (at 1 108)
path_from_a_moved_name-refused = refl

-- The group of a member is neither exclusive nor protected.
abbrev pub member_read_in_a_shared_group : Code
member_read_in_a_shared_group = record {
  names = codes "io" ∷ codes "main" ∷ codes "this" ∷ codes "Box" ∷ codes "v" ∷ codes "f" ∷ codes "g" ∷ codes "b"
      ∷ codes "a" ∷ [];
  classes =
      class_with (name 3 1 7) [] (field (ty.Int (at 1 13)) (name 4 1 17) ∷ []) []
      ∷ [];
  methods =
      (top_method None (name 5 1 34) ((name 6 1 36) ∷ []) (param
      (ty.Object (perm_at.Shared (at 1 39) (name 6 1 46)) (kind_at.Class (name 3 1 49) [])) (name 7 1 53) ∷ [])
      (need need_of.Shared (name 6 1 68) ∷ [])
      (Next (at 1 72) (Declares (ty.Int (at 1 76)) (name 8 1 80)
      (Value (Read (path (name 7 1 84) ((name 4 1 86) ∷ []))))) End))
      ∷ (top_method None (name 1 1 103) [] [] []
      End)
      ∷ [];
  decls = decl.Class 0 ∷ decl.Method 0 ∷ decl.Method 1 ∷ [];
}

member_read_in_a_shared_group-refused : FirstBroken member_read_in_a_shared_group rule.NeedsGroup (at 1 84)
member_read_in_a_shared_group-refused = refl

-- What is held Lent is not written.
abbrev pub lent_object_written : Code
lent_object_written = record {
  names = codes "io" ∷ codes "main" ∷ codes "this" ∷ codes "Box" ∷ codes "v" ∷ codes "f" ∷ codes "b" ∷ [];
  classes =
      class_with (name 3 1 7) [] (field (ty.Int (at 1 13)) (name 4 1 17) ∷ []) []
      ∷ [];
  methods =
      (top_method None (name 5 1 34) [] (param (ty.Object (perm_at.Lent (at 1 36)) (kind_at.Class (name 3 1 41) []))
      (name 6 1 45) ∷ []) []
      (Next (at 1 50) (Stores (path (name 6 1 50) ((name 4 1 52) ∷ [])) (Number (pos 1) (at 1 56))) End))
      ∷ (top_method None (name 1 1 73) [] [] []
      End)
      ∷ [];
  decls = decl.Class 0 ∷ decl.Method 0 ∷ decl.Method 1 ∷ [];
}

lent_object_written-refused : FirstBroken lent_object_written rule.NeedsUnique (at 1 50)
lent_object_written-refused = refl

-- A member of a protected group is written.
abbrev pub member_written_in_a_protected_group : Code
member_written_in_a_protected_group = record {
  names = codes "io" ∷ codes "main" ∷ codes "this" ∷ codes "Box" ∷ codes "v" ∷ codes "f" ∷ codes "g" ∷ codes "b"
      ∷ [];
  classes =
      class_with (name 3 1 7) [] (field (ty.Int (at 1 13)) (name 4 1 17) ∷ []) []
      ∷ [];
  methods =
      (top_method None (name 5 1 34) ((name 6 1 36) ∷ []) (param
      (ty.Object (perm_at.Shared (at 1 39) (name 6 1 46)) (kind_at.Class (name 3 1 49) [])) (name 7 1 53) ∷ [])
      (need need_of.Protected (name 6 1 71) ∷ [])
      (Next (at 1 75) (Stores (path (name 7 1 75) ((name 4 1 77) ∷ []))
      (Binary op.Add (Read (path (name 7 1 81) ((name 4 1 83) ∷ []))) (Number (pos 1) (at 1 87)))) End))
      ∷ (top_method None (name 1 1 104) [] [] []
      End)
      ∷ [];
  decls = decl.Class 0 ∷ decl.Method 0 ∷ decl.Method 1 ∷ [];
}

member_written_in_a_protected_group-accepted : Accepts member_written_in_a_protected_group
member_written_in_a_protected_group-accepted = refl
