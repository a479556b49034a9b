-- Names at the top, of members, and of groups: the rows of the page on the language. Made by `tests/worked`.
use Rattle.std.specs.Prelude.{refl, [], ◌∷◌, codes, None}
use Rattle.ae_text.specs.declared.refusal.Rule.TheVariants as rule
use Rattle.ae_tree.specs.declared.tree.PermAt.TheVariants as perm_at
use Rattle.ae_tree.specs.declared.tree.KindAt.TheVariants as kind_at
use Rattle.ae_tree.specs.declared.tree.Ty.TheVariants as ty
use Rattle.ae_tree.specs.declared.tree.Need.TheVariants as need_of
use Rattle.ae_tree.specs.declared.tree.Decl.TheVariants as decl
use Rattle.ae_tree.specs.Plain.{Code}
use Rattle.ae_tree.specs.Plain.{End}
use Rattle.ae_rules.specs.Judges.{Accepts, FirstBroken}
use Rattle.ae_worked.proofs.ProgramWords.{at, name, field, class_with, param}
use Rattle.ae_worked.proofs.ProgramWords.{need, top_method, class_method}

-- A class has the name of an earlier class.
abbrev pub two_classes_of_one_name : Code
two_classes_of_one_name = record {
  names = codes "io" ∷ codes "main" ∷ codes "this" ∷ codes "C" ∷ [];
  classes =
      class_with (name 3 1 7) [] [] []
      ∷ class_with (name 3 1 19) [] [] []
      ∷ [];
  methods =
      (top_method None (name 1 1 37) [] [] []
      End)
      ∷ [];
  decls = decl.Class 0 ∷ decl.Class 1 ∷ decl.Method 0 ∷ [];
}

two_classes_of_one_name-refused : FirstBroken two_classes_of_one_name rule.DuplicateClass (at 1 19)
two_classes_of_one_name-refused = refl

-- A method at the top has the name of an earlier one.
abbrev pub two_methods_of_one_name : Code
two_methods_of_one_name = record {
  names = codes "io" ∷ codes "main" ∷ codes "this" ∷ codes "f" ∷ [];
  classes = [];
  methods =
      (top_method None (name 3 1 13) [] [] []
      End)
      ∷ (top_method None (name 3 1 33) [] [] []
      End)
      ∷ (top_method None (name 1 1 53) [] [] []
      End)
      ∷ [];
  decls = decl.Method 0 ∷ decl.Method 1 ∷ decl.Method 2 ∷ [];
}

two_methods_of_one_name-refused : FirstBroken two_methods_of_one_name rule.DuplicateMember (at 1 33)
two_methods_of_one_name-refused = refl

-- A class and a method may have one name.
abbrev pub class_and_method_of_one_name : Code
class_and_method_of_one_name = record {
  names = codes "io" ∷ codes "main" ∷ codes "this" ∷ codes "f" ∷ [];
  classes =
      class_with (name 3 1 7) [] [] []
      ∷ [];
  methods =
      (top_method None (name 3 1 25) [] [] []
      End)
      ∷ (top_method None (name 1 1 45) [] [] []
      End)
      ∷ [];
  decls = decl.Class 0 ∷ decl.Method 0 ∷ decl.Method 1 ∷ [];
}

class_and_method_of_one_name-accepted : Accepts class_and_method_of_one_name
class_and_method_of_one_name-accepted = refl

-- A member has the name of an earlier one of its class.
abbrev pub two_members_of_one_name : Code
two_members_of_one_name = record {
  names = codes "io" ∷ codes "main" ∷ codes "this" ∷ codes "C" ∷ codes "v" ∷ [];
  classes =
      class_with (name 3 1 7) [] (field (ty.Int (at 1 11)) (name 4 1 15) ∷ []) (0 ∷ [])
      ∷ [];
  methods =
      (class_method 0 (record { perm = (perm_at.Lent (at 1 32)); at = (at 1 37); away = None }) None
      (name 4 1 30) [] [] []
      End)
      ∷ (top_method None (name 1 1 61) [] [] []
      End)
      ∷ [];
  decls = decl.Class 0 ∷ decl.Method 1 ∷ [];
}

two_members_of_one_name-refused : FirstBroken two_members_of_one_name rule.DuplicateMember (at 1 30)
two_members_of_one_name-refused = refl

-- A list of groups has a name 17.
abbrev pub one_group_name_too_many : Code
one_group_name_too_many = record {
  names = codes "io" ∷ codes "main" ∷ codes "this" ∷ codes "f" ∷ codes "a" ∷ codes "b" ∷ codes "c" ∷ codes "d"
      ∷ codes "e" ∷ codes "k" ∷ codes "l" ∷ codes "m" ∷ codes "n" ∷ codes "o" ∷ codes "p" ∷ codes "q" ∷ codes "r"
      ∷ codes "s" ∷ codes "t" ∷ codes "u" ∷ codes "v" ∷ [];
  classes = [];
  methods =
      (top_method None (name 3 1 13) ((name 4 1 15) ∷ (name 5 1 18) ∷ (name 6 1 21) ∷ (name 7 1 24) ∷ (name 8 1 27)
      ∷ (name 9 1 30) ∷ (name 10 1 33) ∷ (name 11 1 36) ∷ (name 12 1 39) ∷ (name 13 1 42) ∷ (name 14 1 45)
      ∷ (name 15 1 48) ∷ (name 16 1 51) ∷ (name 17 1 54) ∷ (name 18 1 57) ∷ (name 19 1 60) ∷ (name 20 1 63) ∷ []) [] []
      End)
      ∷ (top_method None (name 1 1 84) [] [] []
      End)
      ∷ [];
  decls = decl.Method 0 ∷ decl.Method 1 ∷ [];
}

one_group_name_too_many-refused : FirstBroken one_group_name_too_many rule.TooManyGroups (at 1 63)
one_group_name_too_many-refused = refl

-- A group name stands before in its list.
abbrev pub group_name_twice : Code
group_name_twice = record {
  names = codes "io" ∷ codes "main" ∷ codes "this" ∷ codes "f" ∷ codes "a" ∷ [];
  classes = [];
  methods =
      (top_method None (name 3 1 13) ((name 4 1 15) ∷ (name 4 1 18) ∷ []) [] []
      End)
      ∷ (top_method None (name 1 1 39) [] [] []
      End)
      ∷ [];
  decls = decl.Method 0 ∷ decl.Method 1 ∷ [];
}

group_name_twice-refused : FirstBroken group_name_twice rule.GroupTwice (at 1 18)
group_name_twice-refused = refl

-- A group name of a method stands in the list of the class.
abbrev pub group_name_of_the_class : Code
group_name_of_the_class = record {
  names = codes "io" ∷ codes "main" ∷ codes "this" ∷ codes "C" ∷ codes "g" ∷ codes "f" ∷ [];
  classes =
      class_with (name 3 1 7) ((name 4 1 9) ∷ []) [] (0 ∷ [])
      ∷ [];
  methods =
      (class_method 0 (record { perm = (perm_at.Lent (at 1 31)); at = (at 1 36); away = None }) None (name 5 1 26)
      ((name 4 1 28) ∷ []) [] []
      End)
      ∷ (top_method None (name 1 1 60) [] [] []
      End)
      ∷ [];
  decls = decl.Class 0 ∷ decl.Method 1 ∷ [];
}

group_name_of_the_class-refused : FirstBroken group_name_of_the_class rule.GroupTwice (at 1 28)
group_name_of_the_class-refused = refl

-- No group is declared as io.
abbrev pub group_name_io : Code
group_name_io = record {
  names = codes "io" ∷ codes "main" ∷ codes "this" ∷ codes "C" ∷ [];
  classes =
      class_with (name 3 1 7) ((name 0 1 9) ∷ []) [] []
      ∷ [];
  methods =
      (top_method None (name 1 1 29) [] [] []
      End)
      ∷ [];
  decls = decl.Class 0 ∷ decl.Method 0 ∷ [];
}

group_name_io-refused : FirstBroken group_name_io rule.GroupTwice (at 1 9)
group_name_io-refused = refl

-- A field is not lent.
abbrev pub lent_field : Code
lent_field = record {
  names = codes "io" ∷ codes "main" ∷ codes "this" ∷ codes "C" ∷ codes "c" ∷ [];
  classes =
      class_with (name 3 1 7) [] (field (ty.Object (perm_at.Lent (at 1 11)) (kind_at.Class (name 3 1 16) []))
      (name 4 1 18) ∷ []) []
      ∷ [];
  methods =
      (top_method None (name 1 1 35) [] [] []
      End)
      ∷ [];
  decls = decl.Class 0 ∷ decl.Method 0 ∷ [];
}

lent_field-refused : FirstBroken lent_field rule.LentEscapes (at 1 11)
lent_field-refused = refl

-- The group of a shared field is not known.
abbrev pub field_of_an_unknown_group : Code
field_of_an_unknown_group = record {
  names = codes "io" ∷ codes "main" ∷ codes "this" ∷ codes "C" ∷ codes "g" ∷ codes "c" ∷ [];
  classes =
      class_with (name 3 1 7) [] (field (ty.Object (perm_at.Shared (at 1 11) (name 4 1 18))
      (kind_at.Class (name 3 1 21) [])) (name 5 1 23) ∷ []) []
      ∷ [];
  methods =
      (top_method None (name 1 1 40) [] [] []
      End)
      ∷ [];
  decls = decl.Class 0 ∷ decl.Method 0 ∷ [];
}

field_of_an_unknown_group-refused : FirstBroken field_of_an_unknown_group rule.UnknownGroup (at 1 18)
field_of_an_unknown_group-refused = refl

-- The group io stands in no type.
abbrev pub parameter_in_io : Code
parameter_in_io = record {
  names = codes "io" ∷ codes "main" ∷ codes "this" ∷ codes "C" ∷ codes "f" ∷ codes "c" ∷ [];
  classes =
      class_with (name 3 1 7) [] [] []
      ∷ [];
  methods =
      (top_method None (name 4 1 25) [] (param (ty.Object (perm_at.Shared (at 1 27) (name 0 1 34))
      (kind_at.Class (name 3 1 38) [])) (name 5 1 40) ∷ []) (need need_of.Exclusive (name 0 1 58) ∷ [])
      End)
      ∷ (top_method None (name 1 1 77) [] [] []
      End)
      ∷ [];
  decls = decl.Class 0 ∷ decl.Method 0 ∷ decl.Method 1 ∷ [];
}

parameter_in_io-refused : FirstBroken parameter_in_io rule.UnknownGroup (at 1 34)
parameter_in_io-refused = refl
