-- Types, parameters and needs of some programs. Made by `tests/worked`.
use Rattle.std.specs.Prelude.{refl, [], ◌∷◌, codes, None}
use Rattle.ae_text.specs.declared.refusal.Rule.TheVariants as rule
use Rattle.ae_tree.specs.declared.tree.PermAt.TheVariants as perm_at
use Rattle.ae_tree.specs.declared.tree.KindAt.TheVariants as kind_at
use Rattle.ae_tree.specs.declared.tree.Ty.TheVariants as ty
use Rattle.ae_tree.specs.declared.tree.Need.TheVariants as need_of
use Rattle.ae_tree.specs.declared.tree.Decl.TheVariants as decl
use Rattle.ae_tree.specs.Plain.{Code}
use Rattle.ae_tree.specs.Plain.{End}
use Rattle.ae_rules.specs.Judges.{FirstBroken}
use Rattle.ae_worked.proofs.ProgramWords.{at, name, field, class_with, param, given_away}
use Rattle.ae_worked.proofs.ProgramWords.{need, top_method}

-- A type: lent comes before the class.
abbrev pub lent_field_of_no_class : Code
lent_field_of_no_class = record {
  names = codes "io" ∷ codes "main" ∷ codes "this" ∷ codes "A" ∷ codes "B" ∷ codes "x" ∷ [];
  classes =
      class_with (name 3 1 7) [] (field (ty.Object (perm_at.Lent (at 1 11)) (kind_at.Class (name 4 1 16) []))
      (name 5 1 18) ∷ []) []
      ∷ [];
  methods =
      (top_method None (name 1 2 13) [] [] []
      End)
      ∷ [];
  decls = decl.Class 0 ∷ decl.Method 0 ∷ [];
}

lent_field_of_no_class-refused : FirstBroken lent_field_of_no_class rule.LentEscapes (at 1 11)
lent_field_of_no_class-refused = refl

-- A type: the group of shared comes before the class.
abbrev pub shared_in_no_group : Code
shared_in_no_group = record {
  names = codes "io" ∷ codes "main" ∷ codes "this" ∷ codes "m" ∷ codes "g" ∷ codes "B" ∷ codes "x" ∷ [];
  classes = [];
  methods =
      (top_method None (name 3 1 13) [] (param (ty.Object (perm_at.Shared (at 1 15) (name 4 1 22))
      (kind_at.Class (name 5 1 25) [])) (name 6 1 27) ∷ []) []
      End)
      ∷ (top_method None (name 1 2 13) [] [] []
      End)
      ∷ [];
  decls = decl.Method 0 ∷ decl.Method 1 ∷ [];
}

shared_in_no_group-refused : FirstBroken shared_in_no_group rule.UnknownGroup (at 1 22)
shared_in_no_group-refused = refl

-- A type: the number of groups comes before the groups.
abbrev pub class_with_two_groups : Code
class_with_two_groups = record {
  names = codes "io" ∷ codes "main" ∷ codes "this" ∷ codes "A" ∷ codes "g" ∷ codes "m" ∷ codes "h" ∷ codes "x"
      ∷ [];
  classes =
      class_with (name 3 1 7) ((name 4 1 9) ∷ []) [] []
      ∷ [];
  methods =
      (top_method None (name 5 2 13) [] (param (ty.Object (perm_at.Unique (at 2 15))
      (kind_at.Class (name 3 2 22) ((name 6 2 24) ∷ (name 6 2 27) ∷ []))) (name 7 2 30) ∷ []) []
      End)
      ∷ (top_method None (name 1 3 13) [] [] []
      End)
      ∷ [];
  decls = decl.Class 0 ∷ decl.Method 0 ∷ decl.Method 1 ∷ [];
}

class_with_two_groups-refused : FirstBroken class_with_two_groups rule.GroupCount (at 2 22)
class_with_two_groups-refused = refl

-- The group io stands in no type.
abbrev pub shared_in_io : Code
shared_in_io = record {
  names = codes "io" ∷ codes "main" ∷ codes "this" ∷ codes "m" ∷ codes "x" ∷ [];
  classes = [];
  methods =
      (top_method None (name 3 1 13) [] (param (ty.Object (perm_at.Shared (at 1 15) (name 0 1 22))
      (kind_at.Ints (at 1 26))) (name 4 1 31) ∷ []) []
      End)
      ∷ (top_method None (name 1 2 13) [] [] []
      End)
      ∷ [];
  decls = decl.Method 0 ∷ decl.Method 1 ∷ [];
}

shared_in_io-refused : FirstBroken shared_in_io rule.UnknownGroup (at 1 22)
shared_in_io-refused = refl

-- What is lent comes back.
abbrev pub lent_for_good : Code
lent_for_good = record {
  names = codes "io" ∷ codes "main" ∷ codes "this" ∷ codes "m" ∷ codes "x" ∷ [];
  classes = [];
  methods =
      (top_method None (name 3 1 13) [] (given_away (ty.Object (perm_at.Lent (at 1 15)) (kind_at.Ints (at 1 20)))
      (name 4 1 25) (at 1 27) ∷ []) []
      End)
      ∷ (top_method None (name 1 2 13) [] [] []
      End)
      ∷ [];
  decls = decl.Method 0 ∷ decl.Method 1 ∷ [];
}

lent_for_good-refused : FirstBroken lent_for_good rule.LentEscapes (at 1 27)
lent_for_good-refused = refl

-- A number is not given away.
abbrev pub number_given_away : Code
number_given_away = record {
  names = codes "io" ∷ codes "main" ∷ codes "this" ∷ codes "m" ∷ codes "x" ∷ [];
  classes = [];
  methods =
      (top_method None (name 3 1 13) [] (given_away (ty.Int (at 1 15)) (name 4 1 19) (at 1 21) ∷ []) []
      End)
      ∷ (top_method None (name 1 2 13) [] [] []
      End)
      ∷ [];
  decls = decl.Method 0 ∷ decl.Method 1 ∷ [];
}

number_given_away-refused : FirstBroken number_given_away rule.TypeMismatch (at 1 21)
number_given_away-refused = refl

-- A parameter has no name of a group, io among them.
abbrev pub parameter_called_io : Code
parameter_called_io = record {
  names = codes "io" ∷ codes "main" ∷ codes "this" ∷ codes "m" ∷ [];
  classes = [];
  methods =
      (top_method None (name 3 1 13) [] (param (ty.Int (at 1 15)) (name 0 1 19) ∷ []) []
      End)
      ∷ (top_method None (name 1 2 13) [] [] []
      End)
      ∷ [];
  decls = decl.Method 0 ∷ decl.Method 1 ∷ [];
}

parameter_called_io-refused : FirstBroken parameter_called_io rule.DuplicateLocal (at 1 19)
parameter_called_io-refused = refl

-- A group has one need.
abbrev pub two_needs_of_one_group : Code
two_needs_of_one_group = record {
  names = codes "io" ∷ codes "main" ∷ codes "this" ∷ codes "m" ∷ [];
  classes = [];
  methods =
      (top_method None (name 3 1 13) [] [] (need need_of.Shared (name 0 1 29) ∷ need need_of.Shared (name 0 1 40) ∷ [])
      End)
      ∷ (top_method None (name 1 2 13) [] [] []
      End)
      ∷ [];
  decls = decl.Method 0 ∷ decl.Method 1 ∷ [];
}

two_needs_of_one_group-refused : FirstBroken two_needs_of_one_group rule.GroupTwice (at 1 40)
two_needs_of_one_group-refused = refl
