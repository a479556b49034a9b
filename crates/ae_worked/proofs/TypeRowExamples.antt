-- Types, parameters, needs and the main method: the rows of the page on the language. Made by `tests/worked`.
use Rattle.std.specs.Prelude.{refl, pos, [], ◌∷◌, codes, None, Some}
use Rattle.ae_text.specs.declared.refusal.Rule.TheVariants as rule
use Rattle.ae_tree.specs.declared.tree.PermAt.TheVariants as perm_at
use Rattle.ae_tree.specs.declared.tree.KindAt.TheVariants as kind_at
use Rattle.ae_tree.specs.declared.tree.Ty.TheVariants as ty
use Rattle.ae_tree.specs.declared.tree.Need.TheVariants as need_of
use Rattle.ae_tree.specs.declared.tree.Decl.TheVariants as decl
use Rattle.ae_tree.specs.Plain.{Code, Number, Length}
use Rattle.ae_tree.specs.Plain.{End, Next}
use Rattle.ae_tree.specs.Plain.{Prints, Returns}
use Rattle.ae_rules.specs.Judges.{Accepts, FirstBroken}
use Rattle.ae_worked.proofs.ProgramWords.{at, name, path, field, class_with, param, given_away}
use Rattle.ae_worked.proofs.ProgramWords.{need, top_method, class_method}

-- A class is not declared.
abbrev pub parameter_of_an_unknown_class : Code
parameter_of_an_unknown_class = record {
  names = codes "io" ∷ codes "main" ∷ codes "this" ∷ codes "f" ∷ codes "D" ∷ codes "d" ∷ [];
  classes = [];
  methods =
      (top_method None (name 3 1 13) [] (param (ty.Object (perm_at.Lent (at 1 15)) (kind_at.Class (name 4 1 20) []))
      (name 5 1 22) ∷ []) []
      End)
      ∷ (top_method None (name 1 1 41) [] [] []
      End)
      ∷ [];
  decls = decl.Method 0 ∷ decl.Method 1 ∷ [];
}

parameter_of_an_unknown_class-refused : FirstBroken parameter_of_an_unknown_class rule.UnknownClass (at 1 20)
parameter_of_an_unknown_class-refused = refl

-- A class is given too few groups.
abbrev pub class_without_its_group : Code
class_without_its_group = record {
  names = codes "io" ∷ codes "main" ∷ codes "this" ∷ codes "C" ∷ codes "g" ∷ codes "c" ∷ [];
  classes =
      class_with (name 3 1 7) ((name 4 1 9) ∷ []) (field (ty.Object (perm_at.Unique (at 1 14))
      (kind_at.Class (name 3 1 21) [])) (name 5 1 23) ∷ []) []
      ∷ [];
  methods =
      (top_method None (name 1 1 40) [] [] []
      End)
      ∷ [];
  decls = decl.Class 0 ∷ decl.Method 0 ∷ [];
}

class_without_its_group-refused : FirstBroken class_without_its_group rule.GroupCount (at 1 21)
class_without_its_group-refused = refl

-- A class is given a group that is not known.
abbrev pub class_with_an_unknown_group : Code
class_with_an_unknown_group = record {
  names = codes "io" ∷ codes "main" ∷ codes "this" ∷ codes "C" ∷ codes "g" ∷ codes "h" ∷ codes "c" ∷ [];
  classes =
      class_with (name 3 1 7) ((name 4 1 9) ∷ []) (field (ty.Object (perm_at.Unique (at 1 14))
      (kind_at.Class (name 3 1 21) ((name 5 1 23) ∷ []))) (name 6 1 26) ∷ []) []
      ∷ [];
  methods =
      (top_method None (name 1 1 43) [] [] []
      End)
      ∷ [];
  decls = decl.Class 0 ∷ decl.Method 0 ∷ [];
}

class_with_an_unknown_group-refused : FirstBroken class_with_an_unknown_group rule.UnknownGroup (at 1 23)
class_with_an_unknown_group-refused = refl

-- What is lent comes back.
abbrev pub lent_parameter_away : Code
lent_parameter_away = record {
  names = codes "io" ∷ codes "main" ∷ codes "this" ∷ codes "C" ∷ codes "f" ∷ codes "c" ∷ [];
  classes =
      class_with (name 3 1 7) [] [] []
      ∷ [];
  methods =
      (top_method None (name 4 1 25) [] (given_away (ty.Object (perm_at.Lent (at 1 27))
      (kind_at.Class (name 3 1 32) [])) (name 5 1 34) (at 1 36) ∷ []) []
      End)
      ∷ (top_method None (name 1 1 61) [] [] []
      End)
      ∷ [];
  decls = decl.Class 0 ∷ decl.Method 0 ∷ decl.Method 1 ∷ [];
}

lent_parameter_away-refused : FirstBroken lent_parameter_away rule.LentEscapes (at 1 36)
lent_parameter_away-refused = refl

-- A number is not given away.
abbrev pub number_away : Code
number_away = record {
  names = codes "io" ∷ codes "main" ∷ codes "this" ∷ codes "f" ∷ codes "n" ∷ [];
  classes = [];
  methods =
      (top_method None (name 3 1 13) [] (given_away (ty.Int (at 1 15)) (name 4 1 19) (at 1 21) ∷ []) []
      End)
      ∷ (top_method None (name 1 1 46) [] [] []
      End)
      ∷ [];
  decls = decl.Method 0 ∷ decl.Method 1 ∷ [];
}

number_away-refused : FirstBroken number_away rule.TypeMismatch (at 1 21)
number_away-refused = refl

-- A parameter has the name of an earlier one.
abbrev pub two_parameters_of_one_name : Code
two_parameters_of_one_name = record {
  names = codes "io" ∷ codes "main" ∷ codes "this" ∷ codes "f" ∷ codes "a" ∷ [];
  classes = [];
  methods =
      (top_method None (name 3 1 13) [] (param (ty.Int (at 1 15)) (name 4 1 19) ∷ param (ty.Int (at 1 22)) (name 4 1 26)
      ∷ []) []
      End)
      ∷ (top_method None (name 1 1 45) [] [] []
      End)
      ∷ [];
  decls = decl.Method 0 ∷ decl.Method 1 ∷ [];
}

two_parameters_of_one_name-refused : FirstBroken two_parameters_of_one_name rule.DuplicateLocal (at 1 26)
two_parameters_of_one_name-refused = refl

-- A parameter has the name of a known group.
abbrev pub parameter_named_as_a_group : Code
parameter_named_as_a_group = record {
  names = codes "io" ∷ codes "main" ∷ codes "this" ∷ codes "f" ∷ codes "g" ∷ [];
  classes = [];
  methods =
      (top_method None (name 3 1 13) ((name 4 1 15) ∷ []) (param (ty.Int (at 1 18)) (name 4 1 22) ∷ []) []
      End)
      ∷ (top_method None (name 1 1 41) [] [] []
      End)
      ∷ [];
  decls = decl.Method 0 ∷ decl.Method 1 ∷ [];
}

parameter_named_as_a_group-refused : FirstBroken parameter_named_as_a_group rule.DuplicateLocal (at 1 22)
parameter_named_as_a_group-refused = refl

-- A need names a group that is not known.
abbrev pub need_of_an_unknown_group : Code
need_of_an_unknown_group = record {
  names = codes "io" ∷ codes "main" ∷ codes "this" ∷ codes "f" ∷ codes "g" ∷ [];
  classes = [];
  methods =
      (top_method None (name 3 1 13) [] [] (need need_of.Shared (name 4 1 29) ∷ [])
      End)
      ∷ (top_method None (name 1 1 47) [] [] []
      End)
      ∷ [];
  decls = decl.Method 0 ∷ decl.Method 1 ∷ [];
}

need_of_an_unknown_group-refused : FirstBroken need_of_an_unknown_group rule.UnknownGroup (at 1 29)
need_of_an_unknown_group-refused = refl

-- A need names a group that has one already.
abbrev pub second_need_of_a_group : Code
second_need_of_a_group = record {
  names = codes "io" ∷ codes "main" ∷ codes "this" ∷ codes "f" ∷ codes "g" ∷ [];
  classes = [];
  methods =
      (top_method None (name 3 1 13) ((name 4 1 15) ∷ []) [] (need need_of.Shared (name 4 1 32)
      ∷ need need_of.Exclusive (name 4 1 45) ∷ [])
      End)
      ∷ (top_method None (name 1 1 63) [] [] []
      End)
      ∷ [];
  decls = decl.Method 0 ∷ decl.Method 1 ∷ [];
}

second_need_of_a_group-refused : FirstBroken second_need_of_a_group rule.GroupTwice (at 1 45)
second_need_of_a_group-refused = refl

-- A method main of a class is none at the top.
abbrev pub no_main_at_the_top : Code
no_main_at_the_top = record {
  names = codes "io" ∷ codes "main" ∷ codes "this" ∷ codes "C" ∷ [];
  classes =
      class_with (name 3 1 7) [] [] (0 ∷ [])
      ∷ [];
  methods =
      (class_method 0 (record { perm = (perm_at.Lent (at 1 28)); at = (at 1 33); away = None }) None
      (name 1 1 23) [] [] []
      End)
      ∷ [];
  decls = decl.Class 0 ∷ [];
}

no_main_at_the_top-refused : FirstBroken no_main_at_the_top rule.NoMain (at 1 1)
no_main_at_the_top-refused = refl

-- The main method has no result.
abbrev pub main_gives_a_number : Code
main_gives_a_number = record {
  names = codes "io" ∷ codes "main" ∷ codes "this" ∷ [];
  classes = [];
  methods =
      (top_method (Some (ty.Int (at 1 8))) (name 1 1 12) [] [] []
      (Next (at 1 21) (Returns (Number (pos 0) (at 1 28))) End))
      ∷ [];
  decls = decl.Method 0 ∷ [];
}

main_gives_a_number-refused : FirstBroken main_gives_a_number rule.NoMain (at 1 12)
main_gives_a_number-refused = refl

-- The main method takes integers alone.
abbrev pub main_takes_a_number : Code
main_takes_a_number = record {
  names = codes "io" ∷ codes "main" ∷ codes "this" ∷ codes "n" ∷ [];
  classes = [];
  methods =
      (top_method None (name 1 1 13) [] (param (ty.Int (at 1 18)) (name 3 1 22) ∷ []) []
      End)
      ∷ [];
  decls = decl.Method 0 ∷ [];
}

main_takes_a_number-refused : FirstBroken main_takes_a_number rule.NoMain (at 1 13)
main_takes_a_number-refused = refl

-- The integers of the main method are those of the command.
abbrev pub main_takes_integers : Code
main_takes_integers = record {
  names = codes "io" ∷ codes "main" ∷ codes "this" ∷ codes "args" ∷ [];
  classes = [];
  methods =
      (top_method None (name 1 1 13) [] (param (ty.Object (perm_at.Unique (at 1 18)) (kind_at.Ints (at 1 25)))
      (name 3 1 30) ∷ []) (need need_of.Exclusive (name 0 1 51) ∷ [])
      (Next (at 1 56) (Prints (Length (path (name 3 1 66) []) (at 1 62))) End))
      ∷ [];
  decls = decl.Method 0 ∷ [];
}

main_takes_integers-accepted : Accepts main_takes_integers
main_takes_integers-accepted = refl
