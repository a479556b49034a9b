-- Calls: the rows of the page on the language, up to unique parameters. Made by `tests/worked`.
use Rattle.std.specs.Prelude.{refl, pos, true, [], ◌∷◌, codes, None}
use Rattle.ae_text.specs.declared.refusal.Rule.TheVariants as rule
use Rattle.ae_tree.specs.declared.tree.PermAt.TheVariants as perm_at
use Rattle.ae_tree.specs.declared.tree.KindAt.TheVariants as kind_at
use Rattle.ae_tree.specs.declared.tree.Ty.TheVariants as ty
use Rattle.ae_tree.specs.declared.tree.Op.TheVariants as op
use Rattle.ae_tree.specs.declared.tree.Decl.TheVariants as decl
use Rattle.ae_tree.specs.Plain.{Code, Number, Truth, Nothing, Read, Binary}
use Rattle.ae_tree.specs.Plain.{Value, Made, End, Next}
use Rattle.ae_tree.specs.Plain.{Declares, Calls}
use Rattle.ae_rules.specs.Judges.{FirstBroken}
use Rattle.ae_worked.proofs.ProgramWords.{at, name, path, call, call_on, field, class_with, param, given_away}
use Rattle.ae_worked.proofs.ProgramWords.{top_method}

-- The receiver is no object.
abbrev pub receiver_is_a_number : Code
receiver_is_a_number = record {
  names = codes "io" ∷ codes "main" ∷ codes "this" ∷ codes "f" ∷ codes "n" ∷ codes "g" ∷ [];
  classes = [];
  methods =
      (top_method None (name 3 1 13) [] (param (ty.Int (at 1 15)) (name 4 1 19) ∷ []) []
      (Next (at 1 24) (Calls (call_on (path (name 4 1 24) []) (name 5 1 26) [] [])) End))
      ∷ (top_method None (name 1 1 45) [] [] []
      End)
      ∷ [];
  decls = decl.Method 0 ∷ decl.Method 1 ∷ [];
}

receiver_is_a_number-refused : FirstBroken receiver_is_a_number rule.TypeMismatch (at 1 24)
receiver_is_a_number-refused = refl

-- There is no such method.
abbrev pub call_of_no_method : Code
call_of_no_method = record {
  names = codes "io" ∷ codes "main" ∷ codes "this" ∷ codes "f" ∷ [];
  classes = [];
  methods =
      (top_method None (name 1 1 13) [] [] []
      (Next (at 1 22) (Calls (call (name 3 1 22) [] [])) End))
      ∷ [];
  decls = decl.Method 0 ∷ [];
}

call_of_no_method-refused : FirstBroken call_of_no_method rule.UnknownMethod (at 1 22)
call_of_no_method-refused = refl

-- An array has no methods.
abbrev pub call_on_integers : Code
call_on_integers = record {
  names = codes "io" ∷ codes "main" ∷ codes "this" ∷ codes "f" ∷ codes "a" ∷ codes "size" ∷ [];
  classes = [];
  methods =
      (top_method None (name 3 1 13) [] (param (ty.Object (perm_at.Lent (at 1 15)) (kind_at.Ints (at 1 20)))
      (name 4 1 25) ∷ []) []
      (Next (at 1 30) (Calls (call_on (path (name 4 1 30) []) (name 5 1 32) [] [])) End))
      ∷ (top_method None (name 1 1 54) [] [] []
      End)
      ∷ [];
  decls = decl.Method 0 ∷ decl.Method 1 ∷ [];
}

call_on_integers-refused : FirstBroken call_on_integers rule.UnknownMethod (at 1 32)
call_on_integers-refused = refl

-- A call gives too few groups.
abbrev pub call_without_its_group : Code
call_without_its_group = record {
  names = codes "io" ∷ codes "main" ∷ codes "this" ∷ codes "f" ∷ codes "g" ∷ [];
  classes = [];
  methods =
      (top_method None (name 3 1 13) ((name 4 1 15) ∷ []) [] []
      End)
      ∷ (top_method None (name 1 1 36) [] [] []
      (Next (at 1 45) (Calls (call (name 3 1 45) [] [])) End))
      ∷ [];
  decls = decl.Method 0 ∷ decl.Method 1 ∷ [];
}

call_without_its_group-refused : FirstBroken call_without_its_group rule.GroupCount (at 1 45)
call_without_its_group-refused = refl

-- A call gives a group that is not known.
abbrev pub call_with_an_unknown_group : Code
call_with_an_unknown_group = record {
  names = codes "io" ∷ codes "main" ∷ codes "this" ∷ codes "f" ∷ codes "g" ∷ codes "h" ∷ [];
  classes = [];
  methods =
      (top_method None (name 3 1 13) ((name 4 1 15) ∷ []) [] []
      End)
      ∷ (top_method None (name 1 1 36) [] [] []
      (Next (at 1 45) (Calls (call (name 3 1 45) ((name 5 1 47) ∷ []) [])) End))
      ∷ [];
  decls = decl.Method 0 ∷ decl.Method 1 ∷ [];
}

call_with_an_unknown_group-refused : FirstBroken call_with_an_unknown_group rule.UnknownGroup (at 1 47)
call_with_an_unknown_group-refused = refl

-- A call gives too few arguments.
abbrev pub call_without_its_argument : Code
call_without_its_argument = record {
  names = codes "io" ∷ codes "main" ∷ codes "this" ∷ codes "f" ∷ codes "n" ∷ [];
  classes = [];
  methods =
      (top_method None (name 3 1 13) [] (param (ty.Int (at 1 15)) (name 4 1 19) ∷ []) []
      End)
      ∷ (top_method None (name 1 1 38) [] [] []
      (Next (at 1 47) (Calls (call (name 3 1 47) [] [])) End))
      ∷ [];
  decls = decl.Method 0 ∷ decl.Method 1 ∷ [];
}

call_without_its_argument-refused : FirstBroken call_without_its_argument rule.ArgumentCount (at 1 47)
call_without_its_argument-refused = refl

-- An argument has another form.
abbrev pub argument_of_another_form : Code
argument_of_another_form = record {
  names = codes "io" ∷ codes "main" ∷ codes "this" ∷ codes "f" ∷ codes "n" ∷ [];
  classes = [];
  methods =
      (top_method None (name 3 1 13) [] (param (ty.Int (at 1 15)) (name 4 1 19) ∷ []) []
      End)
      ∷ (top_method None (name 1 1 38) [] [] []
      (Next (at 1 47) (Calls (call (name 3 1 47) [] ((Truth true (at 1 49)) ∷ []))) End))
      ∷ [];
  decls = decl.Method 0 ∷ decl.Method 1 ∷ [];
}

argument_of_another_form-refused : FirstBroken argument_of_another_form rule.TypeMismatch (at 1 49)
argument_of_another_form-refused = refl

-- For an object an argument is null or a path.
abbrev pub sum_for_an_object : Code
sum_for_an_object = record {
  names = codes "io" ∷ codes "main" ∷ codes "this" ∷ codes "C" ∷ codes "f" ∷ codes "c" ∷ [];
  classes =
      class_with (name 3 1 7) [] [] []
      ∷ [];
  methods =
      (top_method None (name 4 1 25) [] (param (ty.Object (perm_at.Lent (at 1 27)) (kind_at.Class (name 3 1 32) []))
      (name 5 1 34) ∷ []) []
      End)
      ∷ (top_method None (name 1 1 53) [] [] []
      (Next (at 1 62) (Calls (call (name 4 1 62) [] ((Binary op.Add (Number (pos 1) (at 1 64))
      (Number (pos 1) (at 1 68))) ∷ []))) End))
      ∷ [];
  decls = decl.Class 0 ∷ decl.Method 0 ∷ decl.Method 1 ∷ [];
}

sum_for_an_object-refused : FirstBroken sum_for_an_object rule.TypeMismatch (at 1 64)
sum_for_an_object-refused = refl

-- Two arguments have one root, one for a unique parameter.
abbrev pub one_object_for_two_parameters : Code
one_object_for_two_parameters = record {
  names = codes "io" ∷ codes "main" ∷ codes "this" ∷ codes "Box" ∷ codes "v" ∷ codes "both" ∷ codes "a"
      ∷ codes "b" ∷ codes "x" ∷ [];
  classes =
      class_with (name 3 1 7) [] (field (ty.Int (at 1 13)) (name 4 1 17) ∷ []) []
      ∷ [];
  methods =
      (top_method None (name 5 1 34) [] (param (ty.Object (perm_at.Unique (at 1 39)) (kind_at.Class (name 3 1 46) []))
      (name 6 1 50) ∷ param (ty.Object (perm_at.Lent (at 1 53)) (kind_at.Class (name 3 1 58) [])) (name 7 1 62) ∷ []) []
      End)
      ∷ (top_method None (name 1 1 81) [] [] []
      (Next (at 1 90) (Declares (ty.Object (perm_at.Unique (at 1 94)) (kind_at.Class (name 3 1 101) [])) (name 8 1 105)
      (Made (name 3 1 113) [] ((Number (pos 1) (at 1 117)) ∷ []) (at 1 109)))
      (Next (at 1 121) (Calls (call (name 5 1 121) [] ((Read (path (name 8 1 126) [])) ∷ (Read (path (name 8 1 129) []))
      ∷ []))) End)))
      ∷ [];
  decls = decl.Class 0 ∷ decl.Method 0 ∷ decl.Method 1 ∷ [];
}

one_object_for_two_parameters-refused : FirstBroken one_object_for_two_parameters rule.UsedTwice (at 1 129)
one_object_for_two_parameters-refused = refl

-- For a unique parameter nothing is held.
abbrev pub moved_name_for_unique : Code
moved_name_for_unique = record {
  names = codes "io" ∷ codes "main" ∷ codes "this" ∷ codes "C" ∷ codes "f" ∷ codes "c" ∷ codes "x" ∷ codes "y"
      ∷ [];
  classes =
      class_with (name 3 1 7) [] [] []
      ∷ [];
  methods =
      (top_method None (name 4 1 25) [] (param (ty.Object (perm_at.Unique (at 1 27)) (kind_at.Class (name 3 1 34) []))
      (name 5 1 36) ∷ []) []
      End)
      ∷ (top_method None (name 1 1 55) [] [] []
      (Next (at 1 64) (Declares (ty.Object (perm_at.Unique (at 1 68)) (kind_at.Class (name 3 1 75) [])) (name 6 1 77)
      (Value (Nothing (at 1 81))))
      (Next (at 1 87) (Declares (ty.Object (perm_at.Unique (at 1 91)) (kind_at.Class (name 3 1 98) [])) (name 7 1 100)
      (Value (Read (path (name 6 1 104) []))))
      (Next (at 1 107) (Calls (call (name 4 1 107) [] ((Read (path (name 6 1 109) [])) ∷ []))) End))))
      ∷ [];
  decls = decl.Class 0 ∷ decl.Method 0 ∷ decl.Method 1 ∷ [];
}

moved_name_for_unique-refused : FirstBroken moved_name_for_unique rule.NoPermission (at 1 109)
moved_name_for_unique-refused = refl

-- For a unique parameter something else is held.
abbrev pub lent_object_for_unique : Code
lent_object_for_unique = record {
  names = codes "io" ∷ codes "main" ∷ codes "this" ∷ codes "C" ∷ codes "f" ∷ codes "c" ∷ codes "m" ∷ [];
  classes =
      class_with (name 3 1 7) [] [] []
      ∷ [];
  methods =
      (top_method None (name 4 1 25) [] (param (ty.Object (perm_at.Unique (at 1 27)) (kind_at.Class (name 3 1 34) []))
      (name 5 1 36) ∷ []) []
      End)
      ∷ (top_method None (name 6 1 55) [] (param (ty.Object (perm_at.Lent (at 1 57)) (kind_at.Class (name 3 1 62) []))
      (name 5 1 64) ∷ []) []
      (Next (at 1 69) (Calls (call (name 4 1 69) [] ((Read (path (name 5 1 71) [])) ∷ []))) End))
      ∷ (top_method None (name 1 1 89) [] [] []
      End)
      ∷ [];
  decls = decl.Class 0 ∷ decl.Method 0 ∷ decl.Method 1 ∷ decl.Method 2 ∷ [];
}

lent_object_for_unique-refused : FirstBroken lent_object_for_unique rule.NeedsUnique (at 1 71)
lent_object_for_unique-refused = refl

-- Only a name is given away.
abbrev pub part_for_away : Code
part_for_away = record {
  names = codes "io" ∷ codes "main" ∷ codes "this" ∷ codes "C" ∷ codes "c" ∷ codes "f" ∷ codes "x" ∷ [];
  classes =
      class_with (name 3 1 7) [] (field (ty.Object (perm_at.Unique (at 1 11)) (kind_at.Class (name 3 1 18) []))
      (name 4 1 20) ∷ []) []
      ∷ [];
  methods =
      (top_method None (name 5 1 37) [] (given_away (ty.Object (perm_at.Unique (at 1 39))
      (kind_at.Class (name 3 1 46) [])) (name 4 1 48) (at 1 50) ∷ []) []
      End)
      ∷ (top_method None (name 1 1 75) [] [] []
      (Next (at 1 84) (Declares (ty.Object (perm_at.Unique (at 1 88)) (kind_at.Class (name 3 1 95) [])) (name 6 1 97)
      (Made (name 3 1 105) [] ((Nothing (at 1 107)) ∷ []) (at 1 101)))
      (Next (at 1 114) (Calls (call (name 5 1 114) [] ((Read (path (name 6 1 116) ((name 4 1 118) ∷ []))) ∷ []))) End)))
      ∷ [];
  decls = decl.Class 0 ∷ decl.Method 0 ∷ decl.Method 1 ∷ [];
}

part_for_away-refused : FirstBroken part_for_away rule.NeedsUnique (at 1 116)
part_for_away-refused = refl
