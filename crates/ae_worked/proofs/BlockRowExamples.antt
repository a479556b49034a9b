-- Branches, loops, freeze, print and return: the rows of the page on the language. Made by `tests/worked`.
use Rattle.std.specs.Prelude.{refl, pos, true, false, [], ◌∷◌, codes, None, Some}
use Rattle.ae_text.specs.declared.refusal.Rule.TheVariants as rule
use Rattle.ae_tree.specs.declared.tree.PermAt.TheVariants as perm_at
use Rattle.ae_tree.specs.declared.tree.KindAt.TheVariants as kind_at
use Rattle.ae_tree.specs.declared.tree.Ty.TheVariants as ty
use Rattle.ae_tree.specs.declared.tree.Need.TheVariants as need_of
use Rattle.ae_tree.specs.declared.tree.Decl.TheVariants as decl
use Rattle.ae_tree.specs.Plain.{Code, Number, Truth, Read}
use Rattle.ae_tree.specs.Plain.{Value, Made, End, Next}
use Rattle.ae_tree.specs.Plain.{Declares, Assigns, Chooses, Repeats}
use Rattle.ae_tree.specs.Plain.{Freezes, Prints, Returns}
use Rattle.ae_rules.specs.Judges.{Accepts, FirstBroken}
use Rattle.ae_worked.proofs.ProgramWords.{at, name, path, class_with, param}
use Rattle.ae_worked.proofs.ProgramWords.{need, top_method}

-- The branches hold different things.
abbrev pub moved_in_the_one_branch : Code
moved_in_the_one_branch = record {
  names = codes "io" ∷ codes "main" ∷ codes "this" ∷ codes "C" ∷ codes "x" ∷ codes "y" ∷ [];
  classes =
      class_with (name 3 1 7) [] [] []
      ∷ [];
  methods =
      (top_method None (name 1 1 25) [] [] []
      (Next (at 1 34) (Declares (ty.Object (perm_at.Unique (at 1 38)) (kind_at.Class (name 3 1 45) [])) (name 4 1 47)
      (Made (name 3 1 55) [] [] (at 1 51)))
      (Next (at 1 60) (Chooses (Truth true (at 1 63)) 1
      (Next (at 1 70) (Declares (ty.Object (perm_at.Unique (at 1 74)) (kind_at.Class (name 3 1 81) [])) (name 5 1 83)
      (Value (Read (path (name 4 1 87) [])))) End)) End)))
      ∷ [];
  decls = decl.Class 0 ∷ decl.Method 0 ∷ [];
}

moved_in_the_one_branch-refused : FirstBroken moved_in_the_one_branch rule.BranchesDiffer (at 1 60)
moved_in_the_one_branch-refused = refl

-- The body of a loop changes what is held.
abbrev pub frozen_in_a_loop : Code
frozen_in_a_loop = record {
  names = codes "io" ∷ codes "main" ∷ codes "this" ∷ codes "C" ∷ codes "x" ∷ [];
  classes =
      class_with (name 3 1 7) [] [] []
      ∷ [];
  methods =
      (top_method None (name 1 1 25) [] [] []
      (Next (at 1 34) (Declares (ty.Object (perm_at.Unique (at 1 38)) (kind_at.Class (name 3 1 45) [])) (name 4 1 47)
      (Made (name 3 1 55) [] [] (at 1 51)))
      (Next (at 1 60) (Repeats (Truth false (at 1 66)) 1
      (Next (at 1 74) (Freezes (name 4 1 81)) End)) End)))
      ∷ [];
  decls = decl.Class 0 ∷ decl.Method 0 ∷ [];
}

frozen_in_a_loop-refused : FirstBroken frozen_in_a_loop rule.LoopChanges (at 1 60)
frozen_in_a_loop-refused = refl

-- The body of a loop may move a local and assign it again.
abbrev pub moved_in_a_loop_and_back : Code
moved_in_a_loop_and_back = record {
  names = codes "io" ∷ codes "main" ∷ codes "this" ∷ codes "C" ∷ codes "x" ∷ codes "y" ∷ [];
  classes =
      class_with (name 3 1 7) [] [] []
      ∷ [];
  methods =
      (top_method None (name 1 1 25) [] [] []
      (Next (at 1 34) (Declares (ty.Object (perm_at.Unique (at 1 38)) (kind_at.Class (name 3 1 45) [])) (name 4 1 47)
      (Made (name 3 1 55) [] [] (at 1 51)))
      (Next (at 1 60) (Repeats (Truth false (at 1 66)) 1
      (Next (at 1 74) (Declares (ty.Object (perm_at.Unique (at 1 78)) (kind_at.Class (name 3 1 85) [])) (name 5 1 87)
      (Value (Read (path (name 4 1 91) []))))
      (Next (at 1 94) (Assigns (name 4 1 94) (Value (Read (path (name 5 1 98) [])))) End))) End)))
      ∷ [];
  decls = decl.Class 0 ∷ decl.Method 0 ∷ [];
}

moved_in_a_loop_and_back-accepted : Accepts moved_in_a_loop_and_back
moved_in_a_loop_and_back-accepted = refl

-- A freeze of no local.
abbrev pub frozen_name_not_visible : Code
frozen_name_not_visible = record {
  names = codes "io" ∷ codes "main" ∷ codes "this" ∷ codes "x" ∷ [];
  classes = [];
  methods =
      (top_method None (name 1 1 13) [] [] []
      (Next (at 1 22) (Freezes (name 3 1 29)) End))
      ∷ [];
  decls = decl.Method 0 ∷ [];
}

frozen_name_not_visible-refused : FirstBroken frozen_name_not_visible rule.UnknownName (at 1 29)
frozen_name_not_visible-refused = refl

-- A freeze of no object.
abbrev pub number_frozen : Code
number_frozen = record {
  names = codes "io" ∷ codes "main" ∷ codes "this" ∷ codes "f" ∷ codes "n" ∷ [];
  classes = [];
  methods =
      (top_method None (name 3 1 13) [] (param (ty.Int (at 1 15)) (name 4 1 19) ∷ []) []
      (Next (at 1 24) (Freezes (name 4 1 31)) End))
      ∷ (top_method None (name 1 1 48) [] [] []
      End)
      ∷ [];
  decls = decl.Method 0 ∷ decl.Method 1 ∷ [];
}

number_frozen-refused : FirstBroken number_frozen rule.TypeMismatch (at 1 31)
number_frozen-refused = refl

-- A freeze of what holds None.
abbrev pub moved_name_frozen : Code
moved_name_frozen = record {
  names = codes "io" ∷ codes "main" ∷ codes "this" ∷ codes "C" ∷ codes "x" ∷ codes "y" ∷ [];
  classes =
      class_with (name 3 1 7) [] [] []
      ∷ [];
  methods =
      (top_method None (name 1 1 25) [] [] []
      (Next (at 1 34) (Declares (ty.Object (perm_at.Unique (at 1 38)) (kind_at.Class (name 3 1 45) [])) (name 4 1 47)
      (Made (name 3 1 55) [] [] (at 1 51)))
      (Next (at 1 60) (Declares (ty.Object (perm_at.Unique (at 1 64)) (kind_at.Class (name 3 1 71) [])) (name 5 1 73)
      (Value (Read (path (name 4 1 77) []))))
      (Next (at 1 80) (Freezes (name 4 1 87)) End))))
      ∷ [];
  decls = decl.Class 0 ∷ decl.Method 0 ∷ [];
}

moved_name_frozen-refused : FirstBroken moved_name_frozen rule.NoPermission (at 1 87)
moved_name_frozen-refused = refl

-- A freeze of what is not held Unique.
abbrev pub lent_object_frozen : Code
lent_object_frozen = record {
  names = codes "io" ∷ codes "main" ∷ codes "this" ∷ codes "C" ∷ codes "f" ∷ codes "c" ∷ [];
  classes =
      class_with (name 3 1 7) [] [] []
      ∷ [];
  methods =
      (top_method None (name 4 1 25) [] (param (ty.Object (perm_at.Lent (at 1 27)) (kind_at.Class (name 3 1 32) []))
      (name 5 1 34) ∷ []) []
      (Next (at 1 39) (Freezes (name 5 1 46)) End))
      ∷ (top_method None (name 1 1 63) [] [] []
      End)
      ∷ [];
  decls = decl.Class 0 ∷ decl.Method 0 ∷ decl.Method 1 ∷ [];
}

lent_object_frozen-refused : FirstBroken lent_object_frozen rule.NeedsUnique (at 1 46)
lent_object_frozen-refused = refl

-- A print of an object.
abbrev pub array_printed : Code
array_printed = record {
  names = codes "io" ∷ codes "main" ∷ codes "this" ∷ codes "a" ∷ [];
  classes = [];
  methods =
      (top_method None (name 1 1 13) [] (param (ty.Object (perm_at.Unique (at 1 18)) (kind_at.Ints (at 1 25)))
      (name 3 1 30) ∷ []) (need need_of.Exclusive (name 0 1 48) ∷ [])
      (Next (at 1 53) (Prints (Read (path (name 3 1 59) []))) End))
      ∷ [];
  decls = decl.Method 0 ∷ [];
}

array_printed-refused : FirstBroken array_printed rule.TypeMismatch (at 1 59)
array_printed-refused = refl

-- A return in a method without a result.
abbrev pub return_in_a_void_method : Code
return_in_a_void_method = record {
  names = codes "io" ∷ codes "main" ∷ codes "this" ∷ [];
  classes = [];
  methods =
      (top_method None (name 1 1 13) [] [] []
      (Next (at 1 22) (Returns (Number (pos 1) (at 1 29))) End))
      ∷ [];
  decls = decl.Method 0 ∷ [];
}

return_in_a_void_method-refused : FirstBroken return_in_a_void_method rule.TypeMismatch (at 1 22)
return_in_a_void_method-refused = refl

-- A return of another form.
abbrev pub truth_returned_as_a_number : Code
truth_returned_as_a_number = record {
  names = codes "io" ∷ codes "main" ∷ codes "this" ∷ codes "f" ∷ [];
  classes = [];
  methods =
      (top_method (Some (ty.Int (at 1 8))) (name 3 1 12) [] [] []
      (Next (at 1 18) (Returns (Truth true (at 1 25))) End))
      ∷ (top_method None (name 1 1 45) [] [] []
      End)
      ∷ [];
  decls = decl.Method 0 ∷ decl.Method 1 ∷ [];
}

truth_returned_as_a_number-refused : FirstBroken truth_returned_as_a_number rule.TypeMismatch (at 1 25)
truth_returned_as_a_number-refused = refl
