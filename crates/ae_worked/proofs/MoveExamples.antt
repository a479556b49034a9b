-- What may be moved and given away. Made by `tests/worked`.
use Rattle.std.specs.Prelude.{refl, pos, [], ◌∷◌, codes, None, Some}
use Rattle.ae_text.specs.declared.refusal.Rule.TheVariants as rule
use Rattle.ae_tree.specs.declared.tree.PermAt.TheVariants as perm_at
use Rattle.ae_tree.specs.declared.tree.KindAt.TheVariants as kind_at
use Rattle.ae_tree.specs.declared.tree.Ty.TheVariants as ty
use Rattle.ae_tree.specs.declared.tree.Op.TheVariants as op
use Rattle.ae_tree.specs.declared.tree.Need.TheVariants as need_of
use Rattle.ae_tree.specs.declared.tree.Decl.TheVariants as decl
use Rattle.ae_tree.specs.Plain.{Code, Number, Nothing, Read, Binary}
use Rattle.ae_tree.specs.Plain.{Value, Made, End, Next}
use Rattle.ae_tree.specs.Plain.{Declares, Assigns, Calls, Chooses, ChoosesElse, Repeats}
use Rattle.ae_tree.specs.Plain.{Freezes, Prints, Returns}
use Rattle.ae_rules.specs.Judges.{Accepts, FirstBroken}
use Rattle.ae_worked.proofs.ProgramWords.{at, name, path, call, field, class_with, param, given_away}
use Rattle.ae_worked.proofs.ProgramWords.{need, top_method}

-- A name that was moved holds nothing.
abbrev pub moved_and_read : Code
moved_and_read = record {
  names = codes "io" ∷ codes "main" ∷ codes "this" ∷ codes "Box" ∷ codes "v" ∷ codes "x" ∷ codes "y" ∷ [];
  classes =
      class_with (name 3 1 7) [] (field (ty.Int (at 1 13)) (name 4 1 17) ∷ []) []
      ∷ [];
  methods =
      (top_method None (name 1 2 13) [] [] (need need_of.Exclusive (name 0 2 35) ∷ [])
      (Next (at 3 1) (Declares (ty.Object (perm_at.Unique (at 3 5)) (kind_at.Class (name 3 3 12) [])) (name 5 3 16)
      (Made (name 3 3 24) [] ((Number (pos 1) (at 3 28)) ∷ []) (at 3 20)))
      (Next (at 4 1) (Declares (ty.Object (perm_at.Unique (at 4 5)) (kind_at.Class (name 3 4 12) [])) (name 6 4 16)
      (Value (Read (path (name 5 4 20) []))))
      (Next (at 5 1) (Prints (Read (path (name 5 5 7) ((name 4 5 9) ∷ [])))) End))))
      ∷ [];
  decls = decl.Class 0 ∷ decl.Method 0 ∷ [];
}

moved_and_read-refused : FirstBroken moved_and_read rule.NoPermission (at 5 7)
moved_and_read-refused = refl

-- A name may be moved into itself.
abbrev pub moved_to_itself : Code
moved_to_itself = record {
  names = codes "io" ∷ codes "main" ∷ codes "this" ∷ codes "Box" ∷ codes "v" ∷ codes "x" ∷ [];
  classes =
      class_with (name 3 1 7) [] (field (ty.Int (at 1 13)) (name 4 1 17) ∷ []) []
      ∷ [];
  methods =
      (top_method None (name 1 2 13) [] [] (need need_of.Exclusive (name 0 2 35) ∷ [])
      (Next (at 3 1) (Declares (ty.Object (perm_at.Unique (at 3 5)) (kind_at.Class (name 3 3 12) [])) (name 5 3 16)
      (Made (name 3 3 24) [] ((Number (pos 1) (at 3 28)) ∷ []) (at 3 20)))
      (Next (at 4 1) (Assigns (name 5 4 1) (Value (Read (path (name 5 4 5) []))))
      (Next (at 5 1) (Prints (Read (path (name 5 5 7) ((name 4 5 9) ∷ [])))) End))))
      ∷ [];
  decls = decl.Class 0 ∷ decl.Method 0 ∷ [];
}

moved_to_itself-accepted : Accepts moved_to_itself
moved_to_itself-accepted = refl

-- A name that was moved may be assigned, and then read again.
abbrev pub moved_and_assigned : Code
moved_and_assigned = record {
  names = codes "io" ∷ codes "main" ∷ codes "this" ∷ codes "Box" ∷ codes "v" ∷ codes "x" ∷ codes "y" ∷ [];
  classes =
      class_with (name 3 1 7) [] (field (ty.Int (at 1 13)) (name 4 1 17) ∷ []) []
      ∷ [];
  methods =
      (top_method None (name 1 2 13) [] [] (need need_of.Exclusive (name 0 2 35) ∷ [])
      (Next (at 3 1) (Declares (ty.Object (perm_at.Unique (at 3 5)) (kind_at.Class (name 3 3 12) [])) (name 5 3 16)
      (Made (name 3 3 24) [] ((Number (pos 1) (at 3 28)) ∷ []) (at 3 20)))
      (Next (at 4 1) (Declares (ty.Object (perm_at.Unique (at 4 5)) (kind_at.Class (name 3 4 12) [])) (name 6 4 16)
      (Value (Read (path (name 5 4 20) []))))
      (Next (at 5 1) (Assigns (name 5 5 1) (Made (name 3 5 9) [] ((Number (pos 2) (at 5 13)) ∷ []) (at 5 5)))
      (Next (at 6 1) (Prints (Binary op.Add (Read (path (name 5 6 7) ((name 4 6 9) ∷ [])))
      (Read (path (name 6 6 13) ((name 4 6 15) ∷ []))))) End)))))
      ∷ [];
  decls = decl.Class 0 ∷ decl.Method 0 ∷ [];
}

moved_and_assigned-accepted : Accepts moved_and_assigned
moved_and_assigned-accepted = refl

-- What is given away does not come back.
abbrev pub given_away_and_read : Code
given_away_and_read = record {
  names = codes "io" ∷ codes "main" ∷ codes "this" ∷ codes "Box" ∷ codes "v" ∷ codes "end" ∷ codes "b" ∷ codes "x"
      ∷ [];
  classes =
      class_with (name 3 1 7) [] (field (ty.Int (at 1 13)) (name 4 1 17) ∷ []) []
      ∷ [];
  methods =
      (top_method None (name 5 2 13) [] (given_away (ty.Object (perm_at.Unique (at 2 17))
      (kind_at.Class (name 3 2 24) [])) (name 6 2 28) (at 2 30) ∷ []) []
      End)
      ∷ (top_method None (name 1 3 13) [] [] (need need_of.Exclusive (name 0 3 35) ∷ [])
      (Next (at 4 1) (Declares (ty.Object (perm_at.Unique (at 4 5)) (kind_at.Class (name 3 4 12) [])) (name 7 4 16)
      (Made (name 3 4 24) [] ((Number (pos 1) (at 4 28)) ∷ []) (at 4 20)))
      (Next (at 5 1) (Calls (call (name 5 5 1) [] ((Read (path (name 7 5 5) [])) ∷ [])))
      (Next (at 6 1) (Prints (Read (path (name 7 6 7) ((name 4 6 9) ∷ [])))) End))))
      ∷ [];
  decls = decl.Class 0 ∷ decl.Method 0 ∷ decl.Method 1 ∷ [];
}

given_away_and_read-refused : FirstBroken given_away_and_read rule.NoPermission (at 6 7)
given_away_and_read-refused = refl

-- Only a name is given away, and no part of an object.
abbrev pub part_given_away : Code
part_given_away = record {
  names = codes "io" ∷ codes "main" ∷ codes "this" ∷ codes "Box" ∷ codes "v" ∷ codes "Pair" ∷ codes "l"
      ∷ codes "r" ∷ codes "end" ∷ codes "b" ∷ codes "x" ∷ [];
  classes =
      class_with (name 3 1 7) [] (field (ty.Int (at 1 13)) (name 4 1 17) ∷ []) []
      ∷ class_with (name 5 2 7) [] (field (ty.Object (perm_at.Unique (at 2 14)) (kind_at.Class (name 3 2 21) []))
      (name 6 2 25) ∷ field (ty.Object (perm_at.Immutable (at 2 28)) (kind_at.Class (name 3 2 38) [])) (name 7 2 42)
      ∷ []) []
      ∷ [];
  methods =
      (top_method None (name 8 3 13) [] (given_away (ty.Object (perm_at.Unique (at 3 17))
      (kind_at.Class (name 3 3 24) [])) (name 9 3 28) (at 3 30) ∷ []) []
      End)
      ∷ (top_method None (name 1 4 13) [] [] (need need_of.Exclusive (name 0 4 35) ∷ [])
      (Next (at 5 1) (Declares (ty.Object (perm_at.Unique (at 5 5)) (kind_at.Class (name 5 5 12) [])) (name 10 5 17)
      (Made (name 5 5 25) [] ((Nothing (at 5 30)) ∷ (Nothing (at 5 36)) ∷ []) (at 5 21)))
      (Next (at 6 1) (Calls (call (name 8 6 1) [] ((Read (path (name 10 6 5) ((name 6 6 7) ∷ []))) ∷ []))) End)))
      ∷ [];
  decls = decl.Class 0 ∷ decl.Class 1 ∷ decl.Method 0 ∷ decl.Method 1 ∷ [];
}

part_given_away-refused : FirstBroken part_given_away rule.NeedsUnique (at 6 5)
part_given_away-refused = refl

-- An object beside a number is of a wrong form, moved or not.
abbrev pub moved_beside_a_number : Code
moved_beside_a_number = record {
  names = codes "io" ∷ codes "main" ∷ codes "this" ∷ codes "Box" ∷ codes "v" ∷ codes "x" ∷ codes "y" ∷ [];
  classes =
      class_with (name 3 1 7) [] (field (ty.Int (at 1 13)) (name 4 1 17) ∷ []) []
      ∷ [];
  methods =
      (top_method None (name 1 2 13) [] [] (need need_of.Exclusive (name 0 2 35) ∷ [])
      (Next (at 3 1) (Declares (ty.Object (perm_at.Unique (at 3 5)) (kind_at.Class (name 3 3 12) [])) (name 5 3 16)
      (Made (name 3 3 24) [] ((Number (pos 1) (at 3 28)) ∷ []) (at 3 20)))
      (Next (at 4 1) (Declares (ty.Object (perm_at.Unique (at 4 5)) (kind_at.Class (name 3 4 12) [])) (name 6 4 16)
      (Value (Read (path (name 5 4 20) []))))
      (Next (at 5 1) (Prints (Binary op.Eq (Read (path (name 5 5 7) [])) (Number (pos 1) (at 5 12)))) End))))
      ∷ [];
  decls = decl.Class 0 ∷ decl.Method 0 ∷ [];
}

moved_beside_a_number-refused : FirstBroken moved_beside_a_number rule.TypeMismatch (at 5 7)
moved_beside_a_number-refused = refl

-- A moved object beside null.
abbrev pub moved_beside_null : Code
moved_beside_null = record {
  names = codes "io" ∷ codes "main" ∷ codes "this" ∷ codes "Box" ∷ codes "v" ∷ codes "x" ∷ codes "y" ∷ [];
  classes =
      class_with (name 3 1 7) [] (field (ty.Int (at 1 13)) (name 4 1 17) ∷ []) []
      ∷ [];
  methods =
      (top_method None (name 1 2 13) [] [] (need need_of.Exclusive (name 0 2 35) ∷ [])
      (Next (at 3 1) (Declares (ty.Object (perm_at.Unique (at 3 5)) (kind_at.Class (name 3 3 12) [])) (name 5 3 16)
      (Made (name 3 3 24) [] ((Number (pos 1) (at 3 28)) ∷ []) (at 3 20)))
      (Next (at 4 1) (Declares (ty.Object (perm_at.Unique (at 4 5)) (kind_at.Class (name 3 4 12) [])) (name 6 4 16)
      (Value (Read (path (name 5 4 20) []))))
      (Next (at 5 1) (Prints (Binary op.Eq (Nothing (at 5 7)) (Read (path (name 5 5 15) [])))) End))))
      ∷ [];
  decls = decl.Class 0 ∷ decl.Method 0 ∷ [];
}

moved_beside_null-refused : FirstBroken moved_beside_null rule.NoPermission (at 5 15)
moved_beside_null-refused = refl

-- After both branches a local holds the same.
abbrev pub moved_in_one_branch : Code
moved_in_one_branch = record {
  names = codes "io" ∷ codes "main" ∷ codes "this" ∷ codes "Box" ∷ codes "v" ∷ codes "x" ∷ codes "y" ∷ [];
  classes =
      class_with (name 3 1 7) [] (field (ty.Int (at 1 13)) (name 4 1 17) ∷ []) []
      ∷ [];
  methods =
      (top_method None (name 1 2 13) [] [] []
      (Next (at 3 1) (Declares (ty.Object (perm_at.Unique (at 3 5)) (kind_at.Class (name 3 3 12) [])) (name 5 3 16)
      (Made (name 3 3 24) [] ((Number (pos 1) (at 3 28)) ∷ []) (at 3 20)))
      (Next (at 4 1) (Chooses (Binary op.Eq (Read (path (name 5 4 4) ((name 4 4 6) ∷ []))) (Number (pos 1) (at 4 11))) 1
      (Next (at 4 15) (Declares (ty.Object (perm_at.Unique (at 4 19)) (kind_at.Class (name 3 4 26) [])) (name 6 4 30)
      (Value (Read (path (name 5 4 34) [])))) End)) End)))
      ∷ [];
  decls = decl.Class 0 ∷ decl.Method 0 ∷ [];
}

moved_in_one_branch-refused : FirstBroken moved_in_one_branch rule.BranchesDiffer (at 4 1)
moved_in_one_branch-refused = refl

-- It may hold something else than before.
abbrev pub frozen_in_both_branches : Code
frozen_in_both_branches = record {
  names = codes "io" ∷ codes "main" ∷ codes "this" ∷ codes "Box" ∷ codes "v" ∷ codes "x" ∷ codes "y" ∷ [];
  classes =
      class_with (name 3 1 7) [] (field (ty.Int (at 1 13)) (name 4 1 17) ∷ []) []
      ∷ [];
  methods =
      (top_method None (name 1 2 13) [] [] (need need_of.Exclusive (name 0 2 35) ∷ [])
      (Next (at 3 1) (Declares (ty.Object (perm_at.Unique (at 3 5)) (kind_at.Class (name 3 3 12) [])) (name 5 3 16)
      (Made (name 3 3 24) [] ((Number (pos 1) (at 3 28)) ∷ []) (at 3 20)))
      (Next (at 4 1) (ChoosesElse (Binary op.Eq (Read (path (name 5 4 4) ((name 4 4 6) ∷ [])))
      (Number (pos 1) (at 4 11))) 1
      (Next (at 4 15) (Freezes (name 5 4 22)) End) 2
      (Next (at 4 34) (Freezes (name 5 4 41)) End))
      (Next (at 5 1) (Declares (ty.Object (perm_at.Immutable (at 5 5)) (kind_at.Class (name 3 5 15) [])) (name 6 5 19)
      (Value (Read (path (name 5 5 23) [])))) End))))
      ∷ [];
  decls = decl.Class 0 ∷ decl.Method 0 ∷ [];
}

frozen_in_both_branches-accepted : Accepts frozen_in_both_branches
frozen_in_both_branches-accepted = refl

-- After a loop's body a local holds what it held.
abbrev pub moved_in_a_loop : Code
moved_in_a_loop = record {
  names = codes "io" ∷ codes "main" ∷ codes "this" ∷ codes "Box" ∷ codes "v" ∷ codes "x" ∷ codes "y" ∷ [];
  classes =
      class_with (name 3 1 7) [] (field (ty.Int (at 1 13)) (name 4 1 17) ∷ []) []
      ∷ [];
  methods =
      (top_method None (name 1 2 13) [] [] (need need_of.Exclusive (name 0 2 35) ∷ [])
      (Next (at 3 1) (Declares (ty.Object (perm_at.Unique (at 3 5)) (kind_at.Class (name 3 3 12) [])) (name 5 3 16)
      (Made (name 3 3 24) [] ((Number (pos 1) (at 3 28)) ∷ []) (at 3 20)))
      (Next (at 4 1) (Repeats (Binary op.Eq (Read (path (name 5 4 7) ((name 4 4 9) ∷ []))) (Number (pos 1) (at 4 14))) 1
      (Next (at 4 18) (Declares (ty.Object (perm_at.Unique (at 4 22)) (kind_at.Class (name 3 4 29) [])) (name 6 4 33)
      (Value (Read (path (name 5 4 37) [])))) End)) End)))
      ∷ [];
  decls = decl.Class 0 ∷ decl.Method 0 ∷ [];
}

moved_in_a_loop-refused : FirstBroken moved_in_a_loop rule.LoopChanges (at 4 1)
moved_in_a_loop-refused = refl

-- A unique parameter comes back.
abbrev pub unique_parameter_lost : Code
unique_parameter_lost = record {
  names = codes "io" ∷ codes "main" ∷ codes "this" ∷ codes "Box" ∷ codes "v" ∷ codes "lose" ∷ codes "b"
      ∷ codes "c" ∷ [];
  classes =
      class_with (name 3 1 7) [] (field (ty.Int (at 1 13)) (name 4 1 17) ∷ []) []
      ∷ [];
  methods =
      (top_method None (name 5 2 13) [] (param (ty.Object (perm_at.Unique (at 2 18)) (kind_at.Class (name 3 2 25) []))
      (name 6 2 29) ∷ []) []
      (Next (at 2 34) (Declares (ty.Object (perm_at.Unique (at 2 38)) (kind_at.Class (name 3 2 45) [])) (name 7 2 49)
      (Value (Read (path (name 6 2 53) [])))) End))
      ∷ (top_method None (name 1 3 13) [] [] []
      End)
      ∷ [];
  decls = decl.Class 0 ∷ decl.Method 0 ∷ decl.Method 1 ∷ [];
}

unique_parameter_lost-refused : FirstBroken unique_parameter_lost rule.NotReturned (at 2 29)
unique_parameter_lost-refused = refl

-- A unique parameter that is returned does not come back.
abbrev pub returned_and_not_given_back : Code
returned_and_not_given_back = record {
  names = codes "io" ∷ codes "main" ∷ codes "this" ∷ codes "Box" ∷ codes "v" ∷ codes "m" ∷ codes "x" ∷ [];
  classes =
      class_with (name 3 1 7) [] (field (ty.Int (at 1 13)) (name 4 1 17) ∷ []) []
      ∷ [];
  methods =
      (top_method (Some (ty.Object (perm_at.Unique (at 2 8)) (kind_at.Class (name 3 2 15) []))) (name 5 2 19) []
      (param (ty.Object (perm_at.Unique (at 2 21)) (kind_at.Class (name 3 2 28) [])) (name 6 2 32) ∷ []) []
      (Next (at 2 37) (Returns (Read (path (name 6 2 44) []))) End))
      ∷ (top_method None (name 1 3 13) [] [] []
      End)
      ∷ [];
  decls = decl.Class 0 ∷ decl.Method 0 ∷ decl.Method 1 ∷ [];
}

returned_and_not_given_back-refused : FirstBroken returned_and_not_given_back rule.NotReturned (at 2 32)
returned_and_not_given_back-refused = refl
