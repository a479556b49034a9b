-- Calls: the rows of the page on the language, from lent parameters on. Made by `tests/worked`.
use Rattle.std.specs.Prelude.{refl, [], ◌∷◌, codes, None}
use Rattle.ae_text.specs.declared.refusal.Rule.TheVariants as rule
use Rattle.ae_tree.specs.declared.tree.PermAt.TheVariants as perm_at
use Rattle.ae_tree.specs.declared.tree.KindAt.TheVariants as kind_at
use Rattle.ae_tree.specs.declared.tree.Ty.TheVariants as ty
use Rattle.ae_tree.specs.declared.tree.Need.TheVariants as need_of
use Rattle.ae_tree.specs.declared.tree.Decl.TheVariants as decl
use Rattle.ae_tree.specs.Plain.{Code, Nothing, Read}
use Rattle.ae_tree.specs.Plain.{Made, Returned, End, Next}
use Rattle.ae_tree.specs.Plain.{Declares, Calls, Groups, Splits, Locks}
use Rattle.ae_rules.specs.Judges.{Accepts, FirstBroken}
use Rattle.ae_worked.proofs.ProgramWords.{at, name, path, call, field, class_with, param}
use Rattle.ae_worked.proofs.ProgramWords.{need, top_method}

-- A member of a group is not lent.
abbrev pub member_for_lent : Code
member_for_lent = record {
  names = codes "io" ∷ codes "main" ∷ codes "this" ∷ codes "C" ∷ codes "f" ∷ codes "c" ∷ codes "m" ∷ codes "g"
      ∷ [];
  classes =
      class_with (name 3 1 7) [] [] []
      ∷ [];
  methods =
      (top_method None (name 4 1 25) [] (param (ty.Object (perm_at.Lent (at 1 27)) (kind_at.Class (name 3 1 32) []))
      (name 5 1 34) ∷ []) []
      End)
      ∷ (top_method None (name 6 1 53) ((name 7 1 55) ∷ []) (param
      (ty.Object (perm_at.Shared (at 1 58) (name 7 1 65)) (kind_at.Class (name 3 1 68) [])) (name 5 1 70) ∷ [])
      (need need_of.Exclusive (name 7 1 88) ∷ [])
      (Next (at 1 92) (Calls (call (name 4 1 92) [] ((Read (path (name 5 1 94) [])) ∷ []))) End))
      ∷ (top_method None (name 1 1 112) [] [] []
      End)
      ∷ [];
  decls = decl.Class 0 ∷ decl.Method 0 ∷ decl.Method 1 ∷ decl.Method 2 ∷ [];
}

member_for_lent-refused : FirstBroken member_for_lent rule.NoPermission (at 1 94)
member_for_lent-refused = refl

-- What is held Lent does not go to an immutable parameter.
abbrev pub lent_object_for_immutable : Code
lent_object_for_immutable = record {
  names = codes "io" ∷ codes "main" ∷ codes "this" ∷ codes "C" ∷ codes "f" ∷ codes "c" ∷ codes "m" ∷ [];
  classes =
      class_with (name 3 1 7) [] [] []
      ∷ [];
  methods =
      (top_method None (name 4 1 25) [] (param (ty.Object (perm_at.Immutable (at 1 27))
      (kind_at.Class (name 3 1 37) [])) (name 5 1 39) ∷ []) []
      End)
      ∷ (top_method None (name 6 1 58) [] (param (ty.Object (perm_at.Lent (at 1 60)) (kind_at.Class (name 3 1 65) []))
      (name 5 1 67) ∷ []) []
      (Next (at 1 72) (Calls (call (name 4 1 72) [] ((Read (path (name 5 1 74) [])) ∷ []))) End))
      ∷ (top_method None (name 1 1 92) [] [] []
      End)
      ∷ [];
  decls = decl.Class 0 ∷ decl.Method 0 ∷ decl.Method 1 ∷ decl.Method 2 ∷ [];
}

lent_object_for_immutable-refused : FirstBroken lent_object_for_immutable rule.LentEscapes (at 1 74)
lent_object_for_immutable-refused = refl

-- What is held Unique does not go to an immutable parameter.
abbrev pub unique_object_for_immutable : Code
unique_object_for_immutable = record {
  names = codes "io" ∷ codes "main" ∷ codes "this" ∷ codes "C" ∷ codes "f" ∷ codes "c" ∷ codes "x" ∷ [];
  classes =
      class_with (name 3 1 7) [] [] []
      ∷ [];
  methods =
      (top_method None (name 4 1 25) [] (param (ty.Object (perm_at.Immutable (at 1 27))
      (kind_at.Class (name 3 1 37) [])) (name 5 1 39) ∷ []) []
      End)
      ∷ (top_method None (name 1 1 58) [] [] []
      (Next (at 1 67) (Declares (ty.Object (perm_at.Unique (at 1 71)) (kind_at.Class (name 3 1 78) [])) (name 6 1 80)
      (Made (name 3 1 88) [] [] (at 1 84)))
      (Next (at 1 93) (Calls (call (name 4 1 93) [] ((Read (path (name 6 1 95) [])) ∷ []))) End)))
      ∷ [];
  decls = decl.Class 0 ∷ decl.Method 0 ∷ decl.Method 1 ∷ [];
}

unique_object_for_immutable-refused : FirstBroken unique_object_for_immutable rule.NoPermission (at 1 95)
unique_object_for_immutable-refused = refl

-- A member of another group.
abbrev pub member_for_another_group : Code
member_for_another_group = record {
  names = codes "io" ∷ codes "main" ∷ codes "this" ∷ codes "C" ∷ codes "f" ∷ codes "g" ∷ codes "c" ∷ codes "m"
      ∷ codes "h" ∷ [];
  classes =
      class_with (name 3 1 7) [] [] []
      ∷ [];
  methods =
      (top_method None (name 4 1 25) ((name 5 1 27) ∷ []) (param
      (ty.Object (perm_at.Shared (at 1 30) (name 5 1 37)) (kind_at.Class (name 3 1 40) [])) (name 6 1 42) ∷ []) []
      End)
      ∷ (top_method None (name 7 1 61) ((name 5 1 63) ∷ (name 8 1 66) ∷ [])
      (param (ty.Object (perm_at.Shared (at 1 69) (name 5 1 76)) (kind_at.Class (name 3 1 79) [])) (name 6 1 81)
      ∷ []) []
      (Next (at 1 86) (Calls (call (name 4 1 86) ((name 8 1 88) ∷ []) ((Read (path (name 6 1 91) [])) ∷ []))) End))
      ∷ (top_method None (name 1 1 109) [] [] []
      End)
      ∷ [];
  decls = decl.Class 0 ∷ decl.Method 0 ∷ decl.Method 1 ∷ decl.Method 2 ∷ [];
}

member_for_another_group-refused : FirstBroken member_for_another_group rule.TypeMismatch (at 1 91)
member_for_another_group-refused = refl

-- A group stands in two needs that are not both shared.
abbrev pub one_group_for_two_exclusive_needs : Code
one_group_for_two_exclusive_needs = record {
  names = codes "io" ∷ codes "main" ∷ codes "this" ∷ codes "two" ∷ codes "a" ∷ codes "b" ∷ codes "g" ∷ [];
  classes = [];
  methods =
      (top_method None (name 3 1 13) ((name 4 1 17) ∷ (name 5 1 20) ∷ []) []
      (need need_of.Exclusive (name 4 1 40) ∷ need need_of.Exclusive (name 5 1 53) ∷ [])
      End)
      ∷ (top_method None (name 1 1 71) [] [] []
      (Next (at 1 80) (Groups (name 6 1 86))
      (Next (at 1 89) (Calls (call (name 3 1 89) ((name 6 1 93) ∷ (name 6 1 96) ∷ []) [])) End)))
      ∷ [];
  decls = decl.Method 0 ∷ decl.Method 1 ∷ [];
}

one_group_for_two_exclusive_needs-refused : FirstBroken one_group_for_two_exclusive_needs rule.GroupTwice (at 1 89)
one_group_for_two_exclusive_needs-refused = refl

-- An exclusive need is not met.
abbrev pub exclusive_need_in_a_split_block : Code
exclusive_need_in_a_split_block = record {
  names = codes "io" ∷ codes "main" ∷ codes "this" ∷ codes "f" ∷ codes "g" ∷ codes "h" ∷ [];
  classes = [];
  methods =
      (top_method None (name 3 1 13) ((name 4 1 15) ∷ []) [] (need need_of.Exclusive (name 4 1 35) ∷ [])
      End)
      ∷ (top_method None (name 1 1 53) [] [] []
      (Next (at 1 62) (Groups (name 5 1 68))
      (Next (at 1 71) (Splits ((name 5 1 77) ∷ []) 1
      (Next (at 1 81) (Calls (call (name 3 1 81) ((name 5 1 83) ∷ []) [])) End)) End)))
      ∷ [];
  decls = decl.Method 0 ∷ decl.Method 1 ∷ [];
}

exclusive_need_in_a_split_block-refused : FirstBroken exclusive_need_in_a_split_block rule.NotExclusive (at 1 81)
exclusive_need_in_a_split_block-refused = refl

-- A shared need is not met.
abbrev pub shared_need_without_split : Code
shared_need_without_split = record {
  names = codes "io" ∷ codes "main" ∷ codes "this" ∷ codes "f" ∷ codes "g" ∷ codes "h" ∷ [];
  classes = [];
  methods =
      (top_method None (name 3 1 13) ((name 4 1 15) ∷ []) [] (need need_of.Shared (name 4 1 32) ∷ [])
      End)
      ∷ (top_method None (name 1 1 50) [] [] []
      (Next (at 1 59) (Groups (name 5 1 65))
      (Next (at 1 68) (Calls (call (name 3 1 68) ((name 5 1 70) ∷ []) [])) End)))
      ∷ [];
  decls = decl.Method 0 ∷ decl.Method 1 ∷ [];
}

shared_need_without_split-refused : FirstBroken shared_need_without_split rule.NotShared (at 1 68)
shared_need_without_split-refused = refl

-- A shared need is not met, since the group is held back.
abbrev pub shared_need_of_a_group_held_back : Code
shared_need_of_a_group_held_back = record {
  names = codes "io" ∷ codes "main" ∷ codes "this" ∷ codes "f" ∷ codes "g" ∷ codes "h" ∷ codes "k" ∷ [];
  classes = [];
  methods =
      (top_method None (name 3 1 13) ((name 4 1 15) ∷ []) [] (need need_of.Shared (name 4 1 32) ∷ [])
      End)
      ∷ (top_method None (name 1 1 50) [] [] []
      (Next (at 1 59) (Groups (name 5 1 65))
      (Next (at 1 68) (Groups (name 6 1 74))
      (Next (at 1 77) (Splits ((name 5 1 83) ∷ (name 6 1 86) ∷ []) 1
      (Next (at 1 90) (Locks (name 5 1 97) 2
      (Next (at 1 101) (Calls (call (name 3 1 101) ((name 6 1 103) ∷ []) [])) End)) End)) End))))
      ∷ [];
  decls = decl.Method 0 ∷ decl.Method 1 ∷ [];
}

shared_need_of_a_group_held_back-refused : FirstBroken shared_need_of_a_group_held_back rule.NestedAtomic (at 1 101)
shared_need_of_a_group_held_back-refused = refl

-- A protected need is not met.
abbrev pub protected_need_in_a_split_block : Code
protected_need_in_a_split_block = record {
  names = codes "io" ∷ codes "main" ∷ codes "this" ∷ codes "f" ∷ codes "g" ∷ codes "h" ∷ [];
  classes = [];
  methods =
      (top_method None (name 3 1 13) ((name 4 1 15) ∷ []) [] (need need_of.Protected (name 4 1 35) ∷ [])
      End)
      ∷ (top_method None (name 1 1 53) [] [] []
      (Next (at 1 62) (Groups (name 5 1 68))
      (Next (at 1 71) (Splits ((name 5 1 77) ∷ []) 1
      (Next (at 1 81) (Calls (call (name 3 1 81) ((name 5 1 83) ∷ []) [])) End)) End)))
      ∷ [];
  decls = decl.Method 0 ∷ decl.Method 1 ∷ [];
}

protected_need_in_a_split_block-refused : FirstBroken protected_need_in_a_split_block rule.NeedsGroup (at 1 81)
protected_need_in_a_split_block-refused = refl

-- A method without a result gives none.
abbrev pub void_for_a_number : Code
void_for_a_number = record {
  names = codes "io" ∷ codes "main" ∷ codes "this" ∷ codes "f" ∷ codes "a" ∷ [];
  classes = [];
  methods =
      (top_method None (name 3 1 13) [] [] []
      End)
      ∷ (top_method None (name 1 1 33) [] [] []
      (Next (at 1 42) (Declares (ty.Int (at 1 46)) (name 4 1 50) (Returned (call (name 3 1 54) [] []))) End))
      ∷ [];
  decls = decl.Method 0 ∷ decl.Method 1 ∷ [];
}

void_for_a_number-refused : FirstBroken void_for_a_number rule.TypeMismatch (at 1 54)
void_for_a_number-refused = refl

-- A part is lent, and comes back.
abbrev pub part_lent_twice_in_turn : Code
part_lent_twice_in_turn = record {
  names = codes "io" ∷ codes "main" ∷ codes "this" ∷ codes "C" ∷ codes "a" ∷ codes "f" ∷ codes "x" ∷ [];
  classes =
      class_with (name 3 1 7) [] (field (ty.Object (perm_at.Unique (at 1 11)) (kind_at.Ints (at 1 18))) (name 4 1 23)
      ∷ []) []
      ∷ [];
  methods =
      (top_method None (name 5 1 40) [] (param (ty.Object (perm_at.Unique (at 1 42)) (kind_at.Ints (at 1 49)))
      (name 4 1 54) ∷ []) []
      End)
      ∷ (top_method None (name 1 1 73) [] [] []
      (Next (at 1 82) (Declares (ty.Object (perm_at.Unique (at 1 86)) (kind_at.Class (name 3 1 93) [])) (name 6 1 95)
      (Made (name 3 1 103) [] ((Nothing (at 1 105)) ∷ []) (at 1 99)))
      (Next (at 1 112) (Calls (call (name 5 1 112) [] ((Read (path (name 6 1 114) ((name 4 1 116) ∷ []))) ∷ [])))
      (Next (at 1 120) (Calls (call (name 5 1 120) [] ((Read (path (name 6 1 122) ((name 4 1 124) ∷ []))) ∷ [])))
      End))))
      ∷ [];
  decls = decl.Class 0 ∷ decl.Method 0 ∷ decl.Method 1 ∷ [];
}

part_lent_twice_in_turn-accepted : Accepts part_lent_twice_in_turn
part_lent_twice_in_turn-accepted = refl

-- One object is lent twice.
abbrev pub one_object_lent_to_two : Code
one_object_lent_to_two = record {
  names = codes "io" ∷ codes "main" ∷ codes "this" ∷ codes "C" ∷ codes "f" ∷ codes "a" ∷ codes "b" ∷ codes "x"
      ∷ [];
  classes =
      class_with (name 3 1 7) [] [] []
      ∷ [];
  methods =
      (top_method None (name 4 1 25) [] (param (ty.Object (perm_at.Lent (at 1 27)) (kind_at.Class (name 3 1 32) []))
      (name 5 1 34) ∷ param (ty.Object (perm_at.Lent (at 1 37)) (kind_at.Class (name 3 1 42) [])) (name 6 1 44) ∷ []) []
      End)
      ∷ (top_method None (name 1 1 63) [] [] []
      (Next (at 1 72) (Declares (ty.Object (perm_at.Unique (at 1 76)) (kind_at.Class (name 3 1 83) [])) (name 7 1 85)
      (Made (name 3 1 93) [] [] (at 1 89)))
      (Next (at 1 98) (Calls (call (name 4 1 98) [] ((Read (path (name 7 1 100) [])) ∷ (Read (path (name 7 1 103) []))
      ∷ []))) End)))
      ∷ [];
  decls = decl.Class 0 ∷ decl.Method 0 ∷ decl.Method 1 ∷ [];
}

one_object_lent_to_two-accepted : Accepts one_object_lent_to_two
one_object_lent_to_two-accepted = refl
