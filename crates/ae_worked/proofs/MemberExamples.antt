-- Members of groups. Made by `tests/worked`.
use Rattle.std.specs.Prelude.{refl, pos, [], ◌∷◌, codes, None, Some}
use Rattle.ae_text.specs.declared.refusal.Rule.TheVariants as rule
use Rattle.ae_tree.specs.declared.tree.PermAt.TheVariants as perm_at
use Rattle.ae_tree.specs.declared.tree.KindAt.TheVariants as kind_at
use Rattle.ae_tree.specs.declared.tree.Ty.TheVariants as ty
use Rattle.ae_tree.specs.declared.tree.Op.TheVariants as op
use Rattle.ae_tree.specs.declared.tree.Need.TheVariants as need_of
use Rattle.ae_tree.specs.declared.tree.Decl.TheVariants as decl
use Rattle.ae_tree.specs.Plain.{Code, Number, Nothing, Read, Item, Grouped, Binary}
use Rattle.ae_tree.specs.Plain.{Value, Made, Returned, End, Next}
use Rattle.ae_tree.specs.Plain.{Declares, Assigns, Stores, Calls, Chooses, Groups, Splits, Locks}
use Rattle.ae_tree.specs.Plain.{Shares, Prints, Returns}
use Rattle.ae_rules.specs.Judges.{Accepts, FirstBroken}
use Rattle.ae_worked.proofs.ProgramWords.{at, name, path, call, field, class_with, param}
use Rattle.ae_worked.proofs.ProgramWords.{need, top_method}

-- A member of a group that is only shared is not reached.
abbrev pub member_of_a_shared_group : Code
member_of_a_shared_group = record {
  names = codes "io" ∷ codes "main" ∷ codes "this" ∷ codes "Box" ∷ codes "v" ∷ codes "x" ∷ codes "g" ∷ [];
  classes =
      class_with (name 3 1 7) [] (field (ty.Int (at 1 13)) (name 4 1 17) ∷ []) []
      ∷ [];
  methods =
      (top_method None (name 1 2 13) [] [] (need need_of.Exclusive (name 0 2 35) ∷ [])
      (Next (at 3 1) (Declares (ty.Object (perm_at.Unique (at 3 5)) (kind_at.Class (name 3 3 12) [])) (name 5 3 16)
      (Made (name 3 3 24) [] ((Number (pos 1) (at 3 28)) ∷ []) (at 3 20)))
      (Next (at 4 1) (Groups (name 6 4 7))
      (Next (at 5 1) (Shares (name 5 5 7) (name 6 5 14))
      (Next (at 6 1) (Splits ((name 6 6 7) ∷ []) 1
      (Next (at 6 11) (Prints (Read (path (name 5 6 17) ((name 4 6 19) ∷ [])))) End)) End)))))
      ∷ [];
  decls = decl.Class 0 ∷ decl.Method 0 ∷ [];
}

member_of_a_shared_group-refused : FirstBroken member_of_a_shared_group rule.NeedsGroup (at 6 17)
member_of_a_shared_group-refused = refl

-- It may be compared with null.
abbrev pub member_beside_null : Code
member_beside_null = record {
  names = codes "io" ∷ codes "main" ∷ codes "this" ∷ codes "Box" ∷ codes "v" ∷ codes "x" ∷ codes "g" ∷ [];
  classes =
      class_with (name 3 1 7) [] (field (ty.Int (at 1 13)) (name 4 1 17) ∷ []) []
      ∷ [];
  methods =
      (top_method None (name 1 2 13) [] [] (need need_of.Exclusive (name 0 2 35) ∷ [])
      (Next (at 3 1) (Declares (ty.Object (perm_at.Unique (at 3 5)) (kind_at.Class (name 3 3 12) [])) (name 5 3 16)
      (Made (name 3 3 24) [] ((Number (pos 1) (at 3 28)) ∷ []) (at 3 20)))
      (Next (at 4 1) (Groups (name 6 4 7))
      (Next (at 5 1) (Shares (name 5 5 7) (name 6 5 14))
      (Next (at 6 1) (Splits ((name 6 6 7) ∷ []) 1
      (Next (at 6 11) (Prints (Binary op.Eq (Read (path (name 5 6 17) [])) (Nothing (at 6 22)))) End)) End)))))
      ∷ [];
  decls = decl.Class 0 ∷ decl.Method 0 ∷ [];
}

member_beside_null-accepted : Accepts member_beside_null
member_beside_null-accepted = refl

-- A member of another group is of a wrong form.
abbrev pub member_of_another_group : Code
member_of_another_group = record {
  names = codes "io" ∷ codes "main" ∷ codes "this" ∷ codes "Box" ∷ codes "v" ∷ codes "x" ∷ codes "g" ∷ codes "h"
      ∷ codes "y" ∷ [];
  classes =
      class_with (name 3 1 7) [] (field (ty.Int (at 1 13)) (name 4 1 17) ∷ []) []
      ∷ [];
  methods =
      (top_method None (name 1 2 13) [] [] (need need_of.Exclusive (name 0 2 35) ∷ [])
      (Next (at 3 1) (Declares (ty.Object (perm_at.Unique (at 3 5)) (kind_at.Class (name 3 3 12) [])) (name 5 3 16)
      (Made (name 3 3 24) [] ((Number (pos 1) (at 3 28)) ∷ []) (at 3 20)))
      (Next (at 4 1) (Groups (name 6 4 7))
      (Next (at 5 1) (Groups (name 7 5 7))
      (Next (at 6 1) (Shares (name 5 6 7) (name 6 6 14))
      (Next (at 7 1) (Declares (ty.Object (perm_at.Shared (at 7 5) (name 7 7 12)) (kind_at.Class (name 3 7 15) []))
      (name 8 7 19) (Value (Read (path (name 5 7 23) [])))) End))))))
      ∷ [];
  decls = decl.Class 0 ∷ decl.Method 0 ∷ [];
}

member_of_another_group-refused : FirstBroken member_of_another_group rule.TypeMismatch (at 7 23)
member_of_another_group-refused = refl

-- A new object is no member of a group.
abbrev pub new_into_a_group : Code
new_into_a_group = record {
  names = codes "io" ∷ codes "main" ∷ codes "this" ∷ codes "Box" ∷ codes "v" ∷ codes "g" ∷ codes "x" ∷ [];
  classes =
      class_with (name 3 1 7) [] (field (ty.Int (at 1 13)) (name 4 1 17) ∷ []) []
      ∷ [];
  methods =
      (top_method None (name 1 2 13) [] [] (need need_of.Exclusive (name 0 2 35) ∷ [])
      (Next (at 3 1) (Groups (name 5 3 7))
      (Next (at 4 1) (Declares (ty.Object (perm_at.Shared (at 4 5) (name 5 4 12)) (kind_at.Class (name 3 4 15) []))
      (name 6 4 19) (Made (name 3 4 27) [] ((Number (pos 1) (at 4 31)) ∷ []) (at 4 23))) End)))
      ∷ [];
  decls = decl.Class 0 ∷ decl.Method 0 ∷ [];
}

new_into_a_group-refused : FirstBroken new_into_a_group rule.NoPermission (at 4 23)
new_into_a_group-refused = refl

-- Inside a member a unique field is reached as the member is, and its own groups are the object's.
abbrev pub fields_in_a_group : Code
fields_in_a_group = record {
  names = codes "io" ∷ codes "main" ∷ codes "this" ∷ codes "Box" ∷ codes "v" ∷ codes "Node" ∷ codes "g"
      ∷ codes "b" ∷ codes "next" ∷ codes "m" ∷ codes "h" ∷ codes "x" ∷ [];
  classes =
      class_with (name 3 1 7) [] (field (ty.Int (at 1 13)) (name 4 1 17) ∷ []) []
      ∷ class_with (name 5 2 7) ((name 6 2 12) ∷ []) (field (ty.Int (at 2 17)) (name 4 2 21)
      ∷ field (ty.Object (perm_at.Unique (at 2 24)) (kind_at.Class (name 3 2 31) [])) (name 7 2 35)
      ∷ field (ty.Object (perm_at.Shared (at 2 38) (name 6 2 45)) (kind_at.Class (name 5 2 48) ((name 6 2 53) ∷ [])))
      (name 8 2 56) ∷ []) []
      ∷ [];
  methods =
      (top_method None (name 9 3 13) ((name 10 3 15) ∷ []) (param
      (ty.Object (perm_at.Shared (at 3 18) (name 10 3 25)) (kind_at.Class (name 5 3 28) ((name 10 3 33) ∷ [])))
      (name 11 3 36) ∷ []) (need need_of.Shared (name 10 3 51) ∷ [])
      (Next (at 4 1) (Locks (name 10 4 8) 1
      (Next (at 4 12) (Stores (path (name 11 4 12) ((name 7 4 14) ∷ (name 4 4 16) ∷ []))
      (Read (path (name 11 4 20) ((name 8 4 22) ∷ (name 8 4 27) ∷ (name 4 4 32) ∷ [])))) End)) End))
      ∷ (top_method None (name 1 6 13) [] [] []
      End)
      ∷ [];
  decls = decl.Class 0 ∷ decl.Class 1 ∷ decl.Method 0 ∷ decl.Method 1 ∷ [];
}

fields_in_a_group-accepted : Accepts fields_in_a_group
fields_in_a_group-accepted = refl

-- What is inside a member is not lent.
abbrev pub field_of_a_member_taken : Code
field_of_a_member_taken = record {
  names = codes "io" ∷ codes "main" ∷ codes "this" ∷ codes "Box" ∷ codes "v" ∷ codes "Node" ∷ codes "b"
      ∷ codes "see" ∷ codes "m" ∷ codes "h" ∷ codes "x" ∷ [];
  classes =
      class_with (name 3 1 7) [] (field (ty.Int (at 1 13)) (name 4 1 17) ∷ []) []
      ∷ class_with (name 5 2 7) [] (field (ty.Object (perm_at.Unique (at 2 14)) (kind_at.Class (name 3 2 21) []))
      (name 6 2 25) ∷ []) []
      ∷ [];
  methods =
      (top_method None (name 7 3 13) [] (param (ty.Object (perm_at.Lent (at 3 17)) (kind_at.Class (name 3 3 22) []))
      (name 6 3 26) ∷ []) []
      End)
      ∷ (top_method None (name 8 4 13) ((name 9 4 15) ∷ []) (param
      (ty.Object (perm_at.Shared (at 4 18) (name 9 4 25)) (kind_at.Class (name 5 4 28) [])) (name 10 4 33) ∷ [])
      (need need_of.Protected (name 9 4 51) ∷ [])
      (Next (at 4 55) (Calls (call (name 7 4 55) [] ((Read (path (name 10 4 59) ((name 6 4 61) ∷ []))) ∷ []))) End))
      ∷ (top_method None (name 1 5 13) [] [] []
      End)
      ∷ [];
  decls = decl.Class 0 ∷ decl.Class 1 ∷ decl.Method 0 ∷ decl.Method 1 ∷ decl.Method 2 ∷ [];
}

field_of_a_member_taken-refused : FirstBroken field_of_a_member_taken rule.NoPermission (at 4 59)
field_of_a_member_taken-refused = refl

-- A whole program: a tree is built, summed, and walked beside a counter in a group.
abbrev pub tree_and_counter : Code
tree_and_counter = record {
  names = codes "io" ∷ codes "main" ∷ codes "this" ∷ codes "Node" ∷ codes "v" ∷ codes "l" ∷ codes "r"
      ∷ codes "Count" ∷ codes "n" ∷ codes "build" ∷ codes "lo" ∷ codes "hi" ∷ codes "t" ∷ codes "m" ∷ codes "a"
      ∷ codes "b" ∷ codes "sum" ∷ codes "s" ∷ codes "odd" ∷ codes "g" ∷ codes "c" ∷ codes "args" ∷ [];
  classes =
      class_with (name 3 1 7) [] (field (ty.Int (at 1 14)) (name 4 1 18)
      ∷ field (ty.Object (perm_at.Unique (at 1 21)) (kind_at.Class (name 3 1 28) [])) (name 5 1 33)
      ∷ field (ty.Object (perm_at.Unique (at 1 36)) (kind_at.Class (name 3 1 43) [])) (name 6 1 48) ∷ []) []
      ∷ class_with (name 7 2 7) [] (field (ty.Int (at 2 15)) (name 8 2 19) ∷ []) []
      ∷ [];
  methods =
      (top_method (Some (ty.Object (perm_at.Unique (at 3 8)) (kind_at.Class (name 3 3 15) []))) (name 9 3 20) []
      (param (ty.Int (at 3 26)) (name 10 3 30) ∷ param (ty.Int (at 3 34)) (name 11 3 38) ∷ []) []
      (Next (at 4 1) (Declares (ty.Object (perm_at.Unique (at 4 5)) (kind_at.Class (name 3 4 12) [])) (name 12 4 17)
      (Value (Nothing (at 4 21))))
      (Next (at 5 1) (Chooses (Binary op.Lt (Read (path (name 10 5 4) [])) (Read (path (name 11 5 9) []))) 1
      (Next (at 6 1) (Declares (ty.Int (at 6 5)) (name 13 6 9) (Value
      (Binary op.Div (Grouped (Binary op.Add (Read (path (name 10 6 14) [])) (Read (path (name 11 6 19) []))) (at 6 13))
      (Number (pos 2) (at 6 25)))))
      (Next (at 7 1) (Declares (ty.Object (perm_at.Unique (at 7 5)) (kind_at.Class (name 3 7 12) [])) (name 14 7 17)
      (Returned (call (name 9 7 21) [] ((Read (path (name 10 7 27) [])) ∷ (Read (path (name 13 7 31) [])) ∷ []))))
      (Next (at 8 1) (Declares (ty.Object (perm_at.Unique (at 8 5)) (kind_at.Class (name 3 8 12) [])) (name 15 8 17)
      (Returned (call (name 9 8 21) [] ((Binary op.Add (Read (path (name 13 8 27) [])) (Number (pos 1) (at 8 31)))
      ∷ (Read (path (name 11 8 34) [])) ∷ []))))
      (Next (at 9 1) (Assigns (name 12 9 1) (Made (name 3 9 9) []
      ((Read (path (name 13 9 14) [])) ∷ (Read (path (name 14 9 17) [])) ∷ (Read (path (name 15 9 20) [])) ∷ [])
      (at 9 5))) End)))))
      (Next (at 11 1) (Returns (Read (path (name 12 11 8) []))) End))))
      ∷ (top_method (Some (ty.Int (at 13 8))) (name 16 13 12) []
      (param (ty.Object (perm_at.Lent (at 13 16)) (kind_at.Class (name 3 13 21) [])) (name 12 13 26) ∷ []) []
      (Next (at 14 1) (Declares (ty.Int (at 14 5)) (name 17 14 9) (Value (Number (pos 0) (at 14 13))))
      (Next (at 15 1) (Chooses (Binary op.Ne (Read (path (name 12 15 4) [])) (Nothing (at 15 9))) 1
      (Next (at 16 1) (Declares (ty.Int (at 16 5)) (name 14 16 9)
      (Returned (call (name 16 16 13) [] ((Read (path (name 12 16 17) ((name 5 16 19) ∷ []))) ∷ []))))
      (Next (at 17 1) (Declares (ty.Int (at 17 5)) (name 15 17 9)
      (Returned (call (name 16 17 13) [] ((Read (path (name 12 17 17) ((name 6 17 19) ∷ []))) ∷ []))))
      (Next (at 18 1) (Assigns (name 17 18 1) (Value (Binary op.Add
      (Binary op.Add (Read (path (name 12 18 5) ((name 4 18 7) ∷ []))) (Read (path (name 14 18 11) [])))
      (Read (path (name 15 18 15) []))))) End))))
      (Next (at 20 1) (Returns (Read (path (name 17 20 8) []))) End))))
      ∷ (top_method None (name 18 22 13) ((name 19 22 17) ∷ []) (param
      (ty.Object (perm_at.Lent (at 22 20)) (kind_at.Class (name 3 22 25) [])) (name 12 22 30)
      ∷ param (ty.Object (perm_at.Shared (at 22 33) (name 19 22 40)) (kind_at.Class (name 7 22 43) [])) (name 20 22 49)
      ∷ []) (need need_of.Shared (name 19 22 64) ∷ [])
      (Next (at 23 1) (Chooses (Binary op.Ne (Read (path (name 12 23 4) [])) (Nothing (at 23 9))) 1
      (Next (at 24 1) (Calls (call (name 18 24 1) ((name 19 24 5) ∷ [])
      ((Read (path (name 12 24 8) ((name 5 24 10) ∷ []))) ∷ (Read (path (name 20 24 13) [])) ∷ [])))
      (Next (at 25 1) (Calls (call (name 18 25 1) ((name 19 25 5) ∷ [])
      ((Read (path (name 12 25 8) ((name 6 25 10) ∷ []))) ∷ (Read (path (name 20 25 13) [])) ∷ [])))
      (Next (at 26 1) (Chooses (Binary op.Eq (Binary op.Rem (Read (path (name 12 26 4) ((name 4 26 6) ∷ [])))
      (Number (pos 2) (at 26 10))) (Number (pos 1) (at 26 15))) 2
      (Next (at 26 19) (Locks (name 19 26 26) 3
      (Next (at 26 30) (Stores (path (name 20 26 30) ((name 8 26 32) ∷ []))
      (Binary op.Add (Read (path (name 20 26 36) ((name 8 26 38) ∷ []))) (Number (pos 1) (at 26 42)))) End)) End))
      End)))) End))
      ∷ (top_method None (name 1 29 13) [] (param (ty.Object (perm_at.Unique (at 29 18)) (kind_at.Ints (at 29 25)))
      (name 21 29 30) ∷ []) (need need_of.Exclusive (name 0 29 51) ∷ [])
      (Next (at 30 1) (Declares (ty.Object (perm_at.Unique (at 30 5)) (kind_at.Class (name 3 30 12) [])) (name 12 30 17)
      (Returned (call (name 9 30 21) [] ((Number (pos 0) (at 30 27))
      ∷ (Item (path (name 21 30 30) []) (Number (pos 0) (at 30 35))) ∷ []))))
      (Next (at 31 1) (Declares (ty.Int (at 31 5)) (name 17 31 9)
      (Returned (call (name 16 31 13) [] ((Read (path (name 12 31 17) [])) ∷ []))))
      (Next (at 32 1) (Prints (Read (path (name 17 32 7) [])))
      (Next (at 33 1) (Groups (name 19 33 7))
      (Next (at 34 1) (Declares (ty.Object (perm_at.Unique (at 34 5)) (kind_at.Class (name 7 34 12) [])) (name 20 34 18)
      (Made (name 7 34 26) [] ((Number (pos 0) (at 34 32)) ∷ []) (at 34 22)))
      (Next (at 35 1) (Shares (name 20 35 7) (name 19 35 14))
      (Next (at 36 1) (Splits ((name 19 36 7) ∷ []) 1
      (Next (at 36 11) (Calls (call (name 18 36 11) ((name 19 36 15) ∷ [])
      ((Read (path (name 12 36 18) [])) ∷ (Read (path (name 20 36 21) [])) ∷ []))) End))
      (Next (at 37 1) (Prints (Read (path (name 20 37 7) ((name 8 37 9) ∷ [])))) End)))))))))
      ∷ [];
  decls = decl.Class 0 ∷ decl.Class 1 ∷ decl.Method 0 ∷ decl.Method 1 ∷ decl.Method 2 ∷ decl.Method 3 ∷ [];
}

tree_and_counter-accepted : Accepts tree_and_counter
tree_and_counter-accepted = refl
