-- Objects that are made, moved, taken and given back. Made by `tests/worked`.
use Rattle.std.specs.Prelude.{refl, pos, [], ◌∷◌, codes, None, Some}
use Rattle.ae_tree.specs.declared.tree.PermAt.TheVariants as perm_at
use Rattle.ae_tree.specs.declared.tree.KindAt.TheVariants as kind_at
use Rattle.ae_tree.specs.declared.tree.Ty.TheVariants as ty
use Rattle.ae_tree.specs.declared.tree.Op.TheVariants as op
use Rattle.ae_tree.specs.declared.tree.Need.TheVariants as need_of
use Rattle.ae_tree.specs.declared.tree.Decl.TheVariants as decl
use Rattle.ae_tree.specs.Plain.{Code, Number, Nothing, Read, Binary}
use Rattle.ae_tree.specs.Plain.{Value, Taken, Made, Returned, End, Next}
use Rattle.ae_tree.specs.Plain.{Declares, Assigns, Stores, Calls, Chooses, Groups}
use Rattle.ae_tree.specs.Plain.{Shares, Prints, Returns}
use Rattle.ae_rules.specs.Judges.{Accepts}
use Rattle.ae_worked.proofs.ProgramWords.{at, name, path, call, call_on, field, class_with, param}
use Rattle.ae_worked.proofs.ProgramWords.{need, top_method, class_method}

-- A name moves when all operands of its statement are read.
abbrev pub read_before_moved : Code
read_before_moved = record {
  names = codes "io" ∷ codes "main" ∷ codes "this" ∷ codes "Box" ∷ codes "v" ∷ codes "Pair" ∷ codes "b"
      ∷ codes "x" ∷ codes "p" ∷ [];
  classes =
      class_with (name 3 1 7) [] (field (ty.Int (at 1 13)) (name 4 1 17) ∷ []) []
      ∷ class_with (name 5 2 7) [] (field (ty.Object (perm_at.Unique (at 2 14)) (kind_at.Class (name 3 2 21) []))
      (name 6 2 25) ∷ field (ty.Int (at 2 28)) (name 4 2 32) ∷ []) []
      ∷ [];
  methods =
      (top_method None (name 1 3 13) [] [] (need need_of.Exclusive (name 0 3 35) ∷ [])
      (Next (at 4 1) (Declares (ty.Object (perm_at.Unique (at 4 5)) (kind_at.Class (name 3 4 12) [])) (name 7 4 16)
      (Made (name 3 4 24) [] ((Number (pos 4) (at 4 28)) ∷ []) (at 4 20)))
      (Next (at 5 1) (Declares (ty.Object (perm_at.Unique (at 5 5)) (kind_at.Class (name 5 5 12) [])) (name 8 5 17)
      (Made (name 5 5 25) [] ((Read (path (name 7 5 30) [])) ∷ (Read (path (name 7 5 33) ((name 4 5 35) ∷ []))) ∷ [])
      (at 5 21)))
      (Next (at 6 1) (Prints (Read (path (name 8 6 7) ((name 4 6 9) ∷ []))))
      (Next (at 7 1) (Prints (Read (path (name 8 7 7) ((name 6 7 9) ∷ (name 4 7 11) ∷ [])))) End)))))
      ∷ [];
  decls = decl.Class 0 ∷ decl.Class 1 ∷ decl.Method 0 ∷ [];
}

read_before_moved-accepted : Accepts read_before_moved
read_before_moved-accepted = refl

-- A field that was taken is null.
abbrev pub taken_field : Code
taken_field = record {
  names = codes "io" ∷ codes "main" ∷ codes "this" ∷ codes "Box" ∷ codes "v" ∷ codes "Cell" ∷ codes "b"
      ∷ codes "c" ∷ codes "d" ∷ [];
  classes =
      class_with (name 3 1 7) [] (field (ty.Int (at 1 13)) (name 4 1 17) ∷ []) []
      ∷ class_with (name 5 2 7) [] (field (ty.Object (perm_at.Unique (at 2 14)) (kind_at.Class (name 3 2 21) []))
      (name 6 2 25) ∷ []) []
      ∷ [];
  methods =
      (top_method None (name 1 3 13) [] [] (need need_of.Exclusive (name 0 3 35) ∷ [])
      (Next (at 4 1) (Declares (ty.Object (perm_at.Unique (at 4 5)) (kind_at.Class (name 5 4 12) [])) (name 7 4 17)
      (Made (name 5 4 25) [] ((Nothing (at 4 30)) ∷ []) (at 4 21)))
      (Next (at 5 1) (Declares (ty.Object (perm_at.Unique (at 5 5)) (kind_at.Class (name 3 5 12) [])) (name 6 5 16)
      (Made (name 3 5 24) [] ((Number (pos 3) (at 5 28)) ∷ []) (at 5 20)))
      (Next (at 6 1) (Stores (path (name 7 6 1) ((name 6 6 3) ∷ [])) (Read (path (name 6 6 7) [])))
      (Next (at 7 1) (Declares (ty.Object (perm_at.Unique (at 7 5)) (kind_at.Class (name 3 7 12) [])) (name 8 7 16)
      (Taken (path (name 7 7 25) ((name 6 7 27) ∷ [])) (at 7 20)))
      (Next (at 8 1) (Prints (Binary op.Eq (Read (path (name 7 8 7) ((name 6 8 9) ∷ []))) (Nothing (at 8 14))))
      (Next (at 9 1) (Prints (Read (path (name 8 9 7) ((name 4 9 9) ∷ [])))) End)))))))
      ∷ [];
  decls = decl.Class 0 ∷ decl.Class 1 ∷ decl.Method 0 ∷ [];
}

taken_field-accepted : Accepts taken_field
taken_field-accepted = refl

-- A part of an object that is lent uniquely comes back to its place.
abbrev pub part_comes_back : Code
part_comes_back = record {
  names = codes "io" ∷ codes "main" ∷ codes "this" ∷ codes "Box" ∷ codes "v" ∷ codes "Cell" ∷ codes "b"
      ∷ codes "fill" ∷ codes "n" ∷ codes "c" ∷ [];
  classes =
      class_with (name 3 1 7) [] (field (ty.Int (at 1 13)) (name 4 1 17) ∷ []) []
      ∷ class_with (name 5 2 7) [] (field (ty.Object (perm_at.Unique (at 2 14)) (kind_at.Class (name 3 2 21) []))
      (name 6 2 25) ∷ []) []
      ∷ [];
  methods =
      (top_method None (name 7 3 13) [] (param (ty.Object (perm_at.Unique (at 3 18)) (kind_at.Class (name 3 3 25) []))
      (name 6 3 29) ∷ param (ty.Int (at 3 32)) (name 8 3 36) ∷ []) []
      (Next (at 3 41) (Assigns (name 6 3 41) (Made (name 3 3 49) [] ((Read (path (name 8 3 53) [])) ∷ []) (at 3 45)))
      End))
      ∷ (top_method None (name 1 4 13) [] [] (need need_of.Exclusive (name 0 4 35) ∷ [])
      (Next (at 5 1) (Declares (ty.Object (perm_at.Unique (at 5 5)) (kind_at.Class (name 5 5 12) [])) (name 9 5 17)
      (Made (name 5 5 25) [] ((Nothing (at 5 30)) ∷ []) (at 5 21)))
      (Next (at 6 1) (Calls (call (name 7 6 1) [] ((Read (path (name 9 6 6) ((name 6 6 8) ∷ [])))
      ∷ (Number (pos 6) (at 6 11)) ∷ [])))
      (Next (at 7 1) (Prints (Read (path (name 9 7 7) ((name 6 7 9) ∷ (name 4 7 11) ∷ [])))) End))))
      ∷ [];
  decls = decl.Class 0 ∷ decl.Class 1 ∷ decl.Method 0 ∷ decl.Method 1 ∷ [];
}

part_comes_back-accepted : Accepts part_comes_back
part_comes_back-accepted = refl

-- Values come back first, and then the result goes to its target.
abbrev pub result_stays : Code
result_stays = record {
  names = codes "io" ∷ codes "main" ∷ codes "this" ∷ codes "Box" ∷ codes "v" ∷ codes "next" ∷ codes "b"
      ∷ codes "c" ∷ codes "x" ∷ codes "y" ∷ [];
  classes =
      class_with (name 3 1 7) [] (field (ty.Int (at 1 13)) (name 4 1 17) ∷ []) []
      ∷ [];
  methods =
      (top_method (Some (ty.Object (perm_at.Unique (at 2 8)) (kind_at.Class (name 3 2 15) []))) (name 5 2 19) []
      (param (ty.Object (perm_at.Unique (at 2 24)) (kind_at.Class (name 3 2 31) [])) (name 6 2 35) ∷ []) []
      (Next (at 3 1) (Declares (ty.Object (perm_at.Unique (at 3 5)) (kind_at.Class (name 3 3 12) [])) (name 7 3 16)
      (Made (name 3 3 24) [] ((Binary op.Add (Read (path (name 6 3 28) ((name 4 3 30) ∷ [])))
      (Number (pos 1) (at 3 34))) ∷ []) (at 3 20)))
      (Next (at 4 1) (Stores (path (name 6 4 1) ((name 4 4 3) ∷ [])) (Number (pos 7) (at 4 7)))
      (Next (at 5 1) (Returns (Read (path (name 7 5 8) []))) End))))
      ∷ (top_method None (name 1 7 13) [] [] (need need_of.Exclusive (name 0 7 35) ∷ [])
      (Next (at 8 1) (Declares (ty.Object (perm_at.Unique (at 8 5)) (kind_at.Class (name 3 8 12) [])) (name 8 8 16)
      (Made (name 3 8 24) [] ((Number (pos 1) (at 8 28)) ∷ []) (at 8 20)))
      (Next (at 9 1) (Declares (ty.Object (perm_at.Unique (at 9 5)) (kind_at.Class (name 3 9 12) [])) (name 9 9 16)
      (Returned (call (name 5 9 20) [] ((Read (path (name 8 9 25) [])) ∷ []))))
      (Next (at 10 1) (Prints (Read (path (name 8 10 7) ((name 4 10 9) ∷ []))))
      (Next (at 11 1) (Prints (Read (path (name 9 11 7) ((name 4 11 9) ∷ [])))) End)))))
      ∷ [];
  decls = decl.Class 0 ∷ decl.Method 0 ∷ decl.Method 1 ∷ [];
}

result_stays-accepted : Accepts result_stays
result_stays-accepted = refl

-- A method that calls itself sums a tree.
abbrev pub tree_of_calls : Code
tree_of_calls = record {
  names = codes "io" ∷ codes "main" ∷ codes "this" ∷ codes "Node" ∷ codes "v" ∷ codes "l" ∷ codes "r"
      ∷ codes "sum" ∷ codes "t" ∷ codes "s" ∷ codes "a" ∷ codes "b" ∷ [];
  classes =
      class_with (name 3 1 7) [] (field (ty.Int (at 1 14)) (name 4 1 18)
      ∷ field (ty.Object (perm_at.Unique (at 1 21)) (kind_at.Class (name 3 1 28) [])) (name 5 1 33)
      ∷ field (ty.Object (perm_at.Unique (at 1 36)) (kind_at.Class (name 3 1 43) [])) (name 6 1 48) ∷ []) []
      ∷ [];
  methods =
      (top_method (Some (ty.Int (at 2 8))) (name 7 2 12) [] (param
      (ty.Object (perm_at.Lent (at 2 16)) (kind_at.Class (name 3 2 21) [])) (name 8 2 26) ∷ []) []
      (Next (at 3 1) (Declares (ty.Int (at 3 5)) (name 9 3 9) (Value (Number (pos 0) (at 3 13))))
      (Next (at 4 1) (Chooses (Binary op.Ne (Read (path (name 8 4 4) [])) (Nothing (at 4 9))) 1
      (Next (at 5 1) (Declares (ty.Int (at 5 5)) (name 10 5 9) (Returned
      (call (name 7 5 13) [] ((Read (path (name 8 5 17) ((name 5 5 19) ∷ []))) ∷ []))))
      (Next (at 6 1) (Declares (ty.Int (at 6 5)) (name 11 6 9) (Returned
      (call (name 7 6 13) [] ((Read (path (name 8 6 17) ((name 6 6 19) ∷ []))) ∷ []))))
      (Next (at 7 1) (Assigns (name 9 7 1) (Value (Binary op.Add
      (Binary op.Add (Read (path (name 8 7 5) ((name 4 7 7) ∷ []))) (Read (path (name 10 7 11) [])))
      (Read (path (name 11 7 15) []))))) End))))
      (Next (at 9 1) (Returns (Read (path (name 9 9 8) []))) End))))
      ∷ (top_method None (name 1 11 13) [] [] (need need_of.Exclusive (name 0 11 35) ∷ [])
      (Next (at 12 1) (Declares (ty.Object (perm_at.Unique (at 12 5)) (kind_at.Class (name 3 12 12) [])) (name 10 12 17)
      (Made (name 3 12 25) [] ((Number (pos 1) (at 12 30)) ∷ (Nothing (at 12 33)) ∷ (Nothing (at 12 39)) ∷ [])
      (at 12 21)))
      (Next (at 13 1) (Declares (ty.Object (perm_at.Unique (at 13 5)) (kind_at.Class (name 3 13 12) [])) (name 11 13 17)
      (Made (name 3 13 25) [] ((Number (pos 2) (at 13 30)) ∷ (Read (path (name 10 13 33) [])) ∷ (Nothing (at 13 36))
      ∷ []) (at 13 21)))
      (Next (at 14 1) (Declares (ty.Int (at 14 5)) (name 9 14 9)
      (Returned (call (name 7 14 13) [] ((Read (path (name 11 14 17) [])) ∷ []))))
      (Next (at 15 1) (Prints (Read (path (name 9 15 7) []))) End)))))
      ∷ [];
  decls = decl.Class 0 ∷ decl.Method 0 ∷ decl.Method 1 ∷ [];
}

tree_of_calls-accepted : Accepts tree_of_calls
tree_of_calls-accepted = refl

-- A class's method changes its receiver.
abbrev pub receiver_counts_up : Code
receiver_counts_up = record {
  names = codes "io" ∷ codes "main" ∷ codes "this" ∷ codes "Count" ∷ codes "n" ∷ codes "add" ∷ codes "k"
      ∷ codes "c" ∷ [];
  classes =
      class_with (name 3 1 7) [] (field (ty.Int (at 2 1)) (name 4 2 5) ∷ []) (0 ∷ [])
      ∷ [];
  methods =
      (class_method 0 (record { perm = (perm_at.Unique (at 3 17)); at = (at 3 24); away = None }) None (name 5 3 13) []
      (param (ty.Int (at 3 30)) (name 6 3 34) ∷ []) []
      (Next (at 3 39) (Stores (path (name 2 3 39) ((name 4 3 44) ∷ []))
      (Binary op.Add (Read (path (name 2 3 48) ((name 4 3 53) ∷ []))) (Read (path (name 6 3 57) [])))) End))
      ∷ (top_method None (name 1 5 13) [] [] (need need_of.Exclusive (name 0 5 35) ∷ [])
      (Next (at 6 1) (Declares (ty.Object (perm_at.Unique (at 6 5)) (kind_at.Class (name 3 6 12) [])) (name 7 6 18)
      (Made (name 3 6 26) [] ((Number (pos 1) (at 6 32)) ∷ []) (at 6 22)))
      (Next (at 7 1) (Calls (call_on (path (name 7 7 1) []) (name 5 7 3) []
      ((Read (path (name 7 7 7) ((name 4 7 9) ∷ []))) ∷ [])))
      (Next (at 8 1) (Prints (Read (path (name 7 8 7) ((name 4 8 9) ∷ [])))) End))))
      ∷ [];
  decls = decl.Class 0 ∷ decl.Method 1 ∷ [];
}

receiver_counts_up-accepted : Accepts receiver_counts_up
receiver_counts_up-accepted = refl

-- An object that is shared is a member of its group, and is reached by two references.
abbrev pub member_of_a_group : Code
member_of_a_group = record {
  names = codes "io" ∷ codes "main" ∷ codes "this" ∷ codes "Box" ∷ codes "v" ∷ codes "g" ∷ codes "x" ∷ codes "y"
      ∷ [];
  classes =
      class_with (name 3 1 7) [] (field (ty.Int (at 1 13)) (name 4 1 17) ∷ []) []
      ∷ [];
  methods =
      (top_method None (name 1 2 13) [] [] (need need_of.Exclusive (name 0 2 35) ∷ [])
      (Next (at 3 1) (Groups (name 5 3 7))
      (Next (at 4 1) (Declares (ty.Object (perm_at.Unique (at 4 5)) (kind_at.Class (name 3 4 12) [])) (name 6 4 16)
      (Made (name 3 4 24) [] ((Number (pos 1) (at 4 28)) ∷ []) (at 4 20)))
      (Next (at 5 1) (Shares (name 6 5 7) (name 5 5 14))
      (Next (at 6 1) (Declares (ty.Object (perm_at.Shared (at 6 5) (name 5 6 12)) (kind_at.Class (name 3 6 15) []))
      (name 7 6 19) (Value (Read (path (name 6 6 23) []))))
      (Next (at 7 1) (Stores (path (name 7 7 1) ((name 4 7 3) ∷ [])) (Number (pos 5) (at 7 7)))
      (Next (at 8 1) (Prints (Read (path (name 6 8 7) ((name 4 8 9) ∷ [])))) End)))))))
      ∷ [];
  decls = decl.Class 0 ∷ decl.Method 0 ∷ [];
}

member_of_a_group-accepted : Accepts member_of_a_group
member_of_a_group-accepted = refl
