-- A program for each use that no other worked program needs. Made by `tests/worked`.
use Rattle.std.specs.Prelude.{refl, pos, true, false, [], ◌∷◌, codes, None}
use Rattle.ae_tree.specs.declared.tree.PermAt.TheVariants as perm_at
use Rattle.ae_tree.specs.declared.tree.KindAt.TheVariants as kind_at
use Rattle.ae_tree.specs.declared.tree.Ty.TheVariants as ty
use Rattle.ae_tree.specs.declared.tree.Need.TheVariants as need_of
use Rattle.ae_tree.specs.declared.tree.Decl.TheVariants as decl
use Rattle.ae_tree.specs.Plain.{Code, Number, Truth, Read, Item, Length, Grouped, Negated, Minus}
use Rattle.ae_tree.specs.Plain.{Value, Zeros, Made, End, Next}
use Rattle.ae_tree.specs.Plain.{Declares, Stores, StoresAt, Calls, Chooses, ChoosesElse, Repeats, Groups, Splits, Locks}
use Rattle.ae_tree.specs.Plain.{Shares, Prints, PrintsText, Asserts}
use Rattle.ae_rules.specs.Judges.{Accepts}
use Rattle.ae_worked.proofs.ProgramWords.{at, name, path, call, field, class_with, param}
use Rattle.ae_worked.proofs.ProgramWords.{need, top_method}

-- A path through members of two groups reaches both.
abbrev pub path_through_two_groups : Code
path_through_two_groups = record {
  names = codes "io" ∷ codes "main" ∷ codes "this" ∷ codes "B" ∷ codes "v" ∷ codes "A" ∷ codes "h" ∷ codes "n"
      ∷ codes "f" ∷ codes "g" ∷ codes "x" ∷ [];
  classes =
      class_with (name 3 1 7) [] (field (ty.Int (at 1 11)) (name 4 1 15) ∷ []) []
      ∷ class_with (name 5 1 26) ((name 6 1 28) ∷ []) (field (ty.Object (perm_at.Shared (at 1 33) (name 6 1 40))
      (kind_at.Class (name 3 1 43) [])) (name 7 1 45) ∷ []) []
      ∷ [];
  methods =
      (top_method None (name 8 1 62) ((name 9 1 64) ∷ (name 6 1 67) ∷ [])
      (param (ty.Object (perm_at.Shared (at 1 70) (name 9 1 77)) (kind_at.Class (name 5 1 80) ((name 6 1 82) ∷ [])))
      (name 10 1 85) ∷ []) (need need_of.Exclusive (name 9 1 103) ∷ need need_of.Exclusive (name 6 1 116) ∷ [])
      (Next (at 1 120) (Stores (path (name 10 1 120) ((name 7 1 122) ∷ (name 4 1 124) ∷ []))
      (Number (pos 1) (at 1 128))) End))
      ∷ (top_method None (name 1 1 145) [] [] []
      End)
      ∷ [];
  decls = decl.Class 0 ∷ decl.Class 1 ∷ decl.Method 0 ∷ decl.Method 1 ∷ [];
}

path_through_two_groups-accepted : Accepts path_through_two_groups
path_through_two_groups-accepted = refl

-- The walk of an argument reaches the member in which it lies.
abbrev pub argument_inside_a_member : Code
argument_inside_a_member = record {
  names = codes "io" ∷ codes "main" ∷ codes "this" ∷ codes "C" ∷ codes "M" ∷ codes "c" ∷ codes "f" ∷ codes "m"
      ∷ codes "g" ∷ codes "x" ∷ [];
  classes =
      class_with (name 3 1 7) [] [] []
      ∷ class_with (name 4 1 19) [] (field (ty.Object (perm_at.Immutable (at 1 23)) (kind_at.Class (name 3 1 33) []))
      (name 5 1 35) ∷ []) []
      ∷ [];
  methods =
      (top_method None (name 6 1 52) [] (param (ty.Object (perm_at.Immutable (at 1 54))
      (kind_at.Class (name 3 1 64) [])) (name 5 1 66) ∷ []) []
      End)
      ∷ (top_method None (name 7 1 85) ((name 8 1 87) ∷ []) (param
      (ty.Object (perm_at.Shared (at 1 90) (name 8 1 97)) (kind_at.Class (name 4 1 100) [])) (name 9 1 102) ∷ [])
      (need need_of.Exclusive (name 8 1 120) ∷ [])
      (Next (at 1 124) (Calls (call (name 6 1 124) [] ((Read (path (name 9 1 126) ((name 5 1 128) ∷ []))) ∷ []))) End))
      ∷ (top_method None (name 1 1 146) [] [] []
      End)
      ∷ [];
  decls = decl.Class 0 ∷ decl.Class 1 ∷ decl.Method 0 ∷ decl.Method 1 ∷ decl.Method 2 ∷ [];
}

argument_inside_a_member-accepted : Accepts argument_inside_a_member
argument_inside_a_member-accepted = refl

-- An index is read, in an expression and where an item is set, and so is what is set.
abbrev pub index_is_read : Code
index_is_read = record {
  names = codes "io" ∷ codes "main" ∷ codes "this" ∷ codes "f" ∷ codes "a" ∷ codes "i" ∷ codes "n" ∷ codes "m"
      ∷ [];
  classes = [];
  methods =
      (top_method None (name 3 1 13) [] (param (ty.Object (perm_at.Unique (at 1 15)) (kind_at.Ints (at 1 22)))
      (name 4 1 27) ∷ param (ty.Int (at 1 30)) (name 5 1 34) ∷ param (ty.Int (at 1 37)) (name 6 1 41) ∷ []) []
      (Next (at 1 46) (Declares (ty.Int (at 1 50)) (name 7 1 54)
      (Value (Item (path (name 4 1 58) []) (Read (path (name 5 1 60) [])))))
      (Next (at 1 64) (StoresAt (path (name 4 1 64) []) (Read (path (name 5 1 66) [])) (Read (path (name 6 1 71) [])))
      End)))
      ∷ (top_method None (name 1 1 88) [] [] []
      End)
      ∷ [];
  decls = decl.Method 0 ∷ decl.Method 1 ∷ [];
}

index_is_read-accepted : Accepts index_is_read
index_is_read-accepted = refl

-- An item and the length of an array reach the group in which it is.
abbrev pub array_of_a_group_reached : Code
array_of_a_group_reached = record {
  names = codes "io" ∷ codes "main" ∷ codes "this" ∷ codes "f" ∷ codes "g" ∷ codes "a" ∷ codes "n" ∷ codes "m"
      ∷ [];
  classes = [];
  methods =
      (top_method None (name 3 1 13) ((name 4 1 15) ∷ []) (param
      (ty.Object (perm_at.Shared (at 1 18) (name 4 1 25)) (kind_at.Ints (at 1 28))) (name 5 1 33) ∷ [])
      (need need_of.Exclusive (name 4 1 51) ∷ [])
      (Next (at 1 55) (Declares (ty.Int (at 1 59)) (name 6 1 63)
      (Value (Item (path (name 5 1 67) []) (Number (pos 0) (at 1 69)))))
      (Next (at 1 73) (Declares (ty.Int (at 1 77)) (name 7 1 81) (Value (Length (path (name 5 1 89) []) (at 1 85))))
      End)))
      ∷ (top_method None (name 1 1 106) [] [] []
      End)
      ∷ [];
  decls = decl.Method 0 ∷ decl.Method 1 ∷ [];
}

array_of_a_group_reached-accepted : Accepts array_of_a_group_reached
array_of_a_group_reached-accepted = refl

-- The length of a new array is read.
abbrev pub length_is_read : Code
length_is_read = record {
  names = codes "io" ∷ codes "main" ∷ codes "this" ∷ codes "f" ∷ codes "n" ∷ codes "a" ∷ [];
  classes = [];
  methods =
      (top_method None (name 3 1 13) [] (param (ty.Int (at 1 15)) (name 4 1 19) ∷ []) []
      (Next (at 1 24) (Declares (ty.Object (perm_at.Unique (at 1 28)) (kind_at.Ints (at 1 35))) (name 5 1 40)
      (Zeros (Read (path (name 4 1 53) [])) (at 1 44))) End))
      ∷ (top_method None (name 1 1 71) [] [] []
      End)
      ∷ [];
  decls = decl.Method 0 ∷ decl.Method 1 ∷ [];
}

length_is_read-accepted : Accepts length_is_read
length_is_read-accepted = refl

-- Conditions and operands below an operator are read.
abbrev pub conditions_are_read : Code
conditions_are_read = record {
  names = codes "io" ∷ codes "main" ∷ codes "this" ∷ codes "f" ∷ codes "b" ∷ codes "n" ∷ codes "x" ∷ codes "y"
      ∷ [];
  classes = [];
  methods =
      (top_method None (name 3 1 13) [] (param (ty.Bool (at 1 15)) (name 4 1 20)
      ∷ param (ty.Int (at 1 23)) (name 5 1 27) ∷ []) []
      (Next (at 1 32) (Chooses (Read (path (name 4 1 35) [])) 1
      End)
      (Next (at 1 41) (ChoosesElse (Read (path (name 4 1 44) [])) 2
      End 3
      End)
      (Next (at 1 59) (Repeats (Read (path (name 4 1 65) [])) 4
      End)
      (Next (at 1 71) (Asserts (Read (path (name 4 1 78) [])))
      (Next (at 1 81) (Asserts (Negated (Read (path (name 4 1 89) [])) (at 1 88)))
      (Next (at 1 92) (Declares (ty.Int (at 1 96)) (name 6 1 100)
      (Value (Minus (Read (path (name 5 1 105) [])) (at 1 104))))
      (Next (at 1 108) (Declares (ty.Int (at 1 112)) (name 7 1 116)
      (Value (Grouped (Read (path (name 5 1 121) [])) (at 1 120)))) End))))))))
      ∷ (top_method None (name 1 1 139) [] [] []
      End)
      ∷ [];
  decls = decl.Method 0 ∷ decl.Method 1 ∷ [];
}

conditions_are_read-accepted : Accepts conditions_are_read
conditions_are_read-accepted = refl

-- What a block declares counts for nothing outside.
abbrev pub locals_of_blocks : Code
locals_of_blocks = record {
  names = codes "io" ∷ codes "main" ∷ codes "this" ∷ codes "f" ∷ codes "g" ∷ codes "t" ∷ codes "s" ∷ [];
  classes = [];
  methods =
      (top_method None (name 3 1 13) ((name 4 1 15) ∷ []) [] (need need_of.Exclusive (name 4 1 35) ∷ [])
      (Next (at 1 39) (Chooses (Truth true (at 1 42)) 1
      (Next (at 1 49) (Declares (ty.Int (at 1 53)) (name 5 1 57) (Value (Number (pos 1) (at 1 61)))) End))
      (Next (at 1 66) (ChoosesElse (Truth true (at 1 69)) 2
      (Next (at 1 76) (Declares (ty.Int (at 1 80)) (name 5 1 84) (Value (Number (pos 1) (at 1 88)))) End) 3
      (Next (at 1 100) (Declares (ty.Int (at 1 104)) (name 6 1 108) (Value (Number (pos 1) (at 1 112)))) End))
      (Next (at 1 117) (Repeats (Truth false (at 1 123)) 4
      (Next (at 1 131) (Declares (ty.Int (at 1 135)) (name 5 1 139) (Value (Number (pos 1) (at 1 143)))) End))
      (Next (at 1 148) (Splits ((name 4 1 154) ∷ []) 5
      (Next (at 1 158) (Declares (ty.Int (at 1 162)) (name 5 1 166) (Value (Number (pos 1) (at 1 170))))
      (Next (at 1 173) (Locks (name 4 1 180) 6
      (Next (at 1 184) (Declares (ty.Int (at 1 188)) (name 6 1 192) (Value (Number (pos 1) (at 1 196)))) End)) End)))
      End)))))
      ∷ (top_method None (name 1 1 217) [] [] []
      End)
      ∷ [];
  decls = decl.Method 0 ∷ decl.Method 1 ∷ [];
}

locals_of_blocks-accepted : Accepts locals_of_blocks
locals_of_blocks-accepted = refl

-- One object is lent both ways, written, shared and printed.
abbrev pub each_way_to_use : Code
each_way_to_use = record {
  names = codes "io" ∷ codes "main" ∷ codes "this" ∷ codes "Box" ∷ codes "v" ∷ codes "put" ∷ codes "b"
      ∷ codes "get" ∷ codes "x" ∷ codes "g" ∷ [];
  classes =
      class_with (name 3 1 7) [] (field (ty.Int (at 1 13)) (name 4 1 17) ∷ []) []
      ∷ [];
  methods =
      (top_method None (name 5 1 34) [] (param (ty.Object (perm_at.Unique (at 1 38)) (kind_at.Class (name 3 1 45) []))
      (name 6 1 49) ∷ []) []
      End)
      ∷ (top_method None (name 7 1 68) [] (param (ty.Object (perm_at.Lent (at 1 72)) (kind_at.Class (name 3 1 77) []))
      (name 6 1 81) ∷ []) []
      End)
      ∷ (top_method None (name 1 1 100) [] [] (need need_of.Exclusive (name 0 1 122) ∷ [])
      (Next (at 1 127) (Declares (ty.Object (perm_at.Unique (at 1 131)) (kind_at.Class (name 3 1 138) []))
      (name 8 1 142) (Made (name 3 1 150) [] ((Number (pos 1) (at 1 154)) ∷ []) (at 1 146)))
      (Next (at 1 158) (Calls (call (name 5 1 158) [] ((Read (path (name 8 1 162) [])) ∷ [])))
      (Next (at 1 166) (Calls (call (name 7 1 166) [] ((Read (path (name 8 1 170) [])) ∷ [])))
      (Next (at 1 174) (Stores (path (name 8 1 174) ((name 4 1 176) ∷ [])) (Number (pos 2) (at 1 180)))
      (Next (at 1 183) (Groups (name 9 1 189))
      (Next (at 1 192) (Shares (name 8 1 198) (name 9 1 205))
      (Next (at 1 208) (Prints (Read (path (name 8 1 214) ((name 4 1 216) ∷ []))))
      (Next (at 1 219) (PrintsText (codes "a")) End)))))))))
      ∷ [];
  decls = decl.Class 0 ∷ decl.Method 0 ∷ decl.Method 1 ∷ decl.Method 2 ∷ [];
}

each_way_to_use-accepted : Accepts each_way_to_use
each_way_to_use-accepted = refl
