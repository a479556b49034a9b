-- Uses of locals and objects. Made by `tests/worked`.
use Rattle.std.specs.Prelude.{refl, pos, true, [], ◌∷◌, codes, None, Some}
use Rattle.ae_tree.specs.declared.tree.PermAt.TheVariants as perm_at
use Rattle.ae_tree.specs.declared.tree.KindAt.TheVariants as kind_at
use Rattle.ae_tree.specs.declared.tree.Ty.TheVariants as ty
use Rattle.ae_tree.specs.declared.tree.Op.TheVariants as op
use Rattle.ae_tree.specs.declared.tree.Need.TheVariants as need_of
use Rattle.ae_tree.specs.declared.tree.Decl.TheVariants as decl
use Rattle.ae_tree.specs.Plain.{Code, Number, Truth, Nothing, Read, Item, Length, Binary}
use Rattle.ae_tree.specs.Plain.{Value, Taken, Zeros, Made, Returned, End, Next}
use Rattle.ae_tree.specs.Plain.{Declares, Assigns, Stores, StoresAt, Calls, Chooses, ChoosesElse, Repeats}
use Rattle.ae_tree.specs.Plain.{Freezes, Prints, Returns}
use Rattle.ae_rules.specs.Judges.{Accepts}
use Rattle.ae_worked.proofs.ProgramWords.{at, name, path, call, call_on, field, class_with, param}
use Rattle.ae_worked.proofs.ProgramWords.{need, top_method, class_method}

-- Two locals do not wait for each other, and what is printed waits for both.
abbrev pub two_locals : Code
two_locals = record {
  names = codes "io" ∷ codes "main" ∷ codes "this" ∷ codes "a" ∷ codes "b" ∷ [];
  classes = [];
  methods =
      (top_method None (name 1 1 13) [] [] (need need_of.Exclusive (name 0 1 35) ∷ [])
      (Next (at 2 1) (Declares (ty.Int (at 2 5)) (name 3 2 9) (Value (Number (pos 2) (at 2 13))))
      (Next (at 3 1) (Declares (ty.Int (at 3 5)) (name 4 3 9) (Value (Number (pos 3) (at 3 13))))
      (Next (at 4 1) (Prints (Binary op.Add (Read (path (name 3 4 7) [])) (Read (path (name 4 4 11) [])))) End))))
      ∷ [];
  decls = decl.Method 0 ∷ [];
}

two_locals-accepted : Accepts two_locals
two_locals-accepted = refl

-- Two calls that an object is lent to may run together; a call that changes it waits for both.
abbrev pub lent_twice_then_changed : Code
lent_twice_then_changed = record {
  names = codes "io" ∷ codes "main" ∷ codes "this" ∷ codes "Box" ∷ codes "v" ∷ codes "get" ∷ codes "b"
      ∷ codes "put" ∷ codes "n" ∷ codes "x" ∷ codes "p" ∷ codes "q" ∷ [];
  classes =
      class_with (name 3 1 7) [] (field (ty.Int (at 1 13)) (name 4 1 17) ∷ []) []
      ∷ [];
  methods =
      (top_method (Some (ty.Int (at 2 8))) (name 5 2 12) [] (param
      (ty.Object (perm_at.Lent (at 2 16)) (kind_at.Class (name 3 2 21) [])) (name 6 2 25) ∷ []) []
      (Next (at 2 30) (Returns (Read (path (name 6 2 37) ((name 4 2 39) ∷ [])))) End))
      ∷ (top_method None (name 7 3 13) [] (param (ty.Object (perm_at.Unique (at 3 17)) (kind_at.Class (name 3 3 24) []))
      (name 6 3 28) ∷ param (ty.Int (at 3 31)) (name 8 3 35) ∷ []) []
      (Next (at 3 40) (Stores (path (name 6 3 40) ((name 4 3 42) ∷ [])) (Read (path (name 8 3 46) []))) End))
      ∷ (top_method None (name 1 4 13) [] [] (need need_of.Exclusive (name 0 4 35) ∷ [])
      (Next (at 5 1) (Declares (ty.Object (perm_at.Unique (at 5 5)) (kind_at.Class (name 3 5 12) [])) (name 9 5 16)
      (Made (name 3 5 24) [] ((Number (pos 1) (at 5 28)) ∷ []) (at 5 20)))
      (Next (at 6 1) (Declares (ty.Int (at 6 5)) (name 10 6 9) (Returned
      (call (name 5 6 13) [] ((Read (path (name 9 6 17) [])) ∷ []))))
      (Next (at 7 1) (Declares (ty.Int (at 7 5)) (name 11 7 9) (Returned
      (call (name 5 7 13) [] ((Read (path (name 9 7 17) [])) ∷ []))))
      (Next (at 8 1) (Calls (call (name 7 8 1) [] ((Read (path (name 9 8 5) []))
      ∷ (Binary op.Add (Read (path (name 10 8 8) [])) (Read (path (name 11 8 12) []))) ∷ [])))
      (Next (at 9 1) (Prints (Read (path (name 9 9 7) ((name 4 9 9) ∷ [])))) End))))))
      ∷ [];
  decls = decl.Class 0 ∷ decl.Method 0 ∷ decl.Method 1 ∷ decl.Method 2 ∷ [];
}

lent_twice_then_changed-accepted : Accepts lent_twice_then_changed
lent_twice_then_changed-accepted = refl

-- What a branch reads and writes outside counts for the whole statement.
abbrev pub branch_reads_and_writes : Code
branch_reads_and_writes = record {
  names = codes "io" ∷ codes "main" ∷ codes "this" ∷ codes "a" ∷ codes "b" ∷ codes "c" ∷ [];
  classes = [];
  methods =
      (top_method None (name 1 1 13) [] [] (need need_of.Exclusive (name 0 1 35) ∷ [])
      (Next (at 2 1) (Declares (ty.Int (at 2 5)) (name 3 2 9) (Value (Number (pos 1) (at 2 13))))
      (Next (at 3 1) (Declares (ty.Int (at 3 5)) (name 4 3 9) (Value (Number (pos 2) (at 3 13))))
      (Next (at 4 1) (Chooses (Binary op.Lt (Read (path (name 3 4 4) [])) (Number (pos 2) (at 4 8))) 1
      (Next (at 5 1) (Declares (ty.Int (at 5 5)) (name 5 5 9) (Value (Read (path (name 3 5 13) []))))
      (Next (at 6 1) (Assigns (name 4 6 1) (Value (Read (path (name 5 6 5) [])))) End)))
      (Next (at 8 1) (Prints (Read (path (name 4 8 7) [])))
      (Next (at 9 1) (Prints (Read (path (name 3 9 7) []))) End))))))
      ∷ [];
  decls = decl.Method 0 ∷ [];
}

branch_reads_and_writes-accepted : Accepts branch_reads_and_writes
branch_reads_and_writes-accepted = refl

-- Names that are declared inside count for nothing outside.
abbrev pub names_inside : Code
names_inside = record {
  names = codes "io" ∷ codes "main" ∷ codes "this" ∷ codes "a" ∷ codes "b" ∷ codes "t" ∷ codes "s" ∷ [];
  classes = [];
  methods =
      (top_method None (name 1 1 13) [] [] (need need_of.Exclusive (name 0 1 35) ∷ [])
      (Next (at 2 1) (Declares (ty.Int (at 2 5)) (name 3 2 9) (Value (Number (pos 1) (at 2 13))))
      (Next (at 3 1) (Declares (ty.Int (at 3 5)) (name 4 3 9) (Value (Number (pos 2) (at 3 13))))
      (Next (at 4 1) (ChoosesElse (Truth true (at 4 4)) 1
      (Next (at 5 1) (Declares (ty.Int (at 5 5)) (name 5 5 9) (Value (Number (pos 3) (at 5 13))))
      (Next (at 6 1) (Assigns (name 3 6 1) (Value (Read (path (name 5 6 5) [])))) End)) 2
      (Next (at 8 1) (Declares (ty.Int (at 8 5)) (name 6 8 9) (Value (Number (pos 4) (at 8 13))))
      (Next (at 9 1) (Assigns (name 3 9 1) (Value (Read (path (name 6 9 5) [])))) End)))
      (Next (at 11 1) (Chooses (Truth true (at 11 4)) 3
      (Next (at 12 1) (Declares (ty.Int (at 12 5)) (name 5 12 9) (Value (Number (pos 5) (at 12 13))))
      (Next (at 13 1) (Assigns (name 4 13 1) (Value (Read (path (name 5 13 5) [])))) End))) End)))))
      ∷ [];
  decls = decl.Method 0 ∷ [];
}

names_inside-accepted : Accepts names_inside
names_inside-accepted = refl

-- A loop uses what its condition and its block use.
abbrev pub loop_counts : Code
loop_counts = record {
  names = codes "io" ∷ codes "main" ∷ codes "this" ∷ codes "i" ∷ codes "s" ∷ [];
  classes = [];
  methods =
      (top_method None (name 1 1 13) [] [] (need need_of.Exclusive (name 0 1 35) ∷ [])
      (Next (at 2 1) (Declares (ty.Int (at 2 5)) (name 3 2 9) (Value (Number (pos 0) (at 2 13))))
      (Next (at 3 1) (Declares (ty.Int (at 3 5)) (name 4 3 9) (Value (Number (pos 0) (at 3 13))))
      (Next (at 4 1) (Repeats (Binary op.Lt (Read (path (name 3 4 7) [])) (Number (pos 3) (at 4 11))) 1
      (Next (at 5 1) (Assigns (name 3 5 1) (Value (Binary op.Add (Read (path (name 3 5 5) []))
      (Number (pos 1) (at 5 9)))))
      (Next (at 6 1) (Assigns (name 4 6 1) (Value (Binary op.Add (Read (path (name 4 6 5) []))
      (Read (path (name 3 6 9) []))))) End)))
      (Next (at 8 1) (Prints (Read (path (name 4 8 7) []))) End)))))
      ∷ [];
  decls = decl.Method 0 ∷ [];
}

loop_counts-accepted : Accepts loop_counts
loop_counts-accepted = refl

-- What is frozen may be read side by side.
abbrev pub frozen_read_side_by_side : Code
frozen_read_side_by_side = record {
  names = codes "io" ∷ codes "main" ∷ codes "this" ∷ codes "Box" ∷ codes "v" ∷ codes "x" ∷ codes "a" ∷ codes "b"
      ∷ [];
  classes =
      class_with (name 3 1 7) [] (field (ty.Int (at 1 13)) (name 4 1 17) ∷ []) []
      ∷ [];
  methods =
      (top_method None (name 1 2 13) [] [] (need need_of.Exclusive (name 0 2 35) ∷ [])
      (Next (at 3 1) (Declares (ty.Object (perm_at.Unique (at 3 5)) (kind_at.Class (name 3 3 12) [])) (name 5 3 16)
      (Made (name 3 3 24) [] ((Number (pos 1) (at 3 28)) ∷ []) (at 3 20)))
      (Next (at 4 1) (Freezes (name 5 4 8))
      (Next (at 5 1) (Declares (ty.Int (at 5 5)) (name 6 5 9) (Value (Read (path (name 5 5 13) ((name 4 5 15) ∷ [])))))
      (Next (at 6 1) (Declares (ty.Int (at 6 5)) (name 7 6 9) (Value (Read (path (name 5 6 13) ((name 4 6 15) ∷ [])))))
      (Next (at 7 1) (Prints (Binary op.Add (Read (path (name 6 7 7) [])) (Read (path (name 7 7 11) [])))) End))))))
      ∷ [];
  decls = decl.Class 0 ∷ decl.Method 0 ∷ [];
}

frozen_read_side_by_side-accepted : Accepts frozen_read_side_by_side
frozen_read_side_by_side-accepted = refl

-- A name that moves is written.
abbrev pub name_moves : Code
name_moves = record {
  names = codes "io" ∷ codes "main" ∷ codes "this" ∷ codes "Box" ∷ codes "v" ∷ codes "x" ∷ codes "a" ∷ codes "y"
      ∷ [];
  classes =
      class_with (name 3 1 7) [] (field (ty.Int (at 1 13)) (name 4 1 17) ∷ []) []
      ∷ [];
  methods =
      (top_method None (name 1 2 13) [] [] (need need_of.Exclusive (name 0 2 35) ∷ [])
      (Next (at 3 1) (Declares (ty.Object (perm_at.Unique (at 3 5)) (kind_at.Class (name 3 3 12) [])) (name 5 3 16)
      (Made (name 3 3 24) [] ((Number (pos 1) (at 3 28)) ∷ []) (at 3 20)))
      (Next (at 4 1) (Declares (ty.Int (at 4 5)) (name 6 4 9) (Value (Read (path (name 5 4 13) ((name 4 4 15) ∷ [])))))
      (Next (at 5 1) (Declares (ty.Object (perm_at.Unique (at 5 5)) (kind_at.Class (name 3 5 12) [])) (name 7 5 16)
      (Value (Read (path (name 5 5 20) []))))
      (Next (at 6 1) (Prints (Binary op.Add (Read (path (name 7 6 7) ((name 4 6 9) ∷ [])))
      (Read (path (name 6 6 13) [])))) End)))))
      ∷ [];
  decls = decl.Class 0 ∷ decl.Method 0 ∷ [];
}

name_moves-accepted : Accepts name_moves
name_moves-accepted = refl

-- A write to what is held Unique writes the root, so a read waits for it.
abbrev pub written_alone : Code
written_alone = record {
  names = codes "io" ∷ codes "main" ∷ codes "this" ∷ codes "Box" ∷ codes "v" ∷ codes "x" ∷ codes "y" ∷ [];
  classes =
      class_with (name 3 1 7) [] (field (ty.Int (at 1 13)) (name 4 1 17) ∷ []) []
      ∷ [];
  methods =
      (top_method None (name 1 2 13) [] [] (need need_of.Exclusive (name 0 2 35) ∷ [])
      (Next (at 3 1) (Declares (ty.Object (perm_at.Unique (at 3 5)) (kind_at.Class (name 3 3 12) [])) (name 5 3 16)
      (Made (name 3 3 24) [] ((Number (pos 1) (at 3 28)) ∷ []) (at 3 20)))
      (Next (at 4 1) (Declares (ty.Object (perm_at.Unique (at 4 5)) (kind_at.Class (name 3 4 12) [])) (name 6 4 16)
      (Made (name 3 4 24) [] ((Number (pos 2) (at 4 28)) ∷ []) (at 4 20)))
      (Next (at 5 1) (Stores (path (name 5 5 1) ((name 4 5 3) ∷ [])) (Number (pos 3) (at 5 7)))
      (Next (at 6 1) (Stores (path (name 6 6 1) ((name 4 6 3) ∷ [])) (Number (pos 4) (at 6 7)))
      (Next (at 7 1) (Prints (Read (path (name 5 7 7) ((name 4 7 9) ∷ [])))) End))))))
      ∷ [];
  decls = decl.Class 0 ∷ decl.Method 0 ∷ [];
}

written_alone-accepted : Accepts written_alone
written_alone-accepted = refl

-- A write to an item of integers writes the root.
abbrev pub integers_written : Code
integers_written = record {
  names = codes "io" ∷ codes "main" ∷ codes "this" ∷ codes "x" ∷ codes "a" ∷ codes "n" ∷ [];
  classes = [];
  methods =
      (top_method None (name 1 1 13) [] [] (need need_of.Exclusive (name 0 1 35) ∷ [])
      (Next (at 2 1) (Declares (ty.Object (perm_at.Unique (at 2 5)) (kind_at.Ints (at 2 12))) (name 3 2 17)
      (Zeros (Number (pos 2) (at 2 30)) (at 2 21)))
      (Next (at 3 1) (Declares (ty.Int (at 3 5)) (name 4 3 9) (Value (Number (pos 1) (at 3 13))))
      (Next (at 4 1) (StoresAt (path (name 3 4 1) []) (Read (path (name 4 4 3) [])) (Number (pos 3) (at 4 8)))
      (Next (at 5 1) (Declares (ty.Int (at 5 5)) (name 5 5 9) (Value (Length (path (name 3 5 17) []) (at 5 13))))
      (Next (at 6 1) (Prints (Item (path (name 3 6 7) []) (Number (pos 0) (at 6 9)))) End))))))
      ∷ [];
  decls = decl.Method 0 ∷ [];
}

integers_written-accepted : Accepts integers_written
integers_written-accepted = refl

-- A field that is taken writes the root, where the object is held Unique.
abbrev pub field_taken : Code
field_taken = record {
  names = codes "io" ∷ codes "main" ∷ codes "this" ∷ codes "Box" ∷ codes "v" ∷ codes "Pair" ∷ codes "l"
      ∷ codes "p" ∷ codes "x" ∷ codes "y" ∷ [];
  classes =
      class_with (name 3 1 7) [] (field (ty.Int (at 1 13)) (name 4 1 17) ∷ []) []
      ∷ class_with (name 5 2 7) [] (field (ty.Object (perm_at.Unique (at 2 14)) (kind_at.Class (name 3 2 21) []))
      (name 6 2 25) ∷ []) []
      ∷ [];
  methods =
      (top_method None (name 1 3 13) [] [] (need need_of.Exclusive (name 0 3 35) ∷ [])
      (Next (at 4 1) (Declares (ty.Object (perm_at.Unique (at 4 5)) (kind_at.Class (name 5 4 12) [])) (name 7 4 17)
      (Made (name 5 4 25) [] ((Nothing (at 4 30)) ∷ []) (at 4 21)))
      (Next (at 5 1) (Declares (ty.Object (perm_at.Unique (at 5 5)) (kind_at.Class (name 3 5 12) [])) (name 8 5 16)
      (Taken (path (name 7 5 25) ((name 6 5 27) ∷ [])) (at 5 20)))
      (Next (at 6 1) (Declares (ty.Object (perm_at.Unique (at 6 5)) (kind_at.Class (name 3 6 12) [])) (name 9 6 16)
      (Taken (path (name 7 6 25) ((name 6 6 27) ∷ [])) (at 6 20))) End))))
      ∷ [];
  decls = decl.Class 0 ∷ decl.Class 1 ∷ decl.Method 0 ∷ [];
}

field_taken-accepted : Accepts field_taken
field_taken-accepted = refl

-- A receiver counts as an argument does.
abbrev pub receiver_changed : Code
receiver_changed = record {
  names = codes "io" ∷ codes "main" ∷ codes "this" ∷ codes "Box" ∷ codes "v" ∷ codes "get" ∷ codes "put"
      ∷ codes "n" ∷ codes "x" ∷ codes "a" ∷ codes "b" ∷ [];
  classes =
      class_with (name 3 1 7) [] (field (ty.Int (at 2 1)) (name 4 2 5) ∷ []) (0 ∷ 1 ∷ [])
      ∷ [];
  methods =
      (class_method 0 (record { perm = (perm_at.Lent (at 3 16)); at = (at 3 21); away = None }) (Some (ty.Int (at 3 8)))
      (name 5 3 12) [] [] []
      (Next (at 3 29) (Returns (Read (path (name 2 3 36) ((name 4 3 41) ∷ [])))) End))
      ∷ (class_method 0 (record { perm = (perm_at.Unique (at 4 17)); at = (at 4 24); away = None }) None
      (name 6 4 13) [] (param (ty.Int (at 4 30)) (name 7 4 34) ∷ []) []
      (Next (at 4 39) (Stores (path (name 2 4 39) ((name 4 4 44) ∷ [])) (Read (path (name 7 4 48) []))) End))
      ∷ (top_method None (name 1 6 13) [] [] (need need_of.Exclusive (name 0 6 35) ∷ [])
      (Next (at 7 1) (Declares (ty.Object (perm_at.Unique (at 7 5)) (kind_at.Class (name 3 7 12) [])) (name 8 7 16)
      (Made (name 3 7 24) [] ((Number (pos 1) (at 7 28)) ∷ []) (at 7 20)))
      (Next (at 8 1) (Declares (ty.Int (at 8 5)) (name 9 8 9) (Returned
      (call_on (path (name 8 8 13) []) (name 5 8 15) [] [])))
      (Next (at 9 1) (Declares (ty.Int (at 9 5)) (name 10 9 9) (Returned
      (call_on (path (name 8 9 13) []) (name 5 9 15) [] [])))
      (Next (at 10 1) (Calls (call_on (path (name 8 10 1) []) (name 6 10 3) [] ((Read (path (name 9 10 7) [])) ∷ [])))
      (Next (at 11 1) (Prints (Read (path (name 10 11 7) []))) End))))))
      ∷ [];
  decls = decl.Class 0 ∷ decl.Method 2 ∷ [];
}

receiver_changed-accepted : Accepts receiver_changed
receiver_changed-accepted = refl

-- The blocks of a choice and of a loop stand behind the one that they lie in.
abbrev pub blocks_of_a_choice_and_a_loop : Code
blocks_of_a_choice_and_a_loop = record {
  names = codes "io" ∷ codes "main" ∷ codes "this" ∷ codes "a" ∷ codes "b" ∷ [];
  classes = [];
  methods =
      (top_method None (name 1 1 13) [] [] (need need_of.Exclusive (name 0 1 35) ∷ [])
      (Next (at 2 1) (Declares (ty.Int (at 2 5)) (name 3 2 9) (Value (Number (pos 1) (at 2 13))))
      (Next (at 3 1) (ChoosesElse (Binary op.Lt (Read (path (name 3 3 4) [])) (Number (pos 2) (at 3 8))) 1
      (Next (at 4 1) (Declares (ty.Int (at 4 5)) (name 4 4 9) (Value (Read (path (name 3 4 13) []))))
      (Next (at 5 1) (Prints (Read (path (name 4 5 7) []))) End)) 2
      (Next (at 7 1) (Prints (Read (path (name 3 7 7) []))) End))
      (Next (at 9 1) (Repeats (Binary op.Lt (Read (path (name 3 9 7) [])) (Number (pos 2) (at 9 11))) 3
      (Next (at 10 1) (Assigns (name 3 10 1) (Value (Binary op.Add (Read (path (name 3 10 5) []))
      (Number (pos 1) (at 10 9))))) End)) End))))
      ∷ [];
  decls = decl.Method 0 ∷ [];
}

blocks_of_a_choice_and_a_loop-accepted : Accepts blocks_of_a_choice_and_a_loop
blocks_of_a_choice_and_a_loop-accepted = refl

-- A method of a class has its name behind that of the class.
abbrev pub method_of_a_class : Code
method_of_a_class = record {
  names = codes "io" ∷ codes "main" ∷ codes "this" ∷ codes "Box" ∷ codes "v" ∷ codes "get" ∷ codes "x" ∷ codes "p"
      ∷ [];
  classes =
      class_with (name 3 1 7) [] (field (ty.Int (at 2 1)) (name 4 2 5) ∷ []) (0 ∷ [])
      ∷ [];
  methods =
      (class_method 0 (record { perm = (perm_at.Lent (at 3 16)); at = (at 3 21); away = None }) (Some (ty.Int (at 3 8)))
      (name 5 3 12) [] [] []
      (Next (at 3 29) (Returns (Read (path (name 2 3 36) ((name 4 3 41) ∷ [])))) End))
      ∷ (top_method None (name 1 5 13) [] [] (need need_of.Exclusive (name 0 5 35) ∷ [])
      (Next (at 6 1) (Declares (ty.Object (perm_at.Unique (at 6 5)) (kind_at.Class (name 3 6 12) [])) (name 6 6 16)
      (Made (name 3 6 24) [] ((Number (pos 1) (at 6 28)) ∷ []) (at 6 20)))
      (Next (at 7 1) (Declares (ty.Int (at 7 5)) (name 7 7 9) (Returned
      (call_on (path (name 6 7 13) []) (name 5 7 15) [] [])))
      (Next (at 8 1) (Prints (Read (path (name 7 8 7) []))) End))))
      ∷ [];
  decls = decl.Class 0 ∷ decl.Method 1 ∷ [];
}

method_of_a_class-accepted : Accepts method_of_a_class
method_of_a_class-accepted = refl
