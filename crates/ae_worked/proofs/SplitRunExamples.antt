-- Runs with split and atomic blocks. Made by `tests/worked`.
use Rattle.std.specs.Prelude.{refl, pos, true, false, [], ◌∷◌, codes, None, Some}
use Rattle.ae_tree.specs.declared.tree.PermAt.TheVariants as perm_at
use Rattle.ae_tree.specs.declared.tree.KindAt.TheVariants as kind_at
use Rattle.ae_tree.specs.declared.tree.Ty.TheVariants as ty
use Rattle.ae_tree.specs.declared.tree.Op.TheVariants as op
use Rattle.ae_tree.specs.declared.tree.Need.TheVariants as need_of
use Rattle.ae_tree.specs.declared.tree.Decl.TheVariants as decl
use Rattle.ae_tree.specs.Plain.{Code, Number, Truth, Nothing, Read, Binary}
use Rattle.ae_tree.specs.Plain.{Value, Taken, Made, Returned, End, Next}
use Rattle.ae_tree.specs.Plain.{Declares, Assigns, Stores, Calls, Repeats, Groups, Splits, Locks}
use Rattle.ae_tree.specs.Plain.{Shares, Prints, PrintsText, Asserts, Returns}
use Rattle.ae_rules.specs.Judges.{Accepts}
use Rattle.ae_worked.proofs.ProgramWords.{at, name, path, call, field, class_with, param, given_away}
use Rattle.ae_worked.proofs.ProgramWords.{need, top_method}

-- A reference without a member in its store counts as null.
abbrev pub reference_without_a_member : Code
reference_without_a_member = record {
  names = codes "io" ∷ codes "main" ∷ codes "this" ∷ codes "Count" ∷ codes "n" ∷ codes "g" ∷ codes "c" ∷ [];
  classes =
      class_with (name 3 1 7) [] (field (ty.Int (at 1 15)) (name 4 1 19) ∷ []) []
      ∷ [];
  methods =
      (top_method None (name 1 2 13) [] [] (need need_of.Exclusive (name 0 2 35) ∷ [])
      (Next (at 3 1) (Groups (name 5 3 7))
      (Next (at 4 1) (Declares (ty.Object (perm_at.Unique (at 4 5)) (kind_at.Class (name 3 4 12) [])) (name 6 4 18)
      (Made (name 3 4 26) [] ((Number (pos 1) (at 4 32)) ∷ []) (at 4 22)))
      (Next (at 5 1) (Shares (name 6 5 7) (name 5 5 14))
      (Next (at 6 1) (Splits ((name 5 6 7) ∷ []) 1
      End)
      (Next (at 7 1) (Prints (Read (path (name 6 7 7) ((name 4 7 9) ∷ [])))) End))))))
      ∷ [];
  decls = decl.Class 0 ∷ decl.Method 0 ∷ [];
}

reference_without_a_member-accepted : Accepts reference_without_a_member
reference_without_a_member-accepted = refl

-- A member that refers to itself, in a class with a group, is written along its references.
abbrev pub ring_of_references : Code
ring_of_references = record {
  names = codes "io" ∷ codes "main" ∷ codes "this" ∷ codes "Node" ∷ codes "g" ∷ codes "v" ∷ codes "next"
      ∷ codes "h" ∷ codes "n" ∷ [];
  classes =
      class_with (name 3 1 7) ((name 4 1 12) ∷ []) (field (ty.Int (at 1 17)) (name 5 1 21)
      ∷ field (ty.Object (perm_at.Shared (at 1 24) (name 4 1 31)) (kind_at.Class (name 3 1 34) ((name 4 1 39) ∷ [])))
      (name 6 1 42) ∷ []) []
      ∷ [];
  methods =
      (top_method None (name 1 2 13) [] [] (need need_of.Exclusive (name 0 2 35) ∷ [])
      (Next (at 3 1) (Groups (name 7 3 7))
      (Next (at 4 1) (Declares (ty.Object (perm_at.Unique (at 4 5)) (kind_at.Class (name 3 4 12) ((name 7 4 17) ∷ [])))
      (name 8 4 20) (Made (name 3 4 28) ((name 7 4 33) ∷ []) ((Number (pos 1) (at 4 36)) ∷ (Nothing (at 4 39)) ∷ [])
      (at 4 24)))
      (Next (at 5 1) (Shares (name 8 5 7) (name 7 5 14))
      (Next (at 6 1) (Stores (path (name 8 6 1) ((name 6 6 3) ∷ [])) (Read (path (name 8 6 10) [])))
      (Next (at 7 1) (Stores (path (name 8 7 1) ((name 6 7 3) ∷ (name 6 7 8) ∷ (name 5 7 13) ∷ []))
      (Number (pos 7) (at 7 17)))
      (Next (at 8 1) (Prints (Read (path (name 8 8 7) ((name 5 8 9) ∷ [])))) End)))))))
      ∷ [];
  decls = decl.Class 0 ∷ decl.Method 0 ∷ [];
}

ring_of_references-accepted : Accepts ring_of_references
ring_of_references-accepted = refl

-- A method with a protected group is called in an atomic block of that group.
abbrev pub protected_call : Code
protected_call = record {
  names = codes "io" ∷ codes "main" ∷ codes "this" ∷ codes "Node" ∷ codes "g" ∷ codes "v" ∷ codes "next"
      ∷ codes "grow" ∷ codes "k" ∷ codes "x" ∷ codes "h" ∷ codes "n" ∷ [];
  classes =
      class_with (name 3 1 7) ((name 4 1 12) ∷ []) (field (ty.Int (at 1 17)) (name 5 1 21)
      ∷ field (ty.Object (perm_at.Shared (at 1 24) (name 4 1 31)) (kind_at.Class (name 3 1 34) ((name 4 1 39) ∷ [])))
      (name 6 1 42) ∷ []) []
      ∷ [];
  methods =
      (top_method None (name 7 2 13) ((name 8 2 18) ∷ []) (param
      (ty.Object (perm_at.Shared (at 2 21) (name 8 2 28)) (kind_at.Class (name 3 2 31) ((name 8 2 36) ∷ [])))
      (name 9 2 39) ∷ []) (need need_of.Protected (name 8 2 57) ∷ [])
      (Next (at 2 61) (Stores (path (name 9 2 61) ((name 6 2 63) ∷ (name 5 2 68) ∷ []))
      (Binary op.Add (Read (path (name 9 2 72) ((name 5 2 74) ∷ []))) (Number (pos 1) (at 2 78)))) End))
      ∷ (top_method None (name 1 3 13) [] [] (need need_of.Exclusive (name 0 3 35) ∷ [])
      (Next (at 4 1) (Groups (name 10 4 7))
      (Next (at 5 1) (Declares (ty.Object (perm_at.Unique (at 5 5)) (kind_at.Class (name 3 5 12) ((name 10 5 17) ∷ [])))
      (name 11 5 20) (Made (name 3 5 28) ((name 10 5 33) ∷ []) ((Number (pos 1) (at 5 36)) ∷ (Nothing (at 5 39)) ∷ [])
      (at 5 24)))
      (Next (at 6 1) (Shares (name 11 6 7) (name 10 6 14))
      (Next (at 7 1) (Stores (path (name 11 7 1) ((name 6 7 3) ∷ [])) (Read (path (name 11 7 10) [])))
      (Next (at 8 1) (Splits ((name 10 8 7) ∷ []) 1
      (Next (at 9 1) (Locks (name 10 9 8) 2
      (Next (at 9 12) (Calls (call (name 7 9 12) ((name 10 9 17) ∷ []) ((Read (path (name 11 9 20) [])) ∷ []))) End))
      End))
      (Next (at 11 1) (Prints (Read (path (name 11 11 7) ((name 5 11 9) ∷ [])))) End)))))))
      ∷ [];
  decls = decl.Class 0 ∷ decl.Method 0 ∷ decl.Method 1 ∷ [];
}

protected_call-accepted : Accepts protected_call
protected_call-accepted = refl

-- A block of a group that prints answers with its pieces.
abbrev pub print_in_a_block : Code
print_in_a_block = record {
  names = codes "io" ∷ codes "main" ∷ codes "this" ∷ codes "Count" ∷ codes "n" ∷ codes "g" ∷ codes "c" ∷ [];
  classes =
      class_with (name 3 1 7) [] (field (ty.Int (at 1 15)) (name 4 1 19) ∷ []) []
      ∷ [];
  methods =
      (top_method None (name 1 2 13) [] [] (need need_of.Exclusive (name 0 2 35) ∷ [])
      (Next (at 3 1) (Groups (name 5 3 7))
      (Next (at 4 1) (Declares (ty.Object (perm_at.Unique (at 4 5)) (kind_at.Class (name 3 4 12) [])) (name 6 4 18)
      (Made (name 3 4 26) [] ((Number (pos 4) (at 4 32)) ∷ []) (at 4 22)))
      (Next (at 5 1) (Shares (name 6 5 7) (name 5 5 14))
      (Next (at 6 1) (Splits ((name 5 6 7) ∷ []) 1
      (Next (at 7 1) (Locks (name 5 7 8) 2
      (Next (at 7 12) (Prints (Read (path (name 6 7 18) ((name 4 7 20) ∷ []))))
      (Next (at 7 23) (PrintsText (codes "x")) End))) End))
      (Next (at 9 1) (Prints (Number (pos 9) (at 9 7))) End))))))
      ∷ [];
  decls = decl.Class 0 ∷ decl.Method 0 ∷ [];
}

print_in_a_block-accepted : Accepts print_in_a_block
print_in_a_block-accepted = refl

-- A unique field of a member is taken, and given to another method that does not give it back.
abbrev pub taken_from_a_member : Code
taken_from_a_member = record {
  names = codes "io" ∷ codes "main" ∷ codes "this" ∷ codes "Box" ∷ codes "v" ∷ codes "Cell" ∷ codes "b"
      ∷ codes "end" ∷ codes "g" ∷ codes "c" ∷ codes "d" ∷ [];
  classes =
      class_with (name 3 1 7) [] (field (ty.Int (at 1 13)) (name 4 1 17) ∷ []) []
      ∷ class_with (name 5 2 7) [] (field (ty.Object (perm_at.Unique (at 2 14)) (kind_at.Class (name 3 2 21) []))
      (name 6 2 25) ∷ []) []
      ∷ [];
  methods =
      (top_method (Some (ty.Int (at 3 8))) (name 7 3 12) [] (given_away
      (ty.Object (perm_at.Unique (at 3 16)) (kind_at.Class (name 3 3 23) [])) (name 6 3 27) (at 3 29) ∷ []) []
      (Next (at 3 40) (Returns (Read (path (name 6 3 47) ((name 4 3 49) ∷ [])))) End))
      ∷ (top_method None (name 1 4 13) [] [] (need need_of.Exclusive (name 0 4 35) ∷ [])
      (Next (at 5 1) (Groups (name 8 5 7))
      (Next (at 6 1) (Declares (ty.Object (perm_at.Unique (at 6 5)) (kind_at.Class (name 3 6 12) [])) (name 6 6 16)
      (Made (name 3 6 24) [] ((Number (pos 8) (at 6 28)) ∷ []) (at 6 20)))
      (Next (at 7 1) (Declares (ty.Object (perm_at.Unique (at 7 5)) (kind_at.Class (name 5 7 12) [])) (name 9 7 17)
      (Made (name 5 7 25) [] ((Read (path (name 6 7 30) [])) ∷ []) (at 7 21)))
      (Next (at 8 1) (Shares (name 9 8 7) (name 8 8 14))
      (Next (at 9 1) (Declares (ty.Object (perm_at.Unique (at 9 5)) (kind_at.Class (name 3 9 12) [])) (name 10 9 16)
      (Taken (path (name 9 9 25) ((name 6 9 27) ∷ [])) (at 9 20)))
      (Next (at 10 1) (Declares (ty.Int (at 10 5)) (name 4 10 9)
      (Returned (call (name 7 10 13) [] ((Read (path (name 10 10 17) [])) ∷ []))))
      (Next (at 11 1) (Prints (Read (path (name 4 11 7) [])))
      (Next (at 12 1) (Prints (Binary op.Eq (Read (path (name 9 12 7) ((name 6 12 9) ∷ []))) (Nothing (at 12 14))))
      End)))))))))
      ∷ [];
  decls = decl.Class 0 ∷ decl.Class 1 ∷ decl.Method 0 ∷ decl.Method 1 ∷ [];
}

taken_from_a_member-accepted : Accepts taken_from_a_member
taken_from_a_member-accepted = refl

-- A split block of another group inside a split block, and a loop around an atomic block.
abbrev pub split_in_a_split : Code
split_in_a_split = record {
  names = codes "io" ∷ codes "main" ∷ codes "this" ∷ codes "Count" ∷ codes "n" ∷ codes "g" ∷ codes "h" ∷ codes "c"
      ∷ codes "i" ∷ [];
  classes =
      class_with (name 3 1 7) [] (field (ty.Int (at 1 15)) (name 4 1 19) ∷ []) []
      ∷ [];
  methods =
      (top_method None (name 1 2 13) [] [] (need need_of.Exclusive (name 0 2 35) ∷ [])
      (Next (at 3 1) (Groups (name 5 3 7))
      (Next (at 4 1) (Groups (name 6 4 7))
      (Next (at 5 1) (Declares (ty.Object (perm_at.Unique (at 5 5)) (kind_at.Class (name 3 5 12) [])) (name 7 5 18)
      (Made (name 3 5 26) [] ((Number (pos 0) (at 5 32)) ∷ []) (at 5 22)))
      (Next (at 6 1) (Shares (name 7 6 7) (name 5 6 14))
      (Next (at 7 1) (Declares (ty.Int (at 7 5)) (name 8 7 9) (Value (Number (pos 0) (at 7 13))))
      (Next (at 8 1) (Splits ((name 5 8 7) ∷ []) 1
      (Next (at 9 1) (Repeats (Binary op.Lt (Read (path (name 8 9 7) [])) (Number (pos 2) (at 9 11))) 2
      (Next (at 10 1) (Splits ((name 6 10 7) ∷ []) 3
      (Next (at 10 11) (Locks (name 5 10 18) 4
      (Next (at 10 22) (Stores (path (name 7 10 22) ((name 4 10 24) ∷ []))
      (Binary op.Add (Read (path (name 7 10 28) ((name 4 10 30) ∷ []))) (Number (pos 1) (at 10 34)))) End)) End))
      (Next (at 11 1) (Assigns (name 8 11 1) (Value (Binary op.Add (Read (path (name 8 11 5) []))
      (Number (pos 1) (at 11 9))))) End))) End))
      (Next (at 14 1) (Prints (Read (path (name 7 14 7) ((name 4 14 9) ∷ [])))) End))))))))
      ∷ [];
  decls = decl.Class 0 ∷ decl.Method 0 ∷ [];
}

split_in_a_split-accepted : Accepts split_in_a_split
split_in_a_split-accepted = refl

-- Where the log was split, what comes back is the log.
abbrev pub log_that_was_split : Code
log_that_was_split = record {
  names = codes "io" ∷ codes "main" ∷ codes "this" ∷ codes "Count" ∷ codes "n" ∷ [];
  classes =
      class_with (name 3 1 7) [] (field (ty.Int (at 1 15)) (name 4 1 19) ∷ []) []
      ∷ [];
  methods =
      (top_method None (name 1 2 13) [] [] (need need_of.Exclusive (name 0 2 35) ∷ [])
      (Next (at 3 1) (Splits ((name 0 3 7) ∷ []) 1
      (Next (at 4 1) (Locks (name 0 4 8) 2
      (Next (at 4 13) (Prints (Number (pos 1) (at 4 19))) End))
      (Next (at 5 1) (Locks (name 0 5 8) 3
      (Next (at 5 13) (Prints (Number (pos 2) (at 5 19))) End)) End)))
      (Next (at 7 1) (Prints (Number (pos 3) (at 7 7))) End)))
      ∷ [];
  decls = decl.Class 0 ∷ decl.Method 0 ∷ [];
}

log_that_was_split-accepted : Accepts log_that_was_split
log_that_was_split-accepted = refl

-- The blocks may go in any order.
abbrev pub two_prints : Code
two_prints = record {
  names = codes "io" ∷ codes "main" ∷ codes "this" ∷ [];
  classes = [];
  methods =
      (top_method None (name 1 1 13) [] [] (need need_of.Exclusive (name 0 1 35) ∷ [])
      (Next (at 2 1) (Splits ((name 0 2 7) ∷ []) 1
      (Next (at 3 1) (Locks (name 0 3 8) 2
      (Next (at 3 13) (Prints (Number (pos 1) (at 3 19))) End))
      (Next (at 4 1) (Locks (name 0 4 8) 3
      (Next (at 4 13) (Prints (Number (pos 2) (at 4 19))) End)) End))) End))
      ∷ [];
  decls = decl.Method 0 ∷ [];
}

two_prints-accepted : Accepts two_prints
two_prints-accepted = refl

-- The second block reads what the first one writes, so it comes after it.
abbrev pub written_then_printed : Code
written_then_printed = record {
  names = codes "io" ∷ codes "main" ∷ codes "this" ∷ codes "a" ∷ [];
  classes = [];
  methods =
      (top_method None (name 1 1 13) [] [] (need need_of.Exclusive (name 0 1 35) ∷ [])
      (Next (at 2 1) (Declares (ty.Int (at 2 5)) (name 3 2 9) (Value (Number (pos 0) (at 2 13))))
      (Next (at 3 1) (Splits ((name 0 3 7) ∷ []) 1
      (Next (at 4 1) (Locks (name 0 4 8) 2
      (Next (at 4 13) (Assigns (name 3 4 13) (Value (Number (pos 1) (at 4 17)))) End))
      (Next (at 5 1) (Locks (name 0 5 8) 3
      (Next (at 5 13) (Prints (Read (path (name 3 5 19) []))) End)) End))) End)))
      ∷ [];
  decls = decl.Method 0 ∷ [];
}

written_then_printed-accepted : Accepts written_then_printed
written_then_printed-accepted = refl

-- The first block traps. The second one ran, and its prints do not count.
abbrev pub trap_before_a_print : Code
trap_before_a_print = record {
  names = codes "io" ∷ codes "main" ∷ codes "this" ∷ [];
  classes = [];
  methods =
      (top_method None (name 1 1 13) [] [] (need need_of.Exclusive (name 0 1 35) ∷ [])
      (Next (at 2 1) (Splits ((name 0 2 7) ∷ []) 1
      (Next (at 3 1) (Locks (name 0 3 8) 2
      (Next (at 3 13) (Prints (Number (pos 1) (at 3 19)))
      (Next (at 3 22) (Asserts (Truth false (at 3 29))) End)))
      (Next (at 4 1) (Locks (name 0 4 8) 3
      (Next (at 4 13) (Prints (Number (pos 2) (at 4 19))) End)) End))) End))
      ∷ [];
  decls = decl.Method 0 ∷ [];
}

trap_before_a_print-accepted : Accepts trap_before_a_print
trap_before_a_print-accepted = refl

-- A loop without an end in a split block.
abbrev pub prints_forever : Code
prints_forever = record {
  names = codes "io" ∷ codes "main" ∷ codes "this" ∷ [];
  classes = [];
  methods =
      (top_method None (name 1 1 13) [] [] (need need_of.Exclusive (name 0 1 35) ∷ [])
      (Next (at 2 1) (Splits ((name 0 2 7) ∷ []) 1
      (Next (at 3 1) (Repeats (Truth true (at 3 7)) 2
      (Next (at 4 1) (Locks (name 0 4 8) 3
      (Next (at 4 13) (Prints (Number (pos 1) (at 4 19))) End)) End)) End)) End))
      ∷ [];
  decls = decl.Method 0 ∷ [];
}

prints_forever-accepted : Accepts prints_forever
prints_forever-accepted = refl

-- What the call makes of the rest of the list is low enough, but not the list that has it again.
abbrev pub grown_too_high : Code
grown_too_high = record {
  names = codes "io" ∷ codes "main" ∷ codes "this" ∷ codes "List" ∷ codes "next" ∷ codes "grow" ∷ codes "l"
      ∷ codes "x" ∷ codes "i" ∷ [];
  classes =
      class_with (name 3 1 7) [] (field (ty.Object (perm_at.Unique (at 1 14)) (kind_at.Class (name 3 1 21) []))
      (name 4 1 26) ∷ []) []
      ∷ [];
  methods =
      (top_method None (name 5 2 13) [] (param (ty.Object (perm_at.Unique (at 2 18)) (kind_at.Class (name 3 2 25) []))
      (name 6 2 30) ∷ []) (need need_of.Shared (name 0 2 45) ∷ [])
      (Next (at 3 1) (Locks (name 0 3 8) 1
      (Next (at 3 13) (Prints (Number (pos 1) (at 3 19))) End))
      (Next (at 4 1) (Assigns (name 6 4 1) (Made (name 3 4 9) [] ((Read (path (name 6 4 14) [])) ∷ []) (at 4 5))) End)))
      ∷ (top_method None (name 1 6 13) [] [] (need need_of.Exclusive (name 0 6 35) ∷ [])
      (Next (at 7 1) (Declares (ty.Object (perm_at.Unique (at 7 5)) (kind_at.Class (name 3 7 12) [])) (name 7 7 17)
      (Value (Nothing (at 7 21))))
      (Next (at 8 1) (Declares (ty.Int (at 8 5)) (name 8 8 9) (Value (Number (pos 0) (at 8 13))))
      (Next (at 9 1) (Repeats (Binary op.Lt (Read (path (name 8 9 7) [])) (Number (pos 1000) (at 9 11))) 1
      (Next (at 10 1) (Assigns (name 7 10 1) (Made (name 3 10 9) [] ((Read (path (name 7 10 14) [])) ∷ []) (at 10 5)))
      (Next (at 11 1) (Assigns (name 8 11 1) (Value (Binary op.Add (Read (path (name 8 11 5) []))
      (Number (pos 1) (at 11 9))))) End)))
      (Next (at 13 1) (Splits ((name 0 13 7) ∷ []) 2
      (Next (at 14 1) (Calls (call (name 5 14 1) [] ((Read (path (name 7 14 6) ((name 4 14 8) ∷ []))) ∷ []))) End))
      (Next (at 16 1) (Prints (Read (path (name 8 16 7) []))) End))))))
      ∷ [];
  decls = decl.Class 0 ∷ decl.Method 0 ∷ decl.Method 1 ∷ [];
}

grown_too_high-accepted : Accepts grown_too_high
grown_too_high-accepted = refl
