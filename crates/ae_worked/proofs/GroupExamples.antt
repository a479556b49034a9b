-- Needs, split and atomic blocks. Made by `tests/worked`.
use Rattle.std.specs.Prelude.{refl, pos, [], ◌∷◌, codes, None, Some}
use Rattle.ae_text.specs.declared.refusal.Rule.TheVariants as rule
use Rattle.ae_tree.specs.declared.tree.PermAt.TheVariants as perm_at
use Rattle.ae_tree.specs.declared.tree.KindAt.TheVariants as kind_at
use Rattle.ae_tree.specs.declared.tree.Ty.TheVariants as ty
use Rattle.ae_tree.specs.declared.tree.Op.TheVariants as op
use Rattle.ae_tree.specs.declared.tree.Need.TheVariants as need_of
use Rattle.ae_tree.specs.declared.tree.Decl.TheVariants as decl
use Rattle.ae_tree.specs.Plain.{Code, Number, Read, Binary}
use Rattle.ae_tree.specs.Plain.{Value, Made, End, Next}
use Rattle.ae_tree.specs.Plain.{Declares, Assigns, Stores, Calls, Groups, Splits, Locks}
use Rattle.ae_tree.specs.Plain.{Shares, Prints, PrintsText, Asserts}
use Rattle.ae_rules.specs.Judges.{Accepts, FirstBroken}
use Rattle.ae_worked.proofs.ProgramWords.{at, name, path, call, field, class_with, param}
use Rattle.ae_worked.proofs.ProgramWords.{need, top_method}

-- One group for two exclusive needs.
abbrev pub one_group_for_two_needs : Code
one_group_for_two_needs = record {
  names = codes "io" ∷ codes "main" ∷ codes "this" ∷ codes "two" ∷ codes "a" ∷ codes "b" ∷ codes "g" ∷ [];
  classes = [];
  methods =
      (top_method None (name 3 1 13) ((name 4 1 17) ∷ (name 5 1 20) ∷ []) []
      (need need_of.Exclusive (name 4 1 40) ∷ need need_of.Exclusive (name 5 1 53) ∷ [])
      End)
      ∷ (top_method None (name 1 2 13) [] [] []
      (Next (at 3 1) (Groups (name 6 3 7))
      (Next (at 4 1) (Calls (call (name 3 4 1) ((name 6 4 5) ∷ (name 6 4 8) ∷ []) [])) End)))
      ∷ [];
  decls = decl.Method 0 ∷ decl.Method 1 ∷ [];
}

one_group_for_two_needs-refused : FirstBroken one_group_for_two_needs rule.GroupTwice (at 4 1)
one_group_for_two_needs-refused = refl

-- One group may meet two shared needs, where it is shared.
abbrev pub one_group_for_two_shared_needs : Code
one_group_for_two_shared_needs = record {
  names = codes "io" ∷ codes "main" ∷ codes "this" ∷ codes "two" ∷ codes "a" ∷ codes "b" ∷ codes "g" ∷ [];
  classes = [];
  methods =
      (top_method None (name 3 1 13) ((name 4 1 17) ∷ (name 5 1 20) ∷ []) []
      (need need_of.Shared (name 4 1 37) ∷ need need_of.Shared (name 5 1 47) ∷ [])
      End)
      ∷ (top_method None (name 1 2 13) [] [] []
      (Next (at 3 1) (Groups (name 6 3 7))
      (Next (at 4 1) (Splits ((name 6 4 7) ∷ []) 1
      (Next (at 4 11) (Calls (call (name 3 4 11) ((name 6 4 15) ∷ (name 6 4 18) ∷ []) [])) End)) End)))
      ∷ [];
  decls = decl.Method 0 ∷ decl.Method 1 ∷ [];
}

one_group_for_two_shared_needs-accepted : Accepts one_group_for_two_shared_needs
one_group_for_two_shared_needs-accepted = refl

-- Two atomic blocks of one group, with a local of the method in both.
abbrev pub blocks_of_one_group : Code
blocks_of_one_group = record {
  names = codes "io" ∷ codes "main" ∷ codes "this" ∷ codes "Count" ∷ codes "n" ∷ codes "g" ∷ codes "c" ∷ codes "a"
      ∷ [];
  classes =
      class_with (name 3 1 7) [] (field (ty.Int (at 1 15)) (name 4 1 19) ∷ []) []
      ∷ [];
  methods =
      (top_method None (name 1 2 13) [] [] (need need_of.Exclusive (name 0 2 35) ∷ [])
      (Next (at 3 1) (Groups (name 5 3 7))
      (Next (at 4 1) (Declares (ty.Object (perm_at.Unique (at 4 5)) (kind_at.Class (name 3 4 12) [])) (name 6 4 18)
      (Made (name 3 4 26) [] ((Number (pos 5) (at 4 32)) ∷ []) (at 4 22)))
      (Next (at 5 1) (Shares (name 6 5 7) (name 5 5 14))
      (Next (at 6 1) (Declares (ty.Int (at 6 5)) (name 7 6 9) (Value (Number (pos 0) (at 6 13))))
      (Next (at 7 1) (Splits ((name 5 7 7) ∷ []) 1
      (Next (at 8 1) (Locks (name 5 8 8) 2
      (Next (at 8 12) (Assigns (name 7 8 12) (Value (Read (path (name 6 8 16) ((name 4 8 18) ∷ []))))) End))
      (Next (at 9 1) (Locks (name 5 9 8) 3
      (Next (at 9 12) (Stores (path (name 6 9 12) ((name 4 9 14) ∷ []))
      (Binary op.Add (Read (path (name 7 9 18) [])) (Number (pos 1) (at 9 22)))) End)) End)))
      (Next (at 11 1) (Prints (Read (path (name 6 11 7) ((name 4 11 9) ∷ [])))) End)))))))
      ∷ [];
  decls = decl.Class 0 ∷ decl.Method 0 ∷ [];
}

blocks_of_one_group-accepted : Accepts blocks_of_one_group
blocks_of_one_group-accepted = refl

-- A member of a group is reached where its group is protected.
abbrev pub block_with_an_assertion : Code
block_with_an_assertion = record {
  names = codes "io" ∷ codes "main" ∷ codes "this" ∷ codes "Count" ∷ codes "n" ∷ codes "g" ∷ codes "c" ∷ [];
  classes =
      class_with (name 3 1 7) [] (field (ty.Int (at 1 15)) (name 4 1 19) ∷ []) []
      ∷ [];
  methods =
      (top_method None (name 1 2 13) [] [] (need need_of.Exclusive (name 0 2 35) ∷ [])
      (Next (at 3 1) (Groups (name 5 3 7))
      (Next (at 4 1) (Declares (ty.Object (perm_at.Unique (at 4 5)) (kind_at.Class (name 3 4 12) [])) (name 6 4 18)
      (Made (name 3 4 26) [] ((Number (pos 5) (at 4 32)) ∷ []) (at 4 22)))
      (Next (at 5 1) (Shares (name 6 5 7) (name 5 5 14))
      (Next (at 6 1) (Splits ((name 5 6 7) ∷ []) 1
      (Next (at 7 1) (Locks (name 5 7 8) 2
      (Next (at 7 12) (Stores (path (name 6 7 12) ((name 4 7 14) ∷ [])) (Number (pos 6) (at 7 18)))
      (Next (at 7 21) (Asserts (Binary op.Eq (Read (path (name 6 7 28) ((name 4 7 30) ∷ [])))
      (Number (pos 5) (at 7 35)))) End))) End)) End)))))
      ∷ [];
  decls = decl.Class 0 ∷ decl.Method 0 ∷ [];
}

block_with_an_assertion-accepted : Accepts block_with_an_assertion
block_with_an_assertion-accepted = refl

-- An atomic block of another group that was split outside.
abbrev pub nested_atomic : Code
nested_atomic = record {
  names = codes "io" ∷ codes "main" ∷ codes "this" ∷ codes "g" ∷ codes "h" ∷ [];
  classes = [];
  methods =
      (top_method None (name 1 1 13) [] [] []
      (Next (at 2 1) (Groups (name 3 2 7))
      (Next (at 3 1) (Groups (name 4 3 7))
      (Next (at 4 1) (Splits ((name 3 4 7) ∷ (name 4 4 10) ∷ []) 1
      (Next (at 4 14) (Locks (name 3 4 21) 2
      (Next (at 4 25) (Locks (name 4 4 32) 3
      End) End)) End)) End))))
      ∷ [];
  decls = decl.Method 0 ∷ [];
}

nested_atomic-refused : FirstBroken nested_atomic rule.NestedAtomic (at 4 32)
nested_atomic-refused = refl

-- A method prints only with io.
abbrev pub printed_without_io : Code
printed_without_io = record {
  names = codes "io" ∷ codes "main" ∷ codes "this" ∷ [];
  classes = [];
  methods =
      (top_method None (name 1 1 13) [] [] []
      (Next (at 1 22) (Prints (Number (pos 1) (at 1 28))) End))
      ∷ [];
  decls = decl.Method 0 ∷ [];
}

printed_without_io-refused : FirstBroken printed_without_io rule.NeedsGroup (at 1 22)
printed_without_io-refused = refl

-- A main method that prints a text.
abbrev pub printed_with_io : Code
printed_with_io = record {
  names = codes "io" ∷ codes "main" ∷ codes "this" ∷ [];
  classes = [];
  methods =
      (top_method None (name 1 1 13) [] [] (need need_of.Exclusive (name 0 1 35) ∷ [])
      (Next (at 1 40) (PrintsText (codes "hi")) End))
      ∷ [];
  decls = decl.Method 0 ∷ [];
}

printed_with_io-accepted : Accepts printed_with_io
printed_with_io-accepted = refl

-- In an atomic block the group is protected, and meets no shared need.
abbrev pub call_in_an_atomic_block : Code
call_in_an_atomic_block = record {
  names = codes "io" ∷ codes "main" ∷ codes "this" ∷ codes "m" ∷ codes "g" ∷ [];
  classes = [];
  methods =
      (top_method None (name 3 1 13) ((name 4 1 15) ∷ []) [] (need need_of.Shared (name 4 1 32) ∷ [])
      End)
      ∷ (top_method None (name 1 2 13) [] [] []
      (Next (at 3 1) (Groups (name 4 3 7))
      (Next (at 4 1) (Splits ((name 4 4 7) ∷ []) 1
      (Next (at 4 11) (Calls (call (name 3 4 11) ((name 4 4 13) ∷ []) []))
      (Next (at 4 19) (Locks (name 4 4 26) 2
      (Next (at 4 30) (Calls (call (name 3 4 30) ((name 4 4 32) ∷ []) [])) End)) End))) End)))
      ∷ [];
  decls = decl.Method 0 ∷ decl.Method 1 ∷ [];
}

call_in_an_atomic_block-refused : FirstBroken call_in_an_atomic_block rule.NotShared (at 4 30)
call_in_an_atomic_block-refused = refl

-- The other split groups are held back there.
abbrev pub call_for_a_group_held_back : Code
call_for_a_group_held_back = record {
  names = codes "io" ∷ codes "main" ∷ codes "this" ∷ codes "m" ∷ codes "g" ∷ codes "h" ∷ [];
  classes = [];
  methods =
      (top_method None (name 3 1 13) ((name 4 1 15) ∷ []) [] (need need_of.Shared (name 4 1 32) ∷ [])
      End)
      ∷ (top_method None (name 1 2 13) [] [] []
      (Next (at 3 1) (Groups (name 4 3 7))
      (Next (at 4 1) (Groups (name 5 4 7))
      (Next (at 5 1) (Splits ((name 4 5 7) ∷ (name 5 5 10) ∷ []) 1
      (Next (at 5 14) (Locks (name 4 5 21) 2
      (Next (at 5 25) (Calls (call (name 3 5 25) ((name 5 5 27) ∷ []) [])) End)) End)) End))))
      ∷ [];
  decls = decl.Method 0 ∷ decl.Method 1 ∷ [];
}

call_for_a_group_held_back-refused : FirstBroken call_for_a_group_held_back rule.NestedAtomic (at 5 25)
call_for_a_group_held_back-refused = refl

-- In a list of split groups a second name comes before a group that is not exclusive.
abbrev pub split_twice : Code
split_twice = record {
  names = codes "io" ∷ codes "main" ∷ codes "this" ∷ codes "g" ∷ [];
  classes = [];
  methods =
      (top_method None (name 1 1 13) [] [] (need need_of.Exclusive (name 0 1 35) ∷ [])
      (Next (at 2 1) (Groups (name 3 2 7))
      (Next (at 3 1) (Splits ((name 3 3 7) ∷ []) 1
      (Next (at 3 11) (Splits ((name 3 3 17) ∷ (name 3 3 20) ∷ []) 2
      End) End)) End)))
      ∷ [];
  decls = decl.Method 0 ∷ [];
}

split_twice-refused : FirstBroken split_twice rule.NotExclusive (at 3 17)
split_twice-refused = refl

-- The list is tested group by group.
abbrev pub split_of_one_group_twice : Code
split_of_one_group_twice = record {
  names = codes "io" ∷ codes "main" ∷ codes "this" ∷ codes "g" ∷ [];
  classes = [];
  methods =
      (top_method None (name 1 1 13) [] [] (need need_of.Exclusive (name 0 1 35) ∷ [])
      (Next (at 2 1) (Groups (name 3 2 7))
      (Next (at 3 1) (Splits ((name 3 3 7) ∷ (name 3 3 10) ∷ []) 1
      End) End)))
      ∷ [];
  decls = decl.Method 0 ∷ [];
}

split_of_one_group_twice-refused : FirstBroken split_of_one_group_twice rule.GroupTwice (at 3 10)
split_of_one_group_twice-refused = refl

-- An atomic block wants its group split.
abbrev pub atomic_without_split : Code
atomic_without_split = record {
  names = codes "io" ∷ codes "main" ∷ codes "this" ∷ codes "g" ∷ [];
  classes = [];
  methods =
      (top_method None (name 1 1 13) [] [] (need need_of.Exclusive (name 0 1 35) ∷ [])
      (Next (at 2 1) (Groups (name 3 2 7))
      (Next (at 3 1) (Locks (name 3 3 8) 1
      End) End)))
      ∷ [];
  decls = decl.Method 0 ∷ [];
}

atomic_without_split-refused : FirstBroken atomic_without_split rule.NotShared (at 3 8)
atomic_without_split-refused = refl

-- Nothing is shared into io.
abbrev pub shared_into_io : Code
shared_into_io = record {
  names = codes "io" ∷ codes "main" ∷ codes "this" ∷ codes "Box" ∷ codes "v" ∷ codes "x" ∷ [];
  classes =
      class_with (name 3 1 7) [] (field (ty.Int (at 1 13)) (name 4 1 17) ∷ []) []
      ∷ [];
  methods =
      (top_method None (name 1 2 13) [] [] (need need_of.Exclusive (name 0 2 35) ∷ [])
      (Next (at 3 1) (Declares (ty.Object (perm_at.Unique (at 3 5)) (kind_at.Class (name 3 3 12) [])) (name 5 3 16)
      (Made (name 3 3 24) [] ((Number (pos 1) (at 3 28)) ∷ []) (at 3 20)))
      (Next (at 4 1) (Shares (name 5 4 7) (name 0 4 14)) End)))
      ∷ [];
  decls = decl.Class 0 ∷ decl.Method 0 ∷ [];
}

shared_into_io-refused : FirstBroken shared_into_io rule.UnknownGroup (at 4 14)
shared_into_io-refused = refl

-- Locals and groups share their names.
abbrev pub local_and_group_alike : Code
local_and_group_alike = record {
  names = codes "io" ∷ codes "main" ∷ codes "this" ∷ codes "x" ∷ [];
  classes = [];
  methods =
      (top_method None (name 1 1 13) [] [] (need need_of.Exclusive (name 0 1 35) ∷ [])
      (Next (at 2 1) (Declares (ty.Int (at 2 5)) (name 3 2 9) (Value (Number (pos 1) (at 2 13))))
      (Next (at 3 1) (Groups (name 3 3 7)) End)))
      ∷ [];
  decls = decl.Method 0 ∷ [];
}

local_and_group_alike-refused : FirstBroken local_and_group_alike rule.DuplicateLocal (at 3 7)
local_and_group_alike-refused = refl

-- What is shared into two groups of a body escapes by the first group statement, before all else at the method's end.
abbrev pub group_escapes : Code
group_escapes = record {
  names = codes "io" ∷ codes "main" ∷ codes "this" ∷ codes "Box" ∷ codes "v" ∷ codes "m" ∷ codes "x" ∷ codes "y"
      ∷ codes "g" ∷ codes "h" ∷ [];
  classes =
      class_with (name 3 1 7) [] (field (ty.Int (at 1 13)) (name 4 1 17) ∷ []) []
      ∷ [];
  methods =
      (top_method (Some (ty.Int (at 2 8))) (name 5 2 12) [] (param
      (ty.Object (perm_at.Unique (at 2 14)) (kind_at.Class (name 3 2 21) [])) (name 6 2 25)
      ∷ param (ty.Object (perm_at.Unique (at 2 28)) (kind_at.Class (name 3 2 35) [])) (name 7 2 39) ∷ []) []
      (Next (at 3 1) (Groups (name 8 3 7))
      (Next (at 4 1) (Groups (name 9 4 7))
      (Next (at 5 1) (Shares (name 7 5 7) (name 9 5 14))
      (Next (at 6 1) (Shares (name 6 6 7) (name 8 6 14)) End)))))
      ∷ (top_method None (name 1 8 13) [] [] []
      End)
      ∷ [];
  decls = decl.Class 0 ∷ decl.Method 0 ∷ decl.Method 1 ∷ [];
}

group_escapes-refused : FirstBroken group_escapes rule.GroupEscapes (at 3 7)
group_escapes-refused = refl
