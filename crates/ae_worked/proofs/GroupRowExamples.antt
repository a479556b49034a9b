-- Groups: the rows of the page on the language. Made by `tests/worked`.
use Rattle.std.specs.Prelude.{refl, pos, [], ◌∷◌, codes, None}
use Rattle.ae_text.specs.declared.refusal.Rule.TheVariants as rule
use Rattle.ae_tree.specs.declared.tree.PermAt.TheVariants as perm_at
use Rattle.ae_tree.specs.declared.tree.KindAt.TheVariants as kind_at
use Rattle.ae_tree.specs.declared.tree.Ty.TheVariants as ty
use Rattle.ae_tree.specs.declared.tree.Need.TheVariants as need_of
use Rattle.ae_tree.specs.declared.tree.Decl.TheVariants as decl
use Rattle.ae_tree.specs.Plain.{Code, Number}
use Rattle.ae_tree.specs.Plain.{Made, End, Next}
use Rattle.ae_tree.specs.Plain.{Declares, Stores, Groups, Splits, Locks}
use Rattle.ae_tree.specs.Plain.{Shares, Prints}
use Rattle.ae_rules.specs.Judges.{Accepts, FirstBroken}
use Rattle.ae_worked.proofs.ProgramWords.{at, name, path, field, class_with, param}
use Rattle.ae_worked.proofs.ProgramWords.{need, top_method}

-- A group gets a visible name.
abbrev pub group_named_as_a_local : Code
group_named_as_a_local = record {
  names = codes "io" ∷ codes "main" ∷ codes "this" ∷ codes "f" ∷ codes "n" ∷ [];
  classes = [];
  methods =
      (top_method None (name 3 1 13) [] (param (ty.Int (at 1 15)) (name 4 1 19) ∷ []) []
      (Next (at 1 24) (Groups (name 4 1 30)) End))
      ∷ (top_method None (name 1 1 47) [] [] []
      End)
      ∷ [];
  decls = decl.Method 0 ∷ decl.Method 1 ∷ [];
}

group_named_as_a_local-refused : FirstBroken group_named_as_a_local rule.DuplicateLocal (at 1 30)
group_named_as_a_local-refused = refl

-- A group of a list is not known.
abbrev pub split_of_an_unknown_group : Code
split_of_an_unknown_group = record {
  names = codes "io" ∷ codes "main" ∷ codes "this" ∷ codes "g" ∷ [];
  classes = [];
  methods =
      (top_method None (name 1 1 13) [] [] []
      (Next (at 1 22) (Splits ((name 3 1 28) ∷ []) 1
      End) End))
      ∷ [];
  decls = decl.Method 0 ∷ [];
}

split_of_an_unknown_group-refused : FirstBroken split_of_an_unknown_group rule.UnknownGroup (at 1 28)
split_of_an_unknown_group-refused = refl

-- A group stands earlier in the list.
abbrev pub split_names_a_group_twice : Code
split_names_a_group_twice = record {
  names = codes "io" ∷ codes "main" ∷ codes "this" ∷ codes "g" ∷ [];
  classes = [];
  methods =
      (top_method None (name 1 1 13) [] [] []
      (Next (at 1 22) (Groups (name 3 1 28))
      (Next (at 1 31) (Splits ((name 3 1 37) ∷ (name 3 1 40) ∷ []) 1
      End) End)))
      ∷ [];
  decls = decl.Method 0 ∷ [];
}

split_names_a_group_twice-refused : FirstBroken split_names_a_group_twice rule.GroupTwice (at 1 40)
split_names_a_group_twice-refused = refl

-- A group of a list is not exclusive.
abbrev pub split_of_a_split_group : Code
split_of_a_split_group = record {
  names = codes "io" ∷ codes "main" ∷ codes "this" ∷ codes "g" ∷ [];
  classes = [];
  methods =
      (top_method None (name 1 1 13) [] [] []
      (Next (at 1 22) (Groups (name 3 1 28))
      (Next (at 1 31) (Splits ((name 3 1 37) ∷ []) 1
      (Next (at 1 41) (Splits ((name 3 1 47) ∷ []) 2
      End) End)) End)))
      ∷ [];
  decls = decl.Method 0 ∷ [];
}

split_of_a_split_group-refused : FirstBroken split_of_a_split_group rule.NotExclusive (at 1 47)
split_of_a_split_group-refused = refl

-- The group of an atomic block is not shared.
abbrev pub atomic_of_an_exclusive_group : Code
atomic_of_an_exclusive_group = record {
  names = codes "io" ∷ codes "main" ∷ codes "this" ∷ codes "g" ∷ [];
  classes = [];
  methods =
      (top_method None (name 1 1 13) [] [] []
      (Next (at 1 22) (Groups (name 3 1 28))
      (Next (at 1 31) (Locks (name 3 1 38) 1
      End) End)))
      ∷ [];
  decls = decl.Method 0 ∷ [];
}

atomic_of_an_exclusive_group-refused : FirstBroken atomic_of_an_exclusive_group rule.NotShared (at 1 38)
atomic_of_an_exclusive_group-refused = refl

-- The group of an atomic block is held back.
abbrev pub atomic_of_a_group_held_back : Code
atomic_of_a_group_held_back = record {
  names = codes "io" ∷ codes "main" ∷ codes "this" ∷ codes "g" ∷ codes "h" ∷ [];
  classes = [];
  methods =
      (top_method None (name 1 1 13) [] [] []
      (Next (at 1 22) (Groups (name 3 1 28))
      (Next (at 1 31) (Groups (name 4 1 37))
      (Next (at 1 40) (Splits ((name 3 1 46) ∷ (name 4 1 49) ∷ []) 1
      (Next (at 1 53) (Locks (name 3 1 60) 2
      (Next (at 1 64) (Locks (name 4 1 71) 3
      End) End)) End)) End))))
      ∷ [];
  decls = decl.Method 0 ∷ [];
}

atomic_of_a_group_held_back-refused : FirstBroken atomic_of_a_group_held_back rule.NestedAtomic (at 1 71)
atomic_of_a_group_held_back-refused = refl

-- A group of its own inside an atomic block.
abbrev pub own_group_in_an_atomic_block : Code
own_group_in_an_atomic_block = record {
  names = codes "io" ∷ codes "main" ∷ codes "this" ∷ codes "g" ∷ codes "h" ∷ [];
  classes = [];
  methods =
      (top_method None (name 1 1 13) [] [] []
      (Next (at 1 22) (Groups (name 3 1 28))
      (Next (at 1 31) (Splits ((name 3 1 37) ∷ []) 1
      (Next (at 1 41) (Locks (name 3 1 48) 2
      (Next (at 1 52) (Groups (name 4 1 58))
      (Next (at 1 61) (Splits ((name 4 1 67) ∷ []) 3
      (Next (at 1 71) (Locks (name 4 1 78) 4
      End) End)) End))) End)) End)))
      ∷ [];
  decls = decl.Method 0 ∷ [];
}

own_group_in_an_atomic_block-accepted : Accepts own_group_in_an_atomic_block
own_group_in_an_atomic_block-accepted = refl

-- What is shared is not held Unique.
abbrev pub lent_object_shared : Code
lent_object_shared = record {
  names = codes "io" ∷ codes "main" ∷ codes "this" ∷ codes "C" ∷ codes "f" ∷ codes "g" ∷ codes "c" ∷ [];
  classes =
      class_with (name 3 1 7) [] [] []
      ∷ [];
  methods =
      (top_method None (name 4 1 25) ((name 5 1 27) ∷ []) (param
      (ty.Object (perm_at.Lent (at 1 30)) (kind_at.Class (name 3 1 35) [])) (name 6 1 37) ∷ [])
      (need need_of.Exclusive (name 5 1 55) ∷ [])
      (Next (at 1 59) (Shares (name 6 1 65) (name 5 1 72)) End))
      ∷ (top_method None (name 1 1 89) [] [] []
      End)
      ∷ [];
  decls = decl.Class 0 ∷ decl.Method 0 ∷ decl.Method 1 ∷ [];
}

lent_object_shared-refused : FirstBroken lent_object_shared rule.NeedsUnique (at 1 65)
lent_object_shared-refused = refl

-- Nothing is shared into io.
abbrev pub share_into_io : Code
share_into_io = record {
  names = codes "io" ∷ codes "main" ∷ codes "this" ∷ codes "C" ∷ codes "x" ∷ [];
  classes =
      class_with (name 3 1 7) [] [] []
      ∷ [];
  methods =
      (top_method None (name 1 1 25) [] [] (need need_of.Exclusive (name 0 1 47) ∷ [])
      (Next (at 1 52) (Declares (ty.Object (perm_at.Unique (at 1 56)) (kind_at.Class (name 3 1 63) [])) (name 4 1 65)
      (Made (name 3 1 73) [] [] (at 1 69)))
      (Next (at 1 78) (Shares (name 4 1 84) (name 0 1 91)) End)))
      ∷ [];
  decls = decl.Class 0 ∷ decl.Method 0 ∷ [];
}

share_into_io-refused : FirstBroken share_into_io rule.UnknownGroup (at 1 91)
share_into_io-refused = refl

-- A group that is split takes no member.
abbrev pub share_into_a_split_group : Code
share_into_a_split_group = record {
  names = codes "io" ∷ codes "main" ∷ codes "this" ∷ codes "C" ∷ codes "g" ∷ codes "x" ∷ [];
  classes =
      class_with (name 3 1 7) [] [] []
      ∷ [];
  methods =
      (top_method None (name 1 1 25) [] [] []
      (Next (at 1 34) (Groups (name 4 1 40))
      (Next (at 1 43) (Declares (ty.Object (perm_at.Unique (at 1 47)) (kind_at.Class (name 3 1 54) [])) (name 5 1 56)
      (Made (name 3 1 64) [] [] (at 1 60)))
      (Next (at 1 69) (Splits ((name 4 1 75) ∷ []) 1
      (Next (at 1 79) (Shares (name 5 1 85) (name 4 1 92)) End)) End))))
      ∷ [];
  decls = decl.Class 0 ∷ decl.Method 0 ∷ [];
}

share_into_a_split_group-refused : FirstBroken share_into_a_split_group rule.NeedsGroup (at 1 92)
share_into_a_split_group-refused = refl

-- A member is reached in a split block, outside atomic.
abbrev pub member_written_in_a_split_block : Code
member_written_in_a_split_block = record {
  names = codes "io" ∷ codes "main" ∷ codes "this" ∷ codes "Box" ∷ codes "v" ∷ codes "g" ∷ codes "x" ∷ [];
  classes =
      class_with (name 3 1 7) [] (field (ty.Int (at 1 13)) (name 4 1 17) ∷ []) []
      ∷ [];
  methods =
      (top_method None (name 1 1 34) [] [] []
      (Next (at 1 43) (Groups (name 5 1 49))
      (Next (at 1 52) (Declares (ty.Object (perm_at.Unique (at 1 56)) (kind_at.Class (name 3 1 63) [])) (name 6 1 67)
      (Made (name 3 1 75) [] ((Number (pos 1) (at 1 79)) ∷ []) (at 1 71)))
      (Next (at 1 83) (Shares (name 6 1 89) (name 5 1 96))
      (Next (at 1 99) (Splits ((name 5 1 105) ∷ []) 1
      (Next (at 1 109) (Stores (path (name 6 1 109) ((name 4 1 111) ∷ [])) (Number (pos 2) (at 1 115))) End)) End)))))
      ∷ [];
  decls = decl.Class 0 ∷ decl.Method 0 ∷ [];
}

member_written_in_a_split_block-refused : FirstBroken member_written_in_a_split_block rule.NeedsGroup (at 1 109)
member_written_in_a_split_block-refused = refl

-- A print where io is split.
abbrev pub print_where_io_is_split : Code
print_where_io_is_split = record {
  names = codes "io" ∷ codes "main" ∷ codes "this" ∷ [];
  classes = [];
  methods =
      (top_method None (name 1 1 13) [] [] (need need_of.Exclusive (name 0 1 35) ∷ [])
      (Next (at 1 40) (Splits ((name 0 1 46) ∷ []) 1
      (Next (at 1 51) (Prints (Number (pos 1) (at 1 57))) End)) End))
      ∷ [];
  decls = decl.Method 0 ∷ [];
}

print_where_io_is_split-refused : FirstBroken print_where_io_is_split rule.NeedsGroup (at 1 51)
print_where_io_is_split-refused = refl

-- A print in an atomic block of io.
abbrev pub print_in_an_atomic_block_of_io : Code
print_in_an_atomic_block_of_io = record {
  names = codes "io" ∷ codes "main" ∷ codes "this" ∷ [];
  classes = [];
  methods =
      (top_method None (name 1 1 13) [] [] (need need_of.Exclusive (name 0 1 35) ∷ [])
      (Next (at 1 40) (Splits ((name 0 1 46) ∷ []) 1
      (Next (at 1 51) (Locks (name 0 1 58) 2
      (Next (at 1 63) (Prints (Number (pos 1) (at 1 69))) End)) End)) End))
      ∷ [];
  decls = decl.Method 0 ∷ [];
}

print_in_an_atomic_block_of_io-accepted : Accepts print_in_an_atomic_block_of_io
print_in_an_atomic_block_of_io-accepted = refl
