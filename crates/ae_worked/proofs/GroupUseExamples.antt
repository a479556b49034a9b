-- Uses of groups. Made by `tests/worked`.
use Rattle.std.specs.Prelude.{refl, pos, [], ◌∷◌, codes, None}
use Rattle.ae_tree.specs.declared.tree.PermAt.TheVariants as perm_at
use Rattle.ae_tree.specs.declared.tree.KindAt.TheVariants as kind_at
use Rattle.ae_tree.specs.declared.tree.Ty.TheVariants as ty
use Rattle.ae_tree.specs.declared.tree.Op.TheVariants as op
use Rattle.ae_tree.specs.declared.tree.Need.TheVariants as need_of
use Rattle.ae_tree.specs.declared.tree.Decl.TheVariants as decl
use Rattle.ae_tree.specs.Plain.{Code, Number, Nothing, Read, Binary}
use Rattle.ae_tree.specs.Plain.{Value, Made, End, Next}
use Rattle.ae_tree.specs.Plain.{Declares, Assigns, Stores, Calls, Groups, Splits, Locks}
use Rattle.ae_tree.specs.Plain.{Shares, Prints, PrintsText}
use Rattle.ae_rules.specs.Judges.{Accepts}
use Rattle.ae_worked.proofs.ProgramWords.{at, name, path, call, field, class_with, param}
use Rattle.ae_worked.proofs.ProgramWords.{need, top_method}

-- Calls that need a group shared may run together.
abbrev pub four_in_a_group : Code
four_in_a_group = record {
  names = codes "io" ∷ codes "main" ∷ codes "this" ∷ codes "Count" ∷ codes "n" ∷ codes "bump" ∷ codes "g"
      ∷ codes "c" ∷ [];
  classes =
      class_with (name 3 1 7) [] (field (ty.Int (at 1 15)) (name 4 1 19) ∷ []) []
      ∷ [];
  methods =
      (top_method None (name 5 2 13) ((name 6 2 18) ∷ []) (param
      (ty.Object (perm_at.Shared (at 2 21) (name 6 2 28)) (kind_at.Class (name 3 2 31) [])) (name 7 2 37) ∷ [])
      (need need_of.Shared (name 6 2 52) ∷ [])
      (Next (at 3 1) (Locks (name 6 3 8) 1
      (Next (at 3 12) (Stores (path (name 7 3 12) ((name 4 3 14) ∷ []))
      (Binary op.Add (Read (path (name 7 3 18) ((name 4 3 20) ∷ []))) (Number (pos 1) (at 3 24)))) End)) End))
      ∷ (top_method None (name 1 5 13) [] [] (need need_of.Exclusive (name 0 5 35) ∷ [])
      (Next (at 6 1) (Groups (name 6 6 7))
      (Next (at 7 1) (Declares (ty.Object (perm_at.Unique (at 7 5)) (kind_at.Class (name 3 7 12) [])) (name 7 7 18)
      (Made (name 3 7 26) [] ((Number (pos 0) (at 7 32)) ∷ []) (at 7 22)))
      (Next (at 8 1) (Shares (name 7 8 7) (name 6 8 14))
      (Next (at 9 1) (Splits ((name 6 9 7) ∷ []) 1
      (Next (at 10 1) (Calls (call (name 5 10 1) ((name 6 10 6) ∷ []) ((Read (path (name 7 10 9) [])) ∷ [])))
      (Next (at 11 1) (Calls (call (name 5 11 1) ((name 6 11 6) ∷ []) ((Read (path (name 7 11 9) [])) ∷ [])))
      (Next (at 12 1) (Calls (call (name 5 12 1) ((name 6 12 6) ∷ []) ((Read (path (name 7 12 9) [])) ∷ [])))
      (Next (at 13 1) (Calls (call (name 5 13 1) ((name 6 13 6) ∷ []) ((Read (path (name 7 13 9) [])) ∷ []))) End)))))
      (Next (at 15 1) (Prints (Read (path (name 7 15 7) ((name 4 15 9) ∷ [])))) End))))))
      ∷ [];
  decls = decl.Class 0 ∷ decl.Method 0 ∷ decl.Method 1 ∷ [];
}

four_in_a_group-accepted : Accepts four_in_a_group
four_in_a_group-accepted = refl

-- Where a group is exclusive, each step into a member uses the whole of it.
abbrev pub members_of_a_group : Code
members_of_a_group = record {
  names = codes "io" ∷ codes "main" ∷ codes "this" ∷ codes "Box" ∷ codes "v" ∷ codes "g" ∷ codes "x" ∷ codes "y"
      ∷ codes "a" ∷ [];
  classes =
      class_with (name 3 1 7) [] (field (ty.Int (at 1 13)) (name 4 1 17) ∷ []) []
      ∷ [];
  methods =
      (top_method None (name 1 2 13) [] [] (need need_of.Exclusive (name 0 2 35) ∷ [])
      (Next (at 3 1) (Groups (name 5 3 7))
      (Next (at 4 1) (Declares (ty.Object (perm_at.Unique (at 4 5)) (kind_at.Class (name 3 4 12) [])) (name 6 4 16)
      (Made (name 3 4 24) [] ((Number (pos 1) (at 4 28)) ∷ []) (at 4 20)))
      (Next (at 5 1) (Declares (ty.Object (perm_at.Unique (at 5 5)) (kind_at.Class (name 3 5 12) [])) (name 7 5 16)
      (Made (name 3 5 24) [] ((Number (pos 2) (at 5 28)) ∷ []) (at 5 20)))
      (Next (at 6 1) (Shares (name 6 6 7) (name 5 6 14))
      (Next (at 7 1) (Shares (name 7 7 7) (name 5 7 14))
      (Next (at 8 1) (Declares (ty.Int (at 8 5)) (name 8 8 9) (Value (Read (path (name 6 8 13) ((name 4 8 15) ∷ [])))))
      (Next (at 9 1) (Stores (path (name 7 9 1) ((name 4 9 3) ∷ [])) (Number (pos 3) (at 9 7)))
      (Next (at 10 1) (Prints (Number (pos 4) (at 10 7))) End)))))))))
      ∷ [];
  decls = decl.Class 0 ∷ decl.Method 0 ∷ [];
}

members_of_a_group-accepted : Accepts members_of_a_group
members_of_a_group-accepted = refl

-- A path beside `null` does not reach the member.
abbrev pub beside_null : Code
beside_null = record {
  names = codes "io" ∷ codes "main" ∷ codes "this" ∷ codes "Box" ∷ codes "v" ∷ codes "g" ∷ codes "x" ∷ codes "a"
      ∷ codes "b" ∷ [];
  classes =
      class_with (name 3 1 7) [] (field (ty.Int (at 1 13)) (name 4 1 17) ∷ []) []
      ∷ [];
  methods =
      (top_method None (name 1 2 13) [] [] (need need_of.Exclusive (name 0 2 35) ∷ [])
      (Next (at 3 1) (Groups (name 5 3 7))
      (Next (at 4 1) (Declares (ty.Object (perm_at.Unique (at 4 5)) (kind_at.Class (name 3 4 12) [])) (name 6 4 16)
      (Made (name 3 4 24) [] ((Number (pos 1) (at 4 28)) ∷ []) (at 4 20)))
      (Next (at 5 1) (Shares (name 6 5 7) (name 5 5 14))
      (Next (at 6 1) (Declares (ty.Bool (at 6 5)) (name 7 6 10) (Value
      (Binary op.Eq (Read (path (name 6 6 14) [])) (Nothing (at 6 19)))))
      (Next (at 7 1) (Declares (ty.Bool (at 7 5)) (name 8 7 10) (Value
      (Binary op.Eq (Read (path (name 6 7 14) [])) (Nothing (at 7 19)))))
      (Next (at 8 1) (Stores (path (name 6 8 1) ((name 4 8 3) ∷ [])) (Number (pos 2) (at 8 7))) End)))))))
      ∷ [];
  decls = decl.Class 0 ∷ decl.Method 0 ∷ [];
}

beside_null-accepted : Accepts beside_null
beside_null-accepted = refl

-- A call whose method needs nothing of a group does not wait for it.
abbrev pub no_need : Code
no_need = record {
  names = codes "io" ∷ codes "main" ∷ codes "this" ∷ codes "quiet" ∷ codes "g" ∷ [];
  classes = [];
  methods =
      (top_method None (name 3 1 13) ((name 4 1 19) ∷ []) [] []
      End)
      ∷ (top_method None (name 1 2 13) [] [] []
      (Next (at 3 1) (Groups (name 4 3 7))
      (Next (at 4 1) (Calls (call (name 3 4 1) ((name 4 4 7) ∷ []) [])) End)))
      ∷ [];
  decls = decl.Method 0 ∷ decl.Method 1 ∷ [];
}

no_need-accepted : Accepts no_need
no_need-accepted = refl

-- A call that needs a group exclusive or protected uses the whole of it.
abbrev pub needs_of_one_group : Code
needs_of_one_group = record {
  names = codes "io" ∷ codes "main" ∷ codes "this" ∷ codes "alone" ∷ codes "g" ∷ codes "guarded" ∷ codes "h" ∷ [];
  classes = [];
  methods =
      (top_method None (name 3 1 13) ((name 4 1 19) ∷ []) [] (need need_of.Exclusive (name 4 1 39) ∷ [])
      End)
      ∷ (top_method None (name 5 2 13) ((name 4 2 21) ∷ []) [] (need need_of.Protected (name 4 2 41) ∷ [])
      End)
      ∷ (top_method None (name 1 3 13) [] [] []
      (Next (at 4 1) (Groups (name 4 4 7))
      (Next (at 5 1) (Groups (name 6 5 7))
      (Next (at 6 1) (Calls (call (name 3 6 1) ((name 4 6 7) ∷ []) []))
      (Next (at 7 1) (Calls (call (name 5 7 1) ((name 4 7 9) ∷ []) []))
      (Next (at 8 1) (Calls (call (name 3 8 1) ((name 6 8 7) ∷ []) [])) End))))))
      ∷ [];
  decls = decl.Method 0 ∷ decl.Method 1 ∷ decl.Method 2 ∷ [];
}

needs_of_one_group-accepted : Accepts needs_of_one_group
needs_of_one_group-accepted = refl

-- Split blocks of two groups may run together.
abbrev pub two_groups_split : Code
two_groups_split = record {
  names = codes "io" ∷ codes "main" ∷ codes "this" ∷ codes "Box" ∷ codes "v" ∷ codes "see" ∷ codes "g" ∷ codes "x"
      ∷ codes "h" ∷ codes "y" ∷ [];
  classes =
      class_with (name 3 1 7) [] (field (ty.Int (at 1 13)) (name 4 1 17) ∷ []) []
      ∷ [];
  methods =
      (top_method None (name 5 2 13) ((name 6 2 17) ∷ []) (param
      (ty.Object (perm_at.Shared (at 2 20) (name 6 2 27)) (kind_at.Class (name 3 2 30) [])) (name 7 2 34) ∷ [])
      (need need_of.Shared (name 6 2 49) ∷ [])
      (Next (at 3 1) (Locks (name 6 3 8) 1
      (Next (at 3 12) (Stores (path (name 7 3 12) ((name 4 3 14) ∷ [])) (Number (pos 1) (at 3 18))) End)) End))
      ∷ (top_method None (name 1 5 13) [] [] []
      (Next (at 6 1) (Groups (name 6 6 7))
      (Next (at 7 1) (Groups (name 8 7 7))
      (Next (at 8 1) (Declares (ty.Object (perm_at.Unique (at 8 5)) (kind_at.Class (name 3 8 12) [])) (name 7 8 16)
      (Made (name 3 8 24) [] ((Number (pos 1) (at 8 28)) ∷ []) (at 8 20)))
      (Next (at 9 1) (Declares (ty.Object (perm_at.Unique (at 9 5)) (kind_at.Class (name 3 9 12) [])) (name 9 9 16)
      (Made (name 3 9 24) [] ((Number (pos 2) (at 9 28)) ∷ []) (at 9 20)))
      (Next (at 10 1) (Shares (name 7 10 7) (name 6 10 14))
      (Next (at 11 1) (Shares (name 9 11 7) (name 8 11 14))
      (Next (at 12 1) (Splits ((name 6 12 7) ∷ []) 1
      (Next (at 12 11) (Calls (call (name 5 12 11) ((name 6 12 15) ∷ []) ((Read (path (name 7 12 18) [])) ∷ []))) End))
      (Next (at 13 1) (Splits ((name 8 13 7) ∷ []) 2
      (Next (at 13 11) (Calls (call (name 5 13 11) ((name 8 13 15) ∷ []) ((Read (path (name 9 13 18) [])) ∷ []))) End))
      End)))))))))
      ∷ [];
  decls = decl.Class 0 ∷ decl.Method 0 ∷ decl.Method 1 ∷ [];
}

two_groups_split-accepted : Accepts two_groups_split
two_groups_split-accepted = refl

-- Atomic blocks of one group go together, unless a local outside joins them.
abbrev pub blocks_with_a_local : Code
blocks_with_a_local = record {
  names = codes "io" ∷ codes "main" ∷ codes "this" ∷ codes "Box" ∷ codes "v" ∷ codes "g" ∷ codes "x" ∷ codes "a"
      ∷ [];
  classes =
      class_with (name 3 1 7) [] (field (ty.Int (at 1 13)) (name 4 1 17) ∷ []) []
      ∷ [];
  methods =
      (top_method None (name 1 2 13) [] [] []
      (Next (at 3 1) (Groups (name 5 3 7))
      (Next (at 4 1) (Declares (ty.Object (perm_at.Unique (at 4 5)) (kind_at.Class (name 3 4 12) [])) (name 6 4 16)
      (Made (name 3 4 24) [] ((Number (pos 1) (at 4 28)) ∷ []) (at 4 20)))
      (Next (at 5 1) (Shares (name 6 5 7) (name 5 5 14))
      (Next (at 6 1) (Declares (ty.Int (at 6 5)) (name 7 6 9) (Value (Number (pos 0) (at 6 13))))
      (Next (at 7 1) (Splits ((name 5 7 7) ∷ []) 1
      (Next (at 8 1) (Locks (name 5 8 8) 2
      (Next (at 8 12) (Assigns (name 7 8 12) (Value (Read (path (name 6 8 16) ((name 4 8 18) ∷ []))))) End))
      (Next (at 9 1) (Locks (name 5 9 8) 3
      (Next (at 9 12) (Stores (path (name 6 9 12) ((name 4 9 14) ∷ [])) (Number (pos 5) (at 9 18))) End))
      (Next (at 10 1) (Locks (name 5 10 8) 4
      (Next (at 10 12) (Stores (path (name 6 10 12) ((name 4 10 14) ∷ [])) (Read (path (name 7 10 18) []))) End))
      End)))) End))))))
      ∷ [];
  decls = decl.Class 0 ∷ decl.Method 0 ∷ [];
}

blocks_with_a_local-accepted : Accepts blocks_with_a_local
blocks_with_a_local-accepted = refl

-- What is printed waits for what was printed before; blocks that share io do not.
abbrev pub prints_in_order : Code
prints_in_order = record {
  names = codes "io" ∷ codes "main" ∷ codes "this" ∷ [];
  classes = [];
  methods =
      (top_method None (name 1 1 13) [] [] (need need_of.Exclusive (name 0 1 35) ∷ [])
      (Next (at 2 1) (Prints (Number (pos 1) (at 2 7)))
      (Next (at 3 1) (PrintsText (codes "two"))
      (Next (at 4 1) (Splits ((name 0 4 7) ∷ []) 1
      (Next (at 5 1) (Locks (name 0 5 8) 2
      (Next (at 5 13) (Prints (Number (pos 3) (at 5 19))) End))
      (Next (at 6 1) (Locks (name 0 6 8) 3
      (Next (at 6 13) (Prints (Number (pos 4) (at 6 19))) End)) End)))
      (Next (at 8 1) (Prints (Number (pos 5) (at 8 7))) End)))))
      ∷ [];
  decls = decl.Method 0 ∷ [];
}

prints_in_order-accepted : Accepts prints_in_order
prints_in_order-accepted = refl
