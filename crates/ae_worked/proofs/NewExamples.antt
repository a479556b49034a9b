-- Programs that were added last. Made by `tests/worked`.
use Rattle.std.specs.Prelude.{refl, pos, [], ◌∷◌, codes, None}
use Rattle.ae_tree.specs.declared.tree.PermAt.TheVariants as perm_at
use Rattle.ae_tree.specs.declared.tree.KindAt.TheVariants as kind_at
use Rattle.ae_tree.specs.declared.tree.Ty.TheVariants as ty
use Rattle.ae_tree.specs.declared.tree.Op.TheVariants as op
use Rattle.ae_tree.specs.declared.tree.Need.TheVariants as need_of
use Rattle.ae_tree.specs.declared.tree.Decl.TheVariants as decl
use Rattle.ae_tree.specs.Plain.{Code, Number, Nothing, Read, Binary}
use Rattle.ae_tree.specs.Plain.{Value, Made, End, Next}
use Rattle.ae_tree.specs.Plain.{Declares, Assigns, Stores, Calls, Groups, Splits, Locks}
use Rattle.ae_tree.specs.Plain.{Shares, Prints}
use Rattle.ae_rules.specs.Judges.{Accepts}
use Rattle.ae_worked.proofs.ProgramWords.{at, name, path, call, field, class_with, param}
use Rattle.ae_worked.proofs.ProgramWords.{need, top_method}

-- A member that comes back from its cell is not higher than 1,000.
abbrev pub cell_too_high : Code
cell_too_high = record {
  names = codes "io" ∷ codes "main" ∷ codes "this" ∷ codes "List" ∷ codes "next" ∷ codes "g" ∷ codes "x" ∷ [];
  classes =
      class_with (name 3 1 7) [] (field (ty.Object (perm_at.Unique (at 1 14)) (kind_at.Class (name 3 1 21) []))
      (name 4 1 26) ∷ []) []
      ∷ [];
  methods =
      (top_method None (name 1 2 13) [] [] (need need_of.Exclusive (name 0 2 35) ∷ [])
      (Next (at 3 1) (Groups (name 5 3 7))
      (Next (at 4 1) (Declares (ty.Object (perm_at.Unique (at 4 5)) (kind_at.Class (name 3 4 12) [])) (name 6 4 17)
      (Made (name 3 4 25) [] ((Nothing (at 4 30)) ∷ []) (at 4 21)))
      (Next (at 5 1) (Shares (name 6 5 7) (name 5 5 14))
      (Next (at 6 1) (Splits ((name 5 6 7) ∷ []) 1
      End)
      (Next (at 7 1) (Prints (Number (pos 1) (at 7 7))) End))))))
      ∷ [];
  decls = decl.Class 0 ∷ decl.Method 0 ∷ [];
}

cell_too_high-accepted : Accepts cell_too_high
cell_too_high-accepted = refl

-- A value that comes out of an atomic block is not higher than 1,000.
abbrev pub answer_too_high : Code
answer_too_high = record {
  names = codes "io" ∷ codes "main" ∷ codes "this" ∷ codes "List" ∷ codes "next" ∷ codes "g" ∷ codes "x" ∷ [];
  classes =
      class_with (name 3 1 7) [] (field (ty.Object (perm_at.Unique (at 1 14)) (kind_at.Class (name 3 1 21) []))
      (name 4 1 26) ∷ []) []
      ∷ [];
  methods =
      (top_method None (name 1 2 13) [] [] (need need_of.Exclusive (name 0 2 35) ∷ [])
      (Next (at 3 1) (Groups (name 5 3 7))
      (Next (at 4 1) (Declares (ty.Object (perm_at.Unique (at 4 5)) (kind_at.Class (name 3 4 12) [])) (name 6 4 17)
      (Value (Nothing (at 4 21))))
      (Next (at 5 1) (Splits ((name 5 5 7) ∷ []) 1
      (Next (at 6 1) (Locks (name 5 6 8) 2
      (Next (at 6 12) (Assigns (name 6 6 12) (Value (Nothing (at 6 16)))) End)) End))
      (Next (at 8 1) (Prints (Number (pos 1) (at 8 7))) End)))))
      ∷ [];
  decls = decl.Class 0 ∷ decl.Method 0 ∷ [];
}

answer_too_high-accepted : Accepts answer_too_high
answer_too_high-accepted = refl

-- What a call does to a group that was split inside an atomic block stays.
abbrev pub shared_in_a_block : Code
shared_in_a_block = record {
  names = codes "io" ∷ codes "main" ∷ codes "this" ∷ codes "Count" ∷ codes "n" ∷ codes "bump" ∷ codes "g"
      ∷ codes "c" ∷ codes "h" ∷ [];
  classes =
      class_with (name 3 1 7) [] (field (ty.Int (at 1 15)) (name 4 1 19) ∷ []) []
      ∷ [];
  methods =
      (top_method None (name 5 2 13) ((name 6 2 18) ∷ []) (param
      (ty.Object (perm_at.Shared (at 2 21) (name 6 2 28)) (kind_at.Class (name 3 2 31) [])) (name 7 2 37) ∷ [])
      (need need_of.Shared (name 6 2 52) ∷ [])
      (Next (at 2 56) (Locks (name 6 2 63) 1
      (Next (at 2 67) (Stores (path (name 7 2 67) ((name 4 2 69) ∷ []))
      (Binary op.Add (Read (path (name 7 2 73) ((name 4 2 75) ∷ []))) (Number (pos 1) (at 2 79)))) End)) End))
      ∷ (top_method None (name 1 3 13) [] [] (need need_of.Exclusive (name 0 3 35) ∷ [])
      (Next (at 4 1) (Groups (name 6 4 7))
      (Next (at 5 1) (Groups (name 8 5 7))
      (Next (at 6 1) (Declares (ty.Object (perm_at.Unique (at 6 5)) (kind_at.Class (name 3 6 12) [])) (name 7 6 18)
      (Made (name 3 6 26) [] ((Number (pos 0) (at 6 32)) ∷ []) (at 6 22)))
      (Next (at 7 1) (Shares (name 7 7 7) (name 8 7 14))
      (Next (at 8 1) (Splits ((name 6 8 7) ∷ []) 1
      (Next (at 9 1) (Locks (name 6 9 8) 2
      (Next (at 9 12) (Splits ((name 8 9 18) ∷ []) 3
      (Next (at 9 22) (Calls (call (name 5 9 22) ((name 8 9 27) ∷ []) ((Read (path (name 7 9 30) [])) ∷ []))) End))
      End)) End))
      (Next (at 11 1) (Prints (Read (path (name 7 11 7) ((name 4 11 9) ∷ [])))) End)))))))
      ∷ [];
  decls = decl.Class 0 ∷ decl.Method 0 ∷ decl.Method 1 ∷ [];
}

shared_in_a_block-accepted : Accepts shared_in_a_block
shared_in_a_block-accepted = refl

-- A call is given one group for two of its method's: what is done by either name is done to the one.
abbrev pub one_group_for_two : Code
one_group_for_two = record {
  names = codes "io" ∷ codes "main" ∷ codes "this" ∷ codes "Count" ∷ codes "n" ∷ codes "both" ∷ codes "a"
      ∷ codes "b" ∷ codes "x" ∷ codes "y" ∷ codes "g" ∷ codes "h" ∷ codes "c" ∷ [];
  classes =
      class_with (name 3 1 7) [] (field (ty.Int (at 1 15)) (name 4 1 19) ∷ []) []
      ∷ [];
  methods =
      (top_method None (name 5 2 13) ((name 6 2 18) ∷ (name 7 2 21) ∷ [])
      (param (ty.Object (perm_at.Shared (at 2 24) (name 6 2 31)) (kind_at.Class (name 3 2 34) [])) (name 8 2 40)
      ∷ param (ty.Object (perm_at.Shared (at 2 43) (name 7 2 50)) (kind_at.Class (name 3 2 53) [])) (name 9 2 59) ∷ [])
      (need need_of.Shared (name 6 2 74) ∷ need need_of.Shared (name 7 2 84) ∷ [])
      (Next (at 3 1) (Locks (name 6 3 8) 1
      (Next (at 3 12) (Stores (path (name 8 3 12) ((name 4 3 14) ∷ []))
      (Binary op.Add (Read (path (name 8 3 18) ((name 4 3 20) ∷ []))) (Number (pos 1) (at 3 24)))) End))
      (Next (at 4 1) (Locks (name 7 4 8) 2
      (Next (at 4 12) (Stores (path (name 9 4 12) ((name 4 4 14) ∷ []))
      (Binary op.Add (Read (path (name 9 4 18) ((name 4 4 20) ∷ []))) (Number (pos 1) (at 4 24)))) End)) End)))
      ∷ (top_method None (name 1 6 13) [] [] (need need_of.Exclusive (name 0 6 35) ∷ [])
      (Next (at 7 1) (Groups (name 10 7 7))
      (Next (at 8 1) (Groups (name 11 8 7))
      (Next (at 9 1) (Declares (ty.Object (perm_at.Unique (at 9 5)) (kind_at.Class (name 3 9 12) [])) (name 12 9 18)
      (Made (name 3 9 26) [] ((Number (pos 0) (at 9 32)) ∷ []) (at 9 22)))
      (Next (at 10 1) (Shares (name 12 10 7) (name 11 10 14))
      (Next (at 11 1) (Splits ((name 10 11 7) ∷ []) 1
      (Next (at 12 1) (Locks (name 10 12 8) 2
      (Next (at 12 12) (Splits ((name 11 12 18) ∷ []) 3
      (Next (at 12 22) (Calls (call (name 5 12 22) ((name 11 12 27) ∷ (name 11 12 30) ∷ [])
      ((Read (path (name 12 12 33) [])) ∷ (Read (path (name 12 12 36) [])) ∷ []))) End)) End)) End))
      (Next (at 14 1) (Prints (Read (path (name 12 14 7) ((name 4 14 9) ∷ [])))) End)))))))
      ∷ [];
  decls = decl.Class 0 ∷ decl.Method 0 ∷ decl.Method 1 ∷ [];
}

one_group_for_two-accepted : Accepts one_group_for_two
one_group_for_two-accepted = refl

-- Two groups that are split at once.
abbrev pub two_groups : Code
two_groups = record {
  names = codes "io" ∷ codes "main" ∷ codes "this" ∷ codes "Count" ∷ codes "n" ∷ codes "g" ∷ codes "h" ∷ codes "a"
      ∷ codes "b" ∷ [];
  classes =
      class_with (name 3 1 7) [] (field (ty.Int (at 1 15)) (name 4 1 19) ∷ []) []
      ∷ [];
  methods =
      (top_method None (name 1 2 13) [] [] (need need_of.Exclusive (name 0 2 35) ∷ [])
      (Next (at 3 1) (Groups (name 5 3 7))
      (Next (at 4 1) (Groups (name 6 4 7))
      (Next (at 5 1) (Declares (ty.Object (perm_at.Unique (at 5 5)) (kind_at.Class (name 3 5 12) [])) (name 7 5 18)
      (Made (name 3 5 26) [] ((Number (pos 1) (at 5 32)) ∷ []) (at 5 22)))
      (Next (at 6 1) (Declares (ty.Object (perm_at.Unique (at 6 5)) (kind_at.Class (name 3 6 12) [])) (name 8 6 18)
      (Made (name 3 6 26) [] ((Number (pos 2) (at 6 32)) ∷ []) (at 6 22)))
      (Next (at 7 1) (Shares (name 7 7 7) (name 5 7 14))
      (Next (at 8 1) (Shares (name 8 8 7) (name 6 8 14))
      (Next (at 9 1) (Splits ((name 5 9 7) ∷ (name 6 9 10) ∷ []) 1
      End)
      (Next (at 10 1) (Prints (Read (path (name 7 10 7) ((name 4 10 9) ∷ [])))) End)))))))))
      ∷ [];
  decls = decl.Class 0 ∷ decl.Method 0 ∷ [];
}

two_groups-accepted : Accepts two_groups
two_groups-accepted = refl
