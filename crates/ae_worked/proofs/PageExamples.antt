-- The programs that stand whole in the page on the language. Made by `tests/worked`.
use Rattle.std.specs.Prelude.{refl, pos, [], ◌∷◌, codes, None, Some}
use Rattle.ae_tree.specs.declared.tree.PermAt.TheVariants as perm_at
use Rattle.ae_tree.specs.declared.tree.KindAt.TheVariants as kind_at
use Rattle.ae_tree.specs.declared.tree.Ty.TheVariants as ty
use Rattle.ae_tree.specs.declared.tree.Op.TheVariants as op
use Rattle.ae_tree.specs.declared.tree.Need.TheVariants as need_of
use Rattle.ae_tree.specs.declared.tree.Decl.TheVariants as decl
use Rattle.ae_tree.specs.Plain.{Code, Number, Nothing, Read, Item, Grouped, Binary}
use Rattle.ae_tree.specs.Plain.{Value, Made, Returned, End, Next}
use Rattle.ae_tree.specs.Plain.{Declares, Assigns, Stores, Calls, Chooses, Groups, Splits, Locks}
use Rattle.ae_tree.specs.Plain.{Shares, Prints, Asserts, Returns}
use Rattle.ae_rules.specs.Judges.{Accepts}
use Rattle.ae_worked.proofs.ProgramWords.{at, name, path, call, field, class_with, param}
use Rattle.ae_worked.proofs.ProgramWords.{need, top_method}

-- The example of the canonical layout.
abbrev pub canonical_layout : Code
canonical_layout = record {
  names = codes "io" ∷ codes "main" ∷ codes "this" ∷ [];
  classes = [];
  methods =
      (top_method None (name 1 1 13) [] [] (need need_of.Exclusive (name 0 1 35) ∷ [])
      (Next (at 2 5) (Prints (Binary op.Mul (Grouped (Binary op.Add (Number (pos 1) (at 2 12))
      (Number (pos 2) (at 2 16))) (at 2 11)) (Number (pos 3) (at 2 21)))) End))
      ∷ [];
  decls = decl.Method 0 ∷ [];
}

canonical_layout-accepted : Accepts canonical_layout
canonical_layout-accepted = refl

-- Two readers wait for the maker and not for each other, and the writer waits for both.
abbrev pub readers_and_a_writer : Code
readers_and_a_writer = record {
  names = codes "io" ∷ codes "main" ∷ codes "this" ∷ codes "Box" ∷ codes "v" ∷ codes "get" ∷ codes "b"
      ∷ codes "put" ∷ codes "n" ∷ codes "x" ∷ codes "p" ∷ codes "q" ∷ [];
  classes =
      class_with (name 3 1 7) [] (field (ty.Int (at 1 13)) (name 4 1 17) ∷ []) []
      ∷ [];
  methods =
      (top_method (Some (ty.Int (at 2 8))) (name 5 2 12) [] (param
      (ty.Object (perm_at.Lent (at 2 16)) (kind_at.Class (name 3 2 21) [])) (name 6 2 25) ∷ []) []
      (Next (at 2 30) (Returns (Read (path (name 6 2 37) ((name 4 2 39) ∷ [])))) End))
      ∷ (top_method None (name 7 3 13) [] (param (ty.Object (perm_at.Unique (at 3 17)) (kind_at.Class (name 3 3 24) []))
      (name 6 3 28) ∷ param (ty.Int (at 3 31)) (name 8 3 35) ∷ []) []
      (Next (at 3 40) (Stores (path (name 6 3 40) ((name 4 3 42) ∷ [])) (Read (path (name 8 3 46) []))) End))
      ∷ (top_method None (name 1 4 13) [] [] (need need_of.Exclusive (name 0 4 35) ∷ [])
      (Next (at 5 5) (Declares (ty.Object (perm_at.Unique (at 5 9)) (kind_at.Class (name 3 5 16) [])) (name 9 5 20)
      (Made (name 3 5 28) [] ((Number (pos 1) (at 5 32)) ∷ []) (at 5 24)))
      (Next (at 6 5) (Declares (ty.Int (at 6 9)) (name 10 6 13) (Returned
      (call (name 5 6 17) [] ((Read (path (name 9 6 21) [])) ∷ []))))
      (Next (at 7 5) (Declares (ty.Int (at 7 9)) (name 11 7 13) (Returned
      (call (name 5 7 17) [] ((Read (path (name 9 7 21) [])) ∷ []))))
      (Next (at 8 5) (Calls (call (name 7 8 5) [] ((Read (path (name 9 8 9) []))
      ∷ (Binary op.Add (Read (path (name 10 8 12) [])) (Read (path (name 11 8 16) []))) ∷ [])))
      (Next (at 9 5) (Prints (Read (path (name 9 9 11) ((name 4 9 13) ∷ [])))) End))))))
      ∷ [];
  decls = decl.Class 0 ∷ decl.Method 0 ∷ decl.Method 1 ∷ decl.Method 2 ∷ [];
}

readers_and_a_writer-accepted : Accepts readers_and_a_writer
readers_and_a_writer-accepted = refl

-- Calls that share a group do not wait for each other.
abbrev pub calls_that_share_a_group : Code
calls_that_share_a_group = record {
  names = codes "io" ∷ codes "main" ∷ codes "this" ∷ codes "Count" ∷ codes "n" ∷ codes "bump" ∷ codes "g"
      ∷ codes "c" ∷ [];
  classes =
      class_with (name 3 1 7) [] (field (ty.Int (at 1 15)) (name 4 1 19) ∷ []) []
      ∷ [];
  methods =
      (top_method None (name 5 2 13) ((name 6 2 18) ∷ []) (param
      (ty.Object (perm_at.Shared (at 2 21) (name 6 2 28)) (kind_at.Class (name 3 2 31) [])) (name 7 2 37) ∷ [])
      (need need_of.Shared (name 6 2 52) ∷ [])
      (Next (at 3 5) (Locks (name 6 3 12) 1
      (Next (at 3 16) (Stores (path (name 7 3 16) ((name 4 3 18) ∷ []))
      (Binary op.Add (Read (path (name 7 3 22) ((name 4 3 24) ∷ []))) (Number (pos 1) (at 3 28)))) End)) End))
      ∷ (top_method None (name 1 5 13) [] [] (need need_of.Exclusive (name 0 5 35) ∷ [])
      (Next (at 6 5) (Groups (name 6 6 11))
      (Next (at 7 5) (Declares (ty.Object (perm_at.Unique (at 7 9)) (kind_at.Class (name 3 7 16) [])) (name 7 7 22)
      (Made (name 3 7 30) [] ((Number (pos 0) (at 7 36)) ∷ []) (at 7 26)))
      (Next (at 8 5) (Shares (name 7 8 11) (name 6 8 18))
      (Next (at 9 5) (Splits ((name 6 9 11) ∷ []) 1
      (Next (at 10 9) (Calls (call (name 5 10 9) ((name 6 10 14) ∷ []) ((Read (path (name 7 10 17) [])) ∷ [])))
      (Next (at 11 9) (Calls (call (name 5 11 9) ((name 6 11 14) ∷ []) ((Read (path (name 7 11 17) [])) ∷ [])))
      (Next (at 12 9) (Calls (call (name 5 12 9) ((name 6 12 14) ∷ []) ((Read (path (name 7 12 17) [])) ∷ [])))
      (Next (at 13 9) (Calls (call (name 5 13 9) ((name 6 13 14) ∷ []) ((Read (path (name 7 13 17) [])) ∷ []))) End)))))
      (Next (at 15 5) (Prints (Read (path (name 7 15 11) ((name 4 15 13) ∷ [])))) End))))))
      ∷ [];
  decls = decl.Class 0 ∷ decl.Method 0 ∷ decl.Method 1 ∷ [];
}

calls_that_share_a_group-accepted : Accepts calls_that_share_a_group
calls_that_share_a_group-accepted = refl

-- An edge between two atomic blocks keeps their order.
abbrev pub atomic_blocks_with_an_edge : Code
atomic_blocks_with_an_edge = record {
  names = codes "io" ∷ codes "main" ∷ codes "this" ∷ codes "Count" ∷ codes "n" ∷ codes "g" ∷ codes "c" ∷ codes "a"
      ∷ [];
  classes =
      class_with (name 3 1 7) [] (field (ty.Int (at 1 15)) (name 4 1 19) ∷ []) []
      ∷ [];
  methods =
      (top_method None (name 1 2 13) [] [] (need need_of.Exclusive (name 0 2 35) ∷ [])
      (Next (at 3 5) (Groups (name 5 3 11))
      (Next (at 4 5) (Declares (ty.Object (perm_at.Unique (at 4 9)) (kind_at.Class (name 3 4 16) [])) (name 6 4 22)
      (Made (name 3 4 30) [] ((Number (pos 5) (at 4 36)) ∷ []) (at 4 26)))
      (Next (at 5 5) (Shares (name 6 5 11) (name 5 5 18))
      (Next (at 6 5) (Declares (ty.Int (at 6 9)) (name 7 6 13) (Value (Number (pos 0) (at 6 17))))
      (Next (at 7 5) (Splits ((name 5 7 11) ∷ []) 1
      (Next (at 8 9) (Locks (name 5 8 16) 2
      (Next (at 8 20) (Assigns (name 7 8 20) (Value (Read (path (name 6 8 24) ((name 4 8 26) ∷ []))))) End))
      (Next (at 9 9) (Locks (name 5 9 16) 3
      (Next (at 9 20) (Stores (path (name 6 9 20) ((name 4 9 22) ∷ []))
      (Binary op.Add (Read (path (name 7 9 26) [])) (Number (pos 1) (at 9 30)))) End)) End)))
      (Next (at 11 5) (Prints (Read (path (name 6 11 11) ((name 4 11 13) ∷ [])))) End)))))))
      ∷ [];
  decls = decl.Class 0 ∷ decl.Method 0 ∷ [];
}

atomic_blocks_with_an_edge-accepted : Accepts atomic_blocks_with_an_edge
atomic_blocks_with_an_edge-accepted = refl

-- Two atomic blocks run in either order.
abbrev pub atomic_blocks_without_an_edge : Code
atomic_blocks_without_an_edge = record {
  names = codes "io" ∷ codes "main" ∷ codes "this" ∷ [];
  classes = [];
  methods =
      (top_method None (name 1 1 13) [] [] (need need_of.Exclusive (name 0 1 35) ∷ [])
      (Next (at 2 5) (Splits ((name 0 2 11) ∷ []) 1
      (Next (at 3 9) (Locks (name 0 3 16) 2
      (Next (at 3 21) (Prints (Number (pos 1) (at 3 27))) End))
      (Next (at 4 9) (Locks (name 0 4 16) 3
      (Next (at 4 21) (Prints (Number (pos 2) (at 4 27))) End)) End))) End))
      ∷ [];
  decls = decl.Method 0 ∷ [];
}

atomic_blocks_without_an_edge-accepted : Accepts atomic_blocks_without_an_edge
atomic_blocks_without_an_edge-accepted = refl

-- A block that traps leaves its member as it was.
abbrev pub atomic_block_that_traps : Code
atomic_block_that_traps = record {
  names = codes "io" ∷ codes "main" ∷ codes "this" ∷ codes "Count" ∷ codes "n" ∷ codes "g" ∷ codes "c" ∷ [];
  classes =
      class_with (name 3 1 7) [] (field (ty.Int (at 1 15)) (name 4 1 19) ∷ []) []
      ∷ [];
  methods =
      (top_method None (name 1 2 13) [] [] (need need_of.Exclusive (name 0 2 35) ∷ [])
      (Next (at 3 5) (Groups (name 5 3 11))
      (Next (at 4 5) (Declares (ty.Object (perm_at.Unique (at 4 9)) (kind_at.Class (name 3 4 16) [])) (name 6 4 22)
      (Made (name 3 4 30) [] ((Number (pos 5) (at 4 36)) ∷ []) (at 4 26)))
      (Next (at 5 5) (Shares (name 6 5 11) (name 5 5 18))
      (Next (at 6 5) (Splits ((name 5 6 11) ∷ []) 1
      (Next (at 7 9) (Locks (name 5 7 16) 2
      (Next (at 7 20) (Stores (path (name 6 7 20) ((name 4 7 22) ∷ [])) (Number (pos 6) (at 7 26)))
      (Next (at 7 29) (Asserts (Binary op.Eq (Read (path (name 6 7 36) ((name 4 7 38) ∷ [])))
      (Number (pos 5) (at 7 43)))) End))) End)) End)))))
      ∷ [];
  decls = decl.Class 0 ∷ decl.Method 0 ∷ [];
}

atomic_block_that_traps-accepted : Accepts atomic_block_that_traps
atomic_block_that_traps-accepted = refl

-- The first ending in source order counts.
abbrev pub first_ending_counts : Code
first_ending_counts = record {
  names = codes "io" ∷ codes "main" ∷ codes "this" ∷ codes "z" ∷ codes "w" ∷ [];
  classes = [];
  methods =
      (top_method None (name 1 1 13) [] [] (need need_of.Exclusive (name 0 1 35) ∷ [])
      (Next (at 2 5) (Prints (Number (pos 7) (at 2 11)))
      (Next (at 3 5) (Declares (ty.Int (at 3 9)) (name 3 3 13) (Value
      (Binary op.Div (Number (pos 1) (at 3 17)) (Number (pos 0) (at 3 21)))))
      (Next (at 4 5) (Declares (ty.Int (at 4 9)) (name 4 4 13) (Value
      (Binary op.Add (Number (pos 9223372036854775807) (at 4 17)) (Number (pos 1) (at 4 39))))) End))))
      ∷ [];
  decls = decl.Method 0 ∷ [];
}

first_ending_counts-accepted : Accepts first_ending_counts
first_ending_counts-accepted = refl

-- A tree is built and summed by calls, and its odd numbers are counted in a group.
abbrev pub tree_of_parallel_calls : Code
tree_of_parallel_calls = record {
  names = codes "io" ∷ codes "main" ∷ codes "this" ∷ codes "Node" ∷ codes "v" ∷ codes "l" ∷ codes "r"
      ∷ codes "Count" ∷ codes "n" ∷ codes "build" ∷ codes "lo" ∷ codes "hi" ∷ codes "t" ∷ codes "m" ∷ codes "a"
      ∷ codes "b" ∷ codes "sum" ∷ codes "s" ∷ codes "odd" ∷ codes "g" ∷ codes "c" ∷ codes "args" ∷ [];
  classes =
      class_with (name 3 1 7) [] (field (ty.Int (at 1 14)) (name 4 1 18)
      ∷ field (ty.Object (perm_at.Unique (at 1 21)) (kind_at.Class (name 3 1 28) [])) (name 5 1 33)
      ∷ field (ty.Object (perm_at.Unique (at 1 36)) (kind_at.Class (name 3 1 43) [])) (name 6 1 48) ∷ []) []
      ∷ class_with (name 7 2 7) [] (field (ty.Int (at 2 15)) (name 8 2 19) ∷ []) []
      ∷ [];
  methods =
      (top_method (Some (ty.Object (perm_at.Unique (at 3 8)) (kind_at.Class (name 3 3 15) []))) (name 9 3 20) []
      (param (ty.Int (at 3 26)) (name 10 3 30) ∷ param (ty.Int (at 3 34)) (name 11 3 38) ∷ []) []
      (Next (at 4 5) (Declares (ty.Object (perm_at.Unique (at 4 9)) (kind_at.Class (name 3 4 16) [])) (name 12 4 21)
      (Value (Nothing (at 4 25))))
      (Next (at 5 5) (Chooses (Binary op.Lt (Read (path (name 10 5 8) [])) (Read (path (name 11 5 13) []))) 1
      (Next (at 6 9) (Declares (ty.Int (at 6 13)) (name 13 6 17)
      (Value (Binary op.Div (Grouped (Binary op.Add (Read (path (name 10 6 22) [])) (Read (path (name 11 6 27) [])))
      (at 6 21)) (Number (pos 2) (at 6 33)))))
      (Next (at 7 9) (Declares (ty.Object (perm_at.Unique (at 7 13)) (kind_at.Class (name 3 7 20) [])) (name 14 7 25)
      (Returned (call (name 9 7 29) [] ((Read (path (name 10 7 35) [])) ∷ (Read (path (name 13 7 39) [])) ∷ []))))
      (Next (at 8 9) (Declares (ty.Object (perm_at.Unique (at 8 13)) (kind_at.Class (name 3 8 20) [])) (name 15 8 25)
      (Returned (call (name 9 8 29) [] ((Binary op.Add (Read (path (name 13 8 35) [])) (Number (pos 1) (at 8 39)))
      ∷ (Read (path (name 11 8 42) [])) ∷ []))))
      (Next (at 9 9) (Assigns (name 12 9 9) (Made (name 3 9 17) []
      ((Read (path (name 13 9 22) [])) ∷ (Read (path (name 14 9 25) [])) ∷ (Read (path (name 15 9 28) [])) ∷ [])
      (at 9 13))) End)))))
      (Next (at 11 5) (Returns (Read (path (name 12 11 12) []))) End))))
      ∷ (top_method (Some (ty.Int (at 13 8))) (name 16 13 12) []
      (param (ty.Object (perm_at.Lent (at 13 16)) (kind_at.Class (name 3 13 21) [])) (name 12 13 26) ∷ []) []
      (Next (at 14 5) (Declares (ty.Int (at 14 9)) (name 17 14 13) (Value (Number (pos 0) (at 14 17))))
      (Next (at 15 5) (Chooses (Binary op.Ne (Read (path (name 12 15 8) [])) (Nothing (at 15 13))) 1
      (Next (at 16 9) (Declares (ty.Int (at 16 13)) (name 14 16 17)
      (Returned (call (name 16 16 21) [] ((Read (path (name 12 16 25) ((name 5 16 27) ∷ []))) ∷ []))))
      (Next (at 17 9) (Declares (ty.Int (at 17 13)) (name 15 17 17)
      (Returned (call (name 16 17 21) [] ((Read (path (name 12 17 25) ((name 6 17 27) ∷ []))) ∷ []))))
      (Next (at 18 9) (Assigns (name 17 18 9) (Value (Binary op.Add
      (Binary op.Add (Read (path (name 12 18 13) ((name 4 18 15) ∷ []))) (Read (path (name 14 18 19) [])))
      (Read (path (name 15 18 23) []))))) End))))
      (Next (at 20 5) (Returns (Read (path (name 17 20 12) []))) End))))
      ∷ (top_method None (name 18 22 13) ((name 19 22 17) ∷ []) (param
      (ty.Object (perm_at.Lent (at 22 20)) (kind_at.Class (name 3 22 25) [])) (name 12 22 30)
      ∷ param (ty.Object (perm_at.Shared (at 22 33) (name 19 22 40)) (kind_at.Class (name 7 22 43) [])) (name 20 22 49)
      ∷ []) (need need_of.Shared (name 19 22 64) ∷ [])
      (Next (at 23 5) (Chooses (Binary op.Ne (Read (path (name 12 23 8) [])) (Nothing (at 23 13))) 1
      (Next (at 24 9) (Calls (call (name 18 24 9) ((name 19 24 13) ∷ [])
      ((Read (path (name 12 24 16) ((name 5 24 18) ∷ []))) ∷ (Read (path (name 20 24 21) [])) ∷ [])))
      (Next (at 25 9) (Calls (call (name 18 25 9) ((name 19 25 13) ∷ [])
      ((Read (path (name 12 25 16) ((name 6 25 18) ∷ []))) ∷ (Read (path (name 20 25 21) [])) ∷ [])))
      (Next (at 26 9) (Chooses (Binary op.Eq (Binary op.Rem (Read (path (name 12 26 12) ((name 4 26 14) ∷ [])))
      (Number (pos 2) (at 26 18))) (Number (pos 1) (at 26 23))) 2
      (Next (at 26 27) (Locks (name 19 26 34) 3
      (Next (at 26 38) (Stores (path (name 20 26 38) ((name 8 26 40) ∷ []))
      (Binary op.Add (Read (path (name 20 26 44) ((name 8 26 46) ∷ []))) (Number (pos 1) (at 26 50)))) End)) End))
      End)))) End))
      ∷ (top_method None (name 1 29 13) [] (param (ty.Object (perm_at.Unique (at 29 18)) (kind_at.Ints (at 29 25)))
      (name 21 29 30) ∷ []) (need need_of.Exclusive (name 0 29 51) ∷ [])
      (Next (at 30 5) (Declares (ty.Object (perm_at.Unique (at 30 9)) (kind_at.Class (name 3 30 16) [])) (name 12 30 21)
      (Returned (call (name 9 30 25) [] ((Number (pos 0) (at 30 31))
      ∷ (Item (path (name 21 30 34) []) (Number (pos 0) (at 30 39))) ∷ []))))
      (Next (at 31 5) (Declares (ty.Int (at 31 9)) (name 17 31 13)
      (Returned (call (name 16 31 17) [] ((Read (path (name 12 31 21) [])) ∷ []))))
      (Next (at 32 5) (Prints (Read (path (name 17 32 11) [])))
      (Next (at 33 5) (Groups (name 19 33 11))
      (Next (at 34 5) (Declares (ty.Object (perm_at.Unique (at 34 9)) (kind_at.Class (name 7 34 16) [])) (name 20 34 22)
      (Made (name 7 34 30) [] ((Number (pos 0) (at 34 36)) ∷ []) (at 34 26)))
      (Next (at 35 5) (Shares (name 20 35 11) (name 19 35 18))
      (Next (at 36 5) (Splits ((name 19 36 11) ∷ []) 1
      (Next (at 36 15) (Calls (call (name 18 36 15) ((name 19 36 19) ∷ [])
      ((Read (path (name 12 36 22) [])) ∷ (Read (path (name 20 36 25) [])) ∷ []))) End))
      (Next (at 37 5) (Prints (Read (path (name 20 37 11) ((name 8 37 13) ∷ [])))) End)))))))))
      ∷ [];
  decls = decl.Class 0 ∷ decl.Class 1 ∷ decl.Method 0 ∷ decl.Method 1 ∷ decl.Method 2 ∷ decl.Method 3 ∷ [];
}

tree_of_parallel_calls-accepted : Accepts tree_of_parallel_calls
tree_of_parallel_calls-accepted = refl
