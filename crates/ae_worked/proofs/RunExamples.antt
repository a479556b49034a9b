-- Locals, arrays, loops and traps. Made by `tests/worked`.
use Rattle.std.specs.Prelude.{refl, pos, true, false, [], ◌∷◌, codes, None}
use Rattle.ae_tree.specs.declared.tree.PermAt.TheVariants as perm_at
use Rattle.ae_tree.specs.declared.tree.KindAt.TheVariants as kind_at
use Rattle.ae_tree.specs.declared.tree.Ty.TheVariants as ty
use Rattle.ae_tree.specs.declared.tree.Op.TheVariants as op
use Rattle.ae_tree.specs.declared.tree.Need.TheVariants as need_of
use Rattle.ae_tree.specs.declared.tree.Decl.TheVariants as decl
use Rattle.ae_tree.specs.Plain.{Code, Number, Truth, Nothing, Read, Item, Binary}
use Rattle.ae_tree.specs.Plain.{Value, Zeros, Made, End, Next}
use Rattle.ae_tree.specs.Plain.{Declares, Assigns, Stores, StoresAt, Calls, Repeats}
use Rattle.ae_tree.specs.Plain.{Prints, Asserts}
use Rattle.ae_rules.specs.Judges.{Accepts}
use Rattle.ae_worked.proofs.ProgramWords.{at, name, path, call, field, class_with, param}
use Rattle.ae_worked.proofs.ProgramWords.{need, top_method}

-- The first trap in source order ends the run, and what was printed before it stays.
abbrev pub first_trap_ends : Code
first_trap_ends = record {
  names = codes "io" ∷ codes "main" ∷ codes "this" ∷ codes "z" ∷ codes "w" ∷ [];
  classes = [];
  methods =
      (top_method None (name 1 1 13) [] [] (need need_of.Exclusive (name 0 1 35) ∷ [])
      (Next (at 2 1) (Prints (Number (pos 7) (at 2 7)))
      (Next (at 3 1) (Declares (ty.Int (at 3 5)) (name 3 3 9) (Value
      (Binary op.Div (Number (pos 1) (at 3 13)) (Number (pos 0) (at 3 17)))))
      (Next (at 4 1) (Declares (ty.Int (at 4 5)) (name 4 4 9) (Value
      (Binary op.Add (Number (pos 9223372036854775807) (at 4 13)) (Number (pos 1) (at 4 35))))) End))))
      ∷ [];
  decls = decl.Method 0 ∷ [];
}

first_trap_ends-accepted : Accepts first_trap_ends
first_trap_ends-accepted = refl

-- A false assertion ends the run.
abbrev pub false_assertion : Code
false_assertion = record {
  names = codes "io" ∷ codes "main" ∷ codes "this" ∷ [];
  classes = [];
  methods =
      (top_method None (name 1 1 13) [] [] (need need_of.Exclusive (name 0 1 35) ∷ [])
      (Next (at 2 1) (Prints (Number (pos 1) (at 2 7)))
      (Next (at 3 1) (Asserts (Binary op.Eq (Number (pos 1) (at 3 8)) (Number (pos 2) (at 3 13))))
      (Next (at 4 1) (Prints (Number (pos 2) (at 4 7))) End))))
      ∷ [];
  decls = decl.Method 0 ∷ [];
}

false_assertion-accepted : Accepts false_assertion
false_assertion-accepted = refl

-- Each turn of a loop takes one of the fuel, and the last test takes none.
abbrev pub loop_of_three_turns : Code
loop_of_three_turns = record {
  names = codes "io" ∷ codes "main" ∷ codes "this" ∷ codes "i" ∷ [];
  classes = [];
  methods =
      (top_method None (name 1 1 13) [] [] (need need_of.Exclusive (name 0 1 35) ∷ [])
      (Next (at 2 1) (Declares (ty.Int (at 2 5)) (name 3 2 9) (Value (Number (pos 0) (at 2 13))))
      (Next (at 3 1) (Repeats (Binary op.Lt (Read (path (name 3 3 7) [])) (Number (pos 3) (at 3 11))) 1
      (Next (at 3 15) (Assigns (name 3 3 15) (Value (Binary op.Add (Read (path (name 3 3 19) []))
      (Number (pos 1) (at 3 23))))) End))
      (Next (at 4 1) (Prints (Read (path (name 3 4 7) []))) End))))
      ∷ [];
  decls = decl.Method 0 ∷ [];
}

loop_of_three_turns-accepted : Accepts loop_of_three_turns
loop_of_three_turns-accepted = refl

-- A write through null.
abbrev pub written_through_null : Code
written_through_null = record {
  names = codes "io" ∷ codes "main" ∷ codes "this" ∷ codes "Box" ∷ codes "v" ∷ codes "x" ∷ [];
  classes =
      class_with (name 3 1 7) [] (field (ty.Int (at 1 13)) (name 4 1 17) ∷ []) []
      ∷ [];
  methods =
      (top_method None (name 1 2 13) [] [] []
      (Next (at 3 1) (Declares (ty.Object (perm_at.Unique (at 3 5)) (kind_at.Class (name 3 3 12) [])) (name 5 3 16)
      (Value (Nothing (at 3 20))))
      (Next (at 4 1) (Stores (path (name 5 4 1) ((name 4 4 3) ∷ [])) (Number (pos 1) (at 4 7))) End)))
      ∷ [];
  decls = decl.Class 0 ∷ decl.Method 0 ∷ [];
}

written_through_null-accepted : Accepts written_through_null
written_through_null-accepted = refl

-- A sum that is no number of 64 bits.
abbrev pub sum_too_large : Code
sum_too_large = record {
  names = codes "io" ∷ codes "main" ∷ codes "this" ∷ codes "a" ∷ [];
  classes = [];
  methods =
      (top_method None (name 1 1 13) [] [] (need need_of.Exclusive (name 0 1 35) ∷ [])
      (Next (at 1 40) (Declares (ty.Int (at 1 44)) (name 3 1 48) (Value (Number (pos 9223372036854775807) (at 1 52))))
      (Next (at 1 73) (Prints (Binary op.Add (Read (path (name 3 1 79) [])) (Number (pos 1) (at 1 83)))) End)))
      ∷ [];
  decls = decl.Method 0 ∷ [];
}

sum_too_large-accepted : Accepts sum_too_large
sum_too_large-accepted = refl

-- A call that calls itself ends with the fuel.
abbrev pub method_calls_itself : Code
method_calls_itself = record {
  names = codes "io" ∷ codes "main" ∷ codes "this" ∷ codes "down" ∷ [];
  classes = [];
  methods =
      (top_method None (name 3 1 13) [] [] []
      (Next (at 1 22) (Calls (call (name 3 1 22) [] [])) End))
      ∷ (top_method None (name 1 2 13) [] [] []
      (Next (at 2 22) (Calls (call (name 3 2 22) [] [])) End))
      ∷ [];
  decls = decl.Method 0 ∷ decl.Method 1 ∷ [];
}

method_calls_itself-accepted : Accepts method_calls_itself
method_calls_itself-accepted = refl

-- The second operand is evaluated only where the first does not decide.
abbrev pub right_operand_not_needed : Code
right_operand_not_needed = record {
  names = codes "io" ∷ codes "main" ∷ codes "this" ∷ [];
  classes = [];
  methods =
      (top_method None (name 1 1 13) [] [] (need need_of.Exclusive (name 0 1 35) ∷ [])
      (Next (at 2 1) (Prints (Binary op.And (Truth false (at 2 7))
      (Binary op.Eq (Binary op.Div (Number (pos 1) (at 2 16)) (Number (pos 0) (at 2 20))) (Number (pos 0) (at 2 25)))))
      (Next (at 3 1) (Prints (Binary op.Or (Truth true (at 3 7))
      (Binary op.Eq (Binary op.Div (Number (pos 1) (at 3 15)) (Number (pos 0) (at 3 19))) (Number (pos 0) (at 3 24)))))
      (Next (at 4 1) (Prints (Binary op.And (Truth true (at 4 7))
      (Binary op.Eq (Binary op.Div (Number (pos 1) (at 4 15)) (Number (pos 0) (at 4 19))) (Number (pos 0) (at 4 24)))))
      End))))
      ∷ [];
  decls = decl.Method 0 ∷ [];
}

right_operand_not_needed-accepted : Accepts right_operand_not_needed
right_operand_not_needed-accepted = refl

-- An index is evaluated before null is met, and null before the length.
abbrev pub index_before_null : Code
index_before_null = record {
  names = codes "io" ∷ codes "main" ∷ codes "this" ∷ codes "a" ∷ [];
  classes = [];
  methods =
      (top_method None (name 1 1 13) [] [] (need need_of.Exclusive (name 0 1 35) ∷ [])
      (Next (at 2 1) (Declares (ty.Object (perm_at.Unique (at 2 5)) (kind_at.Ints (at 2 12))) (name 3 2 17)
      (Value (Nothing (at 2 21))))
      (Next (at 3 1) (Prints (Item (path (name 3 3 7) []) (Binary op.Div (Number (pos 1) (at 3 9))
      (Number (pos 0) (at 3 13))))) End)))
      ∷ [];
  decls = decl.Method 0 ∷ [];
}

index_before_null-accepted : Accepts index_before_null
index_before_null-accepted = refl

-- An index through null.
abbrev pub index_through_null : Code
index_through_null = record {
  names = codes "io" ∷ codes "main" ∷ codes "this" ∷ codes "a" ∷ [];
  classes = [];
  methods =
      (top_method None (name 1 1 13) [] [] (need need_of.Exclusive (name 0 1 35) ∷ [])
      (Next (at 2 1) (Declares (ty.Object (perm_at.Unique (at 2 5)) (kind_at.Ints (at 2 12))) (name 3 2 17)
      (Value (Nothing (at 2 21))))
      (Next (at 3 1) (Prints (Item (path (name 3 3 7) []) (Binary op.Sub (Number (pos 0) (at 3 9))
      (Number (pos 1) (at 3 13))))) End)))
      ∷ [];
  decls = decl.Method 0 ∷ [];
}

index_through_null-accepted : Accepts index_through_null
index_through_null-accepted = refl

-- An index at the length.
abbrev pub index_too_large : Code
index_too_large = record {
  names = codes "io" ∷ codes "main" ∷ codes "this" ∷ codes "a" ∷ [];
  classes = [];
  methods =
      (top_method None (name 1 1 13) [] [] (need need_of.Exclusive (name 0 1 35) ∷ [])
      (Next (at 2 1) (Declares (ty.Object (perm_at.Unique (at 2 5)) (kind_at.Ints (at 2 12))) (name 3 2 17)
      (Zeros (Number (pos 2) (at 2 30)) (at 2 21)))
      (Next (at 3 1) (StoresAt (path (name 3 3 1) []) (Number (pos 1) (at 3 3)) (Number (pos 5) (at 3 8)))
      (Next (at 4 1) (Prints (Item (path (name 3 4 7) []) (Number (pos 1) (at 4 9))))
      (Next (at 5 1) (StoresAt (path (name 3 5 1) []) (Number (pos 2) (at 5 3)) (Number (pos 1) (at 5 8))) End)))))
      ∷ [];
  decls = decl.Method 0 ∷ [];
}

index_too_large-accepted : Accepts index_too_large
index_too_large-accepted = refl

-- An array of a negative length.
abbrev pub length_below_zero : Code
length_below_zero = record {
  names = codes "io" ∷ codes "main" ∷ codes "this" ∷ codes "a" ∷ [];
  classes = [];
  methods =
      (top_method None (name 1 1 13) [] [] (need need_of.Exclusive (name 0 1 35) ∷ [])
      (Next (at 2 1) (Declares (ty.Object (perm_at.Unique (at 2 5)) (kind_at.Ints (at 2 12))) (name 3 2 17)
      (Zeros (Binary op.Sub (Number (pos 0) (at 2 30)) (Number (pos 1) (at 2 34))) (at 2 21))) End))
      ∷ [];
  decls = decl.Method 0 ∷ [];
}

length_below_zero-accepted : Accepts length_below_zero
length_below_zero-accepted = refl

-- The greatest number is a number, and one more is not.
abbrev pub one_too_many : Code
one_too_many = record {
  names = codes "io" ∷ codes "main" ∷ codes "this" ∷ codes "a" ∷ [];
  classes = [];
  methods =
      (top_method None (name 1 1 13) [] [] []
      (Next (at 1 22) (Declares (ty.Int (at 1 26)) (name 3 1 30)
      (Value (Binary op.Add (Number (pos 9223372036854775807) (at 1 34)) (Number (pos 1) (at 1 56))))) End))
      ∷ [];
  decls = decl.Method 0 ∷ [];
}

one_too_many-accepted : Accepts one_too_many
one_too_many-accepted = refl

-- A run without integers gives main an array without items.
abbrev pub no_integers : Code
no_integers = record {
  names = codes "io" ∷ codes "main" ∷ codes "this" ∷ codes "a" ∷ [];
  classes = [];
  methods =
      (top_method None (name 1 1 13) [] (param (ty.Object (perm_at.Unique (at 1 18)) (kind_at.Ints (at 1 25)))
      (name 3 1 30) ∷ []) []
      (Next (at 1 35) (Asserts (Binary op.Eq (Item (path (name 3 1 42) []) (Number (pos 0) (at 1 44)))
      (Number (pos 1) (at 1 50)))) End))
      ∷ [];
  decls = decl.Method 0 ∷ [];
}

no_integers-accepted : Accepts no_integers
no_integers-accepted = refl

-- The first statement traps. The third reads what it declares, and the others go on.
abbrev pub trap_beside_a_print : Code
trap_beside_a_print = record {
  names = codes "io" ∷ codes "main" ∷ codes "this" ∷ codes "a" ∷ codes "b" ∷ codes "c" ∷ [];
  classes = [];
  methods =
      (top_method None (name 1 1 13) [] [] (need need_of.Exclusive (name 0 1 35) ∷ [])
      (Next (at 2 1) (Declares (ty.Int (at 2 5)) (name 3 2 9) (Value
      (Binary op.Div (Number (pos 1) (at 2 13)) (Number (pos 0) (at 2 17)))))
      (Next (at 3 1) (Declares (ty.Int (at 3 5)) (name 4 3 9) (Value (Number (pos 2) (at 3 13))))
      (Next (at 4 1) (Declares (ty.Int (at 4 5)) (name 5 4 9) (Value (Read (path (name 3 4 13) []))))
      (Next (at 5 1) (Prints (Read (path (name 4 5 7) []))) End)))))
      ∷ [];
  decls = decl.Method 0 ∷ [];
}

trap_beside_a_print-accepted : Accepts trap_beside_a_print
trap_beside_a_print-accepted = refl

-- A local does not become higher than 1,000.
abbrev pub object_too_high : Code
object_too_high = record {
  names = codes "io" ∷ codes "main" ∷ codes "this" ∷ codes "List" ∷ codes "next" ∷ codes "x" ∷ [];
  classes =
      class_with (name 3 1 7) [] (field (ty.Object (perm_at.Unique (at 1 14)) (kind_at.Class (name 3 1 21) []))
      (name 4 1 26) ∷ []) []
      ∷ [];
  methods =
      (top_method None (name 1 2 13) [] [] (need need_of.Exclusive (name 0 2 35) ∷ [])
      (Next (at 3 1) (Declares (ty.Object (perm_at.Unique (at 3 5)) (kind_at.Class (name 3 3 12) [])) (name 5 3 17)
      (Value (Nothing (at 3 21))))
      (Next (at 4 1) (Repeats (Truth true (at 4 7)) 1
      (Next (at 5 1) (Assigns (name 5 5 1) (Made (name 3 5 9) [] ((Read (path (name 5 5 14) [])) ∷ []) (at 5 5))) End))
      End)))
      ∷ [];
  decls = decl.Class 0 ∷ decl.Method 0 ∷ [];
}

object_too_high-accepted : Accepts object_too_high
object_too_high-accepted = refl

-- A thousand turns make an object of the greatest height.
abbrev pub object_just_low_enough : Code
object_just_low_enough = record {
  names = codes "io" ∷ codes "main" ∷ codes "this" ∷ codes "List" ∷ codes "next" ∷ codes "x" ∷ codes "i" ∷ [];
  classes =
      class_with (name 3 1 7) [] (field (ty.Object (perm_at.Unique (at 1 14)) (kind_at.Class (name 3 1 21) []))
      (name 4 1 26) ∷ []) []
      ∷ [];
  methods =
      (top_method None (name 1 2 13) [] [] (need need_of.Exclusive (name 0 2 35) ∷ [])
      (Next (at 3 1) (Declares (ty.Object (perm_at.Unique (at 3 5)) (kind_at.Class (name 3 3 12) [])) (name 5 3 17)
      (Value (Nothing (at 3 21))))
      (Next (at 4 1) (Declares (ty.Int (at 4 5)) (name 6 4 9) (Value (Number (pos 0) (at 4 13))))
      (Next (at 5 1) (Repeats (Binary op.Lt (Read (path (name 6 5 7) [])) (Number (pos 1000) (at 5 11))) 1
      (Next (at 6 1) (Assigns (name 5 6 1) (Made (name 3 6 9) [] ((Read (path (name 5 6 14) [])) ∷ []) (at 6 5)))
      (Next (at 7 1) (Assigns (name 6 7 1) (Value (Binary op.Add (Read (path (name 6 7 5) []))
      (Number (pos 1) (at 7 9))))) End)))
      (Next (at 9 1) (Prints (Read (path (name 6 9 7) []))) End)))))
      ∷ [];
  decls = decl.Class 0 ∷ decl.Method 0 ∷ [];
}

object_just_low_enough-accepted : Accepts object_just_low_enough
object_just_low_enough-accepted = refl
