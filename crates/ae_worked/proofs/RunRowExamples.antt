-- What programs come to: the rows of the page on the language. Made by `tests/worked`.
use Rattle.std.specs.Prelude.{refl, pos, [], ◌∷◌, codes, None, Some}
use Rattle.ae_tree.specs.declared.tree.PermAt.TheVariants as perm_at
use Rattle.ae_tree.specs.declared.tree.KindAt.TheVariants as kind_at
use Rattle.ae_tree.specs.declared.tree.Ty.TheVariants as ty
use Rattle.ae_tree.specs.declared.tree.Op.TheVariants as op
use Rattle.ae_tree.specs.declared.tree.Need.TheVariants as need_of
use Rattle.ae_tree.specs.declared.tree.Decl.TheVariants as decl
use Rattle.ae_tree.specs.Plain.{Code, Number, Nothing, Read, Length, Minus, Binary}
use Rattle.ae_tree.specs.Plain.{Value, Taken, Zeros, Made, Returned, End, Next}
use Rattle.ae_tree.specs.Plain.{Declares, Assigns, Stores, StoresAt, Calls, Repeats}
use Rattle.ae_tree.specs.Plain.{Freezes, Prints, PrintsText, Asserts, Returns}
use Rattle.ae_rules.specs.Judges.{Accepts}
use Rattle.ae_worked.proofs.ProgramWords.{at, name, path, call, field, class_with, param}
use Rattle.ae_worked.proofs.ProgramWords.{need, top_method}

-- Quotients are cut towards zero, and texts are printed as they are.
abbrev pub quotients_and_texts : Code
quotients_and_texts = record {
  names = codes "io" ∷ codes "main" ∷ codes "this" ∷ [];
  classes = [];
  methods =
      (top_method None (name 1 1 13) [] [] (need need_of.Exclusive (name 0 1 35) ∷ [])
      (Next (at 1 40) (Prints (Binary op.Div (Number (pos 7) (at 1 46)) (Number (pos 2) (at 1 50))))
      (Next (at 1 53) (Prints (Binary op.Div (Minus (Number (pos 7) (at 1 60)) (at 1 59)) (Number (pos 2) (at 1 64))))
      (Next (at 1 67) (Prints (Binary op.Rem (Minus (Number (pos 7) (at 1 74)) (at 1 73)) (Number (pos 2) (at 1 78))))
      (Next (at 1 81) (Prints (Binary op.Lt (Number (pos 1) (at 1 87)) (Number (pos 2) (at 1 91))))
      (Next (at 1 94) (PrintsText (codes "done")) End))))))
      ∷ [];
  decls = decl.Method 0 ∷ [];
}

quotients_and_texts-accepted : Accepts quotients_and_texts
quotients_and_texts-accepted = refl

-- The right operand is not evaluated where the left one decides.
abbrev pub quotient_not_needed : Code
quotient_not_needed = record {
  names = codes "io" ∷ codes "main" ∷ codes "this" ∷ codes "a" ∷ [];
  classes = [];
  methods =
      (top_method None (name 1 1 13) [] [] (need need_of.Exclusive (name 0 1 35) ∷ [])
      (Next (at 1 40) (Declares (ty.Int (at 1 44)) (name 3 1 48) (Value (Number (pos 0) (at 1 52))))
      (Next (at 1 55) (Prints (Binary op.And (Binary op.Ne (Read (path (name 3 1 61) [])) (Number (pos 0) (at 1 66)))
      (Binary op.Gt (Binary op.Div (Number (pos 1) (at 1 71)) (Read (path (name 3 1 75) [])))
      (Number (pos 0) (at 1 79))))) End)))
      ∷ [];
  decls = decl.Method 0 ∷ [];
}

quotient_not_needed-accepted : Accepts quotient_not_needed
quotient_not_needed-accepted = refl

-- An array is stored in a field, and taken out of it.
abbrev pub array_stored_and_taken : Code
array_stored_and_taken = record {
  names = codes "io" ∷ codes "main" ∷ codes "this" ∷ codes "Pair" ∷ codes "a" ∷ codes "p" ∷ codes "x" ∷ [];
  classes =
      class_with (name 3 1 7) [] (field (ty.Object (perm_at.Unique (at 1 14)) (kind_at.Ints (at 1 21))) (name 4 1 26)
      ∷ []) []
      ∷ [];
  methods =
      (top_method None (name 1 1 43) [] [] (need need_of.Exclusive (name 0 1 65) ∷ [])
      (Next (at 1 70) (Declares (ty.Object (perm_at.Unique (at 1 74)) (kind_at.Class (name 3 1 81) [])) (name 5 1 86)
      (Made (name 3 1 94) [] ((Nothing (at 1 99)) ∷ []) (at 1 90)))
      (Next (at 1 106) (Stores (path (name 5 1 106) ((name 4 1 108) ∷ [])) (Nothing (at 1 112)))
      (Next (at 1 118) (Declares (ty.Object (perm_at.Unique (at 1 122)) (kind_at.Ints (at 1 129))) (name 6 1 134)
      (Zeros (Number (pos 3) (at 1 147)) (at 1 138)))
      (Next (at 1 151) (Stores (path (name 5 1 151) ((name 4 1 153) ∷ [])) (Read (path (name 6 1 157) [])))
      (Next (at 1 160) (Assigns (name 6 1 160) (Taken (path (name 5 1 169) ((name 4 1 171) ∷ [])) (at 1 164)))
      (Next (at 1 174) (Prints (Length (path (name 6 1 184) []) (at 1 180)))
      (Next (at 1 187) (Prints (Binary op.Eq (Read (path (name 5 1 193) ((name 4 1 195) ∷ []))) (Nothing (at 1 200))))
      End))))))))
      ∷ [];
  decls = decl.Class 0 ∷ decl.Method 0 ∷ [];
}

array_stored_and_taken-accepted : Accepts array_stored_and_taken
array_stored_and_taken-accepted = refl

-- What is frozen is read by two names.
abbrev pub frozen_for_two_names : Code
frozen_for_two_names = record {
  names = codes "io" ∷ codes "main" ∷ codes "this" ∷ codes "Box" ∷ codes "v" ∷ codes "x" ∷ codes "y" ∷ [];
  classes =
      class_with (name 3 1 7) [] (field (ty.Int (at 1 13)) (name 4 1 17) ∷ []) []
      ∷ [];
  methods =
      (top_method None (name 1 1 34) [] [] (need need_of.Exclusive (name 0 1 56) ∷ [])
      (Next (at 1 61) (Declares (ty.Object (perm_at.Unique (at 1 65)) (kind_at.Class (name 3 1 72) [])) (name 5 1 76)
      (Made (name 3 1 84) [] ((Number (pos 1) (at 1 88)) ∷ []) (at 1 80)))
      (Next (at 1 92) (Freezes (name 5 1 99))
      (Next (at 1 102) (Declares (ty.Object (perm_at.Immutable (at 1 106)) (kind_at.Class (name 3 1 116) []))
      (name 6 1 120) (Value (Read (path (name 5 1 124) []))))
      (Next (at 1 127) (Prints (Binary op.Add (Read (path (name 5 1 133) ((name 4 1 135) ∷ [])))
      (Read (path (name 6 1 139) ((name 4 1 141) ∷ []))))) End)))))
      ∷ [];
  decls = decl.Class 0 ∷ decl.Method 0 ∷ [];
}

frozen_for_two_names-accepted : Accepts frozen_for_two_names
frozen_for_two_names-accepted = refl

-- A loop of three turns.
abbrev pub loop_in_one_line : Code
loop_in_one_line = record {
  names = codes "io" ∷ codes "main" ∷ codes "this" ∷ codes "i" ∷ [];
  classes = [];
  methods =
      (top_method None (name 1 1 13) [] [] (need need_of.Exclusive (name 0 1 35) ∷ [])
      (Next (at 1 40) (Declares (ty.Int (at 1 44)) (name 3 1 48) (Value (Number (pos 0) (at 1 52))))
      (Next (at 1 55) (Repeats (Binary op.Lt (Read (path (name 3 1 61) [])) (Number (pos 3) (at 1 65))) 1
      (Next (at 1 69) (Assigns (name 3 1 69) (Value (Binary op.Add (Read (path (name 3 1 73) []))
      (Number (pos 1) (at 1 77))))) End))
      (Next (at 1 82) (Prints (Read (path (name 3 1 88) []))) End))))
      ∷ [];
  decls = decl.Method 0 ∷ [];
}

loop_in_one_line-accepted : Accepts loop_in_one_line
loop_in_one_line-accepted = refl

-- A method that calls itself without an end.
abbrev pub calls_without_end : Code
calls_without_end = record {
  names = codes "io" ∷ codes "main" ∷ codes "this" ∷ codes "down" ∷ [];
  classes = [];
  methods =
      (top_method None (name 3 1 13) [] [] []
      (Next (at 1 22) (Calls (call (name 3 1 22) [] [])) End))
      ∷ (top_method None (name 1 1 44) [] [] []
      (Next (at 1 53) (Calls (call (name 3 1 53) [] [])) End))
      ∷ [];
  decls = decl.Method 0 ∷ decl.Method 1 ∷ [];
}

calls_without_end-accepted : Accepts calls_without_end
calls_without_end-accepted = refl

-- What is lent uniquely comes back changed, and the result is another value.
abbrev pub parameter_comes_back : Code
parameter_comes_back = record {
  names = codes "io" ∷ codes "main" ∷ codes "this" ∷ codes "Box" ∷ codes "v" ∷ codes "next" ∷ codes "b"
      ∷ codes "x" ∷ codes "y" ∷ [];
  classes =
      class_with (name 3 1 7) [] (field (ty.Int (at 1 13)) (name 4 1 17) ∷ []) []
      ∷ [];
  methods =
      (top_method (Some (ty.Object (perm_at.Unique (at 1 29)) (kind_at.Class (name 3 1 36) []))) (name 5 1 40) []
      (param (ty.Object (perm_at.Unique (at 1 45)) (kind_at.Class (name 3 1 52) [])) (name 6 1 56) ∷ []) []
      (Next (at 1 61) (Stores (path (name 6 1 61) ((name 4 1 63) ∷ []))
      (Binary op.Add (Read (path (name 6 1 67) ((name 4 1 69) ∷ []))) (Number (pos 1) (at 1 73))))
      (Next (at 1 76) (Returns (Nothing (at 1 83))) End)))
      ∷ (top_method None (name 1 1 103) [] [] (need need_of.Exclusive (name 0 1 125) ∷ [])
      (Next (at 1 130) (Declares (ty.Object (perm_at.Unique (at 1 134)) (kind_at.Class (name 3 1 141) []))
      (name 7 1 145) (Made (name 3 1 153) [] ((Number (pos 1) (at 1 157)) ∷ []) (at 1 149)))
      (Next (at 1 161) (Declares (ty.Object (perm_at.Unique (at 1 165)) (kind_at.Class (name 3 1 172) []))
      (name 8 1 176) (Returned (call (name 5 1 180) [] ((Read (path (name 7 1 185) [])) ∷ []))))
      (Next (at 1 189) (Prints (Read (path (name 7 1 195) ((name 4 1 197) ∷ []))))
      (Next (at 1 200) (Prints (Binary op.Eq (Read (path (name 8 1 206) [])) (Nothing (at 1 211)))) End)))))
      ∷ [];
  decls = decl.Class 0 ∷ decl.Method 0 ∷ decl.Method 1 ∷ [];
}

parameter_comes_back-accepted : Accepts parameter_comes_back
parameter_comes_back-accepted = refl

-- A divisor is 0.
abbrev pub divisor_is_zero : Code
divisor_is_zero = record {
  names = codes "io" ∷ codes "main" ∷ codes "this" ∷ codes "a" ∷ [];
  classes = [];
  methods =
      (top_method None (name 1 1 13) [] [] []
      (Next (at 1 22) (Declares (ty.Int (at 1 26)) (name 3 1 30)
      (Value (Binary op.Rem (Number (pos 1) (at 1 34)) (Number (pos 0) (at 1 38))))) End))
      ∷ [];
  decls = decl.Method 0 ∷ [];
}

divisor_is_zero-accepted : Accepts divisor_is_zero
divisor_is_zero-accepted = refl

-- A write goes through null.
abbrev pub null_written : Code
null_written = record {
  names = codes "io" ∷ codes "main" ∷ codes "this" ∷ codes "Box" ∷ codes "v" ∷ codes "x" ∷ [];
  classes =
      class_with (name 3 1 7) [] (field (ty.Int (at 1 13)) (name 4 1 17) ∷ []) []
      ∷ [];
  methods =
      (top_method None (name 1 1 34) [] [] []
      (Next (at 1 43) (Declares (ty.Object (perm_at.Unique (at 1 47)) (kind_at.Class (name 3 1 54) [])) (name 5 1 58)
      (Value (Nothing (at 1 62))))
      (Next (at 1 68) (Stores (path (name 5 1 68) ((name 4 1 70) ∷ [])) (Number (pos 1) (at 1 74))) End)))
      ∷ [];
  decls = decl.Class 0 ∷ decl.Method 0 ∷ [];
}

null_written-accepted : Accepts null_written
null_written-accepted = refl

-- An index is not below the length.
abbrev pub index_at_the_length : Code
index_at_the_length = record {
  names = codes "io" ∷ codes "main" ∷ codes "this" ∷ codes "a" ∷ [];
  classes = [];
  methods =
      (top_method None (name 1 1 13) [] [] []
      (Next (at 1 22) (Declares (ty.Object (perm_at.Unique (at 1 26)) (kind_at.Ints (at 1 33))) (name 3 1 38)
      (Zeros (Number (pos 2) (at 1 51)) (at 1 42)))
      (Next (at 1 55) (StoresAt (path (name 3 1 55) []) (Number (pos 2) (at 1 57)) (Number (pos 1) (at 1 62))) End)))
      ∷ [];
  decls = decl.Method 0 ∷ [];
}

index_at_the_length-accepted : Accepts index_at_the_length
index_at_the_length-accepted = refl

-- An assertion is false.
abbrev pub assertion_is_false : Code
assertion_is_false = record {
  names = codes "io" ∷ codes "main" ∷ codes "this" ∷ [];
  classes = [];
  methods =
      (top_method None (name 1 1 13) [] [] (need need_of.Exclusive (name 0 1 35) ∷ [])
      (Next (at 1 40) (Prints (Number (pos 1) (at 1 46)))
      (Next (at 1 49) (Asserts (Binary op.Eq (Number (pos 1) (at 1 56)) (Number (pos 2) (at 1 61))))
      (Next (at 1 64) (Prints (Number (pos 2) (at 1 70))) End))))
      ∷ [];
  decls = decl.Method 0 ∷ [];
}

assertion_is_false-accepted : Accepts assertion_is_false
assertion_is_false-accepted = refl

-- An array gets a negative length.
abbrev pub negative_length : Code
negative_length = record {
  names = codes "io" ∷ codes "main" ∷ codes "this" ∷ codes "a" ∷ [];
  classes = [];
  methods =
      (top_method None (name 1 1 13) [] [] []
      (Next (at 1 22) (Declares (ty.Object (perm_at.Unique (at 1 26)) (kind_at.Ints (at 1 33))) (name 3 1 38)
      (Zeros (Minus (Number (pos 1) (at 1 52)) (at 1 51)) (at 1 42))) End))
      ∷ [];
  decls = decl.Method 0 ∷ [];
}

negative_length-accepted : Accepts negative_length
negative_length-accepted = refl

-- A local would become higher than 1,000.
abbrev pub chain_too_high : Code
chain_too_high = record {
  names = codes "io" ∷ codes "main" ∷ codes "this" ∷ codes "N" ∷ codes "n" ∷ codes "x" ∷ codes "i" ∷ [];
  classes =
      class_with (name 3 1 7) [] (field (ty.Object (perm_at.Unique (at 1 11)) (kind_at.Class (name 3 1 18) []))
      (name 4 1 20) ∷ []) []
      ∷ [];
  methods =
      (top_method None (name 1 1 37) [] [] []
      (Next (at 1 46) (Declares (ty.Object (perm_at.Unique (at 1 50)) (kind_at.Class (name 3 1 57) [])) (name 5 1 59)
      (Value (Nothing (at 1 63))))
      (Next (at 1 69) (Declares (ty.Int (at 1 73)) (name 6 1 77) (Value (Number (pos 0) (at 1 81))))
      (Next (at 1 84) (Repeats (Binary op.Lt (Read (path (name 6 1 90) [])) (Number (pos 1001) (at 1 94))) 1
      (Next (at 1 101) (Assigns (name 5 1 101) (Made (name 3 1 109) [] ((Read (path (name 5 1 111) [])) ∷ [])
      (at 1 105)))
      (Next (at 1 115) (Assigns (name 6 1 115) (Value (Binary op.Add (Read (path (name 6 1 119) []))
      (Number (pos 1) (at 1 123))))) End))) End))))
      ∷ [];
  decls = decl.Class 0 ∷ decl.Method 0 ∷ [];
}

chain_too_high-accepted : Accepts chain_too_high
chain_too_high-accepted = refl
