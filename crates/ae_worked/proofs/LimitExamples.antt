-- Programs at the limits of the language. Made by `tests/worked`.
use Rattle.std.specs.Prelude.{refl, pos, [], ◌∷◌, codes, None}
use Rattle.ae_text.specs.declared.refusal.Rule.TheVariants as rule
use Rattle.ae_tree.specs.declared.tree.PermAt.TheVariants as perm_at
use Rattle.ae_tree.specs.declared.tree.KindAt.TheVariants as kind_at
use Rattle.ae_tree.specs.declared.tree.Ty.TheVariants as ty
use Rattle.ae_tree.specs.declared.tree.Op.TheVariants as op
use Rattle.ae_tree.specs.declared.tree.Need.TheVariants as need_of
use Rattle.ae_tree.specs.declared.tree.Decl.TheVariants as decl
use Rattle.ae_tree.specs.Plain.{Code, Number, Nothing, Read, Item, Grouped, Binary}
use Rattle.ae_tree.specs.Plain.{Value, Made, End, Next}
use Rattle.ae_tree.specs.Plain.{Declares, Assigns, Calls, Chooses, Repeats, Groups, Splits}
use Rattle.ae_tree.specs.Plain.{Prints}
use Rattle.ae_rules.specs.Judges.{Accepts, FirstBroken}
use Rattle.ae_worked.proofs.ProgramWords.{at, name, path, call, field, class_with, param}
use Rattle.ae_worked.proofs.ProgramWords.{need, top_method}

-- A main method and nothing else.
abbrev pub main_alone : Code
main_alone = record {
  names = codes "io" ∷ codes "main" ∷ codes "this" ∷ [];
  classes = [];
  methods =
      (top_method None (name 1 1 13) [] [] []
      End)
      ∷ [];
  decls = decl.Method 0 ∷ [];
}

main_alone-accepted : Accepts main_alone
main_alone-accepted = refl

-- A call that needs no group stands in a split block.
abbrev pub call_in_a_split_block : Code
call_in_a_split_block = record {
  names = codes "io" ∷ codes "main" ∷ codes "this" ∷ codes "two" ∷ codes "a" ∷ codes "b" ∷ codes "g" ∷ [];
  classes = [];
  methods =
      (top_method None (name 3 1 13) [] [] []
      (Next (at 1 21) (Declares (ty.Int (at 1 25)) (name 4 1 29) (Value (Number (pos 1) (at 1 33))))
      (Next (at 1 36) (Declares (ty.Int (at 1 40)) (name 5 1 44) (Value (Number (pos 2) (at 1 48)))) End)))
      ∷ (top_method None (name 1 2 13) [] [] []
      (Next (at 3 1) (Groups (name 6 3 7))
      (Next (at 4 1) (Splits ((name 6 4 7) ∷ []) 1
      (Next (at 4 11) (Calls (call (name 3 4 11) [] [])) End)) End)))
      ∷ [];
  decls = decl.Method 0 ∷ decl.Method 1 ∷ [];
}

call_in_a_split_block-accepted : Accepts call_in_a_split_block
call_in_a_split_block-accepted = refl

-- A source that needs few spaces.
abbrev pub source_without_spaces : Code
source_without_spaces = record {
  names = codes "io" ∷ codes "main" ∷ codes "this" ∷ [];
  classes = [];
  methods =
      (top_method None (name 1 1 13) [] [] (need need_of.Exclusive (name 0 1 34) ∷ [])
      (Next (at 1 37) (Prints (Binary op.Mul (Grouped (Binary op.Add (Number (pos 1) (at 1 43))
      (Number (pos 2) (at 1 45))) (at 1 42)) (Number (pos 3) (at 1 48)))) End))
      ∷ [];
  decls = decl.Method 0 ∷ [];
}

source_without_spaces-accepted : Accepts source_without_spaces
source_without_spaces-accepted = refl

-- A method has 16 parameters.
abbrev pub sixteen_parameters : Code
sixteen_parameters = record {
  names = codes "io" ∷ codes "main" ∷ codes "this" ∷ codes "f" ∷ codes "a" ∷ codes "b" ∷ codes "c" ∷ codes "d"
      ∷ codes "e" ∷ codes "g" ∷ codes "h" ∷ codes "i" ∷ codes "j" ∷ codes "k" ∷ codes "l" ∷ codes "m" ∷ codes "n"
      ∷ codes "o" ∷ codes "p" ∷ [];
  classes = [];
  methods =
      (top_method None (name 3 1 13) [] (param (ty.Int (at 1 15)) (name 4 1 19) ∷ param (ty.Int (at 1 22)) (name 5 1 26)
      ∷ param (ty.Int (at 1 29)) (name 6 1 33) ∷ param (ty.Int (at 1 36)) (name 7 1 40)
      ∷ param (ty.Int (at 1 43)) (name 8 1 47) ∷ param (ty.Int (at 1 50)) (name 3 1 54)
      ∷ param (ty.Int (at 1 57)) (name 9 1 61) ∷ param (ty.Int (at 1 64)) (name 10 1 68)
      ∷ param (ty.Int (at 1 71)) (name 11 1 75) ∷ param (ty.Int (at 1 78)) (name 12 1 82)
      ∷ param (ty.Int (at 1 85)) (name 13 1 89) ∷ param (ty.Int (at 1 92)) (name 14 1 96)
      ∷ param (ty.Int (at 1 99)) (name 15 1 103) ∷ param (ty.Int (at 1 106)) (name 16 1 110)
      ∷ param (ty.Int (at 1 113)) (name 17 1 117) ∷ param (ty.Int (at 1 120)) (name 18 1 124) ∷ []) []
      End)
      ∷ (top_method None (name 1 1 143) [] [] []
      End)
      ∷ [];
  decls = decl.Method 0 ∷ decl.Method 1 ∷ [];
}

sixteen_parameters-accepted : Accepts sixteen_parameters
sixteen_parameters-accepted = refl

-- A class has 16 group names.
abbrev pub sixteen_group_names : Code
sixteen_group_names = record {
  names = codes "io" ∷ codes "main" ∷ codes "this" ∷ codes "C" ∷ codes "a" ∷ codes "b" ∷ codes "c" ∷ codes "d"
      ∷ codes "e" ∷ codes "f" ∷ codes "g" ∷ codes "h" ∷ codes "i" ∷ codes "j" ∷ codes "k" ∷ codes "l" ∷ codes "m"
      ∷ codes "n" ∷ codes "o" ∷ codes "p" ∷ [];
  classes =
      class_with (name 3 1 7) ((name 4 1 9) ∷ (name 5 1 12) ∷ (name 6 1 15) ∷ (name 7 1 18) ∷ (name 8 1 21)
      ∷ (name 9 1 24) ∷ (name 10 1 27) ∷ (name 11 1 30) ∷ (name 12 1 33) ∷ (name 13 1 36) ∷ (name 14 1 39)
      ∷ (name 15 1 42) ∷ (name 16 1 45) ∷ (name 17 1 48) ∷ (name 18 1 51) ∷ (name 19 1 54) ∷ []) [] []
      ∷ [];
  methods =
      (top_method None (name 1 1 73) [] [] []
      End)
      ∷ [];
  decls = decl.Class 0 ∷ decl.Method 0 ∷ [];
}

sixteen_group_names-accepted : Accepts sixteen_group_names
sixteen_group_names-accepted = refl

-- A class has a group name 17.
abbrev pub seventeen_group_names : Code
seventeen_group_names = record {
  names = codes "io" ∷ codes "main" ∷ codes "this" ∷ codes "C" ∷ codes "a" ∷ codes "b" ∷ codes "c" ∷ codes "d"
      ∷ codes "e" ∷ codes "f" ∷ codes "g" ∷ codes "h" ∷ codes "i" ∷ codes "j" ∷ codes "k" ∷ codes "l" ∷ codes "m"
      ∷ codes "n" ∷ codes "o" ∷ codes "p" ∷ codes "q" ∷ [];
  classes =
      class_with (name 3 1 7) ((name 4 1 9) ∷ (name 5 1 12) ∷ (name 6 1 15) ∷ (name 7 1 18) ∷ (name 8 1 21)
      ∷ (name 9 1 24) ∷ (name 10 1 27) ∷ (name 11 1 30) ∷ (name 12 1 33) ∷ (name 13 1 36) ∷ (name 14 1 39)
      ∷ (name 15 1 42) ∷ (name 16 1 45) ∷ (name 17 1 48) ∷ (name 18 1 51) ∷ (name 19 1 54) ∷ (name 20 1 57) ∷ []) [] []
      ∷ [];
  methods =
      (top_method None (name 1 1 76) [] [] []
      End)
      ∷ [];
  decls = decl.Class 0 ∷ decl.Method 0 ∷ [];
}

seventeen_group_names-refused : FirstBroken seventeen_group_names rule.TooManyGroups (at 1 57)
seventeen_group_names-refused = refl

-- Calls go down to depth 1,000, and no further.
abbrev pub calls_to_the_greatest_depth : Code
calls_to_the_greatest_depth = record {
  names = codes "io" ∷ codes "main" ∷ codes "this" ∷ codes "down" ∷ codes "n" ∷ [];
  classes = [];
  methods =
      (top_method None (name 3 1 13) [] (param (ty.Int (at 1 18)) (name 4 1 22) ∷ []) []
      (Next (at 1 27) (Chooses (Binary op.Gt (Read (path (name 4 1 30) [])) (Number (pos 0) (at 1 34))) 1
      (Next (at 1 38) (Calls (call (name 3 1 38) [] ((Binary op.Sub (Read (path (name 4 1 43) []))
      (Number (pos 1) (at 1 47))) ∷ []))) End)) End))
      ∷ (top_method None (name 1 2 13) [] [] []
      (Next (at 2 22) (Calls (call (name 3 2 22) [] ((Number (pos 998) (at 2 27)) ∷ []))) End))
      ∷ [];
  decls = decl.Method 0 ∷ decl.Method 1 ∷ [];
}

calls_to_the_greatest_depth-accepted : Accepts calls_to_the_greatest_depth
calls_to_the_greatest_depth-accepted = refl

-- Calls go down one further.
abbrev pub calls_one_too_deep : Code
calls_one_too_deep = record {
  names = codes "io" ∷ codes "main" ∷ codes "this" ∷ codes "down" ∷ codes "n" ∷ [];
  classes = [];
  methods =
      (top_method None (name 3 1 13) [] (param (ty.Int (at 1 18)) (name 4 1 22) ∷ []) []
      (Next (at 1 27) (Chooses (Binary op.Gt (Read (path (name 4 1 30) [])) (Number (pos 0) (at 1 34))) 1
      (Next (at 1 38) (Calls (call (name 3 1 38) [] ((Binary op.Sub (Read (path (name 4 1 43) []))
      (Number (pos 1) (at 1 47))) ∷ []))) End)) End))
      ∷ (top_method None (name 1 2 13) [] [] []
      (Next (at 2 22) (Calls (call (name 3 2 22) [] ((Number (pos 999) (at 2 27)) ∷ []))) End))
      ∷ [];
  decls = decl.Method 0 ∷ decl.Method 1 ∷ [];
}

calls_one_too_deep-accepted : Accepts calls_one_too_deep
calls_one_too_deep-accepted = refl

-- A list is built as high as the integer of the command says.
abbrev pub list_as_high_as_given : Code
list_as_high_as_given = record {
  names = codes "io" ∷ codes "main" ∷ codes "this" ∷ codes "L" ∷ codes "n" ∷ codes "a" ∷ codes "x" ∷ codes "i"
      ∷ codes "y" ∷ [];
  classes =
      class_with (name 3 1 7) [] (field (ty.Object (perm_at.Unique (at 1 11)) (kind_at.Class (name 3 1 18) []))
      (name 4 1 20) ∷ []) []
      ∷ [];
  methods =
      (top_method None (name 1 2 13) [] (param (ty.Object (perm_at.Unique (at 2 18)) (kind_at.Ints (at 2 25)))
      (name 5 2 30) ∷ []) []
      (Next (at 3 1) (Declares (ty.Object (perm_at.Unique (at 3 5)) (kind_at.Class (name 3 3 12) [])) (name 6 3 14)
      (Value (Nothing (at 3 18))))
      (Next (at 4 1) (Declares (ty.Int (at 4 5)) (name 7 4 9) (Value (Number (pos 0) (at 4 13))))
      (Next (at 5 1) (Repeats (Binary op.Lt (Read (path (name 7 5 7) []))
      (Item (path (name 5 5 11) []) (Number (pos 0) (at 5 13)))) 1
      (Next (at 6 1) (Declares (ty.Object (perm_at.Unique (at 6 5)) (kind_at.Class (name 3 6 12) [])) (name 8 6 14)
      (Value (Read (path (name 6 6 18) []))))
      (Next (at 7 1) (Assigns (name 6 7 1) (Made (name 3 7 9) [] ((Read (path (name 8 7 11) [])) ∷ []) (at 7 5)))
      (Next (at 8 1) (Assigns (name 7 8 1) (Value (Binary op.Add (Read (path (name 7 8 5) []))
      (Number (pos 1) (at 8 9))))) End)))) End))))
      ∷ [];
  decls = decl.Class 0 ∷ decl.Method 0 ∷ [];
}

list_as_high_as_given-accepted : Accepts list_as_high_as_given
list_as_high_as_given-accepted = refl
