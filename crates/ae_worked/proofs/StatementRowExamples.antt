-- Statements up to conditions: the rows of the page on the language. Made by `tests/worked`.
use Rattle.std.specs.Prelude.{refl, pos, true, [], ◌∷◌, codes, None}
use Rattle.ae_text.specs.declared.refusal.Rule.TheVariants as rule
use Rattle.ae_tree.specs.declared.tree.PermAt.TheVariants as perm_at
use Rattle.ae_tree.specs.declared.tree.KindAt.TheVariants as kind_at
use Rattle.ae_tree.specs.declared.tree.Ty.TheVariants as ty
use Rattle.ae_tree.specs.declared.tree.Decl.TheVariants as decl
use Rattle.ae_tree.specs.Plain.{Code, Number, Truth, Nothing, Read}
use Rattle.ae_tree.specs.Plain.{Value, Made, End, Next}
use Rattle.ae_tree.specs.Plain.{Declares, Assigns, Stores, StoresAt, Chooses, Repeats}
use Rattle.ae_rules.specs.Judges.{FirstBroken}
use Rattle.ae_worked.proofs.ProgramWords.{at, name, path, field, class_with, param}
use Rattle.ae_worked.proofs.ProgramWords.{top_method}

-- The type of a local is not formed.
abbrev pub local_of_an_unknown_class : Code
local_of_an_unknown_class = record {
  names = codes "io" ∷ codes "main" ∷ codes "this" ∷ codes "C" ∷ codes "x" ∷ [];
  classes = [];
  methods =
      (top_method None (name 1 1 13) [] [] []
      (Next (at 1 22) (Declares (ty.Object (perm_at.Unique (at 1 26)) (kind_at.Class (name 3 1 33) [])) (name 4 1 35)
      (Value (Nothing (at 1 39)))) End))
      ∷ [];
  decls = decl.Method 0 ∷ [];
}

local_of_an_unknown_class-refused : FirstBroken local_of_an_unknown_class rule.UnknownClass (at 1 33)
local_of_an_unknown_class-refused = refl

-- A local is not lent.
abbrev pub lent_local : Code
lent_local = record {
  names = codes "io" ∷ codes "main" ∷ codes "this" ∷ codes "C" ∷ codes "x" ∷ [];
  classes =
      class_with (name 3 1 7) [] [] []
      ∷ [];
  methods =
      (top_method None (name 1 1 25) [] [] []
      (Next (at 1 34) (Declares (ty.Object (perm_at.Lent (at 1 38)) (kind_at.Class (name 3 1 43) [])) (name 4 1 45)
      (Value (Nothing (at 1 49)))) End))
      ∷ [];
  decls = decl.Class 0 ∷ decl.Method 0 ∷ [];
}

lent_local-refused : FirstBroken lent_local rule.LentEscapes (at 1 38)
lent_local-refused = refl

-- A let of a visible name.
abbrev pub local_named_as_a_parameter : Code
local_named_as_a_parameter = record {
  names = codes "io" ∷ codes "main" ∷ codes "this" ∷ codes "f" ∷ codes "n" ∷ [];
  classes = [];
  methods =
      (top_method None (name 3 1 13) [] (param (ty.Int (at 1 15)) (name 4 1 19) ∷ []) []
      (Next (at 1 24) (Declares (ty.Int (at 1 28)) (name 4 1 32) (Value (Number (pos 1) (at 1 36)))) End))
      ∷ (top_method None (name 1 1 53) [] [] []
      End)
      ∷ [];
  decls = decl.Method 0 ∷ decl.Method 1 ∷ [];
}

local_named_as_a_parameter-refused : FirstBroken local_named_as_a_parameter rule.DuplicateLocal (at 1 32)
local_named_as_a_parameter-refused = refl

-- An assigned name is not visible.
abbrev pub assigned_outside_its_block : Code
assigned_outside_its_block = record {
  names = codes "io" ∷ codes "main" ∷ codes "this" ∷ codes "a" ∷ [];
  classes = [];
  methods =
      (top_method None (name 1 1 13) [] [] []
      (Next (at 1 22) (Chooses (Truth true (at 1 25)) 1
      (Next (at 1 32) (Declares (ty.Int (at 1 36)) (name 3 1 40) (Value (Number (pos 1) (at 1 44)))) End))
      (Next (at 1 49) (Assigns (name 3 1 49) (Value (Number (pos 2) (at 1 53)))) End)))
      ∷ [];
  decls = decl.Method 0 ∷ [];
}

assigned_outside_its_block-refused : FirstBroken assigned_outside_its_block rule.UnknownName (at 1 49)
assigned_outside_its_block-refused = refl

-- A parameter that stays with the caller is assigned.
abbrev pub lent_parameter_set : Code
lent_parameter_set = record {
  names = codes "io" ∷ codes "main" ∷ codes "this" ∷ codes "C" ∷ codes "f" ∷ codes "c" ∷ [];
  classes =
      class_with (name 3 1 7) [] [] []
      ∷ [];
  methods =
      (top_method None (name 4 1 25) [] (param (ty.Object (perm_at.Lent (at 1 27)) (kind_at.Class (name 3 1 32) []))
      (name 5 1 34) ∷ []) []
      (Next (at 1 39) (Assigns (name 5 1 39) (Value (Nothing (at 1 43)))) End))
      ∷ (top_method None (name 1 1 63) [] [] []
      End)
      ∷ [];
  decls = decl.Class 0 ∷ decl.Method 0 ∷ decl.Method 1 ∷ [];
}

lent_parameter_set-refused : FirstBroken lent_parameter_set rule.ParameterMoved (at 1 39)
lent_parameter_set-refused = refl

-- What is stored is the root of the path.
abbrev pub root_stored_in_itself : Code
root_stored_in_itself = record {
  names = codes "io" ∷ codes "main" ∷ codes "this" ∷ codes "N" ∷ codes "n" ∷ codes "x" ∷ [];
  classes =
      class_with (name 3 1 7) [] (field (ty.Object (perm_at.Unique (at 1 11)) (kind_at.Class (name 3 1 18) []))
      (name 4 1 20) ∷ []) []
      ∷ [];
  methods =
      (top_method None (name 1 1 37) [] [] []
      (Next (at 1 46) (Declares (ty.Object (perm_at.Unique (at 1 50)) (kind_at.Class (name 3 1 57) [])) (name 5 1 59)
      (Made (name 3 1 67) [] ((Nothing (at 1 69)) ∷ []) (at 1 63)))
      (Next (at 1 76) (Stores (path (name 5 1 76) ((name 4 1 78) ∷ [])) (Read (path (name 5 1 82) []))) End)))
      ∷ [];
  decls = decl.Class 0 ∷ decl.Method 0 ∷ [];
}

root_stored_in_itself-refused : FirstBroken root_stored_in_itself rule.UsedTwice (at 1 82)
root_stored_in_itself-refused = refl

-- A lent object is stored.
abbrev pub lent_object_stored : Code
lent_object_stored = record {
  names = codes "io" ∷ codes "main" ∷ codes "this" ∷ codes "Box" ∷ codes "v" ∷ codes "Pair" ∷ codes "b"
      ∷ codes "keep" ∷ codes "p" ∷ [];
  classes =
      class_with (name 3 1 7) [] (field (ty.Int (at 1 13)) (name 4 1 17) ∷ []) []
      ∷ class_with (name 5 1 28) [] (field (ty.Object (perm_at.Immutable (at 1 35)) (kind_at.Class (name 3 1 45) []))
      (name 6 1 49) ∷ []) []
      ∷ [];
  methods =
      (top_method None (name 7 1 66) [] (param (ty.Object (perm_at.Unique (at 1 71)) (kind_at.Class (name 5 1 78) []))
      (name 8 1 83) ∷ param (ty.Object (perm_at.Lent (at 1 86)) (kind_at.Class (name 3 1 91) [])) (name 6 1 95) ∷ []) []
      (Next (at 1 100) (Stores (path (name 8 1 100) ((name 6 1 102) ∷ [])) (Read (path (name 6 1 106) []))) End))
      ∷ (top_method None (name 1 1 123) [] [] []
      End)
      ∷ [];
  decls = decl.Class 0 ∷ decl.Class 1 ∷ decl.Method 0 ∷ decl.Method 1 ∷ [];
}

lent_object_stored-refused : FirstBroken lent_object_stored rule.LentEscapes (at 1 106)
lent_object_stored-refused = refl

-- An index is set of what is no array.
abbrev pub index_of_a_number : Code
index_of_a_number = record {
  names = codes "io" ∷ codes "main" ∷ codes "this" ∷ codes "f" ∷ codes "n" ∷ [];
  classes = [];
  methods =
      (top_method None (name 3 1 13) [] (param (ty.Int (at 1 15)) (name 4 1 19) ∷ []) []
      (Next (at 1 24) (StoresAt (path (name 4 1 24) []) (Number (pos 0) (at 1 26)) (Number (pos 1) (at 1 31))) End))
      ∷ (top_method None (name 1 1 48) [] [] []
      End)
      ∷ [];
  decls = decl.Method 0 ∷ decl.Method 1 ∷ [];
}

index_of_a_number-refused : FirstBroken index_of_a_number rule.TypeMismatch (at 1 24)
index_of_a_number-refused = refl

-- A condition is no truth.
abbrev pub number_as_a_condition : Code
number_as_a_condition = record {
  names = codes "io" ∷ codes "main" ∷ codes "this" ∷ [];
  classes = [];
  methods =
      (top_method None (name 1 1 13) [] [] []
      (Next (at 1 22) (Repeats (Number (pos 1) (at 1 28)) 1
      End) End))
      ∷ [];
  decls = decl.Method 0 ∷ [];
}

number_as_a_condition-refused : FirstBroken number_as_a_condition rule.TypeMismatch (at 1 28)
number_as_a_condition-refused = refl
