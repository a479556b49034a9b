-- What may be lent, frozen and stored. Made by `tests/worked`.
use Rattle.std.specs.Prelude.{refl, pos, [], ◌∷◌, codes, None}
use Rattle.ae_text.specs.declared.refusal.Rule.TheVariants as rule
use Rattle.ae_tree.specs.declared.tree.PermAt.TheVariants as perm_at
use Rattle.ae_tree.specs.declared.tree.KindAt.TheVariants as kind_at
use Rattle.ae_tree.specs.declared.tree.Ty.TheVariants as ty
use Rattle.ae_tree.specs.declared.tree.Op.TheVariants as op
use Rattle.ae_tree.specs.declared.tree.Need.TheVariants as need_of
use Rattle.ae_tree.specs.declared.tree.Decl.TheVariants as decl
use Rattle.ae_tree.specs.Plain.{Code, Number, Nothing, Read, Binary}
use Rattle.ae_tree.specs.Plain.{Value, Taken, Made, End, Next}
use Rattle.ae_tree.specs.Plain.{Declares, Assigns, Stores, Calls}
use Rattle.ae_tree.specs.Plain.{Freezes, Prints}
use Rattle.ae_rules.specs.Judges.{Accepts, FirstBroken}
use Rattle.ae_worked.proofs.ProgramWords.{at, name, path, call, field, class_with, param}
use Rattle.ae_worked.proofs.ProgramWords.{need, top_method}

-- Two parameters for one place, one of them unique.
abbrev pub two_names_for_one_place : Code
two_names_for_one_place = record {
  names = codes "io" ∷ codes "main" ∷ codes "this" ∷ codes "Box" ∷ codes "v" ∷ codes "both" ∷ codes "a"
      ∷ codes "b" ∷ codes "x" ∷ [];
  classes =
      class_with (name 3 1 7) [] (field (ty.Int (at 1 13)) (name 4 1 17) ∷ []) []
      ∷ [];
  methods =
      (top_method None (name 5 2 13) [] (param (ty.Object (perm_at.Unique (at 2 18)) (kind_at.Class (name 3 2 25) []))
      (name 6 2 29) ∷ param (ty.Object (perm_at.Lent (at 2 32)) (kind_at.Class (name 3 2 37) [])) (name 7 2 41) ∷ []) []
      (Next (at 2 46) (Stores (path (name 6 2 46) ((name 4 2 48) ∷ []))
      (Read (path (name 7 2 52) ((name 4 2 54) ∷ [])))) End))
      ∷ (top_method None (name 1 3 13) [] [] []
      (Next (at 4 1) (Declares (ty.Object (perm_at.Unique (at 4 5)) (kind_at.Class (name 3 4 12) [])) (name 8 4 16)
      (Made (name 3 4 24) [] ((Number (pos 1) (at 4 28)) ∷ []) (at 4 20)))
      (Next (at 5 1) (Calls (call (name 5 5 1) [] ((Read (path (name 8 5 6) [])) ∷ (Read (path (name 8 5 9) [])) ∷ [])))
      End)))
      ∷ [];
  decls = decl.Class 0 ∷ decl.Method 0 ∷ decl.Method 1 ∷ [];
}

two_names_for_one_place-refused : FirstBroken two_names_for_one_place rule.UsedTwice (at 5 9)
two_names_for_one_place-refused = refl

-- One place may be lent to two parameters, and comes back whole.
abbrev pub lent_twice : Code
lent_twice = record {
  names = codes "io" ∷ codes "main" ∷ codes "this" ∷ codes "Box" ∷ codes "v" ∷ codes "both" ∷ codes "a"
      ∷ codes "b" ∷ codes "x" ∷ [];
  classes =
      class_with (name 3 1 7) [] (field (ty.Int (at 1 13)) (name 4 1 17) ∷ []) []
      ∷ [];
  methods =
      (top_method None (name 5 2 13) [] (param (ty.Object (perm_at.Lent (at 2 18)) (kind_at.Class (name 3 2 23) []))
      (name 6 2 27) ∷ param (ty.Object (perm_at.Lent (at 2 30)) (kind_at.Class (name 3 2 35) [])) (name 7 2 39) ∷ []) []
      End)
      ∷ (top_method None (name 1 3 13) [] [] (need need_of.Exclusive (name 0 3 35) ∷ [])
      (Next (at 4 1) (Declares (ty.Object (perm_at.Unique (at 4 5)) (kind_at.Class (name 3 4 12) [])) (name 8 4 16)
      (Made (name 3 4 24) [] ((Number (pos 1) (at 4 28)) ∷ []) (at 4 20)))
      (Next (at 5 1) (Calls (call (name 5 5 1) [] ((Read (path (name 8 5 6) [])) ∷ (Read (path (name 8 5 9) [])) ∷ [])))
      (Next (at 6 1) (Stores (path (name 8 6 1) ((name 4 6 3) ∷ [])) (Number (pos 2) (at 6 7))) End))))
      ∷ [];
  decls = decl.Class 0 ∷ decl.Method 0 ∷ decl.Method 1 ∷ [];
}

lent_twice-accepted : Accepts lent_twice
lent_twice-accepted = refl

-- An argument that is a number may read the root of a unique one.
abbrev pub number_beside_its_object : Code
number_beside_its_object = record {
  names = codes "io" ∷ codes "main" ∷ codes "this" ∷ codes "Box" ∷ codes "v" ∷ codes "put" ∷ codes "b" ∷ codes "n"
      ∷ codes "x" ∷ [];
  classes =
      class_with (name 3 1 7) [] (field (ty.Int (at 1 13)) (name 4 1 17) ∷ []) []
      ∷ [];
  methods =
      (top_method None (name 5 2 13) [] (param (ty.Object (perm_at.Unique (at 2 17)) (kind_at.Class (name 3 2 24) []))
      (name 6 2 28) ∷ param (ty.Int (at 2 31)) (name 7 2 35) ∷ []) []
      (Next (at 2 40) (Stores (path (name 6 2 40) ((name 4 2 42) ∷ [])) (Read (path (name 7 2 46) []))) End))
      ∷ (top_method None (name 1 3 13) [] [] (need need_of.Exclusive (name 0 3 35) ∷ [])
      (Next (at 4 1) (Declares (ty.Object (perm_at.Unique (at 4 5)) (kind_at.Class (name 3 4 12) [])) (name 8 4 16)
      (Made (name 3 4 24) [] ((Number (pos 1) (at 4 28)) ∷ []) (at 4 20)))
      (Next (at 5 1) (Calls (call (name 5 5 1) [] ((Read (path (name 8 5 5) []))
      ∷ (Read (path (name 8 5 8) ((name 4 5 10) ∷ []))) ∷ []))) End)))
      ∷ [];
  decls = decl.Class 0 ∷ decl.Method 0 ∷ decl.Method 1 ∷ [];
}

number_beside_its_object-accepted : Accepts number_beside_its_object
number_beside_its_object-accepted = refl

-- A part of an object may be lent uniquely, and comes back.
abbrev pub part_lent_uniquely : Code
part_lent_uniquely = record {
  names = codes "io" ∷ codes "main" ∷ codes "this" ∷ codes "Box" ∷ codes "v" ∷ codes "Pair" ∷ codes "l"
      ∷ codes "r" ∷ codes "put" ∷ codes "b" ∷ codes "x" ∷ [];
  classes =
      class_with (name 3 1 7) [] (field (ty.Int (at 1 13)) (name 4 1 17) ∷ []) []
      ∷ class_with (name 5 2 7) [] (field (ty.Object (perm_at.Unique (at 2 14)) (kind_at.Class (name 3 2 21) []))
      (name 6 2 25) ∷ field (ty.Object (perm_at.Immutable (at 2 28)) (kind_at.Class (name 3 2 38) [])) (name 7 2 42)
      ∷ []) []
      ∷ [];
  methods =
      (top_method None (name 8 3 13) [] (param (ty.Object (perm_at.Unique (at 3 17)) (kind_at.Class (name 3 3 24) []))
      (name 9 3 28) ∷ []) []
      (Next (at 3 33) (Stores (path (name 9 3 33) ((name 4 3 35) ∷ [])) (Number (pos 1) (at 3 39))) End))
      ∷ (top_method None (name 1 4 13) [] [] (need need_of.Exclusive (name 0 4 35) ∷ [])
      (Next (at 5 1) (Declares (ty.Object (perm_at.Unique (at 5 5)) (kind_at.Class (name 5 5 12) [])) (name 10 5 17)
      (Made (name 5 5 25) [] ((Nothing (at 5 30)) ∷ (Nothing (at 5 36)) ∷ []) (at 5 21)))
      (Next (at 6 1) (Calls (call (name 8 6 1) [] ((Read (path (name 10 6 5) ((name 6 6 7) ∷ []))) ∷ [])))
      (Next (at 7 1) (Declares (ty.Object (perm_at.Unique (at 7 5)) (kind_at.Class (name 3 7 12) [])) (name 9 7 16)
      (Taken (path (name 10 7 25) ((name 6 7 27) ∷ [])) (at 7 20))) End))))
      ∷ [];
  decls = decl.Class 0 ∷ decl.Class 1 ∷ decl.Method 0 ∷ decl.Method 1 ∷ [];
}

part_lent_uniquely-accepted : Accepts part_lent_uniquely
part_lent_uniquely-accepted = refl

-- A lent object is not stored.
abbrev pub lent_and_stored : Code
lent_and_stored = record {
  names = codes "io" ∷ codes "main" ∷ codes "this" ∷ codes "Box" ∷ codes "v" ∷ codes "Pair" ∷ codes "b"
      ∷ codes "keep" ∷ codes "p" ∷ [];
  classes =
      class_with (name 3 1 7) [] (field (ty.Int (at 1 13)) (name 4 1 17) ∷ []) []
      ∷ class_with (name 5 2 7) [] (field (ty.Object (perm_at.Immutable (at 2 14)) (kind_at.Class (name 3 2 24) []))
      (name 6 2 28) ∷ []) []
      ∷ [];
  methods =
      (top_method None (name 7 3 13) [] (param (ty.Object (perm_at.Unique (at 3 18)) (kind_at.Class (name 5 3 25) []))
      (name 8 3 30) ∷ param (ty.Object (perm_at.Lent (at 3 33)) (kind_at.Class (name 3 3 38) [])) (name 6 3 42) ∷ []) []
      (Next (at 3 47) (Stores (path (name 8 3 47) ((name 6 3 49) ∷ [])) (Read (path (name 6 3 53) []))) End))
      ∷ (top_method None (name 1 4 13) [] [] []
      End)
      ∷ [];
  decls = decl.Class 0 ∷ decl.Class 1 ∷ decl.Method 0 ∷ decl.Method 1 ∷ [];
}

lent_and_stored-refused : FirstBroken lent_and_stored rule.LentEscapes (at 3 53)
lent_and_stored-refused = refl

-- A frozen object is not written.
abbrev pub frozen_and_written : Code
frozen_and_written = record {
  names = codes "io" ∷ codes "main" ∷ codes "this" ∷ codes "Box" ∷ codes "v" ∷ codes "x" ∷ codes "y" ∷ [];
  classes =
      class_with (name 3 1 7) [] (field (ty.Int (at 1 13)) (name 4 1 17) ∷ []) []
      ∷ [];
  methods =
      (top_method None (name 1 2 13) [] [] (need need_of.Exclusive (name 0 2 35) ∷ [])
      (Next (at 3 1) (Declares (ty.Object (perm_at.Unique (at 3 5)) (kind_at.Class (name 3 3 12) [])) (name 5 3 16)
      (Made (name 3 3 24) [] ((Number (pos 1) (at 3 28)) ∷ []) (at 3 20)))
      (Next (at 4 1) (Freezes (name 5 4 8))
      (Next (at 5 1) (Declares (ty.Object (perm_at.Immutable (at 5 5)) (kind_at.Class (name 3 5 15) [])) (name 6 5 19)
      (Value (Read (path (name 5 5 23) []))))
      (Next (at 6 1) (Prints (Binary op.Add (Read (path (name 5 6 7) ((name 4 6 9) ∷ [])))
      (Read (path (name 6 6 13) ((name 4 6 15) ∷ [])))))
      (Next (at 7 1) (Stores (path (name 5 7 1) ((name 4 7 3) ∷ [])) (Number (pos 2) (at 7 7))) End))))))
      ∷ [];
  decls = decl.Class 0 ∷ decl.Method 0 ∷ [];
}

frozen_and_written-refused : FirstBroken frozen_and_written rule.NeedsUnique (at 7 1)
frozen_and_written-refused = refl

-- A frozen object is read by many names.
abbrev pub frozen_and_read : Code
frozen_and_read = record {
  names = codes "io" ∷ codes "main" ∷ codes "this" ∷ codes "Box" ∷ codes "v" ∷ codes "x" ∷ codes "y" ∷ [];
  classes =
      class_with (name 3 1 7) [] (field (ty.Int (at 1 13)) (name 4 1 17) ∷ []) []
      ∷ [];
  methods =
      (top_method None (name 1 2 13) [] [] (need need_of.Exclusive (name 0 2 35) ∷ [])
      (Next (at 3 1) (Declares (ty.Object (perm_at.Unique (at 3 5)) (kind_at.Class (name 3 3 12) [])) (name 5 3 16)
      (Made (name 3 3 24) [] ((Number (pos 1) (at 3 28)) ∷ []) (at 3 20)))
      (Next (at 4 1) (Freezes (name 5 4 8))
      (Next (at 5 1) (Declares (ty.Object (perm_at.Immutable (at 5 5)) (kind_at.Class (name 3 5 15) [])) (name 6 5 19)
      (Value (Read (path (name 5 5 23) []))))
      (Next (at 6 1) (Prints (Binary op.Add (Read (path (name 5 6 7) ((name 4 6 9) ∷ [])))
      (Read (path (name 6 6 13) ((name 4 6 15) ∷ []))))) End)))))
      ∷ [];
  decls = decl.Class 0 ∷ decl.Method 0 ∷ [];
}

frozen_and_read-accepted : Accepts frozen_and_read
frozen_and_read-accepted = refl

-- In new, one place twice comes before anything of the argument.
abbrev pub new_with_one_place_twice : Code
new_with_one_place_twice = record {
  names = codes "io" ∷ codes "main" ∷ codes "this" ∷ codes "Box" ∷ codes "v" ∷ codes "Pair" ∷ codes "l"
      ∷ codes "r" ∷ codes "x" ∷ codes "p" ∷ codes "none_such" ∷ [];
  classes =
      class_with (name 3 1 7) [] (field (ty.Int (at 1 13)) (name 4 1 17) ∷ []) []
      ∷ class_with (name 5 2 7) [] (field (ty.Object (perm_at.Unique (at 2 14)) (kind_at.Class (name 3 2 21) []))
      (name 6 2 25) ∷ field (ty.Object (perm_at.Immutable (at 2 28)) (kind_at.Class (name 3 2 38) [])) (name 7 2 42)
      ∷ []) []
      ∷ [];
  methods =
      (top_method None (name 1 3 13) [] [] (need need_of.Exclusive (name 0 3 35) ∷ [])
      (Next (at 4 1) (Declares (ty.Object (perm_at.Unique (at 4 5)) (kind_at.Class (name 3 4 12) [])) (name 8 4 16)
      (Made (name 3 4 24) [] ((Number (pos 1) (at 4 28)) ∷ []) (at 4 20)))
      (Next (at 5 1) (Declares (ty.Object (perm_at.Unique (at 5 5)) (kind_at.Class (name 5 5 12) [])) (name 9 5 17)
      (Made (name 5 5 25) [] ((Read (path (name 8 5 30) [])) ∷ (Read (path (name 8 5 33) ((name 10 5 35) ∷ []))) ∷ [])
      (at 5 21))) End)))
      ∷ [];
  decls = decl.Class 0 ∷ decl.Class 1 ∷ decl.Method 0 ∷ [];
}

new_with_one_place_twice-refused : FirstBroken new_with_one_place_twice rule.UsedTwice (at 5 33)
new_with_one_place_twice-refused = refl

-- Without that, the argument is walked.
abbrev pub new_with_no_such_field : Code
new_with_no_such_field = record {
  names = codes "io" ∷ codes "main" ∷ codes "this" ∷ codes "Box" ∷ codes "v" ∷ codes "Pair" ∷ codes "l"
      ∷ codes "r" ∷ codes "x" ∷ codes "p" ∷ codes "none_such" ∷ [];
  classes =
      class_with (name 3 1 7) [] (field (ty.Int (at 1 13)) (name 4 1 17) ∷ []) []
      ∷ class_with (name 5 2 7) [] (field (ty.Object (perm_at.Unique (at 2 14)) (kind_at.Class (name 3 2 21) []))
      (name 6 2 25) ∷ field (ty.Object (perm_at.Immutable (at 2 28)) (kind_at.Class (name 3 2 38) [])) (name 7 2 42)
      ∷ []) []
      ∷ [];
  methods =
      (top_method None (name 1 3 13) [] [] (need need_of.Exclusive (name 0 3 35) ∷ [])
      (Next (at 4 1) (Declares (ty.Object (perm_at.Unique (at 4 5)) (kind_at.Class (name 3 4 12) [])) (name 8 4 16)
      (Made (name 3 4 24) [] ((Number (pos 1) (at 4 28)) ∷ []) (at 4 20)))
      (Next (at 5 1) (Declares (ty.Object (perm_at.Unique (at 5 5)) (kind_at.Class (name 5 5 12) [])) (name 9 5 17)
      (Made (name 5 5 25) [] ((Nothing (at 5 30)) ∷ (Read (path (name 8 5 36) ((name 10 5 38) ∷ []))) ∷ []) (at 5 21)))
      End)))
      ∷ [];
  decls = decl.Class 0 ∷ decl.Class 1 ∷ decl.Method 0 ∷ [];
}

new_with_no_such_field-refused : FirstBroken new_with_no_such_field rule.UnknownField (at 5 38)
new_with_no_such_field-refused = refl

-- An object is not stored in itself.
abbrev pub object_into_itself : Code
object_into_itself = record {
  names = codes "io" ∷ codes "main" ∷ codes "this" ∷ codes "Node" ∷ codes "n" ∷ codes "x" ∷ [];
  classes =
      class_with (name 3 1 7) [] (field (ty.Object (perm_at.Unique (at 1 14)) (kind_at.Class (name 3 1 21) []))
      (name 4 1 26) ∷ []) []
      ∷ [];
  methods =
      (top_method None (name 1 2 13) [] [] (need need_of.Exclusive (name 0 2 35) ∷ [])
      (Next (at 3 1) (Declares (ty.Object (perm_at.Unique (at 3 5)) (kind_at.Class (name 3 3 12) [])) (name 5 3 17)
      (Made (name 3 3 25) [] ((Nothing (at 3 30)) ∷ []) (at 3 21)))
      (Next (at 4 1) (Stores (path (name 5 4 1) ((name 4 4 3) ∷ [])) (Read (path (name 5 4 7) []))) End)))
      ∷ [];
  decls = decl.Class 0 ∷ decl.Method 0 ∷ [];
}

object_into_itself-refused : FirstBroken object_into_itself rule.UsedTwice (at 4 7)
object_into_itself-refused = refl

-- A made value is unique, and is not made into another form.
abbrev pub new_is_unique : Code
new_is_unique = record {
  names = codes "io" ∷ codes "main" ∷ codes "this" ∷ codes "Box" ∷ codes "v" ∷ codes "x" ∷ [];
  classes =
      class_with (name 3 1 7) [] (field (ty.Int (at 1 13)) (name 4 1 17) ∷ []) []
      ∷ [];
  methods =
      (top_method None (name 1 2 13) [] [] (need need_of.Exclusive (name 0 2 35) ∷ [])
      (Next (at 3 1) (Declares (ty.Object (perm_at.Immutable (at 3 5)) (kind_at.Class (name 3 3 15) [])) (name 5 3 19)
      (Made (name 3 3 27) [] ((Number (pos 1) (at 3 31)) ∷ []) (at 3 23))) End))
      ∷ [];
  decls = decl.Class 0 ∷ decl.Method 0 ∷ [];
}

new_is_unique-refused : FirstBroken new_is_unique rule.NoPermission (at 3 23)
new_is_unique-refused = refl

-- A unique field is taken, and no other.
abbrev pub taken_from_a_field : Code
taken_from_a_field = record {
  names = codes "io" ∷ codes "main" ∷ codes "this" ∷ codes "Box" ∷ codes "v" ∷ codes "Pair" ∷ codes "l"
      ∷ codes "r" ∷ codes "p" ∷ codes "a" ∷ codes "b" ∷ [];
  classes =
      class_with (name 3 1 7) [] (field (ty.Int (at 1 13)) (name 4 1 17) ∷ []) []
      ∷ class_with (name 5 2 7) [] (field (ty.Object (perm_at.Unique (at 2 14)) (kind_at.Class (name 3 2 21) []))
      (name 6 2 25) ∷ field (ty.Object (perm_at.Immutable (at 2 28)) (kind_at.Class (name 3 2 38) [])) (name 7 2 42)
      ∷ []) []
      ∷ [];
  methods =
      (top_method None (name 1 3 13) [] [] (need need_of.Exclusive (name 0 3 35) ∷ [])
      (Next (at 4 1) (Declares (ty.Object (perm_at.Unique (at 4 5)) (kind_at.Class (name 5 4 12) [])) (name 8 4 17)
      (Made (name 5 4 25) [] ((Nothing (at 4 30)) ∷ (Nothing (at 4 36)) ∷ []) (at 4 21)))
      (Next (at 5 1) (Declares (ty.Object (perm_at.Unique (at 5 5)) (kind_at.Class (name 3 5 12) [])) (name 9 5 16)
      (Taken (path (name 8 5 25) ((name 6 5 27) ∷ [])) (at 5 20)))
      (Next (at 6 1) (Declares (ty.Object (perm_at.Unique (at 6 5)) (kind_at.Class (name 3 6 12) [])) (name 10 6 16)
      (Taken (path (name 8 6 25) ((name 7 6 27) ∷ [])) (at 6 20))) End))))
      ∷ [];
  decls = decl.Class 0 ∷ decl.Class 1 ∷ decl.Method 0 ∷ [];
}

taken_from_a_field-refused : FirstBroken taken_from_a_field rule.NeedsUnique (at 6 20)
taken_from_a_field-refused = refl

-- A lent parameter is not assigned.
abbrev pub lent_parameter_assigned : Code
lent_parameter_assigned = record {
  names = codes "io" ∷ codes "main" ∷ codes "this" ∷ codes "Box" ∷ codes "v" ∷ codes "m" ∷ codes "x" ∷ [];
  classes =
      class_with (name 3 1 7) [] (field (ty.Int (at 1 13)) (name 4 1 17) ∷ []) []
      ∷ [];
  methods =
      (top_method None (name 5 2 13) [] (param (ty.Object (perm_at.Lent (at 2 15)) (kind_at.Class (name 3 2 20) []))
      (name 6 2 24) ∷ []) []
      (Next (at 2 29) (Assigns (name 6 2 29) (Value (Nothing (at 2 33)))) End))
      ∷ (top_method None (name 1 3 13) [] [] []
      End)
      ∷ [];
  decls = decl.Class 0 ∷ decl.Method 0 ∷ decl.Method 1 ∷ [];
}

lent_parameter_assigned-refused : FirstBroken lent_parameter_assigned rule.ParameterMoved (at 2 29)
lent_parameter_assigned-refused = refl
