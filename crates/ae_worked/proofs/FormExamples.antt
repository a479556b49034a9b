-- Operands, names, and what methods give. Made by `tests/worked`.
use Rattle.std.specs.Prelude.{refl, pos, true, [], ◌∷◌, codes, None, Some}
use Rattle.ae_text.specs.declared.refusal.Rule.TheVariants as rule
use Rattle.ae_tree.specs.declared.tree.PermAt.TheVariants as perm_at
use Rattle.ae_tree.specs.declared.tree.KindAt.TheVariants as kind_at
use Rattle.ae_tree.specs.declared.tree.Ty.TheVariants as ty
use Rattle.ae_tree.specs.declared.tree.Op.TheVariants as op
use Rattle.ae_tree.specs.declared.tree.Need.TheVariants as need_of
use Rattle.ae_tree.specs.declared.tree.Decl.TheVariants as decl
use Rattle.ae_tree.specs.Plain.{Code, Number, Truth, Nothing, Read, Grouped, Binary}
use Rattle.ae_tree.specs.Plain.{Value, Zeros, Made, Returned, End, Next}
use Rattle.ae_tree.specs.Plain.{Declares, Stores, Calls}
use Rattle.ae_tree.specs.Plain.{Prints, Returns}
use Rattle.ae_rules.specs.Judges.{Accepts, FirstBroken}
use Rattle.ae_worked.proofs.ProgramWords.{at, name, path, call, call_on, field, class_with, param}
use Rattle.ae_worked.proofs.ProgramWords.{need, top_method, class_method}

-- Nothing is known of null beside null.
abbrev pub null_beside_null : Code
null_beside_null = record {
  names = codes "io" ∷ codes "main" ∷ codes "this" ∷ [];
  classes = [];
  methods =
      (top_method None (name 1 1 13) [] [] (need need_of.Exclusive (name 0 1 35) ∷ [])
      (Next (at 2 1) (Prints (Binary op.Eq (Nothing (at 2 7)) (Nothing (at 2 15)))) End))
      ∷ [];
  decls = decl.Method 0 ∷ [];
}

null_beside_null-refused : FirstBroken null_beside_null rule.TypeMismatch (at 2 7)
null_beside_null-refused = refl

-- A number beside null: the null is misplaced.
abbrev pub number_beside_null : Code
number_beside_null = record {
  names = codes "io" ∷ codes "main" ∷ codes "this" ∷ [];
  classes = [];
  methods =
      (top_method None (name 1 1 13) [] [] (need need_of.Exclusive (name 0 1 35) ∷ [])
      (Next (at 2 1) (Prints (Binary op.Eq (Number (pos 1) (at 2 7)) (Nothing (at 2 12)))) End))
      ∷ [];
  decls = decl.Method 0 ∷ [];
}

number_beside_null-refused : FirstBroken number_beside_null rule.TypeMismatch (at 2 12)
number_beside_null-refused = refl

-- An object goes into a form without parentheses.
abbrev pub null_in_parentheses : Code
null_in_parentheses = record {
  names = codes "io" ∷ codes "main" ∷ codes "this" ∷ codes "Box" ∷ codes "v" ∷ codes "x" ∷ [];
  classes =
      class_with (name 3 1 7) [] (field (ty.Int (at 1 13)) (name 4 1 17) ∷ []) []
      ∷ [];
  methods =
      (top_method None (name 1 2 13) [] [] (need need_of.Exclusive (name 0 2 35) ∷ [])
      (Next (at 3 1) (Declares (ty.Object (perm_at.Unique (at 3 5)) (kind_at.Class (name 3 3 12) [])) (name 5 3 16)
      (Value (Grouped (Nothing (at 3 21)) (at 3 20)))) End))
      ∷ [];
  decls = decl.Class 0 ∷ decl.Method 0 ∷ [];
}

null_in_parentheses-refused : FirstBroken null_in_parentheses rule.TypeMismatch (at 3 20)
null_in_parentheses-refused = refl

-- Operands are tested from left to right, each right after it is judged.
abbrev pub wrong_left_operand : Code
wrong_left_operand = record {
  names = codes "io" ∷ codes "main" ∷ codes "this" ∷ codes "y" ∷ [];
  classes = [];
  methods =
      (top_method None (name 1 1 13) [] [] (need need_of.Exclusive (name 0 1 35) ∷ [])
      (Next (at 2 1) (Prints (Binary op.Add (Truth true (at 2 7)) (Read (path (name 3 2 14) [])))) End))
      ∷ [];
  decls = decl.Method 0 ∷ [];
}

wrong_left_operand-refused : FirstBroken wrong_left_operand rule.TypeMismatch (at 2 7)
wrong_left_operand-refused = refl

-- A method with a result ends with return, which is tested before what comes back.
abbrev pub no_return : Code
no_return = record {
  names = codes "io" ∷ codes "main" ∷ codes "this" ∷ codes "Box" ∷ codes "v" ∷ codes "m" ∷ codes "x" ∷ codes "y"
      ∷ [];
  classes =
      class_with (name 3 1 7) [] (field (ty.Int (at 1 13)) (name 4 1 17) ∷ []) []
      ∷ [];
  methods =
      (top_method (Some (ty.Int (at 2 8))) (name 5 2 12) [] (param
      (ty.Object (perm_at.Unique (at 2 14)) (kind_at.Class (name 3 2 21) [])) (name 6 2 25) ∷ []) []
      (Next (at 2 30) (Declares (ty.Object (perm_at.Unique (at 2 34)) (kind_at.Class (name 3 2 41) [])) (name 7 2 45)
      (Value (Read (path (name 6 2 49) [])))) End))
      ∷ (top_method None (name 1 3 13) [] [] []
      End)
      ∷ [];
  decls = decl.Class 0 ∷ decl.Method 0 ∷ decl.Method 1 ∷ [];
}

no_return-refused : FirstBroken no_return rule.ReturnMissing (at 2 12)
no_return-refused = refl

-- A method at the top has no this.
abbrev pub this_at_the_top : Code
this_at_the_top = record {
  names = codes "io" ∷ codes "main" ∷ codes "this" ∷ codes "v" ∷ [];
  classes = [];
  methods =
      (top_method None (name 1 1 13) [] [] (need need_of.Exclusive (name 0 1 35) ∷ [])
      (Next (at 2 1) (Prints (Read (path (name 2 2 7) ((name 3 2 12) ∷ [])))) End))
      ∷ [];
  decls = decl.Method 0 ∷ [];
}

this_at_the_top-refused : FirstBroken this_at_the_top rule.UnknownName (at 2 7)
this_at_the_top-refused = refl

-- A name that is not declared.
abbrev pub name_not_declared : Code
name_not_declared = record {
  names = codes "io" ∷ codes "main" ∷ codes "this" ∷ codes "b" ∷ [];
  classes = [];
  methods =
      (top_method None (name 1 1 13) [] [] (need need_of.Exclusive (name 0 1 35) ∷ [])
      (Next (at 1 40) (Prints (Read (path (name 3 1 46) []))) End))
      ∷ [];
  decls = decl.Method 0 ∷ [];
}

name_not_declared-refused : FirstBroken name_not_declared rule.UnknownName (at 1 46)
name_not_declared-refused = refl

-- A class that is not declared is named at its name.
abbrev pub new_of_no_class : Code
new_of_no_class = record {
  names = codes "io" ∷ codes "main" ∷ codes "this" ∷ codes "Box" ∷ codes "v" ∷ codes "x" ∷ codes "Bax" ∷ [];
  classes =
      class_with (name 3 1 7) [] (field (ty.Int (at 1 13)) (name 4 1 17) ∷ []) []
      ∷ [];
  methods =
      (top_method None (name 1 2 13) [] [] (need need_of.Exclusive (name 0 2 35) ∷ [])
      (Next (at 3 1) (Declares (ty.Object (perm_at.Unique (at 3 5)) (kind_at.Class (name 3 3 12) [])) (name 5 3 16)
      (Made (name 6 3 24) [] ((Number (pos 1) (at 3 28)) ∷ []) (at 3 20))) End))
      ∷ [];
  decls = decl.Class 0 ∷ decl.Method 0 ∷ [];
}

new_of_no_class-refused : FirstBroken new_of_no_class rule.UnknownClass (at 3 24)
new_of_no_class-refused = refl

-- A new object wants as many arguments as its class has fields.
abbrev pub new_with_too_few : Code
new_with_too_few = record {
  names = codes "io" ∷ codes "main" ∷ codes "this" ∷ codes "Box" ∷ codes "v" ∷ codes "x" ∷ [];
  classes =
      class_with (name 3 1 7) [] (field (ty.Int (at 1 13)) (name 4 1 17) ∷ []) []
      ∷ [];
  methods =
      (top_method None (name 1 2 13) [] [] (need need_of.Exclusive (name 0 2 35) ∷ [])
      (Next (at 3 1) (Declares (ty.Object (perm_at.Unique (at 3 5)) (kind_at.Class (name 3 3 12) [])) (name 5 3 16)
      (Made (name 3 3 24) [] [] (at 3 20))) End))
      ∷ [];
  decls = decl.Class 0 ∷ decl.Method 0 ∷ [];
}

new_with_too_few-refused : FirstBroken new_with_too_few rule.ArgumentCount (at 3 24)
new_with_too_few-refused = refl

-- Integers have no methods.
abbrev pub method_of_integers : Code
method_of_integers = record {
  names = codes "io" ∷ codes "main" ∷ codes "this" ∷ codes "a" ∷ codes "sort" ∷ [];
  classes = [];
  methods =
      (top_method None (name 1 1 13) [] [] (need need_of.Exclusive (name 0 1 35) ∷ [])
      (Next (at 2 1) (Declares (ty.Object (perm_at.Unique (at 2 5)) (kind_at.Ints (at 2 12))) (name 3 2 17)
      (Zeros (Number (pos 3) (at 2 30)) (at 2 21)))
      (Next (at 3 1) (Calls (call_on (path (name 3 3 1) []) (name 4 3 3) [] [])) End)))
      ∷ [];
  decls = decl.Method 0 ∷ [];
}

method_of_integers-refused : FirstBroken method_of_integers rule.UnknownMethod (at 3 3)
method_of_integers-refused = refl

-- A method without a result gives none, which is said after its needs.
abbrev pub result_of_void : Code
result_of_void = record {
  names = codes "io" ∷ codes "main" ∷ codes "this" ∷ codes "say" ∷ codes "a" ∷ [];
  classes = [];
  methods =
      (top_method None (name 3 1 13) [] [] (need need_of.Exclusive (name 0 1 34) ∷ [])
      End)
      ∷ (top_method None (name 1 2 13) [] [] []
      (Next (at 3 1) (Declares (ty.Int (at 3 5)) (name 4 3 9) (Returned (call (name 3 3 13) [] []))) End))
      ∷ [];
  decls = decl.Method 0 ∷ decl.Method 1 ∷ [];
}

result_of_void-refused : FirstBroken result_of_void rule.NotExclusive (at 3 13)
result_of_void-refused = refl

-- A method without a result returns nothing.
abbrev pub returned_from_void : Code
returned_from_void = record {
  names = codes "io" ∷ codes "main" ∷ codes "this" ∷ codes "m" ∷ [];
  classes = [];
  methods =
      (top_method None (name 3 1 13) [] [] []
      (Next (at 1 19) (Returns (Number (pos 1) (at 1 26))) End))
      ∷ (top_method None (name 1 2 13) [] [] []
      End)
      ∷ [];
  decls = decl.Method 0 ∷ decl.Method 1 ∷ [];
}

returned_from_void-refused : FirstBroken returned_from_void rule.TypeMismatch (at 1 19)
returned_from_void-refused = refl

-- A class's methods see its fields by this, and are called on objects.
abbrev pub methods_of_a_class : Code
methods_of_a_class = record {
  names = codes "io" ∷ codes "main" ∷ codes "this" ∷ codes "Count" ∷ codes "n" ∷ codes "get" ∷ codes "add"
      ∷ codes "k" ∷ codes "c" ∷ [];
  classes =
      class_with (name 3 1 7) [] (field (ty.Int (at 2 1)) (name 4 2 5) ∷ []) (0 ∷ 1 ∷ [])
      ∷ [];
  methods =
      (class_method 0 (record { perm = (perm_at.Lent (at 3 16)); at = (at 3 21); away = None }) (Some (ty.Int (at 3 8)))
      (name 5 3 12) [] [] []
      (Next (at 3 29) (Returns (Read (path (name 2 3 36) ((name 4 3 41) ∷ [])))) End))
      ∷ (class_method 0 (record { perm = (perm_at.Unique (at 4 17)); at = (at 4 24); away = None }) None
      (name 6 4 13) [] (param (ty.Int (at 4 30)) (name 7 4 34) ∷ []) []
      (Next (at 4 39) (Stores (path (name 2 4 39) ((name 4 4 44) ∷ []))
      (Binary op.Add (Read (path (name 2 4 48) ((name 4 4 53) ∷ []))) (Read (path (name 7 4 57) [])))) End))
      ∷ (top_method None (name 1 6 13) [] [] (need need_of.Exclusive (name 0 6 35) ∷ [])
      (Next (at 7 1) (Declares (ty.Object (perm_at.Unique (at 7 5)) (kind_at.Class (name 3 7 12) [])) (name 8 7 18)
      (Made (name 3 7 26) [] ((Number (pos 1) (at 7 32)) ∷ []) (at 7 22)))
      (Next (at 8 1) (Calls (call_on (path (name 8 8 1) []) (name 6 8 3) []
      ((Read (path (name 8 8 7) ((name 4 8 9) ∷ []))) ∷ [])))
      (Next (at 9 1) (Declares (ty.Int (at 9 5)) (name 7 9 9) (Returned
      (call_on (path (name 8 9 13) []) (name 5 9 15) [] [])))
      (Next (at 10 1) (Prints (Read (path (name 7 10 7) []))) End)))))
      ∷ [];
  decls = decl.Class 0 ∷ decl.Method 2 ∷ [];
}

methods_of_a_class-accepted : Accepts methods_of_a_class
methods_of_a_class-accepted = refl
