-- What the class table says of some programs. Made by `tests/worked`.
use Rattle.std.specs.Prelude.{refl, pos, [], ◌∷◌, codes, None, Some}
use Rattle.ae_text.specs.declared.refusal.Rule.TheVariants as rule
use Rattle.ae_tree.specs.declared.tree.PermAt.TheVariants as perm_at
use Rattle.ae_tree.specs.declared.tree.KindAt.TheVariants as kind_at
use Rattle.ae_tree.specs.declared.tree.Ty.TheVariants as ty
use Rattle.ae_tree.specs.declared.tree.Need.TheVariants as need_of
use Rattle.ae_tree.specs.declared.tree.Decl.TheVariants as decl
use Rattle.ae_tree.specs.Plain.{Code, Number, Item, Length}
use Rattle.ae_tree.specs.Plain.{End, Next}
use Rattle.ae_tree.specs.Plain.{Prints, Returns}
use Rattle.ae_rules.specs.Judges.{Accepts, FirstBroken}
use Rattle.ae_worked.proofs.ProgramWords.{at, name, path, field, class_with, param}
use Rattle.ae_worked.proofs.ProgramWords.{need, top_method, class_method}

-- A program without a main method.
abbrev pub empty_program : Code
empty_program = record {
  names = codes "io" ∷ codes "main" ∷ codes "this" ∷ [];
  classes = [];
  methods = [];
  decls = [];
}

empty_program-refused : FirstBroken empty_program rule.NoMain (at 1 1)
empty_program-refused = refl

-- A class and a method at the top may share a name.
abbrev pub class_and_method_alike : Code
class_and_method_alike = record {
  names = codes "io" ∷ codes "main" ∷ codes "this" ∷ codes "one" ∷ [];
  classes =
      class_with (name 3 1 7) [] [] []
      ∷ [];
  methods =
      (top_method None (name 3 2 13) [] [] []
      End)
      ∷ (top_method None (name 1 3 13) [] [] []
      End)
      ∷ [];
  decls = decl.Class 0 ∷ decl.Method 0 ∷ decl.Method 1 ∷ [];
}

class_and_method_alike-accepted : Accepts class_and_method_alike
class_and_method_alike-accepted = refl

-- Two classes of one name. The first clause goes over all declarations before the second looks into a class.
abbrev pub two_classes_alike : Code
two_classes_alike = record {
  names = codes "io" ∷ codes "main" ∷ codes "this" ∷ codes "A" ∷ codes "x" ∷ [];
  classes =
      class_with (name 3 1 7) [] (field (ty.Int (at 1 11)) (name 4 1 15) ∷ field (ty.Int (at 1 18)) (name 4 1 22)
      ∷ []) []
      ∷ class_with (name 3 2 7) [] [] []
      ∷ [];
  methods =
      (top_method None (name 1 3 13) [] [] []
      End)
      ∷ [];
  decls = decl.Class 0 ∷ decl.Class 1 ∷ decl.Method 0 ∷ [];
}

two_classes_alike-refused : FirstBroken two_classes_alike rule.DuplicateClass (at 2 7)
two_classes_alike-refused = refl

-- Two methods of one name at the top. They are tested in source order among the classes.
abbrev pub two_methods_alike : Code
two_methods_alike = record {
  names = codes "io" ∷ codes "main" ∷ codes "this" ∷ codes "m" ∷ codes "A" ∷ [];
  classes =
      class_with (name 4 3 7) [] [] []
      ∷ class_with (name 4 4 7) [] [] []
      ∷ [];
  methods =
      (top_method None (name 3 1 13) [] [] []
      End)
      ∷ (top_method None (name 3 2 13) [] [] []
      End)
      ∷ (top_method None (name 1 5 13) [] [] []
      End)
      ∷ [];
  decls = decl.Method 0 ∷ decl.Method 1 ∷ decl.Class 0 ∷ decl.Class 1 ∷ decl.Method 2 ∷ [];
}

two_methods_alike-refused : FirstBroken two_methods_alike rule.DuplicateMember (at 2 13)
two_methods_alike-refused = refl

-- Fields and methods of a class share their names.
abbrev pub field_and_method_alike : Code
field_and_method_alike = record {
  names = codes "io" ∷ codes "main" ∷ codes "this" ∷ codes "A" ∷ codes "x" ∷ [];
  classes =
      class_with (name 3 1 7) [] (field (ty.Int (at 2 1)) (name 4 2 5) ∷ []) (0 ∷ [])
      ∷ [];
  methods =
      (class_method 0 (record { perm = (perm_at.Lent (at 3 15)); at = (at 3 20); away = None }) None
      (name 4 3 13) [] [] []
      End)
      ∷ (top_method None (name 1 5 13) [] [] []
      End)
      ∷ [];
  decls = decl.Class 0 ∷ decl.Method 1 ∷ [];
}

field_and_method_alike-refused : FirstBroken field_and_method_alike rule.DuplicateMember (at 3 13)
field_and_method_alike-refused = refl

-- One group name too many. At that name the number is tested first.
abbrev pub seventeen_groups : Code
seventeen_groups = record {
  names = codes "io" ∷ codes "main" ∷ codes "this" ∷ codes "A" ∷ codes "a" ∷ codes "b" ∷ codes "c" ∷ codes "d"
      ∷ codes "e" ∷ codes "f" ∷ codes "g" ∷ codes "h" ∷ codes "i" ∷ codes "j" ∷ codes "k" ∷ codes "l" ∷ codes "m"
      ∷ codes "n" ∷ codes "o" ∷ codes "p" ∷ [];
  classes =
      class_with (name 3 1 7) ((name 4 1 9) ∷ (name 5 1 12) ∷ (name 6 1 15) ∷ (name 7 1 18) ∷ (name 8 1 21)
      ∷ (name 9 1 24) ∷ (name 10 1 27) ∷ (name 11 1 30) ∷ (name 12 1 33) ∷ (name 13 1 36) ∷ (name 14 1 39)
      ∷ (name 15 1 42) ∷ (name 16 1 45) ∷ (name 17 1 48) ∷ (name 18 1 51) ∷ (name 19 1 54) ∷ (name 4 1 57) ∷ []) [] []
      ∷ [];
  methods =
      (top_method None (name 1 2 13) [] [] []
      End)
      ∷ [];
  decls = decl.Class 0 ∷ decl.Method 0 ∷ [];
}

seventeen_groups-refused : FirstBroken seventeen_groups rule.TooManyGroups (at 1 57)
seventeen_groups-refused = refl

-- A name that stands twice comes before a list that is too long.
abbrev pub group_twice_before_seventeen : Code
group_twice_before_seventeen = record {
  names = codes "io" ∷ codes "main" ∷ codes "this" ∷ codes "A" ∷ codes "a" ∷ codes "c" ∷ codes "d" ∷ codes "e"
      ∷ codes "f" ∷ codes "g" ∷ codes "h" ∷ codes "i" ∷ codes "j" ∷ codes "k" ∷ codes "l" ∷ codes "m" ∷ codes "n"
      ∷ codes "o" ∷ codes "p" ∷ codes "q" ∷ [];
  classes =
      class_with (name 3 1 7) ((name 4 1 9) ∷ (name 4 1 12) ∷ (name 5 1 15) ∷ (name 6 1 18) ∷ (name 7 1 21)
      ∷ (name 8 1 24) ∷ (name 9 1 27) ∷ (name 10 1 30) ∷ (name 11 1 33) ∷ (name 12 1 36) ∷ (name 13 1 39)
      ∷ (name 14 1 42) ∷ (name 15 1 45) ∷ (name 16 1 48) ∷ (name 17 1 51) ∷ (name 18 1 54) ∷ (name 19 1 57) ∷ []) [] []
      ∷ [];
  methods =
      (top_method None (name 1 2 13) [] [] []
      End)
      ∷ [];
  decls = decl.Class 0 ∷ decl.Method 0 ∷ [];
}

group_twice_before_seventeen-refused : FirstBroken group_twice_before_seventeen rule.GroupTwice (at 1 12)
group_twice_before_seventeen-refused = refl

-- No group is declared as io.
abbrev pub group_called_io : Code
group_called_io = record {
  names = codes "io" ∷ codes "main" ∷ codes "this" ∷ codes "m" ∷ [];
  classes = [];
  methods =
      (top_method None (name 3 1 13) ((name 0 1 15) ∷ []) [] []
      End)
      ∷ (top_method None (name 1 2 13) [] [] []
      End)
      ∷ [];
  decls = decl.Method 0 ∷ decl.Method 1 ∷ [];
}

group_called_io-refused : FirstBroken group_called_io rule.GroupTwice (at 1 15)
group_called_io-refused = refl

-- A main method with a result.
abbrev pub main_with_a_result : Code
main_with_a_result = record {
  names = codes "io" ∷ codes "main" ∷ codes "this" ∷ [];
  classes = [];
  methods =
      (top_method (Some (ty.Int (at 1 8))) (name 1 1 12) [] [] []
      (Next (at 1 21) (Returns (Number (pos 1) (at 1 28))) End))
      ∷ [];
  decls = decl.Method 0 ∷ [];
}

main_with_a_result-refused : FirstBroken main_with_a_result rule.NoMain (at 1 12)
main_with_a_result-refused = refl

-- A main method may take integers and need io.
abbrev pub main_with_integers : Code
main_with_integers = record {
  names = codes "io" ∷ codes "main" ∷ codes "this" ∷ codes "a" ∷ [];
  classes = [];
  methods =
      (top_method None (name 1 1 13) [] (param (ty.Object (perm_at.Unique (at 1 18)) (kind_at.Ints (at 1 25)))
      (name 3 1 30) ∷ []) (need need_of.Exclusive (name 0 1 48) ∷ [])
      (Next (at 1 53) (Prints (Item (path (name 3 1 59) []) (Number (pos 0) (at 1 61))))
      (Next (at 1 65) (Prints (Length (path (name 3 1 75) []) (at 1 71))) End)))
      ∷ [];
  decls = decl.Method 0 ∷ [];
}

main_with_integers-accepted : Accepts main_with_integers
main_with_integers-accepted = refl
