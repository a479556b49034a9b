-- The ends of blocks and methods, and names: the rows of the page on the language. Made by `tests/worked`.
use Rattle.std.specs.Prelude.{refl, pos, true, [], ◌∷◌, codes, None, Some}
use Rattle.ae_text.specs.declared.refusal.Rule.TheVariants as rule
use Rattle.ae_tree.specs.declared.tree.PermAt.TheVariants as perm_at
use Rattle.ae_tree.specs.declared.tree.KindAt.TheVariants as kind_at
use Rattle.ae_tree.specs.declared.tree.Ty.TheVariants as ty
use Rattle.ae_tree.specs.declared.tree.Need.TheVariants as need_of
use Rattle.ae_tree.specs.declared.tree.Decl.TheVariants as decl
use Rattle.ae_tree.specs.Plain.{Code, Number, Truth, Read}
use Rattle.ae_tree.specs.Plain.{Value, Made, End, Next}
use Rattle.ae_tree.specs.Plain.{Declares, Chooses, Groups}
use Rattle.ae_tree.specs.Plain.{Shares}
use Rattle.ae_rules.specs.Judges.{Accepts, FirstBroken}
use Rattle.ae_worked.proofs.ProgramWords.{at, name, path, class_with, param, given_away}
use Rattle.ae_worked.proofs.ProgramWords.{need, top_method, class_method}

-- A local from outside holds a member of a group that ends.
abbrev pub member_kept_outside : Code
member_kept_outside = record {
  names = codes "io" ∷ codes "main" ∷ codes "this" ∷ codes "C" ∷ codes "x" ∷ codes "g" ∷ [];
  classes =
      class_with (name 3 1 7) [] [] []
      ∷ [];
  methods =
      (top_method None (name 1 1 25) [] [] []
      (Next (at 1 34) (Declares (ty.Object (perm_at.Unique (at 1 38)) (kind_at.Class (name 3 1 45) [])) (name 4 1 47)
      (Made (name 3 1 55) [] [] (at 1 51)))
      (Next (at 1 60) (Chooses (Truth true (at 1 63)) 1
      (Next (at 1 70) (Groups (name 5 1 76))
      (Next (at 1 79) (Shares (name 4 1 85) (name 5 1 92)) End))) End)))
      ∷ [];
  decls = decl.Class 0 ∷ decl.Method 0 ∷ [];
}

member_kept_outside-refused : FirstBroken member_kept_outside rule.GroupEscapes (at 1 76)
member_kept_outside-refused = refl

-- The return is missing.
abbrev pub result_without_return : Code
result_without_return = record {
  names = codes "io" ∷ codes "main" ∷ codes "this" ∷ codes "f" ∷ [];
  classes = [];
  methods =
      (top_method (Some (ty.Int (at 1 8))) (name 3 1 12) [] [] []
      End)
      ∷ (top_method None (name 1 1 32) [] [] []
      End)
      ∷ [];
  decls = decl.Method 0 ∷ decl.Method 1 ∷ [];
}

result_without_return-refused : FirstBroken result_without_return rule.ReturnMissing (at 1 12)
result_without_return-refused = refl

-- A unique parameter is not held Unique at the end.
abbrev pub parameter_not_returned : Code
parameter_not_returned = record {
  names = codes "io" ∷ codes "main" ∷ codes "this" ∷ codes "C" ∷ codes "lose" ∷ codes "c" ∷ codes "x" ∷ [];
  classes =
      class_with (name 3 1 7) [] [] []
      ∷ [];
  methods =
      (top_method None (name 4 1 25) [] (param (ty.Object (perm_at.Unique (at 1 30)) (kind_at.Class (name 3 1 37) []))
      (name 5 1 39) ∷ []) []
      (Next (at 1 44) (Declares (ty.Object (perm_at.Unique (at 1 48)) (kind_at.Class (name 3 1 55) [])) (name 6 1 57)
      (Value (Read (path (name 5 1 61) [])))) End))
      ∷ (top_method None (name 1 1 78) [] [] []
      End)
      ∷ [];
  decls = decl.Class 0 ∷ decl.Method 0 ∷ decl.Method 1 ∷ [];
}

parameter_not_returned-refused : FirstBroken parameter_not_returned rule.NotReturned (at 1 39)
parameter_not_returned-refused = refl

-- A unique this is not held Unique at the end.
abbrev pub this_not_returned : Code
this_not_returned = record {
  names = codes "io" ∷ codes "main" ∷ codes "this" ∷ codes "C" ∷ codes "stay" ∷ codes "x" ∷ [];
  classes =
      class_with (name 3 1 7) [] [] (0 ∷ [])
      ∷ [];
  methods =
      (class_method 0 (record { perm = (perm_at.Unique (at 1 28)); at = (at 1 35); away = None }) None
      (name 4 1 23) [] [] []
      (Next (at 1 43) (Declares (ty.Object (perm_at.Unique (at 1 47)) (kind_at.Class (name 3 1 54) [])) (name 5 1 56)
      (Value (Read (path (name 2 1 60) [])))) End))
      ∷ (top_method None (name 1 1 82) [] [] []
      End)
      ∷ [];
  decls = decl.Class 0 ∷ decl.Method 1 ∷ [];
}

this_not_returned-refused : FirstBroken this_not_returned rule.NotReturned (at 1 35)
this_not_returned-refused = refl

-- With away a parameter may go.
abbrev pub parameter_given_away_may_go : Code
parameter_given_away_may_go = record {
  names = codes "io" ∷ codes "main" ∷ codes "this" ∷ codes "C" ∷ codes "keep" ∷ codes "c" ∷ codes "x" ∷ [];
  classes =
      class_with (name 3 1 7) [] [] []
      ∷ [];
  methods =
      (top_method None (name 4 1 25) [] (given_away (ty.Object (perm_at.Unique (at 1 30))
      (kind_at.Class (name 3 1 37) [])) (name 5 1 39) (at 1 41) ∷ []) []
      (Next (at 1 52) (Declares (ty.Object (perm_at.Unique (at 1 56)) (kind_at.Class (name 3 1 63) [])) (name 6 1 65)
      (Value (Read (path (name 5 1 69) [])))) End))
      ∷ (top_method None (name 1 1 86) [] [] []
      End)
      ∷ [];
  decls = decl.Class 0 ∷ decl.Method 0 ∷ decl.Method 1 ∷ [];
}

parameter_given_away_may_go-accepted : Accepts parameter_given_away_may_go
parameter_given_away_may_go-accepted = refl

-- The name is tested before its right side.
abbrev pub let_of_a_name_twice : Code
let_of_a_name_twice = record {
  names = codes "io" ∷ codes "main" ∷ codes "this" ∷ codes "a" ∷ codes "b" ∷ [];
  classes = [];
  methods =
      (top_method None (name 1 1 13) [] [] (need need_of.Exclusive (name 0 1 35) ∷ [])
      (Next (at 1 40) (Declares (ty.Int (at 1 44)) (name 3 1 48) (Value (Number (pos 1) (at 1 52))))
      (Next (at 1 55) (Declares (ty.Int (at 1 59)) (name 3 1 63) (Value (Read (path (name 4 1 67) [])))) End)))
      ∷ [];
  decls = decl.Method 0 ∷ [];
}

let_of_a_name_twice-refused : FirstBroken let_of_a_name_twice rule.DuplicateLocal (at 1 63)
let_of_a_name_twice-refused = refl
