-- Facts on groups that are got, one behind another.
use Rattle.std.proofs.Common.{◌≡◌, ◌∙◌, List, [], ◌∷◌, ◌++◌, Option, None, Some, refl, ap}
use Rattle.std.specs.List.{cons_option}
use Rattle.ae_values.specs.Environments.{group_bound}
use Rattle.ae_reads.specs.Answers.{one_name}
use Rattle.ae_frames.specs.declared.granted.Granted.{Granted}
use Rattle.ae_frames.specs.Granting.{named_so}
use Rattle.ae_frames.specs.Shown.{got_of}

one_before : {A : Type 0} (o : Option A) (xs ys : List A) → cons_option o (xs ++ ys) ≡ cons_option o xs ++ ys
one_before None xs ys = refl
one_before (Some x) xs ys = refl

-- one more group is got
pub got_one_more : (xs : List Granted) (x : Granted)
    → got_of (xs ++ x ∷ []) ≡ got_of xs ++ cons_option (named_so x.group (group_bound one_name x.bound)) []
got_one_more [] x = refl
got_one_more (y ∷ ys) x = ap (cons_option (named_so y.group (group_bound one_name y.bound))) (got_one_more ys x)
    ∙ one_before (named_so y.group (group_bound one_name y.bound)) (got_of ys)
    (cons_option (named_so x.group (group_bound one_name x.bound)) [])
