-- Arguments given to their slots, and names that go for good, one after another.
use Rattle.std.proofs.Common.{◌≡◌, ℕ, Bool, true, List, [], ◌∷◌, ◌++◌, Err, append_assoc, sym, ap, ◌∙◌}
use Rattle.ae_text.specs.declared.refusal.Spot.{Spot}
use Rattle.ae_text.specs.declared.refusal.Rule.TheVariants as rule
use Rattle.ae_text.specs.declared.refusal.Deny.{Deny}
use Rattle.ae_text.specs.declared.refusal.Deny.TheVariants as deny
use Rattle.ae_tree.specs.declared.tree.Path.{Path}
use Rattle.ae_tree.specs.declared.form.Perm.{Perm}
use Rattle.ae_tree.specs.declared.form.Kind.{Kind}
use Rattle.ae_tree.specs.Plain.{Code}
use Rattle.ae_rules.specs.Verdict.{Verdict, Holds, ◌>>=◌, ◌>>◌, require}
use Rattle.ae_rules.specs.Answers.{Leaves}
use Rattle.ae_rules.specs.Forms.{is_object_of, is_unique_perm}
use Rattle.ae_rules.specs.Context.{Context}
use Rattle.ae_rules.specs.Walks.{Place, walk, is_name}
use Rattle.ae_rules.specs.Calls.{Roots, root_apart, to_param, path_to_param}

-- a name behind others, before the rest
pub one_more_goes : (xs : List ℕ) (x : ℕ) (rest : List ℕ) → (xs ++ x ∷ []) ++ rest ≡ xs ++ x ∷ rest
one_more_goes xs x rest = append_assoc xs (x ∷ []) rest

-- a path of the right kind, whose root is used twice
pub root_is_used_twice : (p : Code) (c : Context) (q : Perm) (k : Kind) (away : Bool) (path : Path) (at : Spot)
    (before after : Roots) (w : Place) (unique : Bool) (d : Deny) → walk p c path ≡ Holds w
    → is_object_of k w.form ≡ true → unique ≡ is_unique_perm q → Leaves (root_apart unique path at before) after (Err d)
    → Leaves (path_to_param p c q k away path at before) after (Err d)
root_is_used_twice p c q k away path at before after w unique deny.Memory e h u f = tt
root_is_used_twice p c q k away path at before after w unique (deny.Refused r) e h u f =
    ap (λ (v : Verdict Place). v >>= λ (x : Place). require (is_object_of k x.form) rule.TypeMismatch at >> rest x) e
    ∙ ap (λ b. require b rule.TypeMismatch at >> rest w) h
    ∙ ap (λ (v : Verdict Roots). v >>= λ roots. to_param q away (is_name path) w.held at >> Holds roots)
    (ap (λ b. root_apart b path at before) (sym u) ∙ f)
  where
    rest : Place → Verdict Roots
    rest x =
        root_apart (is_unique_perm q) path at before >>= λ roots.
        to_param q away (is_name path) x.held at >> Holds roots
