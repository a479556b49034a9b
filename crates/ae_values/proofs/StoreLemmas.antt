-- Facts on members, where one of them is changed.
use Rattle.std.proofs.Common.{◌≡◌, ℕ, List, map, None, Some, slice_get, slice_set, ap}
use Rattle.std.proofs.Common.{sym, ◌∙◌}
use Rattle.std.proofs.lemmas.List.{map-set}
use Rattle.std.proofs.lemmas.Option.{slice_get-map}
use Rattle.std.specs.Prelude.{option_map}
use Rattle.ae_rules.specs.Verdict.{given}
use Rattle.ae_semantics.specs.Values.{Tree}
use Rattle.ae_values.specs.declared.value.Object.{Object}
use Rattle.ae_values.specs.Shown.{shown_tree}

-- the trees of members of which one is changed
pub member_changed : (xs : List Object) (i : ℕ) (x y : Object) (f : Tree → Tree) → slice_get xs i ≡ Some x
    → shown_tree y ≡ f (shown_tree x) → map shown_tree (slice_set xs i y)
    ≡ given (slice_get (map shown_tree xs) i) (map shown_tree xs) (λ t. slice_set (map shown_tree xs) i (f t))
member_changed xs i x y f at tree = map-set shown_tree xs i y
    ∙ ap (slice_set (map shown_tree xs) i) tree
    ∙ ap (λ o. given o (map shown_tree xs) (λ t. slice_set (map shown_tree xs) i (f t)))
    (sym (slice_get-map shown_tree xs i ∙ ap (option_map shown_tree) at))

-- the trees of members where the one that was to be changed is not there
pub no_member_changed : (xs : List Object) (i : ℕ) (f : Tree → Tree) → slice_get xs i ≡ None → map shown_tree xs
    ≡ given (slice_get (map shown_tree xs) i) (map shown_tree xs) (λ t. slice_set (map shown_tree xs) i (f t))
no_member_changed xs i f at = ap (λ o. given o (map shown_tree xs) (λ t. slice_set (map shown_tree xs) i (f t)))
    (sym (slice_get-map shown_tree xs i ∙ ap (option_map shown_tree) at))
