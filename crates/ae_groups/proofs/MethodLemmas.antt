-- Methods by their numbers.
use Rattle.std.proofs.Common.{◌≡◌, ◌<◌, ℕ, List, map, length, get_or, Some, sym, ap, subst, ◌∙◌, arith}
use Rattle.std.specs.List.{All, slice_get}
use Rattle.std.specs.Option.{option_map}
use Rattle.std.proofs.lemmas.List.{length-map, get_or-map}
use Rattle.std.proofs.lemmas.Option.{slice_get-map, slice_get-get_or}
use Rattle.ae_tree.specs.declared.tree.Method.{Method}
use Rattle.ae_tree.specs.Plain.{Definition}
use Rattle.ae_tree.specs.Shown.{definition}
use Rattle.ae_tree.specs.WellShaped.{MethodNamed}
use Rattle.ae_rules.specs.Groups.{Groups}

-- the names of a program's method are numbers of names
pub method_is_named : (n : ℕ) (ms : List Method) (i : ℕ) (x : Method) → i < length ms → x ≡ get_or ms i x
    → All (MethodNamed n) (map definition ms) → MethodNamed n (definition x)
method_is_named n ms i x l e h = subst (MethodNamed n)
    (get_or-map definition ms i x (definition x) l ∙ ap definition (sym e))
    (h i (definition x) (omega (arith, l, length-map ms definition)))

-- what the method with a number gives
pub method_at_gives : (f : Definition → Groups) (ms : List Method) (i : ℕ) (x : Method) (gs : Groups) → i < length ms
    → x ≡ get_or ms i x → gs ≡ f (definition x) → option_map f (slice_get (map definition ms) i) ≡ Some gs
method_at_gives f ms i x gs l e g = ap (option_map f) (slice_get-map definition ms i
    ∙ ap (option_map definition) (slice_get-get_or ms i x l)) ∙ ap (λ (y : Method). Some (f (definition y))) (sym e)
    ∙ ap Some (sym g)
