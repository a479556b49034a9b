-- The methods of a program, and what is known of groups between them.
use Rattle.std.proofs.Common.{◌≡◌, ◌<◌, ℕ, List, [], ◌∷◌, map, drop, get_or, length, length-set, Option, Some}
use Rattle.std.proofs.Common.{refl, sym, ap, ◌∙◌}
use Rattle.std.specs.Prelude.{option_map, slice_get}
use Rattle.std.proofs.lemmas.Option.{slice_get-map, slice_get-get_or}
use Rattle.ae_tree.specs.declared.tree.Method.{Method}
use Rattle.ae_tree.specs.Plain.{Definition, Code}
use Rattle.ae_tree.specs.Shown.{definition}
use Rattle.ae_rules.specs.declared.held.GroupPerm.{GroupPerm}
use Rattle.ae_rules.specs.Lookups.{method_at}
use Rattle.ae_scope.specs.declared.scope.Scope.{Scope}
use Rattle.ae_scope.specs.declared.slot.GroupChange.{GroupChange}
use Rattle.ae_scope.specs.Trail.{groups_before}
use Rattle.ae_scope.specs.Grows.{Grows}

-- a method of the program, by its place
pub its_place : (p : Code) (xs : List Method) (i : ℕ) (x : Method) → p.methods ≡ map definition xs → i < length xs
    → x ≡ get_or xs i x → method_at p i ≡ Some (definition x)
its_place p xs i x q l e =
    ap (λ (ms : List Definition). slice_get ms i) q ∙ slice_get-map definition xs i
    ∙ ap (option_map definition) (slice_get-get_or xs i x l ∙ ap Some (sym e))

-- changes of groups that are undone leave as many groups
as_many_back : (cs : List GroupChange) (gs : List (Option GroupPerm)) → length (groups_before cs gs) ≡ length gs
as_many_back [] gs = refl
as_many_back (c ∷ cs) gs = length-set (groups_before cs gs) c.name c.before ∙ as_many_back cs gs

-- a scope that grew has a place for as many groups
pub as_many_groups : (s t : Scope) → Grows s t → length t.groups.perms.items ≡ length s.groups.perms.items
as_many_groups s t g = sym (as_many_back (drop (length s.group_trail.items) t.group_trail.items)
    t.groups.perms.items) ∙ ap length g.groups
