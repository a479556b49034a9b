-- The uses of a resource for which a later use may wait: the last one that shuts out every other, and those after it.
use Rattle.std.specs.Prelude.{ℕ, zero, suc, nat_eq, Bool, false, not, if◌then◌else◌, List, [], ◌∷◌, ◌++◌, Option}
use Rattle.std.specs.Prelude.{None, Some, map}
use Rattle.std.specs.List.{filter, flat_map}
use Rattle.std.specs.HashMap.{HashMap, get}
use Rattle.ae_rules.specs.declared.uses.Resource.{Resource}
use Rattle.ae_rules.specs.declared.uses.Resource.TheVariants.{Local, Group}
use Rattle.ae_rules.specs.declared.uses.Mode.{Mode}
use Rattle.ae_rules.specs.declared.uses.Use.{Use}
use Rattle.ae_rules.specs.Edges.{are_compatible, is_strong, BlockUses}
use Rattle.ae_graph.specs.declared.waits.Past.{Past}
use Rattle.ae_graph.specs.declared.waits.OpenUses.{OpenUses}

abbrev pub past_list : Option (List Past) → List Past
past_list None = []
past_list (Some open_uses) = open_uses

-- what is kept of a name
abbrev pub kept : {S : Type 0} → HashMap ℕ (List Past) S → ℕ → List Past
kept m x = past_list (get nat_eq m x)

-- what is kept of a resource
abbrev pub kept_of : OpenUses → Resource → List Past
kept_of u (Local x) = kept u.locals x
kept_of u (Group g) = kept u.groups g

-- with one more use
abbrev pub added : List Past → Past → List Past
added ps p = if is_strong p.mode then p ∷ [] else ps ++ p ∷ []

abbrev pub added_if : ℕ → List Past → Option Mode → List Past
added_if j ps None = ps
added_if j ps (Some m) = added ps (record { stmt = j; mode = m })

-- the open uses of a resource before statement j
abbrev pub opened : BlockUses → ℕ → Resource → List Past
opened b zero r = []
opened b (suc j) r = added_if j (opened b j r) (b j r)

abbrev pub is_same : Resource → Resource → Bool
is_same (Local x) (Local y) = nat_eq x y
is_same (Local x) (Group h) = false
is_same (Group g) (Local y) = false
is_same (Group g) (Group h) = nat_eq g h

-- what is kept of a resource after the uses of statement j
abbrev pub after_uses : ℕ → Resource → List Past → List Use → List Past
after_uses j r ps [] = ps
after_uses j r ps (u ∷ us) = after_uses j r
    (if is_same u.what r then added ps (record { stmt = j; mode = u.mode }) else ps) us

-- the statements for which a use in this mode waits
abbrev pub waited : Mode → List Past → List ℕ
waited m ps = map (λ p. p.stmt) (filter (λ p. not (are_compatible p.mode m)) ps)

-- the statements for which these uses wait
abbrev pub waited_by : (Resource → List Past) → List Use → List ℕ
waited_by ps us = flat_map (λ u. waited u.mode (ps u.what)) us
