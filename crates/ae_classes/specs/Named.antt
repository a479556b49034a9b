-- Maps by name: which names they have, and one name more.
use Rattle.std.specs.Prelude.{◌≡◌, ℕ, nat_eq, [], ◌∷◌, ◌++◌, ◌<◌, ◌^◌, true, Option, None, Some, is_some, if◌then◌else◌}
use Rattle.std.specs.Option.{option_or}
use Rattle.indexmap.specs.IndexMap.{IndexMap, get, keys, IsUnique}
use Rattle.ae_rules.specs.Lookups.{Names}

-- the names that a map has
abbrev pub named_in : {V S : Type 0} → IndexMap ℕ V S → Names
named_in m x = is_some (get nat_eq m x)

-- its names are numbers of 32 bits
abbrev pub AreSmall : {V S : Type 0} → IndexMap ℕ V S → Type 0
AreSmall m = (x : ℕ) → named_in m x ≡ true → x < 2 ^ 32

-- what a map of one name has
abbrev pub only_at : {V : Type 0} → ℕ → V → ℕ → Option V
only_at name value x = if nat_eq name x then Some value else None

-- the second map has one name more, behind the others
pub record HasOneMore {V S : Type 0} (name : ℕ) (value : V) (m n : IndexMap ℕ V S) : Type 0 where
  pub found : (x : ℕ) → get nat_eq n x ≡ option_or (get nat_eq m x) (only_at name value x)
  pub names : keys n ≡ keys m ++ name ∷ []
  pub unique : IsUnique nat_eq n
