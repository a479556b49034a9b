-- Parts of a program's instances: an instance and what lies in it, a loop from a turn on, or an instance alone.
use Rattle.std.specs.Prelude.{ℕ, suc, nat_eq, nat_lt, Bool, false, ◌&&◌, [], ◌∷◌, ◌++◌}
use Rattle.ae_rules.specs.Instances.{Instance}
use Rattle.ae_rules.specs.Paths.{is_prefix_of}

-- the paths are the same
abbrev pub same_instance : Instance → Instance → Bool
same_instance q r = is_prefix_of q r && is_prefix_of r q

-- an instance and what lies in it, a loop from a turn on, or an instance without what lies in it
pub data Region : Type 0 where
  Within : Instance → Region
  FromTurn : Instance → ℕ → Region
  Only : Instance → Region

-- the instance lies in this turn of the loop or in a later one
abbrev pub in_turns_from : Instance → ℕ → Instance → Bool
in_turns_from [] t [] = false
in_turns_from [] t (u ∷ q) = nat_lt t (suc u)
in_turns_from (i ∷ p) t [] = false
in_turns_from (i ∷ p) t (j ∷ q) = nat_eq i j && in_turns_from p t q

-- the instance lies in the place
abbrev pub lies_in : Region → Instance → Bool
lies_in (Within q) r = is_prefix_of q r
lies_in (FromTurn q t) r = in_turns_from q t r
lies_in (Only q) r = same_instance q r

-- the path of a place: that of a loop from a turn on is the loop's with the turn appended
abbrev pub path_of : Region → Instance
path_of (Within q) = q
path_of (FromTurn q t) = q ++ (t ∷ [])
path_of (Only q) = q
