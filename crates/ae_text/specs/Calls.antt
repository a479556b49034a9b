-- What single calls of a source ask for, what a sink is offered, and which calls of those in memory fail.
use Rattle.std.specs.Prelude.{◌≡◌, ℕ, ◌+◌, ◌<◌, ◌≤◌, ◌^◌, min, max, List, length, Option, None, Some, Contains, ⊤}
use Rattle.std.specs.Prelude.{nat_lt, if◌then◌else◌}

-- a call asked for n bytes: the most that any call asked for, where it is told
abbrev pub Asks : Option ℕ → Option ℕ → ℕ → Type 0
Asks None after n = ⊤
Asks (Some before) None n = ⊥
Asks (Some before) (Some after) n = after ≡ max before n

-- no call in between asked for more than n bytes
abbrev pub AsksAtMost : Option ℕ → Option ℕ → ℕ → Type 0
AsksAtMost None after n = ⊤
AsksAtMost (Some before) None n = ⊥
AsksAtMost (Some before) (Some after) n = after ≤ max before n

-- A piece was offered to a sink that has these bytes: the least number of bytes that a sink would have with the whole of
-- a piece that it was offered, where it is told.
abbrev pub Reaches : Option ℕ → Option ℕ → Option (List ℕ) → List ℕ → Type 0
Reaches None after bytes piece = ⊤
Reaches (Some before) None bytes piece = ⊥
Reaches (Some before) (Some after) None piece = ⊤
Reaches (Some before) (Some after) (Some bytes) piece = after ≡ min before (length bytes + length piece)

-- each piece that was offered in between went up to the end of this text, behind these bytes
abbrev pub ReachesEnd : Option ℕ → Option ℕ → Option (List ℕ) → List ℕ → Type 0
ReachesEnd None after bytes text = ⊤
ReachesEnd (Some before) None bytes text = ⊥
ReachesEnd (Some before) (Some after) None text = ⊤
ReachesEnd (Some before) (Some after) (Some bytes) text = min before (length bytes + length text) ≤ after

-- the call with this number is one of those that fail; the calls past the last number have none
abbrev pub IsNamed : Option ℕ → List ℕ → Type 0
IsNamed None fail = ⊥
IsNamed (Some call) fail = Contains fail call

-- the number of the call after that one
abbrev pub following : Option ℕ → Option ℕ
following None = None
following (Some call) = if nat_lt (call + 1) (2 ^ 64) then Some (call + 1) else None
