-- What follows from the definitions of a round.
use Rattle.std.specs.Prelude.{◌≢◌, ◌<◌, ◌≤◌, ℕ, suc, nat_eq, if◌then◌else◌, List, [], ◌∷◌}
use Rattle.ae_rounds.specs.Rounds.{Round, IsShape, IsChain, Waiting, Configuration, first, RoundEvent, Begin, Finish}
use Rattle.ae_rounds.specs.Rounds.{Take, Leave, SetAside, Happens, Course, Lawful, ConflictFree, IsSound, IsCalm}

-- chains lead to higher numbers
abbrev pub ChainsRise : Type 0
ChainsRise = (r : Round) (t u : ℕ) → IsShape r → IsChain r t u → t < u

-- a round begins lawful
abbrev pub FirstIsLawful : Type 0
FirstIsLawful = (r : Round) → Lawful r first

-- each event leads from a lawful configuration to a lawful one
abbrev pub EventsKeep : Type 0
EventsKeep = (r : Round) (c d : Configuration) (e : RoundEvent) → Lawful r c → Happens r c e d → Lawful r d

-- what is lawful is free of conflicts
abbrev pub LawfulIsFree : Type 0
LawfulIsFree = (r : Round) (c : Configuration) → Lawful r c → ConflictFree r c

-- all that is reached from a lawful configuration is lawful and free of conflicts
abbrev pub ReachedIsFree : Type 0
ReachedIsFree = (r : Round) (c d : Configuration) (es : List RoundEvent) → Lawful r c → Course r c es d
    → Lawful r d × ConflictFree r d

-- in a sound round no two tasks in conflict run together, in whatever is reached
abbrev pub SoundIsCalm : (Conflict Ordered : ℕ → ℕ → Type 0) → Type 0
SoundIsCalm Conflict Ordered = (r : Round) (c d : Configuration) (es : List RoundEvent) → IsSound r Conflict Ordered
    → Lawful r c → Course r c es d → IsCalm d Conflict Ordered

-- a task that has begun never waits again
abbrev pub BegunStays : Type 0
BegunStays = (r : Round) (c d : Configuration) (es : List RoundEvent) (t : ℕ) → Course r c es d → c.stage t ≢ Waiting
    → d.stage t ≢ Waiting

-- how often the task begins
abbrev pub begins : ℕ → List RoundEvent → ℕ
begins t [] = 0
begins t (Begin s u ∷ es) = if nat_eq u t then suc (begins t es) else begins t es
begins t (Finish s stopped ∷ es) = begins t es
begins t (Take s k ∷ es) = begins t es
begins t (Leave s k ∷ es) = begins t es
begins t (SetAside s ∷ es) = begins t es

-- a task begins once at most
abbrev pub BeginsOnce : Type 0
BeginsOnce = (r : Round) (c d : Configuration) (es : List RoundEvent) (t : ℕ) → Course r c es d → begins t es ≤ 1
