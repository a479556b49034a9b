-- What follows for each result that may come of a plan.
use Rattle.std.specs.Prelude.{◌≡◌, ◌<◌, ℕ, List, map, slice_get, Some, Contains}
use Rattle.ae_rounds.specs.Rounds.{IsChain}
use Rattle.ae_rounds.specs.Flow.{Work, Plan, TaskEnd, Finished, Result, round_of, IsEnd, IsOutput, HasBegun, Flow}
use Rattle.ae_rounds.specs.Flow.{IsGiven, HasAdded, HasDrawn, AreRising}
use Rattle.ae_rounds.specs.Works.{IsWork, IsPlan}

-- what has begun is behind tasks that went through alone
abbrev pub ChainsWentThrough : {I C O B E : Type 0} → Work I C O B E → Type 0
ChainsWentThrough {I} {C} {O} {B} {E} w = (p : Plan I E) (r : Result I O B E) (f t : ℕ) (e : TaskEnd I O B)
    → Flow w p r → IsChain (round_of p) f t → IsEnd r t e → HasBegun e → (o : O) × IsEnd r f (Finished o)

-- where a chain of edges leads from one task to another, the first ended before the second began
abbrev pub ChainsKeepTime : {I C O B E : Type 0} → Work I C O B E → Type 0
ChainsKeepTime {I} {C} {O} {B} {E} w = (p : Plan I E) (r : Result I O B E) (f t : ℕ) (o q : O)
    → Flow w p r → IsChain (round_of p) f t → IsOutput r f o → IsOutput r t q → w.ended o < w.began q

-- the stamp of an entry that a task has added to a cell is one that it has added
abbrev pub EntriesAreDrawn : {I C O B E : Type 0} → Work I C O B E → Type 0
EntriesAreDrawn {I} {C} {O} {B} {E} w = IsWork w → (p : Plan I E) (r : Result I O B E) (t k : ℕ) (es : List E) (e : E)
    → Flow w p r → HasAdded w p r t k es → Contains es e → HasDrawn w p r t (w.stamp e)

-- the history of a cell whose stamps rise goes on with stamps that rise
abbrev pub HistoriesRise : {I C O B E : Type 0} → Work I C O B E → Type 0
HistoriesRise {I} {C} {O} {B} {E} w = IsWork w → (p : Plan I E) (r : Result I O B E) (k : ℕ) (old new : List E)
    → IsPlan w p → Flow w p r → slice_get p.cells k ≡ Some old → slice_get r.cells k ≡ Some new
    → AreRising (map w.stamp old) → AreRising (map w.stamp new)

-- what has begun was ready with what it was given
abbrev pub BegunWereReady : {I C O B E : Type 0} → Work I C O B E → Type 0
BegunWereReady {I} {C} {O} {B} {E} w = (p : Plan I E) (r : Result I O B E) (t : ℕ) (e : TaskEnd I O B) → IsPlan w p
    → Flow w p r → IsEnd r t e → HasBegun e → (x : I) × (cs : List C) × IsGiven w p r t x cs × w.ready x cs
