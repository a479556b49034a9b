-- What the work of a round keeps to, whatever it is, and what a plan of it meets.
use Rattle.std.specs.Prelude.{◌≡◌, ◌<◌, ◌++◌, ℕ, false, List, [], ◌∷◌, length, slice_get, Contains, Some}
use Rattle.ae_text.specs.declared.refusal.Edge.{Edge}
use Rattle.ae_rounds.specs.Rounds.{IsShape, MayRun}
use Rattle.ae_rounds.specs.Flow.{Work, Plan, round_of, IsInput, entering}

-- ---- work

-- the second list is the first with more behind it
abbrev pub IsLonger : {E : Type 0} → List E → List E → Type 0
IsLonger {E} old new = (more : List E) × (new ≡ old ++ more)

-- all numbers of the first list are in the second
abbrev pub AreAmong : List ℕ → List ℕ → Type 0
AreAmong xs ys = (s : ℕ) → Contains xs s → Contains ys s

-- each stamp of the first list is below that stamp
abbrev pub AreStampsBefore : List ℕ → ℕ → Type 0
AreStampsBefore xs s = (z : ℕ) → Contains xs z → z < s

-- the stamps of these entries are among those
abbrev pub AreStampsOf : {E : Type 0} → (E → ℕ) → List E → List ℕ → Type 0
AreStampsOf {E} stamp es ss = (e : E) → Contains es e → Contains ss (stamp e)

-- the stamp is later than all that the task was given
abbrev pub IsLaterThan : {I C O B E : Type 0} → Work I C O B E → I → List C → ℕ → Type 0
IsLaterThan {I} {C} {O} {B} {E} w x cs s = AreStampsBefore (w.input_stamps x) s
    × ((c : C) → Contains cs c → AreStampsBefore (w.carry_stamps c) s)

-- A task only adds: entries behind those of its input, with stamps that are later than all that it was given. The
-- stamps of entries stand among the stamps, and so do began and ended of an output; those of a carry stand in the
-- output that it comes from.
pub record IsWork {I C O B E : Type 0} (w : Work I C O B E) : Type 0 where
  pub input_stamped : (x : I) (k : ℕ) → AreStampsOf w.stamp (w.input_entries x k) (w.input_stamps x)
  pub output_stamped : (o : O) (k : ℕ) → AreStampsOf w.stamp (w.output_entries o k) (w.output_stamps o)
  pub body_stamped : (b : B) (k : ℕ) → AreStampsOf w.stamp (w.body_entries b k) (w.body_stamps b)
  pub carry_stamped : (o : O) (n : ℕ) → AreAmong (w.carry_stamps (w.carry o n)) (w.output_stamps o)
  pub has_began : (o : O) → Contains (w.output_stamps o) (w.began o)
  pub has_ended : (o : O) → Contains (w.output_stamps o) (w.ended o)
  pub gives_more : (x : I) (cs : List C) (o : O) (k : ℕ) → w.gives x cs o
      → IsLonger (w.input_entries x k) (w.output_entries o k)
  pub pauses_more : (x : I) (cs : List C) (b : B) (k : ℕ) → w.pauses x cs b
      → IsLonger (w.input_entries x k) (w.body_entries b k)
  pub gives_later : (x : I) (cs : List C) (o : O) (k : ℕ) (es : List E) (e : E) → w.gives x cs o
      → w.output_entries o k ≡ w.input_entries x k ++ es → Contains es e → IsLaterThan w x cs (w.stamp e)
  pub pauses_later : (x : I) (cs : List C) (b : B) (k : ℕ) (es : List E) (e : E) → w.pauses x cs b
      → w.body_entries b k ≡ w.input_entries x k ++ es → Contains es e → IsLaterThan w x cs (w.stamp e)

-- ---- plans

mutual
  -- The task of this number may give this output: the work allows it for the task's input and for carries that may come
  -- to it.
  pub data MayGive {I C O B E : Type 0} (w : Work I C O B E) (p : Plan I E) : ℕ → O → Type 0 where
    Gives : (t : ℕ) (x : I) (cs : List C) (o : O) → IsInput p t x → MayCarry w p (entering 0 p.edges t) cs
        → w.gives x cs o → MayGive w p t o

  -- These carries may come along these edges, from outputs that may be given and went through.
  pub data MayCarry {I C O B E : Type 0} (w : Work I C O B E) (p : Plan I E) : List (ℕ × ℕ) → List C → Type 0 where
    NoEdge : MayCarry w p [] []
    Along : (edge from : ℕ) (edges : List (ℕ × ℕ)) (o : O) (cs : List C) → MayGive w p from o → w.stops o ≡ false
        → MayCarry w p edges cs → MayCarry w p ((edge, from) ∷ edges) (w.carry o edge ∷ cs)

-- The edges lead forward, to tasks, and none stands twice. A task that may run is ready with whatever carries may come
-- to it. A cell that a body may ask for is one of the plan's. The clock is above all stamps in the inputs and in the
-- cells.
pub record IsPlan {I C O B E : Type 0} (w : Work I C O B E) (p : Plan I E) : Type 0 where
  pub shape : IsShape (round_of p)
  pub once : (i j : ℕ) (e : Edge) → slice_get p.edges i ≡ Some e → slice_get p.edges j ≡ Some e → i ≡ j
  pub ready : (t : ℕ) (x : I) (cs : List C) → MayRun (round_of p) t → IsInput p t x
      → MayCarry w p (entering 0 p.edges t) cs → w.ready x cs
  pub cells : (t : ℕ) (x : I) (cs : List C) (b : B) (k : ℕ) → IsInput p t x → w.pauses x cs b → w.names b k
      → k < length p.cells
  pub inputs_before : (t : ℕ) (x : I) → IsInput p t x → AreStampsBefore (w.input_stamps x) p.clock
  pub cells_before : (k : ℕ) (es : List E) (e : E) → slice_get p.cells k ≡ Some es → Contains es e
      → w.stamp e < p.clock
