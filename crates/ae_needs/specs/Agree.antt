-- What two states agree on, and two runs that go alike from them.
use Rattle.std.specs.Prelude.{◌≡◌, ℕ, Bool, true, ◌||◌, List, ◌++◌, is_some}
use Rattle.ae_rules.specs.declared.uses.Resource.{Resource}
use Rattle.ae_rules.specs.declared.uses.Resource.TheVariants as resource
use Rattle.ae_rules.specs.Edges.{Uses}
use Rattle.ae_rules.specs.Context.{Context}
use Rattle.ae_rules.specs.Uses.{is_seen}
use Rattle.ae_semantics.specs.Places.{State, name_of, group_of}
use Rattle.ae_semantics.specs.declared.report.Piece.{Piece}
use Rattle.ae_semantics.specs.Observations.{Notes}
use Rattle.ae_semantics.specs.Runs.{Run, Went, Ends, Stops}

-- ---- states

-- Two states have the same in each local of a set, and of each group of the set the same under the same name; and the
-- same was returned.
pub record Agree (on : Resource → Bool) (s t : State) : Type 0 where
  pub locals : (x : ℕ) → on (resource.Local x) ≡ true → s.locals x ≡ t.locals x
  pub names : (g : ℕ) → on (resource.Group g) ≡ true → name_of s g ≡ name_of t g
  pub groups : (g : ℕ) → on (resource.Group g) ≡ true → group_of s g ≡ group_of t g
  pub result : s.result ≡ t.result

-- all that is used, and visible in this context, is in the set
abbrev pub Covers : (Resource → Bool) → Context → Uses → Type 0
Covers on c u = (r : Resource) → is_seen c r ≡ true → is_some (u r) ≡ true → on r ≡ true

-- the set with all that is used
abbrev pub with_used : Uses → (Resource → Bool) → Resource → Bool
with_used u on r = on r || is_some (u r)

-- ---- runs

-- from the one log to the next, and from the other log to the next, the same pieces were printed
pub record PrintAlike (before after other other_after : List Piece) : Type 0 where
  pub pieces : List Piece
  pub first : after ≡ before ++ pieces
  pub second : other_after ≡ other ++ pieces

-- Two runs from these notes print the same, and both go on to states that are so related, or both end alike at one
-- place, or both stop.
abbrev pub GoAlike : {W : Type 0} → (State → State → Type 0) → Notes W → Notes W → Run W → Run W → Type 0
GoAlike R n k (Went s x) (Went t y) = R s t × PrintAlike n.log x.log k.log y.log
GoAlike R n k (Went s x) (Ends f y) = ⊥
GoAlike R n k (Went s x) (Stops y) = ⊥
GoAlike R n k (Ends e x) (Went t y) = ⊥
GoAlike R n k (Ends e x) (Ends f y) = (e ≡ f) × PrintAlike n.log x.log k.log y.log
GoAlike R n k (Ends e x) (Stops y) = ⊥
GoAlike R n k (Stops x) (Went t y) = ⊥
GoAlike R n k (Stops x) (Ends f y) = ⊥
GoAlike R n k (Stops x) (Stops y) = PrintAlike n.log x.log k.log y.log
