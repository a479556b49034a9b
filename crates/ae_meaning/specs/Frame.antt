-- A judged statement depends on what it uses and changes what it uses by Write or GroupWhole,
-- and judged statements that do not conflict commute.
use Rattle.std.specs.Prelude.{◌≡◌, ℕ, Bool, true, List, [], ◌++◌, IsSome}
use Rattle.ae_text.specs.declared.refusal.Spot.{Spot}
use Rattle.ae_rules.specs.declared.uses.Resource.{Resource}
use Rattle.ae_rules.specs.declared.uses.Resource.TheVariants as resource
use Rattle.ae_tree.specs.Form.{form}
use Rattle.ae_tree.specs.Plain.{Expression, Action, Declares, Assigns, Prints, Definition, Code}
use Rattle.ae_tree.specs.Names.{io}
use Rattle.ae_rules.specs.Edges.{Uses, IsConflict, IsWeak}
use Rattle.ae_rules.specs.Context.{Local, Context}
use Rattle.ae_rules.specs.Uses.{nothing, of_found, value_uses, right_uses}
use Rattle.ae_meaning.specs.Values.{Env, today_value}
use Rattle.ae_meaning.specs.Meaning.{TodayState, Run, Went, Ends, Stops, today_one}
use Rattle.ae_meaning.specs.Judged.{Statement, uses_at, IsJudged}

-- an expression's value is told by the locals that it uses
abbrev pub ValueIsRead : Type 0
ValueIsRead = (p : Code) (c : Context) (a : Expression) (e f : Env)
    → ((y : ℕ) → IsSome (value_uses p c a (resource.Local y)) → e y ≡ f y) → today_value a e ≡ today_value a f

-- what is looked at: some locals, and the log or not
pub record View : Type 0 where
  pub local : ℕ → Bool
  pub log : Bool

-- two states are the same there
pub record Agree (v : View) (s t : TodayState) : Type 0 where
  pub local : (y : ℕ) → v.local y ≡ true → s.env y ≡ t.env y
  pub log : v.log ≡ true → s.log ≡ t.log

-- two runs go through to states that are the same there, or end alike, or both stop
abbrev pub AgreeAfter : View → Run → Run → Type 0
AgreeAfter v (Went s) (Went t) = Agree v s t
AgreeAfter v (Went s) (Ends e m) = ⊥
AgreeAfter v (Went s) (Stops m) = ⊥
AgreeAfter v (Ends e l) (Went t) = ⊥
AgreeAfter v (Ends e l) (Ends f m) = (e ≡ f) × (v.log ≡ true → l ≡ m)
AgreeAfter v (Ends e l) (Stops m) = ⊥
AgreeAfter v (Stops l) (Went t) = ⊥
AgreeAfter v (Stops l) (Ends f m) = ⊥
AgreeAfter v (Stops l) (Stops m) = v.log ≡ true → l ≡ m

-- what a statement does from a state
abbrev pub today_does : Statement → TodayState → Run
today_does x = today_one x.at x.action

-- what the expression of a statement uses, beside what the statement itself declares, assigns or prints
abbrev pub expression_uses : Code → Context → Action → Uses
expression_uses p c (Declares t x e) = right_uses p c (form t) e
expression_uses p c (Assigns x e) = of_found (c.local x.name) (λ (l : Local). right_uses p c l.form e)
expression_uses p c (Prints e) = value_uses p c e
expression_uses p c _ = nothing

-- the locals that a statement reads, whether it writes them too or not
abbrev pub IsRead : Code → Statement → ℕ → Type 0
IsRead p x y = IsSome (expression_uses p x.context x.action (resource.Local y))

-- a judged statement depends on what it reads alone: from states that agree on a view with all locals that it reads,
-- its runs agree there
abbrev pub DependsOnReads : Type 0
DependsOnReads = (p : Code) (m : Definition) (x : Statement) → IsJudged p m x
    → (v : View) → ((y : ℕ) → IsRead p x y → v.local y ≡ true)
    → (s t : TodayState) → Agree v s t → AgreeAfter v (today_does x s) (today_does x t)

-- a judged statement reads only what it uses: from states that agree on a view with all locals that it uses,
-- its runs agree there
abbrev pub ReadsItsUses : Type 0
ReadsItsUses = (p : Code) (m : Definition) (x : Statement) → IsJudged p m x
    → (v : View) → ((y : ℕ) → IsSome (uses_at p m x (resource.Local y)) → v.local y ≡ true)
    → (s t : TodayState) → Agree v s t → AgreeAfter v (today_does x s) (today_does x t)

-- after a run, all that is not used by Write or GroupWhole is as before; the log is that of `io`
abbrev pub KeepsUnwritten : Uses → TodayState → Run → Type 0
KeepsUnwritten u s (Went t) = ((y : ℕ) → IsWeak (u (resource.Local y)) → t.env y ≡ s.env y)
    × (IsWeak (u (resource.Group io)) → t.log ≡ s.log)
KeepsUnwritten u s (Ends e log) = log ≡ s.log
KeepsUnwritten u s (Stops log) = log ≡ s.log

-- a judged statement changes only what it uses by Write or GroupWhole, and one that ends the run printed nothing
abbrev pub ChangesItsWrites : Type 0
ChangesItsWrites = (p : Code) (m : Definition) (x : Statement) → IsJudged p m x → (s : TodayState)
    → KeepsUnwritten (uses_at p m x) s (today_does x s)

-- a run that begins behind these bytes
abbrev pub behind_bytes : List ℕ → Run → Run
behind_bytes log (Went s) = Went (record { env = s.env; log = log ++ s.log })
behind_bytes log (Ends e more) = Ends e (log ++ more)
behind_bytes log (Stops more) = Stops (log ++ more)

-- a statement only adds to the log: it does the same whatever was printed before
abbrev pub AddsToTheLog : Type 0
AddsToTheLog = (at : Spot) (a : Action) (env : Env) (log : List ℕ) → today_one at a (record { env = env; log = log })
    ≡ behind_bytes log (today_one at a (record { env = env; log = [] }))

-- two uses do not conflict: of no resource are both in ways that do not go together
abbrev pub Apart : Uses → Uses → Type 0
Apart u v = (r : Resource) → IsConflict (u r) (v r) → ⊥

-- what two statements come to alone, and what they come to one after the other:
-- where both go through, both orders lead to one state; an ending of the one is its ending after the other
abbrev pub Commute : (TodayState → Run) → (TodayState → Run) → Run → Run → Type 0
Commute f g (Went s) (Went t) = (u : TodayState) × (g s ≡ Went u) × (f t ≡ Went u)
Commute f g (Went s) (Ends e log) = g s ≡ Ends e s.log
Commute f g (Went s) (Stops log) = g s ≡ Stops s.log
Commute f g (Ends e log) (Went t) = f t ≡ Ends e t.log
Commute f g (Stops log) (Went t) = f t ≡ Stops t.log
Commute f g _ _ = Unit {0}

-- judged statements that do not conflict commute
abbrev pub ApartCommute : Type 0
ApartCommute = (p : Code) (m : Definition) (x y : Statement) → IsJudged p m x → IsJudged p m y
    → Apart (uses_at p m x) (uses_at p m y)
    → (s : TodayState) → Commute (today_does x) (today_does y) (today_does x s) (today_does y s)
