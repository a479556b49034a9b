-- Where bodies go alike a judged statement that calls goes alike from states that agree on what it uses.
use Rattle.std.proofs.Common.{◌≡◌, refl, sym, subst, ℕ, nat_lt, Bool, true, false, List, Option, None, Some}
use Rattle.std.specs.Prelude.{⊤}
use Rattle.ae_text.specs.declared.refusal.Spot.{Spot}
use Rattle.ae_tree.specs.declared.form.Form.{Form}
use Rattle.ae_tree.specs.Form.{form}
use Rattle.ae_tree.specs.WellShaped.{WellShaped}
use Rattle.ae_tree.specs.Plain.{Code, Invocation, Value, Taken, Zeros, Made, Returned}
use Rattle.ae_tree.specs.Plain.{Action, Declares, Assigns, Stores, StoresAt, Calls, Chooses, ChoosesElse, Repeats}
use Rattle.ae_tree.specs.Plain.{Groups, Splits, Locks, Freezes, Shares, Prints, PrintsText, Asserts, Returns}
use Rattle.ae_rules.specs.declared.uses.Resource.{Resource}
use Rattle.ae_rules.specs.Verdict.{Holds}
use Rattle.ae_rules.specs.Lookups.{method_at}
use Rattle.ae_rules.specs.Table.{TableHolds}
use Rattle.ae_rules.specs.Context.{Context}
use Rattle.ae_rules.specs.Calls.{Callee, Called, judge_callee, judge_call}
use Rattle.ae_rules.specs.Judges.{Judges}
use Rattle.ae_rules.specs.Uses.{callee_uses, call_uses, statement_uses}
use Rattle.ae_semantics.specs.Values.{Val}
use Rattle.ae_semantics.specs.Places.{there, State}
use Rattle.ae_semantics.specs.Equations.{one-Declares, one-Assigns, one-Calls}
use Rattle.ae_semantics.specs.declared.report.Ending.TheVariants.{Trap}
use Rattle.ae_semantics.specs.Observations.{Seen, Notes}
use Rattle.ae_semantics.specs.Runs.{Went, Ends, Act, outcome_given, paid, chosen, Where, Machine, Below}
use Rattle.ae_semantics.specs.Calls.{group_given, CallFrame, frame, enter, leave}
use Rattle.ae_semantics.specs.Meaning.{body_run, call_run, calls_method, assigned, result_to}
use Rattle.ae_rules.specs.Judges.{start}
use Rattle.ae_soundness.specs.Fits.{FitsContext}
use Rattle.ae_soundness.specs.Whole.{StandsAt, is_calling}
use Rattle.ae_needs.specs.Agree.{Agree, GoAlike}
use Rattle.ae_needs.specs.Laws.{ReadsItsUses, BodiesGoAlike, CallsReadBy, CallsReadWhatTheyUse}
use Rattle.ae_needs.proofs.AgreeLemmas.{AllIn, in_held}
use Rattle.ae_needs.proofs.AlikeLemmas.{prints_nothing, from_outcome, outcome_alike, runs_then}
use Rattle.ae_needs.proofs.RightLemmas.{assigned_alike}
use Rattle.ae_needs.proofs.NewLemmas.{UseLaws, plain_in}
use Rattle.ae_needs.proofs.SetLemmas.{SetsAlike, declared_alike, assigned_so}
use Rattle.ae_needs.proofs.ActLemmas.{plainly}
use Rattle.ae_needs.proofs.EnterLemmas.{CalledBoth, CallLaws, FramesAlike, enter_alike, one_beginning}
use Rattle.ae_needs.proofs.LeaveLemmas.{leave_alike}
use Rattle.ae_needs.proofs.from_rules.PathLemmas.{first_holds}
use Rattle.ae_needs.proofs.from_soundness.CallLemmas.{method_judged}
use Rattle.ae_needs.proofs.from_soundness.CallingLemmas.{needed_not_away, CallJudged, call_judged, RightCalls}
use Rattle.ae_needs.proofs.from_soundness.CallingLemmas.{right_calls}

-- ---- a call

-- what is done with a result goes alike from states that agree
abbrev NextAlike : {W : Type 0} → (Resource → Bool) → (State → State → Type 0) → (Option Val → Act W) → Type 0
NextAlike on Q go = (r : Option Val) (u v : State) (x y : Notes _) → Agree on u v
    → GoAlike Q x y (go r u x) (go r v y)

body_alike : {W : Type 0} (on : Resource → Bool) (p : Code) (c : Context) (s t : State) (here : Where) (at : Spot)
    (i : Invocation) (k : Callee) (d : Called) (n l : Notes W) (Q : State → State → Type 0) (go : Option Val → Act W)
    (run : Below W) → CalledBoth on p c s t i k d → StandsAt p c s → BodiesGoAlike p (Some run) → NextAlike on Q go
    → (f g : CallFrame) → FramesAlike on p here s t i k f g
    → GoAlike Q n l (body_run at i f s n go run) (body_run at i g t l go run)
body_alike on p c s t here at i k d n l Q go run h z bodies next f g e =
    subst (λ (y : CallFrame). GoAlike Q n l (body_run at i y s n go run) (body_run at i g t l go run)) (sym e.first)
    (subst (λ (y : CallFrame). GoAlike Q n l (body_run at i x s n go run) (body_run at i y t l go run)) (sym e.second)
    (runs_then (λ u v. u ≡ v) Q n l (run.block x.here k.method.body x.state n)
    (run.block x.here k.method.body other.state l)
    (λ u m. outcome_given (leave x i s u) at m (λ w. go u.result w m))
    (λ u m. outcome_given (leave other i t u) at m (λ w. go u.result w m))
    (subst (λ (y : State). GoAlike (λ u v. u ≡ v) n l (run.block x.here k.method.body x.state n)
    (run.block x.here k.method.body y l))
    (one_beginning on p here s t i k e.arguments h.known.agree e.needs)
    (bodies own.0 k.method own.1 x.here refl refl x.state n l (
      subst (λ (y : CallFrame). FitsContext p (start p k.method) y.state) e.first e.fits,
      λ y cell. needed_not_away (group_given s k i) s k.method.needs y cell z.1,
    )))
    (λ u v a b same. subst (λ (v : State). GoAlike Q a b
    (outcome_given (leave x i s u) at a (λ w. go u.result w a))
    (outcome_given (leave other i t v) at b (λ w. go v.result w b))) same
    (outcome_alike (Agree on) Q (leave x i s u) (leave other i t u) at a b (λ w. go u.result w a)
    (λ w. go u.result w b) (leave_alike on p here s t u i k e.arguments h.known.agree e.needs e.stand)
    (λ w y m. next u.result w y a b m)))))
  where
    x : CallFrame
    x = frame p here s k (group_given s k i) e.arguments

    other : CallFrame
    other = frame p here t k (group_given t k i) e.arguments

    own : (y : ℕ) × (method_at p y ≡ Some k.method)
    own = method_judged p c i.on i.method k h.callee

-- A judged call, and what is done with its result, go alike.
call_alike : {W : Type 0} → CallLaws → (on : Resource → Bool) (m : Machine W) (below : Option (Below W)) (c : Context)
    (s t : State) (here : Where) (at : Spot) (i : Invocation) (k : Callee) (d : Called) (n l : Notes W)
    (Q : State → State → Type 0) (go : Option Val → Act W) → CalledBoth on m.code c s t i k d → StandsAt m.code c s
    → BodiesGoAlike m.code below → NextAlike on Q go
    → GoAlike Q n l (calls_method m below here at i s n go) (calls_method m below here at i t l go)
call_alike {W} laws on m below c s t here at i k d n l Q go h z bodies next =
    outcome_alike (FramesAlike on m.code here s t i k) Q (enter m.code here i s) (enter m.code here i t) at n l
    (call_run below here at i s n go) (call_run below here at i t l go)
    (enter_alike laws on m.code c s t here i k d h) (λ f g e. by_depth (nat_lt here.depth 1000) below bodies f g e)
  where
    by_depth : (test : Bool) (less : Option (Below W)) → BodiesGoAlike m.code less → (f g : CallFrame)
        → FramesAlike on m.code here s t i k f g
        → GoAlike Q n l (chosen test (λ _. paid less at n (body_run at i f s n go)) (λ _. Ends (Trap 6 at) n))
        (chosen test (λ _. paid less at l (body_run at i g t l go)) (λ _. Ends (Trap 6 at) l))
    by_depth false less b f g e = (refl, prints_nothing n.log l.log)
    by_depth true None b f g e = (refl, prints_nothing n.log l.log)
    by_depth true (Some run) b f g e = body_alike on m.code c s t here at i k d n l Q go run h z b next f g e

-- ---- statements

-- what a statement that calls has for granted
record Calling {W : Type 0} (on : Resource → Bool) (m : Machine W) (below : Option (Below W)) (c : Context)
    (s t : State) : Type 0 where
  calls : CallLaws
  shaped : WellShaped m.code
  table : TableHolds m.code
  bodies : BodiesGoAlike m.code below
  first : StandsAt m.code c s
  agree : Agree on s t

-- a judged call, and what is done with its result, go alike
judged_alike : {W : Type 0} (on : Resource → Bool) (m : Machine W) (below : Option (Below W)) (c : Context)
    (s t : State) (here : Where) (at : Spot) (i : Invocation) (d : Called) (n l : Notes W)
    (Q : State → State → Type 0) (go : Option Val → Act W) → Calling on m below c s t → CallJudged m.code c i d
    → AllIn on (call_uses m.code c i) → NextAlike on Q go
    → GoAlike Q n l (calls_method m below here at i s n go) (calls_method m below here at i t l go)
judged_alike on m below c s t here at i d n l Q go g j u next =
    (call_alike) g.calls on m below c s t here at i j.callee d n l Q go
    (record {
      shaped = g.shaped;
      table = g.table;
      callee = j.found;
      judged = j.judged;
      known = record { fits = g.first.0; agree = g.agree };
      uses = in_held on (judge_callee m.code c i.on i.method) (callee_uses m.code c i) j.callee j.found u;
    })
    g.first g.bodies next

-- the result of a call goes to a local alike
set_call : {W : Type 0} (on : Resource → Bool) (m : Machine W) (below : Option (Below W)) (here : Where) (at : Spot)
    (x : ℕ) (w : Form) (i : Invocation) (s t : State) (n l : Notes W) → Calling on m below here.context s t
    → SetsAlike on m below here at x w (Returned i) s t n l
set_call on m below here at x w i s t n l g d h u more j =
    let r : RightCalls m.code here.context w i d = right_calls m.code here.context w i d h in
    judged_alike on m below here.context s t here at i r.called n l (Agree more) (result_to at x w) g r.judged u
    (λ o y z a b k. from_outcome (Agree more) (there o) at a b (λ v. assigned at x w v y a)
    (λ v. assigned at x w v z b) (λ v e. assigned_alike on more at x w v y z a b j k))

calls_read : {W : Type 0} → UseLaws → CallLaws → (m : Machine W) (below : Option (Below W)) → WellShaped m.code
    → TableHolds m.code → BodiesGoAlike m.code below → (here : Where) (at : Spot) (a : Action) (d : Context)
    → is_calling a ≡ true → Judges m.code here.method at a here.context d → ReadsItsUses StandsAt m below here at a
calls_read laws calls m below w table bodies here at (Declares ty x (Returned i)) d o h on s t n l y z u a =
    rw (one-Declares m below here at ty x (Returned i) s n, one-Declares m below here at ty x (Returned i) t l)
    (declared_alike laws on m below here d at ty x (Returned i) s t n l h u
    (set_call on m below here at x.name (form ty) i s t n l
    (record { calls = calls; shaped = w; table = table; bodies = bodies; first = y; agree = a })))
calls_read laws calls m below w table bodies here at (Assigns x (Returned i)) d o h on s t n l y z u a =
    let p : Code = m.code in
    let c : Context = here.context in
    let all : AllIn on (statement_uses p here.method (Assigns x (Returned i)) c) = plain_in laws on p here.method at
    (Assigns x (Returned i)) c d (record { locals = λ b x. refl; groups = refl }) h u in
    rw (one-Assigns m below here at x (Returned i) s n, one-Assigns m below here at x (Returned i) t l)
    (plainly on (statement_uses p here.method (Assigns x (Returned i)) c) n l _ _ all
    (assigned_so on m below here d at x (Returned i) s t n l h all
    (λ v. set_call on m below here at x.name v i s t n l
    (record { calls = calls; shaped = w; table = table; bodies = bodies; first = y; agree = a }))))
calls_read laws calls m below w table bodies here at (Calls i) d o h on s t n l y z u a =
    let p : Code = m.code in
    let c : Context = here.context in
    let all : AllIn on (call_uses p c i) = plain_in laws on p here.method at (Calls i) c d
    (record { locals = λ b x. refl; groups = refl }) h u in
    let b = first_holds (judge_call p c i) (λ called. Holds called.after) d h in
    rw (one-Calls m below here at i s n, one-Calls m below here at i t l)
    (plainly on (call_uses p c i) n l _ _ all
    (judged_alike on m below c s t here at i b.0 n l (Agree on) (λ r u k. Went u k)
    (record { calls = calls; shaped = w; table = table; bodies = bodies; first = y; agree = a })
    (call_judged p c i b.0 b.1) all (λ r u v x y k. (k, prints_nothing x.log y.log))))
calls_read laws calls m below w table bodies here at (Declares ty x (Value e)) d o h on s t n l q r u a = absurd (cc o)
calls_read laws calls m below w table bodies here at (Declares ty x (Taken path y)) d o h on s t n l q r u a =
    absurd (cc o)
calls_read laws calls m below w table bodies here at (Declares ty x (Zeros e y)) d o h on s t n l q r u a = absurd
    (cc o)
calls_read laws calls m below w table bodies here at (Declares ty x (Made y gs es z)) d o h on s t n l q r u a =
    absurd (cc o)
calls_read laws calls m below w table bodies here at (Assigns x (Value e)) d o h on s t n l q r u a = absurd (cc o)
calls_read laws calls m below w table bodies here at (Assigns x (Taken path y)) d o h on s t n l q r u a = absurd (cc o)
calls_read laws calls m below w table bodies here at (Assigns x (Zeros e y)) d o h on s t n l q r u a = absurd (cc o)
calls_read laws calls m below w table bodies here at (Assigns x (Made y gs es z)) d o h on s t n l q r u a = absurd
    (cc o)
calls_read laws calls m below w table bodies here at (Stores path e) d o h on s t n l q r u a = absurd (cc o)
calls_read laws calls m below w table bodies here at (StoresAt path i e) d o h on s t n l q r u a = absurd (cc o)
calls_read laws calls m below w table bodies here at (Chooses e j x) d o h on s t n l q r u a = absurd (cc o)
calls_read laws calls m below w table bodies here at (ChoosesElse e j x b y) d o h on s t n l q r u a = absurd (cc o)
calls_read laws calls m below w table bodies here at (Repeats e j x) d o h on s t n l q r u a = absurd (cc o)
calls_read laws calls m below w table bodies here at (Groups y) d o h on s t n l q r u a = absurd (cc o)
calls_read laws calls m below w table bodies here at (Splits gs j x) d o h on s t n l q r u a = absurd (cc o)
calls_read laws calls m below w table bodies here at (Locks y j x) d o h on s t n l q r u a = absurd (cc o)
calls_read laws calls m below w table bodies here at (Freezes x) d o h on s t n l q r u a = absurd (cc o)
calls_read laws calls m below w table bodies here at (Shares x y) d o h on s t n l q r u a = absurd (cc o)
calls_read laws calls m below w table bodies here at (Prints e) d o h on s t n l q r u a = absurd (cc o)
calls_read laws calls m below w table bodies here at (PrintsText x) d o h on s t n l q r u a = absurd (cc o)
calls_read laws calls m below w table bodies here at (Asserts e) d o h on s t n l q r u a = absurd (cc o)
calls_read laws calls m below w table bodies here at (Returns e) d o h on s t n l q r u a = absurd (cc o)

-- Where bodies go alike each judged statement that calls does.
pub calls_read_by : UseLaws → CallLaws → (W : Type 0) → CallsReadBy W
calls_read_by laws calls W m w table below bodies here at a d o h = calls_read laws calls m below w table bodies here at
    a d o h

-- So it is with both kinds of machine.
pub calls_read_what_they_use : UseLaws → CallLaws → CallsReadWhatTheyUse
calls_read_what_they_use laws calls = (calls_read_by laws calls ⊤, calls_read_by laws calls (List Seen))
