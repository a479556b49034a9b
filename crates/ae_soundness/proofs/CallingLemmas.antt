-- Where bodies are left as they are judged to end, each judged statement that calls goes on to a state that stands.
use Rattle.std.proofs.Common.{◌≡◌, ◌≢◌, refl, sym, ap, ◌∙◌, subst, ℕ, nat_eq, nat_lt, Bool, true, false, not, List, []}
use Rattle.std.proofs.Common.{◌∷◌, if◌then◌else◌, Option, None, Some}
use Rattle.std.specs.Prelude.{option_map, ⊤}
use Rattle.ae_text.specs.declared.refusal.Spot.{Spot}
use Rattle.ae_text.specs.declared.refusal.Rule.TheVariants as rule
use Rattle.ae_tree.specs.declared.tree.NameAt.{NameAt}
use Rattle.ae_tree.specs.declared.tree.Ty.{Ty}
use Rattle.ae_tree.specs.declared.tree.GroupNeed.{GroupNeed}
use Rattle.ae_tree.specs.declared.form.Form.{Form}
use Rattle.ae_tree.specs.Form.{form}
use Rattle.ae_tree.specs.FreeThis.{ThisIsFree}
use Rattle.ae_tree.specs.WellShaped.{WellShaped}
use Rattle.ae_tree.specs.Plain.{Code, Invocation, Value, Taken, Zeros, Made, Returned}
use Rattle.ae_tree.specs.Plain.{Action, Declares, Assigns, Stores, StoresAt, Calls, Chooses, ChoosesElse, Repeats}
use Rattle.ae_tree.specs.Plain.{Groups, Splits, Locks, Freezes, Shares, Prints, PrintsText, Asserts, Returns}
use Rattle.ae_rules.specs.Verdict.{Holds, ◌>>=◌, require, found}
use Rattle.ae_rules.specs.Forms.{form_with}
use Rattle.ae_rules.specs.Lookups.{method_at}
use Rattle.ae_rules.specs.Types.{forms_type}
use Rattle.ae_rules.specs.Table.{TableHolds}
use Rattle.ae_rules.specs.Groups.{known}
use Rattle.ae_rules.specs.Context.{Local, Context, held_of, is_visible, with_local, with_held}
use Rattle.ae_rules.specs.Calls.{Callee, group_in, Called, judge_callee, judge_callee_with, judge_call}
use Rattle.ae_rules.specs.Statements.{result_into, judge_right, judge_let, judge_assign}
use Rattle.ae_rules.specs.Judges.{Judges, start}
use Rattle.ae_semantics.specs.Values.{Val}
use Rattle.ae_semantics.specs.Places.{Outcome, Fine, Traps, Lacks, there, CellName, Group, Here, Away, As, State}
use Rattle.ae_semantics.specs.Equations.{one-Declares, one-Assigns, one-Calls}
use Rattle.ae_semantics.specs.declared.report.Ending.TheVariants.{Trap}
use Rattle.ae_semantics.specs.Observations.{Seen, Notes}
use Rattle.ae_semantics.specs.Runs.{Went, Ends, Act, outcome_given, paid, chosen, Where, Machine, Below}
use Rattle.ae_semantics.specs.Calls.{groups_needed, group_given, CallFrame, frame, enter, group_back, leave}
use Rattle.ae_semantics.specs.Meaning.{body_run, call_run, calls_method, assigned, result_to, sets, one}
use Rattle.ae_soundness.specs.Fits.{IsOfForm, FitsContext, NoneAway, form_has_members}
use Rattle.ae_soundness.specs.Laws.{IsEnteredAs, CallsAreEntered}
use Rattle.ae_soundness.specs.Returns.{IsStateOf, IsResultOf, CallsAreLeft, MethodsGiveBack}
use Rattle.ae_soundness.specs.Whole.{StandsAt, RunsTo, BodyEnds, BodiesKeep, CallsKeepBy, CallsKeepStanding, is_calling}
use Rattle.ae_soundness.proofs.FieldLemmas.{same_value_fit}
use Rattle.ae_soundness.proofs.GroupLemmas.{type_has_members}
use Rattle.ae_soundness.proofs.LocalLemmas.{local_declared}
use Rattle.ae_soundness.proofs.OutcomeLemmas.{Comes}
use Rattle.ae_soundness.proofs.RightLemmas.{made_fits}
use Rattle.ae_soundness.proofs.MoveLemmas.{KeepsForms}
use Rattle.ae_soundness.proofs.SetLemmas.{same_context, gets, own_place, SetsFit, assigned_fits, assigns_so}
use Rattle.ae_soundness.proofs.AwayLemmas.{forms_after}
use Rattle.ae_soundness.proofs.CallLemmas.{method_judged}
use Rattle.ae_soundness.proofs.LeaveLemmas.{JudgedLeave, judged_leave, WasEntered, was_entered}
use Rattle.ae_soundness.proofs.LastingLemmas.{Gives, LastsAfter, leave_lasts, assigned_lasts}
use Rattle.ae_soundness.proofs.FollowLemmas.{runs_on, outcome_runs, runs_leaving, fitting_runs, none_away_lasts}
use Rattle.ae_soundness.proofs.from_rules.PathLemmas.{first_holds}
use Rattle.ae_soundness.proofs.from_rules.SeenLemmas.{found_is}

-- ---- no group is away

pub needed_not_away : (to : ℕ → ℕ) (s : State) (ns : List GroupNeed) (g : ℕ) (cell : CellName) → NoneAway s
    → groups_needed to s ns g ≢ Some (Away cell)
needed_not_away to s [] g cell z e = cc e
needed_not_away to s (n ∷ ns) g cell z e = by_tests (nat_eq n.group.name g) (nat_eq (to n.group.name) (to g))
    (groups_needed to s ns g) (λ i. needed_not_away to s ns g cell z i) e
  where
    as_name : (o : Option Group) → option_map (λ (x : Group). As n.group.name) o ≡ Some (Away cell) → ⊥
    as_name None i = cc i
    as_name (Some x) i = cc i

    by_tests : (b d : Bool) (o : Option Group) → o ≢ Some (Away cell)
        → (if b then s.groups (to g) else (if d then option_map (λ (x : Group). As n.group.name) o else o))
        ≡ Some (Away cell) → ⊥
    by_tests true d o k i = z (to g) cell i
    by_tests false true o k i = as_name o i
    by_tests false false o k i = k i

-- what comes back of a group that is not away is not
back_not_away : (t : State) → NoneAway t → LastsAfter NoneAway t
back_not_away t z g h s k = by_group (t.groups h) refl
  where
    put : (b : Bool) (o old : Option Group) (cell : CellName) → o ≢ Some (Away cell) → old ≢ Some (Away cell)
        → (if b then o else old) ≢ Some (Away cell)
    put true o old cell a b = a
    put false o old cell a b = b

    by_group : (o : Option Group) → t.groups h ≡ o → NoneAway (group_back g o s)
    by_group None e y cell = put _ None (s.groups y) cell (λ i. cc i) (k y cell)
    by_group (Some (Here st)) e y cell = put _ (Some (Here st)) (s.groups y) cell (λ i. cc i) (k y cell)
    by_group (Some (Away c)) e y cell = absurd (z h c e)
    by_group (Some (As x)) e y cell = k y cell

-- ---- a call

-- what comes stands where it comes with this, and none is away
both_come : (p : Code) (d : Context) (o : Outcome State) → IsStateOf p d o → Gives NoneAway o → Comes (StandsAt p d) o
both_come p d (Fine s) h k = (h, k)
both_come p d (Traps code) h k = tt
both_come p d Lacks h k = absurd h

-- a call that was entered so
abbrev EntersAs : Code → Where → Invocation → State → Callee → CallFrame → Type 0
EntersAs p here i s k f = IsEnteredAs p k (Fine f) × (enter p here i s ≡ Fine f)

enters : (p : Code) (here : Where) (i : Invocation) (s : State) (k : Callee) (o : Outcome CallFrame)
    → enter p here i s ≡ o → IsEnteredAs p k o → Comes (EntersAs p here i s k) o
enters p here i s k (Fine f) e h = (h, e)
enters p here i s k (Traps code) e h = tt
enters p here i s k Lacks e h = absurd h

-- the laws by which a call goes on
record CallLaws : Type 0 where
  entered : CallsAreEntered
  left : CallsAreLeft
  back : MethodsGiveBack

-- a judged call, from a state that stands
record CalledAt (p : Code) (c : Context) (s : State) (i : Invocation) (k : Callee) (d : Called) : Type 0 where
  shaped : WellShaped p
  free : ThisIsFree p
  table : TableHolds p
  callee : judge_callee p c i.on i.method ≡ Holds k
  judged : judge_callee_with p c i k ≡ Holds d
  stands : StandsAt p c s

-- the call is left with a state that stands
left_standing : CallLaws → (p : Code) (c : Context) (s t : State) (here : Where) (i : Invocation) (k : Callee)
    (d : Called) (f : CallFrame) → CalledAt p c s i k d → enter p here i s ≡ Fine f → BodyEnds p k.method t
    → Comes (StandsAt p d.after) (leave f i s t)
left_standing laws p c s t here i k d f j n e =
    let back = laws.back p j.shaped j.free j.table c s t here i k d f e.after j.stands.0 j.stands.1 j.callee j.judged n
    e.ends e.stands.0 e.stands.1 in
    (both_come) p d.after (leave f i s t)
    (laws.left p j.shaped j.table c s t here i k d f j.stands.0 j.callee j.judged n back.0 back.1)
    (leave_lasts NoneAway none_away_lasts f i s t (back_not_away t e.stands.1) j.stands.1)

-- what is done with the result of a call goes on
abbrev GoesOn : {W : Type 0} → Code → Callee → Called → (State → Type 0) → (Option Val → Act W) → Type 0
GoesOn p k d Q go = (r : Option Val) (u : State) (x : Notes _) → IsResultOf p k.method.result r → StandsAt p d.after u
    → RunsTo Q (go r u x)

body_runs : {W : Type 0} → CallLaws → (p : Code) (c : Context) (s : State) (here : Where) (at : Spot) (i : Invocation)
    (k : Callee) (d : Called) (n : Notes W) (Q : State → Type 0) (go : Option Val → Act W) (run : Below W)
    → CalledAt p c s i k d → BodiesKeep p (Some run) → GoesOn p k d Q go → (f : CallFrame) → EntersAs p here i s k f
    → RunsTo Q (body_run at i f s n go run)
body_runs {W} laws p c s here at i k d n Q go run j bodies next f h =
    subst (λ (y : CallFrame). RunsTo Q (body_run at i y s n go run)) r.is
    (runs_on (BodyEnds p k.method) Q (run.block y.here k.method.body y.state n)
    (λ t x. outcome_given (leave y i s t) at x (λ u. go t.result u x))
    (bodies own.0 k.method own.1 y.here refl refl y.state n
    (fits, λ g cell. needed_not_away (group_given s k i) s k.method.needs g cell j.stands.1))
    (λ t x e. outcome_runs (StandsAt p d.after) Q (leave y i s t) at x (λ u. go t.result u x)
    (left_standing laws p c s t here i k d y j (h.1 ∙ ap (λ (z : CallFrame). Fine z) (sym r.is)) e)
    (λ u stands. next t.result u x e.result stands)))
  where
    r : WasEntered p s here i k f
    r = was_entered p s here i k f h.1 h.0.0

    y : CallFrame
    y = frame p here s k (group_given s k i) r.arguments

    own : (x : ℕ) × (method_at p x ≡ Some k.method)
    own = method_judged p c i.on i.method k j.callee

    fits : FitsContext p (start p k.method) y.state
    fits = subst (λ (z : CallFrame). FitsContext p (start p k.method) z.state) (sym r.is) h.0.2

-- a judged call runs on
call_runs : {W : Type 0} → CallLaws → (m : Machine W) (below : Option (Below W)) (c : Context) (s : State)
    (here : Where) (at : Spot) (i : Invocation) (k : Callee) (d : Called) (n : Notes W) (Q : State → Type 0)
    (go : Option Val → Act W) → CalledAt m.code c s i k d → BodiesKeep m.code below → GoesOn m.code k d Q go
    → RunsTo Q (calls_method m below here at i s n go)
call_runs {W} laws m below c s here at i k d n Q go j bodies next =
    outcome_runs (EntersAs m.code here i s k) Q (enter m.code here i s) at n (call_run below here at i s n go)
    (enters m.code here i s k (enter m.code here i s) refl
    (laws.entered m.code j.shaped j.table c s here i k d j.stands.0 j.callee j.judged))
    (λ f h. by_depth (nat_lt here.depth 1000) below bodies f h)
  where
    by_depth : (test : Bool) (less : Option (Below W)) → BodiesKeep m.code less → (f : CallFrame)
        → EntersAs m.code here i s k f
        → RunsTo Q (chosen test (λ _. paid less at n (body_run at i f s n go)) (λ _. Ends (Trap 6 at) n))
    by_depth false less b f h = tt
    by_depth true None b f h = tt
    by_depth true (Some run) b f h = body_runs laws m.code c s here at i k d n Q go run j b next f h

-- ---- what is done with the result

-- the judged call behind a right side
pub record CallJudged (p : Code) (c : Context) (i : Invocation) (d : Called) : Type 0 where
  pub callee : Callee
  pub found : judge_callee p c i.on i.method ≡ Holds callee
  pub judged : judge_callee_with p c i callee ≡ Holds d

pub call_judged : (p : Code) (c : Context) (i : Invocation) (d : Called) → judge_call p c i ≡ Holds d
    → CallJudged p c i d
call_judged p c i d h =
    let a = first_holds (judge_callee p c i.on i.method) (judge_callee_with p c i) d h in
    record { callee = a.0; found = a.1; judged = a.2 }

-- a result that is judged to go into a form has a value of the form
result_fits : (p : Code) (new : ℕ → ℕ) (o : Option Ty) (t : Form) (at : Spot) (u : ⊤) (r : Option Val)
    → result_into (option_map (λ (y : Ty). form_with new (form y)) o) t at ≡ Holds u → IsResultOf p o r
    → (v : Val) × (r ≡ Some v) × IsOfForm p t v
result_fits p new None t at u r h k = absurd (cc h)
result_fits p new (Some y) t at u None h k = absurd k
result_fits p new (Some y) t at u (Some v) h k = (
  v,
  refl,
  made_fits p (form_with new (form y)) t at u v h (same_value_fit p new (form y) v ∙ k.0, k.1),
)

result_runs : {W : Type 0} (p : Code) (d e : Context) (at : Spot) (x : ℕ) (t : Form) (r : Option Val) (s : State)
    (n : Notes W) → (v : Val) × (r ≡ Some v) × IsOfForm p t v → SetsFit p d e x t → StandsAt p d s
    → RunsTo (StandsAt p e) (result_to at x t r s n)
result_runs p d e at x t r s n h k z =
    subst (λ (o : Option Val). RunsTo (StandsAt p e) (outcome_given (there o) at n (λ v. assigned at x t v s n)))
    (sym h.1)
    (runs_leaving (FitsContext p e) NoneAway (StandsAt p e) (assigned at x t h.0 s n)
    (fitting_runs p e (assigned at x t h.0 s n) (assigned_fits p e at x t h.0 s n (k h.0 s h.2 z.0)))
    (assigned_lasts NoneAway none_away_lasts at x t h.0 s n z.1) (λ u i j. (i, j)))

-- the judged right side that calls
pub record RightCalls (p : Code) (c : Context) (t : Form) (i : Invocation) (d : Context) : Type 0 where
  pub called : Called
  pub judged : CallJudged p c i called
  pub unit : ⊤
  pub into : result_into called.result t i.method.at ≡ Holds unit
  pub after : called.after ≡ d

pub right_calls : (p : Code) (c : Context) (t : Form) (i : Invocation) (d : Context)
    → judge_right p c t (Returned i) ≡ Holds d → RightCalls p c t i d
right_calls p c t i d h =
    let a = first_holds (judge_call p c i) _ d h in
    let b = first_holds (result_into a.0.result t i.method.at) (λ _. Holds a.0.after) d a.2 in
    record {
      called = a.0;
      judged = call_judged p c i a.0 a.1;
      unit = b.0;
      into = b.1;
      after = same_context a.0.after d b.2;
    }

-- what a statement that calls has for granted
record Standing {W : Type 0} (m : Machine W) (below : Option (Below W)) (c : Context) (s : State) : Type 0 where
  shaped : WellShaped m.code
  free : ThisIsFree m.code
  table : TableHolds m.code
  bodies : BodiesKeep m.code below
  stands : StandsAt m.code c s

-- forms stay in a judged call
call_keeps : (p : Code) (c : Context) (i : Invocation) (d : Called) → CallJudged p c i d → KeepsForms c d.after
call_keeps p c i d j =
    let r : JudgedLeave p c i j.callee d = judged_leave p c i j.callee d j.judged in
    subst (KeepsForms c) r.after (forms_after c _)

set_runs : {W : Type 0} → CallLaws → (m : Machine W) (below : Option (Below W)) (c e : Context) (s : State)
    (here : Where) (at : Spot) (x : ℕ) (t : Form) (i : Invocation) (d : Context) (n : Notes W)
    → Standing m below c s → RightCalls m.code c t i d → SetsFit m.code d e x t
    → RunsTo (StandsAt m.code e) (sets m below here at x t (Returned i) s n)
set_runs laws m below c e s here at x t i d n g r k =
    let j : CallJudged m.code c i r.called = r.judged in
    let l : JudgedLeave m.code c i j.callee r.called = judged_leave m.code c i j.callee r.called j.judged in
    (call_runs) laws m below c s here at i j.callee r.called n (StandsAt m.code e) (result_to at x t)
    (record {
      shaped = g.shaped;
      free = g.free;
      table = g.table;
      callee = j.found;
      judged = j.judged;
      stands = g.stands;
    })
    g.bodies
    (λ v u y is z. result_runs m.code d e at x t v u y
    (result_fits m.code (group_in j.callee i.groups) j.callee.method.result t i.method.at r.unit v
    (ap (λ (o : Option Form). result_into o t i.method.at) l.result ∙ r.into) is) k
    (subst (λ (b : Context). StandsAt m.code b u) r.after z))

-- ---- statements

call_stands : {W : Type 0} → CallLaws → (m : Machine W) (below : Option (Below W)) (c d : Context) (s : State)
    (here : Where) (at : Spot) (i : Invocation) (n : Notes W) → Standing m below c s
    → (judge_call m.code c i >>= λ called. Holds called.after) ≡ Holds d
    → RunsTo (StandsAt m.code d) (calls_method m below here at i s n (λ r t k. Went t k))
call_stands laws m below c d s here at i n g h =
    let a = first_holds (judge_call m.code c i) (λ called. Holds called.after) d h in
    let j : CallJudged m.code c i a.0 = call_judged m.code c i a.0 a.1 in
    (call_runs) laws m below c s here at i j.callee a.0 n (StandsAt m.code d) (λ r t k. Went t k)
    (record {
      shaped = g.shaped;
      free = g.free;
      table = g.table;
      callee = j.found;
      judged = j.judged;
      stands = g.stands;
    })
    g.bodies
    (λ r u x is z. subst (λ (b : Context). StandsAt m.code b u) (same_context a.0.after d a.2) z)

declared_stands : {W : Type 0} → CallLaws → (m : Machine W) (below : Option (Below W)) (c d : Context) (s : State)
    (here : Where) (at : Spot) (ty : Ty) (x : NameAt) (i : Invocation) (n : Notes W) → Standing m below c s
    → judge_let m.code c ty x (Returned i) ≡ Holds d
    → RunsTo (StandsAt m.code d) (sets m below here at x.name (form ty) (Returned i) s n)
declared_stands laws m below c d s here at ty x i n g h =
    let p : Code = m.code in
    let t : Form = form ty in
    let a = first_holds (forms_type p (known c.group) false ty) _ d h in
    let b = first_holds (require (not (is_visible c x.name)) rule.DuplicateLocal x.at) _ d a.2 in
    let r = first_holds (judge_right p c t (Returned i)) (λ y. Holds (with_local x.name t y)) d b.2 in
    let has : form_has_members t ≡ true = type_has_members p (known c.group) false ty a.0 a.1 in
    set_runs laws m below c d s here at x.name t i r.0 n g (right_calls p c t i r.0 r.1)
    (λ v u k z. subst (λ (y : Context). FitsContext p y (gets x.name t v u))
    (same_context (with_local x.name t r.0) d r.2)
    (local_declared p r.0 u x.name t (record { form = t; value = v }) z (own_place p t v has k) has))

assigned_stands : {W : Type 0} → CallLaws → (m : Machine W) (below : Option (Below W)) (c d : Context) (s : State)
    (here : Where) (at : Spot) (x : NameAt) (i : Invocation) (n : Notes W) → Standing m below c s
    → judge_assign m.code c x (Returned i) ≡ Holds d
    → RunsTo (StandsAt m.code d) (outcome_given (there (c.local x.name)) at n
    (λ (l : Local). sets m below here at x.name l.form (Returned i) s n))
assigned_stands laws m below c d s here at x i n g h =
    let p : Code = m.code in
    let a = first_holds (found (c.local x.name) rule.UnknownName x.at) _ d h in
    let l : Local = a.0 in
    let is : c.local x.name ≡ Some l = found_is (c.local x.name) rule.UnknownName x.at l a.1 in
    let b = first_holds (require (not l.stays) rule.ParameterMoved x.at) _ d a.2 in
    let r = first_holds (judge_right p c l.form (Returned i)) (λ y. Holds (with_held x.name (held_of l.form) y)) d b.2
    in
    let j : RightCalls p c l.form i r.0 = right_calls p c l.form i r.0 r.1 in
    let keeps : KeepsForms c r.0 = subst (KeepsForms c) j.after (call_keeps p c i j.called j.judged) in
    subst (λ (o : Option Local). RunsTo (StandsAt p d) (outcome_given (there o) at n
    (λ (l : Local). sets m below here at x.name l.form (Returned i) s n))) (sym is)
    (set_runs laws m below c d s here at x.name l.form i r.0 n g j
    (λ v u k z. subst (λ (y : Context). FitsContext p y (gets x.name l.form v u))
    (same_context (with_held x.name (held_of l.form) r.0) d r.2)
    (assigns_so p c r.0 x.name l is (g.stands.0.form x.name l is) keeps v u k z)))

calls_keep : {W : Type 0} → CallLaws → (m : Machine W) (below : Option (Below W)) (here : Where) (at : Spot)
    (a : Action) (d : Context) (s : State) (n : Notes W) → Standing m below here.context s → is_calling a ≡ true
    → Judges m.code here.method at a here.context d → RunsTo (StandsAt m.code d) (one m below here at a s n)
calls_keep laws m below here at (Declares ty x (Returned i)) d s n g o h =
    rw (one-Declares m below here at ty x (Returned i) s n)
    (declared_stands laws m below here.context d s here at ty x i n g h)
calls_keep laws m below here at (Assigns x (Returned i)) d s n g o h =
    rw (one-Assigns m below here at x (Returned i) s n)
    (assigned_stands laws m below here.context d s here at x i n g h)
calls_keep laws m below here at (Calls i) d s n g o h =
    rw (one-Calls m below here at i s n) (call_stands laws m below here.context d s here at i n g h)
calls_keep laws m below here at (Declares ty x (Value e)) d s n g o h = absurd (cc o)
calls_keep laws m below here at (Declares ty x (Taken path y)) d s n g o h = absurd (cc o)
calls_keep laws m below here at (Declares ty x (Zeros e y)) d s n g o h = absurd (cc o)
calls_keep laws m below here at (Declares ty x (Made y gs es z)) d s n g o h = absurd (cc o)
calls_keep laws m below here at (Assigns x (Value e)) d s n g o h = absurd (cc o)
calls_keep laws m below here at (Assigns x (Taken path y)) d s n g o h = absurd (cc o)
calls_keep laws m below here at (Assigns x (Zeros e y)) d s n g o h = absurd (cc o)
calls_keep laws m below here at (Assigns x (Made y gs es z)) d s n g o h = absurd (cc o)
calls_keep laws m below here at (Stores path e) d s n g o h = absurd (cc o)
calls_keep laws m below here at (StoresAt path i e) d s n g o h = absurd (cc o)
calls_keep laws m below here at (Chooses e j x) d s n g o h = absurd (cc o)
calls_keep laws m below here at (ChoosesElse e j x l y) d s n g o h = absurd (cc o)
calls_keep laws m below here at (Repeats e j x) d s n g o h = absurd (cc o)
calls_keep laws m below here at (Groups y) d s n g o h = absurd (cc o)
calls_keep laws m below here at (Splits gs j x) d s n g o h = absurd (cc o)
calls_keep laws m below here at (Locks y j x) d s n g o h = absurd (cc o)
calls_keep laws m below here at (Freezes x) d s n g o h = absurd (cc o)
calls_keep laws m below here at (Shares x y) d s n g o h = absurd (cc o)
calls_keep laws m below here at (Prints e) d s n g o h = absurd (cc o)
calls_keep laws m below here at (PrintsText x) d s n g o h = absurd (cc o)
calls_keep laws m below here at (Asserts e) d s n g o h = absurd (cc o)
calls_keep laws m below here at (Returns e) d s n g o h = absurd (cc o)

calls_keep_by : CallLaws → (W : Type 0) → CallsKeepBy W
calls_keep_by laws W m w free table below bodies here at a d s n o h z = calls_keep laws m below here at a d s n
    (record { shaped = w; free = free; table = table; bodies = bodies; stands = z }) o h

-- Where bodies are left as they are judged to end, each judged statement that calls goes on to a state that stands.
pub calls_keep_standing : CallsAreEntered → CallsAreLeft → MethodsGiveBack → CallsKeepStanding
calls_keep_standing entered left back =
    let laws : CallLaws = record { entered = entered; left = left; back = back } in
    (calls_keep_by laws ⊤, calls_keep_by laws (List Seen))
