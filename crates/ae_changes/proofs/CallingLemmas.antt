-- A judged statement that calls changes only what it writes, where bodies change only what their methods need.
use Rattle.std.proofs.Common.{◌≡◌, refl, sym, subst, ℕ, true, false, not, List, Option}
use Rattle.std.specs.Prelude.{⊤}
use Rattle.ae_text.specs.declared.refusal.Spot.{Spot}
use Rattle.ae_text.specs.declared.refusal.Rule.TheVariants as rule
use Rattle.ae_tree.specs.declared.tree.NameAt.{NameAt}
use Rattle.ae_tree.specs.declared.tree.Ty.{Ty}
use Rattle.ae_tree.specs.declared.form.Form.{Form}
use Rattle.ae_tree.specs.Form.{form}
use Rattle.ae_tree.specs.FreeThis.{ThisIsFree}
use Rattle.ae_tree.specs.WellShaped.{WellShaped}
use Rattle.ae_tree.specs.Plain.{Invocation}
use Rattle.ae_tree.specs.Plain.{Value, Taken, Zeros, Made, Returned}
use Rattle.ae_tree.specs.Plain.{Action, Declares, Assigns, Stores, StoresAt, Calls, Chooses, ChoosesElse, Repeats}
use Rattle.ae_tree.specs.Plain.{Groups, Splits, Locks, Freezes, Shares, Prints, PrintsText, Asserts, Returns}
use Rattle.ae_rules.specs.declared.uses.Resource.TheVariants as resource
use Rattle.ae_rules.specs.Edges.{Uses}
use Rattle.ae_rules.specs.Verdict.{Verdict, Holds, require, found}
use Rattle.ae_rules.specs.Types.{forms_type}
use Rattle.ae_rules.specs.Groups.{known}
use Rattle.ae_rules.specs.Table.{TableHolds}
use Rattle.ae_rules.specs.Context.{Local, Context, is_visible, with_local, with_held, held_of}
use Rattle.ae_rules.specs.Calls.{Callee, Called, judge_call}
use Rattle.ae_rules.specs.Statements.{judge_right, judge_let, judge_assign}
use Rattle.ae_rules.specs.Judges.{Judges}
use Rattle.ae_rules.specs.Laws.{EverySlotIsGiven}
use Rattle.ae_rules.specs.BlockLaws.{HoldsRight}
use Rattle.ae_rules.specs.Uses.{◌∪◌, of_judged, of_found, write_use, callee_uses, call_uses, right_uses, statement_uses}
use Rattle.ae_semantics.specs.Values.{Val}
use Rattle.ae_semantics.specs.Places.{there, State, bind}
use Rattle.ae_semantics.specs.Equations.{one-Declares, one-Assigns, one-Calls}
use Rattle.ae_semantics.specs.Observations.{Seen, Notes}
use Rattle.ae_semantics.specs.Runs.{Went, outcome_given, Where, Machine, Below}
use Rattle.ae_semantics.specs.Meaning.{calls_method, assigned, result_to, sets, one}
use Rattle.ae_soundness.specs.Returns.{MethodsGiveBack}
use Rattle.ae_soundness.specs.Whole.{StandsAt, BodiesKeep, is_calling}
use Rattle.ae_soundness.proofs.CallingLemmas.{CallJudged, call_judged, RightCalls, right_calls}
use Rattle.ae_soundness.proofs.LastingLemmas.{Gives, Lasts, LastsBack, calling_lasts}
use Rattle.ae_changes.specs.Changes.{ChangesAsUsed, RunChanges}
use Rattle.ae_changes.specs.Bodies.{BodiesChange, CallsChangeBy, CallsChangeAsUsed}
use Rattle.ae_changes.proofs.from_rules.PathLemmas.{first_holds}
use Rattle.ae_changes.proofs.from_rules.SeenLemmas.{found_is}
use Rattle.ae_changes.proofs.UsedLemmas.{IsWritten, Covers, written_left, local_itself, covers_right}
use Rattle.ae_changes.proofs.WriteLemmas.{bind_changes}
use Rattle.ae_changes.proofs.RunLemmas.{outcome_changes, with_result}
use Rattle.ae_changes.proofs.CallLemmas.{LawsOfCalls, ResultGoes, call_changes}

-- what a statement that calls has for granted
record Standing {W : Type 0} (m : Machine W) (below : Option (Below W)) (c : Context) (s : State) : Type 0 where
  shaped : WellShaped m.code
  free : ThisIsFree m.code
  table : TableHolds m.code
  keep : BodiesKeep m.code below
  bodies : BodiesChange m.code below
  right : HoldsRight c
  stands : StandsAt m.code c s

-- a judged call, and then what is done with its result
judged_changes : {W : Type 0} → LawsOfCalls → (m : Machine W) (below : Option (Below W)) (c : Context) (u : Uses)
    (s : State) (here : Where) (at : Spot) (i : Invocation) (d : Called) (n : Notes W) (go : _)
    → Standing m below c s → CallJudged m.code c i d → Covers (call_uses m.code c i) u → ResultGoes c u s n go
    → RunChanges c u ⊥ s n (calls_method m below here at i s n go)
judged_changes laws m below c u s here at i d n go z j k next =
    call_changes laws m below c u s here at i j.callee d n go (record {
      shaped = z.shaped;
      free = z.free;
      table = z.table;
      callee = j.found;
      judged = j.judged;
      right = z.right;
      stands = z.stands;
    }) (record {
      all = subst (λ (v : Verdict Callee). Covers (of_judged v (callee_uses m.code c i)) u) j.found k;
    }) z.keep z.bodies next

-- a result goes to a local that is written
result_goes : {W : Type 0} (c : Context) (u : Uses) (s : State) (n : Notes W) (at : Spot) (x : ℕ) (t : Form)
    → IsWritten u (resource.Local x) → ResultGoes c u s n (result_to at x t)
result_goes c u s n at x t w r v y h l = outcome_changes c u ⊥ s n y (there r) at (λ o. assigned at x t o v y) l
    (λ o i. outcome_changes c u ⊥ s n y (bind x t o v) at (λ z. Went z y) l
    (λ z q. (subst (Gives (ChangesAsUsed c u s)) q (bind_changes c u s x t o v w h), l, λ e. absurd e)))

set_changes : {W : Type 0} → LawsOfCalls → (m : Machine W) (below : Option (Below W)) (c d : Context)
    (s : State) (here : Where) (at : Spot) (x : ℕ) (t : Form) (i : Invocation) (n : Notes W) → Standing m below c s
    → judge_right m.code c t (Returned i) ≡ Holds d
    → RunChanges c (write_use x ∪ call_uses m.code c i) ⊥ s n (sets m below here at x t (Returned i) s n)
set_changes laws m below c d s here at x t i n z h =
    let r : RightCalls m.code c t i d = right_calls m.code c t i d h in
    let u : Uses = write_use x ∪ call_uses m.code c i in
    judged_changes laws m below c u s here at i r.called n (result_to at x t) z r.judged
    (covers_right (write_use x) (call_uses m.code c i))
    (result_goes c u s n at x t
    (written_left (write_use x) (call_uses m.code c i) (resource.Local x) (local_itself x)))

declare_changes : {W : Type 0} → LawsOfCalls → (m : Machine W) (below : Option (Below W)) (here : Where) (at : Spot)
    (ty : Ty) (x : NameAt) (i : Invocation) (d : Context) (s : State) (n : Notes W) → Standing m below here.context s
    → judge_let m.code here.context ty x (Returned i) ≡ Holds d
    → RunChanges here.context (write_use x.name ∪ call_uses m.code here.context i) ⊥ s n
    (sets m below here at x.name (form ty) (Returned i) s n)
declare_changes laws m below here at ty x i d s n z h =
    let c : Context = here.context in
    let a = first_holds (forms_type m.code (known c.group) false ty) _ d h in
    let b = first_holds (require (not (is_visible c x.name)) rule.DuplicateLocal x.at) _ d a.2 in
    let r = first_holds (judge_right m.code c (form ty) (Returned i)) (λ y. Holds (with_local x.name (form ty) y)) d b.2
    in set_changes laws m below c r.0 s here at x.name (form ty) i n z r.1

assign_changes : {W : Type 0} → LawsOfCalls → (m : Machine W) (below : Option (Below W)) (here : Where) (at : Spot)
    (x : NameAt) (i : Invocation) (d : Context) (s : State) (n : Notes W) → Standing m below here.context s
    → judge_assign m.code here.context x (Returned i) ≡ Holds d
    → RunChanges here.context (write_use x.name
    ∪ of_found (here.context.local x.name) (λ (l : Local). right_uses m.code here.context l.form (Returned i))) ⊥ s n
    (outcome_given (there (here.context.local x.name)) at n
    (λ (l : Local). sets m below here at x.name l.form (Returned i) s n))
assign_changes laws m below here at x i d s n z h =
    let c : Context = here.context in
    let a = first_holds (found (c.local x.name) rule.UnknownName x.at) _ d h in
    let l : Local = a.0 in
    let b = first_holds (require (not l.stays) rule.ParameterMoved x.at) _ d a.2 in
    let r = first_holds (judge_right m.code c l.form (Returned i)) (λ y. Holds (with_held x.name (held_of l.form) y)) d
    b.2 in
    subst (λ (q : Option Local). RunChanges c (write_use x.name
    ∪ of_found q (λ (l : Local). right_uses m.code c l.form (Returned i))) ⊥ s n
    (outcome_given (there q) at n (λ (l : Local). sets m below here at x.name l.form (Returned i) s n)))
    (sym (found_is (c.local x.name) rule.UnknownName x.at l a.1))
    (set_changes laws m below c r.0 s here at x.name l.form i n z r.1)

bare_changes : {W : Type 0} → LawsOfCalls → (m : Machine W) (below : Option (Below W)) (here : Where) (at : Spot)
    (i : Invocation) (d : Context) (s : State) (n : Notes W) → Standing m below here.context s
    → Judges m.code here.method at (Calls i) here.context d
    → RunChanges here.context (call_uses m.code here.context i) ⊥ s n
    (calls_method m below here at i s n (λ r t k. Went t k))
bare_changes laws m below here at i d s n z h =
    let c : Context = here.context in
    let a = first_holds (judge_call m.code c i) (λ called. Holds called.after) d h in
    judged_changes laws m below c (call_uses m.code c i) s here at i a.0 n (λ r t k. Went t k) z
    (call_judged m.code c i a.0 a.1) (λ r e. e) (λ r v x g l. (g, l, λ e. absurd e))

-- ---- statements

calling_changes : {W : Type 0} → LawsOfCalls → (m : Machine W) (below : Option (Below W)) (here : Where) (at : Spot)
    (a : Action) (d : Context) (s : State) (n : Notes W) → is_calling a ≡ true
    → Judges m.code here.method at a here.context d → Standing m below here.context s
    → RunChanges here.context (statement_uses m.code here.method a here.context) ⊥ s n (one m below here at a s n)
calling_changes laws m below here at (Declares ty x (Value e)) d s n o h z = absurd (cc o)
calling_changes laws m below here at (Declares ty x (Taken path y)) d s n o h z = absurd (cc o)
calling_changes laws m below here at (Declares ty x (Zeros e y)) d s n o h z = absurd (cc o)
calling_changes laws m below here at (Declares ty x (Made y gs es q)) d s n o h z = absurd (cc o)
calling_changes laws m below here at (Declares ty x (Returned i)) d s n o h z =
    rw (one-Declares m below here at ty x (Returned i) s n) (declare_changes laws m below here at ty x i d s n z h)
calling_changes laws m below here at (Assigns x (Value e)) d s n o h z = absurd (cc o)
calling_changes laws m below here at (Assigns x (Taken path y)) d s n o h z = absurd (cc o)
calling_changes laws m below here at (Assigns x (Zeros e y)) d s n o h z = absurd (cc o)
calling_changes laws m below here at (Assigns x (Made y gs es q)) d s n o h z = absurd (cc o)
calling_changes laws m below here at (Assigns x (Returned i)) d s n o h z =
    rw (one-Assigns m below here at x (Returned i) s n) (assign_changes laws m below here at x i d s n z h)
calling_changes laws m below here at (Stores path e) d s n o h z = absurd (cc o)
calling_changes laws m below here at (StoresAt path i e) d s n o h z = absurd (cc o)
calling_changes laws m below here at (Calls i) d s n o h z =
    rw (one-Calls m below here at i s n) (bare_changes laws m below here at i d s n z h)
calling_changes laws m below here at (Chooses e j b) d s n o h z = absurd (cc o)
calling_changes laws m below here at (ChoosesElse e j b k b') d s n o h z = absurd (cc o)
calling_changes laws m below here at (Repeats e j b) d s n o h z = absurd (cc o)
calling_changes laws m below here at (Groups g) d s n o h z = absurd (cc o)
calling_changes laws m below here at (Splits gs j b) d s n o h z = absurd (cc o)
calling_changes laws m below here at (Locks g j b) d s n o h z = absurd (cc o)
calling_changes laws m below here at (Freezes x) d s n o h z = absurd (cc o)
calling_changes laws m below here at (Shares x g) d s n o h z = absurd (cc o)
calling_changes laws m below here at (Prints e) d s n o h z = absurd (cc o)
calling_changes laws m below here at (PrintsText text) d s n o h z = absurd (cc o)
calling_changes laws m below here at (Asserts e) d s n o h z = absurd (cc o)
calling_changes laws m below here at (Returns e) d s n o h z = absurd (cc o)

-- the state has this result
abbrev HasSame : Option Val → State → Type 0
HasSame r t = t.result ≡ r

same_lasts : (r : Option Val) → Lasts (HasSame r)
same_lasts r = record { bound = λ x b s h. h; store = λ g st s h. h }

same_lasts_back : (r : Option Val) → LastsBack (HasSame r)
same_lasts_back r g o s n h = h

-- Each judged statement that calls changes only what it writes, and no result.
pub calls_change : (W : Type 0) → LawsOfCalls → CallsChangeBy W
calls_change W laws m w free table below keep bodies here at a d s n o h right z =
    with_result here.context (statement_uses m.code here.method a here.context) ⊥ (Unit {0}) s n
    (one m below here at a s n)
    (calling_changes laws m below here at a d s n o h (record {
      shaped = w;
      free = free;
      table = table;
      keep = keep;
      bodies = bodies;
      right = right;
      stands = z;
    }))
    (calling_lasts (HasSame s.result) (same_lasts s.result) (same_lasts_back s.result) m below here at a s n o refl)

-- With both kinds of machines it is so.
pub calls_change_as_used : EverySlotIsGiven → MethodsGiveBack → CallsChangeAsUsed
calls_change_as_used every back = (
  calls_change ⊤ (record { every = every; back = back }),
  calls_change (List Seen)
      (record { every = every; back = back }),
)
