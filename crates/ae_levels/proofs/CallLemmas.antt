-- Calls that begin: the three statements that call, and what a call comes to where it is entered.
use Rattle.std.proofs.Common.{◌≡◌, refl, ap, sym, ◌∙◌, subst, ℕ, suc, ◌+◌, nat_lt, Bool, true, false, if◌then◌else◌}
use Rattle.std.proofs.Common.{List, ◌∷◌, ◌++◌, length, Option, None, Some}
use Rattle.std.specs.Prelude.{option_map}
use Rattle.ae_text.specs.declared.refusal.Spot.{Spot}
use Rattle.ae_text.specs.declared.refusal.Rule.TheVariants as rule
use Rattle.ae_tree.specs.declared.tree.NameAt.{NameAt}
use Rattle.ae_tree.specs.declared.tree.Ty.{Ty}
use Rattle.ae_tree.specs.Form.{form}
use Rattle.ae_tree.specs.Plain.{Declares, Assigns, Calls, Returned, Invocation, Definition, Code}
use Rattle.ae_tree.specs.WellShaped.{EachStatement}
use Rattle.ae_rules.specs.Verdict.{Holds, found}
use Rattle.ae_rules.specs.Lookups.{method_at}
use Rattle.ae_rules.specs.Context.{Local, Context}
use Rattle.ae_rules.specs.Statements.{judge_lines}
use Rattle.ae_rules.specs.Table.{table_verdict}
use Rattle.ae_rules.specs.Judges.{judge_method, start}
use Rattle.ae_semantics.specs.Places.{Outcome, Fine, ◌>>=◌, there, State}
use Rattle.ae_semantics.specs.declared.report.Ending.TheVariants.{Trap, Fuel}
use Rattle.ae_semantics.specs.Observations.{Seen}
use Rattle.ae_semantics.specs.Runs.{Run, Ends, Where}
use Rattle.ae_semantics.specs.Calls.{CallFrame, enter}
use Rattle.ae_semantics.specs.Means.{in_order, source_machine}
use Rattle.ae_semantics.specs.Stacks.{ResultPlace, ToDo, TheStatement, TheCall}
use Rattle.ae_soundness.specs.Whole.{SplitsNothing}
use Rattle.ae_values.specs.declared.env.Bind.{Bind}
use Rattle.ae_names.specs.Known.{AreKnown}
use Rattle.ae_steps.specs.Steps.{Left, Comes, block_left, body_left, call_left, left_given, resumed, StacksAreDoneBy}
use Rattle.ae_reads.specs.declared.stop.Stop.{Stop}
use Rattle.ae_reads.specs.Answers.{FaultsAs}
use Rattle.ae_frames.specs.Entries.{EnteredCall, entered, frame_of, CallsEnterAlike}
use Rattle.ae_levels.specs.Callers.{LeadsBack, names_behind, waiting_behind}
use Rattle.ae_frames.specs.declared.left.Left as kept
use Rattle.ae_levels.specs.Levels.{NamesInOrder, Aim, Nowhere, ToNew, ToOld, Level, InBlock, InCall, names_aimed, IsPlace}
use Rattle.ae_levels.specs.Levels.{IsDeclared, OpenCall, StandFor}
use Rattle.ae_levels.specs.Going.{IsSound, Going, Begun, CallBegun, ComesTo}
use Rattle.ae_levels.specs.Halting.{halt_at, HaltsAs}
use Rattle.ae_levels.proofs.from_reads.WalkLemmas.{faults_go_on}
use Rattle.ae_levels.proofs.MoveLemmas.{SourceNotes, comes_to}
use Rattle.ae_levels.proofs.BlockLemmas.{stands_opened}
use Rattle.ae_levels.proofs.FaultLemmas.{faulted}
use Rattle.ae_levels.proofs.from_rules.PathLemmas.{first_holds, each_holds}
use Rattle.ae_levels.proofs.from_rules.SeenLemmas.{found_is}
use Rattle.ae_levels.proofs.from_rules.BelowLemmas.{found_has}

-- ---- statements that call

-- A call whose result goes nowhere begins.
pub call_begins : StacksAreDoneBy (List Seen) → (p : Code) (whole : Run (List Seen)) (names : NamesInOrder)
    (waiting : List Bind) (s : State) (out : List ℕ) (fuel depth : ℕ) (m : Definition) (at : Spot) (i : Invocation)
    (ls : List Level) → Begun p whole names waiting s out fuel depth m at (Calls i) ls
    → CallBegun p whole names waiting s out fuel depth at i Nowhere ls
call_begins law p whole names waiting s out fuel depth m at i ls g = record {
  here = g.here;
  depth_here = g.depth_here;
  place = None;
  is_place = refl;
  declared = record {
    method = m;
    at = at;
    action = Calls i;
    before = g.here.context;
    after = g.after;
    judged = g.judged;
    known = g.known_here;
    declares = refl;
  };
  stack = g.stack;
  notes = g.notes;
  stands = g.stands;
  comes = g.comes ∙ law p in_order (TheStatement fuel g.here at (Calls i)) g.stack s g.notes;
  printed = g.printed;
}

-- A call whose result goes to a new local begins.
pub let_call_begins : StacksAreDoneBy (List Seen) → (p : Code) (whole : Run (List Seen)) (names : NamesInOrder)
    (waiting : List Bind) (s : State) (out : List ℕ) (fuel depth : ℕ) (m : Definition) (at : Spot) (t : Ty) (x : NameAt)
    (i : Invocation) (ls : List Level) → Begun p whole names waiting s out fuel depth m at (Declares t x (Returned i)) ls
    → CallBegun p whole names waiting s out fuel depth at i (ToNew (form t) x.name) ls
let_call_begins law p whole names waiting s out fuel depth m at t x i ls g = record {
  here = g.here;
  depth_here = g.depth_here;
  place = Some (record { name = x.name; form = form t });
  is_place = refl;
  declared = record {
    method = m;
    at = at;
    action = Declares t x (Returned i);
    before = g.here.context;
    after = g.after;
    judged = g.judged;
    known = g.known_here;
    declares = refl;
  };
  stack = g.stack;
  notes = g.notes;
  stands = g.stands;
  comes = g.comes ∙ law p in_order (TheStatement fuel g.here at (Declares t x (Returned i))) g.stack s g.notes;
  printed = g.printed;
}

-- A call whose result goes to a local that is there begins.
pub assign_call_begins : StacksAreDoneBy (List Seen) → (p : Code) (whole : Run (List Seen)) (names : NamesInOrder)
    (waiting : List Bind) (s : State) (out : List ℕ) (fuel depth : ℕ) (m : Definition) (at : Spot) (x : NameAt)
    (i : Invocation) (ls : List Level) → Begun p whole names waiting s out fuel depth m at (Assigns x (Returned i)) ls
    → CallBegun p whole names waiting s out fuel depth at i (ToOld x.name) ls
assign_call_begins law p whole names waiting s out fuel depth m at x i ls g =
    let c : Context = g.here.context in
    let a = first_holds (found (c.local x.name) rule.UnknownName x.at) _ g.after g.judged in
    let l : Local = a.0 in
    let is : c.local x.name ≡ Some l = found_is (c.local x.name) rule.UnknownName x.at l a.1 in
    let place : Option ResultPlace = Some (record { name = x.name; form = l.form }) in
    record {
      here = g.here;
      depth_here = g.depth_here;
      place = place;
      is_place = (l.form, refl, g.known_here.local x.name ∙ ap (option_map (λ (y : Local). y.form)) is);
      declared = record {
        method = m;
        at = at;
        action = Assigns x (Returned i);
        before = c;
        after = g.after;
        judged = g.judged;
        known = g.known_here;
        declares = refl;
      };
      stack = g.stack;
      notes = g.notes;
      stands = g.stands;
      comes = g.comes ∙ law p in_order (TheStatement fuel g.here at (Assigns x (Returned i))) g.stack s g.notes
          ∙ ap (λ (o : Option Local). resumed (source_machine p) g.stack (left_given (there o) at g.notes
          (λ (y : Local). call_left (source_machine p) fuel g.here at i (Some (record { name = x.name; form = y.form })) s
          g.notes))) is;
      printed = g.printed;
    }

-- ---- calls that end the run

-- what is left of an entered call
abbrev entering : ℕ → Where → Spot → Invocation → Option ResultPlace → State → SourceNotes → CallFrame → Left (List Seen)
entering fuel here at i place s n f =
    if nat_lt here.depth 1000 then body_left fuel at i f place s n else Comes (Ends (Trap 6 at) n)

-- A fault where a call is entered is the end.
pub call_faults : CallsEnterAlike → (p : Code) (whole : Run (List Seen)) (names : NamesInOrder) (waiting : List Bind) (s : State)
    (out : List ℕ) (fuel depth : ℕ) (at : Spot) (i : Invocation) (to : Aim) (ls : List Level) (e : Stop)
    → CallBegun p whole names waiting s out fuel depth at i to ls → FaultsAs (entered p i s) e
    → HaltsAs whole out (halt_at at e)
call_faults law p whole names waiting s out fuel depth at i to ls e g f =
    faulted p whole g.stack (enter p g.here i s) at g.notes out (entering fuel g.here at i g.place s g.notes) e g.comes
    g.printed (subst (λ (o : Outcome CallFrame). FaultsAs o e) (sym (law p g.here i s))
    (faults_go_on (entered p i s) (λ (x : EnteredCall). Fine (frame_of p g.here x)) e f))

-- a call is entered where it stands
enters_here : CallsEnterAlike → (p : Code) (here : Where) (i : Invocation) (s : State) (x : EnteredCall)
    → entered p i s ≡ Fine x → enter p here i s ≡ Fine (frame_of p here x)
enters_here law p here i s x e = law p here i s
    ∙ ap (λ (o : Outcome EnteredCall). o >>= λ (y : EnteredCall). Fine (frame_of p here y)) e

-- what a call comes to that is entered
entered_comes : CallsEnterAlike → (p : Code) (whole : Run (List Seen)) (names : NamesInOrder) (waiting : List Bind) (s : State)
    (out : List ℕ) (fuel depth : ℕ) (at : Spot) (i : Invocation) (to : Aim) (ls : List Level) (x : EnteredCall) (test : Bool)
    (g : CallBegun p whole names waiting s out fuel depth at i to ls) → entered p i s ≡ Fine x
    → nat_lt depth 1000 ≡ test → whole ≡ resumed (source_machine p) g.stack
    (if test then body_left fuel at i (frame_of p g.here x) g.place s g.notes else Comes (Ends (Trap 6 at) g.notes))
entered_comes law p whole names waiting s out fuel depth at i to ls x test g e t = g.comes
    ∙ ap (λ (o : Outcome CallFrame). resumed (source_machine p) g.stack (left_given o at g.notes
    (entering fuel g.here at i g.place s g.notes))) (enters_here law p g.here i s x e)
    ∙ ap (λ (b : Bool). resumed (source_machine p) g.stack (if b
    then body_left fuel at i (frame_of p g.here x) g.place s g.notes else Comes (Ends (Trap 6 at) g.notes)))
    (ap (λ (d : ℕ). nat_lt d 1000) g.depth_here ∙ t)

-- A call at depth 1,000 is trap 6.
pub call_too_deep : CallsEnterAlike → (p : Code) (whole : Run (List Seen)) (names : NamesInOrder) (waiting : List Bind)
    (s : State) (out : List ℕ) (fuel depth : ℕ) (at : Spot) (i : Invocation) (to : Aim) (ls : List Level) (x : EnteredCall)
    → CallBegun p whole names waiting s out fuel depth at i to ls → entered p i s ≡ Fine x
    → nat_lt depth 1000 ≡ false → ComesTo whole (Some (Trap 6 at)) out
call_too_deep law p whole names waiting s out fuel depth at i to ls x g e t = comes_to whole (Trap 6 at) g.notes out
    (entered_comes law p whole names waiting s out fuel depth at i to ls x false g e t) g.printed

-- A call for which no fuel is left is the end.
pub call_wants_fuel : CallsEnterAlike → (p : Code) (whole : Run (List Seen)) (names : NamesInOrder) (waiting : List Bind)
    (s : State) (out : List ℕ) (depth : ℕ) (at : Spot) (i : Invocation) (to : Aim) (ls : List Level) (x : EnteredCall)
    → CallBegun p whole names waiting s out 0 depth at i to ls → entered p i s ≡ Fine x
    → nat_lt depth 1000 ≡ true → ComesTo whole (Some (Fuel at)) out
call_wants_fuel law p whole names waiting s out depth at i to ls x g e t = comes_to whole (Fuel at) g.notes out
    (entered_comes law p whole names waiting s out 0 depth at i to ls x true g e t) g.printed

-- ---- calls that are entered

-- the body of a method of an accepted program is judged
pub body_judged : (p : Code) (n : ℕ) (m : Definition) → IsSound p → method_at p n ≡ Some m
    → ((d : Context) × (judge_lines p m m.body (start p m) ≡ Holds d)) × EachStatement SplitsNothing m.body
body_judged p n m sound e =
    let t = first_holds (table_verdict p) _ tt sound.accepted in
    let h = each_holds (judge_method p) p.methods tt n m t.2 e in
    let r = first_holds (judge_lines p m m.body (start p m)) _ h.0 h.1 in
    ((r.0, r.1), found_has (λ (d : Definition). EachStatement SplitsNothing d.body) p.methods n m sound.unsplit e)

-- A call that is entered goes on with its body, and then comes back.
pub call_opens : CallsEnterAlike → (p : Code) (whole : Run (List Seen)) (names : NamesInOrder) (waiting : List Bind)
    (s : State) (out : List ℕ) (fuel depth : ℕ) (at : Spot) (i : Invocation) (to : Aim) (ls : List Level) (x : EnteredCall)
    (n : ℕ) (left : kept.Left) (inner : NamesInOrder) (behind : List Bind) → IsSound p → method_at p n ≡ Some x.callee.method
    → CallBegun p whole names waiting s out (suc fuel) depth at i to ls → entered p i s ≡ Fine x
    → nat_lt depth 1000 ≡ true → AreKnown (start p x.callee.method) inner → LeadsBack p left x i s inner behind
    → names_behind left behind ≡ names → waiting_behind left behind ≡ waiting
    → Going p whole inner behind x.state out
    (InBlock fuel (depth + 1) x.callee.method x.callee.method.body (length inner) ∷ InCall at i left to ∷ ls)
call_opens law p whole names waiting s out fuel depth at i to ls x n left inner behind sound is g e t known awaits same rest =
    let m : Definition = x.callee.method in
    let j = body_judged p n m sound is in
    let f : CallFrame = frame_of p g.here x in
    let call : ToDo = TheCall at i f s g.place in
    let o : OpenCall = record { here = g.here; entry = x; before = s; place = g.place } in
    record {
      stack = block_left fuel f.here m.body ++ (call ∷ g.stack);
      notes = g.notes;
      stands = stands_opened p inner behind fuel (depth + 1) m m.body f.here j.0.0 (InCall at i left to ∷ ls)
          (call ∷ g.stack) refl (ap (λ (d : ℕ). d + 1) g.depth_here) j.0.1 j.1 known (
            o,
            g.stack,
            refl,
            awaits,
            subst (λ (ys : NamesInOrder). IsPlace ys to g.place) (sym same) g.is_place,
            subst (λ (ys : NamesInOrder). IsDeclared p ys to) (sym same) g.declared,
            subst (λ (ys : NamesInOrder). StandFor p (ys ++ names_aimed to) (waiting_behind left behind) ls g.stack) (sym same)
                (subst (λ (w : List Bind). StandFor p (names ++ names_aimed to) w ls g.stack) (sym rest) g.stands),
          );
      comes = entered_comes law p whole names waiting s out (suc fuel) depth at i to ls x true g e t;
      printed = g.printed;
    }
