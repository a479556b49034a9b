-- Calls that come back.
use Rattle.std.proofs.Common.{◌≡◌, refl, ap, ◌∙◌, ℕ, List, ◌∷◌, ◌++◌, Option, None, Some}
use Rattle.ae_text.specs.declared.refusal.Spot.{Spot}
use Rattle.ae_tree.specs.Plain.{Invocation, Code}
use Rattle.ae_semantics.specs.Values.{Val}
use Rattle.ae_semantics.specs.Places.{Outcome, Fine, Traps, Lacks, ◌>>=◌, State}
use Rattle.ae_semantics.specs.declared.report.Ending.TheVariants.{Trap}
use Rattle.ae_semantics.specs.Observations.{Seen}
use Rattle.ae_semantics.specs.Runs.{Run, Went, outcome_given}
use Rattle.ae_semantics.specs.Calls.{CallFrame, leave}
use Rattle.ae_semantics.specs.Means.{in_order, source_machine, pieces_bytes}
use Rattle.ae_semantics.specs.Stacks.{ResultPlace, result_goes, ToDo, TheCall, done_all}
use Rattle.ae_values.specs.declared.env.Bind.{Bind}
use Rattle.ae_steps.specs.Steps.{done_by, resumed, StacksAreDoneBy}
use Rattle.ae_reads.specs.declared.stop.Stop.{Stop}
use Rattle.ae_reads.specs.declared.stop.Stop.TheVariants as stop
use Rattle.ae_reads.specs.Answers.{FaultsAs}
use Rattle.ae_frames.specs.Entries.{frame_of}
use Rattle.ae_levels.specs.Callers.{names_behind, waiting_behind}
use Rattle.ae_frames.specs.declared.left.Left as kept
use Rattle.ae_levels.specs.Receiving.{received, back_received}
use Rattle.ae_levels.specs.Levels.{NamesInOrder, Aim, Level, InCall, names_aimed, OpenCall}
use Rattle.ae_levels.specs.Going.{Going}
use Rattle.ae_levels.specs.Halting.{halt_at, HaltsAs}
use Rattle.ae_levels.proofs.MoveLemmas.{SourceNotes, comes_to, comes_to_none}

-- the run that goes on with this outcome
abbrev pub going : Spot → SourceNotes → Outcome State → Run (List Seen)
going at n o = outcome_given o at n (λ (u : State). Went u n)

bound_result : (at : Spot) (o : Outcome State) (n : SourceNotes)
    → outcome_given o at n (λ (t : State). Went t n) ≡ going at n o
bound_result at o n = refl

result_received : (at : Spot) (place : Option ResultPlace) (r : Option Val) (s : State) (n : SourceNotes)
    → result_goes at place r s n ≡ going at n (received place r s)
result_received at None r s n = refl
result_received at (Some place) None s n = refl
result_received at (Some place) (Some v) s n = refl

left_received : (at : Spot) (place : Option ResultPlace) (r : Option Val) (n : SourceNotes) (o : Outcome State)
    → outcome_given o at n (λ (t : State). result_goes at place r t n) ≡ going at n (o >>= received place r)
left_received at place r n (Fine t) = result_received at place r t n
left_received at place r n (Traps code) = refl
left_received at place r n Lacks = refl

back_comes : StacksAreDoneBy (List Seen) → (p : Code) (whole : Run (List Seen)) (names : NamesInOrder) (waiting : List Bind)
    (s : State) (out : List ℕ) (at : Spot) (i : Invocation) (left : kept.Left) (to : Aim) (ls : List Level)
    (g : Going p whole names waiting s out (InCall at i left to ∷ ls))
    → whole ≡ resumed (source_machine p) g.stands.1 (done_by (going at g.notes (back_received p i g.stands.0 s)))
back_comes law p whole names waiting s out at i left to ls g =
    let o : OpenCall = g.stands.0 in
    let ys : List ToDo = g.stands.1 in
    let f : CallFrame = frame_of p o.here o.entry in
    g.comes ∙ ap (λ (xs : List ToDo). done_all (source_machine p) xs s g.notes) g.stands.2
    ∙ law p in_order (TheCall at i f o.before o.place) ys s g.notes
    ∙ ap (λ (r : Run (List Seen)). resumed (source_machine p) ys (done_by r))
    (left_received at o.place s.result g.notes (leave f i o.before s))

-- A call that comes back leaves its caller as it was, with its result where it is wanted.
pub call_over : StacksAreDoneBy (List Seen) → (p : Code) (whole : Run (List Seen)) (names : NamesInOrder) (waiting : List Bind)
    (s u : State) (out : List ℕ) (at : Spot) (i : Invocation) (left : kept.Left) (to : Aim) (ls : List Level)
    (g : Going p whole names waiting s out (InCall at i left to ∷ ls)) → back_received p i g.stands.0 s ≡ Fine u
    → Going p whole (names_behind left waiting ++ names_aimed to) (waiting_behind left waiting) u out ls
call_over law p whole names waiting s u out at i left to ls g e = record {
  stack = g.stands.1;
  notes = g.notes;
  stands = g.stands.6;
  comes = back_comes law p whole names waiting s out at i left to ls g
      ∙ ap (λ (o : Outcome State). resumed (source_machine p) g.stands.1 (done_by (going at g.notes o))) e;
  printed = g.printed;
}

-- what comes to a fault at once is the end
pub fault_now : (p : Code) (whole : Run (List Seen)) (xs : List ToDo) (o : Outcome State) (at : Spot) (n : SourceNotes)
    (out : List ℕ) (e : Stop) → whole ≡ resumed (source_machine p) xs (done_by (going at n o))
    → pieces_bytes n.log ≡ out → FaultsAs o e → HaltsAs whole out (halt_at at e)
fault_now p whole xs o at n out (stop.Trap code) w h f = comes_to whole (Trap code at) n out
    (w ∙ ap (λ (y : Outcome State). resumed (source_machine p) xs (done_by (going at n y))) f) h
fault_now p whole xs o at n out stop.Lack w h f = comes_to_none whole n out
    (w ∙ ap (λ (y : Outcome State). resumed (source_machine p) xs (done_by (going at n y))) f) h
fault_now p whole xs o at n out stop.Memory w h f = tt

-- A fault where a call comes back is the end.
pub back_faults : StacksAreDoneBy (List Seen) → (p : Code) (whole : Run (List Seen)) (names : NamesInOrder)
    (waiting : List Bind) (s : State) (out : List ℕ) (at : Spot) (i : Invocation) (left : kept.Left) (to : Aim)
    (ls : List Level) (e : Stop) (g : Going p whole names waiting s out (InCall at i left to ∷ ls))
    → FaultsAs (back_received p i g.stands.0 s) e → HaltsAs whole out (halt_at at e)
back_faults law p whole names waiting s out at i left to ls e g f =
    (fault_now) p whole g.stands.1 (back_received p i g.stands.0 s) at g.notes out e
    (back_comes law p whole names waiting s out at i left to ls g) g.printed f
