-- Loops that are opened, and loops that go on.
use Rattle.std.proofs.Common.{◌≡◌, refl, ap, ◌∙◌, subst, ℕ, suc, Bool, true, false, if◌then◌else◌}
use Rattle.std.proofs.Common.{List, [], ◌∷◌, ◌++◌, length, Some}
use Rattle.std.proofs.lemmas.List.{append-nil}
use Rattle.ae_text.specs.declared.refusal.Spot.{Spot}
use Rattle.ae_tree.specs.declared.form.Form.TheVariants as f
use Rattle.ae_tree.specs.Plain.{Expression, Repeats, Lines, Definition, Code}
use Rattle.ae_rules.specs.Verdict.{Holds, ◌>>=◌}
use Rattle.ae_rules.specs.Context.{Context}
use Rattle.ae_rules.specs.Expressions.{is_value}
use Rattle.ae_rules.specs.Statements.{judge_statement, judge_lines, end_block}
use Rattle.ae_semantics.specs.Places.{Outcome, Fine, State}
use Rattle.ae_semantics.specs.Expressions.{truth_of}
use Rattle.ae_semantics.specs.declared.report.Ending.TheVariants.{Fuel}
use Rattle.ae_semantics.specs.Observations.{Seen, Turned}
use Rattle.ae_semantics.specs.Runs.{Run, Ends, Where, deeper, marked}
use Rattle.ae_semantics.specs.Means.{in_order, source_machine}
use Rattle.ae_semantics.specs.Stacks.{ToDo, TheStatement, TheTurns, done_all}
use Rattle.ae_values.specs.declared.env.Bind.{Bind}
use Rattle.ae_steps.specs.Steps.{Left, GoesOn, block_left, turn_left, left_given, StacksAreDoneBy}
use Rattle.ae_reads.specs.declared.stop.Stop.{Stop}
use Rattle.ae_reads.specs.Answers.{FaultsAs}
use Rattle.ae_levels.specs.Levels.{NamesInOrder, Level, InBlock, InLoop, OpenLoop, LoopFits, StandFor}
use Rattle.ae_levels.specs.Going.{Going, Begun, ComesTo}
use Rattle.ae_levels.specs.Halting.{halt_at, HaltsAs}
use Rattle.ae_levels.proofs.MoveLemmas.{SourceNotes, one_step, last_step, comes_to}
use Rattle.ae_levels.proofs.BlockLemmas.{stands_opened}
use Rattle.ae_levels.proofs.FaultLemmas.{faulted}
use Rattle.ae_levels.proofs.from_rules.PathLemmas.{first_holds}

-- a judged loop has judged lines
loop_lines : (p : Code) (m : Definition) (at : Spot) (e : Expression) (i : ℕ) (b : Lines) (c d : Context)
    → judge_statement p m at (Repeats e i b) c ≡ Holds d → (k : Context) × (judge_lines p m b c ≡ Holds k)
loop_lines p m at e i b c d h =
    let a = first_holds (is_value p c f.Bool e) _ d h in
    let q = first_holds (judge_lines p m b c >>= end_block p c b) _ d a.2 in
    let r = first_holds (judge_lines p m b c) (end_block p c b) q.0 q.1 in
    (r.0, r.1)

-- A loop begins with its first turn.
pub loop_opens : StacksAreDoneBy (List Seen) → (p : Code) (whole : Run (List Seen)) (names : NamesInOrder)
    (waiting : List Bind) (s : State) (out : List ℕ) (fuel depth : ℕ) (m : Definition) (at : Spot) (e : Expression)
    (i : ℕ) (b : Lines) (ls : List Level) → Begun p whole names waiting s out fuel depth m at (Repeats e i b) ls
    → Going p whole names waiting s out (InLoop fuel depth m at e b ∷ ls)
loop_opens law p whole names waiting s out fuel depth m at e i b ls g =
    let j = loop_lines p m at e i b g.here.context g.after g.judged in
    record {
      stack = TheTurns fuel g.here 0 at e b ∷ g.stack;
      notes = g.notes;
      stands = (
        record { here = g.here; turn = 0 },
        g.stack,
        refl,
        record {
          method = g.method;
          depth_here = g.depth_here;
          after = j.0;
          judged = j.1;
          unsplit = g.inside;
          known_here = g.known_here;
        },
        subst (λ (ys : NamesInOrder). StandFor p ys waiting ls g.stack) (append-nil names) g.stands,
      );
      comes = one_step law p whole (TheStatement fuel g.here at (Repeats e i b)) g.stack
          (TheTurns fuel g.here 0 at e b ∷ []) s s g.notes g.notes g.comes refl;
      printed = g.printed;
    }

-- what a turn leaves by its test
abbrev turn_tested : ℕ → Where → ℕ → Spot → Expression → Lines → State → SourceNotes → Bool → Left (List Seen)
turn_tested fuel here t at e b s n test = if test then turn_left fuel here t at e b s n else GoesOn [] s n

-- A loop whose test is false is over.
pub loop_over : StacksAreDoneBy (List Seen) → (p : Code) (whole : Run (List Seen)) (names : NamesInOrder)
    (waiting : List Bind) (s : State) (out : List ℕ) (fuel depth : ℕ) (m : Definition) (at : Spot) (e : Expression)
    (b : Lines) (ls : List Level) → Going p whole names waiting s out (InLoop fuel depth m at e b ∷ ls)
    → truth_of p s e ≡ Fine false → Going p whole names waiting s out ls
loop_over law p whole names waiting s out fuel depth m at e b ls g t =
    let l : OpenLoop = g.stands.0 in
    let ys : List ToDo = g.stands.1 in
    let turned : SourceNotes = marked (Turned l.here.path l.turn) g.notes in
    record {
      stack = ys;
      notes = turned;
      stands = g.stands.4;
      comes = one_step law p whole (TheTurns fuel l.here l.turn at e b) ys [] s s g.notes turned
          (g.comes ∙ ap (λ (xs : List ToDo). done_all (source_machine p) xs s g.notes) g.stands.2)
          (ap (λ (o : Outcome Bool). left_given o at turned (turn_tested fuel l.here l.turn at e b s turned)) t);
      printed = g.printed;
    }

-- A loop whose test is true takes one of the fuel, and goes on with its block, and then with the next turn.
pub loop_goes_on : StacksAreDoneBy (List Seen) → (p : Code) (whole : Run (List Seen)) (names : NamesInOrder)
    (waiting : List Bind) (s : State) (out : List ℕ) (fuel depth : ℕ) (m : Definition) (at : Spot) (e : Expression)
    (b : Lines) (ls : List Level) → Going p whole names waiting s out (InLoop (suc fuel) depth m at e b ∷ ls)
    → truth_of p s e ≡ Fine true
    → Going p whole names waiting s out (InBlock fuel depth m b (length names) ∷ InLoop fuel depth m at e b ∷ ls)
loop_goes_on law p whole names waiting s out fuel depth m at e b ls g t =
    let l : OpenLoop = g.stands.0 in
    let ys : List ToDo = g.stands.1 in
    let fit : LoopFits p names depth m e b l = g.stands.3 in
    let turned : SourceNotes = marked (Turned l.here.path l.turn) g.notes in
    let next : ToDo = TheTurns fuel l.here (suc l.turn) at e b in
    let there : Where = deeper l.turn l.here in
    record {
      stack = block_left fuel there b ++ (next ∷ ys);
      notes = turned;
      stands = stands_opened p names waiting fuel depth m b there fit.after (InLoop fuel depth m at e b ∷ ls) (next ∷ ys)
          fit.method fit.depth_here fit.judged fit.unsplit fit.known_here (
            record { here = l.here; turn = suc l.turn },
            ys,
            refl,
            record {
              method = fit.method;
              depth_here = fit.depth_here;
              after = fit.after;
              judged = fit.judged;
              unsplit = fit.unsplit;
              known_here = fit.known_here;
            },
            g.stands.4,
          );
      comes = one_step law p whole (TheTurns (suc fuel) l.here l.turn at e b) ys
          (block_left fuel there b ++ (next ∷ [])) s s g.notes turned
          (g.comes ∙ ap (λ (xs : List ToDo). done_all (source_machine p) xs s g.notes) g.stands.2)
          (ap (λ (o : Outcome Bool). left_given o at turned (turn_tested (suc fuel) l.here l.turn at e b s turned)) t);
      printed = g.printed;
    }

-- A loop whose test is true, and for which no fuel is left, is the end.
pub loop_wants_fuel : StacksAreDoneBy (List Seen) → (p : Code) (whole : Run (List Seen)) (names : NamesInOrder)
    (waiting : List Bind) (s : State) (out : List ℕ) (depth : ℕ) (m : Definition) (at : Spot) (e : Expression)
    (b : Lines) (ls : List Level) → Going p whole names waiting s out (InLoop 0 depth m at e b ∷ ls)
    → truth_of p s e ≡ Fine true → ComesTo whole (Some (Fuel at)) out
loop_wants_fuel law p whole names waiting s out depth m at e b ls g t =
    let l : OpenLoop = g.stands.0 in
    let ys : List ToDo = g.stands.1 in
    let turned : SourceNotes = marked (Turned l.here.path l.turn) g.notes in
    comes_to whole (Fuel at) turned out
    (last_step law p whole (TheTurns 0 l.here l.turn at e b) ys s g.notes (Ends (Fuel at) turned)
    (g.comes ∙ ap (λ (xs : List ToDo). done_all (source_machine p) xs s g.notes) g.stands.2)
    (ap (λ (o : Outcome Bool). left_given o at turned (turn_tested 0 l.here l.turn at e b s turned)) t)) g.printed

-- A fault of its test is the end of a loop.
pub loop_faults : StacksAreDoneBy (List Seen) → (p : Code) (whole : Run (List Seen)) (names : NamesInOrder)
    (waiting : List Bind) (s : State) (out : List ℕ) (fuel depth : ℕ) (m : Definition) (at : Spot) (e : Expression)
    (b : Lines) (ls : List Level) (stop : Stop) → Going p whole names waiting s out (InLoop fuel depth m at e b ∷ ls)
    → FaultsAs (truth_of p s e) stop → HaltsAs whole out (halt_at at stop)
loop_faults law p whole names waiting s out fuel depth m at e b ls stop g t =
    let l : OpenLoop = g.stands.0 in
    let ys : List ToDo = g.stands.1 in
    let turned : SourceNotes = marked (Turned l.here.path l.turn) g.notes in
    faulted p whole ys (truth_of p s e) at turned out (turn_tested fuel l.here l.turn at e b s turned) stop
    (g.comes ∙ ap (λ (xs : List ToDo). done_all (source_machine p) xs s g.notes) g.stands.2
    ∙ law p in_order (TheTurns fuel l.here l.turn at e b) ys s g.notes) g.printed t
