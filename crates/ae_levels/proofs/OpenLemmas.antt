-- Statements that open a block or a loop, and loops that go on.
use Rattle.std.proofs.Common.{◌≡◌, ap, ◌∙◌, subst, ℕ, Bool, true, false, if◌then◌else◌}
use Rattle.std.proofs.Common.{List, [], ◌∷◌, ◌++◌, length}
use Rattle.std.proofs.lemmas.List.{append-nil}
use Rattle.ae_text.specs.declared.refusal.Spot.{Spot}
use Rattle.ae_tree.specs.declared.form.Form.TheVariants as f
use Rattle.ae_tree.specs.Plain.{Expression, Chooses, ChoosesElse, Lines, Definition, Code}
use Rattle.ae_rules.specs.Verdict.{Holds, ◌>>=◌}
use Rattle.ae_rules.specs.Context.{Context}
use Rattle.ae_rules.specs.Expressions.{is_value}
use Rattle.ae_rules.specs.Statements.{judge_statement, judge_lines, end_block}
use Rattle.ae_semantics.specs.Places.{Outcome, Fine, State}
use Rattle.ae_semantics.specs.Expressions.{truth_of}
use Rattle.ae_semantics.specs.Observations.{Seen}
use Rattle.ae_semantics.specs.Runs.{Run, Where, deeper}
use Rattle.ae_semantics.specs.Means.{in_order}
use Rattle.ae_semantics.specs.Stacks.{ToDo, TheStatement}
use Rattle.ae_values.specs.declared.env.Bind.{Bind}
use Rattle.ae_steps.specs.Steps.{Left, GoesOn, block_left, left_given, StacksAreDoneBy}
use Rattle.ae_reads.specs.declared.stop.Stop.{Stop}
use Rattle.ae_reads.specs.Answers.{FaultsAs}
use Rattle.ae_levels.specs.Levels.{NamesInOrder, Level, InBlock, StandFor}
use Rattle.ae_levels.specs.Going.{Going, Begun}
use Rattle.ae_levels.specs.Halting.{halt_at, HaltsAs}
use Rattle.ae_levels.proofs.MoveLemmas.{one_step}
use Rattle.ae_levels.proofs.BlockLemmas.{stands_opened}
use Rattle.ae_levels.proofs.FaultLemmas.{faulted}
use Rattle.ae_levels.proofs.from_rules.PathLemmas.{first_holds}

-- what is left after a test
abbrev tested : Bool → Left (List Seen) → Left (List Seen) → Left (List Seen)
tested test x y = if test then x else y

-- what stands where nothing is declared
stands_still : (p : Code) (names : NamesInOrder) (waiting : List Bind) (ls : List Level) (xs : List ToDo)
    → StandFor p (names ++ []) waiting ls xs → StandFor p names waiting ls xs
stands_still p names waiting ls xs h = subst (λ (ys : NamesInOrder). StandFor p ys waiting ls xs) (append-nil names) h

-- a judged block has judged lines
block_lines : (p : Code) (m : Definition) (b : Lines) (c e : Context)
    → (judge_lines p m b c >>= end_block p c b) ≡ Holds e → (d : Context) × (judge_lines p m b c ≡ Holds d)
block_lines p m b c e h = let r = first_holds (judge_lines p m b c) (end_block p c b) e h in (r.0, r.1)

-- ---- branches

-- A judged `if` has judged lines.
if_judged : (p : Code) (m : Definition) (at : Spot) (e : Expression) (i : ℕ) (b : Lines) (c d : Context)
    → judge_statement p m at (Chooses e i b) c ≡ Holds d → (k : Context) × (judge_lines p m b c ≡ Holds k)
if_judged p m at e i b c d h =
    let a = first_holds (is_value p c f.Bool e) _ d h in
    let q = first_holds (judge_lines p m b c >>= end_block p c b) _ d a.2 in
    block_lines p m b c q.0 q.1

-- So has a judged `if` with an `else`, in both branches.
else_judged : (p : Code) (m : Definition) (at : Spot) (e : Expression) (i : ℕ) (b : Lines) (j : ℕ) (b' : Lines)
    (c d : Context) → judge_statement p m at (ChoosesElse e i b j b') c ≡ Holds d
    → ((k : Context) × (judge_lines p m b c ≡ Holds k)) × ((k : Context) × (judge_lines p m b' c ≡ Holds k))
else_judged p m at e i b j b' c d h =
    let a = first_holds (is_value p c f.Bool e) _ d h in
    let q = first_holds (judge_lines p m b c >>= end_block p c b) _ d a.2 in
    let r = first_holds (judge_lines p m b' c >>= end_block p c b') _ d q.2 in
    (block_lines p m b c q.0 q.1, block_lines p m b' c r.0 r.1)

-- Where the test is true the block of an `if` is gone on with.
pub if_opens : StacksAreDoneBy (List Seen) → (p : Code) (whole : Run (List Seen)) (names : NamesInOrder) (waiting : List Bind)
    (s : State) (out : List ℕ) (fuel depth : ℕ) (m : Definition) (at : Spot) (e : Expression) (i : ℕ) (b : Lines)
    (ls : List Level) → Begun p whole names waiting s out fuel depth m at (Chooses e i b) ls
    → truth_of p s e ≡ Fine true
    → Going p whole names waiting s out (InBlock fuel depth m b (length names) ∷ ls)
if_opens law p whole names waiting s out fuel depth m at e i b ls g t =
    let j = if_judged p m at e i b g.here.context g.after g.judged in
    let there : Where = deeper 0 g.here in
    record {
      stack = block_left fuel there b ++ g.stack;
      notes = g.notes;
      stands = stands_opened p names waiting fuel depth m b there j.0 ls g.stack g.method g.depth_here j.1 g.inside
          g.known_here (stands_still p names waiting ls g.stack g.stands);
      comes = one_step law p whole (TheStatement fuel g.here at (Chooses e i b)) g.stack (block_left fuel there b) s s
          g.notes g.notes g.comes (ap (λ (o : Outcome Bool). left_given o at g.notes
          (λ (test : Bool). tested test (GoesOn (block_left fuel there b) s g.notes) (GoesOn [] s g.notes))) t);
      printed = g.printed;
    }

-- Where the test is false an `if` is over.
pub if_passes : StacksAreDoneBy (List Seen) → (p : Code) (whole : Run (List Seen)) (names : NamesInOrder) (waiting : List Bind)
    (s : State) (out : List ℕ) (fuel depth : ℕ) (m : Definition) (at : Spot) (e : Expression) (i : ℕ) (b : Lines)
    (ls : List Level) → Begun p whole names waiting s out fuel depth m at (Chooses e i b) ls
    → truth_of p s e ≡ Fine false → Going p whole names waiting s out ls
if_passes law p whole names waiting s out fuel depth m at e i b ls g t = record {
  stack = g.stack;
  notes = g.notes;
  stands = stands_still p names waiting ls g.stack g.stands;
  comes = one_step law p whole (TheStatement fuel g.here at (Chooses e i b)) g.stack [] s s
      g.notes g.notes g.comes (ap (λ (o : Outcome Bool). left_given o at g.notes
      (λ (test : Bool). tested test (GoesOn (block_left fuel (deeper 0 g.here) b) s g.notes) (GoesOn [] s g.notes))) t);
  printed = g.printed;
}

-- A fault of its test is the end of an `if`.
pub if_faults : StacksAreDoneBy (List Seen) → (p : Code) (whole : Run (List Seen)) (names : NamesInOrder) (waiting : List Bind)
    (s : State) (out : List ℕ) (fuel depth : ℕ) (m : Definition) (at : Spot) (e : Expression) (i : ℕ) (b : Lines)
    (ls : List Level) (stop : Stop) → Begun p whole names waiting s out fuel depth m at (Chooses e i b) ls
    → FaultsAs (truth_of p s e) stop → HaltsAs whole out (halt_at at stop)
if_faults law p whole names waiting s out fuel depth m at e i b ls stop g t =
    faulted p whole g.stack (truth_of p s e) at g.notes out
    (λ (test : Bool). tested test (GoesOn (block_left fuel (deeper 0 g.here) b) s g.notes) (GoesOn [] s g.notes)) stop
    (g.comes ∙ law p in_order (TheStatement fuel g.here at (Chooses e i b)) g.stack s g.notes) g.printed t

-- Either way a test goes, the one block of an `if` with an `else` is gone on with.
pub else_opens : StacksAreDoneBy (List Seen) → (p : Code) (whole : Run (List Seen)) (names : NamesInOrder)
    (waiting : List Bind) (s : State) (out : List ℕ) (fuel depth : ℕ) (m : Definition) (at : Spot) (e : Expression)
    (i : ℕ) (b : Lines) (j : ℕ) (b' : Lines) (ls : List Level) (test : Bool)
    → Begun p whole names waiting s out fuel depth m at (ChoosesElse e i b j b') ls → truth_of p s e ≡ Fine test
    → Going p whole names waiting s out (InBlock fuel depth m (if test then b else b') (length names) ∷ ls)
else_opens law p whole names waiting s out fuel depth m at e i b j b' ls true g t =
    let k = (else_judged p m at e i b j b' g.here.context g.after g.judged).0 in
    let there : Where = deeper 0 g.here in
    record {
      stack = block_left fuel there b ++ g.stack;
      notes = g.notes;
      stands = stands_opened p names waiting fuel depth m b there k.0 ls g.stack g.method g.depth_here k.1 g.inside.0
          g.known_here (stands_still p names waiting ls g.stack g.stands);
      comes = one_step law p whole (TheStatement fuel g.here at (ChoosesElse e i b j b')) g.stack
          (block_left fuel there b) s s g.notes g.notes g.comes (ap (λ (o : Outcome Bool). left_given o at g.notes
          (λ (x : Bool). tested x (GoesOn (block_left fuel there b) s g.notes)
          (GoesOn (block_left fuel (deeper 1 g.here) b') s g.notes))) t);
      printed = g.printed;
    }
else_opens law p whole names waiting s out fuel depth m at e i b j b' ls false g t =
    let k = (else_judged p m at e i b j b' g.here.context g.after g.judged).1 in
    let there : Where = deeper 1 g.here in
    record {
      stack = block_left fuel there b' ++ g.stack;
      notes = g.notes;
      stands = stands_opened p names waiting fuel depth m b' there k.0 ls g.stack g.method g.depth_here k.1 g.inside.1
          g.known_here (stands_still p names waiting ls g.stack g.stands);
      comes = one_step law p whole (TheStatement fuel g.here at (ChoosesElse e i b j b')) g.stack
          (block_left fuel there b') s s g.notes g.notes g.comes (ap (λ (o : Outcome Bool). left_given o at g.notes
          (λ (x : Bool). tested x (GoesOn (block_left fuel (deeper 0 g.here) b) s g.notes)
          (GoesOn (block_left fuel there b') s g.notes))) t);
      printed = g.printed;
    }

-- A fault of its test is the end of an `if` with an `else`.
pub else_faults : StacksAreDoneBy (List Seen) → (p : Code) (whole : Run (List Seen)) (names : NamesInOrder)
    (waiting : List Bind) (s : State) (out : List ℕ) (fuel depth : ℕ) (m : Definition) (at : Spot) (e : Expression)
    (i : ℕ) (b : Lines) (j : ℕ) (b' : Lines) (ls : List Level) (stop : Stop)
    → Begun p whole names waiting s out fuel depth m at (ChoosesElse e i b j b') ls → FaultsAs (truth_of p s e) stop
    → HaltsAs whole out (halt_at at stop)
else_faults law p whole names waiting s out fuel depth m at e i b j b' ls stop g t =
    faulted p whole g.stack (truth_of p s e) at g.notes out
    (λ (x : Bool). tested x (GoesOn (block_left fuel (deeper 0 g.here) b) s g.notes)
    (GoesOn (block_left fuel (deeper 1 g.here) b') s g.notes)) stop
    (g.comes ∙ law p in_order (TheStatement fuel g.here at (ChoosesElse e i b j b')) g.stack s g.notes) g.printed t
