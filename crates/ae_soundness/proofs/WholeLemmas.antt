-- Where no group is split, each judged statement and block of an accepted program goes on from a state that stands to
-- one that follows it, or is a trap, or wants fuel.
use Rattle.std.proofs.Common.{◌≡◌, refl, sym, ap, ◌∙◌, subst, ℕ, suc, Bool, true, false, []}
use Rattle.std.proofs.Common.{Option, None, Some}
use Rattle.std.specs.Prelude.{length, ⊤}
use Rattle.ae_text.specs.declared.refusal.Spot.{Spot}
use Rattle.ae_text.specs.declared.refusal.Rule.TheVariants as rule
use Rattle.ae_tree.specs.declared.form.Form.TheVariants as f
use Rattle.ae_tree.specs.Plain.{Expression, Lines, End, Next, Definition, Code}
use Rattle.ae_tree.specs.Plain.{Value, Taken, Zeros, Made, Returned}
use Rattle.ae_tree.specs.Plain.{Action, Declares, Assigns, Stores, StoresAt, Calls, Chooses, ChoosesElse, Repeats}
use Rattle.ae_tree.specs.Plain.{Groups, Splits, Locks, Freezes, Shares, Prints, PrintsText, Asserts, Returns}
use Rattle.ae_tree.specs.WellShaped.{EachStatement, InBlocks, HasField, ActionNamed}
use Rattle.ae_rules.specs.Verdict.{Holds, ◌>>=◌, require}
use Rattle.ae_rules.specs.Context.{Context, closed, hold_alike}
use Rattle.ae_rules.specs.Expressions.{expression_spot, judge_value, is_value}
use Rattle.ae_rules.specs.Statements.{end_block, branches_meet, loop_keeps, judge_statement, judge_lines}
use Rattle.ae_rules.specs.Judges.{Judges, is_return, returns}
use Rattle.ae_rules.specs.Laws.{StatementsKeep}
use Rattle.ae_rules.specs.Blocks.{Scene}
use Rattle.ae_rules.specs.BlockLaws.{ComparisonsAreExact, IsRight, RightIsKept}
use Rattle.ae_semantics.specs.Places.{State}
use Rattle.ae_semantics.specs.Expressions.{value, truth_of}
use Rattle.ae_semantics.specs.Contexts.{after, or_before}
use Rattle.ae_semantics.specs.Equations.{one-Chooses, one-ChoosesElse, one-Repeats, many-End, many-Next, branch}
use Rattle.ae_semantics.specs.Observations.{Ran, Turned, Notes, Observer}
use Rattle.ae_semantics.specs.Runs.{Run, Went, Ends, Stops, Act, and_then, paid, chosen, marked, Where}
use Rattle.ae_semantics.specs.Runs.{deeper}
use Rattle.ae_semantics.specs.Runs.{knowing, whole_block, Machine, Below}
use Rattle.ae_semantics.specs.Means.{stops_at}
use Rattle.ae_semantics.specs.Meaning.{left, again, one, many, below}
use Rattle.ae_soundness.specs.Fits.{FieldsHaveMembers, FitsContext, NoneAway}
use Rattle.ae_soundness.specs.Laws.{ValuesAreFound, StatementsFitBy, is_without_calls}
use Rattle.ae_soundness.specs.Returns.{HasResult, LeavesResult, ReturnsGiveBy}
use Rattle.ae_soundness.specs.Whole.{StandsAt, RunsTo, SplitsNothing, is_calling, CallsKeep}
use Rattle.ae_soundness.proofs.OutcomeLemmas.{Comes, Anything, truth_comes}
use Rattle.ae_soundness.proofs.ValueLemmas.{judged_so}
use Rattle.ae_soundness.proofs.LastingLemmas.{Leaves, statement_lasts, calling_lasts}
use Rattle.ae_soundness.proofs.LeavingLemmas.{NamesStay, IsLike, like_itself, closed_like, alike_is_same}
use Rattle.ae_soundness.proofs.FollowLemmas.{Follows, follows_on, runs_on, outcome_runs, runs_so, runs_leaving}
use Rattle.ae_soundness.proofs.FollowLemmas.{fitting_runs, none_away_lasts, names_last, names_last_back, block_left}
use Rattle.ae_soundness.proofs.EndLemmas.{lines_keep}
use Rattle.ae_soundness.proofs.FollowLemmas.{block_judged}
use Rattle.ae_soundness.proofs.from_rules.PathLemmas.{first_holds}
use Rattle.ae_soundness.proofs.from_rules.SeenLemmas.{required}

-- ---- what is given

-- the laws by which the induction goes
pub record Ground (W : Type 0) (p : Code) : Type 0 where
  pub fields : FieldsHaveMembers p
  pub values : ValuesAreFound
  pub simple : StatementsFitBy W
  pub gives : ReturnsGiveBy W
  pub keeps : StatementsKeep
  pub alike : ComparisonsAreExact

-- what the text of an accepted program in which nothing is split has in each statement
abbrev pub InText : Code → ((Action → Type 0) → Type 0) → Type 0
InText p F = F SplitsNothing × F HasField × F (ActionNamed (length p.names))

-- the statement itself has this
abbrev pub Itself : Action → (Action → Type 0) → Type 0
Itself a P = P a

-- the statements in its blocks have this
abbrev pub Inside : Action → (Action → Type 0) → Type 0
Inside a P = InBlocks P a

-- each of these statements has this, and so have those in their blocks
abbrev pub Throughout : Lines → (Action → Type 0) → Type 0
Throughout b P = EachStatement P b

-- a statement of a method whose names are known, with each thing that was said of its text
pub record Stands (p : Code) (here : Where) (s : State) : Type 0 where
  pub method : RightIsKept p here.method
  pub right : IsRight p here.context
  pub state : StandsAt p here.context s

-- ---- what is done with less fuel

-- judged blocks are left with a state that follows
abbrev pub BlocksKeep : {W : Type 0} → Code → (Where → Lines → Act W) → Type 0
BlocksKeep p act = (here : Where) (b : Lines) (d : Context) (s : State) (n : Notes _) → InText p (Throughout b)
    → judge_lines p here.method b here.context ≡ Holds d → Stands p here s
    → RunsTo (Follows p here.method (returns b) (closed here.context d) s) (act here b s n)

-- judged loops are left with a state that follows
abbrev pub LoopsKeep : {W : Type 0} → Code → (Where → ℕ → Spot → Expression → Lines → Act W) → Type 0
LoopsKeep p act = (here : Where) (t : ℕ) (at : Spot) (e : Expression) (i : ℕ) (b : Lines) (s : State) (n : Notes _)
    → InText p (Throughout b) → Judges p here.method at (Repeats e i b) here.context here.context → Stands p here s
    → RunsTo (Follows p here.method false here.context s) (act here t at e b s n)

-- so it is with what there is with less fuel
abbrev pub BelowKeeps : {W : Type 0} → Code → Option (Below W) → Type 0
BelowKeeps p None = Unit {0}
BelowKeeps p (Some run) = BlocksKeep p run.block × LoopsKeep p run.again

-- each judged statement that calls is left with a state that follows
abbrev pub CallsFollow : {W : Type 0} → Machine W → Option (Below W) → Type 0
CallsFollow m below = (here : Where) (at : Spot) (a : Action) (d : Context) (s : State) (n : Notes _)
    → is_calling a ≡ true → Judges m.code here.method at a here.context d → StandsAt m.code here.context s
    → RunsTo (Follows m.code here.method (is_return a) d s) (one m below here at a s n)

-- ---- calls

no_return : (a : Action) → is_calling a ≡ true → is_return a ≡ false
no_return (Declares ty x e) o = refl
no_return (Assigns x e) o = refl
no_return (Stores path e) o = refl
no_return (StoresAt path i e) o = refl
no_return (Calls i) o = refl
no_return (Chooses e i b) o = refl
no_return (ChoosesElse e i b k b') o = refl
no_return (Repeats e i b) o = refl
no_return (Groups g) o = refl
no_return (Splits gs i b) o = refl
no_return (Locks g i b) o = refl
no_return (Freezes x) o = refl
no_return (Shares x g) o = refl
no_return (Prints e) o = refl
no_return (PrintsText x) o = refl
no_return (Asserts e) o = refl
no_return (Returns e) o = absurd (cc o)

-- Where calls keep standing, what they leave follows.
pub calls_follow : {W : Type 0} (m : Machine W) (below : Option (Below W)) → CallsKeep m below → CallsFollow m below
calls_follow m below k here at a d s n o h z =
    runs_leaving (StandsAt m.code d) (NamesStay s) (Follows m.code here.method (is_return a) d s)
    (one m below here at a s n) (k here at a d s n o h z)
    (calling_lasts (NamesStay s) (names_last s) (names_last_back s) m below here at a s n o (λ x y e. e))
    (λ t i l. record { stands = i; names = l; result = λ e. absurd (cc (no_return a o, e)) })

-- ---- simple statements

-- a run that leaves a result leaves it where it goes on
left_result : {W : Type 0} (p : Code) (m : Definition) (r : Run W) → LeavesResult p m r → Leaves (HasResult p m) r
left_result p m (Went s n) h = h
left_result p m (Ends ending n) h = tt
left_result p m (Stops n) h = tt

simple_follows : {W : Type 0} (p : Code) (o : Observer W) → Ground W p → (below : Option (Below W)) (here : Where)
    (at : Spot) (a : Action) (d : Context) (s : State) (n : Notes W) → is_without_calls a ≡ true → HasField a
    → is_return a ≡ false → Judges p here.method at a here.context d → StandsAt p here.context s
    → RunsTo (Follows p here.method (is_return a) d s) (one (stops_at p o) below here at a s n)
simple_follows p o g below here at a d s n q w r h z =
    let m : Machine _ = stops_at p o in
    runs_leaving (λ t. FitsContext p d t × NoneAway t) (NamesStay s) (Follows p here.method (is_return a) d s)
    (one m below here at a s n)
    (runs_leaving (FitsContext p d) NoneAway (λ t. FitsContext p d t × NoneAway t) (one m below here at a s n)
    (fitting_runs p d (one m below here at a s n) (g.simple m below here at a d s n g.fields q w h z.0))
    (statement_lasts NoneAway none_away_lasts m below here at a s n (λ y v t i. i) q z.1) (λ t i k. (i, k)))
    (statement_lasts (NamesStay s) (names_last s) m below here at a s n (λ y v t i. i) q (λ x y e. e))
    (λ t i k. record { stands = i; names = k; result = λ e. absurd (cc (r, e)) })

return_follows : {W : Type 0} (p : Code) (o : Observer W) → Ground W p → (below : Option (Below W)) (here : Where)
    (at : Spot) (e : Expression) (d : Context) (s : State) (n : Notes W)
    → Judges p here.method at (Returns e) here.context d → StandsAt p here.context s
    → RunsTo (Follows p here.method true d s) (one (stops_at p o) below here at (Returns e) s n)
return_follows p o g below here at e d s n h z =
    let m : Machine _ = stops_at p o in
    let r : Run _ = one m below here at (Returns e) s n in
    runs_leaving (λ t. StandsAt p d t × HasResult p here.method t) (NamesStay s) (Follows p here.method true d s) r
    (runs_leaving (StandsAt p d) (HasResult p here.method) (λ t. StandsAt p d t × HasResult p here.method t) r
    (runs_leaving (FitsContext p d) NoneAway (StandsAt p d) r
    (fitting_runs p d r (g.simple m below here at (Returns e) d s n g.fields refl tt h z.0))
    (statement_lasts NoneAway none_away_lasts m below here at (Returns e) s n (λ y v t i. i) refl z.1)
    (λ t i k. (i, k)))
    (left_result p here.method r (g.gives m below here at e d s n g.fields h z.0)) (λ t i k. (i, k)))
    (statement_lasts (NamesStay s) (names_last s) m below here at (Returns e) s n (λ y v t i. i) refl (λ x y e. e))
    (λ t i k. record { stands = i.0; names = k; result = λ e. i.1 })

-- ---- tests

truth_found : {W : Type 0} (p : Code) → Ground W p → (c : Context) (e : Expression) (s : State) (u : ⊤)
    → is_value p c f.Bool e ≡ Holds u → FitsContext p c s → Comes (Anything {A = Bool}) (truth_of p s e)
truth_found p g c e s u h z = truth_comes p (value p s e) (g.values p c s e f.Bool g.fields z
    (judged_so f.Bool (judge_value p c e) (expression_spot e) u h).0)

-- after a test there is the one run or the other
chosen_runs : {W : Type 0} (Q : State → Type 0) (test : Bool) (yes_then no_then : ⊤ → Run W) → RunsTo Q (yes_then tt)
    → RunsTo Q (no_then tt) → RunsTo Q (chosen test yes_then no_then)
chosen_runs Q true yes_then no_then h k = h
chosen_runs Q false yes_then no_then h k = k

-- ---- blocks

-- nothing was done
follows_itself : (p : Code) (m : Definition) (d : Context) (s : State) → StandsAt p d s → Follows p m false d s s
follows_itself p m d s z = record { stands = z; names = λ g h e. e; result = λ e. absurd (cc e) }

-- what follows where more was judged to be last follows where less is known
pub follows_known : (p : Code) (m : Definition) (last : Bool) (c d : Context) (s t : State) → c ≡ d
    → Follows p m last c s t → Follows p m false d s t
follows_known p m last c d s t e f = record {
  stands = subst (λ (x : Context). StandsAt p x t) e f.stands;
  names = f.names;
  result = λ e. absurd (cc e);
}

-- a block that is judged in this context, and left
pub block_follows : {W : Type 0} (p : Code) → Ground W p → (here : Where) (b : Lines) (d : Context) (s : State)
    (r : Run W) → judge_lines p here.method b here.context ≡ Holds d → StandsAt p here.context s
    → RunsTo (Follows p here.method (returns b) d s) r
    → RunsTo (Follows p here.method (returns b) (closed here.context d) s) (left here.context r)
block_follows p g here b d s r h z k = block_left p here.method (returns b) here.context d s r z.0
    (lines_keep g.keeps p here.method b here.context d h) k

-- ---- loops

-- a judged loop: its test, its block, and what is known after it
pub record LoopJudged (p : Code) (m : Definition) (e : Expression) (b : Lines) (c d : Context) : Type 0 where
  pub unit : ⊤
  pub test : is_value p c f.Bool e ≡ Holds unit
  pub inside : Context
  pub lines : judge_lines p m b c ≡ Holds inside
  pub alike : hold_alike p c (closed c inside) c ≡ true
  pub same : c ≡ d

pub loop_judged : (p : Code) (m : Definition) (at : Spot) (e : Expression) (i : ℕ) (b : Lines) (c d : Context)
    → Judges p m at (Repeats e i b) c d → LoopJudged p m e b c d
loop_judged p m at e i b c d h =
    let a = first_holds (is_value p c f.Bool e) _ d h in
    let q = first_holds (judge_lines p m b c >>= end_block p c b) (loop_keeps p c at) d a.2 in
    let r = block_judged p m b c c q.0 q.1 in
    let v = first_holds (require (hold_alike p c q.0 c) rule.LoopChanges at) (λ _. Holds c) d q.2 in
    record {
      unit = a.0;
      test = a.1;
      inside = r.0;
      lines = r.1;
      alike = subst (λ (y : Context). hold_alike p c y c ≡ true) (sym r.2)
          (required (hold_alike p c q.0 c) rule.LoopChanges at v.0 v.1);
      same = cc (v.2);
    }

-- What is known after a block that leaves all as it was is what was known before.
pub same_after : {W : Type 0} (p : Code) → Ground W p → (m : Definition) (b : Lines) (c d : Context) → IsRight p c
    → judge_lines p m b c ≡ Holds d → hold_alike p c (closed c d) c ≡ true → closed c d ≡ c
same_after p g m b c d i h e = alike_is_same g.alike p c (closed c d) c i.visible
    (closed_like c d (lines_keep g.keeps p m b c d h)) (like_itself c) e

-- A judged loop goes on from each turn so that what follows stands where the loop stood.
pub again_follows : {W : Type 0} (p : Code) (o : Observer W) → Ground W p → (below : Option (Below W))
    → BelowKeeps p below → (here : Where) (t : ℕ) (at : Spot) (e : Expression) (i : ℕ) (b : Lines) (s : State)
    (n : Notes W) → InText p (Throughout b) → Judges p here.method at (Repeats e i b) here.context here.context
    → Stands p here s
    → RunsTo (Follows p here.method false here.context s) (again (stops_at p o) below here t at e b s n)
again_follows {W} p o g below k here t at e i b s n w h z =
    outcome_runs (Anything {A = Bool}) (Follows p here.method false here.context s) (truth_of p s e) at turned _
    (truth_found p g here.context e s j.unit j.test z.state.0)
    (λ test _. chosen_runs (Follows p here.method false here.context s) test _ _ (by_fuel below k)
    (follows_itself p here.method here.context s z.state))
  where
    turned : Notes W
    turned = marked (Turned here.path t) n

    j : LoopJudged p here.method e b here.context here.context
    j = loop_judged p here.method at e i b here.context here.context h

    same : closed here.context j.inside ≡ here.context
    same = same_after p g here.method b here.context j.inside z.right j.lines j.alike

    by_fuel : (less : Option (Below W)) → BelowKeeps p less → RunsTo (Follows p here.method false here.context s)
        (paid less at turned (λ run. and_then (run.block (deeper t here) b s turned) (run.again here (suc t) at e b)))
    by_fuel None k = tt
    by_fuel (Some run) k = runs_on (Follows p here.method (returns b) (closed here.context j.inside) s)
        (Follows p here.method false here.context s) (run.block (deeper t here) b s turned)
        (run.again here (suc t) at e b)
        (k.0 (deeper t here) b j.inside s turned w j.lines
        (record { method = z.method; right = z.right; state = z.state }))
        (λ u x y. let after_turn : Follows p here.method false here.context s u
        = follows_known p here.method (returns b) (closed here.context j.inside) here.context s u same y in
        runs_so (Follows p here.method false here.context u) (Follows p here.method false here.context s)
        (run.again here (suc t) at e b u x)
        (k.1 here (suc t) at e i b u x w h
        (record { method = z.method; right = z.right; state = after_turn.stands }))
        (λ v. follows_on p here.method false here.context s u v after_turn.names))

-- ---- lines

-- what follows the rest of a block's statements follows the block, which may end with a `return`
pub last_follows : {W : Type 0} (p : Code) (o : Observer W) (below : Option (Below W)) (here : Where) (all : Scene) (j : ℕ)
    (at : Spot) (a : Action) (b : Lines) (d : Context) (s t : State) (n : Notes W)
    → judge_lines p here.method b here.context ≡ Holds d → Follows p here.method (is_return a) here.context s t
    → RunsTo (Follows p here.method (returns b) d t) (many (stops_at p o) below here all j b [] t n)
    → RunsTo (Follows p here.method (returns (Next at a b)) d s) (many (stops_at p o) below here all j b [] t n)
last_follows p o below here all j at a End d s t n h f k =
    let last : here.context ≡ d = cc h in
    rw (many-End (stops_at p o) below here all j [] t n)
    (subst (λ (y : Context). Follows p here.method (is_return a) y s t) last f)
last_follows p o below here all j at a (Next at' a' rest) d s t n h f k =
    let b : Lines = Next at' a' rest in
    runs_so (Follows p here.method (returns b) d t) (Follows p here.method (returns b) d s)
    (many (stops_at p o) below here all j b [] t n) k
    (λ u. follows_on p here.method (returns b) d s t u f.names)

-- ---- statements

mutual
  -- A judged statement goes on to a state that follows.
  pub one_follows : {W : Type 0} (p : Code) (o : Observer W) → Ground W p → (below : Option (Below W)) → BelowKeeps p below
      → CallsFollow (stops_at p o) below → (here : Where) (at : Spot) (a : Action) (d : Context) (s : State)
      (n : Notes W) → InText p (Itself a) → InText p (Inside a) → Judges p here.method at a here.context d
      → Stands p here s → RunsTo (Follows p here.method (is_return a) d s) (one (stops_at p o) below here at a s n)
  one_follows p o g below k calls here at (Declares ty x (Returned i)) d s n w b h z =
      calls here at (Declares ty x (Returned i)) d s n refl h z.state
  one_follows p o g below k calls here at (Declares ty x (Value e)) d s n w b h z =
      (simple_follows) p o g below here at (Declares ty x (Value e)) d s n refl w.1 refl h z.state
  one_follows p o g below k calls here at (Declares ty x (Taken q y)) d s n w b h z =
      (simple_follows) p o g below here at (Declares ty x (Taken q y)) d s n refl w.1 refl h z.state
  one_follows p o g below k calls here at (Declares ty x (Zeros e y)) d s n w b h z =
      (simple_follows) p o g below here at (Declares ty x (Zeros e y)) d s n refl w.1 refl h z.state
  one_follows p o g below k calls here at (Declares ty x (Made c gs es y)) d s n w b h z =
      (simple_follows) p o g below here at (Declares ty x (Made c gs es y)) d s n refl w.1 refl h z.state
  one_follows p o g below k calls here at (Assigns x (Returned i)) d s n w b h z =
      calls here at (Assigns x (Returned i)) d s n refl h z.state
  one_follows p o g below k calls here at (Assigns x (Value e)) d s n w b h z =
      (simple_follows) p o g below here at (Assigns x (Value e)) d s n refl w.1 refl h z.state
  one_follows p o g below k calls here at (Assigns x (Taken q y)) d s n w b h z =
      (simple_follows) p o g below here at (Assigns x (Taken q y)) d s n refl w.1 refl h z.state
  one_follows p o g below k calls here at (Assigns x (Zeros e y)) d s n w b h z =
      (simple_follows) p o g below here at (Assigns x (Zeros e y)) d s n refl w.1 refl h z.state
  one_follows p o g below k calls here at (Assigns x (Made c gs es y)) d s n w b h z =
      (simple_follows) p o g below here at (Assigns x (Made c gs es y)) d s n refl w.1 refl h z.state
  one_follows p o g below k calls here at (Stores path e) d s n w b h z =
      (simple_follows) p o g below here at (Stores path e) d s n refl w.1 refl h z.state
  one_follows p o g below k calls here at (StoresAt path i e) d s n w b h z =
      (simple_follows) p o g below here at (StoresAt path i e) d s n refl w.1 refl h z.state
  one_follows p o g below k calls here at (Calls i) d s n w b h z =
      calls here at (Calls i) d s n refl h z.state
  one_follows p o g below k calls here at (Chooses e i x) d s n w b h z =
      let c : Context = here.context in
      let a = first_holds (is_value p c f.Bool e) _ d h in
      let q = first_holds (judge_lines p here.method x c >>= end_block p c x) (λ y. branches_meet p c at y c) d a.2 in
      let r = block_judged p here.method x c c q.0 q.1 in
      let v = first_holds (require (hold_alike p c q.0 c) rule.BranchesDiffer at) (λ _. Holds c) d q.2 in
      let last : c ≡ d = cc (v.2) in
      let same : closed c r.0 ≡ c = same_after p g here.method x c r.0 z.right r.1
      (subst (λ (y : Context). hold_alike p c y c ≡ true) (sym r.2)
      (required (hold_alike p c q.0 c) rule.BranchesDiffer at v.0 v.1)) in
      let Q : State → Type 0 = Follows p here.method false d s in
      rw (one-Chooses (stops_at p o) below here at e i x s n)
      (outcome_runs (Anything {A = Bool}) Q (truth_of p s e) at n _
      (truth_found p g c e s a.0 a.1 z.state.0)
      (λ test _. chosen_runs Q test _ _
      (runs_so (Follows p here.method (returns x) (closed c r.0) s) Q (branch (stops_at p o) below 0 here x s n)
      (block_follows p g here x r.0 s _ r.1 z.state
      (many_follow p o g below k calls (deeper 0 here) (whole_block x here) 0 x r.0 s n b r.1
      (record { method = z.method; right = z.right; state = z.state })))
      (λ t. follows_known p here.method (returns x) (closed c r.0) d s t (same ∙ last)))
      (follows_itself p here.method d s (subst (λ (y : Context). StandsAt p y s) last z.state))))
  one_follows p o g below k calls here at (ChoosesElse e i x j y) d s n w b h z =
      let c : Context = here.context in
      let a = first_holds (is_value p c f.Bool e) _ d h in
      let q = first_holds (judge_lines p here.method x c >>= end_block p c x) _ d a.2 in
      let q' = first_holds (judge_lines p here.method y c >>= end_block p c y) (branches_meet p c at q.0) d q.2 in
      let r = block_judged p here.method x c c q.0 q.1 in
      let r' = block_judged p here.method y c c q'.0 q'.1 in
      let v = first_holds (require (hold_alike p c q.0 q'.0) rule.BranchesDiffer at) (λ _. Holds q'.0) d q'.2 in
      let last : q'.0 ≡ d = cc (v.2) in
      let same : q.0 ≡ q'.0 = alike_is_same g.alike p c q.0 q'.0 z.right.visible
      (subst (IsLike c) r.2 (closed_like c r.0 (lines_keep g.keeps p here.method x c r.0 r.1)))
      (subst (IsLike c) r'.2 (closed_like c r'.0 (lines_keep g.keeps p here.method y c r'.0 r'.1)))
      (required (hold_alike p c q.0 q'.0) rule.BranchesDiffer at v.0 v.1) in
      let Q : State → Type 0 = Follows p here.method false d s in
      rw (one-ChoosesElse (stops_at p o) below here at e i x j y s n)
      (outcome_runs (Anything {A = Bool}) Q (truth_of p s e) at n _
      (truth_found p g c e s a.0 a.1 z.state.0)
      (λ test _. chosen_runs Q test _ _
      (runs_so (Follows p here.method (returns x) (closed c r.0) s) Q (branch (stops_at p o) below 0 here x s n)
      (block_follows p g here x r.0 s _ r.1 z.state
      (many_follow p o g below k calls (deeper 0 here) (whole_block x here) 0 x r.0 s n (b.0.0, b.1.0, b.2.0) r.1
      (record { method = z.method; right = z.right; state = z.state })))
      (λ t. follows_known p here.method (returns x) (closed c r.0) d s t (r.2 ∙ same ∙ last)))
      (runs_so (Follows p here.method (returns y) (closed c r'.0) s) Q (branch (stops_at p o) below 1 here y s n)
      (block_follows p g here y r'.0 s _ r'.1 z.state
      (many_follow p o g below k calls (deeper 1 here) (whole_block y here) 0 y r'.0 s n (b.0.1, b.1.1, b.2.1) r'.1
      (record { method = z.method; right = z.right; state = z.state })))
      (λ t. follows_known p here.method (returns y) (closed c r'.0) d s t (r'.2 ∙ last)))))
  one_follows p o g below k calls here at (Repeats e i x) d s n w b h z =
      let same : here.context ≡ d = (loop_judged p here.method at e i x here.context d h).same in
      subst (λ (y : Context). RunsTo (Follows p here.method false y s)
      (one (stops_at p o) below here at (Repeats e i x) s n)) same
      (rw (one-Repeats (stops_at p o) below here at e i x s n)
      (again_follows p o g below k here 0 at e i x s n b
      (subst (λ (y : Context). Judges p here.method at (Repeats e i x) here.context y) (sym same) h) z))
  one_follows p o g below k calls here at (Groups x) d s n w b h z =
      (simple_follows) p o g below here at (Groups x) d s n refl w.1 refl h z.state
  one_follows p o g below k calls here at (Splits gs i x) d s n w b h z = absurd (w.0)
  one_follows p o g below k calls here at (Locks x i y) d s n w b h z = absurd (w.0)
  one_follows p o g below k calls here at (Freezes x) d s n w b h z =
      (simple_follows) p o g below here at (Freezes x) d s n refl w.1 refl h z.state
  one_follows p o g below k calls here at (Shares x y) d s n w b h z =
      (simple_follows) p o g below here at (Shares x y) d s n refl w.1 refl h z.state
  one_follows p o g below k calls here at (Prints e) d s n w b h z =
      (simple_follows) p o g below here at (Prints e) d s n refl w.1 refl h z.state
  one_follows p o g below k calls here at (PrintsText x) d s n w b h z =
      (simple_follows) p o g below here at (PrintsText x) d s n refl w.1 refl h z.state
  one_follows p o g below k calls here at (Asserts e) d s n w b h z =
      (simple_follows) p o g below here at (Asserts e) d s n refl w.1 refl h z.state
  one_follows p o g below k calls here at (Returns e) d s n w b h z =
      (return_follows) p o g below here at e d s n h z.state

  -- Judged statements, one after another, go on to a state that follows.
  pub many_follow : {W : Type 0} (p : Code) (o : Observer W) → Ground W p → (below : Option (Below W))
      → BelowKeeps p below → CallsFollow (stops_at p o) below → (here : Where) (all : Scene) (j : ℕ) (b : Lines)
      (d : Context) (s : State) (n : Notes W) → InText p (Throughout b)
      → judge_lines p here.method b here.context ≡ Holds d → Stands p here s
      → RunsTo (Follows p here.method (returns b) d s) (many (stops_at p o) below here all j b [] s n)
  many_follow p o g below k calls here all j End d s n w h z =
      let last : here.context ≡ d = cc h in
      rw (many-End (stops_at p o) below here all j [] s n)
      (follows_itself p here.method d s (subst (λ (y : Context). StandsAt p y s) last z.state))
  many_follow p o g below k calls here all j (Next at a b) d s n w h z =
      let m : Machine _ = stops_at p o in
      let r = first_holds (judge_statement p here.method at a here.context) (judge_lines p here.method b) d h in
      let there : Where = deeper j here in
      let marks : Notes _ = marked (Ran there.path at) n in
      let known : after p here.method at a here.context ≡ r.0 = ap (λ v. or_before v here.context) r.1 in
      rw (many-Next m below here all j at a b [] s n)
      (runs_on (Follows p here.method (is_return a) r.0 s) (Follows p here.method (returns (Next at a b)) d s)
      (one m below there at a s marks)
      (many m below (knowing (after p here.method at a here.context) here) all (suc j) b [])
      (one_follows p o g below k calls there at a r.0 s marks (w.0.0, w.1.0, w.2.0) (w.0.1, w.1.1, w.2.1) r.1
      (record { method = z.method; right = z.right; state = z.state }))
      (λ t x f. subst
      (λ (y : Context). RunsTo (Follows p here.method (returns (Next at a b)) d s)
      (many m below (knowing y here) all (suc j) b [] t x))
      (sym known)
      (last_follows p o below (knowing r.0 here) all (suc j) at a b d s t x r.2 f
      (many_follow p o g below k calls (knowing r.0 here) all (suc j) b d t x (w.0.2, w.1.2, w.2.2) r.2
      (record {
        method = z.method;
        right = z.method.statement at a here.context r.0 w.2.0 w.2.1 z.right r.1;
        state = f.stands;
      })))))
