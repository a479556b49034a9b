-- Where no group is split, each judged statement and block of an accepted program changes only what it writes.
use Rattle.std.proofs.Common.{◌≡◌, refl, sym, ap, subst, ℕ, suc, true, []}
use Rattle.std.proofs.Common.{Option, None, Some}
use Rattle.ae_text.specs.declared.refusal.Spot.{Spot}
use Rattle.ae_tree.specs.declared.form.Form.TheVariants as f
use Rattle.ae_tree.specs.Plain.{Expression, Lines, End, Next, Code}
use Rattle.ae_tree.specs.Plain.{Value, Taken, Zeros, Made, Returned}
use Rattle.ae_tree.specs.Plain.{Action, Declares, Assigns, Stores, StoresAt, Calls, Chooses, ChoosesElse, Repeats}
use Rattle.ae_tree.specs.Plain.{Groups, Splits, Locks, Freezes, Shares, Prints, PrintsText, Asserts, Returns}
use Rattle.ae_tree.specs.WellShaped.{EachStatement, HasField, IsNoReturn}
use Rattle.ae_rules.specs.Edges.{Uses}
use Rattle.ae_rules.specs.Verdict.{Verdict, Holds, ◌>>=◌}
use Rattle.ae_rules.specs.Context.{Context, closed}
use Rattle.ae_rules.specs.Expressions.{is_value}
use Rattle.ae_rules.specs.Statements.{end_block, branches_meet, judge_statement, judge_lines}
use Rattle.ae_rules.specs.Judges.{Judges, is_return, returns}
use Rattle.ae_rules.specs.Laws.{Keeps}
use Rattle.ae_rules.specs.Blocks.{Scene}
use Rattle.ae_rules.specs.Uses.{◌∪◌, of_judged, outside, value_uses, statement_uses, lines_use}
use Rattle.ae_semantics.specs.Places.{State}
use Rattle.ae_semantics.specs.Expressions.{truth_of}
use Rattle.ae_semantics.specs.Contexts.{after, or_before}
use Rattle.ae_semantics.specs.Equations.{one-Chooses, one-ChoosesElse, one-Repeats, many-End, many-Next}
use Rattle.ae_semantics.specs.Observations.{Ran, Turned, Notes, Observer}
use Rattle.ae_semantics.specs.Runs.{Run, Went, Act, and_then, paid, marked, Where, deeper, knowing, whole_block}
use Rattle.ae_semantics.specs.Runs.{Machine, Below}
use Rattle.ae_semantics.specs.Means.{stops_at}
use Rattle.ae_semantics.specs.Meaning.{left, again, one, many}
use Rattle.ae_soundness.specs.Laws.{is_without_calls}
use Rattle.ae_soundness.specs.Whole.{is_calling}
use Rattle.ae_soundness.proofs.FollowLemmas.{Follows, block_judged}
use Rattle.ae_soundness.proofs.WholeLemmas.{Ground, InText, Itself, Inside, Throughout, Stands, BelowKeeps, CallsFollow}
use Rattle.ae_soundness.proofs.WholeLemmas.{one_follows, LoopJudged, loop_judged, same_after, follows_known}
use Rattle.ae_changes.specs.Changes.{RunChanges, ActsChangeBy}
use Rattle.ae_changes.specs.Bodies.{CallsChange}
use Rattle.ae_changes.specs.Whole.{IsNoReturnAtAll}
use Rattle.ae_changes.proofs.from_rules.PathLemmas.{first_holds}
use Rattle.ae_changes.proofs.UsedLemmas.{Covers, covers_both, covers_left, covers_right, covers_then}
use Rattle.ae_changes.proofs.WriteLemmas.{changes_nothing}
use Rattle.ae_changes.proofs.RunLemmas.{outcome_changes}
use Rattle.ae_changes.proofs.BlockLemmas.{run_more, same_log, runs_then, chosen_changes, left_changes}

-- ---- what is done with less fuel

-- no statement here is a `return`
abbrev pub NoReturns : Lines → Type 0
NoReturns b = EachStatement IsNoReturn b

-- what a block uses outside it
abbrev pub block_outside : Code → Where → Lines → Uses
block_outside p here b = outside here.context (lines_use p here.method b here.context)

-- judged blocks change only what they write
abbrev pub BlocksChange : {W : Type 0} → Code → (Where → Lines → Act W) → Type 0
BlocksChange p act = (here : Where) (b : Lines) (d : Context) (s : State) (n : Notes _) → InText p (Throughout b)
    → judge_lines p here.method b here.context ≡ Holds d → Stands p here s
    → RunChanges here.context (block_outside p here b) (NoReturns b) s n (act here b s n)

-- judged loops change only what they write
abbrev pub LoopsChange : {W : Type 0} → Code → (Where → ℕ → Spot → Expression → Lines → Act W) → Type 0
LoopsChange p act = (here : Where) (t : ℕ) (at : Spot) (e : Expression) (i : ℕ) (b : Lines) (s : State) (n : Notes _)
    → InText p (Throughout b) → Judges p here.method at (Repeats e i b) here.context here.context → Stands p here s
    → RunChanges here.context (value_uses p here.context e ∪ block_outside p here b) (NoReturns b) s n
    (act here t at e b s n)

-- so it is with what there is with less fuel
abbrev pub BelowChanges : {W : Type 0} → Code → Option (Below W) → Type 0
BelowChanges p None = Unit {0}
BelowChanges p (Some run) = BlocksChange p run.block × LoopsChange p run.again

-- all that holds with less fuel
pub record Lower {W : Type 0} (p : Code) (o : Observer W) (below : Option (Below W)) : Type 0 where
  pub keeps : BelowKeeps p below
  pub follow : CallsFollow (stops_at p o) below
  pub changes : BelowChanges p below
  pub calls : CallsChange (stops_at p o) below

-- ---- parts

-- nothing was done
nothing_done : {W : Type 0} (c : Context) (u : Uses) (still : Type 0) (s : State) (n : Notes W)
    → RunChanges c u still s n (Went s n)
nothing_done c u still s n = (changes_nothing c u s, λ e. refl, λ e. refl)

keeps_all : (c : Context) → Keeps c c
keeps_all c = record { local = λ x l e. (l.held, e); group = λ g q e. e }

simple_changes : {W : Type 0} (p : Code) (o : Observer W) → Ground W p → ActsChangeBy W → (below : Option (Below W))
    (here : Where) (at : Spot) (a : Action) (d : Context) (s : State) (n : Notes W) → is_without_calls a ≡ true
    → HasField a → Judges p here.method at a here.context d → Stands p here s
    → RunChanges here.context (statement_uses p here.method a here.context) (IsNoReturnAtAll a) s n
    (one (stops_at p o) below here at a s n)
simple_changes p o g law below here at a d s n q w h z =
    run_more here.context (statement_uses p here.method a here.context) (statement_uses p here.method a here.context)
    (IsNoReturn a) (IsNoReturnAtAll a) s n (one (stops_at p o) below here at a s n) (λ r e. e) (λ e. e.0)
    (law (stops_at p o) below here at a d s n g.fields q w h z.right.holds z.state.0)

call_changes : {W : Type 0} (p : Code) (o : Observer W) (below : Option (Below W)) → CallsChange (stops_at p o) below
    → (here : Where) (at : Spot) (a : Action) (d : Context) (s : State) (n : Notes W) → is_calling a ≡ true
    → Judges p here.method at a here.context d → Stands p here s
    → RunChanges here.context (statement_uses p here.method a here.context) (IsNoReturnAtAll a) s n
    (one (stops_at p o) below here at a s n)
call_changes p o below calls here at a d s n q h z =
    run_more here.context (statement_uses p here.method a here.context) (statement_uses p here.method a here.context)
    (Unit {0}) (IsNoReturnAtAll a) s n (one (stops_at p o) below here at a s n) (λ r e. e) (λ e. tt)
    (calls here at a d s n q h z.right.holds z.state)

-- a block that is judged in this context, and left, as part of a statement
part_changes : {W : Type 0} (p : Code) (here : Where) (b : Lines) (u : Uses) (still : Type 0) (s : State)
    (n : Notes W) (r : Run W) → Stands p here s → Covers (block_outside p here b) u → (still → NoReturns b)
    → RunChanges here.context (lines_use p here.method b here.context) (NoReturns b) s n r
    → RunChanges here.context u still s n (left here.context r)
part_changes p here b u still s n r z k i h = run_more here.context (block_outside p here b) u (NoReturns b) still s n
    (left here.context r) k i
    (left_changes p here.context (lines_use p here.method b here.context) (NoReturns b) s n r z.state.0 h)

-- ---- loops

-- A judged loop changes only what it writes.
pub again_changes : {W : Type 0} (p : Code) (o : Observer W) → Ground W p → (below : Option (Below W))
    → BelowKeeps p below → BelowChanges p below → (here : Where) (t : ℕ) (at : Spot) (e : Expression) (i : ℕ)
    (b : Lines) (s : State) (n : Notes W) → InText p (Throughout b)
    → Judges p here.method at (Repeats e i b) here.context here.context → Stands p here s
    → RunChanges here.context (value_uses p here.context e ∪ block_outside p here b) (NoReturns b) s n
    (again (stops_at p o) below here t at e b s n)
again_changes {W} p o g below keep k here t at e i b s n w h z =
    outcome_changes c u (NoReturns b) s n turned (truth_of p s e) at _ (λ q. refl)
    (λ test _. chosen_changes c u (NoReturns b) s n test _ _ (by_fuel below keep k)
    (changes_nothing c u s, (λ q. refl), λ q. refl))
  where
    c : Context
    c = here.context

    inside : Uses
    inside = block_outside p here b

    u : Uses
    u = value_uses p c e ∪ inside

    turned : Notes W
    turned = marked (Turned here.path t) n

    j : LoopJudged p here.method e b c c
    j = loop_judged p here.method at e i b c c h

    same : closed c j.inside ≡ c
    same = same_after p g here.method b c j.inside z.right j.lines j.alike

    by_fuel : (less : Option (Below W)) → BelowKeeps p less → BelowChanges p less
        → RunChanges c u (NoReturns b) s n
        (paid less at turned (λ run. and_then (run.block (deeper t here) b s turned) (run.again here (suc t) at e b)))
    by_fuel None q v = λ y. refl
    by_fuel (Some run) q v = run_more c (inside ∪ u) u (NoReturns b × NoReturns b) (NoReturns b) s n _
        (covers_both inside u u (covers_right (value_uses p c e) inside) (λ r y. y)) (λ y. (y, y))
        (same_log c (inside ∪ u) (NoReturns b × NoReturns b) s n turned _ refl
        (runs_then (Follows p here.method (returns b) (closed c j.inside) s) c c inside u (NoReturns b) (NoReturns b) s
        turned (run.block (deeper t here) b s turned) (run.again here (suc t) at e b) (keeps_all c)
        (q.0 (deeper t here) b j.inside s turned w j.lines
        (record { method = z.method; right = z.right; state = z.state }))
        (v.0 (deeper t here) b j.inside s turned w j.lines
        (record { method = z.method; right = z.right; state = z.state }))
        (λ y x f. v.1 here (suc t) at e i b y x w h (record {
          method = z.method;
          right = z.right;
          state = (follows_known p here.method (returns b) (closed c j.inside) c s y same f).stands;
        }))))

-- ---- statements

mutual
  -- A judged statement changes only what it writes.
  pub one_changes : {W : Type 0} (p : Code) (o : Observer W) → Ground W p → ActsChangeBy W → (below : Option (Below W))
      → Lower p o below → (here : Where) (at : Spot) (a : Action) (d : Context) (s : State)
      (n : Notes W) → InText p (Itself a) → InText p (Inside a) → Judges p here.method at a here.context d
      → Stands p here s
      → RunChanges here.context (statement_uses p here.method a here.context) (IsNoReturnAtAll a) s n
      (one (stops_at p o) below here at a s n)
  one_changes p o g law below k here at (Declares ty x (Returned i)) d s n w b h z =
      (call_changes) p o below k.calls here at (Declares ty x (Returned i)) d s n refl h z
  one_changes p o g law below k here at (Declares ty x (Value e)) d s n w b h z =
      (simple_changes) p o g law below here at (Declares ty x (Value e)) d s n refl w.1 h z
  one_changes p o g law below k here at (Declares ty x (Taken q y)) d s n w b h z =
      (simple_changes) p o g law below here at (Declares ty x (Taken q y)) d s n refl w.1 h z
  one_changes p o g law below k here at (Declares ty x (Zeros e y)) d s n w b h z =
      (simple_changes) p o g law below here at (Declares ty x (Zeros e y)) d s n refl w.1 h z
  one_changes p o g law below k here at (Declares ty x (Made c gs es y)) d s n w b h z =
      (simple_changes) p o g law below here at (Declares ty x (Made c gs es y)) d s n refl w.1 h z
  one_changes p o g law below k here at (Assigns x (Returned i)) d s n w b h z =
      (call_changes) p o below k.calls here at (Assigns x (Returned i)) d s n refl h z
  one_changes p o g law below k here at (Assigns x (Value e)) d s n w b h z =
      (simple_changes) p o g law below here at (Assigns x (Value e)) d s n refl w.1 h z
  one_changes p o g law below k here at (Assigns x (Taken q y)) d s n w b h z =
      (simple_changes) p o g law below here at (Assigns x (Taken q y)) d s n refl w.1 h z
  one_changes p o g law below k here at (Assigns x (Zeros e y)) d s n w b h z =
      (simple_changes) p o g law below here at (Assigns x (Zeros e y)) d s n refl w.1 h z
  one_changes p o g law below k here at (Assigns x (Made c gs es y)) d s n w b h z =
      (simple_changes) p o g law below here at (Assigns x (Made c gs es y)) d s n refl w.1 h z
  one_changes p o g law below k here at (Stores path e) d s n w b h z =
      (simple_changes) p o g law below here at (Stores path e) d s n refl w.1 h z
  one_changes p o g law below k here at (StoresAt path i e) d s n w b h z =
      (simple_changes) p o g law below here at (StoresAt path i e) d s n refl w.1 h z
  one_changes p o g law below k here at (Calls i) d s n w b h z =
      (call_changes) p o below k.calls here at (Calls i) d s n refl h z
  one_changes p o g law below k here at (Chooses e i x) d s n w b h z =
      let c : Context = here.context in
      let a = first_holds (is_value p c f.Bool e) _ d h in
      let q = first_holds (judge_lines p here.method x c >>= end_block p c x) (λ y. branches_meet p c at y c) d a.2 in
      let r = block_judged p here.method x c c q.0 q.1 in
      let u : Uses = value_uses p c e ∪ block_outside p here x in
      let still : Type 0 = IsNoReturnAtAll (Chooses e i x) in
      rw (one-Chooses (stops_at p o) below here at e i x s n)
      (outcome_changes c u still s n n (truth_of p s e) at _ (λ y. refl)
      (λ test _. chosen_changes c u still s n test _ _
      (part_changes p here x u still s n _ z (covers_right (value_uses p c e) (block_outside p here x)) (λ y. y.1)
      (many_change p o g law below k (deeper 0 here) (whole_block x here) 0 x r.0 s n b r.1
      (record { method = z.method; right = z.right; state = z.state })))
      (nothing_done c u still s n)))
  one_changes p o g law below k here at (ChoosesElse e i x j y) d s n w b h z =
      let c : Context = here.context in
      let a = first_holds (is_value p c f.Bool e) _ d h in
      let q = first_holds (judge_lines p here.method x c >>= end_block p c x) _ d a.2 in
      let q' = first_holds (judge_lines p here.method y c >>= end_block p c y) (branches_meet p c at q.0) d q.2 in
      let r = block_judged p here.method x c c q.0 q.1 in
      let r' = block_judged p here.method y c c q'.0 q'.1 in
      let both : Uses = block_outside p here x ∪ block_outside p here y in
      let u : Uses = value_uses p c e ∪ both in
      let still : Type 0 = IsNoReturnAtAll (ChoosesElse e i x j y) in
      rw (one-ChoosesElse (stops_at p o) below here at e i x j y s n)
      (outcome_changes c u still s n n (truth_of p s e) at _ (λ y. refl)
      (λ test _. chosen_changes c u still s n test _ _
      (part_changes p here x u still s n _ z (covers_then (block_outside p here x) both u
      (covers_left (block_outside p here x) (block_outside p here y)) (covers_right (value_uses p c e) both))
      (λ v. v.1.0)
      (many_change p o g law below k (deeper 0 here) (whole_block x here) 0 x r.0 s n (b.0.0, b.1.0, b.2.0) r.1
      (record { method = z.method; right = z.right; state = z.state })))
      (part_changes p here y u still s n _ z (covers_then (block_outside p here y) both u
      (covers_right (block_outside p here x) (block_outside p here y)) (covers_right (value_uses p c e) both))
      (λ v. v.1.1)
      (many_change p o g law below k (deeper 1 here) (whole_block y here) 0 y r'.0 s n (b.0.1, b.1.1, b.2.1) r'.1
      (record { method = z.method; right = z.right; state = z.state })))))
  one_changes p o g law below k here at (Repeats e i x) d s n w b h z =
      let same : here.context ≡ d = (loop_judged p here.method at e i x here.context d h).same in
      rw (one-Repeats (stops_at p o) below here at e i x s n)
      (run_more here.context (value_uses p here.context e ∪ block_outside p here x)
      (value_uses p here.context e ∪ block_outside p here x) (NoReturns x) (IsNoReturnAtAll (Repeats e i x)) s n
      (again (stops_at p o) below here 0 at e x s n) (λ r v. v) (λ v. v.1)
      (again_changes p o g below k.keeps k.changes here 0 at e i x s n b
      (subst (λ (y : Context). Judges p here.method at (Repeats e i x) here.context y) (sym same) h) z))
  one_changes p o g law below k here at (Groups x) d s n w b h z =
      (simple_changes) p o g law below here at (Groups x) d s n refl w.1 h z
  one_changes p o g law below k here at (Splits gs i x) d s n w b h z = absurd (w.0)
  one_changes p o g law below k here at (Locks x i y) d s n w b h z = absurd (w.0)
  one_changes p o g law below k here at (Freezes x) d s n w b h z =
      (simple_changes) p o g law below here at (Freezes x) d s n refl w.1 h z
  one_changes p o g law below k here at (Shares x y) d s n w b h z =
      (simple_changes) p o g law below here at (Shares x y) d s n refl w.1 h z
  one_changes p o g law below k here at (Prints e) d s n w b h z =
      (simple_changes) p o g law below here at (Prints e) d s n refl w.1 h z
  one_changes p o g law below k here at (PrintsText x) d s n w b h z =
      (simple_changes) p o g law below here at (PrintsText x) d s n refl w.1 h z
  one_changes p o g law below k here at (Asserts e) d s n w b h z =
      (simple_changes) p o g law below here at (Asserts e) d s n refl w.1 h z
  one_changes p o g law below k here at (Returns e) d s n w b h z =
      (simple_changes) p o g law below here at (Returns e) d s n refl w.1 h z

  -- Judged statements, one after another, change only what they write.
  pub many_change : {W : Type 0} (p : Code) (o : Observer W) → Ground W p → ActsChangeBy W → (below : Option (Below W))
      → Lower p o below → (here : Where) (all : Scene) (j : ℕ) (b : Lines)
      (d : Context) (s : State) (n : Notes W) → InText p (Throughout b)
      → judge_lines p here.method b here.context ≡ Holds d → Stands p here s
      → RunChanges here.context (lines_use p here.method b here.context) (NoReturns b) s n
      (many (stops_at p o) below here all j b [] s n)
  many_change p o g law below k here all j End d s n w h z =
      rw (many-End (stops_at p o) below here all j [] s n)
      (nothing_done here.context (lines_use p here.method End here.context) (NoReturns End) s n)
  many_change p o g law below k here all j (Next at a b) d s n w h z =
      let m : Machine _ = stops_at p o in
      let c : Context = here.context in
      let r = first_holds (judge_statement p here.method at a c) (judge_lines p here.method b) d h in
      let there : Where = deeper j here in
      let marks : Notes _ = marked (Ran there.path at) n in
      let known : after p here.method at a c ≡ r.0 = ap (λ v. or_before v c) r.1 in
      let first : Uses = statement_uses p here.method a c in
      let rest : Uses = lines_use p here.method b r.0 in
      rw (many-Next m below here all j at a b [] s n)
      (subst (λ (v : Verdict Context). RunChanges c (first ∪ of_judged v (lines_use p here.method b))
      (NoReturns (Next at a b)) s n (and_then (one m below there at a s marks)
      (many m below (knowing (after p here.method at a c) here) all (suc j) b []))) (sym r.1)
      (run_more c (first ∪ rest) (first ∪ rest) (IsNoReturnAtAll a × NoReturns b) (NoReturns (Next at a b)) s n _
      (λ y v. v) (λ v. ((v.0, v.1), v.2))
      (same_log c (first ∪ rest) (IsNoReturnAtAll a × NoReturns b) s n marks _ refl
      (runs_then (Follows p here.method (is_return a) r.0 s) c r.0 first rest (IsNoReturnAtAll a) (NoReturns b) s marks
      (one m below there at a s marks) (many m below (knowing (after p here.method at a c) here) all (suc j) b [])
      (g.keeps p here.method at a c r.0 r.1)
      (one_follows p o g below k.keeps k.follow there at a r.0 s marks (w.0.0, w.1.0, w.2.0) (w.0.1, w.1.1, w.2.1) r.1
      (record { method = z.method; right = z.right; state = z.state }))
      (one_changes p o g law below k there at a r.0 s marks (w.0.0, w.1.0, w.2.0) (w.0.1, w.1.1, w.2.1) r.1
      (record { method = z.method; right = z.right; state = z.state }))
      (λ t x v. subst
      (λ (y : Context). RunChanges r.0 rest (NoReturns b) t x
      (many m below (knowing y here) all (suc j) b [] t x)) (sym known)
      (many_change p o g law below k (knowing r.0 here) all (suc j) b d t x (w.0.2, w.1.2, w.2.2) r.2
      (record {
        method = z.method;
        right = z.method.statement at a c r.0 w.2.0 w.2.1 z.right r.1;
        state = v.stands;
      })))))))
