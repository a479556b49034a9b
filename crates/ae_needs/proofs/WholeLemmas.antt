-- Where no group is split, each judged statement and block of an accepted program goes alike from states that agree on
-- what it uses.
use Rattle.std.proofs.Common.{◌≡◌, refl, sym, ap, subst, ℕ, suc, not, Bool, true, false, [], Option, None}
use Rattle.std.proofs.Common.{Some}
use Rattle.std.specs.Prelude.{⊤}
use Rattle.std.proofs.lemmas.Bool.{or_left}
use Rattle.ae_text.specs.declared.refusal.Spot.{Spot}
use Rattle.ae_tree.specs.declared.form.Form.TheVariants as f
use Rattle.ae_tree.specs.Plain.{Expression, Lines, End, Next, Code}
use Rattle.ae_tree.specs.Plain.{Action, Declares, Assigns, Stores, StoresAt, Calls, Chooses, ChoosesElse, Repeats}
use Rattle.ae_tree.specs.Plain.{Groups, Splits, Locks, Freezes, Shares, Prints, PrintsText, Asserts, Returns}
use Rattle.ae_rules.specs.declared.uses.Resource.{Resource}
use Rattle.ae_rules.specs.Edges.{Uses}
use Rattle.ae_rules.specs.Verdict.{Holds, ◌>>=◌}
use Rattle.ae_rules.specs.Context.{Context, closed}
use Rattle.ae_rules.specs.Expressions.{is_value}
use Rattle.ae_rules.specs.EdgeLaws.{ChangesAreUsed}
use Rattle.ae_rules.specs.Statements.{end_block, branches_meet, judge_statement, judge_lines}
use Rattle.ae_rules.specs.Judges.{Judges, is_return, returns}
use Rattle.ae_rules.specs.Paths.{is_call}
use Rattle.ae_rules.specs.Blocks.{Scene}
use Rattle.ae_rules.specs.Uses.{◌∪◌, outside, value_uses, statement_uses, lines_use}
use Rattle.ae_semantics.specs.Values.{Val}
use Rattle.ae_semantics.specs.Places.{Outcome, State}
use Rattle.ae_semantics.specs.Places as places
use Rattle.ae_semantics.specs.Expressions.{truth, truth_of}
use Rattle.ae_semantics.specs.Contexts.{after, or_before}
use Rattle.ae_semantics.specs.Equations.{one-Chooses, one-ChoosesElse, one-Repeats, many-End, many-Next, branch}
use Rattle.ae_semantics.specs.Observations.{Ran, Turned, Notes, Observer}
use Rattle.ae_semantics.specs.Runs.{Act, and_then, paid, marked, Where, deeper, knowing, whole_block}
use Rattle.ae_semantics.specs.Runs.{Machine, Below}
use Rattle.ae_semantics.specs.Means.{stops_at}
use Rattle.ae_semantics.specs.Meaning.{again, one, many}
use Rattle.ae_soundness.specs.Laws.{is_without_calls}
use Rattle.ae_soundness.specs.Whole.{StandsAt, is_calling}
use Rattle.ae_needs.specs.Agree.{Agree, Covers, with_used, GoAlike}
use Rattle.ae_needs.specs.Laws.{ReadsItsUses, ActsReadBy}
use Rattle.ae_needs.proofs.AgreeLemmas.{AllIn, in_left, in_right, agree_on}
use Rattle.ae_needs.proofs.AlikeLemmas.{prints_nothing, alike_so, from_outcomes, after_prints}
use Rattle.ae_needs.proofs.ValueLemmas.{Known, form_alike}
use Rattle.ae_needs.proofs.NewLemmas.{UseLaws, plain_in, used_in}
use Rattle.ae_needs.proofs.ActLemmas.{plainly}
use Rattle.ae_needs.proofs.BlockLemmas.{left_alike, outside_covers, chosen_alike, runs_with}
use Rattle.ae_needs.proofs.LineLemmas.{first_covered, rest_covered, used_later}
use Rattle.ae_needs.proofs.from_rules.PathLemmas.{first_holds}
use Rattle.ae_needs.proofs.from_soundness.FollowLemmas.{Follows, block_judged}
use Rattle.ae_needs.proofs.from_soundness.WholeLemmas.{Ground, InText, Itself, Inside, Throughout, Stands, BelowKeeps}
use Rattle.ae_needs.proofs.from_soundness.WholeLemmas.{CallsFollow, LoopJudged, loop_judged, same_after, one_follows}

-- ---- what is given

-- the laws by which the induction goes
pub record Reading (W : Type 0) (p : Code) : Type 0 where
  pub ground : Ground W p
  pub uses : UseLaws
  pub changes : ChangesAreUsed
  pub acts : ActsReadBy W

-- blocks are left alike
abbrev pub BlocksRead : {W : Type 0} → Code → (Where → Lines → Act W) → Type 0
BlocksRead p act = (here : Where) (b : Lines) (d : Context) (on : Resource → Bool) (s t : State) (n k : Notes _)
    → InText p (Throughout b) → judge_lines p here.method b here.context ≡ Holds d → Stands p here s → Stands p here t
    → Covers on here.context (lines_use p here.method b here.context) → Agree on s t
    → GoAlike (Agree on) n k (act here b s n) (act here b t k)

-- loops go alike
abbrev pub LoopsRead : {W : Type 0} → Code → (Where → ℕ → Spot → Expression → Lines → Act W) → Type 0
LoopsRead p act = (here : Where) (turn : ℕ) (at : Spot) (e : Expression) (i : ℕ) (b : Lines) (on : Resource → Bool)
    (s t : State) (n k : Notes _) → InText p (Throughout b)
    → Judges p here.method at (Repeats e i b) here.context here.context → Stands p here s → Stands p here t
    → AllIn on (statement_uses p here.method (Repeats e i b) here.context) → Agree on s t
    → GoAlike (Agree on) n k (act here turn at e b s n) (act here turn at e b t k)

-- so it is with what there is with less fuel
abbrev pub BelowReads : {W : Type 0} → Code → Option (Below W) → Type 0
BelowReads p None = Unit {0}
BelowReads p (Some run) = BlocksRead p run.block × LoopsRead p run.again

-- each judged statement that calls goes alike
abbrev pub CallsRead : {W : Type 0} → Machine W → Option (Below W) → Type 0
CallsRead m below = (here : Where) (at : Spot) (a : Action) (d : Context) → is_calling a ≡ true
    → Judges m.code here.method at a here.context d → ReadsItsUses StandsAt m below here at a

-- what there is with less fuel keeps standing and reads what it uses, and so do calls
pub record Less {W : Type 0} (p : Code) (o : Observer W) (below : Option (Below W)) : Type 0 where
  pub keeps : BelowKeeps p below
  pub follow : CallsFollow (stops_at p o) below
  pub reads : BelowReads p below
  pub calls : CallsRead (stops_at p o) below

-- ---- tests

-- a judged test comes to the same truth
truth_alike : (on : Resource → Bool) (p : Code) (c : Context) (s t : State) → Known on p c s t → (e : Expression)
    (u : ⊤) → is_value p c f.Bool e ≡ Holds u → AllIn on (value_uses p c e) → truth_of p s e ≡ truth_of p t e
truth_alike on p c s t k e u h i = ap (λ (y : Outcome Val). places.◌>>=◌ y truth)
    (form_alike on p c s t k e f.Bool u h i)

-- ---- loops

-- A judged loop goes alike from each turn.
pub again_alike : {W : Type 0} (p : Code) (o : Observer W) → Reading W p → (below : Option (Below W))
    → Less p o below → LoopsRead p (again (stops_at p o) below)
again_alike {W} p o g below l here turn at e i b on s t n k w h y z all a =
    after_prints (Agree on) n k first second (again (stops_at p o) below here turn at e b s n)
    (again (stops_at p o) below here turn at e b t k) (prints_nothing n.log k.log)
    (from_outcomes (Agree on) (truth_of p s e) (truth_of p t e) at first second _ _
    (truth_alike on p c s t (record { fits = y.state.0; agree = a }) e j.unit j.test
    (in_left on (value_uses p c e) inner all))
    (λ test _. chosen_alike (Agree on) first second test _ _ _ _ (by_fuel below l.keeps l.reads)
    (a, prints_nothing first.log second.log)))
  where
    c : Context
    c = here.context

    first : Notes W
    first = marked (Turned here.path turn) n

    second : Notes W
    second = marked (Turned here.path turn) k

    inner : Uses
    inner = outside c (lines_use p here.method b c)

    j : LoopJudged p here.method e b c c
    j = loop_judged p here.method at e i b c c h

    same : closed c j.inside ≡ c
    same = same_after p g.ground here.method b c j.inside y.right j.lines j.alike

    covers : Covers on c (lines_use p here.method b c)
    covers = outside_covers on c (lines_use p here.method b c) (in_right on (value_uses p c e) inner all)

    -- what follows a turn stands where the loop does
    after_turn : (u v : State) → Follows p here.method (returns b) (closed c j.inside) u v → Stands p here v
    after_turn u v x = record {
      method = y.method;
      right = y.right;
      state = subst (λ (d : Context). StandsAt p d v) same x.stands;
    }

    by_fuel : (less : Option (Below W)) → BelowKeeps p less → BelowReads p less
        → GoAlike (Agree on) first second
        (paid less at first (λ run. and_then (run.block (deeper turn here) b s first) (run.again here
        (suc turn) at e b)))
        (paid less at second (λ run. and_then (run.block (deeper turn here) b t second) (run.again here
        (suc turn) at e b)))
    by_fuel None q r = (refl, prints_nothing first.log second.log)
    by_fuel (Some run) q r = runs_with (Agree on) (Agree on)
        (Follows p here.method (returns b) (closed c j.inside) s)
        (Follows p here.method (returns b) (closed c j.inside) t) first second
        (run.block (deeper turn here) b s first) (run.block (deeper turn here) b t second)
        (run.again here (suc turn) at e b) (run.again here (suc turn) at e b)
        (r.0 (deeper turn here) b j.inside on s t first second w j.lines
        (record { method = y.method; right = y.right; state = y.state })
        (record { method = z.method; right = z.right; state = z.state }) covers a)
        (q.0 (deeper turn here) b j.inside s first w j.lines
        (record { method = y.method; right = y.right; state = y.state }))
        (q.0 (deeper turn here) b j.inside t second w j.lines
        (record { method = z.method; right = z.right; state = z.state }))
        (λ u v x x' m fu fv. r.1 here (suc turn) at e i b on u v x x' w h (after_turn s u fu) (after_turn t v fv) all m)

-- ---- statements

-- a statement without blocks goes alike, whether it calls or not
flat_alike : {W : Type 0} (p : Code) (o : Observer W) → Reading W p → (below : Option (Below W)) → Less p o below
    → (here : Where) (at : Spot) (a : Action) (d : Context) (b : Bool) → is_calling a ≡ b
    → (b ≡ false → is_without_calls a ≡ true) → Judges p here.method at a here.context d
    → ReadsItsUses StandsAt (stops_at p o) below here at a
flat_alike p o g below l here at a d true e n h on s t x y z u i m = l.calls here at a d e h on s t x y z u i m
flat_alike p o g below l here at a d false e n h on s t x y z u i m =
    g.acts (stops_at p o) below here at a d (n refl) h on s t x y z.0 u.0 i m

-- a branch is left alike where its statements go alike
abbrev BranchAlike : {W : Type 0} → (Resource → Bool) → Machine W → Option (Below W) → ℕ → Where → Lines → State → State
    → Notes W → Notes W → Type 0
BranchAlike on m below i here b s t n k = GoAlike (Agree on) n k (branch m below i here b s n)
    (branch m below i here b t k)

branch_alike : {W : Type 0} (on : Resource → Bool) (m : Machine W) (below : Option (Below W)) (i : ℕ) (here : Where)
    (b : Lines) (s t : State) (n k : Notes W)
    → GoAlike (Agree (with_used (lines_use m.code here.method b here.context) on)) n k
    (many m below (deeper i here) (whole_block b here) 0 b [] s n)
    (many m below (deeper i here) (whole_block b here) 0 b [] t k)
    → BranchAlike on m below i here b s t n k
branch_alike on m below i here b s t n k h = left_alike on
    (with_used (lines_use m.code here.method b here.context) on) here.context n k _ _ (λ r e j. or_left (on r) _ e) h

mutual
  -- A judged statement goes alike.
  pub one_alike : {W : Type 0} (p : Code) (o : Observer W) → Reading W p → (below : Option (Below W))
      → Less p o below → (here : Where) (at : Spot) (a : Action) (d : Context) → InText p (Itself a)
      → InText p (Inside a) → Judges p here.method at a here.context d → (on : Resource → Bool) (s t : State)
      (n k : Notes W) → Stands p here s → Stands p here t
      → Covers on here.context (statement_uses p here.method a here.context) → Agree on s t
      → GoAlike (Agree (with_used (statement_uses p here.method a here.context) on)) n k
      (one (stops_at p o) below here at a s n) (one (stops_at p o) below here at a t k)
  one_alike p o g below l here at (Declares ty x e) d w b h on s t n k y z i m =
      (flat_alike) p o g below l here at (Declares ty x e) d (is_call e) refl (λ j. ap not j) h on s t n k y.state
      z.state
      i m
  one_alike p o g below l here at (Assigns x e) d w b h on s t n k y z i m =
      (flat_alike) p o g below l here at (Assigns x e) d (is_call e) refl (λ j. ap not j) h on s t n k y.state
      z.state i m
  one_alike p o g below l here at (Stores path e) d w b h on s t n k y z i m =
      (flat_alike) p o g below l here at (Stores path e) d false refl (λ j. refl) h on s t n k y.state z.state i m
  one_alike p o g below l here at (StoresAt path j e) d w b h on s t n k y z i m =
      (flat_alike) p o g below l here at (StoresAt path j e) d false refl (λ j. refl) h on s t n k y.state z.state i m
  one_alike p o g below l here at (Calls j) d w b h on s t n k y z i m =
      (flat_alike) p o g below l here at (Calls j) d true refl (λ j. absurd (cc j)) h on s t n k y.state z.state i m
  one_alike p o g below l here at (Chooses e j x) d w b h on s t n k y z i m =
      let c : Context = here.context in
      let u : Uses = statement_uses p here.method (Chooses e j x) c in
      let all : AllIn on u = plain_in g.uses on p here.method at (Chooses e j x) c d
      (record { locals = λ b x. refl; groups = refl }) h i in
      let a = first_holds (is_value p c f.Bool e) _ d h in
      let q = first_holds (judge_lines p here.method x c >>= end_block p c x) (λ y. branches_meet p c at y c) d a.2 in
      let r = block_judged p here.method x c c q.0 q.1 in
      rw (one-Chooses (stops_at p o) below here at e j x s n, one-Chooses (stops_at p o) below here at e j x t k)
      (plainly on u n k _ _ all
      (from_outcomes (Agree on) (truth_of p s e) (truth_of p t e) at n k _ _
      (truth_alike on p c s t (record { fits = y.state.0; agree = m }) e a.0 a.1
      (in_left on (value_uses p c e) (outside c (lines_use p here.method x c)) all))
      (λ test _. chosen_alike (Agree on) n k test _ _ _ _
      (branch_alike on (stops_at p o) below 0 here x s t n k
      (many_alike p o g below l (deeper 0 here) (whole_block x here) 0 x r.0 b r.1 on s t n k
      (record { method = y.method; right = y.right; state = y.state })
      (record { method = z.method; right = z.right; state = z.state })
      (outside_covers on c (lines_use p here.method x c)
      (in_right on (value_uses p c e) (outside c (lines_use p here.method x c)) all)) m))
      (m, prints_nothing n.log k.log))))
  one_alike p o g below l here at (ChoosesElse e j x j' x') d w b h on s t n k y z i m =
      let c : Context = here.context in
      let u : Uses = statement_uses p here.method (ChoosesElse e j x j' x') c in
      let v : Uses = outside c (lines_use p here.method x c) in
      let v' : Uses = outside c (lines_use p here.method x' c) in
      let all : AllIn on u = plain_in g.uses on p here.method at (ChoosesElse e j x j' x') c d
      (record { locals = λ b x. refl; groups = refl }) h i in
      let rest : AllIn on (v ∪ v') = in_right on (value_uses p c e) (v ∪ v') all in
      let a = first_holds (is_value p c f.Bool e) _ d h in
      let q = first_holds (judge_lines p here.method x c >>= end_block p c x) _ d a.2 in
      let q' = first_holds (judge_lines p here.method x' c >>= end_block p c x') (branches_meet p c at q.0) d q.2 in
      let r = block_judged p here.method x c c q.0 q.1 in
      let r' = block_judged p here.method x' c c q'.0 q'.1 in
      rw (
        one-ChoosesElse (stops_at p o) below here at e j x j' x' s n,
        one-ChoosesElse (stops_at p o) below here at e j x j' x' t k,
      )
      (plainly on u n k _ _ all
      (from_outcomes (Agree on) (truth_of p s e) (truth_of p t e) at n k _ _
      (truth_alike on p c s t (record { fits = y.state.0; agree = m }) e a.0 a.1
      (in_left on (value_uses p c e) (v ∪ v') all))
      (λ test _. chosen_alike (Agree on) n k test _ _ _ _
      (branch_alike on (stops_at p o) below 0 here x s t n k
      (many_alike p o g below l (deeper 0 here) (whole_block x here) 0 x r.0 (b.0.0, b.1.0, b.2.0) r.1 on s t n k
      (record { method = y.method; right = y.right; state = y.state })
      (record { method = z.method; right = z.right; state = z.state })
      (outside_covers on c (lines_use p here.method x c) (in_left on v v' rest)) m))
      (branch_alike on (stops_at p o) below 1 here x' s t n k
      (many_alike p o g below l (deeper 1 here) (whole_block x' here) 0 x' r'.0 (b.0.1, b.1.1, b.2.1) r'.1 on s t n k
      (record { method = y.method; right = y.right; state = y.state })
      (record { method = z.method; right = z.right; state = z.state })
      (outside_covers on c (lines_use p here.method x' c) (in_right on v v' rest)) m)))))
  one_alike p o g below l here at (Repeats e j x) d w b h on s t n k y z i m =
      let c : Context = here.context in
      let u : Uses = statement_uses p here.method (Repeats e j x) c in
      let all : AllIn on u = plain_in g.uses on p here.method at (Repeats e j x) c d
      (record { locals = λ b x. refl; groups = refl }) h i in
      let same : c ≡ d = (loop_judged p here.method at e j x c d h).same in
      rw (one-Repeats (stops_at p o) below here at e j x s n, one-Repeats (stops_at p o) below here at e j x t k)
      (plainly on u n k _ _ all
      (again_alike p o g below l here 0 at e j x on s t n k b
      (subst (λ (y : Context). Judges p here.method at (Repeats e j x) c y) (sym same) h) y z all m))
  one_alike p o g below l here at (Groups x) d w b h on s t n k y z i m =
      (flat_alike) p o g below l here at (Groups x) d false refl (λ j. refl) h on s t n k y.state z.state i m
  one_alike p o g below l here at (Splits gs j x) d w b h on s t n k y z i m = absurd (w.0)
  one_alike p o g below l here at (Locks x j x') d w b h on s t n k y z i m = absurd (w.0)
  one_alike p o g below l here at (Freezes x) d w b h on s t n k y z i m =
      (flat_alike) p o g below l here at (Freezes x) d false refl (λ j. refl) h on s t n k y.state z.state i m
  one_alike p o g below l here at (Shares x x') d w b h on s t n k y z i m =
      (flat_alike) p o g below l here at (Shares x x') d false refl (λ j. refl) h on s t n k y.state z.state i m
  one_alike p o g below l here at (Prints e) d w b h on s t n k y z i m =
      (flat_alike) p o g below l here at (Prints e) d false refl (λ j. refl) h on s t n k y.state z.state i m
  one_alike p o g below l here at (PrintsText x) d w b h on s t n k y z i m =
      (flat_alike) p o g below l here at (PrintsText x) d false refl (λ j. refl) h on s t n k y.state z.state i m
  one_alike p o g below l here at (Asserts e) d w b h on s t n k y z i m =
      (flat_alike) p o g below l here at (Asserts e) d false refl (λ j. refl) h on s t n k y.state z.state i m
  one_alike p o g below l here at (Returns e) d w b h on s t n k y z i m =
      (flat_alike) p o g below l here at (Returns e) d false refl (λ j. refl) h on s t n k y.state z.state i m

  -- Judged statements, one after another, go alike.
  pub many_alike : {W : Type 0} (p : Code) (o : Observer W) → Reading W p → (below : Option (Below W))
      → Less p o below → (here : Where) (all : Scene) (j : ℕ) (b : Lines) (d : Context) → InText p (Throughout b)
      → judge_lines p here.method b here.context ≡ Holds d → (on : Resource → Bool) (s t : State) (n k : Notes W)
      → Stands p here s → Stands p here t
      → Covers on here.context (lines_use p here.method b here.context) → Agree on s t
      → GoAlike (Agree (with_used (lines_use p here.method b here.context) on)) n k
      (many (stops_at p o) below here all j b [] s n) (many (stops_at p o) below here all j b [] t k)
  many_alike p o g below l here all j End d w h on s t n k y z i m =
      rw (many-End (stops_at p o) below here all j [] s n, many-End (stops_at p o) below here all j [] t k) (
        agree_on on (with_used (lines_use p here.method End here.context) on) s t (used_in on
            (lines_use p here.method End here.context) (λ r e. absurd (cc e))) m,
        prints_nothing n.log k.log,
      )
  many_alike p o g below l here all j (Next at a b) d w h on s t n k y z i m =
      let c : Context = here.context in
      let x : Machine _ = stops_at p o in
      let r = first_holds (judge_statement p here.method at a c) (judge_lines p here.method b) d h in
      let there : Where = deeper j here in
      let first : Notes _ = marked (Ran there.path at) n in
      let second : Notes _ = marked (Ran there.path at) k in
      let known : after p here.method at a c ≡ r.0 = ap (λ v. or_before v c) r.1 in
      let u : Uses = statement_uses p here.method a c in
      let S : State → State → Type 0 = Agree (with_used (lines_use p here.method (Next at a b) c) on) in
      rw (many-Next x below here all j at a b [] s n, many-Next x below here all j at a b [] t k)
      (after_prints S n k first second
      (and_then (one x below there at a s first)
      (many x below (knowing (after p here.method at a c) here) all (suc j) b []))
      (and_then (one x below there at a t second)
      (many x below (knowing (after p here.method at a c) here) all (suc j) b [])) (prints_nothing n.log k.log)
      (runs_with (Agree (with_used u on)) S (Follows p here.method (is_return a) r.0 s)
      (Follows p here.method (is_return a) r.0 t) first second (one x below there at a s first)
      (one x below there at a t second)
      (many x below (knowing (after p here.method at a c) here) all (suc j) b [])
      (many x below (knowing (after p here.method at a c) here) all (suc j) b [])
      (one_alike p o g below l there at a r.0 (w.0.0, w.1.0, w.2.0) (w.0.1, w.1.1, w.2.1) r.1 on s t first second
      (record { method = y.method; right = y.right; state = y.state })
      (record { method = z.method; right = z.right; state = z.state })
      (first_covered p here.method at a b c r.0 r.1 on i) m)
      (one_follows p o g.ground below l.keeps l.follow there at a r.0 s first (w.0.0, w.1.0, w.2.0)
      (w.0.1, w.1.1, w.2.1)
      r.1 (record { method = y.method; right = y.right; state = y.state }))
      (one_follows p o g.ground below l.keeps l.follow there at a r.0 t second (w.0.0, w.1.0, w.2.0)
      (w.0.1, w.1.1, w.2.1) r.1 (record { method = z.method; right = z.right; state = z.state }))
      (λ s' t' n' k' q fs ft. subst (λ (e : Context). GoAlike S n' k'
      (many x below (knowing e here) all (suc j) b [] s' n') (many x below (knowing e here) all (suc j) b [] t' k'))
      (sym known)
      (alike_so (Agree (with_used (lines_use p here.method b r.0) (with_used u on))) S n' k'
      (many x below (knowing r.0 here) all (suc j) b [] s' n') (many x below (knowing r.0 here) all (suc j) b [] t' k')
      (many_alike p o g below l (knowing r.0 here) all (suc j) b d (w.0.2, w.1.2, w.2.2) r.2
      (with_used u on) s' t' n' k'
      (record {
        method = y.method;
        right = y.method.statement at a c r.0 w.2.0 w.2.1 y.right r.1;
        state = fs.stands;
      })
      (record {
        method = z.method;
        right = z.method.statement at a c r.0 w.2.0 w.2.1 z.right r.1;
        state = ft.stands;
      })
      (rest_covered p here.method at a b c r.0 r.1 g.changes on i) q)
      (λ s'' t'' e. agree_on (with_used (lines_use p here.method b r.0) (with_used u on))
      (with_used (lines_use p here.method (Next at a b) c) on) s'' t'' (used_later p here.method at a b c r.0 r.1 on)
      e)))))
