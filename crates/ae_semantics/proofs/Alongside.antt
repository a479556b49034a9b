-- Two runs that go alongside each other with the same states: what a relation on notes and runs has to keep.
use Rattle.ae_rules.specs.Edges.{Uses}
use Rattle.std.proofs.Common.{◌≡◌, ◌⊎◌, ℕ, ℤ, suc, nat_eq, Bool, true, false, if◌then◌else◌, List, [], ◌∷◌, ◌++◌}
use Rattle.std.proofs.Common.{Option, None, Some, refl, ap, sym, subst, ◌∙◌}
use Rattle.ae_text.specs.declared.refusal.Spot.{Spot}
use Rattle.ae_tree.specs.declared.tree.NameAt.{NameAt}
use Rattle.ae_tree.specs.declared.form.Form.{Form}
use Rattle.ae_tree.specs.Names.{io}
use Rattle.ae_tree.specs.Plain.{Action, Invocation, Lines, End, Next, Locks, Code}
use Rattle.ae_rules.specs.Calls.{Callee, givens}
use Rattle.ae_rules.specs.Blocks.{Scene}
use Rattle.ae_rules.specs.Instances.{Instance}
use Rattle.ae_semantics.specs.Values.{all_low, Val}
use Rattle.ae_semantics.specs.Places.{Outcome, Fine, Traps, Lacks, ◌>>=◌, CellName, Here, Away, State, bind, with_store}
use Rattle.ae_semantics.specs.Expressions.{value}
use Rattle.ae_semantics.specs.Contexts.{after}
use Rattle.ae_semantics.specs.declared.report.Ending.{Ending}
use Rattle.ae_semantics.specs.declared.report.Ending.TheVariants.{Trap}
use Rattle.ae_semantics.specs.declared.report.Piece.{Piece}
use Rattle.ae_semantics.specs.Observations.{Origin, Image, OfStore, OfLog, Seen, Query, Mark, Ran, Notes, Observer}
use Rattle.ae_semantics.specs.Runs.{Run, Went, Ends, Stops, Act, and_then, outcome_given, marked, logged, deeper}
use Rattle.ae_semantics.specs.Runs.{Where, whole_block, splitting, locking, Order}
use Rattle.ae_semantics.specs.Calls.{Argument, CallFrame, frame, called_method, each_argument, group_given, enter}
use Rattle.ae_semantics.specs.Calls.{leave, without_moved}
use Rattle.ae_semantics.specs.Blocks.{cell_of, image_of, cell_at, log_back, store_back, values_in, out_fits}
use Rattle.ae_semantics.specs.Blocks.{with_out, with_values, pieces_in, else_uses, used}
use Rattle.ae_semantics.specs.Meaning.{assigned, does, forgotten, made, right_moved, one, block, below}
use Rattle.ae_semantics.specs.Means.{Start, run_start, no_notes, run}
use Rattle.ae_semantics.proofs.Related.{Stretch, Quiet, Of, From, Within, Joins, Tells, quiet_last, Both}
use Rattle.ae_semantics.proofs.Related.{answered_by, IsFree, Relation, Does, Forms, IsBlock, IsCall, IsLock, GoAway}
use Rattle.ae_semantics.proofs.Related.{ComeBack, away_to, back_to, Link, machine, begins, goes_on, related_one}
use Rattle.ae_semantics.proofs.Related.{related_block, related_below}
use Rattle.ae_rules.specs.Verdict as rules

-- ---- where statements may run

-- the statements of a block from a number on may run
abbrev pub MayRun : (Instance → Type 0) → Instance → ℕ → Lines → Type 0
MayRun ok q j End = Unit {0}
MayRun ok q j (Next at a rest) = ok (q ++ (j ∷ [])) × MayRun ok q (suc j) rest

may_run : (ok : Instance → Type 0) → ((q : Instance) (i : ℕ) → ok q → ok (q ++ (i ∷ []))) → (q : Instance) → ok q
    → (j : ℕ) (x : Lines) → MayRun ok q j x
may_run ok inner q h j End = tt
may_run ok inner q h j (Next at a rest) = (inner q j h, may_run ok inner q h (suc j) rest)

-- ---- calls

-- what is fine once is fine once alone
pub fine_same : {A : Type 0} (x y : A) → Fine x ≡ Fine y → x ≡ y
fine_same x y e = cc

-- the body of a call stands where the call does
frame_at : (p : Code) (here : Where) (s : State) (c : Callee) (groups : ℕ → ℕ) (o : Outcome (List Argument))
    (f : CallFrame) → (o >>= λ xs. Fine (frame p here s c groups xs)) ≡ Fine f → f.here.path ≡ here.path
frame_at p here s c groups (Fine xs) f e =
    sym (ap (λ (g : CallFrame). g.here.path) (fine_same (frame p here s c groups xs) f e))
frame_at p here s c groups (Traps code) f e = absurd (cc)
frame_at p here s c groups Lacks f e = absurd (cc)

pub entered_at : (p : Code) (here : Where) (s : State) (i : Invocation) (o : Outcome Callee) (f : CallFrame)
    → (o >>= λ c. each_argument p s (givens i) >>= λ xs. Fine (frame p here s c (group_given s c i) xs)) ≡ Fine f
    → f.here.path ≡ here.path
entered_at p here s i (Fine c) f e = frame_at p here s c (group_given s c i) (each_argument p s (givens i)) f e
entered_at p here s i (Traps code) f e = absurd (cc)
entered_at p here s i Lacks f e = absurd (cc)

-- ---- what is kept

-- A relation by notes: where two runs may begin, how what a stretch comes to is related to where it began, and the paths at which statements may run, and what is barred.
pub record Noted (V W : Type 0) : Type 1 where
  pub Start : Notes V → Notes W → Type 0
  pub Rel : Stretch → Notes V → Notes W → Run V → Run W → Type 0
  pub Ok : Instance → Type 0
  pub Bars : List ℕ → Type 0

-- the statement and what follows it are those of a block that this machine runs
pub record Going {W : Type 0} (u : Observer W) (d : Order W) (here : Where) (all : Scene) (j : ℕ) (g : Act W)
    (ho : List ℕ → Act W) : Type 0 where
  pub code : Code
  pub fuel : ℕ
  pub at : Spot
  pub action : Action
  pub rest : Lines
  pub begun : g ≡ begins (machine code u d) fuel (deeper j here) at action
  pub next : ho ≡ goes_on (machine code u d) fuel here at action all j rest

-- from the same state two acts lead to what is related
abbrev pub Goes : {V W : Type 0} (S : Noted V W) → Stretch → Act V → Act W → Type 0
Goes S c a b = (s : State) (n : Notes _) (m : Notes _) → S.Start n m → S.Rel c n m (a s n) (b s m)

abbrev pub IsNoted : {V W : Type 0} (S : Noted V W) → Stretch → Origin → V → W → Notes V → Notes W → Run V → Run W
    → Type 0
IsNoted S c from v w n m r q = ((r ≡ Stops n) × (q ≡ Stops m)) ⊎ S.Rel c (used from v n) (used from w m) r q

pub record Keeps {V W : Type 0} (S : Noted V W) (o : Observer V) (u : Observer W) (c : Order V) (d : Order W) : Type
    0 where
  pub inner : (q : Instance) (i : ℕ) → S.Ok q → S.Ok (q ++ (i ∷ []))
  pub went : Goes S Quiet (λ s n. Went s n) (λ s n. Went s n)
  pub ends : (e : Ending) → Goes S Quiet (λ s n. Ends e n) (λ s n. Ends e n)
  pub stops : Goes S Quiet (λ s n. Stops n) (λ s n. Stops n)
  pub widen : (a b : Stretch) → ((y : Instance) → Within a y → Within b y)
      → (n : Notes V) (m : Notes W) (r : Run V) (q : Run W) → S.Rel a n m r q → S.Rel b n m r q
  pub follows : (a b e : Stretch) → Joins a b e → (n : Notes V) (m : Notes W) (r : Run V) (q : Run W)
      → S.Rel a n m r q → (f : Act V) (g : Act W) → Goes S b f g
      → S.Rel e n m (and_then r f) (and_then q g)
  pub marks : (k : Mark) → IsFree k → (n : Notes V) (m : Notes W) → S.Start n m → S.Start (marked k n) (marked k m)
  pub runs : (q : Instance) (at : Spot) → S.Ok q → (n : Notes V) (m : Notes W) → S.Start n m
      → S.Start (marked (Ran q at) n) (marked (Ran q at) m)
  pub tells : (k : Mark) → IsFree k → (a b : Stretch) → Tells k a b
      → (n : Notes V) (m : Notes W) (r : Run V) (q : Run W) → S.Rel a (marked k n) (marked k m) r q → S.Rel b n m r q
  pub ran : (q : Instance) (at : Spot) → S.Ok q → (n : Notes V) (m : Notes W) (r : Run V) (z : Run W)
      → S.Rel (From q 0) (marked (Ran q at) n) (marked (Ran q at) m) r z → S.Rel (Of q) n m r z
  pub observes : (a : Stretch) (query : Query) (from : Origin) (n : Notes V) (m : Notes W) → S.Start n m
      → (f : Seen × V → Run V) (g : Seen × W → Run W)
      → ((seen : Seen) (v : V) (w : W) → S.Start (used from v n) (used from w m)
      → IsNoted S a from v w n m (f (seen, v)) (g (seen, w)))
      → S.Rel a n m (rules.given (o n.watch query) (Stops n) f) (rules.given (u m.watch query) (Stops m) g)
  -- the log and the cell of `io` are the same, and change alike
  pub logs : (n : Notes V) (m : Notes W) → S.Start n m → n.log ≡ m.log
  pub cells : (n : Notes V) (m : Notes W) → S.Start n m → n.cell ≡ m.cell
  pub relogs : (y : List Piece) (z : Option CellName) → Goes S Quiet (λ s n. Went s (record n { log = y; cell = z }))
      (λ s n. Went s (record n { log = y; cell = z }))
  -- the ways through a block
  pub no_bars : S.Bars []
  pub step : (here : Where) (all : Scene) (j : ℕ) (bars : List ℕ) → S.Bars bars → (f : Act V) (g : Act W)
      → Goes S (Of (here.path ++ (j ∷ []))) f g
      → (go : List ℕ → Act V) (ho : List ℕ → Act W)
      → ((xs : List ℕ) → S.Bars xs → Goes S (From here.path (suc j)) (go xs) (ho xs)) → Going u d here all j g ho
      → Goes S (From here.path j) (c.step here all j bars f go) (d.step here all j bars g ho)
  pub close : (bars : List ℕ) → S.Bars bars → Goes S Quiet (c.close bars) (d.close bars)

-- the relation on states too
abbrev pub relation : {V W : Type 0} → Noted V W → Relation V W
relation S = record {
  World = Unit {0};
  Start = λ k x. (x.s ≡ x.t) × S.Start x.n x.m;
  Rel = λ k l c x r q. S.Rel c x.n x.m r q;
  One = λ k l here at a. S.Ok here.path;
  Many = λ k l here all j y. MayRun S.Ok here.path j y;
  Asks = λ k. Unit {0};
  Bars = λ k xs ys. (xs ≡ ys) × S.Bars xs;
}

module _ {V W : Type 0} (S : Noted V W) (p : Code) (o : Observer V) (u : Observer W) (c : Order V) (d : Order W)
    (K : Keeps S o u c d) where
  on_both : (a : Stretch) (f : Act V) (g : Act W) → Goes S a f g → Does (relation S) tt tt a f g
  on_both a f g h x i = subst (λ (t : State). S.Rel a x.n x.m (f x.s x.n) (g t x.m)) i.0 (h x.s x.n x.m i.1)

  pub from_both : (a : Stretch) (f : Act V) (g : Act W) → Does (relation S) tt tt a f g → Goes S a f g
  from_both a f g h s n m i = h (record { s = s; n = n; t = s; m = m }) (refl, i)

  note_given : {A : Type 0} (a : Stretch) (n : Notes V) (m : Notes W) → S.Start n m
      → (y : Outcome A) (at : Spot) (f : A → Run V) (g : A → Run W) → ((z : A) → S.Rel a n m (f z) (g z))
      → State → S.Rel a n m (outcome_given y at n f) (outcome_given y at m g)
  note_given a n m h (Fine z) at f g e s = e z
  note_given a n m h (Traps code) at f g e s = K.widen Quiet a (λ y e. absurd e) n m _ _ (K.ends (Trap code at) s n m h)
  note_given a n m h Lacks at f g e s = K.widen Quiet a (λ y e. absurd e) n m _ _ (K.stops s n m h)

  note_appends : (y : List Piece) → Goes S Quiet (λ s n. Went s (record n { log = n.log ++ y }))
      (λ s n. Went s (record n { log = n.log ++ y }))
  note_appends y s n m h = subst
      (λ (z : Option CellName). S.Rel Quiet n m (Went s (record n { log = n.log ++ y }))
      (Went s (record m { log = m.log ++ y; cell = z }))) (K.cells n m h)
      (subst (λ (z : List Piece). S.Rel Quiet n m (Went s (record n { log = n.log ++ y }))
      (Went s (record m { log = z ++ y; cell = n.cell }))) (K.logs n m h)
      (K.relogs (n.log ++ y) n.cell s n m h))

  note_assigned : (at : Spot) (y : ℕ) (z : Form) (v : Val) → Goes S Quiet (assigned at y z v) (assigned at y z v)
  note_assigned at y z v s n m h = note_given Quiet n m h (bind y z v s) at (λ t. Went t n) (λ t. Went t m)
      (λ t. K.went t n m h) s

  note_passes : Does (relation S) tt tt Quiet (λ s n. Went s n) (λ s n. Went s n)
  note_passes = on_both Quiet (λ s n. Went s n) (λ s n. Went s n) K.went

  note_block : (here : Where) → S.Ok here.path → (y : Lines) → IsBlock (relation S) tt tt here y
  note_block here h y = (
    tt,
    may_run S.Ok K.inner here.path h 0 y,
    on_both Quiet
        (λ s n. Went (forgotten here.context s) n) (λ s n. Went (forgotten here.context s) n)
        (λ s n m i. K.went (forgotten here.context s) n m i),
  )

  same_image : (g : ℕ) (x : Both V W) → (x.s ≡ x.t) × S.Start x.n x.m → image_of g x.s x.n ≡ image_of g x.t x.m
  same_image g x i = ap (λ (s : State). image_of g s x.n) i.0
      ∙ ap (λ (y : List Piece). image_of g x.t (record x.n { log = y })) (K.logs x.n x.m i.1)

  note_away : (here : Where) (g : ℕ) → Goes S Quiet (away_to here g) (away_to here g)
  note_away here g s n m h = by_name (nat_eq io g)
    where
      by_name : (b : Bool) → S.Rel Quiet n m
          (if b then Went s (record n { cell = Some (cell_of here g) }) else Went
          (with_store g (Some (Away (cell_of here g))) s) n)
          (if b then Went s (record m { cell = Some (cell_of here g) }) else Went
          (with_store g (Some (Away (cell_of here g))) s) m)
      by_name true = subst (λ (z : List Piece). S.Rel Quiet n m (Went s (record n { cell = Some (cell_of here g) }))
          (Went s (record m { log = z; cell = Some (cell_of here g) }))) (K.logs n m h)
          (K.relogs n.log (Some (cell_of here g)) s n m h)
      by_name false = K.went (with_store g (Some (Away (cell_of here g))) s) n m h

  note_back : (g : ℕ) (image : Image) → Goes S Quiet (back_to g image) (back_to g image)
  note_back g image s n m h = by_name (nat_eq io g) image
    where
      by_name : (b : Bool) (image : Image)
          → S.Rel Quiet n m (if b then log_back image s n else store_back g image s n)
          (if b then log_back image s m else store_back g image s m)
      by_name true (OfStore st) = K.stops s n m h
      by_name true (OfLog pieces) = K.relogs pieces None s n m h
      by_name false (OfStore st) = by_height (all_low st)
        where
          by_height : (b : Bool) → S.Rel Quiet n m (if b then Went (with_store g (Some (Here st)) s) n else Stops n)
              (if b then Went (with_store g (Some (Here st)) s) m else Stops m)
          by_height true = K.went (with_store g (Some (Here st)) s) n m h
          by_height false = K.stops s n m h
      by_name false (OfLog pieces) = K.stops s n m h

  note_all_away : (here : Where) (gs : List NameAt) → GoAway (relation S) tt tt here gs
  note_all_away here [] = note_passes
  note_all_away here (g ∷ gs) = (
    tt,
    same_image g.name,
    on_both Quiet (away_to here g.name) (away_to here g.name)
        (note_away here g.name),
    note_all_away here gs,
  )

  note_all_back : (gs : List NameAt) → ComeBack (relation S) tt tt tt gs
  note_all_back [] = note_passes
  note_all_back (g ∷ gs) = (
    tt,
    tt,
    same_image g.name,
    (λ image. on_both Quiet (back_to g.name image) (back_to g.name image) (note_back g.name image)),
    note_all_back gs,
  )

  note_call : (here : Where) → S.Ok here.path → (at : Spot) (i : Invocation) → IsCall (relation S) p tt tt here at i
  note_call here h at i = record {
    enters = λ x j. ap (λ (s : State). enter p here i s) j.0;
    inner = λ x j f e. tt;
    outer = λ x j f e. tt;
    starts = λ x j f e. (refl, j.1);
    body = λ x j f e. note_block f.here (subst S.Ok (sym (entered_at p here x.s i (called_method p x.s i) f e)) h)
        f.callee.method.body;
    leaves = λ k x j f e r q y go ho g.
        subst (λ (t : State). S.Rel (From here.path 0) x.n x.m
        (and_then r (λ t n. outcome_given (leave f i x.s t) at n (λ y. go t.result y n)))
        (and_then q (λ w n. outcome_given (leave f i t w) at n (λ y. ho w.result y n)))) j.0
        (K.follows (From here.path 0) Quiet (From here.path 0) (quiet_last (From here.path 0)) x.n x.m r q
        (subst (λ (z : Instance). S.Rel (From z 0) x.n x.m r q) (entered_at p here x.s i (called_method p x.s i) f e) y)
        (λ t n. outcome_given (leave f i x.s t) at n (λ y. go t.result y n))
        (λ t n. outcome_given (leave f i x.s t) at n (λ y. ho t.result y n))
        (λ t n m l. note_given Quiet n m l (leave f i x.s t) at (λ y. go t.result y n) (λ y. ho t.result y m)
        (λ y. g t.result (record { s = y; n = n; t = y; m = m }) (refl, l)) t));
  }

  note_lock : (here : Where) → S.Ok here.path → (at : Spot) (g : NameAt) (number : ℕ) (y : Lines)
      → IsLock (relation S) p tt tt here at g number y
  note_lock here h at g number y =
      let us : Uses = else_uses p g.name (whole_block y (locking g here)) in
      record {
        cells = λ x i. ap (λ (s : State). cell_at g.name s x.n) i.0
            ∙ ap (λ (z : Option CellName). cell_at g.name x.t (record x.n { cell = z })) (K.cells x.n x.m i.1);
        asks = λ x i c e. tt;
        block = note_block (locking g here) h y;
        ins = λ x i. ap (λ (s : State). values_in (else_uses p g.name (whole_block y (locking g here))) s) i.0;
        fits = λ x i z. ap (λ (s : State). out_fits p (else_uses p g.name (whole_block y (locking g here)))
            (after p here.method at (Locks g number y) here.context) s z) i.0;
        gives = λ z x i f path v w j. on_both Quiet (with_out us z) (with_out us z)
            (λ s n m l. note_appends (pieces_in z.pieces) (with_values us z s) n m l) (answered_by path v w x) j;
      }

  pub forms : Forms (relation S) p
  forms = record {
    makes = λ k l here at a h e y z r. on_both Quiet
        (λ s n. outcome_given (made p e s) at n (λ r. assigned at y z r.0 (without_moved (right_moved p z e) r.1) n))
        (λ s n. outcome_given (made p e s) at n
        (λ r. assigned at y z r.0 (without_moved (right_moved p z e) r.1) n))
        (λ s n m i. note_given Quiet n m i (made p e s) at
        (λ r. assigned at y z r.0 (without_moved (right_moved p z e) r.1) n)
        (λ r. assigned at y z r.0 (without_moved (right_moved p z e) r.1) m)
        (λ r. note_assigned at y z r.0 (without_moved (right_moved p z e) r.1) n m i) s);
    effects = λ k l here at a h f e. on_both Quiet (λ s n. does at n (f s)) (λ s n. does at n (f s))
        (λ s n m i. note_given Quiet n m i (f s) at (λ t. Went t n) (λ t. Went t m) (λ t. K.went t n m i) s);
    groups = λ k l here at g h. on_both Quiet (λ s n. Went (with_store g.name (Some (Here [])) s) n)
        (λ s n. Went (with_store g.name (Some (Here [])) s) n)
        (λ s n m i. K.went (with_store g.name (Some (Here [])) s) n m i);
    prints = λ k l here at a h t y. on_both Quiet (λ s n. Went s (logged y n)) (λ s n. Went s (logged y n))
        (note_appends y);
    tests = λ k l here at a h e t x i. ap (λ (s : State). value p s e) i.0;
    passes = λ k l here at e h. note_passes;
    called = λ k l here at i h. (tt, note_call here h at i, note_passes);
    called_for = λ k l here at a h i y z t. (
      tt,
      note_call here h at i,
      λ v. on_both Quiet (assigned at y z v) (assigned at y z v)
          (note_assigned at y z v),
    );
    chooses = λ k l here at e nb b h. (note_block (deeper 0 here) (K.inner here.path 0 h) b, note_passes);
    chooses_else = λ k l here at e nb b nc y h.
        (note_block (deeper 0 here) (K.inner here.path 0 h) b, note_block (deeper 1 here) (K.inner here.path 1 h) y);
    repeats = λ k l here at e nb b h. (
      tt,
      record { starts = λ x i. i; ends = λ a x r q i. i },
      record {
        tested = λ x i. ap (λ (s : State). value p s e) i.0;
        turn = λ t. note_block (deeper t here) (K.inner here.path t h) b;
        passes = note_passes;
      },
    );
    splits = λ k l here at gs nb b h t. record {
      begun = tt;
      ended = tt;
      away = note_all_away here gs;
      block = note_block (splitting gs here) h b;
      back =
          note_all_back gs;
    };
    joins = λ k l here at gs nb b h t. note_block (splitting gs here) h b;
    locks = λ k l here at g nb b h. note_lock here h at g nb b;
  }

  pub link : Link (relation S) p o u c d
  link = record {
    ends = λ k l e. on_both Quiet (λ s n. Ends e n) (λ s n. Ends e n) (K.ends e);
    stops = λ k l. on_both Quiet (λ s n. Stops n) (λ s n. Stops n) K.stops;
    widen = λ k l a b f x r q h. K.widen a b f x.n x.m r q h;
    follows = λ k l m a b e j x r q h f g i. K.follows a b e j x.n x.m r q h f g
        (λ s n m y. i (record { s = s; n = n; t = s; m = m }) (refl, y));
    marks = λ k m f a x h. (h.0, K.marks m f x.n x.m h.1);
    runs = λ k l here at a h x i. (i.0, K.runs here.path at h x.n x.m i.1);
    tells = λ k l m f e a b t x r q h. K.tells m f a b t x.n x.m r q h;
    ran = λ k l here at a h x r q i. K.ran here.path at h x.n x.m r q i;
    observes = λ k l e a query from x h f g i. K.observes a query from x.n x.m h.1 f g
        (λ seen v w j. i seen v w (h.0, j));
    no_bars = λ k. (refl, K.no_bars);
    step = λ k l here all j at a rest s bars cars e fuel h i x y.
        let f : Act V = begins (machine p o c) fuel (deeper j here) at a in
        let g : Act W = begins (machine p u d) fuel (deeper j here) at a in
        let go : List ℕ → Act V = goes_on (machine p o c) fuel here at a all j rest in
        let ho : List ℕ → Act W = goes_on (machine p u d) fuel here at a all j rest in
        subst (λ (z : List ℕ). S.Rel (From here.path j) x.n x.m (c.step here all j bars f go x.s x.n)
        (d.step here all j z g ho x.t x.m)) e.0
        (on_both (From here.path j) (c.step here all j bars f go) (d.step here all j bars g ho)
        (K.step here all j bars e.1 f g (from_both (Of (here.path ++ (j ∷ []))) f g (h tt tt s.0)) go ho
        (λ xs b. from_both (From here.path (suc j)) (go xs) (ho xs) (i tt tt s.1 xs xs (refl, b)))
        (record { code = p; fuel = fuel; at = at; action = a; rest = rest; begun = refl; next = refl })) x y);
    close = λ k l here all j h bars cars e x y. subst
        (λ (z : List ℕ). S.Rel Quiet x.n x.m (c.close bars x.s x.n) (d.close z x.t x.m)) e.0
        (on_both Quiet (c.close bars) (d.close bars) (K.close bars e.1) x y);
  }

  -- a statement, a block, and a whole run
  pub along_one : (fuel : ℕ) (here : Where) (at : Spot) (a : Action) → S.Ok here.path
      → Goes S (From here.path 0) (one (machine p o c) (below (machine p o c) fuel) here at a)
      (one (machine p u d) (below (machine p u d) fuel) here at a)
  along_one fuel here at a h = from_both (From here.path 0) _ _
      (related_one (relation S) p o u c d forms link fuel (related_below (relation S) p o u c d forms link fuel) tt tt
      here at a h)

  pub along_block : (fuel : ℕ) (here : Where) (y : Lines) → MayRun S.Ok here.path 0 y
      → Goes S (From here.path 0) (block (machine p o c) (below (machine p o c) fuel) here y)
      (block (machine p u d) (below (machine p u d) fuel) here y)
  along_block fuel here y h = from_both (From here.path 0) _ _
      (related_block (relation S) p o u c d forms link fuel (related_below (relation S) p o u c d forms link fuel) tt
      tt here y (
        tt,
        h,
        on_both Quiet (λ s n. Went (forgotten here.context s) n) (λ s n. Went (forgotten here.context s) n)
            (λ s n m i. K.went (forgotten here.context s) n m i),
      ))

  pub along_run : ((q : Instance) → S.Ok q) → (ints : List ℤ) (fuel : ℕ) (v : V) (w : W)
      → S.Start (no_notes v) (no_notes w)
      → (P : Run V → Run W → Type 0)
      → ((a : Stretch) (r : Run V) (q : Run W) → S.Rel a (no_notes v) (no_notes w) r q → P r q)
      → P (run (machine p o c) ints fuel v) (run (machine p u d) ints fuel w)
  along_run ok ints fuel v w h P f = by_start (run_start p ints)
    where
      by_start : (x : Option Start) → P
          (rules.given x (Stops (no_notes v))
          (λ (y : Start). block (machine p o c) (below (machine p o c) fuel) y.here y.method.body y.state
          (no_notes v)))
          (rules.given x (Stops (no_notes w))
          (λ (y : Start). block (machine p u d) (below (machine p u d) fuel) y.here y.method.body y.state
          (no_notes w)))
      by_start None = f Quiet _ _ (K.stops (record { locals = λ x. None; groups = λ g. None; result = None })
          (no_notes v) (no_notes w) h)
      by_start (Some x) = f (From x.here.path 0) _ _
          (along_block fuel x.here x.method.body (may_run S.Ok K.inner x.here.path (ok x.here.path) 0 x.method.body)
          x.state (no_notes v) (no_notes w) h)
