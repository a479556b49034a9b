-- The run past what stopped beside the run up to the first ending, with the same observer: where that goes through, both are the same;
-- where it ends or stops, the other one does so too, or its first stop is that one.
use Rattle.std.proofs.Common.{◌≡◌, ◌⊎◌, inl, inr, refl, ap, sym, subst, ◌∙◌, ℕ, suc, ℤ, Bool, true, false, List, []}
use Rattle.std.proofs.Common.{◌∷◌, ◌++◌, Option, None, Some}
use Rattle.std.specs.Prelude.{⊤}
use Rattle.std.proofs.lemmas.List.{append_assoc}
use Rattle.ae_tree.specs.Plain.{Lines, End, Next, Code}
use Rattle.ae_rules.specs.Blocks.{Scene}
use Rattle.ae_rules.specs.Instances.{Instance}
use Rattle.ae_rules.specs.Verdict as rules
use Rattle.ae_semantics.specs.Places.{State}
use Rattle.ae_semantics.specs.Contexts.{after}
use Rattle.ae_semantics.specs.declared.report.Ending.{Ending}
use Rattle.ae_semantics.specs.Observations.{Origin, Mark, Ran, Turned, Entered, Asked, Used, Stopped, Seen, Notes}
use Rattle.ae_semantics.specs.Observations.{Observer}
use Rattle.ae_semantics.specs.Runs.{Run, Went, Ends, Stops, Act, and_then, chosen, marked, deeper, Where, knowing}
use Rattle.ae_semantics.specs.Runs.{Below, stopping, flowing, flow_step, flow_close, is_left_out, absent, gone_on}
use Rattle.ae_semantics.specs.Blocks.{used}
use Rattle.ae_semantics.specs.Meaning.{begun, one, many, below}
use Rattle.ae_semantics.specs.Means.{run, notes_of, stops_at}
use Rattle.ae_semantics.specs.Atom.{by_query}
use Rattle.ae_semantics.specs.PastStops.{FirstStop, GoesPast, NoStop, RunsGoPast, StatementsGoPast}
use Rattle.ae_semantics.proofs.Related.{IsFree, Quiet, Of, From, machine}
use Rattle.ae_semantics.proofs.Alongside.{Noted, IsNoted, Going, Goes, Keeps, along_one, along_run}
use Rattle.ae_semantics.proofs.Alone.{Alone, Stays, alone_many, alone_run}
use Rattle.ae_semantics.proofs.Growing.{Grows, growing, grows_none, grows_after, grows_then, grows_gone}
use Rattle.ae_semantics.proofs.Growing.{grows_chosen, grows_observed}
use Rattle.ae_semantics.proofs.Fresh.{all_free}

closes : {W : Type 0} (bars : List ℕ) (s : State) (n : Notes W) → Grows n.marks (flow_close bars s n)
closes [] s n = grows_none n.marks (Went s n) refl
closes (j ∷ bars) s n = grows_none n.marks (Stops n) refl

grows : {W : Type 0} (p : Code) (o : Observer W) → Stays growing o (flowing p)
grows p o = record {
  inner = λ q i h. tt;
  went = λ s n h. grows_none n.marks (Went s n) refl;
  ends = λ e s n h. grows_none n.marks (Ends e n) refl;
  stops = λ s n h. grows_none n.marks (Stops n) refl;
  widen = λ a b f n r h. h;
  follows = λ a b e j n r h f g. grows_then n.marks r h f (λ s m. g s m tt);
  marks = λ k f n h. tt;
  runs = λ q at h n i. tt;
  tells = λ k f a b t n r h. grows_after n.marks (n.marks ++ (k ∷ [])) (k ∷ []) refl r h;
  ran = λ q at h n r i. grows_after n.marks (n.marks ++ (Ran q at ∷ [])) (Ran q at ∷ []) refl r i;
  observes = λ a query from n i f g. grows_observed from (o n.watch query) n f g;
  relogs = λ y z s n h. grows_none n.marks (Went s (record n { log = y; cell = z })) refl;
  step = λ here all j bars f h go i s n k. grows_chosen n.marks (is_left_out p all j bars) _ _
      (i (j ∷ bars) (absent p all j s) n tt)
      (grows_gone n.marks (f s n) (h s n tt) (here.path ++ (j ∷ [])) j bars (absent p all j s) go
      (λ xs t m. i xs t m tt));
  close = λ bars s n h. closes bars s n;
}

-- ---- a block with a barred statement stops

abbrev IsStopped : {W : Type 0} → Run W → Type 0
IsStopped r = (n : Notes _) × (r ≡ Stops n)

stopped_chosen : {W : Type 0} (b : Bool) (f g : ⊤ → Run W) → IsStopped (f tt) → IsStopped (g tt)
    → IsStopped (chosen b f g)
stopped_chosen true f g h i = h
stopped_chosen false f g h i = i

stopped_gone : {W : Type 0} (r : Run W) (path : Instance) (j i : ℕ) (bars : List ℕ) (kept : State)
    (f : List ℕ → Act W) → ((i : ℕ) (xs : List ℕ) (s : State) (n : Notes W) → IsStopped (f (i ∷ xs) s n))
    → IsStopped (gone_on r path j (i ∷ bars) kept f)
stopped_gone (Went s n) path j i bars kept f k = k i bars s n
stopped_gone (Ends e n) path j i bars kept f k = k j (i ∷ bars) kept (marked (Stopped path (Some e)) n)
stopped_gone (Stops n) path j i bars kept f k = k j (i ∷ bars) kept (marked (Stopped path None) n)

barred_stops : {W : Type 0} (p q : Code) (o : Observer W) (b : Option (Below W)) (here : Where) (all : Scene) (j : ℕ)
    (x : Lines) (i : ℕ) (bars : List ℕ) (s : State) (n : Notes W)
    → IsStopped (many (machine q o (flowing p)) b here all j x (i ∷ bars) s n)
unfolding many
barred_stops p q o b here all j End i bars s n = (n, refl)
barred_stops p q o b here all j (Next at a rest) i bars s n =
    let go : List ℕ → Act _ = many (machine q o (flowing p)) b (knowing (after q here.method at a here.context) here)
    all (suc j) rest
    in stopped_chosen (is_left_out p all j (i ∷ bars)) _ _
    (barred_stops p q o b (knowing (after q here.method at a here.context) here) all (suc j) rest j (i ∷ bars)
    (absent p all j s) n)
    (stopped_gone (begun (deeper j here) at (one (machine q o (flowing p)) b (deeper j here) at a) s n)
    (here.path ++ (j ∷ [])) j i bars (absent p all j s) go
    (λ k xs t m. barred_stops p q o b (knowing (after q here.method at a here.context) here) all (suc j) rest k xs t m))

-- ---- the two ways

abbrev like : {W : Type 0} → Noted W W
like = record { Start = λ n m. n ≡ m; Rel = λ a n m r q. GoesPast r q; Ok = λ q. Unit {0}; Bars = λ xs. xs ≡ [] }

still_first : {W : Type 0} (before : List Mark) (e : Option Ending) (q : Run W) (f : Act W) → FirstStop before e q
    → FirstStop before e (and_then q f)
still_first before e q f h = record {
  path = h.path;
  more = h.more;
  notes = h.notes;
  stops = ap (λ (x : Run _). and_then x f) h.stops;
  marks =
      h.marks;
}

like_then : {W : Type 0} (r q : Run W) → GoesPast r q → (f g : Act W)
    → ((s : State) (n m : Notes W) → n ≡ m → GoesPast (f s n) (g s m)) → GoesPast (and_then r f) (and_then q g)
like_then (Went s n) q e f g k = subst (λ (x : Run _). GoesPast (f s n) (and_then x g)) (sym e) (k s n n refl)
like_then (Ends x n) q (inl e) f g k = inl (ap (λ (y : Run _). and_then y g) e)
like_then (Ends x n) q (inr h) f g k = inr (still_first n.marks (Some x) q g h)
like_then (Stops n) q (inl e) f g k = inl (ap (λ (y : Run _). and_then y g) e)
like_then (Stops n) q (inr h) f g k = inr (still_first n.marks None q g h)

like_answer : {W : Type 0} (from : Origin) (v w : W) (n m : Notes W) → n ≡ m → (r q : Run W)
    → IsNoted like Quiet from v w n m r q → GoesPast r q
like_answer from v w n m d r q (inl e) = subst (λ (x : Run _). GoesPast x q) (sym e.0)
    (inl (e.1 ∙ ap (λ (k : Notes _). Stops k) (sym d)))
like_answer from v w n m d r q (inr e) = e

like_observed : {W : Type 0} (o : Option (Seen × W)) (n m : Notes W) → n ≡ m → (f g : Seen × W → Run W)
    → ((x : Seen × W) → GoesPast (f x) (g x)) → GoesPast (rules.given o (Stops n) f) (rules.given o (Stops m) g)
like_observed None n m e f g k = inl (ap (λ (x : Notes _). Stops x) (sym e))
like_observed (Some x) n m e f g k = k x

-- what follows a stop stops, and adds marks
abbrev IsLate : {W : Type 0} → (List ℕ → Act W) → Type 0
IsLate ho = (i : ℕ) (xs : List ℕ) (s : State) (n : Notes _) → IsStopped (ho (i ∷ xs) s n)
    × Grows n.marks (ho (i ∷ xs) s n)

first_of : {W : Type 0} (before more : List Mark) (path place : Instance) (e f : Option Ending) (n : Notes W)
    (r : Run W) → n.marks ≡ before ++ (Stopped path e ∷ more)
    → IsStopped r × Grows (n.marks ++ (Stopped place f ∷ [])) r → FirstStop before e r
first_of before more path place e f n r d (s, g) = record {
  path = path;
  more = more ++ ((Stopped place f ∷ []) ++ g.0);
  notes = s.0;
  stops = s.1;
  marks = sym (ap (λ (x : Run _). (notes_of x).marks) s.1) ∙ g.1 ∙ append_assoc n.marks (Stopped place f ∷ []) g.0
      ∙ ap (λ (ms : List Mark). ms ++ ((Stopped place f ∷ []) ++ g.0)) d ∙ append_assoc before (Stopped path e ∷ more)
      ((Stopped place f ∷ []) ++ g.0);
}

now_first : {W : Type 0} (path : Instance) (e : Option Ending) (n : Notes W) (r : Run W)
    → IsStopped r × Grows (n.marks ++ (Stopped path e ∷ [])) r → FirstStop n.marks e r
now_first path e n r (s, g) = record {
  path = path;
  more = g.0;
  notes = s.0;
  stops = s.1;
  marks = sym (ap (λ (x : Run _). (notes_of x).marks) s.1) ∙ g.1 ∙ append_assoc n.marks (Stopped path e ∷ []) g.0;
}

like_gone : {W : Type 0} (r q : Run W) → GoesPast r q → (path : Instance) (j : ℕ) (kept : State) (f : Act W)
    (ho : List ℕ → Act W) → IsLate ho
    → ((s : State) (n m : Notes W) → n ≡ m → GoesPast (f s n) (ho [] s m))
    → GoesPast (and_then r f) (gone_on q path j [] kept ho)
like_gone (Went s n) q e path j kept f ho l k = subst (λ (x : Run _). GoesPast (f s n) (gone_on x path j [] kept ho))
    (sym e) (k s n n refl)
like_gone (Ends x n) q (inl e) path j kept f ho l k =
    subst (λ (y : Run _). GoesPast (Ends x n) (gone_on y path j [] kept ho)) (sym e)
    (inr (now_first path (Some x) n (ho (j ∷ []) kept (marked (Stopped path (Some x)) n))
    (l j [] kept (marked (Stopped path (Some x)) n))))
like_gone (Ends x n) q (inr h) path j kept f ho l k =
    subst (λ (y : Run _). GoesPast (Ends x n) (gone_on y path j [] kept ho)) (sym h.stops)
    (inr (first_of n.marks h.more h.path path (Some x) None h.notes
    (ho (j ∷ []) kept (marked (Stopped path None) h.notes)) h.marks
    (l j [] kept (marked (Stopped path None) h.notes))))
like_gone (Stops n) q (inl e) path j kept f ho l k =
    subst (λ (y : Run _). GoesPast (Stops n) (gone_on y path j [] kept ho)) (sym e)
    (inr (now_first path None n (ho (j ∷ []) kept (marked (Stopped path None) n))
    (l j [] kept (marked (Stopped path None) n))))
like_gone (Stops n) q (inr h) path j kept f ho l k =
    subst (λ (y : Run _). GoesPast (Stops n) (gone_on y path j [] kept ho)) (sym h.stops)
    (inr (first_of n.marks h.more h.path path None None h.notes
    (ho (j ∷ []) kept (marked (Stopped path None) h.notes)) h.marks
    (l j [] kept (marked (Stopped path None) h.notes))))

is_late : {W : Type 0} (p : Code) (o : Observer W) (here : Where) (all : Scene) (j : ℕ) (g : Act W)
    (ho : List ℕ → Act W) → Going o (flowing p) here all j g ho → IsLate ho
is_late p o here all j g ho z = subst IsLate (sym z.next) (λ i xs s n.
    let inner : Where = knowing (after z.code here.method z.at z.action here.context) here in (
      barred_stops p z.code o (below (machine z.code o (flowing p)) z.fuel) inner all (suc j) z.rest i xs s n,
      alone_many growing o (flowing p) (grows p o) z.code z.fuel inner all (suc j) z.rest (i ∷ xs)
          (all_free here.path (suc j) z.rest) s n tt,
    ))

like_step : {W : Type 0} (p : Code) (o : Observer W) (here : Where) (all : Scene) (j : ℕ) (bars : List ℕ) → bars ≡ []
    → (f g : Act W) → Goes like (Of (here.path ++ (j ∷ []))) f g
    → (go ho : List ℕ → Act W) → ((xs : List ℕ) → xs ≡ [] → Goes like (From here.path (suc j)) (go xs) (ho xs))
    → Going o (flowing p) here all j g ho
    → (s : State) (n m : Notes W) → n ≡ m → GoesPast (and_then (f s n) (go bars)) (flow_step p here all j bars g ho s m)
like_step p o here all j bars b f g h go ho i z s n m e =
    subst (λ (xs : List ℕ). GoesPast (and_then (f s n) (go xs)) (flow_step p here all j xs g ho s m)) (sym b)
    (like_gone (f s n) (g s m) (h s n m e) (here.path ++ (j ∷ [])) j (absent p all j s) (go []) ho
    (is_late p o here all j g ho z) (i [] refl))

like_kept : {W : Type 0} (p : Code) (o : Observer W) → Keeps like o o stopping (flowing p)
like_kept p o = record {
  inner = λ q i e. tt;
  went = λ s n m e. ap (λ (k : Notes _). Went s k) (sym e);
  ends = λ ending s n m e. inl (ap (λ (k : Notes _). Ends ending k) (sym e));
  stops = λ s n m e. inl (ap (λ (k : Notes _). Stops k) (sym e));
  widen = λ b c f n m r q e. e;
  follows = λ b c d j n m r q e f g k. like_then r q e f g k;
  marks = λ k f n m e. ap (marked k) e;
  runs = λ q at k n m e. ap (marked _) e;
  tells = λ k f b c t n m r q e. e;
  ran = λ q at k n m r z e. e;
  observes = λ b query from n m e f g k. subst
      (λ (y : Notes _). GoesPast (rules.given (o n.watch query) (Stops n) f)
      (rules.given (o y.watch query) (Stops m) g)) e
      (like_observed (o n.watch query) n m e f g
      (λ x. like_answer from x.1 x.1 n m e (f x) (g x) (k x.0 x.1 x.1 (ap (used from x.1) e))));
  logs = λ n m e. ap (λ (k : Notes _). k.log) e;
  cells = λ n m e. ap (λ (k : Notes _). k.cell) e;
  relogs = λ y z s n m e. ap (λ (k : Notes _). Went s (record k { log = y; cell = z })) (sym e);
  no_bars = refl;
  step = like_step p o;
  close = λ bars b s n m e. subst (λ (xs : List ℕ). flow_close xs s m ≡ Went s n) (sym b)
      (ap (λ (k : Notes _). Went s k) (sym e));
}

-- a whole run
pub flows_alike : {W : Type 0} (p : Code) (o : Observer W) (ints : List ℤ) (fuel : ℕ) (w : W)
    → GoesPast (run (stops_at p o) ints fuel w) (run (machine p o (flowing p)) ints fuel w)
flows_alike p o ints fuel w = along_run like p o o stopping (flowing p) (like_kept p o)
    (λ q. tt) ints fuel w w refl GoesPast (λ b r q e. e)

-- ---- the run up to the first ending tells of no stop

abbrev IsNoStop : Mark → Type 0
IsNoStop (Stopped q e) = ⊥
IsNoStop _ = Unit {0}

free_no_stop : (m : Mark) → IsFree m → IsNoStop m
free_no_stop (Stopped q e) f = f
free_no_stop (Ran q at) f = tt
free_no_stop _ f = tt

no_stop_push : (ms : List Mark) (m : Mark) → IsNoStop m → NoStop ms → NoStop (ms ++ (m ∷ []))
no_stop_push [] (Ran q at) d h = tt
no_stop_push [] (Turned q t) d h = tt
no_stop_push [] (Entered c image) d h = tt
no_stop_push [] (Asked c ask) d h = tt
no_stop_push [] (Used q) d h = tt
no_stop_push [] (Stopped q e) d h = absurd d
no_stop_push (Ran q at ∷ ms) m d h = no_stop_push ms m d h
no_stop_push (Turned q t ∷ ms) m d h = no_stop_push ms m d h
no_stop_push (Entered c image ∷ ms) m d h = no_stop_push ms m d h
no_stop_push (Asked c ask ∷ ms) m d h = no_stop_push ms m d h
no_stop_push (Used q ∷ ms) m d h = no_stop_push ms m d h
no_stop_push (Stopped q e ∷ ms) m d h = absurd h

abbrev unstopped : {W : Type 0} → Alone W
unstopped = record { Holds = λ n. NoStop n.marks; After = λ a n r. NoStop (notes_of r).marks; Ok = λ q. Unit {0} }

unstopped_then : {W : Type 0} (r : Run W) → NoStop (notes_of r).marks → (f : Act W)
    → ((s : State) (n : Notes W) → NoStop n.marks → NoStop (notes_of (f s n)).marks)
    → NoStop (notes_of (and_then r f)).marks
unstopped_then (Went s n) h f k = k s n h
unstopped_then (Ends e n) h f k = h
unstopped_then (Stops n) h f k = h

unstopped_observed : {W : Type 0} (from : Origin) (o : Option (Seen × W)) (n : Notes W) → NoStop n.marks
    → (f : Seen × W → Run W)
    → ((seen : Seen) (w : W) → (f (seen, w) ≡ Stops n)
    ⊎ (NoStop (used from w n).marks → NoStop (notes_of (f (seen, w))).marks))
    → NoStop (notes_of (rules.given o (Stops n) f)).marks
unstopped_observed from None n h f k = h
unstopped_observed from (Some x) n h f k = answer (f x) (k x.0 x.1)
  where
    answer : (r : Run _) → (r ≡ Stops n) ⊎ (NoStop (used from x.1 n).marks → NoStop (notes_of r).marks)
        → NoStop (notes_of r).marks
    answer r (inl e) = subst (λ (y : Run _). NoStop (notes_of y).marks) (sym e) h
    answer r (inr g) = g (no_stop_push n.marks (Used from) tt h)

stays_unstopped : {W : Type 0} (o : Observer W) → Stays unstopped o stopping
stays_unstopped o = record {
  inner = λ q i h. tt;
  went = λ s n h. h;
  ends = λ e s n h. h;
  stops = λ s n h. h;
  widen = λ a b f n r h. h;
  follows = λ a b e j n r h f g. unstopped_then r h f g;
  marks = λ k f n h. no_stop_push n.marks k (free_no_stop k f) h;
  runs = λ q at h n i. no_stop_push n.marks (Ran q at) tt i;
  tells = λ k f a b t n r h. h;
  ran = λ q at h n r i. i;
  observes = λ a query from n i f g. unstopped_observed from (o n.watch query) n i f g;
  relogs = λ y z s n h. h;
  step = λ here all j bars f h go i s n k. unstopped_then (f s n) (h s n k) (go bars) (i bars);
  close = λ bars s n h. h;
}

-- so what the other run stops at first is the first that its marks tell of
pub no_stop_yet : {W : Type 0} (p : Code) (o : Observer W) (ints : List ℤ) (fuel : ℕ) (w : W)
    → NoStop (notes_of (run (stops_at p o) ints fuel w)).marks
no_stop_yet p o ints fuel w = alone_run unstopped o stopping (stays_unstopped o) p (λ q. tt) ints fuel w tt
    (λ r. NoStop (notes_of r).marks) (λ a r h. h)

-- ---- the laws

pub runs_go_past : RunsGoPast
runs_go_past p ints fuel table =
    (flows_alike p (by_query table) ints fuel tt, no_stop_yet p (by_query table) ints fuel tt)

pub statements_go_past : StatementsGoPast
statements_go_past p fuel table here at a s n = along_one like p (by_query table) (by_query table) stopping
    (flowing p) (like_kept p (by_query table)) fuel here at a tt s n n refl
