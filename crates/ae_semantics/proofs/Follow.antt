-- A run by one observer is the run by another that answers alike wherever the first one answers.
use Rattle.std.proofs.Common.{◌≡◌, ◌⊎◌, inl, inr, ℕ, suc, ℤ, List, [], ◌∷◌, Option, None, Some, refl, ap, sym, subst}
use Rattle.std.proofs.Common.{◌∙◌}
use Rattle.ae_text.specs.declared.refusal.Spot.{Spot}
use Rattle.ae_tree.specs.Plain.{Action, Code}
use Rattle.ae_rules.specs.Verdict as rules
use Rattle.ae_semantics.specs.Places.{State}
use Rattle.ae_semantics.specs.Observations.{Origin, Mark, Ran, Seen, Query, Notes, Observer}
use Rattle.ae_semantics.specs.Runs.{Run, Went, Ends, Stops, Act, and_then, marked, Where, stopping}
use Rattle.ae_semantics.specs.Blocks.{used}
use Rattle.ae_semantics.specs.Means.{run, notes_of, stops_at}
use Rattle.ae_semantics.specs.Gathering.{doing, carry}
use Rattle.ae_semantics.proofs.Related.{Stretch, Quiet, From}
use Rattle.ae_semantics.proofs.Alongside.{Noted, IsNoted, Goes, Keeps, along_one, along_run}
use Rattle.ae_semantics.proofs.Growing.{Grows, grows_none, grows_after, grows_then, grows_observed}

-- the second observer answers alike wherever the first one answers
abbrev pub Answers : {V W : Type 0} → (V → W) → Observer V → Observer W → Type 0
Answers h o u = (w : _) (q : Query) (x : Seen) (v : _) → o w q ≡ Some (x, v) → u (h w) q ≡ Some (x, h v)

-- The second run goes as the first, and where that stops for want of an observation, with all its marks and some more.
abbrev pub Same : {V W : Type 0} → (V → W) → Run V → Run W → Type 0
Same h (Went s n) r = r ≡ Went s (carry h n)
Same h (Ends e n) r = r ≡ Ends e (carry h n)
Same h (Stops n) r = Grows n.marks r

-- Where the two runs may begin: the log and its cell are the same, so that both do the same until they observe. What they come to: the second one
-- adds marks, and goes as the first where all else is the same too.
abbrev same : {V W : Type 0} → (V → W) → Noted V W
same h = record {
  Start = λ n m. (n.log ≡ m.log) × (n.cell ≡ m.cell);
  Rel = λ a n m r q. Grows m.marks q × (m ≡ carry h n → Same h r q);
  Ok = λ q. Unit {0};
  Bars = λ xs. Unit {0};
}

-- notes of the first run that begin as those of the second
abbrev beginning : {V W : Type 0} → Notes V → Notes W → Notes V
beginning n m = record n { log = m.log; cell = m.cell }

module _ {V W : Type 0} (h : V → W) where
  adds : (n : Notes V) (c : Stretch) (a : Act V) (b : Act W) → Goes (same h) c a b → (s : State) (m : Notes W)
      → Grows m.marks (b s m)
  adds n c a b k s m = (k s (beginning n m) m (refl, refl)).0

  same_then : (c : Stretch) (r : Run V) (q : Run W) → Same h r q → (a : Act V) (b : Act W) → Goes (same h) c a b
      → Same h (and_then r a) (and_then q b)
  same_then c (Went s n) q e a b k = subst (λ (x : Run W). Same h (a s n) (and_then x b)) (sym e)
      ((k s n (carry h n) (refl, refl)).1 refl)
  same_then c (Ends ending n) q e a b k = ap (λ (x : Run W). and_then x b) e
  same_then c (Stops n) q e a b k = grows_then n.marks q e b (λ s m. adds n c a b k s m)

  rel_then : (c : Stretch) (n : Notes V) (m : Notes W) (r : Run V) (q : Run W)
      → Grows m.marks q × (m ≡ carry h n → Same h r q) → (a : Act V) (b : Act W) → Goes (same h) c a b
      → Grows m.marks (and_then q b) × (m ≡ carry h n → Same h (and_then r a) (and_then q b))
  rel_then c n m r q e a b k = (
    grows_then m.marks q e.0 b (λ s l. adds n c a b k s l),
    λ i. same_then c r q (e.1 i) a b k,
  )

  same_answer : (from : Origin) (v : V) (n : Notes V) (m : Notes W) → m ≡ carry h n → (r : Run V) (q : Run W)
      → IsNoted (same h) Quiet from v (h v) n m r q → Same h r q
  same_answer from v n m i r q (inl e) = subst (λ (x : Run V). Same h x q) (sym e.0)
      (grows_none n.marks q (ap (λ (x : Run W). (notes_of x).marks) e.1 ∙ ap (λ (k : Notes W). k.marks) i))
  same_answer from v n m i r q (inr e) = e.1 (ap (used from (h v)) i)

  added_answer : (a : Stretch) (from : Origin) (v : V) (w : W) (n : Notes V) (m : Notes W) (r : Run V) (q : Run W)
      → IsNoted (same h) a from v w n m r q
      → (q ≡ Stops m) ⊎ (Unit {0} → Grows (used from w m).marks q)
  added_answer a from v w n m r q (inl e) = inl e.1
  added_answer a from v w n m r q (inr e) = inr (λ z. e.0)

  same_observed : (o : Option (Seen × V)) (u : Option (Seen × W)) (n : Notes V) (m : Notes W) → m ≡ carry h n
      → (f : Seen × V → Run V) (g : Seen × W → Run W)
      → ((x : Seen) (v : V) → o ≡ Some (x, v) → u ≡ Some (x, h v)) → Grows m.marks (rules.given u (Stops m) g)
      → ((x : Seen) (v : V) → Same h (f (x, v)) (g (x, h v)))
      → Same h (rules.given o (Stops n) f) (rules.given u (Stops m) g)
  same_observed None u n m i f g a d k = subst (λ (ms : List Mark). Grows ms (rules.given u (Stops m) g))
      (ap (λ (k : Notes W). k.marks) i) d
  same_observed (Some x) u n m i f g a d k =
      subst (λ (y : Option (Seen × W)). Same h (f x) (rules.given y (Stops m) g)) (sym (a x.0 x.1 refl)) (k x.0 x.1)

  same_kept : (o : Observer V) (u : Observer W) → Answers h o u → Keeps (same h) o u stopping stopping
  same_kept o u a = record {
    inner = λ q i e. tt;
    went = λ s n m e. (grows_none m.marks (Went s m) refl, λ i. ap (λ (k : Notes W). Went s k) i);
    ends = λ ending s n m e. (grows_none m.marks (Ends ending m) refl, λ i. ap (λ (k : Notes W). Ends ending k) i);
    stops = λ s n m e. (
      grows_none m.marks (Stops m) refl,
      λ i. grows_none n.marks (Stops m) (ap (λ (k : Notes W). k.marks) i),
    );
    widen = λ b c f n m r q e. e;
    follows = λ b c d j n m r q e f g k. rel_then c n m r q e f g k;
    marks = λ k f n m e. e;
    runs = λ q at k n m e. e;
    tells = λ k f b c t n m r q e. (
      grows_after m.marks (marked k m).marks (k ∷ []) refl q e.0,
      λ i. e.1 (ap (marked k) i),
    );
    ran = λ q at k n m r z e. (
      grows_after m.marks (marked (Ran q at) m).marks (Ran q at ∷ []) refl z e.0,
      λ i. e.1 (ap (marked (Ran q at)) i),
    );
    observes = λ b query from n m e f g k.
        let d : Grows m.marks (rules.given (u m.watch query) (Stops m) g) = grows_observed from (u m.watch query) m g
        (λ x w. added_answer b from n.watch w n m (f (x, n.watch)) (g (x, w)) (k x n.watch w e)) in (
          d,
          λ i. same_observed (o n.watch query) (u m.watch query) n m i f g
              (λ x v j. ap (λ (k : Notes W). u k.watch query) i ∙ a n.watch query x v j) d
              (λ x v. same_answer from v n m i (f (x, v)) (g (x, h v)) (k x v (h v) e)),
        );
    logs = λ n m e. e.0;
    cells = λ n m e. e.1;
    relogs = λ y z s n m e. (
      grows_none m.marks (Went s (record m { log = y; cell = z })) refl,
      λ i. ap (λ (k : Notes W). Went s (record k { log = y; cell = z })) i,
    );
    no_bars = tt;
    step = λ here all j bars b f g e go ho k z s n m d. rel_then (From here.path (suc j)) n m (f s n) (g s m)
        (e s n m d) (go bars) (ho bars) (k bars tt);
    close = λ bars b s n m e. (grows_none m.marks (Went s m) refl, λ i. ap (λ (k : Notes W). Went s k) i);
  }

  -- a whole run, and a statement
  pub same_run : (p : Code) (o : Observer V) (u : Observer W) → Answers h o u → (ints : List ℤ) (fuel : ℕ) (v : V)
      → Same h (run (stops_at p o) ints fuel v) (run (stops_at p u) ints fuel (h v))
  same_run p o u a ints fuel v = along_run (same h) p o u stopping stopping (same_kept o u a) (λ q. tt) ints fuel v
      (h v) (refl, refl) (Same h) (λ b r q e. e.1 refl)

  pub same_doing : (p : Code) (o : Observer V) (u : Observer W) → Answers h o u
      → (fuel : ℕ) (here : Where) (at : Spot) (a : Action) (s : State) (n : Notes V)
      → Same h (doing (stops_at p o) fuel here at a s n) (doing (stops_at p u) fuel here at a s (carry h n))
  same_doing p o u a fuel here at x s n =
      (along_one (same h) p o u stopping stopping (same_kept o u a) fuel here at x tt s n (carry h n) (refl, refl)).1
      refl
