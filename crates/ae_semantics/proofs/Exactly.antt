-- A run by one observer is the run by another that answers just as the first one does.
use Rattle.std.proofs.Common.{◌≡◌, inl, inr, ℕ, ℤ, List, Option, None, Some, refl, ap, sym, ◌∙◌}
use Rattle.std.specs.Prelude.{option_map}
use Rattle.ae_text.specs.declared.refusal.Spot.{Spot}
use Rattle.ae_tree.specs.Plain.{Action, Code}
use Rattle.ae_rules.specs.Verdict as rules
use Rattle.ae_semantics.specs.Places.{State}
use Rattle.ae_semantics.specs.Observations.{Origin, Seen, Query, Notes, Observer}
use Rattle.ae_semantics.specs.Runs.{Run, Went, Ends, Stops, Act, and_then, marked, Where, stopping}
use Rattle.ae_semantics.specs.Blocks.{used}
use Rattle.ae_semantics.specs.Means.{run, stops_at}
use Rattle.ae_semantics.specs.Gathering.{doing, carry, carried}
use Rattle.ae_semantics.proofs.Related.{Quiet}
use Rattle.ae_semantics.proofs.Alongside.{Noted, IsNoted, Keeps, along_one, along_run}

module _ {V W : Type 0} (h : V → W) where
  -- an observation, for the second observer
  abbrev pub with_watch : Seen × V → Seen × W
  with_watch z = (z.0, h z.1)

  -- the second observer answers just as the first one does
  abbrev pub AnswersExactly : Observer V → Observer W → Type 0
  AnswersExactly o u = (w : V) (q : Query) → u (h w) q ≡ option_map with_watch (o w q)

  abbrev exact : Noted V W
  exact = record {
    Start = λ n m. m ≡ carry h n;
    Rel = λ a n m r q. q ≡ carried h r;
    Ok = λ q. Unit {0};
    Bars =
        λ xs. Unit {0};
  }

  exact_then : (r : Run V) (q : Run W) → q ≡ carried h r → (a : Act V) (b : Act W)
      → ((s : State) (n : Notes V) (m : Notes W) → m ≡ carry h n → b s m ≡ carried h (a s n))
      → and_then q b ≡ carried h (and_then r a)
  exact_then (Went s n) q e a b k = ap (λ (x : Run W). and_then x b) e ∙ k s n (carry h n) refl
  exact_then (Ends ending n) q e a b k = ap (λ (x : Run W). and_then x b) e
  exact_then (Stops n) q e a b k = ap (λ (x : Run W). and_then x b) e

  exact_answer : (from : Origin) (v : V) (n : Notes V) (m : Notes W) → m ≡ carry h n → (r : Run V) (q : Run W)
      → IsNoted exact Quiet from v (h v) n m r q → q ≡ carried h r
  exact_answer from v n m i r q (inl e) = e.1 ∙ ap (λ (k : Notes W). Stops k) i ∙ sym (ap (carried h) e.0)
  exact_answer from v n m i r q (inr e) = e

  exact_observed : (o : Option (Seen × V)) (n : Notes V) (m : Notes W) → m ≡ carry h n
      → (f : Seen × V → Run V) (g : Seen × W → Run W)
      → ((x : Seen) (v : V) → g (x, h v) ≡ carried h (f (x, v))) → rules.given (option_map with_watch o) (Stops m) g
      ≡ carried h (rules.given o (Stops n) f)
  exact_observed None n m i f g k = ap (λ (k : Notes W). Stops k) i
  exact_observed (Some x) n m i f g k = k x.0 x.1

  exact_kept : (o : Observer V) (u : Observer W) → AnswersExactly o u → Keeps exact o u stopping stopping
  exact_kept o u a = record {
    inner = λ q i e. tt;
    went = λ s n m e. ap (λ (k : Notes W). Went s k) e;
    ends = λ ending s n m e. ap (λ (k : Notes W). Ends ending k) e;
    stops = λ s n m e. ap (λ (k : Notes W). Stops k) e;
    widen = λ b c f n m r q e. e;
    follows = λ b c d j n m r q e f g k. exact_then r q e f g k;
    marks = λ k f n m e. ap (marked k) e;
    runs = λ q at k n m e. ap (marked _) e;
    tells = λ k f b c t n m r q e. e;
    ran = λ q at k n m r z e. e;
    observes = λ b query from n m e f g k.
        ap (λ (o : Option (Seen × W)). rules.given o (Stops m) g)
        (ap (λ (k : Notes W). u k.watch query) e ∙ a n.watch query)
        ∙ exact_observed (o n.watch query) n m e f g
        (λ x v. exact_answer from v n m e (f (x, v)) (g (x, h v)) (k x v (h v) (ap (used from (h v)) e)));
    logs = λ n m e. sym (ap (λ (k : Notes W). k.log) e);
    cells = λ n m e. sym (ap (λ (k : Notes W). k.cell) e);
    relogs = λ y z s n m e. ap (λ (k : Notes W). Went s (record k { log = y; cell = z })) e;
    no_bars = tt;
    step = λ here all j bars b f g e go ho k z s n m d. exact_then (f s n) (g s m) (e s n m d) (go bars) (ho bars)
        (k bars tt);
    close = λ bars b s n m e. ap (λ (k : Notes W). Went s k) e;
  }

  -- a whole run, and a statement
  pub exact_run : (p : Code) (o : Observer V) (u : Observer W) → AnswersExactly o u → (ints : List ℤ) (fuel : ℕ) (v : V)
      → run (stops_at p u) ints fuel (h v) ≡ carried h (run (stops_at p o) ints fuel v)
  exact_run p o u a ints fuel v = along_run exact p o u stopping stopping (exact_kept o u a) (λ q. tt) ints fuel v
      (h v) refl (λ r q. q ≡ carried h r) (λ b r q e. e)

  pub exact_doing : (p : Code) (o : Observer V) (u : Observer W) → AnswersExactly o u
      → (fuel : ℕ) (here : Where) (at : Spot) (a : Action) (s : State) (n : Notes V)
      → doing (stops_at p u) fuel here at a s (carry h n) ≡ carried h (doing (stops_at p o) fuel here at a s n)
  exact_doing p o u a fuel here at x s n = along_one exact p o u stopping stopping (exact_kept o u a) fuel here at x
      tt s n (carry h n) refl
