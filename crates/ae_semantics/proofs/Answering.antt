-- By a table with more answers a statement that did not stop does the same.
use Rattle.std.proofs.Common.{◌≡◌, inl, inr, refl, ap, sym, subst, Option, None, Some}
use Rattle.std.specs.Prelude.{option_map, ⊤}
use Rattle.ae_rules.specs.Verdict as rules
use Rattle.ae_semantics.specs.Places.{State}
use Rattle.ae_semantics.specs.Observations.{Origin, Seen, Query, Notes}
use Rattle.ae_semantics.specs.Runs.{Run, Went, Ends, Stops, Act, and_then, marked, stopping}
use Rattle.ae_semantics.specs.Blocks.{used}
use Rattle.ae_semantics.specs.Atom.{by_query}
use Rattle.ae_semantics.specs.Gathering.{Extends, StaysAs, MoreAnswersKeep}
use Rattle.ae_semantics.proofs.Related.{Stretch}
use Rattle.ae_semantics.proofs.Alongside.{Noted, IsNoted, Keeps, along_one}

-- the same notes at first, and the same run unless it stopped
abbrev stays_alike : Noted ⊤ ⊤
stays_alike = record {
  Start = λ n m. m ≡ n;
  Rel = λ a n m r q. StaysAs r q;
  Ok = λ q. Unit {0};
  Bars = λ xs. Unit {0};
}

stays_then : (r q : Run ⊤) → StaysAs r q → (f g : Act ⊤)
    → ((s : State) (n m : Notes ⊤) → m ≡ n → StaysAs (f s n) (g s m)) → StaysAs (and_then r f) (and_then q g)
stays_then (Went s n) q h f g k = subst (λ (x : Run ⊤). StaysAs (f s n) (and_then x g)) (sym h) (k s n n refl)
stays_then (Ends e n) q h f g k = ap (λ (x : Run ⊤). and_then x g) h
stays_then (Stops n) q h f g k = tt

stays_noted : (a : Stretch) (from : Origin) (v w : ⊤) (n m : Notes ⊤) (r q : Run ⊤)
    → IsNoted stays_alike a from v w n m r q → StaysAs r q
stays_noted a from v w n m r q (inl e) = subst (λ (x : Run ⊤). StaysAs x q) (sym e.0) tt
stays_noted a from v w n m r q (inr h) = h

-- what is asked of the one table, the other answers alike, where the one does
stays_observed : (a : Stretch) (from : Origin) (n m : Notes ⊤) → m ≡ n → (o u : Option Seen)
    → ((x : Seen) → o ≡ Some x → u ≡ Some x) → (f g : Seen × ⊤ → Run ⊤)
    → ((x : Seen) (v w : ⊤) → used from w m ≡ used from v n → IsNoted stays_alike a from v w n m (f (x, v)) (g (x, w)))
    → StaysAs (rules.given (option_map (λ (x : Seen). (x, n.watch)) o) (Stops n) f)
    (rules.given (option_map (λ (x : Seen). (x, m.watch)) u) (Stops m) g)
stays_observed a from n m e None u h f g k = tt
stays_observed a from n m e (Some x) u h f g k =
    subst (λ (y : Option Seen). StaysAs (f (x, n.watch))
    (rules.given (option_map (λ (z : Seen). (z, m.watch)) y) (Stops m) g)) (sym (h x refl))
    (stays_noted a from n.watch m.watch n m (f (x, n.watch)) (g (x, m.watch))
    (k x n.watch m.watch (ap (λ (l : Notes ⊤). used from l.watch l) e)))

stays_kept : (table more : Query → Option Seen) → Extends table more
    → Keeps stays_alike (by_query table) (by_query more) stopping stopping
stays_kept table more h = record {
  inner = λ q i e. tt;
  went = λ s n m e. ap (λ (k : Notes ⊤). Went s k) e;
  ends = λ ending s n m e. ap (λ (k : Notes ⊤). Ends ending k) e;
  stops = λ s n m e. tt;
  widen = λ b c f n m r q e. e;
  follows = λ b c d j n m r q e f g k. stays_then r q e f g k;
  marks = λ k f n m e. ap (marked k) e;
  runs = λ q at k n m e. ap (marked _) e;
  tells = λ k f b c t n m r q e. e;
  ran = λ q at k n m r z e. e;
  observes = λ a query from n m e f g k. stays_observed a from n m e (table query) (more query) (h query) f g k;
  logs = λ n m e. sym (ap (λ (k : Notes ⊤). k.log) e);
  cells = λ n m e. sym (ap (λ (k : Notes ⊤). k.cell) e);
  relogs = λ y z s n m e. ap (λ (k : Notes ⊤). Went s (record k { log = y; cell = z })) e;
  no_bars = tt;
  step = λ here all j bars b f g e go ho k z s n m d. stays_then (f s n) (g s m) (e s n m d) (go bars) (ho bars)
      (k bars tt);
  close = λ bars b s n m e. ap (λ (k : Notes ⊤). Went s k) e;
}

pub more_answers_keep : MoreAnswersKeep
more_answers_keep p fuel table more h here at a s n = along_one stays_alike p (by_query table) (by_query more) stopping
    stopping (stays_kept table more h) fuel here at a tt s n n refl
