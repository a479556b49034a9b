-- The run that is watched goes as the run of the meaning past what stopped.
use Rattle.std.proofs.Common.{◌≡◌, inl, inr, ℕ, Bool, true, false, List, [], ◌∷◌, ◌++◌, Option, None, Some, refl, ap}
use Rattle.std.proofs.Common.{sym, subst, ◌∙◌}
use Rattle.std.specs.Prelude.{⊤, option_map}
use Rattle.ae_tree.specs.Plain.{Code}
use Rattle.ae_rules.specs.Verdict as rules
use Rattle.ae_rules.specs.Blocks.{Scene}
use Rattle.ae_rules.specs.Instances.{Instance}
use Rattle.ae_semantics.specs.Places.{State}
use Rattle.ae_semantics.specs.Observations.{Origin, Seen, Query, Stopped, Notes}
use Rattle.ae_semantics.specs.Runs.{Run, Went, Ends, Stops, Act, and_then, chosen, marked, Where, flowing, flow_step}
use Rattle.ae_semantics.specs.Runs.{flow_close, is_left_out, absent, gone_on}
use Rattle.ae_semantics.specs.Blocks.{used}
use Rattle.ae_semantics.specs.Means.{run, meant}
use Rattle.ae_semantics.specs.Atom.{by_query, flow_machine, part}
use Rattle.ae_semantics.specs.Trails.{Trail, watching, watched, behind, passage, with_found, no_trail, watched_run}
use Rattle.ae_semantics.specs.Trails.{WatchingChangesNothing}
use Rattle.ae_semantics.proofs.Related.{Quiet}
use Rattle.ae_semantics.proofs.Alongside.{Noted, IsNoted, Keeps, along_run}

-- the notes without the trail
abbrev pub carry : Notes Trail → Notes ⊤
carry n = record { log = n.log; cell = n.cell; marks = n.marks; watch = tt }

-- the second run goes as the first
abbrev pub Same : Run Trail → Run ⊤ → Type 0
Same (Went s n) r = r ≡ Went s (carry n)
Same (Ends e n) r = r ≡ Ends e (carry n)
Same (Stops n) r = r ≡ Stops (carry n)

abbrev Steady : Act Trail → Act ⊤ → Type 0
Steady a b = (s : State) (n : Notes _) → Same (a s n) (b s (carry n))

-- where the two runs may begin, and what they come to
abbrev same : Noted Trail ⊤
same = record { Start = λ n m. m ≡ carry n; Rel = λ a n m r q. Same r q; Ok = λ q. Unit {0}; Bars = λ xs. Unit {0} }

steadily : (a : Act Trail) (b : Act ⊤) → Steady a b → (s : State) (n : Notes Trail) (m : Notes ⊤) → m ≡ carry n
    → Same (a s n) (b s m)
steadily a b k s n m e = subst (λ (x : Notes ⊤). Same (a s n) (b s x)) (sym e) (k s n)

-- ---- the parts of runs

same_then : (r : Run Trail) (q : Run ⊤) → Same r q → (a : Act Trail) (b : Act ⊤) → Steady a b
    → Same (and_then r a) (and_then q b)
same_then (Went s n) q e a b k = subst (λ (x : Run _). Same (a s n) (and_then x b)) (sym e) (k s n)
same_then (Ends ending n) q e a b k = ap (λ (x : Run _). and_then x b) e
same_then (Stops n) q e a b k = ap (λ (x : Run _). and_then x b) e

same_chosen : (b : Bool) (f1 f2 : ⊤ → Run Trail) (g1 g2 : ⊤ → Run ⊤) → Same (f1 tt) (g1 tt) → Same (f2 tt) (g2 tt)
    → Same (chosen b f1 f2) (chosen b g1 g2)
same_chosen true f1 f2 g1 g2 d e = d
same_chosen false f1 f2 g1 g2 d e = e

same_answer : (from : Origin) (v : Trail) (n : Notes Trail) (m : Notes ⊤) → m ≡ carry n → (r : Run Trail) (q : Run ⊤)
    → IsNoted same Quiet from v tt n m r q → Same r q
same_answer from v n m d r q (inl e) = subst (λ (x : Run Trail). Same x q) (sym e.0)
    (e.1 ∙ ap (λ (k : Notes ⊤). Stops k) d)
same_answer from v n m d r q (inr e) = e

same_observed : (o : Option Seen) (n : Notes Trail) (m : Notes ⊤) → m ≡ carry n
    → (f : Seen × Trail → Run Trail) (g : Seen × ⊤ → Run ⊤) → ((x : Seen) → Same (f (x, n.watch)) (g (x, tt)))
    → Same (rules.given (option_map {U = Seen × Trail} (λ (x : Seen). (x, n.watch)) o) (Stops n) f)
    (rules.given (option_map {U = Seen × ⊤} (λ (x : Seen). (x, m.watch)) o) (Stops m) g)
same_observed None n m d f g k = ap (λ (k : Notes ⊤). Stops k) d
same_observed (Some x) n m d f g k = k x

-- ---- the way past what stopped

same_close : (barred : List ℕ) → Steady (flow_close barred) (flow_close barred)
same_close [] s n = refl
same_close (j ∷ barred) s n = refl

same_behind : (here : Where) (all : Scene) (j : ℕ) (r : Run Trail) (q : Run ⊤) → Same r q → Same (behind here all j r) q
same_behind here all j (Went s n) q e = e
same_behind here all j (Ends ending n) q e = e
same_behind here all j (Stops n) q e = e

same_gone : (r : Run Trail) (q : Run ⊤) → Same r q → (path : Instance) (j : ℕ) (barred : List ℕ) (kept : State)
    (a : List ℕ → Act Trail) (b : List ℕ → Act ⊤) → ((bars : List ℕ) → Steady (a bars) (b bars))
    → Same (gone_on r path j barred kept a) (gone_on q path j barred kept b)
same_gone (Went s n) q e path j barred kept a b k =
    subst (λ (x : Run _). Same (a barred s n) (gone_on x path j barred kept b)) (sym e) (k barred s n)
same_gone (Ends ending n) q e path j barred kept a b k =
    subst (λ (x : Run _). Same (a (j ∷ barred) kept (marked (Stopped path (Some ending)) n))
    (gone_on x path j barred kept b)) (sym e)
    (k (j ∷ barred) kept (marked (Stopped path (Some ending)) n))
same_gone (Stops n) q e path j barred kept a b k =
    subst (λ (x : Run _). Same (a (j ∷ barred) kept (marked (Stopped path None) n)) (gone_on x path j barred kept b))
    (sym e)
    (k (j ∷ barred) kept (marked (Stopped path None) n))

same_step : (p : Code) (here : Where) (all : Scene) (j : ℕ) (barred : List ℕ) (f : Act Trail) (g : Act ⊤) → Steady f g
    → (a : List ℕ → Act Trail) (b : List ℕ → Act ⊤) → ((bars : List ℕ) → Steady (a bars) (b bars))
    → Steady (flow_step p here all j barred (watched here all j f) a) (flow_step p here all j barred g b)
same_step p here all j barred f g k a b l s n = same_chosen (is_left_out p all j barred)
    (λ _. a (j ∷ barred) (absent p all j s) n)
    (λ _. gone_on (watched here all j f s n) (here.path ++ (j ∷ [])) j barred (absent p all j s) a)
    (λ _. b (j ∷ barred) (absent p all j s) (carry n))
    (λ _. gone_on (g s (carry n)) (here.path ++ (j ∷ [])) j barred (absent p all j s) b)
    (l (j ∷ barred) (absent p all j s) n)
    (same_gone (watched here all j f s n) (g s (carry n))
    (same_behind here all j (f s (with_found (passage here all j s n) n)) (g s (carry n))
    (k s (with_found (passage here all j s n) n)))
    (here.path ++ (j ∷ [])) j barred (absent p all j s) a b l)

same_kept : (p : Code) (table : Query → Option Seen) → Keeps same (by_query table) (by_query table) (watching p)
    (flowing p)
same_kept p table = record {
  inner = λ q i e. tt;
  went = λ s n m e. ap (λ (k : Notes ⊤). Went s k) e;
  ends = λ ending s n m e. ap (λ (k : Notes ⊤). Ends ending k) e;
  stops = λ s n m e. ap (λ (k : Notes ⊤). Stops k) e;
  widen = λ b c f n m r q e. e;
  follows = λ b c d j n m r q e f g k. same_then r q e f g (λ s n. k s n (carry n) refl);
  marks = λ k f n m e. ap (marked k) e;
  runs = λ q at k n m e. ap (marked _) e;
  tells = λ k f b c t n m r q e. e;
  ran = λ q at k n m r z e. e;
  observes = λ b query from n m e f g k. same_observed (table query) n m e f g
      (λ x. same_answer from n.watch n m e (f (x, n.watch)) (g (x, tt)) (k x n.watch tt (ap (used from tt) e)));
  logs = λ n m e. sym (ap (λ (k : Notes ⊤). k.log) e);
  cells = λ n m e. sym (ap (λ (k : Notes ⊤). k.cell) e);
  relogs = λ y z s n m e. ap (λ (k : Notes ⊤). Went s (record k { log = y; cell = z })) e;
  no_bars = tt;
  step = λ here all j bars b f g e go ho k z. steadily _ _
      (same_step p here all j bars f g (λ s n. e s n (carry n) refl) go ho (λ xs s n. k xs tt s n (carry n) refl));
  close = λ bars b. steadily (flow_close bars) (flow_close bars) (same_close bars);
}

same_meant : (r : Run Trail) (q : Run ⊤) → Same r q → meant r ≡ meant q
same_meant (Went s n) q e = sym (ap meant e)
same_meant (Ends ending n) q e = sym (ap meant e)
same_meant (Stops n) q e = sym (ap meant e)

pub watching_changes_nothing : WatchingChangesNothing
unfolding part
watching_changes_nothing p ints fuel table = same_meant (watched_run p ints fuel table)
    (run (flow_machine p table) ints fuel tt)
    (along_run same p (by_query table) (by_query table) (watching p) (flowing p) (same_kept p table)
    (λ q. tt) ints fuel no_trail tt refl Same (λ b r q e. e))
