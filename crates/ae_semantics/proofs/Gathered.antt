-- A run by any observer is the run by the list of the answers that it gets, in order.
use Rattle.std.proofs.Common.{◌≡◌, inl, inr, ℕ, ℤ, List, [], ◌∷◌, ◌++◌, Option, None, Some, refl, ap, sym, subst, ◌∙◌}
use Rattle.std.specs.Prelude.{option_map}
use Rattle.std.proofs.lemmas.List.{append_assoc, append-nil}
use Rattle.ae_text.specs.declared.refusal.Spot.{Spot}
use Rattle.ae_tree.specs.Plain.{Action, Code}
use Rattle.ae_rules.specs.Verdict as rules
use Rattle.ae_semantics.specs.Places.{State}
use Rattle.ae_semantics.specs.Observations.{Origin, Seen, Query, Notes, Observer}
use Rattle.ae_semantics.specs.Runs.{Run, Went, Ends, Stops, Act, and_then, marked, Where, stopping}
use Rattle.ae_semantics.specs.Blocks.{used}
use Rattle.ae_semantics.specs.Means.{run, in_order, source_machine, stops_at}
use Rattle.ae_semantics.specs.Gathering.{gathering, doing, carry}
use Rattle.ae_semantics.proofs.Related.{Quiet}
use Rattle.ae_semantics.proofs.Alongside.{Noted, IsNoted, Keeps, along_one, along_run}

abbrev pub listed : {V : Type 0} → Notes V → List Seen → Notes (List Seen)
listed n rest = carry (λ w. rest) n

-- The run had these answers before it. Where the list begins with those that it got since then, the run by the list goes alike and leaves the rest.
-- Where the run stopped for want of an answer, so does the run by exactly those that it got.
abbrev pub Sim : {V : Type 0} → Run (V × List Seen) → List Seen → List Seen → Run (List Seen) → Type 0
Sim (Went s n) w list q = (more : List Seen) × (n.watch.1 ≡ w ++ more)
    × ((rest : List Seen) → list ≡ more ++ rest → q ≡ Went s (listed n rest))
Sim (Ends e n) w list q = (more : List Seen) × (n.watch.1 ≡ w ++ more)
    × ((rest : List Seen) → list ≡ more ++ rest → q ≡ Ends e (listed n rest))
Sim (Stops n) w list q = (more : List Seen) × (n.watch.1 ≡ w ++ more) × (list ≡ more → q ≡ Stops (listed n []))

-- where the two runs may begin, and what they come to
abbrev sim : {V : Type 0} → Noted (V × List Seen) (List Seen)
sim = record {
  Start = λ n m. m ≡ listed n m.watch;
  Rel = λ a n m r q. Sim r n.watch.1 m.watch q;
  Ok =
      λ q. Unit {0};
  Bars = λ xs. Unit {0};
}

-- what is left of a list that begins with another one
abbrev left_of : List Seen → List Seen → List Seen
left_of [] ys = ys
left_of (x ∷ xs) [] = []
left_of (x ∷ xs) (y ∷ ys) = left_of xs ys

left_of_append : (xs ys : List Seen) → left_of xs (xs ++ ys) ≡ ys
left_of_append [] ys = refl
left_of_append (x ∷ xs) ys = left_of_append xs ys

went_here : {V : Type 0} (s : State) (n : Notes (V × List Seen)) (m : Notes (List Seen)) → m ≡ listed n m.watch
    → Sim (Went s n) n.watch.1 m.watch (Went s m)
went_here s n m e = ([], sym (append-nil n.watch.1), λ rest d. ap (λ (k : Notes _). Went s k) (e ∙ ap (listed n) d))

stops_here : {V : Type 0} (n : Notes (V × List Seen)) (m : Notes (List Seen)) → m ≡ listed n m.watch
    → Sim (Stops n) n.watch.1 m.watch (Stops m)
stops_here n m e = ([], sym (append-nil n.watch.1), λ d. ap (λ (k : Notes _). Stops k) (e ∙ ap (listed n) d))

-- more answers before it
sim_go : {V : Type 0} (z : Run (V × List Seen)) (w m u : List Seen) → u ≡ w ++ m
    → (list left : List Seen) (q h : Run (List Seen)) → Sim z u left h
    → ((rest : List Seen) → list ≡ m ++ rest → (left ≡ rest) × (q ≡ h)) → Sim z w list q
sim_go (Went s n) w m u e list left q h d k = (
  m ++ d.0,
  d.1 ∙ ap (λ (x : List Seen). x ++ d.0) e ∙ append_assoc w m d.0,
  λ rest i. let x = k (d.0 ++ rest) (i ∙ append_assoc m d.0 rest) in x.1 ∙ d.2 rest x.0,
)
sim_go (Ends y n) w m u e list left q h d k = (
  m ++ d.0,
  d.1 ∙ ap (λ (x : List Seen). x ++ d.0) e ∙ append_assoc w m d.0,
  λ rest i. let x = k (d.0 ++ rest) (i ∙ append_assoc m d.0 rest) in x.1 ∙ d.2 rest x.0,
)
sim_go (Stops n) w m u e list left q h d k = (
  m ++ d.0,
  d.1 ∙ ap (λ (x : List Seen). x ++ d.0) e ∙ append_assoc w m d.0,
  λ i. let x = k d.0 i in x.1 ∙ d.2 x.0,
)

sim_then : {V : Type 0} (r : Run (V × List Seen)) (w list : List Seen) (q : Run (List Seen)) → Sim r w list q
    → (a : Act (V × List Seen)) (b : Act (List Seen))
    → ((s : State) (n : Notes (V × List Seen)) (m : Notes (List Seen)) → m ≡ listed n m.watch
    → Sim (a s n) n.watch.1 m.watch (b s m)) → Sim (and_then r a) w list (and_then q b)
sim_then (Went s n) w list q d a b k =
    let left : List Seen = left_of d.0 list in
    sim_go (a s n) w d.0 n.watch.1 d.1 list left (and_then q b) (b s (listed n left)) (k s n (listed n left) refl)
    (λ rest e.
    let same : left_of d.0 list ≡ rest = ap (left_of d.0) e ∙ left_of_append d.0 rest in (
      same,
      ap (λ (x : Run _). and_then x b) (d.2 rest e) ∙ ap (λ (x : List Seen). b s (listed n x)) (sym same),
    ))
sim_then (Ends e n) w list q d a b k = (d.0, d.1, λ rest i. ap (λ (x : Run _). and_then x b) (d.2 rest i))
sim_then (Stops n) w list q d a b k = (d.0, d.1, λ i. ap (λ (x : Run _). and_then x b) (d.2 i))

-- an answer is the next of the list
sim_answer : {V : Type 0} (from : Origin) (x : Seen) (v : V × List Seen) (w : List Seen) (n : Notes (V × List Seen))
    (m : Notes (List Seen)) (r : Run (V × List Seen)) (q h : Run (List Seen)) (list : List Seen)
    → v.1 ≡ n.watch.1 ++ (x ∷ []) → IsNoted sim Quiet from v w n m r h → (list ≡ [] → q ≡ Stops (listed n []))
    → ((rest : List Seen) → list ≡ x ∷ rest → (w ≡ rest) × (q ≡ h)) → Sim r n.watch.1 list q
sim_answer from x v w n m r q h list d (inl e) i k = subst (λ (z : Run _). Sim z n.watch.1 list q) (sym e.0)
    ([], sym (append-nil n.watch.1), i)
sim_answer from x v w n m r q h list d (inr e) i k = sim_go r n.watch.1 (x ∷ []) v.1 d list w q h e k

next_is : (x y : Seen) (ys rest : List Seen) (g : Seen × List Seen → Run (List Seen)) → y ∷ ys ≡ x ∷ rest
    → (ys ≡ rest) × (g (y, ys) ≡ g (x, ys))
next_is x y ys rest g e = (cc (e), ap (λ (z : Seen). g (z, ys)) (cc (e)))

sim_observed : {V : Type 0} (o : Option (Seen × V)) (query : Query) (from : Origin) (list : List Seen)
    (n : Notes (V × List Seen)) (m : Notes (List Seen)) → m ≡ listed n list
    → (f : Seen × (V × List Seen) → Run (V × List Seen)) (g : Seen × List Seen → Run (List Seen))
    → ((x : Seen) (v : V × List Seen) (w : List Seen) → IsNoted sim Quiet from v w n m (f (x, v)) (g (x, w)))
    → Sim (rules.given (option_map (λ (z : Seen × V). (z.0, (z.1, n.watch.1 ++ (z.0 ∷ [])))) o) (Stops n) f) n.watch.1
    list (rules.given (in_order list query) (Stops m) g)
sim_observed None query from list n m i f g k = (
  [],
  sym (append-nil n.watch.1),
  λ d. ap (λ (l : List Seen). rules.given (in_order l query) (Stops m) g) d
      ∙ ap (λ (k : Notes _). Stops k) (i ∙ ap (listed n) d),
)
sim_observed (Some x) query from [] n m i f g k =
    let v : _ × List Seen = (x.1, n.watch.1 ++ (x.0 ∷ []))
    in sim_answer from x.0 v [] n m (f (x.0, v)) (Stops m) (g (x.0, [])) [] refl (k x.0 v [])
    (λ d. ap (λ (k : Notes _). Stops k) i) (λ rest e. absurd (cc (e)))
sim_observed (Some x) query from (y ∷ ys) n m i f g k =
    let v : _ × List Seen = (x.1, n.watch.1 ++ (x.0 ∷ [])) in
    sim_answer from x.0 v ys n m (f (x.0, v)) (g (y, ys)) (g (x.0, ys)) (y ∷ ys) refl (k x.0 v ys)
    (λ d. absurd (cc (d))) (λ rest e. next_is x.0 y ys rest g e)

sim_kept : {V : Type 0} (o : Observer V) → Keeps sim (gathering o) in_order stopping stopping
sim_kept o = record {
  inner = λ q i e. tt;
  went = went_here;
  ends = λ ending s n m e. (
    [],
    sym (append-nil n.watch.1),
    λ rest d. ap (λ (k : Notes _). Ends ending k)
        (e ∙ ap (listed n) d),
  );
  stops = λ s n m e. stops_here n m e;
  widen = λ b c f n m r q e. e;
  follows = λ b c d j n m r q e f g k. sim_then r n.watch.1 m.watch q e f g k;
  marks = λ k f n m e. ap (marked k) e;
  runs = λ q at k n m e. ap (marked _) e;
  tells = λ k f b c t n m r q e. e;
  ran = λ q at k n m r z e. e;
  observes = λ b query from n m e f g k. sim_observed (o n.watch.0 query) query from m.watch n m e f g
      (λ x v w. k x v w (ap (used from w) e));
  logs = λ n m e. sym (ap (λ (k : Notes _). k.log) e);
  cells = λ n m e. sym (ap (λ (k : Notes _). k.cell) e);
  relogs = λ y z s n m e. went_here s (record n { log = y; cell = z }) (record m { log = y; cell = z })
      (ap (λ (k : Notes _). record k { log = y; cell = z }) e);
  no_bars = tt;
  step = λ here all j bars b f g e go ho k z s n m d. sim_then (f s n) n.watch.1 m.watch (g s m) (e s n m d) (go bars)
      (ho bars) (k bars tt);
  close = λ bars b. went_here;
}

-- a whole run, and the run by any list
pub sim_run : {V : Type 0} (p : Code) (o : Observer V) (ints : List ℤ) (fuel : ℕ) (v : V) (list : List Seen)
    → Sim (run (stops_at p (gathering o)) ints fuel (v, [])) [] list (run (source_machine p) ints fuel list)
sim_run p o ints fuel v list = along_run sim p (gathering o) in_order stopping stopping (sim_kept o)
    (λ q. tt) ints fuel (v, []) list refl (λ r q. Sim r [] list q) (λ b r q e. e)

-- a statement, and the statement by any list
pub sim_doing : {V : Type 0} (p : Code) (o : Observer V) (fuel : ℕ) (here : Where) (at : Spot) (a : Action)
    (s : State) (n : Notes V) (list : List Seen)
    → Sim (doing (stops_at p (gathering o)) fuel here at a s (carry (λ (w : V). (w, [])) n)) [] list
    (doing (source_machine p) fuel here at a s (carry (λ w. list) n))
sim_doing p o fuel here at a s n list = along_one sim p (gathering o) in_order stopping stopping
    (sim_kept o) fuel here at a tt s (carry (λ w. (w, [])) n) (carry (λ w. list) n) refl
