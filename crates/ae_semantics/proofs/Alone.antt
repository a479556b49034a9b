-- What every step of a run keeps: the relation between two runs, where both are one run.
use mathlib.Core.Path.{fun_ext}
use Rattle.std.proofs.Common.{◌≡◌, ◌⊎◌, inl, inr, ℕ, ℤ, suc, List, [], ◌∷◌, ◌++◌, Option, refl, ap, sym, ◌∙◌}
use Rattle.ae_text.specs.declared.refusal.Spot.{Spot}
use Rattle.ae_tree.specs.Plain.{Lines, Action, Code}
use Rattle.ae_rules.specs.Blocks.{Scene}
use Rattle.ae_rules.specs.Instances.{Instance}
use Rattle.ae_rules.specs.Verdict as rules
use Rattle.ae_semantics.specs.Places.{CellName, State}
use Rattle.ae_semantics.specs.declared.report.Ending.{Ending}
use Rattle.ae_semantics.specs.declared.report.Piece.{Piece}
use Rattle.ae_semantics.specs.Observations.{Origin, Seen, Query, Mark, Ran, Notes, Observer}
use Rattle.ae_semantics.specs.Runs.{Run, Went, Ends, Stops, Act, and_then, marked, Where, Order}
use Rattle.ae_semantics.specs.Blocks.{used}
use Rattle.ae_semantics.specs.Meaning.{one, many, block, below}
use Rattle.ae_semantics.specs.Means.{no_notes, run}
use Rattle.ae_semantics.proofs.Related.{Stretch, Quiet, Of, From, Within, Joins, Tells, IsFree, machine, related_one}
use Rattle.ae_semantics.proofs.Related.{related_many, related_below}
use Rattle.ae_semantics.proofs.Alongside.{MayRun, Noted, IsNoted, Keeps, Goes, relation, forms, link, from_both}
use Rattle.ae_semantics.proofs.Alongside.{along_block, along_run}

-- What holds of notes, what then holds of what a stretch comes to, and the paths at which statements may run.
pub record Alone (V : Type 0) : Type 1 where
  pub Holds : Notes V → Type 0
  pub After : Stretch → Notes V → Run V → Type 0
  pub Ok : Instance → Type 0

abbrev pub Leads : {V : Type 0} (S : Alone V) → Stretch → Act V → Type 0
Leads S c a = (s : State) (n : Notes _) → S.Holds n → S.After c n (a s n)

-- what a machine has to keep
pub record Stays {V : Type 0} (S : Alone V) (o : Observer V) (c : Order V) : Type 0 where
  pub inner : (q : Instance) (i : ℕ) → S.Ok q → S.Ok (q ++ (i ∷ []))
  pub went : Leads S Quiet (λ s n. Went s n)
  pub ends : (e : Ending) → Leads S Quiet (λ s n. Ends e n)
  pub stops : Leads S Quiet (λ s n. Stops n)
  pub widen : (a b : Stretch) → ((y : Instance) → Within a y → Within b y) → (n : Notes V) (r : Run V) → S.After a n r
      → S.After b n r
  pub follows : (a b e : Stretch) → Joins a b e → (n : Notes V) (r : Run V) → S.After a n r → (f : Act V)
      → Leads S b f → S.After e n (and_then r f)
  pub marks : (k : Mark) → IsFree k → (n : Notes V) → S.Holds n → S.Holds (marked k n)
  pub runs : (q : Instance) (at : Spot) → S.Ok q → (n : Notes V) → S.Holds n → S.Holds (marked (Ran q at) n)
  pub tells : (k : Mark) → IsFree k → (a b : Stretch) → Tells k a b → (n : Notes V) (r : Run V)
      → S.After a (marked k n) r → S.After b n r
  pub ran : (q : Instance) (at : Spot) → S.Ok q → (n : Notes V) (r : Run V)
      → S.After (From q 0) (marked (Ran q at) n) r → S.After (Of q) n r
  pub observes : (a : Stretch) (query : Query) (from : Origin) (n : Notes V) → S.Holds n → (f : Seen × V → Run V)
      → ((seen : Seen) (v : V) → (f (seen, v) ≡ Stops n)
      ⊎ (S.Holds (used from v n) → S.After a (used from v n) (f (seen, v))))
      → S.After a n (rules.given (o n.watch query) (Stops n) f)
  pub relogs : (y : List Piece) (z : Option CellName) → Leads S Quiet (λ s n. Went s (record n { log = y; cell = z }))
  pub step : (here : Where) (all : Scene) (j : ℕ) (bars : List ℕ) (f : Act V) → Leads S (Of (here.path ++ (j ∷ []))) f
      → (go : List ℕ → Act V) → ((xs : List ℕ) → Leads S (From here.path (suc j)) (go xs))
      → Leads S (From here.path j) (c.step here all j bars f go)
  pub close : (bars : List ℕ) → Leads S Quiet (c.close bars)

-- one run beside itself
abbrev pub beside : {V : Type 0} → Alone V → Noted V V
beside S = record {
  Start = λ n m. n ≡ m;
  Rel = λ a n m r q. (r ≡ q) × (S.Holds n → S.After a n r);
  Ok = S.Ok;
  Bars = λ xs. Unit {0};
}

module _ {V : Type 0} (S : Alone V) (o : Observer V) (c : Order V) (K : Stays S o c) where
  same_act : (a : Stretch) (f g : Act V) → Goes (beside S) a f g → f ≡ g
  same_act a f g h = fun_ext (λ s. fun_ext (λ n. (h s n n refl).0))

  one_act : (f : Act V) (n m : Notes V) → n ≡ m → (s : State) → f s n ≡ f s m
  one_act f n m e s = ap (λ (k : Notes V). f s k) e

  leads : (a : Stretch) (f g : Act V) → Goes (beside S) a f g → Leads S a f
  leads a f g h s n i = (h s n n refl).1 i

  led : (a : Stretch) (f : Act V) → Leads S a f → Goes (beside S) a f f
  led a f h s n m e = (one_act f n m e s, λ i. h s n i)

  same_answer : (a : Stretch) (from : Origin) (v : V) (n m : Notes V) → n ≡ m → (r q : Run V)
      → IsNoted (beside S) a from v v n m r q → r ≡ q
  same_answer a from v n m e r q (inl d) = d.0 ∙ ap (λ (k : Notes V). Stops k) e ∙ sym d.1
  same_answer a from v n m e r q (inr d) = d.0

  one_answer : (a : Stretch) (from : Origin) (v : V) (n m : Notes V) (r q : Run V)
      → IsNoted (beside S) a from v v n m r q
      → (r ≡ Stops n) ⊎ (S.Holds (used from v n) → S.After a (used from v n) r)
  one_answer a from v n m r q (inl d) = inl d.0
  one_answer a from v n m r q (inr d) = inr d.1

  pub kept : Keeps (beside S) o o c c
  kept = record {
    inner = K.inner;
    went = led Quiet (λ s n. Went s n) K.went;
    ends = λ e. led Quiet (λ s n. Ends e n) (K.ends e);
    stops = led Quiet (λ s n. Stops n) K.stops;
    widen = λ a b f n m r q h. (h.0, λ i. K.widen a b f n r (h.1 i));
    follows = λ a b e j n m r q h f g k. (
      ap (λ (x : Run V). and_then x f) h.0 ∙ ap (λ (y : Act V). and_then q y) (same_act b f g k),
      λ i. K.follows a b e j n r (h.1 i) f (leads b f g k),
    );
    marks = λ k f n m e. ap (marked k) e;
    runs = λ q at h n m e. ap (marked (Ran q at)) e;
    tells = λ k f a b t n m r q h. (h.0, λ i. K.tells k f a b t n r (h.1 (K.marks k f n i)));
    ran = λ q at h n m r z d. (d.0, λ i. K.ran q at h n r (d.1 (K.runs q at h n i)));
    observes = λ a query from n m e f g h. (
      ap (λ (k : Notes V). rules.given (o k.watch query) (Stops k) f) e
          ∙ ap (λ (k : Seen × V → Run V). rules.given (o m.watch query) (Stops m) k)
          (fun_ext (λ (z : Seen × V). same_answer a from z.1 n m e (f z) (g z) (h z.0 z.1 z.1 (ap (used from z.1) e)))),
      λ i. K.observes a query from n i f
          (λ seen v. one_answer a from v n m (f (seen, v)) (g (seen, v)) (h seen v v (ap (used from v) e))),
    );
    logs = λ n m e. ap (λ (k : Notes V). k.log) e;
    cells = λ n m e. ap (λ (k : Notes V). k.cell) e;
    relogs = λ y z. led Quiet (λ s n. Went s (record n { log = y; cell = z })) (K.relogs y z);
    no_bars = tt;
    step = λ here all j bars b f g h go ho i z s n m e. (
      one_act (c.step here all j bars f go) n m e s ∙ ap (λ (y : Act V). c.step here all j bars y go s m)
          (same_act (Of (here.path ++ (j ∷ []))) f g h)
          ∙ ap (λ (y : List ℕ → Act V). c.step here all j bars g y s m)
          (fun_ext (λ xs. same_act (From here.path (suc j)) (go xs) (ho xs) (i xs tt))),
      λ l. K.step here all j bars f (leads (Of (here.path ++ (j ∷ []))) f g h) go
          (λ xs. leads (From here.path (suc j)) (go xs) (ho xs) (i xs tt)) s n l,
    );
    close = λ bars b. led Quiet (c.close bars) (K.close bars);
  }

  pub alone_one : (p : Code) (fuel : ℕ) (here : Where) (at : Spot) (a : Action) → S.Ok here.path
      → Leads S (From here.path 0) (one (machine p o c) (below (machine p o c) fuel) here at a)
  alone_one p fuel here at a h = leads (From here.path 0) _ _
      (from_both (beside S) p o o c c kept (From here.path 0) _ _
      (related_one (relation (beside S)) p o o c c (forms (beside S) p o o c c kept)
      (link (beside S) p o o c c kept) fuel
      (related_below (relation (beside S)) p o o c c (forms (beside S) p o o c c kept)
      (link (beside S) p o o c c kept) fuel) tt tt here at a h))

  pub alone_many : (p : Code) (fuel : ℕ) (here : Where) (all : Scene) (j : ℕ) (x : Lines) (bars : List ℕ)
      → MayRun S.Ok here.path j x
      → Leads S (From here.path j) (many (machine p o c) (below (machine p o c) fuel) here all j x bars)
  alone_many p fuel here all j x bars h = leads (From here.path j) _ _
      (from_both (beside S) p o o c c kept (From here.path j) _ _
      (related_many (relation (beside S)) p o o c c (forms (beside S) p o o c c kept)
      (link (beside S) p o o c c kept) fuel
      (related_below (relation (beside S)) p o o c c (forms (beside S) p o o c c kept)
      (link (beside S) p o o c c kept) fuel) tt tt here all j x bars bars (refl, tt) h))

  pub alone_block : (p : Code) (fuel : ℕ) (here : Where) (x : Lines) → MayRun S.Ok here.path 0 x
      → Leads S (From here.path 0) (block (machine p o c) (below (machine p o c) fuel) here x)
  alone_block p fuel here x h = leads (From here.path 0) _ _ (along_block (beside S) p o o c c kept fuel here x h)

  pub alone_run : (p : Code) → ((q : Instance) → S.Ok q) → (ints : List ℤ) (fuel : ℕ) (v : V) → S.Holds (no_notes v)
      → (P : Run V → Type 0) → ((a : Stretch) (r : Run V) → S.After a (no_notes v) r → P r)
      → P (run (machine p o c) ints fuel v)
  alone_run p ok ints fuel v h P f = along_run (beside S) p o o c c kept ok ints fuel v v refl (λ r q. P r)
      (λ a r q i. f a r (i.1 h))
