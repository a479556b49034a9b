-- What a run began is not after where it ended.
use Rattle.std.proofs.Common.{◌≡◌, ◌⊎◌, inl, inr, refl, sym, subst, List, [], ◌∷◌, ◌++◌, Option, None, Some}
use Rattle.ae_rules.specs.Instances.{Instance}
use Rattle.ae_rules.specs.Verdict as rules
use Rattle.ae_semantics.specs.Observations.{Origin, Mark, Ran, Turned, Entered, Asked, Used, Stopped, Seen, Notes}
use Rattle.ae_semantics.specs.Observations.{Observer}
use Rattle.ae_semantics.specs.Runs.{Run, Stops, stopping}
use Rattle.ae_semantics.specs.Blocks.{used}
use Rattle.ae_semantics.specs.Means.{run, notes_of, in_order, source_machine, mean}
use Rattle.ae_semantics.specs.Laws.{NothingBegunIsAfter}
use Rattle.ae_semantics.proofs.Related.{Stretch, Of, From, Within, Joins, Tells, then_next, ran_tells}
use Rattle.ae_semantics.proofs.Alone.{Alone, Stays, alone_run}
use Rattle.ae_semantics.proofs.SourceOrder.{Rises, up_to_end, Adds, adds_none, adds_as, adds_then, adds_silent}
use Rattle.ae_semantics.proofs.SourceOrder.{adds_place, places}

-- a stretch adds marks whose places lie in it
abbrev adding : {W : Type 0} → Alone W
adding = record { Holds = λ n. Unit {0}; After = λ a n r. Adds (Within a) n.marks r; Ok = λ q. Unit {0} }

adds_told : {W : Type 0} (m : Mark) (a c : Stretch) → Tells m a c → (n : Notes W) (r : Run W)
    → Adds (Within a) (n.marks ++ (m ∷ [])) r → Adds (Within c) n.marks r
adds_told (Ran q at) a c t n r h = adds_place (Within a) (Within c) n.marks (Ran q at) q r (λ ms. refl)
    (t.ahead q refl) (t.own q refl) t.inner h
adds_told (Turned q i) a c t n r h = adds_place (Within a) (Within c) n.marks (Turned q i) (q ++ (i ∷ [])) r
    (λ ms. refl) (t.ahead (q ++ (i ∷ [])) refl) (t.own (q ++ (i ∷ [])) refl) t.inner h
adds_told (Entered cell image) a c t n r h = adds_as (Within a) (Within c) n.marks r t.inner
    (adds_silent (Within a) n.marks (Entered cell image) r (λ ms. refl) h)
adds_told (Asked cell ask) a c t n r h = adds_as (Within a) (Within c) n.marks r t.inner
    (adds_silent (Within a) n.marks (Asked cell ask) r (λ ms. refl) h)
adds_told (Used q) a c t n r h = adds_as (Within a) (Within c) n.marks r t.inner
    (adds_silent (Within a) n.marks (Used q) r (λ ms. refl) h)
adds_told (Stopped q e) a c t n r h = adds_as (Within a) (Within c) n.marks r t.inner
    (adds_silent (Within a) n.marks (Stopped q e) r (λ ms. refl) h)

adds_answer : {W : Type 0} (a : Stretch) (from : Origin) (n : Notes W) (w : W) (r : Run W)
    → (r ≡ Stops n) ⊎ (Unit {0} → Adds (Within a) (used from w n).marks r) → Adds (Within a) n.marks r
adds_answer a from n w r (inl e) = subst (Adds (Within a) n.marks) (sym e) (adds_none (Within a) n.marks (Stops n) refl)
adds_answer a from n w r (inr h) = adds_silent (Within a) n.marks (Used from) r (λ ms. refl) (h tt)

adds_observed : {W : Type 0} (a : Stretch) (from : Origin) (o : Option (Seen × W)) (n : Notes W) (f : Seen × W → Run W)
    → ((seen : Seen) (w : W) → (f (seen, w) ≡ Stops n)
    ⊎ (Unit {0} → Adds (Within a) (used from w n).marks (f (seen, w))))
    → Adds (Within a) n.marks (rules.given o (Stops n) f)
adds_observed a from None n f h = adds_none (Within a) n.marks (Stops n) refl
adds_observed a from (Some x) n f h = adds_answer a from n x.1 (f x) (h x.0 x.1)

stays : {W : Type 0} (o : Observer W) → Stays adding o stopping
stays o = record {
  inner = λ q i h. tt;
  went = λ s n h. adds_none _ n.marks _ refl;
  ends = λ e s n h. adds_none _ n.marks _ refl;
  stops = λ s n h. adds_none _ n.marks _ refl;
  widen = λ a b f n r h. adds_as (Within a) (Within b) n.marks r f h;
  follows = λ a b e j n r h f g. adds_then (Within a) (Within b) (Within e) n.marks r f j.in_order j.first j.second h
      (λ s m. g s m tt);
  marks = λ k f n h. tt;
  runs = λ q at h n i. tt;
  tells = λ k f a b t n r h. adds_told k a b t n r h;
  ran = λ q at h n r i. adds_told (Ran q at) (From q 0) (Of q) (ran_tells q at) n r i;
  observes = λ a query from n i f g. adds_observed a from (o n.watch query) n f g;
  relogs = λ y z s n h. adds_none _ n.marks _ refl;
  step = λ here all j bars f h go i s n k.
      let t : Joins (Of (here.path ++ (j ∷ []))) (From here.path _) (From here.path j) = then_next here.path j in
      adds_then (Within (Of (here.path ++ (j ∷ [])))) (Within (From here.path _)) (Within (From here.path j)) n.marks
      (f s n) (go bars) t.in_order t.first t.second (h s n tt) (λ s m. i bars s m tt);
  close = λ bars s n h. adds_none _ n.marks _ refl;
}

-- ---- a whole run

abbrev Anywhere : Instance → Type 0
Anywhere q = Unit {0}

pub nothing_begun_is_after : NothingBegunIsAfter
unfolding mean
nothing_begun_is_after p ints fuel seen q c =
    let r : Run (List Seen) = run (source_machine p) ints fuel seen in
    let a : Adds Anywhere [] r = alone_run adding in_order stopping (stays in_order) p (λ q. tt) ints fuel seen tt
    (λ r. Adds Anywhere [] r)
    (λ b r h. adds_as (Within b) Anywhere [] r (λ x i. tt) h) in
    up_to_end (notes_of r).marks (subst (λ (ms : List Mark). Rises (places ms)) (sym a.added) a.rises) q c
