-- What every step of the run that is watched keeps: a fact on marks and the trail, where statements are marked as run at allowed paths alone.
use Rattle.std.proofs.Common.{◌≡◌, ◌⊎◌, inl, inr, sym, subst, ℕ, Bool, true, false, List, [], ◌∷◌, ◌++◌, Option}
use Rattle.std.proofs.Common.{None, Some}
use Rattle.std.specs.Prelude.{⊤, option_map}
use Rattle.ae_text.specs.declared.refusal.Spot.{Spot}
use Rattle.ae_tree.specs.Plain.{Lines, Next, Action, Code}
use Rattle.ae_rules.specs.Verdict as rules
use Rattle.ae_rules.specs.Blocks.{Scene}
use Rattle.ae_rules.specs.Instances.{Instance}
use Rattle.ae_semantics.specs.Places.{State}
use Rattle.ae_semantics.specs.Contexts.{after}
use Rattle.ae_semantics.specs.Observations.{Origin, Seen, Query, Mark, Ran, Used, Stopped, Notes}
use Rattle.ae_semantics.specs.Runs.{Run, Went, Ends, Stops, Act, and_then, chosen, marked, deeper, Where, knowing}
use Rattle.ae_semantics.specs.Runs.{whole_block, flow_close, is_left_out, absent, gone_on}
use Rattle.ae_semantics.specs.Blocks.{used}
use Rattle.ae_semantics.specs.Meaning.{begun, forgotten, one, many, block, below}
use Rattle.ae_semantics.specs.Means.{notes_of}
use Rattle.ae_semantics.specs.Trails.{Passage, Trail, passage, with_found, behind, watched, watching, watching_machine}
use Rattle.ae_semantics.specs.Atom.{by_query}
use Rattle.ae_semantics.proofs.Related.{IsFree}
use Rattle.ae_semantics.proofs.Alongside.{MayRun}
use Rattle.ae_semantics.proofs.Alone.{Alone, Stays, alone_one, alone_many, alone_block}

-- a mark that says that a statement ran has an allowed path
abbrev pub MayMark : (Instance → Type 0) → Mark → Type 0
MayMark ok (Ran path at) = ok path
MayMark ok _ = Unit {0}

-- The fact is kept by each mark that may be made and by each passage, and what lies in an allowed path is allowed.
pub record Kept (I : List Mark → Trail → Type 0) (ok : Instance → Type 0) : Type 0 where
  pub inner : (q : Instance) (i : ℕ) → ok q → ok (q ++ (i ∷ []))
  pub mark : (m : Mark) (ms : List Mark) (w : Trail) → MayMark ok m → I ms w → I (ms ++ (m ∷ [])) w
  pub found : (x : Passage) (ms : List Mark) (w : Trail) → I ms w
      → I ms (record { found = w.found ++ (x ∷ []); left = w.left })
  pub left : (x : Passage) (ms : List Mark) (w : Trail) → I ms w
      → I ms (record { found = w.found; left = w.left ++ (x ∷ []) })

-- the fact holds of notes
abbrev pub On : (List Mark → Trail → Type 0) → Notes Trail → Type 0
On I n = I n.marks n.watch

-- the fact holds after a run
abbrev pub After : (List Mark → Trail → Type 0) → Run Trail → Type 0
After I r = On I (notes_of r)

abbrev pub Keeps : (List Mark → Trail → Type 0) → Act Trail → Type 0
Keeps I a = (s : State) (n : Notes Trail) → On I n → After I (a s n)

-- ---- the parts of runs

kept_then : (I : List Mark → Trail → Type 0) (r : Run Trail) → After I r → (a : Act Trail) → Keeps I a
    → After I (and_then r a)
kept_then I (Went s n) i a k = k s n i
kept_then I (Ends ending n) i a k = i
kept_then I (Stops n) i a k = i

kept_chosen : (I : List Mark → Trail → Type 0) (b : Bool) (f g : ⊤ → Run Trail) → After I (f tt) → After I (g tt)
    → After I (chosen b f g)
kept_chosen I true f g d e = d
kept_chosen I false f g d e = e

kept_answer : (I : List Mark → Trail → Type 0) (r : Run Trail) (n : Notes Trail) (from : Origin) → On I n
    → On I (used from n.watch n)
    → (r ≡ Stops n) ⊎ (On I (used from n.watch n) → After I r) → After I r
kept_answer I r n from i d (inl e) = subst (λ (x : Run Trail). After I x) (sym e) i
kept_answer I r n from i d (inr f) = f d

kept_observed : (I : List Mark → Trail → Type 0) (o : Option Seen) (n : Notes Trail) (f : Seen × Trail → Run Trail)
    → On I n
    → ((x : Seen) → After I (f (x, n.watch)))
    → After I (rules.given (option_map {U = Seen × Trail} (λ (x : Seen). (x, n.watch)) o) (Stops n) f)
kept_observed I None n f d k = d
kept_observed I (Some x) n f d k = k x

may_mark : (ok : Instance → Type 0) (m : Mark) → IsFree m → MayMark ok m
may_mark ok (Ran q at) f = absurd f
may_mark ok _ f = tt

-- what holds where a stretch begins, and behind it
abbrev holding : (List Mark → Trail → Type 0) → (Instance → Type 0) → Alone Trail
holding I ok = record { Holds = On I; After = λ a n r. After I r; Ok = ok }

module _ (I : List Mark → Trail → Type 0) (ok : Instance → Type 0) (k : Kept I ok) (p : Code)
    (table : Query → Option Seen) where
  -- ---- the way past what stopped

  kept_close : (barred : List ℕ) → Keeps I (flow_close barred)
  kept_close [] s n i = i
  kept_close (j ∷ barred) s n i = i

  kept_behind : (here : Where) (all : Scene) (j : ℕ) (r : Run Trail) → After I r → After I (behind here all j r)
  kept_behind here all j (Went s n) d = k.left (passage here all j s n) n.marks n.watch d
  kept_behind here all j (Ends ending n) d = d
  kept_behind here all j (Stops n) d = d

  kept_gone : (r : Run Trail) → After I r → (path : Instance) (j : ℕ) (barred : List ℕ) (kept : State)
      (a : List ℕ → Act Trail) → ((bars : List ℕ) → Keeps I (a bars))
      → After I (gone_on r path j barred kept a)
  kept_gone (Went s n) d path j barred kept a g = g barred s n d
  kept_gone (Ends ending n) d path j barred kept a g =
      g (j ∷ barred) kept (marked (Stopped path (Some ending)) n)
      (k.mark (Stopped path (Some ending)) n.marks n.watch tt d)
  kept_gone (Stops n) d path j barred kept a g = g (j ∷ barred) kept (marked (Stopped path None) n)
      (k.mark (Stopped path None) n.marks n.watch tt d)

  kept_step : (here : Where) (all : Scene) (j : ℕ) (barred : List ℕ) (f : Act Trail) → Keeps I f
      → (a : List ℕ → Act Trail) → ((bars : List ℕ) → Keeps I (a bars))
      → Keeps I ((watching p).step here all j barred f a)
  kept_step here all j barred f g a h s n i = kept_chosen I (is_left_out p all j barred)
      (λ _. a (j ∷ barred) (absent p all j s) n)
      (λ _. gone_on (watched here all j f s n) (here.path ++ (j ∷ [])) j barred (absent p all j s) a)
      (h (j ∷ barred) (absent p all j s) n i)
      (kept_gone (watched here all j f s n)
      (kept_behind here all j (f s (with_found (passage here all j s n) n))
      (g s (with_found (passage here all j s n) n) (k.found (passage here all j s n) n.marks n.watch i)))
      (here.path ++ (j ∷ [])) j barred (absent p all j s) a h)

  stays : Stays (holding I ok) (by_query table) (watching p)
  stays = record {
    inner = k.inner;
    went = λ s n i. i;
    ends = λ e s n i. i;
    stops = λ s n i. i;
    widen = λ a b f n r i. i;
    follows = λ a b e j n r i f g. kept_then I r i f g;
    marks = λ m f n i. k.mark m n.marks n.watch (may_mark ok m f) i;
    runs = λ q at h n i. k.mark (Ran q at) n.marks n.watch h i;
    tells = λ m f a b t n r i. i;
    ran = λ q at h n r i. i;
    observes = λ a query from n i f g. kept_observed I (table query) n f i
        (λ x. kept_answer I (f (x, n.watch)) n from i (k.mark (Used from) n.marks n.watch tt i) (g x n.watch));
    relogs = λ y z s n i. i;
    step = λ here all j bars f g go h s n i. kept_step here all j bars f g go h s n i;
    close = kept_close;
  }

  pub kept_block : (fuel : ℕ) (here : Where) (x : Lines) → MayRun ok here.path 0 x
      → Keeps I (block (watching_machine p table) (below (watching_machine p table) fuel) here x)
  kept_block = alone_block (holding I ok) (by_query table) (watching p) stays p

  -- a fact that holds as soon as the first statement of a block was found holds after the block
  pub kept_from_first : (fuel : ℕ) (here : Where) (at : Spot) (x : Action) (rest : Lines)
      → MayRun ok here.path 0 (Next at x rest)
      → (s : State) (n : Notes Trail) → On I (with_found (passage here (whole_block (Next at x rest) here) 0 s n) n)
      → After I (block (watching_machine p table) (below (watching_machine p table) fuel) here (Next at x rest) s n)
  unfolding many
  kept_from_first fuel here at x rest h s n i =
      let all : Scene = whole_block (Next at x rest) here in
      let act : Act Trail = begun (deeper 0 here) at
      (one (watching_machine p table) (below (watching_machine p table) fuel) (deeper 0 here) at x) in
      let m : Notes Trail = with_found (passage here all 0 s n) n in
      kept_then I (many (watching_machine p table) (below (watching_machine p table) fuel) here all 0 (Next at x rest)
      [] s n)
      (kept_gone (watched here all 0 act s n)
      (kept_behind here all 0 (act s m)
      (alone_one (holding I ok) (by_query table) (watching p) stays p fuel (deeper 0 here) at x h.0 s
      (marked (Ran (deeper 0 here).path at) m) (k.mark (Ran (deeper 0 here).path at) m.marks m.watch h.0 i)))
      (here.path ++ (0 ∷ [])) 0 [] (absent p all 0 s)
      (many (watching_machine p table) (below (watching_machine p table) fuel)
      (knowing (after p here.method at x here.context) here) all 1 rest)
      (λ bars. alone_many (holding I ok) (by_query table) (watching p) stays p fuel
      (knowing (after p here.method at x here.context) here) all 1 rest bars h.1))
      (λ s n. Went (forgotten here.context s) n) (λ s n i. i)
