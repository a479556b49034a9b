-- Runs add marks, and take none away.
use Rattle.std.proofs.Common.{◌≡◌, ◌⊎◌, inl, inr, refl, ap, sym, subst, ◌∙◌, ℕ, Bool, true, false, List, [], ◌∷◌}
use Rattle.std.proofs.Common.{◌++◌, Option, None, Some}
use Rattle.std.specs.Prelude.{⊤}
use Rattle.std.proofs.lemmas.List.{append_assoc, append-nil}
use Rattle.ae_rules.specs.Instances.{Instance}
use Rattle.ae_rules.specs.Verdict as rules
use Rattle.ae_semantics.specs.Places.{State}
use Rattle.ae_semantics.specs.Observations.{Origin, Mark, Stopped, Seen, Notes}
use Rattle.ae_semantics.specs.Runs.{Run, Went, Ends, Stops, Act, and_then, chosen, marked, gone_on}
use Rattle.ae_semantics.specs.Blocks.{used}
use Rattle.ae_semantics.specs.Means.{notes_of}
use Rattle.ae_semantics.proofs.Alone.{Alone}

-- the marks of the run are those before it and some more
abbrev pub Grows : {W : Type 0} → List Mark → Run W → Type 0
Grows before r = (new : List Mark) × ((notes_of r).marks ≡ before ++ new)

pub grows_none : {W : Type 0} (before : List Mark) (r : Run W) → (notes_of r).marks ≡ before → Grows before r
grows_none before r e = ([], e ∙ sym (append-nil before))

pub grows_after : {W : Type 0} (before middle new : List Mark) → middle ≡ before ++ new → (r : Run W) → Grows middle r
    → Grows before r
grows_after before middle new e r g =
    (new ++ g.0, g.1 ∙ ap (λ (ms : List Mark). ms ++ g.0) e ∙ append_assoc before new g.0)

pub grows_then : {W : Type 0} (before : List Mark) (r : Run W) → Grows before r → (f : Act W)
    → ((s : State) (n : Notes W) → Grows n.marks (f s n)) → Grows before (and_then r f)
grows_then before (Went s n) g f k = grows_after before n.marks g.0 g.1 (f s n) (k s n)
grows_then before (Ends e n) g f k = g
grows_then before (Stops n) g f k = g

pub grows_gone : {W : Type 0} (before : List Mark) (r : Run W) → Grows before r
    → (path : Instance) (j : ℕ) (bars : List ℕ) (kept : State) (f : List ℕ → Act W)
    → ((xs : List ℕ) (s : State) (n : Notes W) → Grows n.marks (f xs s n)) → Grows before (gone_on r path j bars kept f)
grows_gone before (Went s n) g path j bars kept f k = grows_after before n.marks g.0 g.1 (f bars s n) (k bars s n)
grows_gone before (Ends e n) g path j bars kept f k =
    let m : Notes _ = marked (Stopped path (Some e)) n in
    grows_after before n.marks g.0 g.1 (f (j ∷ bars) kept m)
    (grows_after n.marks m.marks (Stopped path (Some e) ∷ []) refl (f (j ∷ bars) kept m) (k (j ∷ bars) kept m))
grows_gone before (Stops n) g path j bars kept f k =
    let m : Notes _ = marked (Stopped path None) n in
    grows_after before n.marks g.0 g.1 (f (j ∷ bars) kept m)
    (grows_after n.marks m.marks (Stopped path None ∷ []) refl (f (j ∷ bars) kept m) (k (j ∷ bars) kept m))

pub grows_chosen : {W : Type 0} (before : List Mark) (b : Bool) (f g : ⊤ → Run W) → Grows before (f tt)
    → Grows before (g tt) → Grows before (chosen b f g)
grows_chosen before true f g h i = h
grows_chosen before false f g h i = i

-- what marks a run adds, as what holds of one run alone
abbrev pub growing : {W : Type 0} → Alone W
growing = record { Holds = λ n. Unit {0}; After = λ a n r. Grows n.marks r; Ok = λ q. Unit {0} }

pub grows_observed : {W : Type 0} (from : Origin) (o : Option (Seen × W)) (n : Notes W) (f : Seen × W → Run W)
    → ((seen : Seen) (w : W) → (f (seen, w) ≡ Stops n) ⊎ (Unit {0} → Grows (used from w n).marks (f (seen, w))))
    → Grows n.marks (rules.given o (Stops n) f)
grows_observed from None n f h = grows_none n.marks (Stops n) refl
grows_observed from (Some x) n f h = answer (f x) (h x.0 x.1)
  where
    answer : (r : Run _) → (r ≡ Stops n) ⊎ (Unit {0} → Grows (used from x.1 n).marks r) → Grows n.marks r
    answer r (inl e) = subst (Grows n.marks) (sym e) (grows_none n.marks (Stops n) refl)
    answer r (inr g) = grows_after n.marks (used from x.1 n).marks _ refl r (g tt)
