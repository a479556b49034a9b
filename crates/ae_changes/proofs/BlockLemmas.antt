-- Changes one after another, and at a block's end.
use Rattle.std.proofs.Common.{◌≡◌, refl, sym, ◌∙◌, subst, ℕ, Bool, true, false, if◌then◌else◌, Option, None, Some}
use Rattle.std.proofs.Common.{inl, inr}
use Rattle.std.specs.Prelude.{is_some, ⊤}
use Rattle.ae_tree.specs.Names.{io}
use Rattle.ae_tree.specs.Plain.{Code}
use Rattle.ae_rules.specs.declared.uses.Resource.{Resource}
use Rattle.ae_rules.specs.declared.uses.Resource.TheVariants as resource
use Rattle.ae_rules.specs.declared.uses.Mode.{Mode}
use Rattle.ae_rules.specs.Edges.{Uses}
use Rattle.ae_rules.specs.Groups.{known}
use Rattle.ae_rules.specs.Context.{Context}
use Rattle.ae_rules.specs.Laws.{Keeps}
use Rattle.ae_rules.specs.Uses.{◌∪◌, outside}
use Rattle.ae_semantics.specs.Contexts.{shuts_out}
use Rattle.ae_semantics.specs.Places.{As, State}
use Rattle.ae_semantics.specs.declared.report.Ending.TheVariants.{Done, Trap, Fuel}
use Rattle.ae_semantics.specs.Observations.{Notes}
use Rattle.ae_semantics.specs.Runs.{Run, Went, Ends, Stops, Act, and_then, chosen}
use Rattle.ae_semantics.specs.Meaning.{forgotten, left}
use Rattle.ae_soundness.specs.Fits.{FitsContext}
use Rattle.ae_soundness.specs.Whole.{RunsTo}
use Rattle.ae_soundness.proofs.LeavingLemmas.{seen_is}
use Rattle.ae_changes.proofs.from_rules.VisibleLemmas.{seen_later}
use Rattle.ae_changes.specs.Changes.{GoesBy, LeavesGroup, IsAsBefore, ChangesAsUsed, KeepsLog, RunChanges}
use Rattle.ae_changes.proofs.UsedLemmas.{Covers, covers_left, covers_right}
use Rattle.ae_changes.proofs.WriteLemmas.{went_by}

-- ---- weaker uses

-- What the stronger uses do not write, the weaker do not.
pub not_written : (v u : Uses) (r : Resource) → Covers v u → shuts_out (u r) ≡ false → shuts_out (v r) ≡ false
not_written v u r k e = by_use (shuts_out (v r)) refl
  where
    by_use : (b : Bool) → shuts_out (v r) ≡ b → shuts_out (v r) ≡ false
    by_use false i = i
    by_use true i = absurd (cc (k r i, e))

-- What changes as the one uses changes as what covers them uses.
pub changes_more : (c : Context) (v u : Uses) (s t : State) → Covers v u → ChangesAsUsed c v s t → ChangesAsUsed c u s t
changes_more c v u s t k h = record {
  local = λ x e. h.local x (not_written v u (resource.Local x) k e);
  group = λ r l. h.group r (λ g b. not_written v u (resource.Group g) k (l g b));
  name = h.name;
}

-- So it is with runs.
pub run_more : {W : Type 0} (c : Context) (v u : Uses) (any still : Type 0) (s : State) (n : Notes W) (r : Run W)
    → Covers v u → (still → any) → RunChanges c v any s n r → RunChanges c u still s n r
run_more c v u any still s n (Went t k) cover i h = (
  changes_more c v u s t cover h.0,
  λ e. h.1 (not_written v u (resource.Group io) cover e),
  λ e. h.2 (i e),
)
run_more c v u any still s n (Ends ending k) cover i h = λ e. h (not_written v u (resource.Group io) cover e)
run_more c v u any still s n (Stops k) cover i h = λ e. h (not_written v u (resource.Group io) cover e)

-- Marks are not printed.
pub same_log : {W : Type 0} (c : Context) (u : Uses) (still : Type 0) (s : State) (n l : Notes W) (r : Run W)
    → l.log ≡ n.log → RunChanges c u still s l r → RunChanges c u still s n r
same_log c u still s n l (Went t k) e h = (h.0, λ i. h.1 i ∙ e, h.2)
same_log c u still s n l (Ends ending k) e h = λ i. h i ∙ e
same_log c u still s n l (Stops k) e h = λ i. h i ∙ e

-- ---- one after another

before_both : {A : Type 0} (b d : Bool) (o q r : Option A) → (b ≡ true → d ≡ true) → IsAsBefore b o q
    → IsAsBefore d q r → IsAsBefore b o r
before_both true true o q r k h i = i ∙ h
before_both true false o q r k h i = absurd (cc (k refl))
before_both false true o q r k (inl h) i = inl (i ∙ h)
before_both false true o q r k (inr h) i = inr (i ∙ h)
before_both false false o q r k (inl h) (inl i) = inl (i ∙ h)
before_both false false o q r k (inr h) (inl i) = inr (i ∙ h)
before_both false false o q r k h (inr i) = inr i

-- What changes by the one and then by the other changes by both.
pub changes_then : (c d : Context) (u v : Uses) (s t w : State) → Keeps c d → ChangesAsUsed c u s t
    → ChangesAsUsed d v t w → ChangesAsUsed c (u ∪ v) s w
changes_then c d u v s t w k h i = record {
  local = λ x e. before_both (is_some (c.local x)) (is_some (d.local x)) (s.locals x) (t.locals x) (w.locals x)
      (seen_later c d k (resource.Local x))
      (h.local x (not_written u (u ∪ v) (resource.Local x) (covers_left u v) e))
      (i.local x (not_written v (u ∪ v) (resource.Local x) (covers_right u v) e));
  group = λ r l. i.group r (λ g b. not_written v (u ∪ v) (resource.Group g) (covers_right u v)
      (l g (went_by c u s t r g h b)))
      ∙ h.group r (λ g b. not_written u (u ∪ v) (resource.Group g) (covers_left u v) (l g b));
  name = λ g r e. h.name g r (i.name g r e);
}

then_run : {W : Type 0} (c d : Context) (u v : Uses) (any still : Type 0) (s t : State) (n k : Notes W) (r : Run W)
    → Keeps c d → ChangesAsUsed c u s t → KeepsLog u n k → (any → t.result ≡ s.result)
    → RunChanges d v still t k r → RunChanges c (u ∪ v) (any × still) s n r
then_run c d u v any still s t n k (Went w l) keep h g e i = (
  changes_then c d u v s t w keep h i.0,
  λ q. i.1 (not_written v (u ∪ v) (resource.Group io) (covers_right u v) q)
      ∙ g (not_written u (u ∪ v) (resource.Group io) (covers_left u v) q),
  λ q. i.2 q.1 ∙ e q.0,
)
then_run c d u v any still s t n k (Ends ending l) keep h g e i =
    λ q. i (not_written v (u ∪ v) (resource.Group io) (covers_right u v) q)
    ∙ g (not_written u (u ∪ v) (resource.Group io) (covers_left u v) q)
then_run c d u v any still s t n k (Stops l) keep h g e i =
    λ q. i (not_written v (u ∪ v) (resource.Group io) (covers_right u v) q)
    ∙ g (not_written u (u ∪ v) (resource.Group io) (covers_left u v) q)

-- A run that goes on from where the one before it came to changes what both write.
pub runs_then : {W : Type 0} (P : State → Type 0) (c d : Context) (u v : Uses) (any still : Type 0) (s : State)
    (n : Notes W) (r : Run W) (go : Act W) → Keeps c d → RunsTo P r → RunChanges c u any s n r
    → ((t : State) (k : Notes W) → P t → RunChanges d v still t k (go t k))
    → RunChanges c (u ∪ v) (any × still) s n (and_then r go)
runs_then P c d u v any still s n (Went t k) go keep p h next =
    then_run c d u v any still s t n k (go t k) keep h.0 h.1 h.2 (next t k p)
runs_then P c d u v any still s n (Ends Done k) go keep p h next = absurd p
runs_then P c d u v any still s n (Ends (Trap code at) k) go keep p h next =
    λ q. h (not_written u (u ∪ v) (resource.Group io) (covers_left u v) q)
runs_then P c d u v any still s n (Ends (Fuel at) k) go keep p h next =
    λ q. h (not_written u (u ∪ v) (resource.Group io) (covers_left u v) q)
runs_then P c d u v any still s n (Stops k) go keep p h next = absurd p

-- After a test there is the one run or the other.
pub chosen_changes : {W : Type 0} (c : Context) (u : Uses) (still : Type 0) (s : State) (n : Notes W) (test : Bool)
    (yes_then no_then : ⊤ → Run W) → RunChanges c u still s n (yes_then tt) → RunChanges c u still s n (no_then tt)
    → RunChanges c u still s n (chosen test yes_then no_then)
chosen_changes c u still s n true yes_then no_then h k = h
chosen_changes c u still s n false yes_then no_then h k = k

-- ---- a block's end

-- a group that goes by a name that is known is known
goes_known : (p : Code) (c : Context) (s : State) (r g : ℕ) → FitsContext p c s → known c.group r ≡ true
    → GoesBy s r g → known c.group g ≡ true
goes_known p c s r g z k (inl e) = subst (λ (x : ℕ). known c.group x ≡ true) (sym e) k
goes_known p c s r g z k (inr e) = by_test (known c.group g) refl
  where
    by_test : (b : Bool) → known c.group g ≡ b → known c.group g ≡ true
    by_test true i = i
    by_test false i =
        let none : None ≡ Some (As r) = sym (z.unknown g i) ∙ e in absurd (cc none)

-- what is seen is used as it is
seen_use : (o : Option Mode) (b : Bool) → b ≡ true → shuts_out (if b then o else None) ≡ false → shuts_out o ≡ false
seen_use o true e i = i
seen_use o false e i = absurd (cc e)

-- Where the names of a block are forgotten only what is written outside it is changed.
pub forgotten_changes : (p : Code) (c : Context) (u : Uses) (s t : State) → FitsContext p c s → ChangesAsUsed c u s t
    → ChangesAsUsed c (outside c u) s (forgotten c t)
forgotten_changes p c u s t z h = record {
  local = λ x e. by_local x (is_some (c.local x)) e (h.local x);
  group = λ r l. by_group r (known c.group r) refl l;
  name = λ g r e. h.name g r (seen_is (known c.group g) (t.groups g) (As r) e).1;
}
  where
    by_local : (x : ℕ) (b : Bool) → shuts_out (if b then u (resource.Local x) else None) ≡ false
        → (shuts_out (u (resource.Local x)) ≡ false → IsAsBefore b (s.locals x) (t.locals x))
        → IsAsBefore b (s.locals x) (if b then t.locals x else None)
    by_local x true e k = k e
    by_local x false e k = inr refl

    by_group : (r : ℕ) (b : Bool) → known c.group r ≡ b → LeavesGroup (outside c u) s r
        → (if b then t.groups r else None) ≡ s.groups r
    by_group r true e l = h.group r (λ g b. seen_use (u (resource.Group g)) (known c.group g)
        (goes_known p c s r g z e b) (l g b))
    by_group r false e l = sym (z.unknown r e)

-- A block that is left changes only what is written outside it.
pub left_changes : {W : Type 0} (p : Code) (c : Context) (u : Uses) (still : Type 0) (s : State) (n : Notes W)
    (r : Run W) → FitsContext p c s → RunChanges c u still s n r → RunChanges c (outside c u) still s n (left c r)
left_changes p c u still s n (Went t k) z h = (
  forgotten_changes p c u s t z h.0,
  λ e. h.1 (seen_use (u (resource.Group io)) (known c.group io) z.log_known e),
  h.2,
)
left_changes p c u still s n (Ends ending k) z h =
    λ e. h (seen_use (u (resource.Group io)) (known c.group io) z.log_known e)
left_changes p c u still s n (Stops k) z h =
    λ e. h (seen_use (u (resource.Group io)) (known c.group io) z.log_known e)
