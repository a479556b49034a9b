-- What became of the statements stays right, whatever comes of the next one.
use Rattle.std.proofs.Common.{◌≡◌, ◌≢◌, ◌<◌, ◌≤◌, ◌⊎◌, inl, inr, ℕ, zero, suc, Bool, true, false, List, [], ◌∷◌}
use Rattle.std.proofs.Common.{length, get_or, set, get_or-set_same, get_or-set_other, Option, None, Some, refl, ap}
use Rattle.std.proofs.Common.{sym, ◌∙◌, arith, subst}
use Rattle.std.proofs.Math.ListN.{length-set}
use Rattle.std.proofs.lemmas.Bool.{cases_eq}
use Rattle.ae_tree.specs.Plain.{Lines}
use Rattle.ae_tree.specs.Limits.{statement_count}
use Rattle.ae_rules.specs.Edges.{BlockUses}
use Rattle.ae_tree.specs.Shown.{action, lines_from}
use Rattle.ae_tree.specs.declared.tree.Stmt.{Stmt}
use Rattle.ae_meaning.specs.declared.report.Ending.{Ending}
use Rattle.ae_meaning.specs.Values.{Env, empty}
use Rattle.ae_meaning.specs.Meaning.{TodayState, Went, Ends, Stops, today_one}
use Rattle.ae_run.specs.declared.course.Fate.{Fate}
use Rattle.ae_run.specs.declared.course.Fate.TheVariants as fate
use Rattle.ae_run.specs.declared.course.First.{First}
use Rattle.ae_run.specs.Flow.{alone, turn, IsClosed, HasValues, IsReady}
use Rattle.ae_run.specs.Course.{is_went, is_taken, fate_at, went, was_taken, IsBehind, IsAtOrBehind, IsFate, IsFirst}
use Rattle.ae_run.specs.Course.{IsRight, Settles}
use Rattle.ae_run.proofs.Deeds.{unprinted, Tells}
use Rattle.ae_run.proofs.Flow.{IsWith, Stands, closed_with, went_values, went_prints, ended_turn, stopped_turn}
use Rattle.ae_run.proofs.Flow.{values_begin}
use Rattle.ae_run.proofs.from_text.Basics.{no_test_is_both, functions_agree}

-- ---- one fate is set

pub fate_here : (fs : List Fate) (j : ℕ) (f : Fate) → j < length fs → fate_at (set fs j f) j ≡ f
fate_here fs j f l = get_or-set_same fs j f fate.Waiting l

pub fate_other : (fs : List Fate) (j : ℕ) (f : Fate) (k : ℕ) → k ≢ j → fate_at (set fs j f) k ≡ fate_at fs k
fate_other fs j f k n = get_or-set_other fs j k f fate.Waiting n

pub untaken_left : (f : Fate) → is_taken f ≡ false → is_went f ≡ false
untaken_left fate.Waiting h = refl
untaken_left (fate.Went piece) h = absurd (cc)
untaken_left fate.Stopped h = refl

stopped_at : (fs : List Fate) (j : ℕ) → j < length fs → was_taken fs j ≡ false → (k : ℕ) → (k ≡ j) ⊎ (k ≢ j)
    → went (set fs j fate.Stopped) k ≡ went fs k
stopped_at fs j l u k (inl e) =
    subst (λ (x : ℕ). went (set fs j fate.Stopped) x ≡ went fs x) (sym e)
    (ap is_went (fate_here fs j fate.Stopped l) ∙ sym (untaken_left (fate_at fs j) u))
stopped_at fs j l u k (inr n) = ap is_went (fate_other fs j fate.Stopped k n)

-- one that does not go through changes nothing for the others
pub went-stopped : (fs : List Fate) (j : ℕ) → j < length fs → was_taken fs j ≡ false → went (set fs j fate.Stopped)
    ≡ went fs
went-stopped fs j l u = functions_agree (went (set fs j fate.Stopped)) (went fs)
    (λ k. stopped_at fs j l u k (cases_eq k j))

pub went-went : (fs : List Fate) (j : ℕ) (piece : List ℕ) → j < length fs
    → IsWith (went fs) (went (set fs j (fate.Went piece))) j
went-went fs j piece l = record {
  here = ap is_went (fate_here fs j (fate.Went piece) l);
  others = λ k n. ap is_went (fate_other fs j (fate.Went piece) k n);
}

fates_at : (P : ℕ → Fate → Type 0) (fs : List Fate) (j : ℕ) (f : Fate) → j < length fs → P j f
    → ((k : ℕ) → P k (fate_at fs k)) → (k : ℕ) → (k ≡ j) ⊎ (k ≢ j) → P k (fate_at (set fs j f) k)
fates_at P fs j f l here old k (inl e) = subst (λ (x : ℕ). P x (fate_at (set fs j f) x)) (sym e)
    (subst (P j) (sym (fate_here fs j f l)) here)
fates_at P fs j f l here old k (inr n) = subst (P k) (sym (fate_other fs j f k n)) (old k)

first_apart : (fs : List Fate) (j i : ℕ) → fate_at fs i ≡ fate.Stopped → was_taken fs j ≡ false → i ≢ j
first_apart fs j i e u = λ q. let t : is_taken (fate_at fs j) ≡ true = ap is_taken (ap (fate_at fs) (sym q) ∙ e) in cc

first_kept : (b : Lines) (fs : List Fate) (j : ℕ) (f : Fate) (known : Option First) → was_taken fs j ≡ false
    → IsFirst b fs known → IsFirst b (set fs j f) known
first_kept b fs j f None u h = tt
first_kept b fs j f (Some first) u h =
    let l : first.at < length (set fs j f) = subst (λ (n : ℕ). first.at < n) (sym (length-set fs j f)) h.0 in
    (l, fate_other fs j f first.at (first_apart fs j first.at h.1 u) ∙ h.1, h.2)

behind_at : (known : Option First) (j : ℕ) → IsBehind known j → IsAtOrBehind known j
behind_at None j h = h
behind_at (Some first) j h = omega arith

-- ---- the four ways

abbrev pub Before : Lines → BlockUses → List Fate → Option First → TodayState → ℕ → Type 0
Before b uses fs known s j = IsRight b uses fs known s × IsReady uses (went fs) j × (was_taken fs j ≡ false) × (j <
    length fs)

-- stopped, for one of the two reasons
stop_right : (b : Lines) (uses : BlockUses) (fs : List Fate) (known : Option First) (s : TodayState) (j : ℕ)
    → Before b uses fs known s j
    → IsAtOrBehind known j ⊎ (turn b j ≡ Stops []) → IsRight b uses (set fs j fate.Stopped) known s
stop_right b uses fs known s j h why =
    let w = went-stopped fs j h.3 h.2 in
    record {
      size = length-set fs j fate.Stopped ∙ h.0.size;
      log = h.0.log;
      closed = subst (λ (g : ℕ → Bool). IsClosed uses g) (sym w) h.0.closed;
      values = subst (λ (g : ℕ → Bool). HasValues b uses g s.env) (sym w) h.0.values;
      fates = λ k. fates_at (IsFate b known) fs j fate.Stopped h.3 why h.0.fates k (cases_eq k j);
      first = first_kept b fs j fate.Stopped known h.2 h.0.first;
    }

pub left_out : (b : Lines) (uses : BlockUses) (fs : List Fate) (known : Option First) (s : TodayState) (j : ℕ)
    → Before b uses fs known s j
    → IsBehind known j → IsRight b uses (set fs j fate.Stopped) known s
left_out b uses fs known s j h e = stop_right b uses fs known s j h (inl (behind_at known j e))

state_is : (s : TodayState) → s.log ≡ [] → unprinted s.env ≡ s
state_is s e = ap (λ l. record { env = s.env; log = l }) (sym e)

stands : (b : Lines) (uses : BlockUses) (fs : List Fate) (known : Option First) (s : TodayState) (j : ℕ)
    → Before b uses fs known s j
    → Stands b uses (went fs) j s.env
stands b uses fs known s j h = record { closed = h.0.closed; ready = h.1; values = h.0.values }

pub lacking : (b : Lines) (uses : BlockUses) → Tells b uses → (fs : List Fate) (known : Option First) (s t :
    TodayState) (j : ℕ)
    → Before b uses fs known s j → alone b j s.env ≡ Stops t.log → t.env ≡ s.env
    → IsRight b uses (set fs j fate.Stopped) known t
lacking b uses tells fs known s t j h e f =
    let p = stopped_turn b uses tells (went fs) j s.env (stands b uses fs known s j h) t.log e in
    let q : s ≡ t = ap (λ (v : Env). record { env = v; log = s.log }) (sym f)
    ∙ ap (λ l. record { env = t.env; log = l }) (h.0.log ∙ sym p.1) in
    subst (λ (u : TodayState). IsRight b uses (set fs j fate.Stopped) known u) q (stop_right b uses fs known s j h
    (inr p.0))

pub gone : (b : Lines) (uses : BlockUses) → Tells b uses → (fs : List Fate) (known : Option First) (s t :
    TodayState) (j : ℕ) (piece : List ℕ)
    → Before b uses fs known s j
    → alone b j s.env ≡ Went (record { env = t.env; log = piece }) → t.log ≡ []
    → IsRight b uses (set fs j (fate.Went piece)) known t
gone b uses tells fs known s t j piece h e l =
    let w = went-went fs j piece h.3 in
    let st = stands b uses fs known s j h in
    record {
      size = length-set fs j (fate.Went piece) ∙ h.0.size;
      log = l;
      closed = closed_with uses (went fs) (went (set fs j (fate.Went piece))) j h.0.closed h.1 w;
      values = went_values b uses tells (went fs) (went (set fs j (fate.Went piece))) j s.env st w
          (record { env = t.env; log = piece }) e;
      fates = λ k. fates_at (IsFate b known) fs j (fate.Went piece) h.3
          (went_prints b uses tells (went fs) j s.env st (record { env = t.env; log = piece }) e) h.0.fates k
          (cases_eq k j);
      first = first_kept b fs j (fate.Went piece) known h.2 h.0.first;
    }

at_earlier : (known : Option First) (j k : ℕ) → (IsBehind known j → ⊥) → IsAtOrBehind known k → j ≤ k
at_earlier None j k n h = absurd h
at_earlier (Some first) j k n h = grind (arith, n)

fate_earlier : (b : Lines) (known : Option First) (j : ℕ) (ending : Ending) → (IsBehind known j → ⊥)
    → (k : ℕ) (f : Fate) → IsFate b known k f → IsFate b (Some (record { at = j; ending = ending })) k f
fate_earlier b known j ending n k fate.Waiting h = tt
fate_earlier b known j ending n k (fate.Went piece) h = h
fate_earlier b known j ending n k fate.Stopped (inl l) = inl (at_earlier known j k n l)
fate_earlier b known j ending n k fate.Stopped (inr e) = inr e

pub ended_here : (b : Lines) (uses : BlockUses) → Tells b uses → (fs : List Fate) (known : Option First) (s t :
    TodayState) (j : ℕ)
    (ending : Ending) → Before b uses fs known s j → (IsBehind known j → ⊥)
    → alone b j s.env ≡ Ends ending t.log → t.env ≡ s.env
    → IsRight b uses (set fs j fate.Stopped) (Some (record { at = j; ending = ending })) t
ended_here b uses tells fs known s t j ending h n e f =
    let p = ended_turn b uses tells (went fs) j s.env (stands b uses fs known s j h) ending t.log e in
    let w = went-stopped fs j h.3 h.2 in
    let now : Option First = Some (record { at = j; ending = ending }) in
    let here : j ≤ j = omega arith in
    record {
      size = length-set fs j fate.Stopped ∙ h.0.size;
      log = p.1;
      closed = subst (λ (g : ℕ → Bool). IsClosed uses g) (sym w) h.0.closed;
      values = subst (λ (g : ℕ → Bool). HasValues b uses g t.env) (sym w)
          (subst (λ (v : Env). HasValues b uses (went fs) v) (sym f) h.0.values);
      fates = λ k. fates_at (IsFate b now) fs j fate.Stopped h.3 (inl here)
          (λ i. fate_earlier b known j ending n i (fate_at fs i) (h.0.fates i)) k (cases_eq k j);
      first = (subst (λ (x : ℕ). j < x) (sym (length-set fs j fate.Stopped)) h.3, fate_here fs j fate.Stopped h.3, p.0);
    }

-- ---- a statement of a list

pub alone-at : (xs : List Stmt) (j : ℕ) (x : Stmt) (env : Env) → j < length xs → x ≡ get_or xs j x
    → alone (lines_from xs) j env ≡ today_one x.at (action x.kind) (unprinted env)
alone-at [] j x env l e = absurd (omega arith)
alone-at (y ∷ xs) zero x env l e = ap (λ (z : Stmt). today_one z.at (action z.kind) (unprinted env)) (sym e)
alone-at (y ∷ xs) (suc j) x env l e = alone-at xs j x env (omega arith) e

pub alone-here : (xs : List Stmt) (j : ℕ) (x : Stmt) (s : TodayState) → j < length xs → x ≡ get_or xs j x → s.log ≡ []
    → alone (lines_from xs) j s.env ≡ today_one x.at (action x.kind) s
alone-here xs j x s l e n = alone-at xs j x s.env l e ∙ ap (today_one x.at (action x.kind)) (state_is s n)

pub settled : (fs gs : List Fate) (j : ℕ) (f : Fate) → is_taken f ≡ true → gs ≡ set fs j f → Settles fs gs j (is_went f)
settled fs gs j f t e = record { fate = f; is = e; taken = t; went = refl }

-- ---- before anything was run

pub fresh : (b : Lines) (uses : BlockUses) → Tells b uses → (fs : List Fate) (s : TodayState)
    → length fs ≡ statement_count b
    → ((j : ℕ) → fate_at fs j ≡ fate.Waiting) → s.env ≡ empty → s.log ≡ [] → IsRight b uses fs None s
fresh b uses tells fs s n w e l =
    let none : (k : ℕ) → went fs k ≡ false = λ k. ap is_went (w k) in
    record {
      size = n;
      log = l;
      closed = λ i j edge h. absurd (no_test_is_both (went fs j) h (none j));
      values = subst (λ (v : Env). HasValues b uses (went fs) v) (sym e) (values_begin b uses tells (went fs) none);
      fates = λ j. subst (IsFate b None j) (sym (w j)) tt;
      first = tt;
    }
