-- The laws on what statements use, from their effects.
use Rattle.std.proofs.Common.{◌≡◌, ℕ, ℤ, Bool, true, false, if◌then◌else◌, nat_eq, List, [], ◌++◌, Option, Some}
use Rattle.std.proofs.Common.{refl, ap, sym, ◌∙◌, subst, arith}
use Rattle.std.proofs.lemmas.List.{append-nil}
use Rattle.std.proofs.lemmas.Bool.Decides.{nat_tests}
use Rattle.ae_text.specs.declared.refusal.Spot.{Spot}
use Rattle.ae_rules.specs.declared.uses.Resource.TheVariants.{Group}
use Rattle.ae_rules.specs.declared.uses.Mode.TheVariants.{GroupWhole}
use Rattle.ae_tree.specs.Plain.{Definition, Code}
use Rattle.ae_tree.specs.Names.{io}
use Rattle.ae_rules.specs.Edges.{Uses}
use Rattle.ae_meaning.specs.Values.{Env, today_with}
use Rattle.ae_meaning.specs.Meaning.{TodayState, Run, Went, Ends, Stops, bound}
use Rattle.ae_meaning.specs.Judged.{Statement, uses_at, IsJudged}
use Rattle.ae_meaning.specs.declared.report.Ending.TheVariants.{Trap}
use Rattle.ae_meaning.specs.Frame.{today_does, View, Agree, AgreeAfter, DependsOnReads, ReadsItsUses, KeepsUnwritten}
use Rattle.ae_meaning.specs.Frame.{ChangesItsWrites, behind_bytes, AddsToTheLog, Apart, Commute, ApartCommute}
use Rattle.ae_meaning.proofs.Effects.{SameOn, Effect, Binds, Adds, Fails, Halts, added, perform, effect, performs}
use Rattle.ae_meaning.proofs.Effects.{effect_read, effect_same, Allowed, allowed}
use Rattle.ae_meaning.proofs.Apart.{unwritten, apart-turned, two_names, both_print, not_weak, weak_name}
use Rattle.ae_meaning.proofs.from_text.Basics.{functions_agree}

-- one effect on two states that agree
with_agrees : (u : ℕ → Bool) (x : ℕ) (v : ℤ) (e f : Env) → SameOn u e f → SameOn u (today_with x v e) (today_with x v f)
with_agrees u x v e f h = λ y t. ap (λ o. if nat_eq x y then Some v else o) (h y t)

perform_agrees : (at : Spot) (k : Effect) (v : View) (s t : TodayState) → Agree v s t
    → AgreeAfter v (perform at k s) (perform at k t)
perform_agrees at (Binds x n) v s t h = record { local = with_agrees v.local x n s.env t.env h.local; log = h.log }
perform_agrees at (Adds bytes) v s t h = record { local = h.local; log = λ e. ap (λ l. l ++ bytes) (h.log e) }
perform_agrees at (Fails code) v s t h = (refl, h.log)
perform_agrees at Halts v s t h = h.log

pub depends_on_reads : DependsOnReads
depends_on_reads p m x j v w s t h =
    let e : effect x.action s.env ≡ effect x.action t.env = effect_read p m x j s.env t.env
    (λ y r. h.local y (w y r)) in
    rw (performs x.at x.action s, performs x.at x.action t, e)
    (perform_agrees x.at (effect x.action t.env) v s t h)

pub reads_its_uses : ReadsItsUses
reads_its_uses p m x j v w s t h =
    let e : effect x.action s.env ≡ effect x.action t.env = effect_same p m x j s.env t.env
    (λ y r. h.local y (w y r)) in
    rw (performs x.at x.action s, performs x.at x.action t, e)
    (perform_agrees x.at (effect x.action t.env) v s t h)

unchanged : (b : Bool) (v : ℤ) (o : Option ℤ) → b ≡ false → (if b then Some v else o) ≡ o
unchanged true v o h = cc
unchanged false v o h = refl

perform_keeps : (at : Spot) (u : Uses) (k : Effect) → Allowed u k → (s : TodayState)
    → KeepsUnwritten u s (perform at k s)
perform_keeps at u (Binds x v) w s = (λ y h. unchanged (nat_eq x y) v (s.env y) (weak_name u x y w h), λ h. refl)
perform_keeps at u (Adds bytes) w s = (λ y h. refl, λ h. absurd (not_weak GroupWhole refl (u (Group io)) w h))
perform_keeps at u (Fails code) w s = refl
perform_keeps at u Halts w s = refl

pub changes_its_writes : ChangesItsWrites
changes_its_writes p m x j s =
    rw (performs x.at x.action s)
    (perform_keeps x.at (uses_at p m x) (effect x.action s.env) (allowed p m x j s.env) s)

-- an effect does the same whatever was printed before
perform_adds : (at : Spot) (k : Effect) (env : Env) (log : List ℕ) → perform at k (record { env = env; log = log })
    ≡ behind_bytes log (perform at k (record { env = env; log = [] }))
perform_adds at (Binds x v) env log = ap (λ l. Went (record { env = today_with x v env; log = l }))
    (sym (append-nil log))
perform_adds at (Adds bytes) env log = refl
perform_adds at (Fails code) env log = ap (λ l. Ends (Trap code at) l) (sym (append-nil log))
perform_adds at Halts env log = ap (λ l. Stops l) (sym (append-nil log))

pub adds_to_the_log : AddsToTheLog
adds_to_the_log at a env log =
    rw (performs at a (record { env = env; log = log }), performs at a (record { env = env; log = [] }))
    (perform_adds at (effect a env) env log)

-- a statement that went through leaves the other's effect as it was
after_other : (p : Code) (m : Definition) (x y : Statement) → IsJudged p m x → IsJudged p m y
    → Apart (uses_at p m x) (uses_at p m y) → (s t : TodayState) → today_does x s ≡ Went t
    → today_does y t ≡ perform y.at (effect y.action s.env) t
after_other p m x y j k q s t e =
    let kept : KeepsUnwritten (uses_at p m x) s (Went t) =
    subst (λ (r : Run). KeepsUnwritten (uses_at p m x) s r) e (changes_its_writes p m x j s) in
    performs y.at y.action t ∙ ap (λ k. perform y.at k t)
    (effect_same p m y k t.env s.env (λ z r. kept.0 z (unwritten (uses_at p m x) (uses_at p m y) q z r)))

with_swaps : (x y : ℕ) (v w : ℤ) (e : Env) → nat_eq x y ≡ false → (z : ℕ) → today_with x v (today_with y w e) z
    ≡ today_with y w (today_with x v e) z
with_swaps x y v w e h z = grind (arith, nat_tests)

effects_commute : (at1 at2 : Spot) (a b : Uses) → Apart a b → (k l : Effect) → Allowed a k → Allowed b l
    → (s : TodayState) (f g : TodayState → Run)
    → ((t : TodayState) → perform at1 k s ≡ Went t → g t ≡ perform at2 l t)
    → ((t : TodayState) → perform at2 l s ≡ Went t → f t ≡ perform at1 k t)
    → Commute f g (perform at1 k s) (perform at2 l s)
effects_commute at1 at2 a b p (Binds x v) (Binds y w) k l s f g m n = (
  bound y w (bound x v s),
  m (bound x v s) refl,
  n (bound y w s) refl ∙ ap (λ (e : Env). Went (record { env = e; log = s.log }))
      (functions_agree (today_with x v (today_with y w s.env)) (today_with y w (today_with x v s.env))
      (with_swaps x y v w s.env (two_names a b p x y k l))),
)
effects_commute at1 at2 a b p (Binds x v) (Adds more) k l s f g m n =
    (added more (bound x v s), m (bound x v s) refl, n (added more s) refl)
effects_commute at1 at2 a b p (Binds x v) (Fails code) k l s f g m n = m (bound x v s) refl
effects_commute at1 at2 a b p (Binds x v) Halts k l s f g m n = m (bound x v s) refl
effects_commute at1 at2 a b p (Adds bytes) (Binds y w) k l s f g m n =
    (bound y w (added bytes s), m (added bytes s) refl, n (bound y w s) refl)
effects_commute at1 at2 a b p (Adds bytes) (Adds more) k l s f g m n = absurd (both_print a b p k l)
effects_commute at1 at2 a b p (Adds bytes) (Fails code) k l s f g m n = m (added bytes s) refl
effects_commute at1 at2 a b p (Adds bytes) Halts k l s f g m n = m (added bytes s) refl
effects_commute at1 at2 a b p (Fails c) (Binds y w) k l s f g m n = n (bound y w s) refl
effects_commute at1 at2 a b p (Fails c) (Adds more) k l s f g m n = n (added more s) refl
effects_commute at1 at2 a b p (Fails c) (Fails code) k l s f g m n = tt
effects_commute at1 at2 a b p (Fails c) Halts k l s f g m n = tt
effects_commute at1 at2 a b p Halts (Binds y w) k l s f g m n = n (bound y w s) refl
effects_commute at1 at2 a b p Halts (Adds more) k l s f g m n = n (added more s) refl
effects_commute at1 at2 a b p Halts (Fails code) k l s f g m n = tt
effects_commute at1 at2 a b p Halts Halts k l s f g m n = tt

pub apart_commute : ApartCommute
apart_commute p m x y j k q s =
    let e : today_does x s ≡ perform x.at (effect x.action s.env) s = performs x.at x.action s in
    let f : today_does y s ≡ perform y.at (effect y.action s.env) s = performs y.at y.action s in
    rw (e, f)
    (effects_commute x.at y.at (uses_at p m x) (uses_at p m y) q (effect x.action s.env) (effect y.action s.env)
    (allowed p m x j s.env) (allowed p m y k s.env) s (today_does x) (today_does y)
    (λ t h. after_other p m x y j k q s t (e ∙ h))
    (λ t h. after_other p m y x k j (apart-turned (uses_at p m x) (uses_at p m y) q) s t (f ∙ h)))
