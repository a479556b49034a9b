-- What the statements of a block do, by their numbers, from the laws of the meaning.
use Rattle.std.proofs.Common.{◌≡◌, ◌<◌, ◌≤◌, ◌+◌, ℕ, zero, suc, Bool, true, false, [], IsSome, is_some, refl, ap}
use Rattle.std.proofs.Common.{sym, subst, ◌∙◌, arith}
use Rattle.ae_rules.specs.declared.uses.Resource.TheVariants.{Local}
use Rattle.ae_tree.specs.Plain.{Lines, End, Next, Definition, Code}
use Rattle.ae_rules.specs.Context.{Context}
use Rattle.ae_rules.specs.Edges.{Uses, BlockUses}
use Rattle.ae_rules.specs.Uses.{statement_uses, block_uses}
use Rattle.ae_meaning.specs.Values.{Env, empty}
use Rattle.ae_meaning.specs.Meaning.{TodayState, Run, Went, Ends, Stops, today_one}
use Rattle.ae_meaning.specs.Frame.{View, AgreeAfter, ReadsItsUses, KeepsUnwritten, ChangesItsWrites}
use Rattle.ae_run.specs.Flow.{alone, locals_after, found_from, found_by, is_strong_use, writes_local}
use Rattle.ae_meaning.specs.Judged.{IsJudged, AreJudged}
use Rattle.ae_run.proofs.Closed.{weak_from}
use Rattle.ae_run.proofs.from_rules.PathLemmas.{used_behind_first}
use Rattle.ae_run.proofs.from_meaning.Judged.{first_judged, rest_judged}

abbrev pub unprinted : Env → TodayState
unprinted env = record { env = env; log = [] }

-- the locals that are used, and the log
abbrev pub seen : Uses → View
seen u = record { local = λ y. is_some (u (Local y)); log = true }

-- after a run from these locals and nothing printed, what is not written is as before, and an ending has nothing printed
abbrev pub Kept : (ℕ → Bool) → Env → Run → Type 0
Kept w env (Went s) = (y : ℕ) → w y ≡ false → s.env y ≡ env y
Kept w env (Ends ending log) = log ≡ []
Kept w env (Stops log) = log ≡ []

-- what the laws of the meaning say of the statements of a block that uses resources so
pub record Tells (b : Lines) (uses : BlockUses) : Type 0 where
  pub agrees : (j : ℕ) (e f : Env) → ((y : ℕ) → IsSome (uses j (Local y)) → e y ≡ f y)
      → AgreeAfter (seen (uses j)) (alone b j e) (alone b j f)
  pub kept : (j : ℕ) (env : Env) → Kept (writes_local uses j) env (alone b j env)

-- what a statement does is told by the locals that it uses
alone-agrees : ReadsItsUses → (p : Code) (m : Definition) (b : Lines) (c : Context) → AreJudged p m b c
    → (j : ℕ) (e f : Env) → ((y : ℕ) → IsSome (block_uses p m b c j (Local y)) → e y ≡ f y)
    → AgreeAfter (seen (block_uses p m b c j)) (alone b j e) (alone b j f)
alone-agrees reads p m End c k j e f h = λ _. refl
alone-agrees reads p m (Next at a rest) c k zero e f h =
    reads p m (record { at = at; action = a; context = c }) (first_judged p m at a rest c k)
    (seen (statement_uses p m a c)) (λ y u. u) (unprinted e) (unprinted f) (record { local = h; log = λ _. refl })
alone-agrees reads p m (Next at a rest) c k (suc j) e f h =
    let first : IsJudged p m (record { at = at; action = a; context = c }) = first_judged p m at a rest c k in
    subst (λ (u : Uses). ((y : ℕ) → IsSome (u (Local y)) → e y ≡ f y)
    → AgreeAfter (seen u) (alone rest j e) (alone rest j f))
    (sym (used_behind_first p m at a rest c first.later j first.holds))
    (alone-agrees reads p m rest first.later (rest_judged p m at a rest c first.later k first.holds) j e f) h

kept_by : (u : Uses) (env : Env) (r : Run) → KeepsUnwritten u (unprinted env) r
    → Kept (λ y. is_strong_use (u (Local y))) env r
kept_by u env (Went s) h = λ y n. h.0 y (weak_from (u (Local y)) n)
kept_by u env (Ends ending log) h = h
kept_by u env (Stops log) h = h

-- what a statement does not write is as before
alone-kept : ChangesItsWrites → (p : Code) (m : Definition) (b : Lines) (c : Context) → AreJudged p m b c
    → (j : ℕ) (env : Env) → Kept (λ y. is_strong_use (block_uses p m b c j (Local y))) env (alone b j env)
alone-kept changes p m End c k j env = refl
alone-kept changes p m (Next at a rest) c k zero env = kept_by (statement_uses p m a c) env
    (today_one at a (unprinted env))
    (changes p m (record { at = at; action = a; context = c }) (first_judged p m at a rest c k) (unprinted env))
alone-kept changes p m (Next at a rest) c k (suc j) env =
    let first : IsJudged p m (record { at = at; action = a; context = c }) = first_judged p m at a rest c k in
    subst (λ (u : Uses). Kept (λ y. is_strong_use (u (Local y))) env (alone rest j env))
    (sym (used_behind_first p m at a rest c first.later j first.holds))
    (alone-kept changes p m rest first.later (rest_judged p m at a rest c first.later k first.holds) j env)

-- The laws of the meaning tell of judged lines what these do with what they use.
pub lines_tell : ReadsItsUses → ChangesItsWrites → (p : Code) (m : Definition) (b : Lines) (c : Context)
    → AreJudged p m b c → Tells b (block_uses p m b c)
lines_tell reads changes p m b c k = record {
  agrees = alone-agrees reads p m b c k;
  kept = alone-kept changes p m b c k;
}

locals_kept : (w : ℕ → Bool) (env : Env) (r : Run) → Kept w env r → (y : ℕ) → w y ≡ false → locals_after r env y ≡ env y
locals_kept w env (Went s) h y n = h y n
locals_kept w env (Ends ending log) h y n = refl
locals_kept w env (Stops log) h y n = refl

-- what the next statement finds
pub found-next : (env : Env) (b : Lines) (j : ℕ) → found_from env b (suc j)
    ≡ locals_after (alone b j (found_from env b j)) (found_from env b j)
found-next env End zero = refl
found-next env End (suc j) = refl
found-next env (Next at a rest) zero = refl
found-next env (Next at a rest) (suc j) = found-next (locals_after (today_one at a (unprinted env)) env) rest j

-- a local that nothing writes from i on stays
pub found-unwritten : (b : Lines) (uses : BlockUses) → Tells b uses → (y i d : ℕ)
    → ((k : ℕ) → i ≤ k → k < i + d → writes_local uses k y ≡ false) → found_by b (i + d) y ≡ found_by b i y
found-unwritten b uses tells y i zero h = let e : i + 0 ≡ i = omega arith in ap (λ n. found_by b n y) e
found-unwritten b uses tells y i (suc d) h =
    let e : i + suc d ≡ suc (i + d) = omega arith in
    let env = found_by b (i + d) in
    ap (λ n. found_by b n y) e
    ∙ ap (λ (f : Env). f y) (found-next empty b (i + d))
    ∙ locals_kept (writes_local uses (i + d)) env (alone b (i + d) env) (tells.kept (i + d) env) y
    (h (i + d) (omega arith) (omega arith))
    ∙ found-unwritten b uses tells y i d (λ k l m. h k l (omega arith))
