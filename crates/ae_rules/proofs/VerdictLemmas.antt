-- What a verdict gives where it holds, premise by premise.
use Rattle.std.proofs.Common.{◌≡◌, refl, subst, Bool, true, false, List, [], ◌∷◌}
use Rattle.ae_text.specs.declared.refusal.Spot.{Spot}
use Rattle.ae_text.specs.declared.refusal.Rule.{Rule}
use Rattle.ae_rules.specs.Verdict.{Verdict, Holds, Broken, ◌>>=◌, ◌>>◌, require, in_turn}

-- a verdict that holds gives such a value
pub record Yields {A : Type 0} (P : A → Type 0) (v : Verdict A) : Type 0 where
  pub value : (x : A) → v ≡ Holds x → P x

-- a value of which it holds
pub gives : {A : Type 0} {P : A → Type 0} {x : A} → P x → Yields P (Holds x)
gives {A} {P} {x} h = record { value = λ y e. subst P (cc) h }

-- a broken rule gives none
pub breaks : {A : Type 0} {P : A → Type 0} {rule : Rule} {at : Spot} → Yields P (Broken rule at)
breaks = record { value = λ y e. absurd (cc) }

-- one premise, and what the next gives then
pub next : {A B : Type 0} {P : B → Type 0} (v : Verdict A) {f : A → Verdict B}
    → ((x : A) → v ≡ Holds x → Yields P (f x)) → Yields P (v >>= f)
next (Holds x) h = h x refl
next (Broken rule at) h = breaks

-- a test, and what the next gives where it holds
pub asks : {B : Type 0} {P : B → Type 0} (b : Bool) (rule : Rule) (at : Spot) {w : Verdict B}
    → (b ≡ true → Yields P w) → Yields P (require b rule at >> w)
asks true rule at h = h refl
asks false rule at h = breaks

-- what holds of the first state and stays at each step
pub turns : {A S : Type 0} {P : S → Type 0} (f : A → S → Verdict S) → ((x : A) (s : S) → P s → Yields P (f x s))
    → (xs : List A) (s : S) → P s → Yields P (in_turn f xs s)
turns f h [] s k = gives k
turns f h (x ∷ xs) s k = next (f x s) (λ t e. turns f h xs t ((h x s k).value t e))

pub always : {A : Type 0} {P : Type 0} {v : Verdict A} → P → Yields (λ _. P) v
always h = record { value = λ x e. h }
