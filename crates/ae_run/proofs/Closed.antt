-- Of what went through, all that it conflicts with before it went through.
use Rattle.std.proofs.Common.{◌≡◌, ◌<◌, ◌≤◌, ◌+◌, ◌-◌, ℕ, zero, suc, Bool, true, false, Option, None, Some, IsSome}
use Rattle.std.proofs.Common.{refl, arith, subst}
use Rattle.ae_rules.specs.declared.uses.Resource.{Resource}
use Rattle.ae_rules.specs.declared.uses.Mode.{Mode}
use Rattle.ae_rules.specs.Edges.{IsConflict, IsWeak, BlockUses}
use Rattle.ae_run.specs.Flow.{is_strong_use, IsClosed}
use Rattle.ae_run.proofs.from_rules.EdgeLemmas.{strong_before, strong_after}

-- the least number below n that passes a test, or none
pub data Sought (q : ℕ → Bool) (n : ℕ) : Type 0 where
  Least : (d : ℕ) → d < n → q d ≡ true → ((k : ℕ) → k < d → q k ≡ false) → Sought q n
  Nowhere : ((k : ℕ) → k < n → q k ≡ false) → Sought q n

below_more : (q : ℕ → Bool) (n : ℕ) → ((k : ℕ) → k < n → q k ≡ false) → q n ≡ false → (k : ℕ) → k < suc n → q k ≡ false
below_more q n h e k l = grind (arith, h k)

sought_more : (q : ℕ → Bool) (n : ℕ) → Sought q n → (b : Bool) → q n ≡ b → Sought q (suc n)
sought_more q n (Least d l h m) b e = Least d (omega arith) h m
sought_more q n (Nowhere h) true e = Least n (omega arith) e h
sought_more q n (Nowhere h) false e = Nowhere (below_more q n h e)

pub seek : (q : ℕ → Bool) (n : ℕ) → Sought q n
seek q zero = Nowhere (λ k l. absurd (omega arith))
seek q (suc n) = sought_more q n (seek q n) (q n) refl

-- ---- uses

-- a strong use between two that conflict conflicts with both
between_second : (o p q : Option Mode) → is_strong_use q ≡ true → IsConflict o p → IsConflict o q
between_second None p q h c = absurd c
between_second (Some m) None q h c = absurd c
between_second (Some m) (Some n) None h c = absurd (cc)
between_second (Some m) (Some n) (Some k) h c = strong_after m k h

between_first : (o p q : Option Mode) → is_strong_use q ≡ true → IsConflict o p → IsConflict q p
between_first None p q h c = absurd c
between_first (Some m) None q h c = absurd c
between_first (Some m) (Some n) None h c = absurd (cc)
between_first (Some m) (Some n) (Some k) h c = strong_before k n h

pub write_then_use : (o p : Option Mode) → is_strong_use o ≡ true → IsSome p → IsConflict o p
write_then_use None p h u = absurd (cc)
write_then_use (Some m) None h u = absurd (cc)
write_then_use (Some m) (Some n) h u = strong_before m n h

pub use_then_write : (o p : Option Mode) → IsSome o → is_strong_use p ≡ true → IsConflict o p
use_then_write None p u h = absurd (cc)
use_then_write (Some m) None u h = absurd (cc)
use_then_write (Some m) (Some n) u h = strong_after m n h

pub write_is_use : (o : Option Mode) → is_strong_use o ≡ true → IsSome o
write_is_use None h = absurd (cc)
write_is_use (Some m) h = refl

pub weak_from : (o : Option Mode) → is_strong_use o ≡ false → IsWeak o
weak_from None h = tt
weak_from (Some m) h = h

-- ---- chains of edges

-- statement l stands strictly between, by its distance
strong_at : BlockUses → Resource → ℕ → ℕ → Bool
strong_at uses r i d = is_strong_use (uses (i + 1 + d) r)

-- with the law at shorter distances
conflict_step : (uses : BlockUses) (went : ℕ → Bool) → IsClosed uses went → (r : Resource) (n i k : ℕ) → i < k
    → k ≤ i + suc n
    → ((i k : ℕ) → i < k → k ≤ i + n → IsConflict (uses i r) (uses k r) → went k ≡ true → went i ≡ true)
    → IsConflict (uses i r) (uses k r) → went k ≡ true
    → Sought (strong_at uses r i) (k - (i + 1)) → went i ≡ true
unfolding strong_at
conflict_step uses went closed r n i k l m law c h (Least d near strong first) =
    let x = i + 1 + d in
    let past : went x ≡ true = law x k (omega arith) (omega arith)
    (between_first (uses i r) (uses k r) (uses x r) strong c) h in
    law i x (omega arith) (omega arith) (between_second (uses i r) (uses k r) (uses x r) strong c) past
conflict_step uses went closed r n i k l m law c h (Nowhere none) =
    closed i k (record {
      before = l;
      on = r;
      conflict = c;
      clear = λ x above under.
          weak_from (uses x r)
          (let e : i + 1 + (x - (i + 1)) ≡ x = omega arith in
          subst (λ (z : ℕ). is_strong_use (uses z r) ≡ false) e (none (x - (i + 1)) (omega arith)));
    }) h

conflicts_at : (uses : BlockUses) (went : ℕ → Bool) → IsClosed uses went → (r : Resource) (n i k : ℕ) → i < k
    → k ≤ i + n
    → IsConflict (uses i r) (uses k r) → went k ≡ true → went i ≡ true
conflicts_at uses went closed r zero i k l m c h = absurd (omega arith)
conflicts_at uses went closed r (suc n) i k l m c h
    = conflict_step uses went closed r n i k l m (conflicts_at uses went closed r n) c h (seek (strong_at uses r i)
    (k - (i + 1)))

-- all before it that a statement that went through conflicts with went through
pub conflicts_closed : (uses : BlockUses) (went : ℕ → Bool) → IsClosed uses went → (r : Resource) (i k : ℕ) → i < k
    → IsConflict (uses i r) (uses k r) → went k ≡ true → went i ≡ true
conflicts_closed uses went closed r i k l c h = conflicts_at uses went closed r k i k l (omega arith) c h
