-- Edges and chains of edges.
use Rattle.std.proofs.Common.{◌≡◌, ◌<◌, ◌+◌, ◌-◌, ◌⊎◌, inl, inr, refl, subst, sym, arith, ℕ, zero, suc, true, false}
use Rattle.std.proofs.Common.{Option, None, Some}
use Rattle.std.proofs.lemmas.Bool.{cases_order}
use Rattle.ae_rules.specs.declared.uses.Resource.{Resource}
use Rattle.ae_rules.specs.declared.uses.Mode.{Mode}
use Rattle.ae_rules.specs.declared.uses.Mode.TheVariants.{Read, Write, GroupShared, GroupWhole}
use Rattle.ae_rules.specs.Edges.{are_compatible, is_strong, IsConflict, IsWeak, BlockUses, Edge, Before, Direct}
use Rattle.ae_rules.specs.Edges.{Through}
use Rattle.ae_rules.specs.EdgeLaws.{EdgesGoForward, ChainsGoForward, ConflictsAreOrdered}

pub edges_go_forward : EdgesGoForward
edges_go_forward uses i j e = e.before

pub forward : (uses : BlockUses) (i j : ℕ) → Before uses i j → i < j
forward uses _ _ (Direct i j e) = e.before
forward uses _ _ (Through i j k e c) = let l : i < j = e.before in let m : j < k = forward uses j k c in omega
    (arith, l, m)

pub chains_go_forward : ChainsGoForward
chains_go_forward = forward

-- a chain, and an edge after it
one_more : (uses : BlockUses) (i j k : ℕ) → Before uses i j → Edge uses j k → Before uses i k
one_more uses _ _ k (Direct i j e) next = Through i j k e (Direct j k next)
one_more uses _ _ k (Through i h j e c) next = Through i h k e (one_more uses h j k c next)

abbrev IsStrong : Option Mode → Type 0
IsStrong None = ⊥
IsStrong (Some m) = is_strong m ≡ true

weak_or_strong : (o : Option Mode) → IsWeak o ⊎ IsStrong o
weak_or_strong None = inl tt
weak_or_strong (Some Read) = inl refl
weak_or_strong (Some Write) = inr refl
weak_or_strong (Some GroupShared) = inl refl
weak_or_strong (Some GroupWhole) = inr refl

-- what shuts out every other conflicts with what comes before it
pub strong_after : (m n : Mode) → is_strong n ≡ true → are_compatible m n ≡ false
strong_after Read Read s = absurd (cc)
strong_after Read GroupShared s = absurd (cc)
strong_after Read Write s = refl
strong_after Read GroupWhole s = refl
strong_after Write n s = refl
strong_after GroupShared Read s = absurd (cc)
strong_after GroupShared GroupShared s = absurd (cc)
strong_after GroupShared Write s = refl
strong_after GroupShared GroupWhole s = refl
strong_after GroupWhole n s = refl

-- what shuts out every other conflicts with what comes after it
pub strong_before : (m n : Mode) → is_strong m ≡ true → are_compatible m n ≡ false
strong_before Read n s = absurd (cc)
strong_before Write n s = refl
strong_before GroupShared n s = absurd (cc)
strong_before GroupWhole n s = refl

-- a use that shuts out every other conflicts with what comes before it and with what comes after it
with_strong : (x y z : Option Mode) → IsConflict x z → IsStrong y → IsConflict x y
with_strong None y z h s = absurd h
with_strong (Some m) None z h s = absurd s
with_strong (Some m) (Some n) z h s = strong_after m n s

from_strong : (x y z : Option Mode) → IsConflict x z → IsStrong y → IsConflict y z
from_strong None y z h s = absurd h
from_strong (Some m) y None h s = absurd h
from_strong (Some m) None (Some n) h s = absurd s
from_strong (Some m) (Some k) (Some n) h s = strong_before k n s

abbrev AllWeak : BlockUses → Resource → ℕ → ℕ → Type 0
AllWeak uses r i j = (k : ℕ) → i < k → k < j → IsWeak (uses k r)

-- the last statement between two that shuts out
record Last (uses : BlockUses) (r : Resource) (i j : ℕ) : Type 0 where
  at : ℕ
  after : i < at
  until : at < j
  strong : IsStrong (uses at r)
  clear : AllWeak uses r at j

next_or_later : (i k : ℕ) → i < k → (k ≡ suc i) ⊎ (suc i < k)
next_or_later i k l = elim (cases_order (suc i) k)
    [ inl e ↦ inl (omega arith) | inr o ↦ elim o [ inl m ↦ inr (omega arith) | inr m ↦ absurd (omega arith) ] ]

weak_here : (uses : BlockUses) (r : Resource) (i j : ℕ) → AllWeak uses r (suc i) j → IsWeak (uses (suc i) r)
    → AllWeak uses r i j
weak_here uses r i j rest here k l m = elim (next_or_later i k l)
    [ inl e ↦ subst (λ (x : ℕ). IsWeak (uses x r)) (sym e) here | inr n ↦ rest k n m ]

last_of : (uses : BlockUses) (r : Resource) (i j : ℕ) → suc i < j → AllWeak uses r (suc i) j → IsWeak (uses (suc i) r)
    ⊎ IsStrong (uses (suc i) r) → AllWeak uses r i j ⊎ Last uses r i j
last_of uses r i j l rest (inl here) = inl (weak_here uses r i j rest here)
last_of uses r i j l rest (inr here) =
    inr (record { at = suc i; after = omega arith; until = l; strong = here; clear = rest })

last_strong : (uses : BlockUses) (r : Resource) (d i j : ℕ) → j ≡ suc (i + d) → AllWeak uses r i j ⊎ Last uses r i j
last_strong uses r zero i j e = inl (λ k l m. absurd (omega (arith, l, m, e)))
last_strong uses r (suc d) i j e =
    let f : j ≡ suc (suc i + d) = omega (arith, e) in
    elim (last_strong uses r d (suc i) j f) [
      | inl rest ↦ last_of uses r i j (omega (arith, f)) rest (weak_or_strong (uses (suc i) r))
      | inr x ↦ inr (record {
        at = x.at;
        after = earlier i x.at x.after;
        until = x.until;
        strong = x.strong;
        clear =
            x.clear;
      })
    ]
  where
    earlier : (i k : ℕ) → suc i < k → i < k
    earlier i k l = omega (arith, l)

abbrev Chained : BlockUses → Resource → ℕ → ℕ → Type 0
Chained uses r i j = i < j → IsConflict (uses i r) (uses j r) → Before uses i j

by_last : (uses : BlockUses) (r : Resource) (i j : ℕ) → ((k : ℕ) → k < j → Chained uses r i k) → i < j
    → IsConflict (uses i r) (uses j r)
    → AllWeak uses r i j ⊎ Last uses r i j → Before uses i j
by_last uses r i j ih l h (inl w) = Direct i j (record { before = l; on = r; conflict = h; clear = w })
by_last uses r i j ih l h (inr x) =
    one_more uses i x.at j
    (ih x.at x.until x.after (with_strong (uses i r) (uses x.at r) (uses j r) h x.strong))
    (record {
      before = x.until;
      on = r;
      conflict = from_strong (uses i r) (uses x.at r) (uses j r) h x.strong;
      clear =
          x.clear;
    })

distance : (i j : ℕ) → i < j → j ≡ suc (i + (j - suc i))
distance i j l = omega (arith, l)

-- the statements lie below a bound
chain : (uses : BlockUses) (r : Resource) (n i j : ℕ) → j < n → Chained uses r i j
chain uses r zero i j b l h = absurd (omega (arith, b))
chain uses r (suc n) i j b l h
    = by_last uses r i j (λ k m. chain uses r n i k (omega (arith, b, m))) l h
    (last_strong uses r (j - suc i) i j (distance i j l))

pub conflicts_are_ordered : ConflictsAreOrdered
conflicts_are_ordered uses i j r l h = chain uses r (suc j) i j (omega arith) l h
