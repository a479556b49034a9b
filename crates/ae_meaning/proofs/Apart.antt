-- What uses that go together say of two statements.
use Rattle.std.proofs.Common.{◌≡◌, ℕ, true, false, nat_eq, Option, None, Some, IsSome, refl, ◌∙◌, subst, arith}
use Rattle.std.proofs.lemmas.Bool.Decides.{nat_tests}
use Rattle.ae_rules.specs.declared.uses.Resource.TheVariants.{Local, Group}
use Rattle.ae_rules.specs.declared.uses.Mode.{Mode}
use Rattle.ae_rules.specs.declared.uses.Mode.TheVariants.{Read, Write, GroupShared, GroupWhole}
use Rattle.ae_tree.specs.Names.{io}
use Rattle.ae_rules.specs.Edges.{Uses, are_compatible, is_strong, IsConflict, IsWeak}
use Rattle.ae_meaning.specs.Frame.{Apart}
use Rattle.std.proofs.lemmas.Bool.{false_from_ne_true}
use Rattle.ae_meaning.proofs.from_rules.EdgeLemmas.{strong_before}

-- what goes with a use of another is weak
weak_beside : (o p : Option Mode) → (IsConflict o p → ⊥) → IsSome p → IsWeak o
weak_beside None p h u = tt
weak_beside (Some m) None h u = absurd (cc)
weak_beside (Some m) (Some n) h u = false_from_ne_true (is_strong m) (λ t. h (strong_before m n t))

-- a local that one of them uses the other does not write
pub unwritten : (u v : Uses) → Apart u v → (y : ℕ) → IsSome (v (Local y)) → IsWeak (u (Local y))
unwritten u v p y w = weak_beside (u (Local y)) (v (Local y)) (p (Local y)) w

-- which of two uses comes first makes no difference
turned : (m n : Mode) → are_compatible m n ≡ are_compatible n m
turned Read Read = refl
turned Read Write = refl
turned Read GroupShared = refl
turned Read GroupWhole = refl
turned Write Read = refl
turned Write Write = refl
turned Write GroupShared = refl
turned Write GroupWhole = refl
turned GroupShared Read = refl
turned GroupShared Write = refl
turned GroupShared GroupShared = refl
turned GroupShared GroupWhole = refl
turned GroupWhole Read = refl
turned GroupWhole Write = refl
turned GroupWhole GroupShared = refl
turned GroupWhole GroupWhole = refl

conflict_turned : (o p : Option Mode) → IsConflict o p → IsConflict p o
conflict_turned None p h = absurd h
conflict_turned (Some m) None h = absurd h
conflict_turned (Some m) (Some n) h = turned n m ∙ h

pub apart-turned : (u v : Uses) → Apart u v → Apart v u
apart-turned u v p = λ r c. p r (conflict_turned (v r) (u r) c)

conflict_of : (m n : Mode) → are_compatible m n ≡ false → (o p : Option Mode) → o ≡ Some m → p ≡ Some n → IsConflict o p
conflict_of m n c o p h k = rw (h, k) c

names_differ : (x y : ℕ) → (x ≡ y → ⊥) → nat_eq x y ≡ false
names_differ x y h = false_from_ne_true (nat_eq x y) (λ t. h (let e : x ≡ y = grind (arith, nat_tests) in e))

-- two statements that are apart do not write the same local
pub two_names : (u v : Uses) → Apart u v → (x y : ℕ) → u (Local x) ≡ Some Write
    → v (Local y) ≡ Some Write → nat_eq x y ≡ false
two_names u v p x y h k =
    names_differ x y (λ e. p (Local y)
    (conflict_of Write Write refl (u (Local y)) (v (Local y))
    (subst (λ (z : ℕ). u (Local z) ≡ Some Write) e h) k))

-- they do not both print
pub both_print : (u v : Uses) → Apart u v → u (Group io) ≡ Some GroupWhole
    → v (Group io) ≡ Some GroupWhole → ⊥
both_print u v p h k = p (Group io)
    (conflict_of GroupWhole GroupWhole refl (u (Group io)) (v (Group io)) h k)

-- a use by Write or GroupWhole is not weak
pub not_weak : (m : Mode) → is_strong m ≡ true → (o : Option Mode) → o ≡ Some m → IsWeak o → ⊥
not_weak m s o h w = let f : is_strong m ≡ false = subst (λ (p : Option Mode). IsWeak p) h w in cc

-- a local that is used weakly is none that is written
pub weak_name : (u : Uses) (x y : ℕ) → u (Local x) ≡ Some Write → IsWeak (u (Local y))
    → nat_eq x y ≡ false
weak_name u x y h w = names_differ x y
    (λ e. not_weak Write refl (u (Local y)) (subst (λ (z : ℕ). u (Local z) ≡ Some Write) e h) w)
