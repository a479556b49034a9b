-- Proofs of the laws.
use Rattle.std.proofs.Common.{◌≡◌, ◌⊎◌, inl, inr, refl, ap, subst, ℕ, arith, nat_eq, nat_lt, ◌+◌, ◌-◌, ◌&&◌, Bool}
use Rattle.std.proofs.Common.{true, false, if◌then◌else◌, Option, None, Some}
use Rattle.std.specs.Prelude.{is_some}
use Rattle.std.proofs.lemmas.Bool.{eq-eqb}
use Rattle.std.proofs.lemmas.Bool.Decides.{nat_tests}
use Rattle.ae_text.specs.declared.refusal.Spot.{Spot}
use Rattle.ae_text.specs.declared.refusal.Rule.{Rule}
use Rattle.ae_tree.specs.declared.form.Perm.{Perm}
use Rattle.ae_tree.specs.declared.form.Perm.TheVariants as need
use Rattle.ae_rules.specs.declared.held.Held.{Held}
use Rattle.ae_rules.specs.declared.held.Held.TheVariants as held
use Rattle.ae_rules.specs.Verdict.{Verdict, Holds, Broken}
use Rattle.ae_rules.specs.Shares.{Share, most_lent, splits, joins, lend, lend_more, one_less}
use Rattle.ae_rules.specs.Statements.{judge_statement}
use Rattle.ae_rules.specs.Judges.{verdict}
use Rattle.ae_rules.specs.Laws.{JudgedOrBroken, NeverBoth, AcceptedOrBroken, NeverAcceptedAndBroken, FirstIsOne}
use Rattle.ae_rules.specs.Laws.{TakenIsGivenBack, NothingToTake, TakingTellsPermission}

-- ---- verdicts

abbrev IsHeldOrBroken : {A : Type 0} → Verdict A → Type 0
IsHeldOrBroken {A} v = ((x : A) × (v ≡ Holds x)) ⊎ ((rule : Rule) × (spot : Spot) × (v ≡ Broken rule spot))

held_or_broken : {A : Type 0} (v : Verdict A) → IsHeldOrBroken v
held_or_broken (Holds x) = inl (x, refl)
held_or_broken (Broken rule spot) = inr (rule, spot, refl)

not_both : {A : Type 0} (v : Verdict A) (x : A) (rule : Rule) (spot : Spot) → v ≡ Holds x → v ≡ Broken rule spot → ⊥
not_both v x rule spot h b = cc

pub judged_or_broken : JudgedOrBroken
judged_or_broken p m at a c = held_or_broken (judge_statement p m at a c)

pub never_both : NeverBoth
never_both p m at a c d rule spot h b = not_both (judge_statement p m at a c) d rule spot h b

accepted : (v : Verdict (Unit {0})) → IsHeldOrBroken v
    → (v ≡ Holds tt) ⊎ ((rule : Rule) × (spot : Spot) × (v ≡ Broken rule spot))
accepted v (inl h) = inl h.1
accepted v (inr b) = inr b

pub accepted_or_broken : AcceptedOrBroken
accepted_or_broken p = accepted (verdict p) (held_or_broken (verdict p))

pub never_accepted_and_broken : NeverAcceptedAndBroken
never_accepted_and_broken p rule spot h b = not_both (verdict p) tt rule spot h b

one_break : (v : Verdict (Unit {0})) (r s : Rule) (at spot : Spot) → v ≡ Broken r at → v ≡ Broken s spot
    → (r ≡ s) × (at ≡ spot)
one_break v r s at spot b c = (cc, cc)

pub first_is_one : FirstIsOne
first_is_one p r s at spot b c = one_break (verdict p) r s at spot b c

-- ---- shares

-- the part and the rest, where there are some, make the whole
abbrev Rejoins : Held → Option Share → Type 0
Rejoins whole None = Unit {0}
Rejoins whole (Some share) = joins share.1 share.0 ≡ Some whole

abbrev no_held : Option Held
no_held = None

lent_back_if : (a b : Bool) (n k : ℕ) → a ≡ false → b ≡ false → k ≡ n
    → (if a then no_held else Some (if b then held.Unique else held.Split k)) ≡ Some (held.Split n)
lent_back_if true b n k e h i = absurd (cc)
lent_back_if false true n k e h i = absurd (cc)
lent_back_if false false n k e h i = ap (λ (x : ℕ). Some (held.Split x)) i

lent_back : (n : ℕ) → nat_lt 0 n ≡ true → one_less (n + 1) ≡ Some (held.Split n)
lent_back n h = lent_back_if (nat_eq (n + 1) 0) (nat_eq (n + 1) 1) n ((n + 1) - 1) (grind (arith, nat_tests, h))
    (grind (arith, nat_tests, h)) (omega arith)

lent_rejoins : (a b : Bool) (n : ℕ) → nat_lt 0 n ≡ a
    → Rejoins (held.Split n) (if a && b then lend (held.Split (n + 1)) else None)
lent_rejoins true true n h = lent_back n h
lent_rejoins true false n h = tt
lent_rejoins false b n h = tt

more_rejoins : (n : ℕ) → Rejoins (held.Split n) (lend_more n)
more_rejoins n = lent_rejoins (nat_lt 0 n) (nat_lt n most_lent) n refl

shared_joins : (g : ℕ) (b : Bool) → b ≡ true → (if b then Some (held.Shared g) else None) ≡ Some (held.Shared g)
shared_joins g true e = refl
shared_joins g false e = cc

shared_rejoins : (b : Bool) (g : ℕ) → Rejoins (held.Shared g) (if b then Some (held.Shared g, held.Shared g) else None)
shared_rejoins true g = shared_joins g (nat_eq g g) (eq-eqb g g refl)
shared_rejoins false g = tt

each_rejoins : (whole : Held) (n : Perm) → Rejoins whole (splits whole n)
each_rejoins held.Unique need.Unique = refl
each_rejoins held.Unique need.Immutable = tt
each_rejoins held.Unique need.Lent = refl
each_rejoins held.Unique (need.Shared h) = tt
each_rejoins (held.Split k) need.Unique = tt
each_rejoins (held.Split k) need.Immutable = tt
each_rejoins (held.Split k) need.Lent = more_rejoins k
each_rejoins (held.Split k) (need.Shared h) = tt
each_rejoins held.Immutable need.Unique = tt
each_rejoins held.Immutable need.Immutable = refl
each_rejoins held.Immutable need.Lent = refl
each_rejoins held.Immutable (need.Shared h) = tt
each_rejoins held.Lent need.Unique = tt
each_rejoins held.Lent need.Immutable = tt
each_rejoins held.Lent need.Lent = refl
each_rejoins held.Lent (need.Shared h) = tt
each_rejoins (held.Shared g) need.Unique = tt
each_rejoins (held.Shared g) need.Immutable = tt
each_rejoins (held.Shared g) need.Lent = tt
each_rejoins (held.Shared g) (need.Shared h) = shared_rejoins (nat_eq g h) g
each_rejoins (held.Inner g) n = tt
each_rejoins held.None n = tt

pub taken_is_given_back : TakenIsGivenBack
taken_is_given_back whole n part rest h = subst (Rejoins whole) h (each_rejoins whole n)

nothing_of_none : (n : Perm) → splits held.None n ≡ None
nothing_of_none n = refl

nothing_of_inner : (n : Perm) (g : ℕ) → splits (held.Inner g) n ≡ None
nothing_of_inner n g = refl

pub nothing_to_take : NothingToTake
nothing_to_take n = (nothing_of_none n, nothing_of_inner n)

-- ---- what is held, and what can be taken of it

shared_is_taken : (g h : ℕ) (b : Bool)
    → b ≡ is_some {T = Share} (if b then Some (held.Shared g, held.Shared g) else None)
shared_is_taken g h true = refl
shared_is_taken g h false = refl

pub taking_tells_permission : TakingTellsPermission
taking_tells_permission held.Unique = (refl, refl, λ g. refl, λ n. refl)
taking_tells_permission (held.Split k) = (refl, refl, λ g. refl, λ n. absurd (n k refl))
taking_tells_permission held.Immutable = (refl, refl, λ g. refl, λ n. refl)
taking_tells_permission held.Lent = (refl, refl, λ g. refl, λ n. refl)
taking_tells_permission (held.Shared k) = (refl, refl, λ g. shared_is_taken k g (nat_eq k g), λ n. refl)
taking_tells_permission (held.Inner k) = (refl, refl, λ g. refl, λ n. refl)
taking_tells_permission held.None = (refl, refl, λ g. refl, λ n. refl)
