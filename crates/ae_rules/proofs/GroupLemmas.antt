-- Groups that a split block or an atomic block changes, and changes back.
use Rattle.std.proofs.Common.{◌≡◌, ◌≢◌, refl, sym, ap, ◌∙◌, subst, ℕ, nat_eq, Bool, true, false, ◌||◌, not}
use Rattle.std.proofs.Common.{if◌then◌else◌, List, [], ◌∷◌, Option, None, Some}
use Rattle.std.specs.Prelude.{is_some}
use Rattle.std.proofs.lemmas.Bool.{eqb-true}
use mathlib.Core.Path.{fun_ext}
use Rattle.ae_tree.specs.declared.tree.NameAt.{NameAt}
use Rattle.ae_tree.specs.Form.{bare_names}
use Rattle.ae_rules.specs.declared.held.GroupPerm.{GroupPerm}
use Rattle.ae_rules.specs.declared.held.GroupPerm.TheVariants as group
use Rattle.ae_rules.specs.Verdict.{in_turn, given}
use Rattle.ae_rules.specs.Lookups.{Names, has_name}
use Rattle.ae_rules.specs.Table.{no_names}
use Rattle.ae_rules.specs.Groups.{Groups, same_group_perm, group_is, known, with_group, declare, forget, may_split}
use Rattle.ae_rules.specs.Groups.{may_split_all, shared_in, enter_split, held_back, may_lock, enter_atomic}
use Rattle.ae_rules.specs.Laws.{SplitIsUndone, HeldBackInside, AtomicHoldsBack}
use Rattle.ae_rules.proofs.VerdictLemmas.{Yields, gives, next, asks, always}
use Rattle.ae_rules.proofs.from_text.Basics.{number_is_itself}

-- each of these groups is exclusive
abbrev pub AreExclusive : Groups → Names → Type 0
AreExclusive gs names = (g : ℕ) → names g ≡ true → group_is group.Exclusive gs g ≡ true

new_if : (gs : Groups) (g y : ℕ) (a b : Bool) → nat_eq g y ≡ a → (b ≡ true → group_is group.Exclusive gs y ≡ true)
    → group_is group.Exclusive gs g ≡ true → (a || b) ≡ true
    → group_is group.Exclusive gs y ≡ true
new_if gs g y true b q h e k = subst (λ (z : ℕ). group_is group.Exclusive gs z ≡ true) (eqb-true g y q) e
new_if gs g y false b q h e k = h k

split_exclusive : (gs : Groups) (g : NameAt) (earlier : Names)
    → Yields (λ _. group_is group.Exclusive gs g.name ≡ true) (may_split gs g earlier)
split_exclusive gs g earlier =
    asks (known gs g.name) _ _ λ _.
    asks (not (earlier g.name)) _ _ λ _.
    asks (group_is group.Exclusive gs g.name) _ _ λ e.
    gives e

-- each group of a split list is exclusive
pub list_exclusive : (gs : Groups) (xs : List NameAt) (earlier : Names)
    → Yields (λ _. AreExclusive gs (has_name (bare_names xs))) (in_turn (may_split gs) xs earlier)
list_exclusive gs [] earlier = always (λ y e. absurd (cc))
list_exclusive gs (x ∷ xs) earlier =
    next (may_split gs x earlier) λ names e.
    record {
      value = λ t h y k. new_if gs x.name y (nat_eq x.name y) (has_name (bare_names xs) y) refl
          ((list_exclusive gs xs names).value t h y) ((split_exclusive gs x earlier).value names e) k;
    }

-- ---- a split block is undone

is_exclusive : (o : Option GroupPerm) → given o false (same_group_perm group.Exclusive) ≡ true
    → o ≡ Some group.Exclusive
is_exclusive None e = absurd (cc)
is_exclusive (Some group.Exclusive) e = refl
is_exclusive (Some group.Shared) e = absurd (cc)
is_exclusive (Some group.Protected) e = absurd (cc)
is_exclusive (Some group.HeldBack) e = absurd (cc)
is_exclusive (Some group.None) e = absurd (cc)

unknown : (o : Option GroupPerm) → not (is_some o) ≡ true → None ≡ o
unknown None e = refl
unknown (Some q) e = absurd (cc)

passed_if : (b : Bool) (x y : Option GroupPerm) → b ≡ false → (if b then x else y) ≡ y
passed_if true x y e = absurd (cc)
passed_if false x y e = refl

forgotten_if : (x y : ℕ) (a b : Bool) (gs after : Groups) → nat_eq x y ≡ a → not (known gs x) ≡ true
    → (if b then None else after y) ≡ with_group x group.Exclusive gs y
    → (if a || b then None else after y) ≡ gs y
forgotten_if x y true b gs after e n h = unknown (gs x) n ∙ ap gs (eqb-true x y e)
forgotten_if x y false b gs after e n h = h ∙ passed_if (nat_eq x y) (Some group.Exclusive) (gs y) e

-- a group that is declared was not known, and is exclusive then
pub declared_is : (g : NameAt) (gs : Groups)
    → Yields (λ hs. (not (known gs g.name) ≡ true) × (with_group g.name group.Exclusive gs ≡ hs)) (declare g gs)
declared_is g gs = asks (not (known gs g.name)) _ _ λ h. gives (h, refl)

-- the groups that were declared are forgotten
pub declared_forgotten : (xs : List NameAt) (gs : Groups)
    → Yields (λ after. (y : ℕ) → forget (bare_names xs) after y ≡ gs y) (in_turn declare xs gs)
declared_forgotten [] gs = gives (λ y. refl)
declared_forgotten (x ∷ xs) gs =
    next (declare x gs) λ hs e.
    let k = (declared_is x gs).value hs e in
    record {
      value = λ after h y. forgotten_if x.name y (nat_eq x.name y) (has_name (bare_names xs) y) gs after refl k.0
          ((declared_forgotten xs hs).value after h y ∙ ap (λ (z : Groups). z y) (sym k.1));
    }

entered : (gs : List NameAt) (before : Groups)
    → Yields (λ inside. AreExclusive before (has_name (bare_names gs)) × (inside ≡ shared_in gs before))
    (enter_split gs before)
entered gs before =
    next (may_split_all before gs) λ u e.
    gives ((all_exclusive gs before).value u e, refl)
  where
    all_exclusive : (gs : List NameAt) (before : Groups)
        → Yields (λ _. AreExclusive before (has_name (bare_names gs))) (may_split_all before gs)
    all_exclusive gs before = next (in_turn (may_split before) gs no_names) λ names e. always
        ((list_exclusive before gs no_names).value names e)

back_if : (b : Bool) (o i q : Option GroupPerm) → (b ≡ true → o ≡ Some group.Exclusive) → q ≡ i
    → i ≡ (if b then Some group.Shared else o) → (if b then Some group.Exclusive else q) ≡ o
back_if true o i q h e k = sym (h refl)
back_if false o i q h e k = e ∙ k

pub split_is_undone : SplitIsUndone
split_is_undone gs xs before inside after e d =
    let k = (entered gs before).value inside e in
    fun_ext (λ y. back_if (has_name (bare_names gs) y) (before y) (inside y) (forget (bare_names xs) after y)
    (λ n. is_exclusive (before y) (k.0 y n)) ((declared_forgotten xs inside).value after d y)
    (ap (λ (z : Groups). z y) k.1))

-- ---- an atomic block

back_is_not_shared : (o : Option GroupPerm) → held_back o ≢ Some group.Shared
back_is_not_shared None e = cc
back_is_not_shared (Some group.Exclusive) e = cc
back_is_not_shared (Some group.Shared) e = cc
back_is_not_shared (Some group.Protected) e = cc
back_is_not_shared (Some group.HeldBack) e = cc
back_is_not_shared (Some group.None) e = cc

inside_not_shared : (b : Bool) (o : Option GroupPerm) → (if b then Some group.Protected else held_back o)
    ≢ Some group.Shared
inside_not_shared true o e = cc
inside_not_shared false o e = back_is_not_shared o e

back_as_before : (o : Option GroupPerm) → o ≢ Some group.Shared → held_back o ≡ o
back_as_before None n = refl
back_as_before (Some group.Exclusive) n = refl
back_as_before (Some group.Shared) n = absurd (n refl)
back_as_before (Some group.Protected) n = refl
back_as_before (Some group.HeldBack) n = refl
back_as_before (Some group.None) n = refl

inside_as_before : (b : Bool) (o : Option GroupPerm) → b ≡ false → o ≢ Some group.Shared
    → (if b then Some group.Protected else held_back o) ≡ o
inside_as_before true o e n = absurd (cc)
inside_as_before false o e n = back_as_before o n

chosen_first : (b : Bool) (o : Option GroupPerm) → b ≡ true → (if b then Some group.Protected else held_back o)
    ≡ Some group.Protected
chosen_first true o e = refl
chosen_first false o e = absurd (cc)

locked_holds_back : (g : NameAt) (before : Groups) → Yields (HeldBackInside g.name before) (enter_atomic g before)
locked_holds_back g before =
    next (may_lock before g) λ _ _.
    gives (record {
      own = chosen_first (nat_eq g.name g.name) (before g.name) (number_is_itself g.name);
      none_shared = λ h. inside_not_shared (nat_eq g.name h) (before h);
      others = λ h e n. inside_as_before (nat_eq g.name h) (before h) e n;
    })

pub atomic_holds_back : AtomicHoldsBack
atomic_holds_back g before inside e = (locked_holds_back g before).value inside e
