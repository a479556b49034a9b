-- The groups that a judged call needs are here where its method begins.
use Rattle.std.proofs.Common.{◌≡◌, ◌⊎◌, inl, inr, refl, sym, ap, ◌∙◌, subst, ℕ, nat_eq, Bool, true, false, ◌||◌}
use Rattle.std.proofs.Common.{if◌then◌else◌, List, [], ◌∷◌, map, Option, None, Some}
use Rattle.std.specs.Prelude.{option_map, is_some, ⊤}
use Rattle.std.proofs.lemmas.Bool.{eqb-true}
use Rattle.std.proofs.lemmas.Option.{same_Some}
use Rattle.ae_text.specs.declared.refusal.Spot.{Spot}
use Rattle.ae_text.specs.declared.refusal.Rule.TheVariants as rule
use Rattle.ae_tree.specs.declared.tree.Need.{Need}
use Rattle.ae_tree.specs.declared.tree.Need.TheVariants as need_of
use Rattle.ae_tree.specs.declared.tree.GroupNeed.{GroupNeed}
use Rattle.ae_tree.specs.Names.{io}
use Rattle.ae_tree.specs.Plain.{Code, Definition}
use Rattle.ae_rules.specs.declared.held.GroupPerm.{GroupPerm}
use Rattle.ae_rules.specs.declared.held.GroupPerm.TheVariants as group
use Rattle.ae_rules.specs.Verdict.{Holds, require, each, given}
use Rattle.ae_rules.specs.Groups.{Groups as GroupsKnown}
use Rattle.ae_rules.specs.Groups.{known, same_group_perm, group_is, opens, wanted_need, need_met}
use Rattle.ae_rules.specs.Judges.{permission_needed, need_for, knows, groups_at_start}
use Rattle.ae_semantics.specs.Places.{Group, Here, Away, As, State, other_name, name_of, group_of}
use Rattle.ae_semantics.specs.Calls.{groups_needed}
use Rattle.ae_soundness.specs.Fits.{has_members, FitsShown, FitsGroup}
use Rattle.ae_soundness.proofs.LikeLemmas.{FitsGroups}
use Rattle.ae_soundness.proofs.NeedLemmas.{NeedsAreKnown}
use Rattle.ae_soundness.proofs.from_rules.PathLemmas.{first_holds}
use Rattle.ae_soundness.proofs.from_rules.SeenLemmas.{required}
use Rattle.ae_soundness.proofs.from_text.Basics.{number_is_itself}

-- ---- the needs of a call

-- the need that is found is of the group, and is met
pub record IsMet (gs : GroupsKnown) (at : Spot) (new : ℕ → ℕ) (g : ℕ) (n : GroupNeed) : Type 0 where
  pub name : n.group.name ≡ g
  pub unit : ⊤
  pub met : need_met gs at (wanted_need new n) ≡ Holds unit

pub found_is_met : (gs : GroupsKnown) (at : Spot) (new : ℕ → ℕ) (g : ℕ) (ns : List GroupNeed) (n : GroupNeed) (u : ⊤)
    → each (need_met gs at) (map (wanted_need new) ns) ≡ Holds u → need_for ns g ≡ Some n → IsMet gs at new g n
found_is_met gs at new g [] n u h e = absurd (cc e)
found_is_met gs at new g (m ∷ ns) n u h e =
    let a = first_holds (need_met gs at (wanted_need new m)) (λ _. each (need_met gs at) (map (wanted_need new) ns)) u h
    in by_test a.0 a.1 (λ i. found_is_met gs at new g ns n u a.2 i) (nat_eq m.group.name g) refl e
  where
    by_test : (x : ⊤) → need_met gs at (wanted_need new m) ≡ Holds x
        → (need_for ns g ≡ Some n → IsMet gs at new g n) → (b : Bool) → nat_eq m.group.name g ≡ b
        → (if b then Some m else need_for ns g) ≡ Some n → IsMet gs at new g n
    by_test x k l true d i =
        let same : m ≡ n = same_Some m n i in
        subst (λ (y : GroupNeed). IsMet gs at new g y) same
        (record { name = eqb-true m.group.name g d; unit = x; met = k })
    by_test x k l false d i = l i

-- what there is where this permission is had fits the need
abbrev pub Permits : Code → Option GroupPerm → Need → Type 0
Permits p o n = (q : GroupPerm) × (o ≡ Some q) × ((x : Option Group) → FitsGroup p q x
    → FitsShown p (permission_needed n) x)

exclusive_permits : (p : Code) (o : Option GroupPerm) → given o false (same_group_perm group.Exclusive) ≡ true
    → Permits p o need_of.Exclusive
exclusive_permits p None h = absurd (cc h)
exclusive_permits p (Some group.Exclusive) h = (group.Exclusive, refl, λ x i. i refl)
exclusive_permits p (Some group.Shared) h = absurd (cc h)
exclusive_permits p (Some group.Protected) h = absurd (cc h)
exclusive_permits p (Some group.HeldBack) h = absurd (cc h)
exclusive_permits p (Some group.None) h = absurd (cc h)

shared_permits : (p : Code) (o : Option GroupPerm) → given o false (same_group_perm group.Shared) ≡ true
    → Permits p o need_of.Shared
shared_permits p None h = absurd (cc h)
shared_permits p (Some group.Exclusive) h = absurd (cc h)
shared_permits p (Some group.Shared) h = (group.Shared, refl, λ x i. i refl)
shared_permits p (Some group.Protected) h = absurd (cc h)
shared_permits p (Some group.HeldBack) h = absurd (cc h)
shared_permits p (Some group.None) h = absurd (cc h)

-- what is not away serves each need
as_protected : (p : Code) (x : Option Group) → FitsShown p group.Exclusive x → FitsShown p group.Protected x
as_protected p None h = h
as_protected p (Some (Here st)) h = h
as_protected p (Some (Away cell)) h = absurd (cc h)
as_protected p (Some (As g)) h = h

open_permits : (p : Code) (o : Option GroupPerm)
    → (given o false (same_group_perm group.Exclusive) || given o false (same_group_perm group.Protected)) ≡ true
    → Permits p o need_of.Protected
open_permits p None h = absurd (cc h)
open_permits p (Some group.Exclusive) h = (group.Exclusive, refl, λ x i. as_protected p x (i refl))
open_permits p (Some group.Shared) h = absurd (cc h)
open_permits p (Some group.Protected) h = (group.Protected, refl, λ x i. i refl)
open_permits p (Some group.HeldBack) h = absurd (cc h)
open_permits p (Some group.None) h = absurd (cc h)

-- A group that meets a need has what the need asks for.
pub need_permits : (p : Code) (gs : GroupsKnown) (at : Spot) (u : ⊤) (x : ℕ) (n : Need)
    → need_met gs at (n, x) ≡ Holds u → Permits p (gs x) n
need_permits p gs at u x need_of.Exclusive h =
    (exclusive_permits) p (gs x) (required (group_is group.Exclusive gs x) rule.NotExclusive at u h)
need_permits p gs at u x need_of.Shared h =
    let a = first_holds (require _ rule.NestedAtomic at) (λ _. require (group_is group.Shared gs x) rule.NotShared at)
    u h in
    (shared_permits) p (gs x) (required (group_is group.Shared gs x) rule.NotShared at u a.2)
need_permits p gs at u x need_of.Protected h =
    (open_permits) p (gs x) (required (opens gs x) rule.NeedsGroup at u h)

-- ---- the groups of the method

-- what there is of a group, under its own name or under that of another need for the same group
abbrev IsNeeded : (ℕ → ℕ) → State → List GroupNeed → ℕ → Group → Type 0
IsNeeded to s ns g x = (groups_needed to s ns g ≡ Some x) ⊎ ((h : ℕ) × (groups_needed to s ns g ≡ Some (As h))
    × (groups_needed to s ns h ≡ Some x) × (to h ≡ to g))

-- something is there
abbrev IsThere : Option Group → Type 0
IsThere o = (x : Group) × (o ≡ Some x)

needed_there : (to : ℕ → ℕ) (s : State) (ns : List GroupNeed) (g : ℕ) (x : Group) → IsNeeded to s ns g x
    → IsThere (groups_needed to s ns g)
needed_there to s ns g x (inl e) = (x, e)
needed_there to s ns g x (inr r) = (As r.0, r.1)

-- the step of a list of needs
abbrev step_of : Bool → Bool → Option Group → ℕ → Option Group → Option Group
step_of b d own n rest = if b then own else (if d then option_map (λ (x : Group). As n) rest else rest)

needed_last : (to : ℕ → ℕ) (s : State) (n : GroupNeed) (ns : List GroupNeed) (g : ℕ) (v : Group)
    → s.groups (to g) ≡ Some v → IsNeeded to s ns g v → nat_eq n.group.name g ≡ false → (d : Bool)
    → nat_eq (to n.group.name) (to g) ≡ d → IsNeeded to s (n ∷ ns) g v
needed_last to s n ns g v e k b true d =
    let there = needed_there to s ns g v k in
    let same : to n.group.name ≡ to g = eqb-true (to n.group.name) (to g) d in
    let is : groups_needed to s (n ∷ ns) g ≡ Some (As n.group.name)
    = ap (λ (x : Bool). step_of x (nat_eq (to n.group.name) (to g)) (s.groups (to g)) n.group.name
    (groups_needed to s ns g)) b
    ∙ ap (λ (x : Bool). step_of false x (s.groups (to g)) n.group.name (groups_needed to s ns g)) d
    ∙ ap (option_map (λ (x : Group). As n.group.name)) there.1 in
    let own : groups_needed to s (n ∷ ns) n.group.name ≡ Some v
    = ap (λ (x : Bool). step_of x (nat_eq (to n.group.name) (to n.group.name)) (s.groups (to n.group.name)) n.group.name
    (groups_needed to s ns n.group.name)) (number_is_itself n.group.name)
    ∙ ap s.groups same ∙ e in
    inr (n.group.name, is, own, same)
needed_last to s n ns g v e k b false d = still k
  where
    is : groups_needed to s (n ∷ ns) g ≡ groups_needed to s ns g
    is = ap (λ (x : Bool). step_of x (nat_eq (to n.group.name) (to g)) (s.groups (to g)) n.group.name
        (groups_needed to s ns g)) b
        ∙ ap (λ (x : Bool). step_of false x (s.groups (to g)) n.group.name (groups_needed to s ns g)) d

    other : (h : ℕ) → to h ≡ to g → groups_needed to s ns h ≡ Some v → (x : Bool)
        → step_of x (nat_eq (to n.group.name) (to h)) (s.groups (to h)) n.group.name (groups_needed to s ns h)
        ≡ Some v
    other h same l true = ap s.groups same ∙ e
    other h same l false = ap
        (λ (x : Bool). step_of false x (s.groups (to h)) n.group.name (groups_needed to s ns h))
        (ap (nat_eq (to n.group.name)) same ∙ d) ∙ l

    still : IsNeeded to s ns g v → IsNeeded to s (n ∷ ns) g v
    still (inl r) = inl (is ∙ r)
    still (inr r) = inr (r.0, is ∙ r.1, other r.0 r.3 r.2 (nat_eq n.group.name r.0), r.3)

needed : (to : ℕ → ℕ) (s : State) (ns : List GroupNeed) (g : ℕ) (n : GroupNeed) (v : Group)
    → s.groups (to g) ≡ Some v → need_for ns g ≡ Some n → IsNeeded to s ns g v
needed to s [] g n v e h = absurd (cc h)
needed to s (m ∷ ns) g n v e h = by_test (λ i. needed to s ns g n v e i) (nat_eq m.group.name g) refl h
  where
    by_test : (need_for ns g ≡ Some n → IsNeeded to s ns g v) → (b : Bool) → nat_eq m.group.name g ≡ b
        → (if b then Some m else need_for ns g) ≡ Some n
        → IsNeeded to s (m ∷ ns) g v
    by_test l true d i = inl
        (ap (λ (x : Bool). step_of x (nat_eq (to m.group.name) (to g)) (s.groups (to g)) m.group.name
        (groups_needed to s ns g)) d ∙ e)
    by_test l false d i = needed_last to s m ns g v e (l i) d (nat_eq (to m.group.name) (to g))
        refl

-- nothing is there of what is not needed
pub none_needed : (to : ℕ → ℕ) (s : State) (ns : List GroupNeed) (g : ℕ) → need_for ns g ≡ None
    → groups_needed to s ns g ≡ None
none_needed to s [] g e = refl
none_needed to s (m ∷ ns) g e = by_test (nat_eq m.group.name g) e (λ i. none_needed to s ns g i)
  where
    by_test : (b : Bool) → (if b then Some m else need_for ns g) ≡ None
        → (need_for ns g ≡ None → groups_needed to s ns g ≡ None)
        → step_of b (nat_eq (to m.group.name) (to g)) (s.groups (to g)) m.group.name (groups_needed to s ns g) ≡ None
    by_test true i k = absurd (cc i)
    by_test false i k = still (nat_eq (to m.group.name) (to g)) (k i)
      where
        still : (d : Bool) → groups_needed to s ns g ≡ None
            → (if d then option_map (λ (x : Group). As m.group.name) (groups_needed to s ns g)
            else groups_needed to s ns g) ≡ None
        still true j = ap (option_map (λ (x : Group). As m.group.name)) j
        still false j = j

-- nothing is there where the caller has nothing
nothing_needed : (to : ℕ → ℕ) (s : State) (ns : List GroupNeed) (g : ℕ) → s.groups (to g) ≡ None
    → groups_needed to s ns g ≡ None
nothing_needed to s [] g e = refl
nothing_needed to s (m ∷ ns) g e = by_tests (nat_eq m.group.name g) (nat_eq (to m.group.name) (to g))
    (nothing_needed to s ns g e)
  where
    by_tests : (b d : Bool) → groups_needed to s ns g ≡ None
        → step_of b d (s.groups (to g)) m.group.name (groups_needed to s ns g) ≡ None
    by_tests true d k = e
    by_tests false true k = ap (option_map (λ (x : Group). As m.group.name)) k
    by_tests false false k = k

-- what is there is needed
pub there_is_needed : (to : ℕ → ℕ) (s : State) (ns : List GroupNeed) (g : ℕ) (x : Group)
    → groups_needed to s ns g ≡ Some x → (n : GroupNeed) × (need_for ns g ≡ Some n)
there_is_needed to s ns g x e = by_need (need_for ns g) refl
  where
    by_need : (o : Option GroupNeed) → need_for ns g ≡ o → (n : GroupNeed) × (need_for ns g ≡ Some n)
    by_need None i = absurd (cc (none_needed to s ns g i, e))
    by_need (Some n) i = (n, i)

-- what fits a permission stands under its own name
shown_name : (p : Code) (q : GroupPerm) (g : ℕ) (x : Group) → FitsShown p q (Some x) → other_name g (Some x) ≡ g
shown_name p q g (Here st) h = refl
shown_name p q g (Away cell) h = refl
shown_name p q g (As k) h = absurd h

-- a needed group of the caller's has what the need asks for
record IsMetBy (p : Code) (s : State) (to : ℕ → ℕ) (g : ℕ) (n : GroupNeed) : Type 0 where
  shown : Group
  is : s.groups (to g) ≡ Some shown
  fits : FitsShown p (permission_needed n.need) (Some shown)

shown_is : (p : Code) (s : State) (to : ℕ → ℕ) (g : ℕ) (n : GroupNeed) (o : Option Group) → s.groups (to g) ≡ o
    → FitsShown p (permission_needed n.need) o → IsMetBy p s to g n
shown_is p s to g n None e h = absurd h
shown_is p s to g n (Some x) e h = record { shown = x; is = e; fits = h }

-- what a group's name leads to where the method begins
record LeadsTo (p : Code) (m : Definition) (t : State) (g : ℕ) (x : Group) : Type 0 where
  shown : group_of t g ≡ Some x
  known : knows p m (name_of t g) ≡ true

leads_to : (p : Code) (m : Definition) (to : ℕ → ℕ) (s t : State) (g : ℕ) (q : GroupPerm) (x : Group) (n : GroupNeed)
    → NeedsAreKnown p m → ((y : ℕ) → t.groups y ≡ groups_needed to s m.needs y) → need_for m.needs g ≡ Some n
    → FitsShown p q (Some x) → IsNeeded to s m.needs g x → LeadsTo p m t g x
leads_to p m to s t g q x n k same e h (inl r) =
    let is : t.groups g ≡ Some x = same g ∙ r in
    let own : name_of t g ≡ g = ap (other_name g) is ∙ shown_name p q g x h in
    record { shown = ap t.groups own ∙ is; known = ap (knows p m) own ∙ k g n e }
leads_to p m to s t g q x n k same e h (inr r) =
    let other : name_of t g ≡ r.0 = ap (other_name g) (same g ∙ r.1) in
    let a = there_is_needed to s m.needs r.0 x r.2 in
    record { shown = ap t.groups other ∙ same r.0 ∙ r.2; known = ap (knows p m) other ∙ k r.0 a.0 a.1 }

known_so : (b : Bool) (q : GroupPerm) → b ≡ true → is_some (if b then Some q else None) ≡ true
known_so true q e = refl
known_so false q e = absurd (cc e)

so_known : (b : Bool) (q : GroupPerm) → is_some (if b then Some q else None) ≡ false → b ≡ true → ⊥
so_known true q e k = cc e
so_known false q e k = cc k

permission_is : (b : Bool) (r q : GroupPerm) → (if b then Some r else None) ≡ Some q → r ≡ q
permission_is true r q e = same_Some r q e
permission_is false r q e = absurd (cc e)

-- Where a method begins with the groups of its needs there is of each what the need asks for.
pub needs_fit : (p : Code) (m : Definition) (gs : GroupsKnown) (at : Spot) (new to : ℕ → ℕ) (s t : State) (u : ⊤)
    → each (need_met gs at) (map (wanted_need new) m.needs) ≡ Holds u → NeedsAreKnown p m
    → ((g : ℕ) (q : GroupPerm) → has_members g ≡ true → gs (new g) ≡ Some q → FitsGroup p q (s.groups (to g)))
    → s.groups (to io) ≡ None → ((y : ℕ) → t.groups y ≡ groups_needed to s m.needs y)
    → FitsGroups p (groups_at_start p m) t
needs_fit p m gs at new to s t u h k has none same = record {
  group = λ g q named e asked. by_need g q named (need_for m.needs g) refl
      (permission_is (knows p m g) _ q e) asked;
  name = λ g named e. known_so (knows p m (name_of t g)) _ (by_name g named e (need_for m.needs g) refl);
  log = same io ∙ nothing_needed to s m.needs io none;
  unknown = λ g e. same g ∙ none_needed to s m.needs g (not_needed g e (need_for m.needs g) refl);
}
  where
    met : (g : ℕ) (n : GroupNeed) → has_members g ≡ true → need_for m.needs g ≡ Some n → IsMetBy p s to g n
    met g n named e =
        let b : IsMet gs at new g n = found_is_met gs at new g m.needs n u h e in
        let r : Permits p (gs (new n.group.name)) n.need
        = need_permits p gs at b.unit (new n.group.name) n.need b.met in
        (shown_is) p s to g n (s.groups (to g)) refl (r.2 (s.groups (to g))
        (has g r.0 named (ap (λ (y : ℕ). gs (new y)) (sym b.name) ∙ r.1)))

    leads : (g : ℕ) (n : GroupNeed) → has_members g ≡ true → (e : need_for m.needs g ≡ Some n)
        → (x : Group) × FitsShown p (permission_needed n.need) (Some x) × LeadsTo p m t g x
    leads g n named e =
        let b : IsMetBy p s to g n = met g n named e in (
          b.shown,
          b.fits,
          (leads_to) p m to s t g (permission_needed n.need) b.shown n k same e b.fits
              (needed to s m.needs g n b.shown b.is e),
        )

    by_need : (g : ℕ) (q : GroupPerm) → has_members g ≡ true → (o : Option GroupNeed) → need_for m.needs g ≡ o
        → given o group.None (λ (n : GroupNeed). permission_needed n.need) ≡ q
        → same_group_perm group.None q ≡ false → FitsShown p q (group_of t g)
    by_need g q named None e i asked = absurd (cc (ap (same_group_perm group.None) i, asked))
    by_need g q named (Some n) e i asked =
        let r = leads g n named e in
        subst (λ (a : GroupPerm). FitsShown p a (group_of t g)) i
        (subst (λ (o : Option Group). FitsShown p (permission_needed n.need) o) (sym r.2.shown) r.1)

    by_name : (g : ℕ) → has_members g ≡ true → known (groups_at_start p m) g ≡ true → (o : Option GroupNeed)
        → need_for m.needs g ≡ o → knows p m (name_of t g) ≡ true
    by_name g named e None i =
        let own : name_of t g ≡ g = ap (other_name g) (same g ∙ none_needed to s m.needs g i) in
        ap (knows p m) own ∙ so_there (knows p m g) _ e
      where
        so_there : (b : Bool) (q : GroupPerm) → is_some (if b then Some q else None) ≡ true → b ≡ true
        so_there true q j = refl
        so_there false q j = absurd (cc j)
    by_name g named e (Some n) i = (leads g n named i).2.known

    not_needed : (g : ℕ) → known (groups_at_start p m) g ≡ false → (o : Option GroupNeed)
        → need_for m.needs g ≡ o → need_for m.needs g ≡ None
    not_needed g e None i = i
    not_needed g e (Some n) i = absurd (so_known (knows p m g) _ e (k g n i))
