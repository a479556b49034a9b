-- What comes back to a group from a method that does not need it for itself is what there was.
use Rattle.std.proofs.Common.{◌≡◌, refl, sym, ap, ◌∙◌, subst, ℕ, nat_eq, Bool, true, false, if◌then◌else◌}
use Rattle.std.proofs.Common.{List, [], ◌∷◌, map, ◌⊎◌, inl, inr, Option, None, Some}
use Rattle.std.specs.Prelude.{option_map}
use Rattle.std.proofs.lemmas.Bool.{eqb-true}
use Rattle.ae_tree.specs.declared.tree.Need.{Need}
use Rattle.ae_tree.specs.declared.tree.Need.TheVariants as need_of
use Rattle.ae_tree.specs.declared.tree.GroupNeed.{GroupNeed}
use Rattle.ae_rules.specs.declared.uses.Resource.TheVariants as resource
use Rattle.ae_rules.specs.Edges.{Uses}
use Rattle.ae_rules.specs.Verdict.{given}
use Rattle.ae_rules.specs.Groups.{wanted_need}
use Rattle.ae_rules.specs.Context.{Context}
use Rattle.ae_rules.specs.Judges.{need_for}
use Rattle.ae_rules.specs.Uses.{◌∪◌, of_each, need_uses}
use Rattle.ae_semantics.specs.Contexts.{shuts_out}
use Rattle.ae_semantics.specs.Places.{Group, Here, Away, As, State, name_of, with_store}
use Rattle.ae_semantics.specs.Calls.{groups_needed, group_back, groups_back}
use Rattle.ae_soundness.proofs.BackLemmas.{is_no_name, own_name}
use Rattle.ae_changes.specs.Changes.{LeavesGroup, ChangesAsUsed}
use Rattle.ae_changes.specs.Bodies.{need_mode}
use Rattle.ae_changes.proofs.UsedLemmas.{IsWritten, written_left, written_right, group_itself}

-- ---- needs

need_written : (n : Need) (g : ℕ) → shuts_out (Some (need_mode n)) ≡ true
    → IsWritten (need_uses (n, g)) (resource.Group g)
need_written need_of.Exclusive g h = group_itself g
need_written need_of.Shared g h = absurd (cc h)
need_written need_of.Protected g h = group_itself g

-- A group that a method needs for itself is written by its call.
pub needed_written : (new : ℕ → ℕ) (ns : List GroupNeed) (g : ℕ)
    → shuts_out (given (need_for ns g) None (λ (n : GroupNeed). Some (need_mode n.need))) ≡ true
    → IsWritten (of_each need_uses (map (wanted_need new) ns)) (resource.Group (new g))
needed_written new [] g h = absurd (cc h)
needed_written new (n ∷ ns) g h = by_test (nat_eq n.group.name g) refl h (λ i. needed_written new ns g i)
  where
    by_test : (b : Bool) → nat_eq n.group.name g ≡ b
        → shuts_out (given (if b then Some n else need_for ns g) None (λ (n : GroupNeed). Some (need_mode n.need)))
        ≡ true
        → (shuts_out (given (need_for ns g) None (λ (n : GroupNeed). Some (need_mode n.need))) ≡ true
        → IsWritten (of_each need_uses (map (wanted_need new) ns)) (resource.Group (new g)))
        → IsWritten (need_uses (wanted_need new n) ∪ of_each need_uses (map (wanted_need new) ns))
        (resource.Group (new g))
    by_test true e i later = written_left (need_uses (wanted_need new n))
        (of_each need_uses (map (wanted_need new) ns)) (resource.Group (new g))
        (subst (λ (y : ℕ). IsWritten (need_uses (wanted_need new n)) (resource.Group (new y)))
        (eqb-true n.group.name g e) (need_written n.need (new n.group.name) i))
    by_test false e i later = written_right (need_uses (wanted_need new n))
        (of_each need_uses (map (wanted_need new) ns)) (resource.Group (new g)) (later i)

-- ---- groups of a method as its caller has them

-- Under another name stands a group that the caller has under one name with it.
pub needed_as : (to : ℕ → ℕ) (s : State) (ns : List GroupNeed) (g h : ℕ) → is_no_name (s.groups (to g)) ≡ true
    → groups_needed to s ns g ≡ Some (As h) → to g ≡ to h
needed_as to s [] g h n e = absurd (cc e)
needed_as to s (m ∷ ns) g h n e = by_tests (nat_eq m.group.name g) (nat_eq (to m.group.name) (to g)) refl e
    (λ i. needed_as to s ns g h n i)
  where
    named : (o : Option Group) → option_map (λ (x : Group). As m.group.name) o ≡ Some (As h) → m.group.name ≡ h
    named None i = absurd (cc i)
    named (Some x) i = cc i

    by_tests : (b d : Bool) → nat_eq (to m.group.name) (to g) ≡ d
        → (if b then s.groups (to g) else (if d
        then option_map (λ (x : Group). As m.group.name) (groups_needed to s ns g) else groups_needed to s ns g))
        ≡ Some (As h)
        → (groups_needed to s ns g ≡ Some (As h) → to g ≡ to h) → to g ≡ to h
    by_tests true d q i later = absurd (cc (sym n ∙ ap is_no_name i))
    by_tests false true q i later = sym (eqb-true (to m.group.name) (to g) q)
        ∙ ap to (named (groups_needed to s ns g) i)
    by_tests false false q i later = later i

-- what a method begins with of a group: what the caller has, another name, or nothing
abbrev pub IsLent : Option Group → Option Group → Type 0
IsLent o lent = (lent ≡ o) ⊎ ((is_no_name lent ≡ false) ⊎ (lent ≡ None))

-- Each group is lent so.
pub needed_is : (to : ℕ → ℕ) (s : State) (ns : List GroupNeed) (g : ℕ)
    → IsLent (s.groups (to g)) (groups_needed to s ns g)
needed_is to s [] g = inr (inr refl)
needed_is to s (m ∷ ns) g = by_tests (nat_eq m.group.name g) (nat_eq (to m.group.name) (to g)) (needed_is to s ns g)
  where
    other : (o : Option Group) → IsLent (s.groups (to g)) (option_map (λ (x : Group). As m.group.name) o)
    other None = inr (inr refl)
    other (Some x) = inr (inl refl)

    by_tests : (b d : Bool) → IsLent (s.groups (to g)) (groups_needed to s ns g)
        → IsLent (s.groups (to g)) (if b then s.groups (to g) else (if d
        then option_map (λ (x : Group). As m.group.name) (groups_needed to s ns g) else groups_needed to s ns g))
    by_tests true d h = inl refl
    by_tests false true h = other (groups_needed to s ns g)
    by_tests false false h = h

-- ---- what comes back

-- it is what there was, or another name, under which nothing comes back
abbrev pub IsSameBack : Option Group → Option Group → Type 0
IsSameBack o new = (new ≡ o) ⊎ (is_no_name new ≡ false)

-- what was no name is none later
still_no_name : (c : Context) (u : Uses) (s t : State) (g : ℕ) → ChangesAsUsed c u s t
    → is_no_name (s.groups g) ≡ true → is_no_name (t.groups g) ≡ true
still_no_name c u s t g h n = by_group (t.groups g) refl
  where
    by_group : (o : Option Group) → t.groups g ≡ o → is_no_name o ≡ true
    by_group None e = refl
    by_group (Some (Here st)) e = refl
    by_group (Some (Away cell)) e = refl
    by_group (Some (As r)) e = absurd (cc (sym n ∙ ap is_no_name (h.name g r e)))

store_back : (c : Context) (u : Uses) (s v : State) (g : ℕ) (o : Option Group) → is_no_name (s.groups g) ≡ true
    → is_no_name o ≡ true → ChangesAsUsed c u s v → (LeavesGroup u s g → o ≡ s.groups g)
    → ChangesAsUsed c u s (with_store g o v)
store_back c u s v g o n i h k = record {
  local = h.local;
  group = λ r l. by_test r l (nat_eq (name_of v g) r) refl;
  name = λ y r e. by_name y r (nat_eq (name_of v g) y) e;
}
  where
    own : name_of v g ≡ g
    own = own_name g (v.groups g) (still_no_name c u s v g h n)

    by_test : (r : ℕ) → LeavesGroup u s r → (d : Bool) → nat_eq (name_of v g) r ≡ d
        → (if d then o else v.groups r) ≡ s.groups r
    by_test r l true e =
        let same : g ≡ r = sym own ∙ eqb-true (name_of v g) r e in
        subst (λ (y : ℕ). LeavesGroup u s y → o ≡ s.groups y) same k l
    by_test r l false e = h.group r l

    by_name : (y r : ℕ) (d : Bool) → (if d then o else v.groups y) ≡ Some (As r) → s.groups y ≡ Some (As r)
    by_name y r true e = absurd (cc (sym i ∙ ap is_no_name e))
    by_name y r false e = h.name y r e

so_same : (o new : Option Group) → is_no_name new ≡ true → IsSameBack o new → new ≡ o
so_same o new n (inl e) = e
so_same o new n (inr e) = absurd (cc (n, e))

-- What comes back to a group that is not written is what there was, so nothing else changes.
pub one_back_changes : (c : Context) (u : Uses) (s v : State) (g : ℕ) (o : Option Group)
    → is_no_name (s.groups g) ≡ true → ChangesAsUsed c u s v → (LeavesGroup u s g → IsSameBack (s.groups g) o)
    → ChangesAsUsed c u s (group_back g o v)
one_back_changes c u s v g None n h k =
    store_back c u s v g None n refl h (λ l. so_same (s.groups g) None refl (k l))
one_back_changes c u s v g (Some (Here st)) n h k =
    store_back c u s v g (Some (Here st)) n refl h (λ l. so_same (s.groups g) (Some (Here st)) refl (k l))
one_back_changes c u s v g (Some (Away cell)) n h k =
    store_back c u s v g (Some (Away cell)) n refl h (λ l. so_same (s.groups g) (Some (Away cell)) refl (k l))
one_back_changes c u s v g (Some (As x)) n h k = h

-- of each of these needs it is so
abbrev pub EachBack : Uses → State → (ℕ → ℕ) → State → List GroupNeed → Type 0
EachBack u s to after [] = Unit {0}
EachBack u s to after (n ∷ ns) = (is_no_name (s.groups (to n.group.name)) ≡ true)
    × (LeavesGroup u s (to n.group.name) → IsSameBack (s.groups (to n.group.name)) (after.groups n.group.name))
    × EachBack u s to after ns

-- Where groups come back only what is written changes.
pub groups_back_change : (c : Context) (u : Uses) (s v : State) (to : ℕ → ℕ) (after : State) (ns : List GroupNeed)
    → ChangesAsUsed c u s v → EachBack u s to after ns → ChangesAsUsed c u s (groups_back to ns after v)
groups_back_change c u s v to after [] h k = h
groups_back_change c u s v to after (n ∷ ns) h k =
    groups_back_change c u s (group_back (to n.group.name) (after.groups n.group.name) v) to after ns
    (one_back_changes c u s v (to n.group.name) (after.groups n.group.name) k.0 h k.1) k.2
