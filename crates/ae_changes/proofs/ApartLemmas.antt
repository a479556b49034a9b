-- Groups that stand under one name may not be reached, and stay so.
use Rattle.std.proofs.Common.{◌≡◌, refl, sym, ap, ◌∙◌, subst, ℕ, nat_eq, Bool, true, false, ◌||◌, not}
use Rattle.std.proofs.Common.{inl, inr, Option, None, Some}
use Rattle.std.specs.Prelude.{is_some}
use Rattle.std.proofs.lemmas.Bool.{eqb-true}
use Rattle.ae_text.specs.declared.refusal.Spot.{Spot}
use Rattle.ae_tree.specs.Names.{io}
use Rattle.ae_tree.specs.Plain.{Action, Definition, Code}
use Rattle.ae_rules.specs.declared.held.GroupPerm.{GroupPerm}
use Rattle.ae_rules.specs.declared.held.GroupPerm.TheVariants as group
use Rattle.ae_rules.specs.declared.uses.Resource.TheVariants as resource
use Rattle.ae_rules.specs.declared.uses.Mode.TheVariants as mode
use Rattle.ae_rules.specs.Verdict.{given}
use Rattle.ae_rules.specs.Groups.{known, same_group_perm, opens}
use Rattle.ae_rules.specs.Context.{Context}
use Rattle.ae_rules.specs.Judges.{Judges}
use Rattle.ae_rules.specs.Laws.{StatementsKeep}
use Rattle.ae_rules.specs.EdgeLaws.{group_allows, UsesAreAllowed}
use Rattle.ae_rules.specs.Uses.{statement_uses}
use Rattle.ae_semantics.specs.Contexts.{shuts_out}
use Rattle.ae_semantics.specs.Places.{As, State, other_name}
use Rattle.ae_soundness.specs.Fits.{has_members, FitsContext}
use Rattle.ae_changes.specs.Changes.{GoesBy}
use Rattle.ae_changes.specs.Apart.{UnwrittenGroupsStay, NamesStayApart}
use Rattle.ae_changes.proofs.UsedLemmas.{IsWritten}
use Rattle.ae_changes.proofs.AllowedLemmas.{strong_allowed}

-- ---- statements

-- what stands under another name is known, and so is that name
record KnownBoth (c : Context) (g r : ℕ) : Type 0 where
  one : known c.group g ≡ true
  other : known c.group r ≡ true

known_both : (p : Code) (c : Context) (s : State) (g r : ℕ) → FitsContext p c s → s.groups g ≡ Some (As r)
    → KnownBoth c g r
known_both p c s g r z e = record { one = known_one; other = by_name (has_members g) refl }
  where
    known_one : known c.group g ≡ true
    known_one = by_test (known c.group g) refl
      where
        by_test : (b : Bool) → known c.group g ≡ b → known c.group g ≡ true
        by_test true i = i
        by_test false i = let none : None ≡ Some (As r) = sym (z.unknown g i) ∙ e in absurd (cc none)

    by_name : (b : Bool) → has_members g ≡ b → known c.group r ≡ true
    by_name true i = subst (λ (y : ℕ). known c.group y ≡ true) (ap (other_name g) e) (z.name g i known_one)
    by_name false i =
        let same : io ≡ g = eqb-true io g (not_false (nat_eq io g) i) in
        let none : None ≡ Some (As r) = sym z.log ∙ ap s.groups same ∙ e in absurd (cc none)
      where
        not_false : (b : Bool) → not b ≡ false → b ≡ true
        not_false true h = refl
        not_false false h = absurd (cc h)

-- the permission of a known group
permission_there : (o : Option GroupPerm) → is_some o ≡ true → (q : GroupPerm) × (o ≡ Some q)
permission_there None h = absurd (cc h)
permission_there (Some q) h = (q, refl)

opened_by : (q : GroupPerm) → group_allows q mode.GroupWhole ≡ true
    → (same_group_perm group.Exclusive q || same_group_perm group.Protected q) ≡ true
opened_by group.Exclusive h = refl
opened_by group.Shared h = absurd (cc h)
opened_by group.Protected h = refl
opened_by group.HeldBack h = absurd (cc h)
opened_by group.None h = absurd (cc h)

-- a known group that a judged statement writes may be reached
written_opens : UsesAreAllowed → StatementsKeep → (p : Code) (m : Definition) (at : Spot) (a : Action) (c d : Context)
    (g : ℕ) → Judges p m at a c d → known c.group g ≡ true
    → IsWritten (statement_uses p m a c) (resource.Group g) → opens c.group g ≡ true
written_opens law keep p m at a c d g h k w =
    let q = permission_there (c.group g) k in
    let after : d.group g ≡ Some q.0 = (keep p m at a c d h).group g q.0 q.1 in
    let allowed : group_allows q.0 mode.GroupWhole ≡ true
    = strong_allowed q.0 (statement_uses p m a c (resource.Group g))
    (λ n e. sym (ap (λ (o : Option GroupPerm). given o false (λ q. group_allows q n)) after)
    ∙ law p m at a c d (resource.Group g) n h e) w in
    ap (λ (o : Option GroupPerm). given o false (same_group_perm group.Exclusive)
    || given o false (same_group_perm group.Protected)) q.1 ∙ opened_by q.0 allowed

-- Each group that a judged statement does not write is as before.
pub unwritten_groups_stay : UsesAreAllowed → StatementsKeep → UnwrittenGroupsStay
unwritten_groups_stay law keep p m at a c d s t h z apart i g e = i.group g (λ y b. by_name y b)
  where
    by_name : (y : ℕ) → GoesBy s g y → shuts_out (statement_uses p m a c (resource.Group y)) ≡ false
    by_name y (inl q) = subst (λ (x : ℕ). shuts_out (statement_uses p m a c (resource.Group x)) ≡ false) (sym q) e
    by_name y (inr q) = by_use (shuts_out (statement_uses p m a c (resource.Group y))) refl
      where
        by_use : (b : Bool) → shuts_out (statement_uses p m a c (resource.Group y)) ≡ b
            → shuts_out (statement_uses p m a c (resource.Group y)) ≡ false
        by_use false k = k
        by_use true k = absurd (cc (
          written_opens law keep p m at a c d y h (known_both p c s y g z q).one k,
          (apart y g q).0,
        ))

-- Names stay apart after a judged statement.
pub names_stay_apart : StatementsKeep → NamesStayApart
names_stay_apart keep p m at a c d s t h z apart i g r e =
    let before : s.groups g ≡ Some (As r) = i.name g r e in
    let k : KnownBoth c g r = known_both p c s g r z before in
    (same g k.one ∙ (apart g r before).0, same r k.other ∙ (apart g r before).1)
  where
    same : (x : ℕ) → known c.group x ≡ true → opens d.group x ≡ opens c.group x
    same x k =
        let q = permission_there (c.group x) k in
        ap (λ (o : Option GroupPerm). given o false (same_group_perm group.Exclusive)
        || given o false (same_group_perm group.Protected)) ((keep p m at a c d h).group x q.0 q.1 ∙ sym q.1)
