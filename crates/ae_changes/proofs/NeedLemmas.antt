-- The groups that a call lends: what comes back of those that are not needed for themselves is what there was.
use Rattle.std.proofs.Common.{◌≡◌, refl, sym, ap, ◌∙◌, subst, ℕ, nat_eq, Bool, true, false, not, List, []}
use Rattle.std.proofs.Common.{◌∷◌, ◌++◌, map}
use Rattle.std.proofs.Common.{inl, inr, Option, None, Some}
use Rattle.std.specs.Prelude.{⊤}
use Rattle.std.proofs.lemmas.Bool.{eqb-true}
use Rattle.ae_tree.specs.declared.tree.GroupNeed.{GroupNeed}
use Rattle.ae_tree.specs.Form.{bare_names}
use Rattle.ae_tree.specs.Names.{io}
use Rattle.ae_tree.specs.Plain.{Code, Invocation}
use Rattle.ae_tree.specs.WellShaped.{WellShaped}
use Rattle.ae_rules.specs.declared.uses.Resource.TheVariants as resource
use Rattle.ae_rules.specs.declared.held.GroupPerm.{GroupPerm}
use Rattle.ae_rules.specs.Edges.{Uses}
use Rattle.ae_rules.specs.Verdict.{Holds, each, given}
use Rattle.ae_rules.specs.Table.{TableHolds}
use Rattle.ae_rules.specs.Groups.{need_met, wanted_need}
use Rattle.ae_rules.specs.Context.{Context}
use Rattle.ae_rules.specs.Calls.{Callee, group_in, judge_callee}
use Rattle.ae_rules.specs.Judges.{need_for, permission_needed}
use Rattle.ae_rules.specs.Uses.{of_each, need_uses}
use Rattle.ae_semantics.specs.Contexts.{shuts_out}
use Rattle.ae_semantics.specs.Places.{Group, Here, Away, As, State}
use Rattle.ae_semantics.specs.Calls.{groups_needed, group_given}
use Rattle.ae_soundness.specs.Fits.{has_members, FitsShown, FitsContext}
use Rattle.ae_soundness.specs.Returns.{MayComeBack, EachMayComeBack}
use Rattle.ae_soundness.proofs.BackLemmas.{is_no_name}
use Rattle.ae_soundness.proofs.CallGroupLemmas.{IsMet, found_is_met, need_permits}
use Rattle.ae_soundness.proofs.CallLemmas.{HasGroups, JudgedCall, in_place_io, all_of_both, judged_names}
use Rattle.ae_soundness.proofs.NeedLemmas.{IsHeldAs, needs_are_known}
use Rattle.ae_changes.specs.Changes.{GoesBy, LeavesGroup}
use Rattle.ae_changes.specs.Bodies.{need_mode, needs_use}
use Rattle.ae_changes.proofs.from_rules.PathLemmas.{first_holds}
use Rattle.ae_changes.proofs.UsedLemmas.{Covers}
use Rattle.ae_changes.proofs.WriteLemmas.{written_not, goes_by_name}
use Rattle.ae_changes.proofs.BackLemmas.{needed_written, needed_as, IsLent, needed_is, IsSameBack, EachBack}

-- ---- what the caller has

-- what is there for a need is no other name
shown_no_name : (p : Code) (q : GroupPerm) (o : Option Group) → FitsShown p q o → is_no_name o ≡ true
shown_no_name p q None h = absurd h
shown_no_name p q (Some (Here st)) h = refl
shown_no_name p q (Some (Away cell)) h = refl
shown_no_name p q (Some (As g)) h = absurd h

-- a judged call in a state that fits
pub record Lends (p : Code) (c : Context) (s : State) (i : Invocation) (k : Callee) : Type 0 where
  pub fits : FitsContext p c s
  pub judged : JudgedCall p c i k
  pub groups : HasGroups s i k

-- What the caller has for a need is no other name.
pub met_no_name : (p : Code) (c : Context) (s : State) (i : Invocation) (k : Callee) (n : GroupNeed) (u : ⊤)
    → Lends p c s i k → need_met c.group i.method.at (wanted_need (group_in k i.groups) n) ≡ Holds u
    → is_no_name (s.groups (group_given s k i n.group.name)) ≡ true
met_no_name p c s i k n u l h = by_test (nat_eq io n.group.name) refl
  where
    g : ℕ
    g = n.group.name

    by_test : (b : Bool) → nat_eq io g ≡ b → is_no_name (s.groups (group_given s k i g)) ≡ true
    by_test true e = subst (λ (x : ℕ). is_no_name (s.groups (group_given s k i x)) ≡ true) (eqb-true io g e)
        (ap is_no_name l.groups.log)
    by_test false e =
        let r = need_permits p c.group i.method.at u (group_in k i.groups g) n.need h in
        shown_no_name p (permission_needed n.need) (s.groups (group_given s k i g))
        (r.2 (s.groups (group_given s k i g))
        (l.fits.group (group_in k i.groups g) r.0 (l.groups.named g (ap not e)) r.1))

-- What the caller has for a group that the method needs is no other name.
pub needed_no_name : (p : Code) (c : Context) (s : State) (i : Invocation) (k : Callee) (g : ℕ) (n : GroupNeed)
    → Lends p c s i k → need_for k.method.needs g ≡ Some n → is_no_name (s.groups (group_given s k i g)) ≡ true
needed_no_name p c s i k g n l e =
    let b : IsMet c.group i.method.at (group_in k i.groups) g n
    = found_is_met c.group i.method.at (group_in k i.groups) g k.method.needs n l.judged.unit l.judged.needs e in
    subst (λ (x : ℕ). is_no_name (s.groups (group_given s k i x)) ≡ true) b.name
    (met_no_name p c s i k n b.unit l b.met)

-- The caller's `io` is the method's.
pub same_io : (p : Code) → WellShaped p → TableHolds p → (c : Context) (i : Invocation) (k : Callee)
    → judge_callee p c i.on i.method ≡ Holds k → IsHeldAs p k.method → group_in k i.groups io ≡ io
same_io p w table c i k e held = in_place_io (k.names ++ bare_names k.method.groups) (k.groups ++ bare_names i.groups)
    (all_of_both has_members k.names (bare_names k.method.groups) (judged_names p w table c i.on i.method k e)
    (needs_are_known p k.method held).1)

-- ---- what comes back

-- where the method ended, and what it changed
pub record BodyLeft (p : Code) (k : Callee) (u : Uses) (s : State) (i : Invocation) (old new : State) : Type 0 where
  pub start : (g : ℕ) → old.groups g ≡ groups_needed (group_given s k i) s k.method.needs g
  pub covers : Covers (of_each need_uses (map (wanted_need (group_in k i.groups)) k.method.needs)) u
  pub body : (r : ℕ) → LeavesGroup (needs_use k.method) old r → new.groups r ≡ old.groups r

-- a group of the method that its caller does not write under this name, the method does not need for itself
left_alone : (p : Code) (c : Context) (u : Uses) (s : State) (i : Invocation) (k : Callee) (before after : State)
    (y : ℕ) → Lends p c s i k → BodyLeft p k u s i before after → LeavesGroup u s (group_given s k i y)
    → LeavesGroup (needs_use k.method) before y
left_alone p c u s i k before after y l e h g by = by_use (shuts_out (needs_use k.method (resource.Group g))) refl
  where
    to : ℕ → ℕ
    to = group_given s k i

    no_name : shuts_out (needs_use k.method (resource.Group g)) ≡ true → is_no_name (s.groups (to g)) ≡ true
    no_name w = by_need (need_for k.method.needs g) refl w
      where
        by_need : (o : Option GroupNeed) → need_for k.method.needs g ≡ o
            → shuts_out (given o None (λ (n : GroupNeed). Some (need_mode n.need))) ≡ true
            → is_no_name (s.groups (to g)) ≡ true
        by_need None q i = absurd (cc i)
        by_need (Some n) q i = needed_no_name p c s _ k g n l q

    same : shuts_out (needs_use k.method (resource.Group g)) ≡ true → GoesBy before y g → to g ≡ to y
    same w (inl q) = ap to q
    same w (inr q) = needed_as to s k.method.needs g y (no_name w) (sym (e.start g) ∙ q)

    by_use : (b : Bool) → shuts_out (needs_use k.method (resource.Group g)) ≡ b
        → shuts_out (needs_use k.method (resource.Group g)) ≡ false
    by_use false q = q
    by_use true q = written_not (shuts_out (u (resource.Group (group_in k i.groups g))))
        (e.covers (resource.Group (group_in k i.groups g))
        (needed_written (group_in k i.groups) k.method.needs g q))
        (h (group_in k i.groups g) (subst (λ (x : ℕ). GoesBy s x (group_in k i.groups g)) (same q by)
        (goes_by_name s (group_in k i.groups g))))

lent_back : (p : Code) (o lent new : Option Group) → IsLent o lent → MayComeBack p o new → new ≡ lent
    → IsSameBack o new
lent_back p o lent new (inl h) m e = inl (e ∙ h)
lent_back p o lent new (inr (inl h)) m e = inr (ap is_no_name e ∙ h)
lent_back p o lent new (inr (inr h)) m e =
    let none : new ≡ None = e ∙ h in inl (none ∙ sym (subst (MayComeBack p o) none m))

-- Each group of the needs comes back as it was, where the caller does not write it.
pub each_back : (p : Code) (c : Context) (u : Uses) (s : State) (i : Invocation) (k : Callee) (before after : State)
    (ns : List GroupNeed) (x : ⊤) → Lends p c s i k → BodyLeft p k u s i before after
    → each (need_met c.group i.method.at) (map (wanted_need (group_in k i.groups)) ns) ≡ Holds x
    → EachMayComeBack p (group_given s k i) s after ns → EachBack u s (group_given s k i) after ns
each_back p c u s i k before after [] x l e h m = tt
each_back p c u s i k before after (n ∷ ns) x l e h m =
    let a = first_holds (need_met c.group i.method.at (wanted_need (group_in k i.groups) n))
    (λ _. each (need_met c.group i.method.at) (map (wanted_need (group_in k i.groups)) ns)) x h in
    let y : ℕ = n.group.name in (
      met_no_name p c s i k n a.0 l a.1,
      λ free. lent_back p (s.groups (group_given s k i y)) (before.groups y) (after.groups y)
          (subst (IsLent (s.groups (group_given s k i y))) (sym (e.start y))
          (needed_is (group_given s k i) s k.method.needs y)) m.0
          (e.body y (left_alone p c u s i k before after y l e free)),
      each_back p c u s i k before after ns x l e a.2 m.1,
    )
