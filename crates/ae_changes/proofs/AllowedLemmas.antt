-- What judged lines write of a group that is known before them may be written there.
use Rattle.std.proofs.Common.{◌≡◌, refl, sym, ap, ◌∙◌, subst, ℕ, Bool, true, false, if◌then◌else◌, Option, None, Some}
use Rattle.std.proofs.Common.{◌⊎◌, inl, inr}
use Rattle.std.specs.Prelude.{is_some}
use Rattle.ae_tree.specs.declared.tree.Need.{Need}
use Rattle.ae_tree.specs.declared.tree.Need.TheVariants as need_of
use Rattle.ae_tree.specs.declared.tree.GroupNeed.{GroupNeed}
use Rattle.ae_tree.specs.Plain.{Lines, End, Next, Definition, Code}
use Rattle.ae_rules.specs.declared.held.GroupPerm.{GroupPerm}
use Rattle.ae_rules.specs.declared.held.GroupPerm.TheVariants as group
use Rattle.ae_rules.specs.declared.uses.Resource.TheVariants as resource
use Rattle.ae_rules.specs.declared.uses.Mode.{Mode}
use Rattle.ae_rules.specs.declared.uses.Mode.TheVariants as mode
use Rattle.ae_rules.specs.Edges.{Uses}
use Rattle.ae_rules.specs.Verdict.{Verdict, Holds, given}
use Rattle.ae_rules.specs.Context.{Context}
use Rattle.ae_rules.specs.Statements.{judge_statement, judge_lines}
use Rattle.ae_rules.specs.Judges.{Judges, permission_needed, need_for, knows, start}
use Rattle.ae_rules.specs.Laws.{StatementsKeep}
use Rattle.ae_rules.specs.EdgeLaws.{group_allows, UsesAreAllowed}
use Rattle.ae_rules.specs.Uses.{◌∪◌, of_judged, outside, statement_uses, lines_use}
use Rattle.ae_semantics.specs.Contexts.{shuts_out}
use Rattle.ae_changes.specs.Bodies.{need_mode, needs_use}
use Rattle.ae_changes.proofs.from_rules.PathLemmas.{first_holds}
use Rattle.ae_changes.proofs.UsedLemmas.{IsWritten, Covers, written_either}

no_write : (q : GroupPerm) → group_allows q mode.Write ≡ true → ⊥
no_write group.Exclusive e = cc e
no_write group.Shared e = cc e
no_write group.Protected e = cc e
no_write group.HeldBack e = cc e
no_write group.None e = cc e

-- What is written is allowed to be used as a whole.
pub strong_allowed : (q : GroupPerm) (o : Option Mode) → ((n : Mode) → o ≡ Some n → group_allows q n ≡ true)
    → shuts_out o ≡ true → group_allows q mode.GroupWhole ≡ true
strong_allowed q None k h = absurd (cc h)
strong_allowed q (Some mode.Read) k h = absurd (cc h)
strong_allowed q (Some mode.Write) k h = absurd (no_write q (k mode.Write refl))
strong_allowed q (Some mode.GroupShared) k h = absurd (cc h)
strong_allowed q (Some mode.GroupWhole) k h = k mode.GroupWhole refl

-- What judged lines write of a group that is known before them may be written.
pub lines_allowed : UsesAreAllowed → StatementsKeep → (p : Code) (m : Definition) (b : Lines) (c d : Context) (g : ℕ)
    (q : GroupPerm) → judge_lines p m b c ≡ Holds d → c.group g ≡ Some q
    → IsWritten (lines_use p m b c) (resource.Group g) → group_allows q mode.GroupWhole ≡ true
lines_allowed law keep p m End c d g q h e w = absurd (cc w)
lines_allowed law keep p m (Next at a b) c d g q h e w =
    let r = first_holds (judge_statement p m at a c) (judge_lines p m b) d h in
    let same : r.0.group g ≡ Some q = (keep p m at a c r.0 r.1).group g q e in
    let u : Uses = statement_uses p m a c in
    let v : Uses = lines_use p m b r.0 in
    by_either r.0 same r.1 (λ i. lines_allowed law keep p m b r.0 d g q r.2 same i)
    (written_either u v (resource.Group g)
    (subst (λ (y : Verdict Context). IsWritten (u ∪ of_judged y (lines_use p m b)) (resource.Group g)) r.1 w))
  where
    by_either : (y : Context) → y.group g ≡ Some q → Judges p m at a c y
        → (IsWritten (lines_use p m b y) (resource.Group g) → group_allows q mode.GroupWhole ≡ true)
        → IsWritten (statement_uses p m a c) (resource.Group g) ⊎ IsWritten (lines_use p m b y) (resource.Group g)
        → group_allows q mode.GroupWhole ≡ true
    by_either y same j later (inl i) = strong_allowed q (statement_uses p m a c (resource.Group g))
        (λ n k. sym (ap (λ (o : Option GroupPerm). given o false (λ q. group_allows q n)) same)
        ∙ law p m at a c y (resource.Group g) n j k) i
    by_either y same j later (inr i) = later i

-- ---- a method's needs

needed_whole : (n : Need) → group_allows (permission_needed n) mode.GroupWhole ≡ true
    → shuts_out (Some (need_mode n)) ≡ true
needed_whole need_of.Exclusive h = refl
needed_whole need_of.Shared h = absurd (cc h)
needed_whole need_of.Protected h = refl

by_need : (o : Option GroupNeed)
    → group_allows (given o group.None (λ (n : GroupNeed). permission_needed n.need)) mode.GroupWhole ≡ true
    → shuts_out (given o None (λ (n : GroupNeed). Some (need_mode n.need))) ≡ true
by_need None h = absurd (cc h)
by_need (Some n) h = needed_whole n.need h

-- What a body writes of its caller's groups its method needs for itself.
pub body_needs : UsesAreAllowed → StatementsKeep → (p : Code) (m : Definition) (d : Context)
    → judge_lines p m m.body (start p m) ≡ Holds d
    → Covers (outside (start p m) (lines_use p m m.body (start p m))) (needs_use m)
body_needs law keep p m d h (resource.Local x) w = refl
body_needs law keep p m d h (resource.Group g) w = by_known (knows p m g) refl
    (λ q e i. lines_allowed law keep p m m.body (start p m) d g q h e i) w
  where
    perm : GroupPerm
    perm = given (need_for m.needs g) group.None (λ (n : GroupNeed). permission_needed n.need)

    lines : Option Mode
    lines = lines_use p m m.body (start p m) (resource.Group g)

    by_known : (b : Bool) → knows p m g ≡ b
        → ((q : GroupPerm) → (start p m).group g ≡ Some q → shuts_out lines ≡ true
        → group_allows q mode.GroupWhole ≡ true)
        → shuts_out (if is_some (if b then Some perm else None) then lines else None) ≡ true
        → IsWritten (needs_use m) (resource.Group g)
    by_known true e k i = by_need (need_for m.needs g)
        (k perm (ap (λ (b : Bool). if b then Some perm else None) e) i)
    by_known false e k i = absurd (cc i)
