-- A state keeps fitting what is known of groups where each has members as before, or others that are whole.
use Rattle.std.proofs.Common.{◌≡◌, refl, sym, ap, subst, ℕ, Bool, true, false, ◌||◌, Option, None, Some}
use Rattle.ae_tree.specs.Names.{io}
use Rattle.ae_tree.specs.Plain.{Code}
use Rattle.ae_rules.specs.declared.held.GroupPerm.{GroupPerm}
use Rattle.ae_rules.specs.declared.held.GroupPerm.TheVariants as group
use Rattle.ae_rules.specs.Verdict.{given}
use Rattle.ae_rules.specs.Groups.{Groups as GroupsKnown}
use Rattle.ae_rules.specs.Groups.{known, opens, same_group_perm}
use Rattle.ae_rules.specs.Context.{Context}
use Rattle.ae_semantics.specs.Values.{Store}
use Rattle.ae_semantics.specs.Places.{Group, Here, Away, As, State, other_name, name_of, group_of, members}
use Rattle.ae_soundness.specs.Fits.{AreWhole, HasMembers, FitsShown, FitsGroup, FitsContext, has_members, may_be_away}

-- ---- groups that are open

-- the permission of a group lets its members be reached
abbrev pub opens_so : Option GroupPerm → Bool
opens_so o = given o false (same_group_perm group.Exclusive) || given o false (same_group_perm group.Protected)

-- there is something of which this holds
abbrev pub IsShown : Code → Option GroupPerm → Option Group → Type 0
IsShown p o x = (q : GroupPerm) × (o ≡ Some q) × FitsShown p q x × (may_be_away q ≡ false)

shown_members : (p : Code) (q : GroupPerm) (o : Option Group) → FitsShown p q o → may_be_away q ≡ false
    → (st : Store) × (members o ≡ Some st) × AreWhole p st
shown_members p q None h a = absurd h
shown_members p q (Some (Here st)) h a = (st, refl, h)
shown_members p q (Some (Away cell)) h a = absurd (cc (h, a))
shown_members p q (Some (As g)) h a = absurd h

open_shown : (p : Code) (o : Option GroupPerm) (x : Option Group)
    → ((q : GroupPerm) → o ≡ Some q → FitsGroup p q x)
    → opens_so o ≡ true → IsShown p o x
open_shown p None x k e = absurd (cc e)
open_shown p (Some group.Exclusive) x k e = (group.Exclusive, refl, k group.Exclusive refl refl, refl)
open_shown p (Some group.Shared) x k e = absurd (cc e)
open_shown p (Some group.Protected) x k e = (group.Protected, refl, k group.Protected refl refl, refl)
open_shown p (Some group.HeldBack) x k e = absurd (cc e)
open_shown p (Some group.None) x k e = absurd (cc e)

-- A group that may be reached has its members here.
pub opened_members : (p : Code) (c : Context) (s : State) (g : ℕ) → FitsContext p c s → has_members g ≡ true
    → opens c.group g ≡ true → HasMembers p s g
opened_members p c s g z m o =
    let r = open_shown p (c.group g) (group_of s g) (λ q e. z.group g q m e) o in
    let h = shown_members p r.0 (group_of s g) r.2 r.3 in record { store = h.0; is = h.1; whole = h.2 }

-- ---- groups as they were

-- what stands under a name is as it was, but that members may be others, whole where those before were
abbrev pub IsLike : Code → Option Group → Option Group → Type 0
IsLike p None new = new ≡ None
IsLike p (Some (Here st)) new = (x : Store) × (new ≡ Some (Here x)) × (AreWhole p st → AreWhole p x)
IsLike p (Some (Away cell)) new = new ≡ Some (Away cell)
IsLike p (Some (As h)) new = new ≡ Some (As h)

-- under each name
abbrev pub AreLike : Code → State → State → Type 0
AreLike p s t = (h : ℕ) → IsLike p (s.groups h) (t.groups h)

pub like_itself : (p : Code) (o : Option Group) → IsLike p o o
like_itself p None = refl
like_itself p (Some (Here st)) = (st, refl, λ w. w)
like_itself p (Some (Away cell)) = refl
like_itself p (Some (As h)) = refl

-- The other name stays.
pub like_other : (p : Code) (g : ℕ) (o new : Option Group) → IsLike p o new → other_name g new ≡ other_name g o
like_other p g None new l = ap (other_name g) l
like_other p g (Some (Here st)) new l = ap (other_name g) l.1
like_other p g (Some (Away cell)) new l = ap (other_name g) l
like_other p g (Some (As h)) new l = ap (other_name g) l

like_shown : (p : Code) (q : GroupPerm) (o new : Option Group) → IsLike p o new → FitsShown p q o → FitsShown p q new
like_shown p q None new l h = absurd h
like_shown p q (Some (Here st)) new l h = subst (FitsShown p q) (sym l.1) (l.2 h)
like_shown p q (Some (Away cell)) new l h = subst (FitsShown p q) (sym l) h
like_shown p q (Some (As g)) new l h = absurd h

like_none : (p : Code) (o new : Option Group) → IsLike p o new → o ≡ None → new ≡ None
like_none p None new l e = l
like_none p (Some x) new l e = absurd (cc e)

-- what is known of groups fits what there is of them
pub record FitsGroups (p : Code) (gs : GroupsKnown) (s : State) : Type 0 where
  pub group : (g : ℕ) (q : GroupPerm) → has_members g ≡ true → gs g ≡ Some q → FitsGroup p q (group_of s g)
  pub name : (g : ℕ) → has_members g ≡ true → known gs g ≡ true → known gs (name_of s g) ≡ true
  pub log : s.groups io ≡ None
  pub unknown : (g : ℕ) → known gs g ≡ false → s.groups g ≡ None

-- What is known of groups fits groups like those that it fitted.
pub like_fits : (p : Code) (c : Context) (s t : State) → FitsContext p c s → AreLike p s t → FitsGroups p c.group t
like_fits p c s t z l = record {
  group = λ g q m e n. subst (λ (h : ℕ). FitsShown p q (t.groups h)) (sym (same g))
      (like_shown p q (group_of s g) (t.groups (name_of s g)) (l (name_of s g)) (z.group g q m e n));
  name = λ g m k. subst (λ (h : ℕ). known c.group h ≡ true) (sym (same g)) (z.name g m k);
  log = like_none p (s.groups io) (t.groups io) (l io) z.log;
  unknown = λ g k. like_none p (s.groups g) (t.groups g) (l g) (z.unknown g k);
}
  where
    same : (g : ℕ) → name_of t g ≡ name_of s g
    same g = like_other p g (s.groups g) (t.groups g) (l g)
