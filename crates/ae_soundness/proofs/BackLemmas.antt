-- A state keeps fitting where what a method left of its groups comes back.
use Rattle.std.proofs.Common.{◌≡◌, refl, sym, ap, ◌∙◌, subst, ℕ, nat_eq, Bool, true, false, if◌then◌else◌}
use Rattle.std.proofs.Common.{List, [], ◌∷◌, Option, None, Some}
use Rattle.std.proofs.lemmas.Bool.{eqb-true}
use Rattle.ae_tree.specs.declared.tree.GroupNeed.{GroupNeed}
use Rattle.ae_tree.specs.Plain.{Code}
use Rattle.ae_semantics.specs.Values.{Store}
use Rattle.ae_semantics.specs.Places.{Group, Here, Away, As, State, other_name, name_of, group_of, members}
use Rattle.ae_semantics.specs.Calls.{group_back, groups_back}
use Rattle.ae_soundness.specs.Fits.{AreWhole}
use Rattle.ae_soundness.specs.Returns.{is_here, MayComeBack, EachMayComeBack, GroupsComeBack}
use Rattle.ae_soundness.specs.Returns.{MembersMayComeBack}
use Rattle.ae_soundness.proofs.LikeLemmas.{IsLike, AreLike, like_itself, FitsGroups, like_fits}

-- what there is under a name is no other name
abbrev pub is_no_name : Option Group → Bool
is_no_name (Some (As h)) = false
is_no_name _ = true

like_no_name : (p : Code) (o new : Option Group) → is_no_name o ≡ true → IsLike p o new → is_no_name new ≡ true
like_no_name p None new n l = ap is_no_name l
like_no_name p (Some (Here st)) new n l = ap is_no_name l.1
like_no_name p (Some (Away cell)) new n l = ap is_no_name l
like_no_name p (Some (As h)) new n l = absurd (cc n)

pub own_name : (g : ℕ) (o : Option Group) → is_no_name o ≡ true → other_name g o ≡ g
own_name g None n = refl
own_name g (Some (Here st)) n = refl
own_name g (Some (Away cell)) n = refl
own_name g (Some (As h)) n = absurd (cc n)

pub here_no_name : (o : Option Group) → is_here o ≡ true → is_no_name o ≡ true
here_no_name None h = refl
here_no_name (Some (Here st)) h = refl
here_no_name (Some (Away cell)) h = refl
here_no_name (Some (As g)) h = absurd (cc h)

-- ---- groups that come back

here_like : (p : Code) (o : Option Group) (st : Store) → AreWhole p st → is_here o ≡ true
    → IsLike p o (Some (Here st))
here_like p None st w n = absurd (cc n)
here_like p (Some (Here old)) st w n = (st, refl, λ _. w)
here_like p (Some (Away cell)) st w n = absurd (cc n)
here_like p (Some (As h)) st w n = absurd (cc n)

back_like : (p : Code) (s t : State) (g : ℕ) (new : Option Group) → AreLike p s t → is_no_name (s.groups g) ≡ true
    → IsLike p (s.groups g) new → (h : ℕ)
    → IsLike p (s.groups h) (if nat_eq (name_of t g) h then new else t.groups h)
back_like p s t g new l n k h = by_test (nat_eq (name_of t g) h) refl
  where
    by_test : (b : Bool) → nat_eq (name_of t g) h ≡ b → IsLike p (s.groups h) (if b then new else t.groups h)
    by_test true e =
        let own : name_of t g ≡ g = own_name g (t.groups g) (like_no_name p (s.groups g) (t.groups g) n (l g)) in
        let same : g ≡ h = sym own ∙ eqb-true (name_of t g) h e in
        subst (λ (x : ℕ). IsLike p (s.groups x) new) same k
    by_test false e = l h

one_back : (p : Code) (s t : State) (g : ℕ) (new : Option Group) → AreLike p s t → MayComeBack p (s.groups g) new
    → AreLike p s (group_back g new t)
one_back p s t g None l k = back_like p s t g None l (ap is_no_name k)
    (subst (λ (o : Option Group). IsLike p o None) (sym k) refl)
one_back p s t g (Some (Here st)) l k = back_like p s t g (Some (Here st)) l
    (here_no_name (s.groups g) k.1) (here_like p (s.groups g) st k.0 k.1)
one_back p s t g (Some (Away cell)) l k = back_like p s t g (Some (Away cell)) l (ap is_no_name k)
    (subst (λ (o : Option Group). IsLike p o (Some (Away cell))) (sym k) refl)
one_back p s t g (Some (As h)) l k = l

each_back : (p : Code) (s t after : State) (groups : ℕ → ℕ) (ns : List GroupNeed) → AreLike p s t
    → EachMayComeBack p groups s after ns → AreLike p s (groups_back groups ns after t)
each_back p s t after groups [] l k = l
each_back p s t after groups (n ∷ ns) l k =
    let u : State = group_back (groups n.group.name) (after.groups n.group.name) t in
    each_back p s u after groups ns
    (one_back p s t (groups n.group.name) (after.groups n.group.name) l k.0) k.1

one_local : (g : ℕ) (new : Option Group) (s : State) (x : ℕ) → (group_back g new s).locals x ≡ s.locals x
one_local g None s x = refl
one_local g (Some (Here st)) s x = refl
one_local g (Some (Away cell)) s x = refl
one_local g (Some (As h)) s x = refl

-- Locals stay where groups come back.
pub back_locals : (groups : ℕ → ℕ) (ns : List GroupNeed) (after s : State) (x : ℕ)
    → (groups_back groups ns after s).locals x ≡ s.locals x
back_locals groups [] after s x = refl
back_locals groups (n ∷ ns) after s x =
    let u : State = group_back (groups n.group.name) (after.groups n.group.name) s in
    back_locals groups ns after u x ∙ one_local (groups n.group.name) (after.groups n.group.name) s x

-- A state keeps fitting where groups come back to it.
pub groups_come_back : GroupsComeBack
groups_come_back p c s after groups ns z k = record {
  form = z.form;
  local = λ y l i v. let r = z.local y l i v in
      record { bound = r.bound; is = back_locals groups ns after s y ∙ r.is; fits = r.fits };
  group = fits.group;
  name = fits.name;
  log = fits.log;
  log_known = z.log_known;
  unknown = fits.unknown;
}
  where
    fits : FitsGroups p c.group (groups_back groups ns after s)
    fits = like_fits p c s (groups_back groups ns after s) z
        (each_back p s s after groups ns (λ h. like_itself p (s.groups h)) k)

-- A group whose members are here may come back to members that are here.
pub members_may_come_back : MembersMayComeBack
members_may_come_back p o t g h n = by_group (t.groups g) refl
  where
    behind_is : (x : Option Group) → t.groups g ≡ x → group_of t g ≡ t.groups (other_name g x)
    behind_is x e = ap (λ (y : Option Group). t.groups (other_name g y)) e

    by_group : (x : Option Group) → t.groups g ≡ x → MayComeBack p o x
    by_group None e =
        let m : members (group_of t g) ≡ None = ap members (behind_is None e ∙ e) in absurd (cc (m, h.is))
    by_group (Some (Here st)) e =
        let m : members (group_of t g) ≡ Some st = ap members (behind_is (Some (Here st)) e ∙ e) in
        let same : h.store ≡ st = cc (m, h.is) in
        (subst (AreWhole p) same h.whole, n)
    by_group (Some (Away cell)) e =
        let m : members (group_of t g) ≡ None = ap members (behind_is (Some (Away cell)) e ∙ e) in
        absurd (cc (m, h.is))
    by_group (Some (As k)) e = tt
