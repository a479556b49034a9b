-- A state keeps fitting where the members of a group are others.
use Rattle.std.proofs.Common.{◌≡◌, refl, sym, ap, ◌∙◌, subst, ℕ, nat_eq, Bool, true, false, if◌then◌else◌, []}
use Rattle.std.proofs.Common.{Option, None, Some}
use Rattle.std.specs.Prelude.{is_some}
use Rattle.std.proofs.lemmas.Bool.{eqb-true}
use Rattle.ae_tree.specs.Names.{io}
use Rattle.ae_tree.specs.Plain.{Code}
use Rattle.ae_rules.specs.declared.held.GroupPerm.{GroupPerm}
use Rattle.ae_rules.specs.declared.held.GroupPerm.TheVariants as group
use Rattle.ae_rules.specs.Groups.{known, with_group}
use Rattle.ae_rules.specs.Context.{Context}
use Rattle.ae_semantics.specs.Values.{Store}
use Rattle.ae_semantics.specs.Places.{Group, Here, Away, As, State, with, other_name, name_of, group_of, with_store}
use Rattle.ae_semantics.specs.Places.{members}
use Rattle.ae_soundness.specs.Fits.{AreWhole, FitsGroup, FitsContext, has_members}
use Rattle.ae_soundness.proofs.LikeLemmas.{IsLike, like_itself, FitsGroups, like_fits}

-- A group with members is here with them.
pub members_here : (o : Option Group) (st : Store) → members o ≡ Some st → o ≡ Some (Here st)
members_here None st e = absurd (cc)
members_here (Some (Here old)) st e = cc
members_here (Some (Away cell)) st e = absurd (cc)
members_here (Some (As h)) st e = absurd (cc)

stored_like : (p : Code) (gs : ℕ → Option Group) (n h : ℕ) (old st : Store) → gs n ≡ Some (Here old)
    → (AreWhole p old → AreWhole p st) → (b : Bool) → nat_eq n h ≡ b
    → IsLike p (gs h) (if b then Some (Here st) else gs h)
stored_like p gs n h old st e k true d =
    subst (λ (o : Option Group). IsLike p o (Some (Here st))) (sym (ap gs (sym (eqb-true n h d)) ∙ e)) (st, refl, k)
stored_like p gs n h old st e k false d = like_itself p (gs h)

-- The members of a group are others, which are whole where those before were.
pub store_changed : (p : Code) (c : Context) (s : State) (g : ℕ) (old st : Store) → FitsContext p c s
    → group_of s g ≡ Some (Here old) → (AreWhole p old → AreWhole p st)
    → FitsContext p c (with_store g (Some (Here st)) s)
store_changed p c s g old st z e k = record {
  form = z.form;
  local = λ y l i v. let r = z.local y l i v in record { bound = r.bound; is = r.is; fits = r.fits };
  group = fits.group;
  name = fits.name;
  log = fits.log;
  log_known = z.log_known;
  unknown = fits.unknown;
}
  where
    fits : FitsGroups p c.group (with_store g (Some (Here st)) s)
    fits = like_fits p c s (with_store g (Some (Here st)) s) z
        (λ h. stored_like p s.groups (name_of s g) h old st e k (nat_eq (name_of s g) h) refl)

-- ---- a group is declared

none_whole : (p : Code) → AreWhole p []
none_whole p n t e = absurd (cc e)

still_known : (b : Bool) (o : Option GroupPerm) → is_some o ≡ true
    → is_some (if b then Some group.Exclusive else o) ≡ true
still_known true o k = refl
still_known false o k = k

-- no members, or what there was
fits_new : (p : Code) (q : GroupPerm) (b : Bool) (o : Option Group) → FitsGroup p q o
    → FitsGroup p q (if b then Some (Here []) else o)
fits_new p q true o h n = none_whole p
fits_new p q false o h n = h n

new_group : (p : Code) (c : Context) (s : State) (g y : ℕ) (q : GroupPerm) → FitsContext p c s
    → has_members y ≡ true → (b : Bool) → nat_eq g y ≡ b → (if b then Some group.Exclusive else c.group y) ≡ Some q
    → FitsGroup p q (with g (Some (Here [])) s.groups (other_name y (if b then Some (Here []) else s.groups y)))
new_group p c s g y q z m true d e n =
    subst (λ (b : Bool). FitsGroup p q (if b then Some (Here []) else s.groups y)) (sym d) (λ _. none_whole p) n
new_group p c s g y q z m false d e n =
    (fits_new) p q (nat_eq g (name_of s y)) (group_of s y) (z.group y q m e) n

new_name : (p : Code) (c : Context) (s : State) (g y : ℕ) → FitsContext p c s
    → has_members y ≡ true → (b : Bool) → nat_eq g y ≡ b
    → is_some (if b then Some group.Exclusive else c.group y) ≡ true
    → known (with_group g group.Exclusive c.group) (other_name y (if b then Some (Here []) else s.groups y)) ≡ true
new_name p c s g y z m true d k =
    ap (λ (b : Bool). is_some (if b then Some group.Exclusive else c.group y)) d
new_name p c s g y z m false d k =
    still_known (nat_eq g (name_of s y)) (c.group (name_of s y)) (z.name y m k)

new_log : (p : Code) (c : Context) (s : State) (g : ℕ) → FitsContext p c s → known c.group g ≡ false → (b : Bool)
    → nat_eq g io ≡ b → (if b then Some (Here []) else s.groups io) ≡ None
new_log p c s g z u true d =
    let same : g ≡ io = eqb-true g io d in
    let k : known c.group g ≡ true = ap (known c.group) same ∙ z.log_known in absurd (cc (k, u))
new_log p c s g z u false d = z.log

new_unknown : (p : Code) (c : Context) (s : State) (y : ℕ) → FitsContext p c s → (b : Bool)
    → is_some (if b then Some group.Exclusive else c.group y) ≡ false
    → (if b then Some (Here []) else s.groups y) ≡ None
new_unknown p c s y z true k = absurd (cc k)
new_unknown p c s y z false k = z.unknown y k

-- a group that is declared under its own name
declared_so : (p : Code) (c : Context) (s : State) (g : ℕ) → FitsContext p c s → known c.group g ≡ false
    → FitsContext p (record c { group = with_group g group.Exclusive c.group })
    (record s { groups = with g (Some (Here [])) s.groups })
declared_so p c s g z u = record {
  form = z.form;
  local = λ y l i v. let r = z.local y l i v in record { bound = r.bound; is = r.is; fits = r.fits };
  group = λ y q m e. new_group p c s g y q z m (nat_eq g y) refl e;
  name = λ y m k. new_name p c s g y z m (nat_eq g y) refl k;
  log = new_log p c s g z u (nat_eq g io) refl;
  log_known = still_known (nat_eq g io) (c.group io) z.log_known;
  unknown = λ y k. new_unknown p c s y z (nat_eq g y) k;
}

-- A group that was not known is declared, and has no members yet.
pub group_declared : (p : Code) (c : Context) (s : State) (g : ℕ) → FitsContext p c s → known c.group g ≡ false
    → FitsContext p (record c { group = with_group g group.Exclusive c.group }) (with_store g (Some (Here [])) s)
group_declared p c s g z u =
    let same : name_of s g ≡ g = ap (other_name g) (z.unknown g u) in
    subst (λ (n : ℕ). FitsContext p (record c { group = with_group g group.Exclusive c.group })
    (record s { groups = with n (Some (Here [])) s.groups })) (sym same) (declared_so p c s g z u)
