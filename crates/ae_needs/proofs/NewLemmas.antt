-- What a judged statement uses is visible, or it declares it; what it does not see two states have alike.
use Rattle.std.proofs.Common.{◌≡◌, ◌⊎◌, inl, inr, refl, sym, ap, ◌∙◌, subst, ℕ, nat_eq, Bool, true, false, ◌||◌}
use Rattle.std.proofs.Common.{if◌then◌else◌, ◌++◌, [], Option, None, Some}
use Rattle.std.specs.Prelude.{is_some, option_map}
use Rattle.std.proofs.lemmas.Bool.{eqb-true}
use Rattle.ae_text.specs.declared.refusal.Spot.{Spot}
use Rattle.ae_tree.specs.declared.tree.NameAt.{NameAt}
use Rattle.ae_tree.specs.declared.tree.Ty.{Ty}
use Rattle.ae_tree.specs.Form.{form}
use Rattle.ae_tree.specs.Plain.{RightSide, Declares}
use Rattle.ae_tree.specs.Plain.{Action, End, Next, Definition, Code}
use Rattle.ae_rules.specs.declared.uses.Resource.{Resource}
use Rattle.ae_rules.specs.declared.uses.Resource.TheVariants as resource
use Rattle.ae_rules.specs.declared.uses.Mode.{Mode}
use Rattle.ae_rules.specs.declared.uses.Mode.TheVariants as mode
use Rattle.ae_rules.specs.Edges.{Uses}
use Rattle.ae_rules.specs.Verdict.{Holds, ◌>>=◌, in_turn, given}
use Rattle.ae_rules.specs.Groups.{Groups as GroupsKnown}
use Rattle.ae_rules.specs.Groups.{known, declare}
use Rattle.ae_rules.specs.Context.{Local, Context}
use Rattle.ae_rules.specs.Uses.{is_seen, whole_group, statement_uses}
use Rattle.ae_rules.specs.EdgeLaws.{is_of_local, group_allows, is_allowed, UsesAreAllowed}
use Rattle.ae_rules.specs.BlockLaws.{Shape, shape_of, with_let, group_in_line, groups_in_lines, LinesDeclare}
use Rattle.ae_rules.specs.Judges.{Judges}
use Rattle.ae_rules.specs.Statements.{judge_lines}
use Rattle.ae_semantics.specs.Places.{State, other_name, name_of, group_of}
use Rattle.ae_soundness.specs.Fits.{FitsContext}
use Rattle.ae_needs.specs.Agree.{Agree, Covers, with_used}
use Rattle.ae_needs.proofs.AgreeLemmas.{AllIn, covered}
use Rattle.ae_needs.proofs.from_text.Basics.{first_of_both}

-- the laws by which this goes
pub record UseLaws : Type 0 where
  pub allowed : UsesAreAllowed
  pub lines : LinesDeclare

-- ---- what is visible

-- What may be used is visible.
pub allowed_seen : (c : Context) (r : Resource) (n : Mode) → is_allowed c r n ≡ true → is_seen c r ≡ true
allowed_seen c (resource.Local x) n e = first_of_both (is_some (c.local x)) (is_of_local n) e
allowed_seen c (resource.Group g) n e = by_group (c.group g) e
  where
    by_group : (o : Option _) → given o false (λ q. group_allows q n) ≡ true → is_some o ≡ true
    by_group None h = absurd (cc h)
    by_group (Some q) h = refl

-- What is used is used by some mode.
pub used_mode : (o : Option Mode) → is_some o ≡ true → (n : Mode) × (o ≡ Some n)
used_mode None e = absurd (cc e)
used_mode (Some n) e = (n, refl)

-- What a judged statement uses is visible after it.
pub used_after : UseLaws → (p : Code) (m : Definition) (at : Spot) (a : Action) (c d : Context) → Judges p m at a c d
    → (r : Resource) → is_some (statement_uses p m a c r) ≡ true → is_seen d r ≡ true
used_after laws p m at a c d h r e =
    let n = used_mode (statement_uses p m a c r) e in
    allowed_seen d r n.0 (laws.allowed p m at a c d r n.0 h n.1)

-- ---- what is declared

line_judged : (p : Code) (m : Definition) (at : Spot) (a : Action) (c d : Context) → Judges p m at a c d
    → judge_lines p m (Next at a End) c ≡ Holds d
line_judged p m at a c d h = ap (λ v. v >>= judge_lines p m End) h

shaped_seen : (o : Option Local) → is_some {T = Shape} (option_map (λ (l : Local). (l.form, l.stays)) o) ≡ is_some o
shaped_seen None = refl
shaped_seen (Some l) = refl

-- A local that is visible after a judged statement is among those with the one that it declares.
pub local_after : UseLaws → (p : Code) (m : Definition) (at : Spot) (a : Action) (c d : Context) → Judges p m at a c d
    → (x : ℕ) → is_some (d.local x) ≡ true → is_some (with_let a (shape_of c) x) ≡ true
local_after laws p m at a c d h x e =
    let shape : shape_of d x ≡ with_let a (shape_of c) x
    = (laws.lines p m (Next at a End) c d (line_judged p m at a c d h)).0 x in
    ap is_some (sym shape) ∙ shaped_seen (d.local x) ∙ e

-- A group that is visible after a judged statement that declares none was so before.
pub group_before : UseLaws → (p : Code) (m : Definition) (at : Spot) (a : Action) (c d : Context)
    → group_in_line a ≡ [] → Judges p m at a c d → (g : ℕ) → known d.group g ≡ true → known c.group g ≡ true
group_before laws p m at a c d k h g e =
    let groups : in_turn declare (groups_in_lines (Next at a End)) c.group ≡ Holds d.group
    = (laws.lines p m (Next at a End) c d (line_judged p m at a c d h)).1 in
    let none : Holds c.group ≡ Holds d.group
    = subst (λ xs. in_turn declare (xs ++ []) c.group ≡ Holds d.group) k groups in
    ap (λ (gs : GroupsKnown). known gs g) (same_groups none) ∙ e
  where
    same_groups : Holds c.group ≡ Holds d.group → c.group ≡ d.group
    same_groups i = cc i

-- The statement declares nothing.
pub record IsPlain (a : Action) : Type 0 where
  pub locals : (before : ℕ → Option Shape) (x : ℕ) → with_let a before x ≡ before x
  pub groups : group_in_line a ≡ []

seen_before : UseLaws → (p : Code) (m : Definition) (at : Spot) (a : Action) (c d : Context) → IsPlain a
    → Judges p m at a c d → (r : Resource) → is_seen d r ≡ true → is_seen c r ≡ true
seen_before laws p m at a c d k h (resource.Local x) e =
    sym (shaped_seen (c.local x)) ∙ ap is_some (sym (k.locals (shape_of c) x)) ∙ local_after laws p m at a c d h x e
seen_before laws p m at a c d k h (resource.Group g) e = group_before laws p m at a c d k.groups h g e

-- All that a judged statement uses that declares nothing is in a set that covers it.
pub plain_in : UseLaws → (on : Resource → Bool) (p : Code) (m : Definition) (at : Spot) (a : Action) (c d : Context)
    → IsPlain a → Judges p m at a c d → Covers on c (statement_uses p m a c) → AllIn on (statement_uses p m a c)
plain_in laws on p m at a c d k h i = covered on c (statement_uses p m a c)
    (λ r e. seen_before laws p m at a c d k h r (used_after laws p m at a c d h r e)) i

-- What is in a set with uses is in the set, or used.
pub in_or_used : (on : Resource → Bool) (u : Uses) (r : Resource) → with_used u on r ≡ true
    → (on r ≡ true) ⊎ (is_some (u r) ≡ true)
in_or_used on u r e = by_test (on r) refl
  where
    by_test : (b : Bool) → on r ≡ b → (on r ≡ true) ⊎ (is_some (u r) ≡ true)
    by_test true i = inl i
    by_test false i = inr (sym (ap (λ (x : Bool). x || is_some (u r)) i) ∙ e)

-- What is in a set with uses that are in it is in the set.
pub used_in : (on : Resource → Bool) (u : Uses) → AllIn on u → (r : Resource) → with_used u on r ≡ true
    → on r ≡ true
used_in on u h r e = elim (in_or_used on u r e) [ inl i ↦ i | inr i ↦ h r i ]

-- ---- `let` and `group`

-- What a judged `let` uses is in a set that covers it, or it is the local that is declared.
pub let_used : UseLaws → (on : Resource → Bool) (p : Code) (m : Definition) (at : Spot) (ty : Ty) (x : NameAt)
    (e : RightSide) (c d : Context) → Judges p m at (Declares ty x e) c d
    → Covers on c (statement_uses p m (Declares ty x e) c) → (r : Resource)
    → is_some (statement_uses p m (Declares ty x e) c r) ≡ true → (on r ≡ true) ⊎ (r ≡ resource.Local x.name)
let_used laws on p m at ty x e c d h i r k = by_kind r k (used_after laws p m at (Declares ty x e) c d h r k)
  where
    by_name : (y : ℕ) → is_some (statement_uses p m (Declares ty x e) c (resource.Local y)) ≡ true
        → (b : Bool) → nat_eq x.name y ≡ b → is_some (if b then Some (form ty, false) else shape_of c y) ≡ true
        → (on (resource.Local y) ≡ true) ⊎ (resource.Local y ≡ resource.Local x.name)
    by_name y u true j n = inr (ap resource.Local (sym (eqb-true x.name y j)))
    by_name y u false j n = inl (i (resource.Local y) (sym (shaped_seen (c.local y)) ∙ n) u)

    by_kind : (r : Resource) → is_some (statement_uses p m (Declares ty x e) c r) ≡ true → is_seen d r ≡ true
        → (on r ≡ true) ⊎ (r ≡ resource.Local x.name)
    by_kind (resource.Local y) u s = by_name y u (nat_eq x.name y) refl
        (local_after laws p m at (Declares ty x e) c d h y s)
    by_kind (resource.Group g) u s = inl
        (i (resource.Group g) (group_before laws p m at (Declares ty x e) c d refl h g s) u)

group_alone : (g : ℕ) (r : Resource) → is_some (whole_group g r) ≡ true → r ≡ resource.Group g
group_alone g (resource.Local y) e = absurd (cc e)
group_alone g (resource.Group h) e = by_test (nat_eq g h) refl e
  where
    by_test : (b : Bool) → nat_eq g h ≡ b → is_some (if b then Some mode.GroupWhole else None) ≡ true
        → resource.Group h ≡ resource.Group g
    by_test true i k = ap resource.Group (sym (eqb-true g h i))
    by_test false i k = absurd (cc k)

-- Of a group that is not known two states that fit agree.
pub unknown_agrees : (on : Resource → Bool) (p : Code) (c : Context) (s t : State) (g : ℕ) → FitsContext p c s
    → FitsContext p c t → known c.group g ≡ false → Agree on s t → Agree (with_used (whole_group g) on) s t
unknown_agrees on p c s t g y z n a = record {
  locals = λ x e. a.locals x (of_local x (in_or_used on (whole_group g) (resource.Local x) e));
  names = λ h e. elim (in_or_used on (whole_group g) (resource.Group h) e) [
    | inl i ↦ a.names h i
    | inr i ↦ subst (λ r. name_of s (named r) ≡ name_of t (named r)) (sym (group_alone g (resource.Group h) i)) one_name
  ];
  groups = λ h e. elim (in_or_used on (whole_group g) (resource.Group h) e) [
    | inl i ↦ a.groups h i
    | inr i ↦ subst (λ r. group_of s (named r) ≡ group_of t (named r)) (sym (group_alone g
        (resource.Group h) i)) one_group
  ];
  result = a.result;
}
  where
    named : Resource → ℕ
    named (resource.Local x) = x
    named (resource.Group h) = h

    of_local : (x : ℕ) → (on (resource.Local x) ≡ true) ⊎ (is_some (whole_group g (resource.Local x)) ≡ true)
        → on (resource.Local x) ≡ true
    of_local x (inl i) = i
    of_local x (inr i) = absurd (cc i)

    own : (u : State) → FitsContext p c u → name_of u g ≡ g
    own u k = ap (other_name g) (k.unknown g n)

    nothing_there : (u : State) → FitsContext p c u → group_of u g ≡ None
    nothing_there u k = ap u.groups (own u k) ∙ k.unknown g n

    one_name : name_of s g ≡ name_of t g
    one_name = own s y ∙ sym (own t z)

    one_group : group_of s g ≡ group_of t g
    one_group = nothing_there s y ∙ sym (nothing_there t z)
