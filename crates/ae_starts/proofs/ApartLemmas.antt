-- That the names of a method stand apart.
use Rattle.std.proofs.Common.{◌≡◌, refl, sym, ap, ◌∙◌, subst, ℕ, nat_eq, Bool, true, false, not, ◌||◌}
use Rattle.std.proofs.Common.{if◌then◌else◌, List, [], ◌∷◌, ◌++◌, map, Option, None, Some}
use Rattle.std.specs.Prelude.{option_map}
use Rattle.std.specs.List.{All}
use Rattle.std.proofs.lemmas.Bool.{and_from, or_left, or_right, eqb-true, not-true}
use Rattle.std.proofs.lemmas.List.Elements.{All-head, All-tail}
use Rattle.ae_text.specs.declared.refusal.Rule.{Rule}
use Rattle.ae_text.specs.declared.refusal.Rule.TheVariants as rule
use Rattle.ae_tree.specs.declared.tree.NameAt.{NameAt}
use Rattle.ae_tree.specs.declared.tree.Me.{Me}
use Rattle.ae_tree.specs.declared.tree.Param.{Param}
use Rattle.ae_tree.specs.declared.tree.Field.{Field}
use Rattle.ae_tree.specs.declared.tree.Class.{Class}
use Rattle.ae_tree.specs.declared.tree.GroupNeed.{GroupNeed}
use Rattle.ae_tree.specs.declared.form.Kind.TheVariants as kind
use Rattle.ae_tree.specs.Form.{form, bare_names}
use Rattle.ae_tree.specs.Names.{this}
use Rattle.ae_tree.specs.Plain.{Definition, Code}
use Rattle.ae_tree.specs.FreeThis.{IsNotThis, ThisIsFree}
use Rattle.ae_rules.specs.Verdict.{Verdict, Holds, require, in_turn, if_there, given}
use Rattle.ae_rules.specs.Lookups.{Names, class_at, groups_of, has_name, kind_of_class, own_kind}
use Rattle.ae_rules.specs.Types.{forms_type}
use Rattle.ae_rules.specs.Calls.{if_some}
use Rattle.ae_rules.specs.Table.{most_groups, and_also, no_names, is_new, declares_groups, form_goes, result_holds}
use Rattle.ae_rules.specs.Table.{me_holds, param_holds, need_holds, table_verdict}
use Rattle.ae_rules.specs.Judges.{need_for, knows}
use Rattle.ae_frames.specs.Entries.{all_differ, need_names}
use Rattle.ae_starts.specs.Laws.{NamesStandApart}
use Rattle.ae_starts.proofs.from_text.Basics.{first_of_neither, second_of_neither, no_test_is_both, number_is_itself}
use Rattle.ae_starts.proofs.from_rules.PathLemmas.{first_holds}
use Rattle.ae_starts.proofs.from_rules.SeenLemmas.{required}
use Rattle.ae_starts.proofs.from_rules.BelowLemmas.{found_has}
use Rattle.ae_starts.proofs.from_frames.BindingLemmas.{first_is_alone, others_differ}
use Rattle.ae_starts.proofs.from_frames.NameLemmas.{negated}
use Rattle.ae_starts.proofs.from_soundness.NeedLemmas.{IsHeldAs, NeedsAreKnown, method_is_held, needs_are_known}

-- ---- names that are new one after another

-- where it is judged, the name of this is none of those before, and then it is one of them
abbrev IsNamedAnew : {A : Type 0} → (A → ℕ) → (A → Names → Verdict Names) → Type 0
IsNamedAnew name f = (x : _) (before after : Names) → f x before ≡ Holds after
    → (before (name x) ≡ false) × (and_also (name x) before ≡ after)

-- the names differ, and none of them is one of those before
abbrev AreNewNames : List ℕ → Names → Type 0
AreNewNames xs before = (all_differ xs ≡ true) × ((y : ℕ) → before y ≡ true → has_name xs y ≡ false)

-- a name that was there before is not the one that is new
old_is_other : (x y : ℕ) (before : Names) (b : Bool) → before x ≡ false → before y ≡ true → b ≡ false
    → (nat_eq x y || b) ≡ false
old_is_other x y before b new old rest = by_test (nat_eq x y) refl
  where
    by_test : (t : Bool) → nat_eq x y ≡ t → (t || b) ≡ false
    by_test true q = absurd (no_test_is_both (before x) (subst (λ z. before z ≡ true) (sym (eqb-true x y q)) old) new)
    by_test false q = rest

named_anew : {A : Type 0} (name : A → ℕ) (f : A → Names → Verdict Names) → IsNamedAnew name f → (xs : List A)
    (before after : Names) → in_turn f xs before ≡ Holds after → AreNewNames (map name xs) before
named_anew name f new [] before after h = (refl, λ y e. refl)
named_anew name f new (x ∷ xs) before after h =
    let a = first_holds (f x before) (in_turn f xs) after h in
    let first = new x before a.0 a.1 in
    let later : AreNewNames (map name xs) a.0 = named_anew name f new xs a.0 after a.2 in
    let known : a.0 (name x) ≡ true = ap (λ (z : Names). z (name x)) (sym first.1)
    ∙ or_left (nat_eq (name x) (name x)) (before (name x)) (number_is_itself (name x)) in (
      and_from (not (has_name (map name xs) (name x))) (all_differ (map name xs))
          (negated (has_name (map name xs) (name x)) (later.1 (name x) known)) later.0,
      λ y e. old_is_other (name x) y before (has_name (map name xs) y) first.0 e
          (later.1 y (ap (λ (z : Names). z y) (sym first.1) ∙ or_right (nat_eq (name x) y) (before y) e)),
    )

name_is_new : (r : Rule) (x : NameAt) (before after : Names) → is_new r x before ≡ Holds after
    → (before x.name ≡ false) × (and_also x.name before ≡ after)
name_is_new r x before after h =
    let a = first_holds (require (not (before x.name)) r x.at) (λ _. Holds (and_also x.name before)) after h in
    let same : and_also x.name before ≡ after = cc (a.2) in
    (not-true (before x.name) (required (not (before x.name)) r x.at a.0 a.1), same)

param_is_new : (p : Code) (known : Names) → IsNamedAnew (λ (x : Param). x.name.name) (param_holds p known)
param_is_new p known x before after h =
    let a = first_holds (forms_type p known true x.ty) _ after h in
    let b = first_holds (if_there x.away (form_goes (form x.ty))) _ after a.2
    in name_is_new rule.DuplicateLocal x.name before after b.2

need_is_new : (known : Names) → IsNamedAnew (λ (n : GroupNeed). n.group.name) (need_holds known)
need_is_new known n before after h =
    let a = first_holds (require (known n.group.name) rule.UnknownGroup n.group.at) _ after h
    in name_is_new rule.GroupTwice n.group before after a.2

-- a name of a need is one of the groups that are known
need_is_known : (known : Names) (ns : List GroupNeed) (before after : Names) (y : ℕ)
    → in_turn (need_holds known) ns before ≡ Holds after → has_name (need_names ns) y ≡ true → known y ≡ true
need_is_known known [] before after y h e = absurd (cc e)
need_is_known known (n ∷ ns) before after y h e =
    let a = first_holds (need_holds known n before) (in_turn (need_holds known) ns) after h in
    let b = first_holds (require (known n.group.name) rule.UnknownGroup n.group.at)
    (λ _. is_new rule.GroupTwice n.group before) a.0 a.1 in
    by_test (nat_eq n.group.name y) refl (required (known n.group.name) rule.UnknownGroup n.group.at b.0 b.1)
    (λ i. need_is_known known ns a.0 after y a.2 i) e
  where
    by_test : (t : Bool) → nat_eq n.group.name y ≡ t → known n.group.name ≡ true
        → (has_name (need_names ns) y ≡ true → known y ≡ true) → (t || has_name (need_names ns) y) ≡ true
        → known y ≡ true
    by_test true q here later i = subst (λ z. known z ≡ true) (eqb-true n.group.name y q) here
    by_test false q here later i = later i

-- ---- two lists of names

in_neither : (xs ys : List ℕ) (y : ℕ) → has_name xs y ≡ false → has_name ys y ≡ false → has_name (xs ++ ys) y ≡ false
in_neither [] ys y a b = b
in_neither (x ∷ xs) ys y a b =
    ap (λ t. t || has_name (xs ++ ys) y) (first_of_neither (nat_eq x y) (has_name xs y) a)
    ∙ in_neither xs ys y (second_of_neither (nat_eq x y) (has_name xs y) a) b

not_second : (x : ℕ) (xs : List ℕ) (b : Bool) → (b ≡ true → has_name (x ∷ xs) x ≡ false) → b ≡ false
not_second x xs true other = absurd (no_test_is_both (nat_eq x x) (number_is_itself x)
    (first_of_neither (nat_eq x x) (has_name xs x) (other refl)))
not_second x xs false other = refl

-- names that differ, and others that do and are none of them, differ together
differ_together : (xs ys : List ℕ) → all_differ xs ≡ true → all_differ ys ≡ true
    → ((y : ℕ) → has_name ys y ≡ true → has_name xs y ≡ false) → all_differ (xs ++ ys) ≡ true
differ_together [] ys a b other = b
differ_together (x ∷ xs) ys a b other = and_from (not (has_name (xs ++ ys) x)) (all_differ (xs ++ ys))
    (negated (has_name (xs ++ ys) x)
    (in_neither xs ys x (first_is_alone x xs a) (not_second x xs (has_name ys x) (other x))))
    (differ_together xs ys (others_differ x xs a) b
    (λ y h. second_of_neither (nat_eq x y) (has_name xs y) (other y h)))

-- ---- the name `this`

-- none of these has the name `this`
none_is_this : {A : Type 0} (name : A → NameAt) (xs : List A) → All (λ (x : A). IsNotThis (name x)) xs
    → has_name (map (λ (x : A). (name x).name) xs) this ≡ false
none_is_this name [] a = refl
none_is_this {A} name (x ∷ xs) a = by_test (nat_eq (name x).name this) refl
    (none_is_this name xs (All-tail (λ (z : A). IsNotThis (name z)) x xs a))
  where
    by_test : (t : Bool) → nat_eq (name x).name this ≡ t → has_name (map (λ (z : A). (name z).name) xs) this ≡ false
        → (t || has_name (map (λ (z : A). (name z).name) xs) this) ≡ false
    by_test true q later = absurd (All-head (λ (z : A). IsNotThis (name z)) x xs a (eqb-true (name x).name this q))
    by_test false q later = later

-- what is free of the name `this` in a method
abbrev pub MethodFree : Definition → Type 0
MethodFree m = IsNotThis m.name × All IsNotThis m.groups × All (λ (x : Param). IsNotThis x.name) m.params

abbrev ClassFree : Class → Type 0
ClassFree c = IsNotThis c.name × All IsNotThis c.groups × All (λ (d : Field). IsNotThis d.name) c.fields

-- no group of a method's class has the name `this`
own_is_other : (p : Code) → ThisIsFree p → (o : Option ℕ) → has_name (groups_of (own_kind p o)) this ≡ false
own_is_other p free None = refl
own_is_other p free (Some n) = by_class (class_at p n) refl
  where
    by_class : (o : Option Class) → class_at p n ≡ o
        → has_name (groups_of (given o kind.Ints kind_of_class)) this ≡ false
    by_class None e = refl
    by_class (Some c) e =
        let other = found_has ClassFree p.classes n c free.classes e in
        none_is_this (λ (x : NameAt). x) c.groups other.1

-- no method knows a group with the name `this`
this_is_unknown : (p : Code) (m : Definition) → ThisIsFree p → MethodFree m → knows p m this ≡ false
this_is_unknown p m free other = neither (has_name (groups_of (own_kind p m.class)) this)
    (has_name (bare_names m.groups) this) (own_is_other p free m.class)
    (none_is_this (λ (x : NameAt). x) m.groups other.1)
  where
    neither : (a b : Bool) → a ≡ false → b ≡ false → ((false || a) || b) ≡ false
    neither true b e d = absurd (cc e)
    neither false b e d = d

-- a need by its name
need_is_listed : (ns : List GroupNeed) (y : ℕ) → has_name (need_names ns) y ≡ true
    → (n : GroupNeed) × (need_for ns y ≡ Some n)
need_is_listed [] y h = absurd (cc h)
need_is_listed (n ∷ ns) y h = by_test (nat_eq n.group.name y) (need_is_listed ns y) h
  where
    by_test : (t : Bool) → (has_name (need_names ns) y ≡ true → (k : GroupNeed) × (need_for ns y ≡ Some k))
        → (t || has_name (need_names ns) y) ≡ true
        → (k : GroupNeed) × ((if t then Some n else need_for ns y) ≡ Some k)
    by_test true later e = (n, refl)
    by_test false later e = later e

-- no need has the name `this`
need_is_other : (p : Code) (m : Definition) → NeedsAreKnown p m → knows p m this ≡ false → (b : Bool)
    → has_name (need_names m.needs) this ≡ b → b ≡ false
need_is_other p m known unknown true e =
    let n = need_is_listed m.needs this e in absurd (no_test_is_both (knows p m this) (known this n.0 n.1) unknown)
need_is_other p m known unknown false e = refl

-- ---- a method

-- the names of the parameters and of the needs of a method differ
others_stand_apart : (p : Code) (m : Definition) → IsHeldAs p m
    → all_differ (map (λ (x : Param). x.name.name) m.params ++ need_names m.needs) ≡ true
others_stand_apart p m r =
    let a = first_holds (declares_groups most_groups m.groups r.outer) _ r.unit r.holds in
    let b = first_holds (result_holds p a.0 m.result) _ r.unit a.2 in
    let d = first_holds (if_there m.me (me_holds a.0)) _ r.unit b.2 in
    let e = first_holds (in_turn (param_holds p a.0) m.params a.0) _ r.unit d.2 in
    let n = first_holds (in_turn (need_holds a.0) m.needs no_names) _ r.unit e.2 in
    let params = named_anew (λ (x : Param). x.name.name) (param_holds p a.0) (param_is_new p a.0) m.params a.0 e.0 e.1
    in
    let needs = named_anew (λ (k : GroupNeed). k.group.name) (need_holds a.0) (need_is_new a.0) m.needs no_names n.0 n.1
    in
    differ_together (map (λ (x : Param). x.name.name) m.params) (need_names m.needs) params.0 needs.0
    (λ y h. params.1 y (need_is_known a.0 m.needs no_names n.0 y n.1 h))

-- with the receiver before them
with_receiver : (o : Option Me) (xs ns : List ℕ) → all_differ (xs ++ ns) ≡ true → has_name xs this ≡ false
    → has_name ns this ≡ false → all_differ (if_some (option_map (λ (x : Me). this) o) xs ++ ns) ≡ true
with_receiver None xs ns apart a b = apart
with_receiver (Some me) xs ns apart a b = and_from (not (has_name (xs ++ ns) this)) (all_differ (xs ++ ns))
    (negated (has_name (xs ++ ns) this) (in_neither xs ns this a b)) apart

-- the receiver, the parameters and the needed groups of a method all have names of their own
pub names_stand_apart : NamesStandApart
names_stand_apart p w free accepted n m e =
    let table = first_holds (table_verdict p) _ tt accepted in
    let held = method_is_held p w table.1 n m e in
    let other = found_has MethodFree p.methods n m free.methods e in
    with_receiver m.me (map (λ (x : Param). x.name.name) m.params) (need_names m.needs) (others_stand_apart p m held)
    (none_is_this (λ (x : Param). x.name) m.params other.2)
    (need_is_other p m (needs_are_known p m held).0 (this_is_unknown p m free other)
    (has_name (need_names m.needs) this) refl)
