-- What the declarations of a program say of a method's groups: each need is of a known group, and none is `io`.
use Rattle.std.proofs.Common.{◌≡◌, ◌⊎◌, inl, inr, refl, sym, ap, ◌∙◌, subst, arith, ℕ, zero, suc, nat_eq}
use Rattle.std.proofs.Common.{Bool, true, false, ◌||◌, not, if◌then◌else◌, List, [], ◌∷◌, ◌++◌, length, Option, None}
use Rattle.std.proofs.Common.{Some}
use Rattle.std.specs.Prelude.{slice_get, ⊤}
use Rattle.std.specs.List.{list_all, flat_map}
use Rattle.std.proofs.lemmas.Bool.{and_from, eqb-true, or_left, or_right}
use Rattle.std.proofs.lemmas.Option.{same_Some, slice_get_within}
use Rattle.ae_text.specs.declared.refusal.Rule.TheVariants as rule
use Rattle.ae_tree.specs.declared.tree.NameAt.{NameAt}
use Rattle.ae_tree.specs.declared.tree.GroupNeed.{GroupNeed}
use Rattle.ae_tree.specs.declared.tree.Class.{Class}
use Rattle.ae_tree.specs.declared.tree.Decl.{Decl}
use Rattle.ae_tree.specs.declared.tree.Decl.TheVariants as decl
use Rattle.ae_tree.specs.declared.form.Kind.TheVariants as kind
use Rattle.ae_tree.specs.Form.{bare_names}
use Rattle.ae_tree.specs.Names.{io}
use Rattle.ae_tree.specs.Plain.{Code, Definition}
use Rattle.ae_tree.specs.WellShaped.{WellShaped, IsMethodOf, own_methods, methods_at}
use Rattle.ae_rules.specs.Verdict.{Holds, require, each, in_turn, if_there, given}
use Rattle.ae_rules.specs.Lookups.{Names, class_at, method_at, groups_of, has_name}
use Rattle.ae_rules.specs.Lookups.{kind_of_class, own_kind}
use Rattle.ae_rules.specs.Table.{tops_differ, members_differ, most_groups, and_also, no_names, is_new, declares_groups}
use Rattle.ae_rules.specs.Table.{field_holds, result_holds, me_holds, param_holds, need_holds, method_holds}
use Rattle.ae_rules.specs.Table.{class_holds, decl_holds, TableHolds}
use Rattle.ae_rules.specs.Judges.{need_for, knows}
use Rattle.ae_soundness.specs.Fits.{has_members}
use Rattle.ae_soundness.proofs.GroupLemmas.{numbered_at, class_declared}
use Rattle.ae_soundness.proofs.from_rules.PathLemmas.{first_holds, each_holds}
use Rattle.ae_soundness.proofs.from_rules.BelowLemmas.{found_has}
use Rattle.ae_soundness.proofs.from_rules.SeenLemmas.{required}

-- ---- groups that are declared

-- a name that is new where `io` is known is not `io`
new_has_members : (known : Names) (g : ℕ) → known io ≡ true → not (known g) ≡ true → has_members g ≡ true
new_has_members known g i n = by_test (nat_eq io g) refl
  where
    by_test : (b : Bool) → nat_eq io g ≡ b → not b ≡ true
    by_test false e = refl
    by_test true e =
        let same : io ≡ g = eqb-true io g e in
        let there : known g ≡ true = ap known (sym same) ∙ i in absurd (cc (n, there))

-- No group that is declared is `io`.
pub declared_members : (room : ℕ) (gs : List NameAt) (known after : Names) → known io ≡ true
    → declares_groups room gs known ≡ Holds after → list_all has_members (bare_names gs) ≡ true
declared_members room [] known after i h = refl
declared_members zero (g ∷ gs) known after i h = absurd (cc h)
declared_members (suc room) (g ∷ gs) known after i h =
    let a = first_holds (is_new rule.GroupTwice g known) (declares_groups room gs) after h in
    let b = first_holds (require (not (known g.name)) rule.GroupTwice g.at) (λ _. Holds (and_also g.name known)) a.0 a.1
    in
    let same : and_also g.name known ≡ a.0 = cc (b.2) in
    and_from (has_members g.name) (list_all has_members (bare_names gs))
    (new_has_members known g.name i (required (not (known g.name)) rule.GroupTwice g.at b.0 b.1))
    (declared_members room gs a.0 after
    (ap (λ (n : Names). n io) (sym same) ∙ or_right (nat_eq g.name io) (known io) i) a.2)

no_more : (outer names : Names) (y : ℕ) → Holds outer ≡ Holds names → names y ≡ true → outer y ≡ false → ⊥
no_more outer names y h k n =
    let same : outer ≡ names = cc h in
    let there : outer y ≡ true = ap (λ (z : Names). z y) same ∙ k in cc (there, n)

-- what is known once groups are declared, and was not before, is one of them
newly_known : (room : ℕ) (gs : List NameAt) (outer names : Names) (y : ℕ)
    → declares_groups room gs outer ≡ Holds names → names y ≡ true → outer y ≡ false → has_name (bare_names gs) y ≡ true
newly_known room [] outer names y h k n = absurd (no_more outer names y h k n)
newly_known zero (g ∷ gs) outer names y h k n = absurd (cc h)
newly_known (suc room) (g ∷ gs) outer names y h k n =
    let a = first_holds (is_new rule.GroupTwice g outer) (declares_groups room gs) names h in
    let b = first_holds (require (not (outer g.name)) rule.GroupTwice g.at) (λ _. Holds (and_also g.name outer)) a.0 a.1
    in
    let same : and_also g.name outer ≡ a.0 = cc (b.2) in
    by_test (nat_eq g.name y) (λ i. newly_known room gs a.0 names y a.2 k i) (ap (λ (z : Names). z y) (sym same))
  where
    by_test : {before : Bool} (b : Bool) → (before ≡ false → has_name (bare_names gs) y ≡ true)
        → before ≡ (b || outer y) → (b || has_name (bare_names gs) y) ≡ true
    by_test true later i = refl
    by_test false later i = later (i ∙ n)

known_now : (p : Code) (m : Definition) (room : ℕ) (outer names : Names) (y : ℕ)
    → (outer y ≡ true → knows p m y ≡ true) → declares_groups room m.groups outer ≡ Holds names → names y ≡ true
    → knows p m y ≡ true
known_now p m room outer names y o h k = by_test (outer y) refl
  where
    by_test : (b : Bool) → outer y ≡ b → knows p m y ≡ true
    by_test true e = o e
    by_test false e = or_right (nat_eq io y || has_name (groups_of (own_kind p m.class)) y)
        (has_name (bare_names m.groups) y) (newly_known room m.groups outer names y h k e)

-- ---- where a method is declared

-- Where a method is declared its premises hold; outside it `io` is known, and the groups of its class, and no more.
pub record IsHeldAs (p : Code) (m : Definition) : Type 0 where
  pub outer : Names
  pub outside : (y : ℕ) → outer y ≡ true → knows p m y ≡ true
  pub log : outer io ≡ true
  pub unit : ⊤
  pub holds : method_holds p outer m ≡ Holds unit

-- each declaration holds
decls_hold : (p : Code) → TableHolds p → (u : ⊤) × (each (decl_holds p) p.decls ≡ Holds u)
decls_hold p h =
    let a = first_holds (tops_differ p) _ tt h in
    let b = first_holds (each (members_differ p) p.classes) _ tt a.2 in
    let g = first_holds (each (decl_holds p) p.decls) _ tt b.2 in (g.0, g.1)

class_is_held : (p : Code) → WellShaped p → TableHolds p → (n : ℕ) (c : Class) → class_at p n ≡ Some c
    → (u : ⊤) × (class_holds p c ≡ Holds u)
class_is_held p w h n c e =
    let g = decls_hold p h in
    let at = class_declared p.decls n n
    (ap (λ (xs : List ℕ). slice_get xs n) w.classes
    ∙ numbered_at 0 (length p.classes) n (slice_get_within p.classes n c e) ∙ ap Some (omega arith)) in
    let k = each_holds (decl_holds p) p.decls g.0 at.0 (decl.Class n) g.1 at.1 in
    (k.0, ap (λ (o : Option Class). if_there o (class_holds p)) (sym e) ∙ k.1)

-- No group of a class is `io`.
pub class_members : (p : Code) → WellShaped p → TableHolds p → (n : ℕ) (c : Class) → class_at p n ≡ Some c
    → list_all has_members (bare_names c.groups) ≡ true
class_members p w h n c e =
    let k = class_is_held p w h n c e in
    let d = first_holds (declares_groups most_groups c.groups (and_also io no_names)) _ k.0 k.1 in
    declared_members most_groups c.groups (and_also io no_names) d.0 refl d.1

-- a place of a list
abbrev StandsAmong : List ℕ → ℕ → Type 0
StandsAmong xs n = (i : ℕ) × (slice_get xs i ≡ Some n)

either_list : (xs ys : List ℕ) (i n : ℕ) → slice_get (xs ++ ys) i ≡ Some n → StandsAmong xs n ⊎ StandsAmong ys n
either_list [] ys i n e = inr (i, e)
either_list (x ∷ xs) ys zero n e = inl (0, e)
either_list (x ∷ xs) ys (suc i) n e = further (either_list xs ys i n e)
  where
    further : StandsAmong xs n ⊎ StandsAmong ys n → StandsAmong (x ∷ xs) n ⊎ StandsAmong ys n
    further (inl r) = inl (suc r.0, r.1)
    further (inr r) = inr r

-- a declaration that has the method
abbrev HasDecl : Code → List Decl → ℕ → Type 0
HasDecl p ds n = (j : ℕ) × (d : Decl) × (slice_get ds j ≡ Some d) × StandsAmong (methods_at p d) n

method_declared : (p : Code) (ds : List Decl) (i n : ℕ) → slice_get (flat_map (methods_at p) ds) i ≡ Some n
    → HasDecl p ds n
method_declared p [] i n e = absurd (cc e)
method_declared p (d ∷ ds) i n e = one_of (λ k l. method_declared p ds k n l)
    (either_list (methods_at p d) (flat_map (methods_at p) ds) i n e)
  where
    one_of : ((k : ℕ) → slice_get (flat_map (methods_at p) ds) k ≡ Some n → HasDecl p ds n)
        → StandsAmong (methods_at p d) n ⊎ StandsAmong (flat_map (methods_at p) ds) n → HasDecl p (d ∷ ds) n
    one_of later (inl r) = (0, d, refl, r)
    one_of later (inr r) = let s = later r.0 r.1 in (suc s.0, s.1, s.2, s.3)

there_holds : (p : Code) (outer : Names) (n : ℕ) (m : Definition) (u : ⊤) → method_at p n ≡ Some m
    → if_there (method_at p n) (method_holds p outer) ≡ Holds u → method_holds p outer m ≡ Holds u
there_holds p outer n m u e h = ap (λ (o : Option Definition). if_there o (method_holds p outer)) (sym e) ∙ h

io_known : (p : Code) (m : Definition) (y : ℕ) → and_also io no_names y ≡ true → knows p m y ≡ true
io_known p m y e = or_left (nat_eq io y || has_name (groups_of (own_kind p m.class)) y)
    (has_name (bare_names m.groups) y)
    (or_left (nat_eq io y) (has_name (groups_of (own_kind p m.class)) y) (alone (nat_eq io y) e))
  where
    alone : (b : Bool) → (b || false) ≡ true → b ≡ true
    alone true i = refl
    alone false i = absurd (cc i)

-- what is known in a class is known in its methods
class_known : (p : Code) (m : Definition) (c : Class) (names : Names) (y : ℕ) → own_kind p m.class ≡ kind_of_class c
    → declares_groups most_groups c.groups (and_also io no_names) ≡ Holds names → names y ≡ true
    → knows p m y ≡ true
class_known p m c names y own h k = by_test (and_also io no_names y) refl
  where
    by_test : (b : Bool) → and_also io no_names y ≡ b → knows p m y ≡ true
    by_test true e = io_known p m y e
    by_test false e = or_left (nat_eq io y || has_name (groups_of (own_kind p m.class)) y)
        (has_name (bare_names m.groups) y)
        (or_right (nat_eq io y) (has_name (groups_of (own_kind p m.class)) y)
        (ap (λ a. has_name (groups_of a) y) own
        ∙ newly_known most_groups c.groups (and_also io no_names) names y h k e))

io_still : (room : ℕ) (gs : List NameAt) (outer names : Names) → outer io ≡ true
    → declares_groups room gs outer ≡ Holds names → names io ≡ true
io_still room [] outer names k h = let same : outer ≡ names = cc h in ap (λ (z : Names). z io) (sym same) ∙ k
io_still zero (g ∷ gs) outer names k h = absurd (cc h)
io_still (suc room) (g ∷ gs) outer names k h =
    let a = first_holds (is_new rule.GroupTwice g outer) (declares_groups room gs) names h in
    let b = first_holds (require (not (outer g.name)) rule.GroupTwice g.at) (λ _. Holds (and_also g.name outer)) a.0 a.1
    in
    let same : and_also g.name outer ≡ a.0 = cc (b.2) in
    io_still room gs a.0 names (ap (λ (n : Names). n io) (sym same) ∙ or_right (nat_eq g.name io) (outer io) k) a.2

decl_held : (p : Code) → WellShaped p → (d : Decl) (n : ℕ) (m : Definition) (u : ⊤) → method_at p n ≡ Some m
    → StandsAmong (methods_at p d) n → decl_holds p d ≡ Holds u → IsHeldAs p m
decl_held p w (decl.Method k) n m u e (zero, l) h =
    let same : k ≡ n = same_Some k n l in
    record {
      outer = and_also io no_names;
      outside = io_known p m;
      log = refl;
      unit = u;
      holds = there_holds p (and_also io no_names) n m u e
          (ap (λ (x : ℕ). if_there (method_at p x) (method_holds p (and_also io no_names))) (sym same) ∙ h);
    }
decl_held p w (decl.Method k) n m u e (suc i, l) h = absurd (cc l)
decl_held p w (decl.Class k) n m u e l h = by_class (class_at p k) refl l h
  where
    by_class : (c : Option Class) → class_at p k ≡ c → StandsAmong (own_methods c) n
        → if_there c (class_holds p) ≡ Holds u → IsHeldAs p m
    by_class None f r j = absurd (cc (r.1))
    by_class (Some c) f r j =
        let a = first_holds (declares_groups most_groups c.groups (and_also io no_names)) _ u j in
        let b = first_holds (each (field_holds p a.0) c.fields) _ u a.2 in
        let y = each_holds (λ (x : ℕ). if_there (method_at p x) (method_holds p a.0)) c.methods u r.0 n b.2 r.1 in
        let x = found_has (IsMethodOf p (Some k)) c.methods r.0 n (w.members k c f) r.1 in
        let same : x.method ≡ m = same_Some x.method m (sym x.found ∙ e) in
        let own : own_kind p m.class ≡ kind_of_class c =
        ap (λ (z : Definition). own_kind p z.class) (sym same) ∙ ap (own_kind p) x.is_of
        ∙ ap (λ (o : Option Class). given o kind.Ints kind_of_class) f in
        record {
          outer = a.0;
          outside = λ z v. class_known p m c a.0 z own a.1 v;
          log = io_still most_groups c.groups (and_also io no_names) a.0 refl a.1;
          unit = y.0;
          holds = there_holds p a.0 n m y.0 e y.1;
        }

-- Each method of a program whose declarations hold is declared with premises that hold.
pub method_is_held : (p : Code) → WellShaped p → TableHolds p → (n : ℕ) (m : Definition) → method_at p n ≡ Some m
    → IsHeldAs p m
method_is_held p w h n m e =
    let g = decls_hold p h in
    let d : HasDecl p p.decls n = method_declared p p.decls n n
    (ap (λ (xs : List ℕ). slice_get xs n) w.methods
    ∙ numbered_at 0 (length p.methods) n (slice_get_within p.methods n m e) ∙ ap Some (omega arith)) in
    let k = each_holds (decl_holds p) p.decls g.0 d.0 d.1 g.1 d.2
    in decl_held p w d.1 n m k.0 e d.3 k.1

-- ---- what holds of its groups

-- each need of the method is of a group that it knows
abbrev pub NeedsAreKnown : Code → Definition → Type 0
NeedsAreKnown p m = (g : ℕ) (n : GroupNeed) → need_for m.needs g ≡ Some n → knows p m g ≡ true

need_is_known : (p : Code) (m : Definition) (names : Names) (ns : List GroupNeed) (before after : Names) (g : ℕ)
    (n : GroupNeed) → ((y : ℕ) → names y ≡ true → knows p m y ≡ true)
    → in_turn (need_holds names) ns before ≡ Holds after → need_for ns g ≡ Some n → knows p m g ≡ true
need_is_known p m names [] before after g n k h e = absurd (cc e)
need_is_known p m names (x ∷ ns) before after g n k h e =
    let a = first_holds (need_holds names x before) (in_turn (need_holds names) ns) after h in
    let b = first_holds (require (names x.group.name) rule.UnknownGroup x.group.at)
    (λ _. is_new rule.GroupTwice x.group before) a.0 a.1 in
    by_test (nat_eq x.group.name g) refl (required (names x.group.name) rule.UnknownGroup x.group.at b.0 b.1)
    (λ i. need_is_known p m names ns a.0 after g n k a.2 i) e
  where
    by_test : (b : Bool) → nat_eq x.group.name g ≡ b → names x.group.name ≡ true
        → (need_for ns g ≡ Some n → knows p m g ≡ true) → (if b then Some x else need_for ns g) ≡ Some n
        → knows p m g ≡ true
    by_test true d i later j = subst (λ (y : ℕ). knows p m y ≡ true) (eqb-true x.group.name g d) (k x.group.name i)
    by_test false d i later j = later j

-- Each need of a method is of a group that it knows, and none of its own groups is `io`.
pub needs_are_known : (p : Code) (m : Definition) → IsHeldAs p m
    → NeedsAreKnown p m × (list_all has_members (bare_names m.groups) ≡ true)
needs_are_known p m r =
    let a = first_holds (declares_groups most_groups m.groups r.outer) _ r.unit r.holds in
    let b = first_holds (result_holds p a.0 m.result) _ r.unit a.2 in
    let d = first_holds (if_there m.me (me_holds a.0)) _ r.unit b.2 in
    let e = first_holds (in_turn (param_holds p a.0) m.params a.0) _ r.unit d.2 in
    let n = first_holds (in_turn (need_holds a.0) m.needs no_names) _ r.unit e.2 in (
      λ g x i. need_is_known p m a.0 m.needs no_names n.0 g x
          (λ y k. known_now p m most_groups r.outer a.0 y (r.outside y) a.1 k) n.1 i,
      declared_members most_groups m.groups r.outer a.0 r.log a.1,
    )
