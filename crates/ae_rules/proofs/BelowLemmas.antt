-- The names that are visible in judged code are numbers of names.
use Rattle.std.proofs.Common.{arith, ◌≡◌, ◌<◌, inl, inr, refl, sym, ap, ◌∙◌, subst, ℕ, zero, suc, nat_eq, Bool, true}
use Rattle.std.proofs.Common.{false, ◌&&◌, ◌||◌, if◌then◌else◌, List, [], ◌∷◌, length, Option, None, Some}
use Rattle.std.specs.Prelude.{is_some, option_map, slice_get}
use Rattle.std.specs.List.{All}
use Rattle.std.proofs.lemmas.Bool.{eqb-true, or_cases, or_left, or_right}
use Rattle.std.proofs.lemmas.List.Elements.{All-nil, All-cons, All-head, All-tail, All-weaker}
use Rattle.ae_text.specs.declared.refusal.Spot.{Spot}
use Rattle.ae_tree.specs.declared.tree.NameAt.{NameAt}
use Rattle.ae_tree.specs.declared.tree.Param.{Param}
use Rattle.ae_tree.specs.declared.tree.Class.{Class}
use Rattle.ae_rules.specs.declared.uses.Resource.{Resource}
use Rattle.ae_rules.specs.declared.uses.Resource.TheVariants as resource
use Rattle.ae_rules.specs.declared.uses.Mode.{Mode}
use Rattle.ae_tree.specs.declared.tree.GroupNeed.{GroupNeed}
use Rattle.ae_tree.specs.declared.form.Kind.TheVariants as kind
use Rattle.ae_tree.specs.declared.form.Form.{Form}
use Rattle.ae_tree.specs.Form.{form, bare_names}
use Rattle.ae_tree.specs.Names.{io, this}
use Rattle.ae_tree.specs.WellShaped.{AreNamed, HasNumberBelow, ActionNamed, ParamNamed, ClassNamed, MethodNamed}
use Rattle.ae_tree.specs.WellShaped.{WellShaped}
use Rattle.ae_tree.specs.Plain.{Definition, Code}
use Rattle.ae_tree.specs.Plain.{Action, Declares, Groups}
use Rattle.ae_rules.specs.declared.held.GroupPerm.{GroupPerm}
use Rattle.ae_rules.specs.declared.held.GroupPerm.TheVariants as group
use Rattle.ae_rules.specs.Verdict.{Holds, given}
use Rattle.ae_rules.specs.Lookups.{has_name, class_at, groups_of, own_kind, kind_of_class}
use Rattle.ae_rules.specs.Groups.{known}
use Rattle.ae_rules.specs.Context.{Local, Context, closed}
use Rattle.ae_rules.specs.Statements.{while_split, while_locked, judge_statement}
use Rattle.ae_rules.specs.Judges.{start, locals_at_start, groups_at_start, knows, me_local, param_local}
use Rattle.ae_rules.specs.Judges.{param_called, need_for, permission_needed}
use Rattle.ae_rules.specs.Uses.{statement_at, of_found, statement_uses, context_at}
use Rattle.ae_rules.specs.Blocks.{Opened, scene_uses, scenes, all_scenes}
use Rattle.ae_rules.specs.EdgeLaws.{NamesBelow, name_of_resource, is_allowed, group_allows, is_of_local}
use Rattle.ae_rules.specs.BlockLaws.{Shape, shape_of, with_let, group_in_line, VisibleBelow, IsBelow, NamesAreBelow}
use Rattle.ae_rules.proofs.VisibleLemmas.{uses_are_allowed}
use Rattle.ae_rules.proofs.PredLemmas.{preds_are_edges}
use Rattle.ae_rules.proofs.PathLemmas.{method_judged}
use Rattle.ae_rules.proofs.DeclareLemmas.{declares}
use Rattle.ae_rules.proofs.ChangeLemmas.{declared_or_same}
use Rattle.ae_rules.proofs.EverywhereLemmas.{Kept, Passed, Has, split_known, lock_known, kept_everywhere}

-- ---- lists of names

pub listed_below : (n : ℕ) (xs : List NameAt) (y : ℕ) → AreNamed n xs → has_name (bare_names xs) y ≡ true → y < n
listed_below n [] y a e = absurd (cc)
listed_below n (x ∷ xs) y a e = elim (or_cases (nat_eq x.name y) (has_name (bare_names xs) y) e) [
  | inl q ↦ subst (λ (z : ℕ). z < n) (eqb-true x.name y q) (All-head (HasNumberBelow n) x xs a)
  | inr r ↦ listed_below n xs y (All-tail (HasNumberBelow n) x xs a) r
]

-- what is found by its number is one of the list
pub found_has : {A : Type 0} (P : A → Type 0) (xs : List A) (i : ℕ) (x : A) → All P xs → slice_get xs i ≡ Some x → P x
found_has P [] i x a e = absurd (cc)
found_has P (y ∷ ys) zero x a e = subst P (same_thing e) (All-head P y ys a)
  where
    same_thing : Some y ≡ Some x → y ≡ x
    same_thing h = cc
found_has P (y ∷ ys) (suc i) x a e = found_has P ys i x (All-tail P y ys a) e

-- ---- two parts of what is visible

pub local_below : (n : ℕ) (c : Context) → VisibleBelow n c → (x : ℕ) → is_some (c.local x) ≡ true → x < n
local_below n c v x e = v x (or_left (is_some (c.local x)) (known c.group x) e)

pub group_below : (n : ℕ) (c : Context) → VisibleBelow n c → (g : ℕ) → known c.group g ≡ true → g < n
group_below n c v g e = v g (or_right (is_some (c.local g)) (known c.group g) e)

both_below : (n : ℕ) (c : Context) → ((x : ℕ) → is_some (c.local x) ≡ true → x < n)
    → ((g : ℕ) → known c.group g ≡ true → g < n) → VisibleBelow n c
both_below n c l g x e = elim (or_cases (is_some (c.local x)) (known c.group x) e) [ inl h ↦ l x h | inr h ↦ g x h ]

-- ---- a method's start

param_below : (n : ℕ) (xs : List Param) (y : ℕ) → All (ParamNamed n) xs
    → is_some (option_map param_local (param_called xs y)) ≡ true → y < n
param_below n [] y a e = absurd (cc)
param_below n (x ∷ xs) y a e = by_name (λ h. param_below n xs y (All-tail (ParamNamed n) x xs a) h)
    (nat_eq x.name.name y) refl e
  where
    by_name : (is_some (option_map param_local (param_called xs y)) ≡ true → y < n) → (b : Bool)
        → nat_eq x.name.name y ≡ b → is_some (option_map param_local (if b then Some x else param_called xs y)) ≡ true
        → y < n
    by_name ih true q h = subst (λ (z : ℕ). z < n) (eqb-true x.name.name y q) (All-head (ParamNamed n) x xs a).1
    by_name ih false q h = ih h

start_local_below : (p : Code) (m : Definition) (n : ℕ) → this < n → All (ParamNamed n) m.params → (x : ℕ)
    → is_some (locals_at_start p m x) ≡ true → x < n
start_local_below p m n t a x e = by_name (nat_eq this x) refl e
  where
    by_name : (b : Bool) → nat_eq this x ≡ b
        → is_some (if b then option_map (me_local p m) m.me else option_map param_local (param_called m.params x))
        ≡ true → x < n
    by_name true q h = subst (λ (z : ℕ). z < n) (eqb-true this x q) t
    by_name false q h = param_below n m.params x a h

known_if : (b : Bool) (q : GroupPerm) → is_some (if b then Some q else None) ≡ true → b ≡ true
known_if true q e = refl
known_if false q e = absurd (cc)

own_below : (p : Code) (n : ℕ) → All (ClassNamed n) p.classes → (k : Option ℕ) (y : ℕ)
    → has_name (groups_of (own_kind p k)) y ≡ true → y < n
own_below p n a None y e = absurd (cc)
own_below p n a (Some k) y e = by_class (class_at p k) refl e
  where
    by_class : (o : Option Class) → class_at p k ≡ o → has_name (groups_of (given o kind.Ints kind_of_class)) y ≡ true
        → y < n
    by_class None q h = absurd (cc)
    by_class (Some c) q h = listed_below n c.groups y (found_has (ClassNamed n) p.classes k c a q).1 h

start_group_below : (p : Code) (m : Definition) (n : ℕ) → io < n → All (ClassNamed n) p.classes → AreNamed n m.groups
    → (g : ℕ) → is_some (groups_at_start p m g) ≡ true → g < n
start_group_below p m n i c a g e =
    elim (or_cases (nat_eq io g || has_name (groups_of (own_kind p m.class)) g) (has_name (bare_names m.groups) g)
    (known_if (knows p m g) (given (need_for m.needs g) group.None (λ (x : GroupNeed). permission_needed x.need)) e)) [
      | inl q ↦ elim (or_cases (nat_eq io g) (has_name (groups_of (own_kind p m.class)) g) q)
          [ inl h ↦ subst (λ (z : ℕ). z < n) (eqb-true io g h) i | inr h ↦ own_below p n c m.class g h ]
      | inr h ↦ listed_below n m.groups g a h
    ]

pub this_is_named : (p : Code) → WellShaped p → this < length p.names
this_is_named p w = subst (λ (xs : List (List ℕ)). this < length xs) (sym w.first.1) (omega (arith))

pub start_below : (p : Code) (m : Definition) → WellShaped p → MethodNamed (length p.names) m
    → VisibleBelow (length p.names) (start p m)
start_below p m w a =
    let t : this < length p.names = this_is_named p w in
    both_below (length p.names) (start p m) (start_local_below p m (length p.names) t a.params)
    (start_group_below p m (length p.names) (omega (arith, t)) w.class_names a.groups)

-- ---- judged statements

shape_there : (c : Context) (y : ℕ) → is_some (shape_of c y) ≡ is_some (c.local y)
shape_there c y = by_local (c.local y)
  where
    by_local : (o : Option Local) → is_some {T = Shape} (option_map (λ (l : Local). (l.form, l.stays)) o) ≡ is_some o
    by_local None = refl
    by_local (Some l) = refl

let_if : (n x y : ℕ) (t : Form) (s : Option Shape) (b : Bool) → nat_eq x y ≡ b → x < n → (is_some s ≡ true → y < n)
    → is_some (if b then Some (t, false) else s) ≡ true → y < n
let_if n x y t s true q l h e = subst (λ (z : ℕ). z < n) (eqb-true x y q) l
let_if n x y t s false q l h e = h e

let_below : (n : ℕ) (a : Action) (s : ℕ → Option Shape) (y : ℕ) → ActionNamed n a → (is_some (s y) ≡ true → y < n)
    → is_some (with_let a s y) ≡ true → y < n
let_below n (Declares t x e) s y a h k = let_if n x.name y (form t) (s y) (nat_eq x.name y) refl a.1 h k
let_below n _ s y a h k = h k

line_below : (n : ℕ) (a : Action) (g : ℕ) → ActionNamed n a → has_name (bare_names (group_in_line a)) g ≡ true → g < n
line_below n (Groups x) g a e = listed_below n (x ∷ []) g
    (All-cons (HasNumberBelow n) x [] a (All-nil (HasNumberBelow n))) e
line_below n _ g a e = absurd (cc)

statement_below : (p : Code) (m : Definition) (n : ℕ) (at : Spot) (a : Action) (c d : Context) → ActionNamed n a
    → VisibleBelow n c → judge_statement p m at a c ≡ Holds d → VisibleBelow n d
statement_below p m n at a c d named v h =
    let k = declares p m at a c d h in
    both_below n d (λ y e. let_below n a (shape_of c) y named (λ s. local_below n c v y (sym (shape_there c y) ∙ s))
    (ap is_some (sym (k.shape y)) ∙ shape_there d y ∙ e))
    (λ g e. elim (declared_or_same (group_in_line a) c.group d.group k.group g)
    [ inl l ↦ line_below n a g named l | inr s ↦ group_below n c v g (ap is_some (sym s) ∙ e) ])

closed_if : (b : Bool) (o : Option Local) → is_some (if b then o else None) ≡ true → b ≡ true
closed_if true o e = refl
closed_if false o e = absurd (cc)

pub below_kept : (p : Code) (m : Definition) (n : ℕ) → Kept p m (VisibleBelow n) (ActionNamed n)
below_kept p m n = record {
  flat = λ at a c d b q v h. statement_below p m n at a c d q v h;
  split = λ gs c u e v. both_below n (while_split gs c) (λ x s. local_below n c v x s)
      (λ g s. group_below n c v g (split_known gs c.group u e g s));
  lock = λ g c u e v. both_below n (while_locked g.name c) (λ x s. local_below n c v x s)
      (λ y s. group_below n c v y (lock_known g c.group u e y s));
  close = λ b c first d u s v w h e. both_below n (closed c d)
      (λ x k. local_below n c v x (closed_if (is_some (c.local x)) (d.local x) k)) (λ g k. group_below n c v g k);
}

-- ---- uses

seen_below : (n : ℕ) (c : Context) (r : Resource) (l : Mode) → VisibleBelow n c → is_allowed c r l ≡ true
    → name_of_resource r < n
seen_below n c (resource.Local x) l v e = local_below n c v x (first_true (is_some (c.local x)) (is_of_local l) e)
  where
    first_true : (a b : Bool) → (a && b) ≡ true → a ≡ true
    first_true true b e = refl
    first_true false b e = absurd (cc)
seen_below n c (resource.Group g) l v e = group_below n c v g (is_there (c.group g) e)
  where
    is_there : (o : Option GroupPerm) → given o false (λ q. group_allows q l) ≡ true → is_some o ≡ true
    is_there None e = absurd (cc)
    is_there (Some q) e = refl

used_below : (p : Code) (n : ℕ) (x : Opened) → Has p (VisibleBelow n) x → NamesBelow n (scene_uses p x.1)
used_below p n x has i r l e = by_action (statement_at x.1.lines i) refl e
  where
    passed_uses : (a : Action) (o : Option Context) → Passed p x.1.method (VisibleBelow n) a o
        → of_found o (statement_uses p x.1.method a) r ≡ Some l → name_of_resource r < n
    passed_uses a o k u =
        let s : Option Context = o
        in seen_below n k.place.after r l k.after
        (uses_are_allowed p x.1.method k.place.at a k.place.before k.place.after r l k.place.judged
        (ap (λ (z : Option Context). of_found z (statement_uses p x.1.method a) r) (sym k.place.is) ∙ u))

    by_action : (o : Option Action) → statement_at x.1.lines i ≡ o
        → of_found o (λ a. of_found (context_at p x.1.method x.1.lines x.1.start i) (statement_uses p x.1.method a)) r
        ≡ Some l → name_of_resource r < n
    by_action None q u = absurd (cc)
    by_action (Some a) q u = passed_uses a (context_at p x.1.method x.1.lines x.1.start i) (has.passed i a q) u

block_below : (p : Code) (x : Opened) → Has p (VisibleBelow (length p.names)) x → IsBelow p x
block_below p x has =
    let used : NamesBelow (length p.names) (scene_uses p x.1) = used_below p (length p.names) x has in
    record { visible = has.each; used = used; graph = preds_are_edges (length p.names) (scene_uses p x.1) used }

pub names_are_below : NamesAreBelow
names_are_below p w acc n m e =
    let named : MethodNamed (length p.names) m = found_has (MethodNamed (length p.names)) p.methods n m w.method_names
    e in
    let j = method_judged p m acc (n, e) in
    let k = kept_everywhere p m (VisibleBelow (length p.names)) (ActionNamed (length p.names))
    (below_kept p m (length p.names)) j.0 named.body (start_below p m w named) j.1 in (
      All-weaker (Has p (VisibleBelow (length p.names))) (IsBelow p) (block_below p) (all_scenes p m) k.0,
      All-weaker
          (Has p (VisibleBelow (length p.names))) (IsBelow p) (block_below p) (scenes p m) k.1,
    )
