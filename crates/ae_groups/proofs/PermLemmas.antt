-- Groups whose permissions change one after the other.
use Rattle.std.proofs.Common.{◌≡◌, ◌<◌, ◌+◌, ℕ, zero, suc, nat_eq, if◌then◌else◌, Bool, true, false, ◌||◌, List, [], ◌∷◌, drop}
use Rattle.std.proofs.Common.{get_or, length, map, Option, None, Some, refl, sym, ap, ◌∙◌}
use mathlib.Core.Path.{fun_ext}
use Rattle.std.specs.Prelude.{⊤}
use Rattle.std.specs.Option.{is_some}
use Rattle.std.proofs.lemmas.List.{drop_more, get_or_past}
use Rattle.std.proofs.lemmas.Bool.{cases_lt}
use Rattle.std.proofs.lemmas.Bool.Decides.{nat_tests}
use Rattle.std.proofs.Common.{inl, inr, arith}
use Rattle.ae_tree.specs.declared.tree.NameAt.{NameAt}
use Rattle.ae_tree.specs.declared.tree.GroupNeed.{GroupNeed}
use Rattle.ae_tree.specs.Form.{bare_names}
use Rattle.ae_tree.specs.Names.{io}
use Rattle.ae_tree.specs.Plain.{Definition, Code}
use Rattle.ae_tree.specs.WellShaped.{AreNamed}
use Rattle.ae_rules.specs.declared.held.GroupPerm.{GroupPerm}
use Rattle.ae_rules.specs.declared.held.GroupPerm.TheVariants as group
use Rattle.ae_rules.specs.Verdict.{Verdict, Holds, ◌>>◌, given}
use Rattle.ae_rules.specs.Lookups.{has_name, own_kind, groups_of as groups_of_kind}
use Rattle.ae_rules.specs.Groups.{Groups, same_group_perm, with_all, forget, held_back, may_lock}
use Rattle.ae_rules.specs.Groups.{enter_atomic, while_others_held_back}
use Rattle.ae_rules.specs.Judges.{groups_at_start}
use Rattle.ae_groups.specs.declared.context.GroupContext.{GroupContext}
use Rattle.ae_groups.specs.Contexts.{known_groups, with_permission, every_held_back, needed, with_needed, AreKnown}
use Rattle.ae_groups.specs.Contexts.{no_groups}

-- ---- one after the other

-- one group changes, and then the others do
pub first_is_set : (x : ℕ) (xs : List ℕ) (q : GroupPerm) (gs : Groups)
    → with_all (has_name (x ∷ xs)) q gs ≡ with_all (has_name xs) q (with_permission x (Some q) gs)
first_is_set x xs q gs = fun_ext (λ g. by_name g (nat_eq x g) (has_name xs g))
  where
    by_name : (g : ℕ) (b d : Bool)
        → (if b || d then Some q else gs g) ≡ (if d then Some q else if b then Some q else gs g)
    by_name g true true = refl
    by_name g true false = refl
    by_name g false true = refl
    by_name g false false = refl

-- one group more has this permission
pub next_is_set : (xs : List NameAt) (i : ℕ) (x : NameAt) (q : GroupPerm) (before gs hs : Groups) → i < length xs
    → with_all (has_name (bare_names xs)) q before ≡ with_all (has_name (bare_names (drop i xs))) q gs
    → hs ≡ with_permission (get_or xs i x).name (Some q) gs
    → with_all (has_name (bare_names xs)) q before ≡ with_all (has_name (bare_names (drop (i + 1) xs))) q hs
next_is_set xs i x q before gs hs l r e =
    r ∙ ap (λ (ys : List NameAt). with_all (has_name (bare_names ys)) q gs) (drop_more xs i x l)
    ∙ first_is_set (get_or xs i x).name (bare_names (drop (i + 1) xs)) q gs
    ∙ ap (with_all (has_name (bare_names (drop (i + 1) xs))) q) (sym e)

-- one group is forgotten, and then the others are
first_forgotten : (x : ℕ) (xs : List ℕ) (gs : Groups) → forget (x ∷ xs) gs ≡ forget xs (with_permission x None gs)
first_forgotten x xs gs = fun_ext (λ g. by_name g (nat_eq x g) (has_name xs g))
  where
    by_name : (g : ℕ) (b d : Bool) → (if b || d then None else gs g) ≡ (if d then None else if b then None else gs g)
    by_name g true true = refl
    by_name g true false = refl
    by_name g false true = refl
    by_name g false false = refl

-- one group more is forgotten
pub next_is_forgotten : (xs : List ℕ) (i : ℕ) (x : ℕ) (before gs hs : Groups) → i < length xs
    → forget xs before ≡ forget (drop i xs) gs → hs ≡ with_permission (get_or xs i x) None gs
    → forget xs before ≡ forget (drop (i + 1) xs) hs
next_is_forgotten xs i x before gs hs l r e =
    r ∙ ap (λ (ys : List ℕ). forget ys gs) (drop_more xs i x l)
    ∙ first_forgotten (get_or xs i x) (drop (i + 1) xs) gs
    ∙ ap (forget (drop (i + 1) xs)) (sym e)

-- one group becomes known, and then the others do
first_known : (ns : List GroupNeed) (x : ℕ) (xs : List ℕ) (gs : Groups)
    → with_needed ns (x ∷ xs) gs ≡ with_needed ns xs (with_permission x (Some (needed ns x)) gs)
first_known ns x xs gs = fun_ext (λ g. by_name g (nat_eq x g) refl (has_name xs g))
  where
    by_name : (g : ℕ) (b : Bool) → nat_eq x g ≡ b → (d : Bool)
        → (if b || d then Some (needed ns g) else gs g)
        ≡ (if d then Some (needed ns g) else if b then Some (needed ns x) else gs g)
    by_name g true e true = refl
    by_name g true e false = let i : x ≡ g = grind (arith, nat_tests, e) in ap (λ (z : ℕ). Some (needed ns z)) (sym i)
    by_name g false e true = refl
    by_name g false e false = refl

-- one group more is known
pub next_is_known : (ns : List GroupNeed) (xs : List NameAt) (i : ℕ) (x : NameAt) (q : GroupPerm)
    (before gs hs : Groups) → i < length xs
    → with_needed ns (bare_names xs) before ≡ with_needed ns (bare_names (drop i xs)) gs
    → q ≡ needed ns (get_or xs i x).name → hs ≡ with_permission (get_or xs i x).name (Some q) gs
    → with_needed ns (bare_names xs) before ≡ with_needed ns (bare_names (drop (i + 1) xs)) hs
next_is_known ns xs i x q before gs hs l r e s =
    let y = get_or xs i x in
    r ∙ ap (λ (ys : List NameAt). with_needed ns (bare_names ys) gs) (drop_more xs i x l)
    ∙ first_known ns y.name (bare_names (drop (i + 1) xs)) gs
    ∙ ap (with_needed ns (bare_names (drop (i + 1) xs)))
    (sym (s ∙ ap (λ (k : GroupPerm). with_permission y.name (Some k) gs) e))

-- ---- names within the table

-- a known group is within the table
pub known_is_within : (ps : List (Option GroupPerm)) (g : ℕ) → is_some (get_or ps g None) ≡ true → g < length ps
known_is_within ps g e = elim (cases_lt g (length ps)) [
  | inl l ↦ l
  | inr m ↦ absurd (let f : false ≡ true = sym (ap is_some (get_or_past ps g None m)) ∙ e in cc)
]

-- known groups are within the table
pub known_are_named : (c : GroupContext) (xs : List NameAt) → AreKnown (known_groups c) xs
    → AreNamed (length c.perms.items) xs
known_are_named c xs h = λ i d l. known_is_within c.perms.items (get_or xs i d).name (h i d l)

-- a group with a permission is known
pub permitted_is_known : (q : GroupPerm) (o : Option GroupPerm) → given o false (same_group_perm q) ≡ true
    → is_some o ≡ true
permitted_is_known q None e = absurd (cc)
permitted_is_known q (Some p) e = refl

-- ---- groups held back

-- what is found in a table whose permissions are held back
held_back_at : (ps : List (Option GroupPerm)) (g : ℕ) → get_or (map held_back ps) g None ≡ held_back (get_or ps g None)
held_back_at [] g = refl
held_back_at (p ∷ ps) zero = refl
held_back_at (p ∷ ps) (suc g) = held_back_at ps g

-- a table whose permissions are held back is one of groups that are
pub all_held_back : (c d : GroupContext) → d.perms.items ≡ map held_back c.perms.items
    → known_groups d ≡ every_held_back (known_groups c)
all_held_back c d e = fun_ext (λ g. ap (λ (ps : List (Option GroupPerm)). get_or ps g None) e
    ∙ held_back_at c.perms.items g)

-- an atomic block is entered: its group is protected, and every other shared group is held back
pub others_are_held_back : (g : NameAt) (gs hs ks : Groups) (t : ⊤) → may_lock gs g ≡ Holds t → hs ≡ every_held_back gs
    → ks ≡ with_permission g.name (Some group.Protected) hs → enter_atomic g gs ≡ Holds ks
others_are_held_back g gs hs ks t a e f =
    ap (λ (v : Verdict ⊤). v >> Holds (while_others_held_back g.name gs)) a
    ∙ ap Holds (sym (f ∙ ap (with_permission g.name (Some group.Protected)) e))

-- ---- a method's start

-- `io`, the class's groups and the method's own, one after the other, are what a method knows at its start
pub known_at_start : (p : Code) (m : Definition) (g0 g1 g2 g3 : Groups) → g0 ≡ no_groups
    → g1 ≡ with_permission io (Some (needed m.needs io)) g0
    → g2 ≡ with_needed m.needs (groups_of_kind (own_kind p m.class)) g1
    → g3 ≡ with_needed m.needs (bare_names m.groups) g2 → g3 ≡ groups_at_start p m
known_at_start p m g0 g1 g2 g3 e0 e1 e2 e3 =
    e3 ∙ ap (with_needed m.needs (bare_names m.groups)) (e2
    ∙ ap (with_needed m.needs (groups_of_kind (own_kind p m.class))) (e1
    ∙ ap (with_permission io (Some (needed m.needs io))) e0))
    ∙ fun_ext (λ g. by_group g (nat_eq io g) refl (has_name (groups_of_kind (own_kind p m.class)) g)
    (has_name (bare_names m.groups) g))
  where
    by_group : (g : ℕ) (a : Bool) → nat_eq io g ≡ a → (b d : Bool)
        → (if d then Some (needed m.needs g) else if b then Some (needed m.needs g) else
        if a then Some (needed m.needs io) else None)
        ≡ (if a || b || d then Some (needed m.needs g) else None)
    by_group g true e true true = refl
    by_group g true e true false = refl
    by_group g true e false true = refl
    by_group g true e false false =
        let j : io ≡ g = grind (arith, nat_tests, e) in ap (λ (z : ℕ). Some (needed m.needs z)) j
    by_group g false e true true = refl
    by_group g false e true false = refl
    by_group g false e false true = refl
    by_group g false e false false = refl
