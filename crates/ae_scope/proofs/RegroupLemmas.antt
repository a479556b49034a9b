-- Groups that are shared and held back, one after the other.
use Rattle.std.proofs.Common.{◌≡◌, ◌<◌, ◌+◌, ℕ, nat_eq, if◌then◌else◌, Bool, true, false, ◌||◌, not, List, ◌∷◌}
use Rattle.std.proofs.Common.{drop, get_or, length, Option, None, Some, refl, sym, ap, ◌∙◌}
use mathlib.Core.Path.{fun_ext}
use Rattle.std.specs.Prelude.{⊤, MatchOption}
use Rattle.std.specs.Option.{is_some}
use Rattle.std.proofs.lemmas.List.{drop_more}
use Rattle.std.proofs.lemmas.Bool.{eqb-true}
use Rattle.ae_text.specs.declared.refusal.Rule.TheVariants as rule
use Rattle.ae_tree.specs.declared.tree.NameAt.{NameAt}
use Rattle.ae_tree.specs.Form.{bare_names}
use Rattle.ae_rules.specs.declared.held.GroupPerm.{GroupPerm}
use Rattle.ae_rules.specs.declared.held.GroupPerm.TheVariants as group
use Rattle.ae_rules.specs.Verdict.{Verdict, Holds, ◌>>=◌, ◌>>◌, fine, require, given}
use Rattle.ae_rules.specs.Lookups.{has_name}
use Rattle.ae_rules.specs.Groups.{Groups, same_group_perm, group_is, known, held_back, with_group, declare}
use Rattle.ae_rules.specs.Groups.{may_lock}
use Rattle.ae_rules.specs.Context.{Context}
use Rattle.ae_rules.specs.Statements.{judge_group, while_split, while_locked}
use Rattle.ae_scope.proofs.from_groups.PermLemmas.{first_is_set}
use Rattle.ae_scope.proofs.from_groups.TurnLemmas.{first_premise_held}
use Rattle.ae_groups.specs.Contexts.{known_groups, with_permission}
use Rattle.ae_scope.specs.declared.scope.Scope.{Scope}
use Rattle.ae_scope.specs.Slots.{local_in}
use Rattle.ae_scope.specs.Scope.{context_of, with_known, with_held_back, all_held_back}
use Rattle.ae_scope.proofs.ContextLemmas.{same_context}

-- one group has another permission
pub regrouped_as_set : (s : Scope) (gs : Groups) (x : ℕ) (q : GroupPerm)
    → gs ≡ with_permission x (Some q) (known_groups s.groups)
    → record { local = local_in s.locals.items; group = gs } ≡ with_known x q (context_of s)
regrouped_as_set s gs x q e = same_context (record { local = local_in s.locals.items; group = gs })
    (with_known x q (context_of s)) refl e

-- one group more is shared
pub next_is_shared : (xs : List NameAt) (i : ℕ) (x : NameAt) (before c d : Context) → i < length xs
    → while_split xs before ≡ while_split (drop i xs) c → d ≡ with_known (get_or xs i x).name group.Shared c
    → while_split xs before ≡ while_split (drop (i + 1) xs) d
next_is_shared xs i x before c d l r e =
    let y = get_or xs i x in
    let rest = drop (i + 1) xs in
    r ∙ ap (λ (ys : List NameAt). while_split ys c) (drop_more xs i x l)
    ∙ same_context (while_split (y ∷ rest) c) (while_split rest (with_known y.name group.Shared c)) refl
    (first_is_set y.name (bare_names rest) group.Shared c.group)
    ∙ ap (while_split rest) (sym e)

-- ---- groups held back

-- the groups of a list are held back, where they are shared
abbrev pub with_these_held_back : List ℕ → Context → Context
with_these_held_back xs c = record c { group = λ g. if has_name xs g then held_back (c.group g) else c.group g }

held_back_twice : (o : Option GroupPerm) → held_back (held_back o) ≡ held_back o
held_back_twice None = refl
held_back_twice (Some group.Exclusive) = refl
held_back_twice (Some group.Shared) = refl
held_back_twice (Some group.Protected) = refl
held_back_twice (Some group.HeldBack) = refl
held_back_twice (Some group.None) = refl

-- one group is held back, and then the others are
first_held_back : (x : ℕ) (xs : List ℕ) (c : Context)
    → with_these_held_back (x ∷ xs) c ≡ with_these_held_back xs (with_held_back x c)
first_held_back x xs c = same_context (with_these_held_back (x ∷ xs) c) (with_these_held_back xs (with_held_back x c))
    refl (fun_ext (λ g. by_name (c.group g) (nat_eq x g) (has_name xs g)))
  where
    by_name : (o : Option GroupPerm) (b d : Bool) → (if b || d then held_back o else o)
        ≡ (if d then held_back (if b then held_back o else o) else if b then held_back o else o)
    by_name o true true = sym (held_back_twice o)
    by_name o true false = refl
    by_name o false true = refl
    by_name o false false = refl

-- one group more is held back
pub next_is_held_back : (xs : List ℕ) (i x : ℕ) (before c d : Context) → i < length xs
    → with_these_held_back xs before ≡ with_these_held_back (drop i xs) c → d ≡ with_held_back (get_or xs i x) c
    → with_these_held_back xs before ≡ with_these_held_back (drop (i + 1) xs) d
next_is_held_back xs i x before c d l r e =
    r ∙ ap (λ (ys : List ℕ). with_these_held_back ys c) (drop_more xs i x l)
    ∙ first_held_back (get_or xs i x) (drop (i + 1) xs) c
    ∙ ap (with_these_held_back (drop (i + 1) xs)) (sym e)

-- where the known groups are held back, every group is
pub listed_are_all : (s : Scope) → with_these_held_back s.known.items (context_of s) ≡ all_held_back (context_of s)
listed_are_all s = same_context (with_these_held_back s.known.items (context_of s)) (all_held_back (context_of s)) refl
    (fun_ext (λ g. by_list (has_name s.known.items g) ((context_of s).group g) (s.listed g)))
  where
    by_list : (b : Bool) (o : Option GroupPerm) → (is_some o ≡ true → b ≡ true)
        → (if b then held_back o else o) ≡ held_back o
    by_list true o h = refl
    by_list false None h = refl
    by_list false (Some q) h = absurd (let e : false ≡ true = h refl in cc)

shared_so : (o : Option GroupPerm) → given o false (same_group_perm group.Shared) ≡ true
    → Some group.HeldBack ≡ held_back o
shared_so None e = absurd (cc)
shared_so (Some group.Exclusive) e = absurd (cc)
shared_so (Some group.Shared) e = refl
shared_so (Some group.Protected) e = absurd (cc)
shared_so (Some group.HeldBack) e = absurd (cc)
shared_so (Some group.None) e = absurd (cc)

unshared_so : (o : Option GroupPerm) → given o false (same_group_perm group.Shared) ≡ false → o ≡ held_back o
unshared_so None e = refl
unshared_so (Some group.Exclusive) e = refl
unshared_so (Some group.Shared) e = absurd (cc)
unshared_so (Some group.Protected) e = refl
unshared_so (Some group.HeldBack) e = refl
unshared_so (Some group.None) e = refl

-- a shared group is held back
pub shared_is_held_back : (c d : Context) (g : ℕ) → group_is group.Shared c.group g ≡ true
    → d ≡ with_known g group.HeldBack c → d ≡ with_held_back g c
shared_is_held_back c d g e k = k ∙ same_context (with_known g group.HeldBack c) (with_held_back g c) refl
    (fun_ext (λ h. by_name h (nat_eq g h) refl))
  where
    by_name : (h : ℕ) (b : Bool) → nat_eq g h ≡ b
        → (if b then Some group.HeldBack else c.group h) ≡ (if b then held_back (c.group h) else c.group h)
    by_name h true q = shared_so (c.group h)
        (ap (λ (y : ℕ). group_is group.Shared c.group y) (sym (eqb-true g h q)) ∙ e)
    by_name h false q = refl

-- a group that is not shared is as it was when it is held back
pub unshared_stays : (c : Context) (g : ℕ) → group_is group.Shared c.group g ≡ false → c ≡ with_held_back g c
unshared_stays c g e = same_context c (with_held_back g c) refl
    (fun_ext (λ h. by_name h (nat_eq g h) refl))
  where
    by_name : (h : ℕ) (b : Bool) → nat_eq g h ≡ b → c.group h ≡ (if b then held_back (c.group h) else c.group h)
    by_name h true q = unshared_so (c.group h)
        (ap (λ (y : ℕ). group_is group.Shared c.group y) (sym (eqb-true g h q)) ∙ e)
    by_name h false q = refl

-- a group is protected, and then the others are held back
pub locked_then_held_back : (g : ℕ) (c : Context) → all_held_back (with_known g group.Protected c) ≡ while_locked g c
locked_then_held_back g c = same_context (all_held_back (with_known g group.Protected c)) (while_locked g c) refl
    (fun_ext (λ h. by_name (c.group h) (nat_eq g h)))
  where
    by_name : (o : Option GroupPerm) (b : Bool) → held_back (if b then Some group.Protected else o)
        ≡ (if b then Some group.Protected else held_back o)
    by_name o true = refl
    by_name o false = refl

-- a group that may be locked is known
pub locked_is_known : (gs : Groups) (g : NameAt) (t : ⊤) → may_lock gs g ≡ Holds t → known gs g.name ≡ true
locked_is_known gs g t e = first_premise_held (known gs g.name) rule.UnknownGroup g.at _ t e

-- ---- a group that is declared

-- what is not found is not there
pub found_is_none : {A : Type 0} (o : Option A) (P : Type 0) (Q : A → Type 0) → is_some o ≡ false → MatchOption o P Q → P
found_is_none None P Q e h = h
found_is_none (Some x) P Q e h = absurd (cc)

-- a group whose name is new is known, and exclusive
pub group_is_declared : (c d : Context) (g : NameAt) → c.local g.name ≡ None
    → require (not (known c.group g.name)) rule.DuplicateLocal g.at ≡ fine
    → d ≡ with_known g.name group.Exclusive c → judge_group c g ≡ Holds d
group_is_declared c d g n k e =
    ap (λ o. require (not (is_some o)) rule.DuplicateLocal g.at >> (declare g c.group >>= λ (gs : Groups).
    Holds (record c { group = gs }))) n
    ∙ ap (λ (v : Verdict ⊤). (v >> Holds (with_group g.name group.Exclusive c.group)) >>= λ (gs : Groups).
    Holds (record c { group = gs })) k
    ∙ ap Holds (sym e)
