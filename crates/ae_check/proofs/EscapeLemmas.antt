-- The groups that are left in locals from outside, and those that a block declares.
use Rattle.std.proofs.Common.{◌≡◌, ◌≢◌, ◌↔◌, ◌<◌, ◌+◌, ◌⊎◌, inl, inr, refl, sym, ap, ◌∙◌, arith, ℕ}
use Rattle.std.proofs.Common.{zero, suc, nat_eq}
use Rattle.std.proofs.Common.{nat_lt, Bool, true, false, ◌&&◌, ◌||◌, not, if◌then◌else◌, List, [], ◌∷◌, length}
use Rattle.std.proofs.Common.{take, drop, get_or, Option, None, Some, eq-eqb}
use Rattle.std.specs.Prelude.{is_some, option_map, slice_get, ⊤}
use Rattle.std.specs.List.{list_any, All}
use Rattle.std.proofs.lemmas.Bool.{eqb-true, or_cases, or_left, or_right}
use Rattle.std.proofs.lemmas.Bool.Decides.{nat_tests}
use Rattle.std.proofs.lemmas.List.Folds.{list_any_more}
use Rattle.std.proofs.lemmas.Bool.{cases_eq}
use Rattle.std.proofs.lemmas.List.Elements.{All-head, All-tail, All-weaker}
use Rattle.std.proofs.lemmas.Option.{slice_get-map, same_Some}
use Rattle.std.proofs.lemmas.Bool.{ltb-true, lt-ltb}
use Rattle.ae_text.specs.declared.refusal.Rule.TheVariants as rule
use Rattle.ae_tree.specs.declared.tree.NameAt.{NameAt}
use Rattle.ae_tree.specs.Plain.{Lines, End, Next, Code, Groups}
use Rattle.ae_rules.specs.declared.held.Held.TheVariants as held
use Rattle.ae_rules.specs.Verdict.{Verdict, ◌>>◌, require, each, given}
use Rattle.ae_rules.specs.Forms.{is_unique}
use Rattle.ae_rules.specs.Groups.{known}
use Rattle.ae_rules.specs.Context.{Local, Context, held_of, same_held, held_in}
use Rattle.ae_rules.specs.Statements.{none_shared, groups_stay}
use Rattle.ae_rules.specs.BlockLaws.{may_become, groups_in_lines}
use Rattle.ae_scope.specs.declared.scope.Scope.{Scope}
use Rattle.ae_scope.specs.declared.slot.Slot.{Slot}
use Rattle.ae_scope.specs.declared.slot.Change.{Change}
use Rattle.ae_scope.specs.declared.slot.Mark.{Mark}
use Rattle.ae_scope.specs.Slots.{names, local_of, local_in, held_at, rewound, now_held}
use Rattle.ae_scope.specs.Scope.{context_of}
use Rattle.ae_scope.specs.Grows.{Grows}
use Rattle.ae_check.specs.Ready.{IsReady}
use Rattle.ae_check.specs.Blocks.{shares_outside, left_outside, is_not_left}
use Rattle.ae_check.proofs.from_text.Basics.{first_of_both, second_of_both, no_test_is_both}
use Rattle.ae_check.proofs.from_rules.ShapeLemmas.{same_held_is, is_same_held, comparisons_are_exact}
use Rattle.ae_check.proofs.from_scope.SlotLemmas.{met}
use Rattle.ae_check.proofs.from_scope.ChangeLemmas.{names_rewound, take_rewound}
use Rattle.ae_check.proofs.from_scope.StackLemmas.{hold_other, got, grown_longer}

-- ---- what is gathered

same_test : (x y : ℕ) → nat_eq x y ≡ nat_eq y x
same_test x y = by_test (nat_eq x y) refl
  where
    by_test : (b : Bool) → nat_eq x y ≡ b → b ≡ nat_eq y x
    by_test true q = sym (eq-eqb y x (sym (eqb-true x y q)))
    by_test false q = grind (arith, nat_tests)

-- one change more, by which one group more is there
pub one_group_more : (n g h i : ℕ) (xs : List Change) (d : Change) (o : Option ℕ) (s t : Bool) → i < length xs
    → shares_outside n g (get_or xs i d) ≡ given o false (nat_eq g) → o ≡ Some h
    → s ≡ list_any (shares_outside n g) (take i xs) → t ≡ (if nat_eq h g then true else s)
    → t ≡ list_any (shares_outside n g) (take (i + 1) xs)
one_group_more n g h i xs d o s t l e f a b =
    b ∙ last (nat_eq h g) (list_any (shares_outside n g) (take i xs)) (shares_outside n g (get_or xs i d)) s
    (e ∙ ap (λ (k : Option ℕ). given k false (nat_eq g)) f ∙ same_test g h) a
    ∙ sym (list_any_more (shares_outside n g) xs i d l)
  where
    last : (x u v r : Bool) → v ≡ x → r ≡ u → (if x then true else r) ≡ (u || v)
    last true true v r p q = refl
    last true false v r p q = sym p
    last false true v r p q = q
    last false false v r p q = q ∙ sym p

-- one change more, by which no group is there
pub no_group_more : (n g i : ℕ) (xs : List Change) (d : Change) (o : Option ℕ) (s t : Bool) → i < length xs
    → shares_outside n g (get_or xs i d) ≡ given o false (nat_eq g) → o ≡ None
    → s ≡ list_any (shares_outside n g) (take i xs) → t ≡ s → t ≡ list_any (shares_outside n g) (take (i + 1) xs)
no_group_more n g i xs d o s t l e f a b =
    b ∙ a ∙ no_more (list_any (shares_outside n g) (take i xs)) (shares_outside n g (get_or xs i d))
    (e ∙ ap (λ (k : Option ℕ). given k false (nat_eq g)) f)
    ∙ sym (list_any_more (shares_outside n g) xs i d l)
  where
    no_more : (x y : Bool) → y ≡ false → x ≡ (x || y)
    no_more true y q = refl
    no_more false y q = sym q

-- ---- what is left

-- what is listed is held of one of the first locals
listed_is_held : (cs : List Change) (zs : List Slot) (n g : ℕ)
    → list_any (shares_outside n g) (now_held cs zs) ≡ true → (i : ℕ) × (i < n) × (held_at zs i ≡ held.Shared g)
listed_is_held [] zs n g e = absurd (cc)
listed_is_held (c ∷ cs) zs n g e = elim (or_cases (nat_lt c.slot n && same_held (held.Shared g) (held_at zs c.slot))
    (list_any (shares_outside n g) (now_held cs zs)) e) [
      | inl q ↦ (
        c.slot,
        ltb-true c.slot n (first_of_both (nat_lt c.slot n) (same_held (held.Shared g) (held_at zs c.slot)) q),
        sym (same_held_is (held.Shared g) (held_at zs c.slot)
            (second_of_both (nat_lt c.slot n) (same_held (held.Shared g) (held_at zs c.slot)) q)),
      )
      | inr r ↦ listed_is_held cs zs n g r
    ]

both_hold : (a b : Bool) → a ≡ true → b ≡ true → (a && b) ≡ true
both_hold true b e f = f
both_hold false b e f = absurd (cc)

-- what one of the first locals holds was not changed, or is listed
unchanged_or_listed : (cs : List Change) (zs : List Slot) (n g i : ℕ) → i < n → held_at zs i ≡ held.Shared g
    → (held_at (rewound cs zs) i ≡ held_at zs i) ⊎ (list_any (shares_outside n g) (now_held cs zs) ≡ true)
unchanged_or_listed [] zs n g i l e = inl refl
unchanged_or_listed (c ∷ cs) zs n g i l e =
    let own : Bool = nat_lt c.slot n && same_held (held.Shared g) (held_at zs c.slot) in
    let rest : Bool = list_any (shares_outside n g) (now_held cs zs) in
    elim (cases_eq c.slot i) [
      | inl q ↦ inr (or_left own rest (both_hold (nat_lt c.slot n) (same_held (held.Shared g) (held_at zs c.slot))
          (lt-ltb c.slot n (omega (arith, q, l)))
          (is_same_held (held.Shared g) (held_at zs c.slot) (sym (ap (held_at zs) q ∙ e)))))
      | inr d ↦ elim (unchanged_or_listed cs zs n g i l e) [
        | inl f ↦ inl (hold_other (rewound cs zs) c.slot i c.held d ∙ f)
        | inr f ↦ inr (or_right own rest f)
      ]
    ]

-- the first of a list stay where they are
held_of_first : (zs : List Slot) (n i : ℕ) → i < n → held_at (take n zs) i ≡ held_at zs i
held_of_first [] zero i l = absurd (omega (arith, l))
held_of_first [] (suc n) i l = refl
held_of_first (z ∷ zs) zero i l = absurd (omega (arith, l))
held_of_first (z ∷ zs) (suc n) zero l = refl
held_of_first (z ∷ zs) (suc n) (suc i) l = held_of_first zs n i (omega (arith, l))

name_of_first : (zs : List Slot) (n i : ℕ) → i < n → slice_get (names (take n zs)) i ≡ slice_get (names zs) i
name_of_first [] zero i l = absurd (omega (arith, l))
name_of_first [] (suc n) i l = refl
name_of_first (z ∷ zs) zero i l = absurd (omega (arith, l))
name_of_first (z ∷ zs) (suc n) zero l = refl
name_of_first (z ∷ zs) (suc n) (suc i) l = name_of_first zs n i (omega (arith, l))

-- a local that is found has a place
place_in_stack : (xs : List Slot) (x : ℕ) (l : Local) → local_in xs x ≡ Some l
    → (i : ℕ) × (i < length xs) × (slice_get (names xs) i ≡ Some x) × (held_at xs i ≡ l.held)
place_in_stack [] x l e = absurd (cc)
place_in_stack (s ∷ xs) x l e = by_name (nat_eq s.name x) refl e (place_in_stack xs x l)
  where
    by_name : (b : Bool) → nat_eq s.name x ≡ b → (if b then Some (local_of s) else local_in xs x) ≡ Some l
        → (local_in xs x ≡ Some l → (i : ℕ) × (i < length xs) × (slice_get (names xs) i ≡ Some x)
        × (held_at xs i ≡ l.held))
        → (i : ℕ) × (i < length (s ∷ xs)) × (slice_get (names (s ∷ xs)) i ≡ Some x) × (held_at (s ∷ xs) i ≡ l.held)
    by_name true q f ih = (
      0,
      omega arith,
      ap Some (eqb-true s.name x q),
      ap (λ (k : Local). k.held)
          (same_Some (local_of s) l f),
    )
    by_name false q f ih = let k = ih f in (suc k.0, omega (arith, k.1), k.2, k.3)

-- what the local at a place holds, by its name
held_by_name : (s : Scope) (x i : ℕ) → slice_get (names s.locals.items) i ≡ Some x → i < length s.locals.items
    → (is_some ((context_of s).local x) ≡ true) × (held_in (context_of s) x ≡ held_at s.locals.items i)
held_by_name s x i e l =
    let r = got s.locals.items i l in
    let f : local_in s.locals.items x ≡ Some (local_of r.0) =
    met s.at.items s.locals.items x i s.tied ((s.tied x i).1 e) ∙ ap (option_map local_of) r.1 in (
      ap is_some f,
      ap (λ (o : Option Local). given o held.None (λ (k : Local). k.held)) f ∙ sym r.2,
    )

-- the locals from outside keep their places
same_names : (s d : Scope) (x i : ℕ) → Grows s d → i < length s.locals.items
    → slice_get (names s.locals.items) i ≡ Some x → slice_get (names d.locals.items) i ≡ Some x
same_names s d x i g l e =
    let n = length s.locals.items in
    let cs = drop (length s.trail.items) d.trail.items in
    let f : names s.locals.items ≡ names (take n d.locals.items) =
    ap names (sym g.back ∙ take_rewound n cs d.locals.items) ∙ names_rewound cs (take n d.locals.items) in
    sym (name_of_first d.locals.items n i l) ∙ ap (λ (xs : List ℕ). slice_get xs i) (sym f) ∙ e

-- what is held that is shared in a group has a known one
shared_is_known : (p : Code) (c : Context) (x g : ℕ) (l : Local) → IsReady p c → c.local x ≡ Some l
    → l.held ≡ held.Shared g → known c.group g ≡ true
shared_is_known p c x g l r e h = by_form (is_unique l.form) (r.right.holds x l e)
  where
    by_form : (b : Bool) → (if b then may_become c.group l.held else same_held (held_of l.form) l.held) ≡ true
        → known c.group g ≡ true
    by_form true q = ap (may_become c.group) (sym h) ∙ q
    by_form false q = r.forms x g l e (same_held_is (held_of l.form) l.held q ∙ h)

there_is : (o : Option Local) → is_some o ≡ true → (l : Local) × (o ≡ Some l)
there_is None e = absurd (cc)
there_is (Some l) e = (l, refl)

-- of a group that was not known before a block: a local from outside holds what is shared in it exactly where one that
-- changed does
pub left_where_listed : (p : Code) (s d : Scope) (mark : Mark) (g : ℕ) → mark.locals ≡ length s.locals.items
    → mark.changes ≡ length s.trail.items → Grows s d → IsReady p (context_of s)
    → known (context_of s).group g ≡ false
    → none_shared p (context_of s) (context_of d) g ≡ not (left_outside mark d g)
left_where_listed p s d mark g e f w r u = by_list (left_outside mark d g) refl
  where
    c : Context
    c = context_of s

    cs : List Change
    cs = drop (length s.trail.items) d.trail.items

    listed : left_outside mark d g ≡ list_any (shares_outside (length s.locals.items) g) (now_held cs d.locals.items)
    listed = ap (λ (k : ℕ). list_any (shares_outside k g) (now_held (drop mark.changes d.trail.items) d.locals.items)) e
        ∙ ap (λ (k : ℕ). list_any (shares_outside (length s.locals.items) g)
        (now_held (drop k d.trail.items) d.locals.items)) f

    exact : (none_shared p c (context_of d) g ≡ true) ↔ ((x : ℕ) → is_some (c.local x) ≡ true
        → held_in (context_of d) x ≢ held.Shared g)
    exact = (comparisons_are_exact p c r.right.visible).1 (context_of d) g

    one_is_left : (i : ℕ) → i < length s.locals.items → held_at d.locals.items i ≡ held.Shared g
        → none_shared p c (context_of d) g ≡ true → ⊥
    one_is_left i l h n =
        let q = got s.locals.items i l in
        let named : slice_get (names s.locals.items) i ≡ Some q.0.name =
        slice_get-map (λ (z : Slot). z.name) s.locals.items i ∙ ap (option_map (λ (z : Slot). z.name)) q.1 in
        let k = held_by_name s q.0.name i named l in
        let m = held_by_name d q.0.name i (same_names s d q.0.name i w l named)
        (omega (arith, l, grown_longer s d w)) in
        exact.0 n q.0.name k.0 (m.1 ∙ h)

    none_is_left : left_outside mark d g ≡ false → (x : ℕ) → is_some (c.local x) ≡ true
        → held_in (context_of d) x ≡ held.Shared g → ⊥
    none_is_left v x there h =
        let l = there_is (c.local x) there in
        let k = place_in_stack s.locals.items x l.0 l.1 in
        let m = held_by_name d x k.0 (same_names s d x k.0 w k.1 k.2) (omega (arith, k.1, grown_longer s d w)) in
        let t : held_at d.locals.items k.0 ≡ held.Shared g = sym m.1 ∙ h in
        elim (unchanged_or_listed cs d.locals.items (length s.locals.items) g k.0 k.1 t) [
          | inr q ↦ no_test_is_both (left_outside mark d g) (listed ∙ q) v
          | inl q ↦ (let z : l.0.held ≡ held.Shared g =
              sym k.3 ∙ ap (λ (ys : List Slot). held_at ys k.0) (sym w.back)
              ∙ held_of_first (rewound cs d.locals.items) (length s.locals.items) k.0 k.1 ∙ q ∙ t in
              no_test_is_both (known c.group g) (shared_is_known p c x g l.0 r l.1 z) u)
        ]

    never : (b : Bool) → none_shared p c (context_of d) g ≡ b → (none_shared p c (context_of d) g ≡ true → ⊥)
        → b ≡ false
    never true q n = absurd (n q)
    never false q n = refl

    by_list : (b : Bool) → left_outside mark d g ≡ b → none_shared p c (context_of d) g ≡ not b
    by_list true q =
        let i = listed_is_held cs d.locals.items (length s.locals.items) g (sym listed ∙ q) in
        never (none_shared p c (context_of d) g) refl (one_is_left i.0 i.1 i.2)
    by_list false q = exact.1 (none_is_left q)

-- ---- what a block declares

-- the groups that a block declares stay in it, one by one
groups_stay_one_by_one : (p : Code) (c d : Context) (b : Lines)
    → groups_stay p c d b ≡ each (λ (g : NameAt). require (none_shared p c d g.name) rule.GroupEscapes g.at)
    (groups_in_lines b)
groups_stay_one_by_one p c d End = refl
groups_stay_one_by_one p c d (Next at (Groups g) rest) =
    ap (λ (v : Verdict ⊤). require (none_shared p c d g.name) rule.GroupEscapes g.at >> v)
    (groups_stay_one_by_one p c d rest)
groups_stay_one_by_one p c d (Next at _ rest) = groups_stay_one_by_one p c d rest

each_alike : (f h : NameAt → Verdict ⊤) (xs : List NameAt) → All (λ (g : NameAt). f g ≡ h g) xs
    → each f xs ≡ each h xs
each_alike f h [] a = refl
each_alike f h (x ∷ xs) a =
    ap (λ (v : Verdict ⊤). v >> each f xs) (All-head (λ (g : NameAt). f g ≡ h g) x xs a)
    ∙ ap (λ (v : Verdict ⊤). h x >> v) (each_alike f h xs (All-tail (λ (g : NameAt). f g ≡ h g) x xs a))

-- where none of the groups that a block declares was known before it, those that are left are told by what changed
pub groups_stay_where_unlisted : (p : Code) (s d : Scope) (mark : Mark) (b : Lines)
    → mark.locals ≡ length s.locals.items → mark.changes ≡ length s.trail.items → Grows s d
    → IsReady p (context_of s) → All (λ (g : NameAt). known (context_of s).group g.name ≡ false) (groups_in_lines b)
    → groups_stay p (context_of s) (context_of d) b ≡ each (is_not_left (left_outside mark d)) (groups_in_lines b)
groups_stay_where_unlisted p s d mark b e f w r a =
    groups_stay_one_by_one p (context_of s) (context_of d) b
    ∙ each_alike (λ (g : NameAt). require (none_shared p (context_of s) (context_of d) g.name) rule.GroupEscapes g.at)
    (is_not_left (left_outside mark d)) (groups_in_lines b)
    (All-weaker (λ (g : NameAt). known (context_of s).group g.name ≡ false)
    (λ (g : NameAt). require (none_shared p (context_of s) (context_of d) g.name) rule.GroupEscapes g.at
    ≡ is_not_left (left_outside mark d) g)
    (λ g u. ap (λ (t : Bool). require t rule.GroupEscapes g.at) (left_where_listed p s d mark g.name e f w r u))
    (groups_in_lines b) a)
