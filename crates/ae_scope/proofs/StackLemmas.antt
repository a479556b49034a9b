-- A block's end, and what is compared after it.
use Rattle.std.proofs.Common.{◌≡◌, ◌⊎◌, inl, inr, ℕ, ◌<◌, ◌≤◌, zero, suc, nat_eq, if◌then◌else◌, Bool, true}
use Rattle.std.proofs.Common.{false, ◌||◌, not, ◌++◌, ◌∷◌, [], List, length, take, drop, map, Option}
use Rattle.std.proofs.Common.{Some, None, refl, sym, ap, subst, ◌∙◌, arith}
use mathlib.Core.Path.{fun_ext}
use Rattle.std.specs.List.{slice_get}
use Rattle.std.specs.Option.{is_some, option_map}
use Rattle.std.proofs.Math.Seq.{take-length}
use Rattle.std.proofs.lemmas.List.{length-take, take_all, take-append-drop, length-map, get_or_past}
use Rattle.std.proofs.lemmas.Bool.{cases_eq, cases_lt}
use Rattle.std.proofs.lemmas.Option.{slice_get-map}
use Rattle.ae_rules.specs.declared.held.Held.{Held}
use Rattle.ae_rules.specs.declared.held.Held.TheVariants as held
use Rattle.ae_rules.specs.declared.held.GroupPerm.{GroupPerm}
use Rattle.ae_rules.specs.Context.{Local, Context, same_held, held_in, all_below, hold_alike, closed}
use Rattle.ae_rules.specs.Verdict.{given}
use Rattle.ae_tree.specs.Plain.{Code}
use Rattle.ae_scope.proofs.from_text.Basics.{first_of_both, second_of_both}
use Rattle.ae_scope.proofs.from_rules.PredLemmas.{all_at}
use Rattle.ae_scope.proofs.from_rules.ShapeLemmas.{same_held_is, held_itself}
use Rattle.ae_scope.specs.declared.slot.Slot.{Slot}
use Rattle.ae_scope.specs.declared.slot.Change.{Change}
use Rattle.ae_scope.specs.declared.slot.GroupChange.{GroupChange}
use Rattle.ae_scope.specs.declared.slot.Mark.{Mark}
use Rattle.ae_scope.specs.declared.scope.Scope.{Scope}
use Rattle.ae_scope.specs.Slots.{names, place_in, Tied, local_of, local_in, hold_at, held_at, rewound, now_held}
use Rattle.ae_scope.specs.Slots.{all_same}
use Rattle.ae_scope.specs.Scope.{context_of}
use Rattle.ae_scope.specs.Trail.{groups_before}
use Rattle.ae_scope.specs.Grows.{Grows, Ends, Marks, before}
use Rattle.ae_scope.proofs.SlotLemmas.{met, held_past}
use Rattle.ae_scope.proofs.ChangeLemmas.{names_rewound, take_rewound}
use Rattle.ae_scope.proofs.ContextLemmas.{same_context, groups_in}
use Rattle.ae_scope.proofs.GrowLemmas.{groups_stayed}

-- ---- the stack cut

-- where the names are alike, the same names are there
pub there : (xs ys : List Slot) (x : ℕ) → names xs ≡ names ys → is_some (local_in xs x) ≡ is_some (local_in ys x)
there [] [] x e = refl
there [] (r ∷ ys) x e = absurd (cc)
there (s ∷ xs) [] x e = absurd (cc)
there (s ∷ xs) (r ∷ ys) x e = by_name (there xs ys x (cc)) (nat_eq s.name x) refl (let n : s.name ≡ r.name = cc in n)
  where
    by_name : is_some (local_in xs x) ≡ is_some (local_in ys x) → (b : Bool) → nat_eq s.name x ≡ b → s.name ≡ r.name
        → is_some (local_in (s ∷ xs) x) ≡ is_some (local_in (r ∷ ys) x)
    by_name ih true q n = let m : nat_eq r.name x ≡ true = ap (λ (z : ℕ). nat_eq z x) (sym n) ∙ q in rw (q, m) refl
    by_name ih false q n = let m : nat_eq r.name x ≡ false = ap (λ (z : ℕ). nat_eq z x) (sym n) ∙ q in rw (q, m) ih

-- the first part of a stack
front : (xs ys : List Slot) (x : ℕ) → (if is_some (local_in xs x) then local_in (xs ++ ys) x else None) ≡ local_in xs x
front [] ys x = refl
front (s ∷ xs) ys x = by_name (front xs ys x) (nat_eq s.name x) refl
  where
    by_name : (if is_some (local_in xs x) then local_in (xs ++ ys) x else None) ≡ local_in xs x → (b : Bool)
        → nat_eq s.name x ≡ b → (if is_some (local_in (s ∷ xs) x) then local_in (s ∷ xs ++ ys) x else None)
        ≡ local_in (s ∷ xs) x
    by_name ih true q = rw q refl
    by_name ih false q = rw q ih

cut_at : (xs ys : List Slot) (n : ℕ) (x : ℕ) → names xs ≡ names (take n ys)
    → (if is_some (local_in xs x) then local_in ys x else None) ≡ local_in (take n ys) x
cut_at xs ys n x e =
    ap (λ (b : Bool). if b then local_in ys x else None) (there xs (take n ys) x e)
    ∙ ap (λ (zs : List Slot). if is_some (local_in (take n ys) x) then local_in zs x else None)
    (sym (take-append-drop n ys))
    ∙ front (take n ys) (drop n ys) x

grown_names : (s t : Scope) → Grows s t → names s.locals.items ≡ names (take (length s.locals.items) t.locals.items)
grown_names s t g =
    ap names (sym g.back ∙ take_rewound (length s.locals.items)
    (drop (length s.trail.items) t.trail.items) t.locals.items)
    ∙ names_rewound (drop (length s.trail.items) t.trail.items) (take (length s.locals.items) t.locals.items)

-- at a block's end the first of the locals stay
locals_ended : (s t u : Scope) (mark : Mark) → Marks s mark → Ends mark t u
    → u.locals.items ≡ take (length s.locals.items) t.locals.items
locals_ended s t u mark m e = e.locals ∙ ap (λ (n : ℕ). take n t.locals.items) m.locals

-- at a block's end the groups are as they were
pub groups_ended : (s t u : Scope) (mark : Mark) → Marks s mark → Grows s t → Ends mark t u
    → u.groups.perms.items ≡ s.groups.perms.items
groups_ended s t u mark m g e =
    e.groups ∙ ap (λ (n : ℕ). groups_before (drop n t.group_trail.items) t.groups.perms.items) m.groups ∙ g.groups

-- at a block's end the changes of groups are as they were
pub group_trail_ended : (s t u : Scope) (mark : Mark) → Marks s mark → Grows s t → Ends mark t u
    → u.group_trail.items ≡ s.group_trail.items
group_trail_ended s t u mark m g e =
    e.group_trail ∙ ap (λ (n : ℕ). take n t.group_trail.items) m.groups ∙ g.group_trail

-- a block ends: what is held of the locals from outside stays, and the groups are as outside
pub ended : (s t u : Scope) (mark : Mark) → Marks s mark → Grows s t → Ends mark t u
    → context_of u ≡ closed (context_of s) (context_of t)
ended s t u mark m g e = same_context (context_of u) (closed (context_of s) (context_of t))
    (sym (fun_ext (λ x. cut_at s.locals.items t.locals.items (length s.locals.items) x (grown_names s t g)
    ∙ ap (λ (zs : List Slot). local_in zs x) (sym (locals_ended s t u mark m e)))))
    (ap groups_in (groups_ended s t u mark m g e))

pub grown_longer : (s t : Scope) → Grows s t → length s.locals.items ≤ length t.locals.items
grown_longer s t g =
    let e : length (names s.locals.items) ≡ length (names (take (length s.locals.items) t.locals.items)) =
    ap length (grown_names s t g) in
    let a : length (names s.locals.items) ≡ length s.locals.items = length-map s.locals.items (λ (r : Slot). r.name) in
    let b : length (names (take (length s.locals.items) t.locals.items))
    ≡ length (take (length s.locals.items) t.locals.items) =
    length-map (take (length s.locals.items) t.locals.items) (λ (r : Slot). r.name) in
    omega (arith, length-take (length s.locals.items) t.locals.items)

-- after a block's end there are as many locals as before it
pub length_ended : (s t u : Scope) (mark : Mark) → Marks s mark → Grows s t → Ends mark t u
    → length u.locals.items ≡ length s.locals.items
length_ended s t u mark m g e =
    let l : length s.locals.items ≤ length t.locals.items = grown_longer s t g in
    omega (arith, ap length (locals_ended s t u mark m e), length-take (length s.locals.items) t.locals.items)

-- what is left at a block's end grew out of what was before it
pub grows_cut : (s t u : Scope) (mark : Mark) → Marks s mark → Grows s t → Ends mark t u → Grows s u
grows_cut s t u mark m g e =
    let n = length s.locals.items in
    let cs = drop (length s.trail.items) t.trail.items in
    let l : u.locals.items ≡ take n t.locals.items = locals_ended s t u mark m e in
    let k : u.group_trail.items ≡ s.group_trail.items = group_trail_ended s t u mark m g e in
    record {
      trail = ap (take (length s.trail.items)) e.trail ∙ g.trail;
      back = ap (λ (v : List Change). take n (rewound (drop (length s.trail.items) v) u.locals.items)) e.trail
          ∙ take_rewound n cs u.locals.items
          ∙ ap (λ (ys : List Slot). rewound cs (take n ys)) l
          ∙ ap (rewound cs) (take_all n (take n t.locals.items) (omega (arith, length-take n t.locals.items)))
          ∙ sym (take_rewound n cs t.locals.items) ∙ g.back;
      group_trail = ap (take (length s.group_trail.items)) k ∙ take-length s.group_trail.items;
      groups = groups_stayed s u (groups_ended s t u mark m g e) k;
      table = e.table ∙ g.table;
    }

-- ---- the locals that changed are compared

pub hold_other : (xs : List Slot) (i j : ℕ) (h : Held) → (i ≡ j → ⊥) → held_at (hold_at xs i h) j ≡ held_at xs j
hold_other [] i j h n = refl
hold_other (x ∷ xs) zero zero h n = absurd (n refl)
hold_other (x ∷ xs) zero (suc j) h n = refl
hold_other (x ∷ xs) (suc i) zero h n = refl
hold_other (x ∷ xs) (suc i) (suc j) h n = hold_other xs i j h (λ e. n (ap suc e))

-- each local is as it was, or was compared
pub kept_or_compared : (cs : List Change) (xs ys : List Slot) (i : ℕ) → all_same (now_held cs xs) ys ≡ true
    → (held_at (rewound cs xs) i ≡ held_at xs i) ⊎ (held_at ys i ≡ held_at xs i)
kept_or_compared [] xs ys i e = inl refl
kept_or_compared (c ∷ cs) xs ys i e = elim (cases_eq c.slot i) [
  | inl q ↦ inr (let f : held_at xs c.slot ≡ held_at ys c.slot =
      same_held_is (held_at xs c.slot) (held_at ys c.slot) (first_of_both (same_held (held_at xs c.slot) (held_at ys c.slot))
      (all_same (now_held cs xs) ys) e) in
      ap (held_at ys) (sym q) ∙ sym f ∙ ap (held_at xs) q)
  | inr n ↦ elim (kept_or_compared cs xs ys i (second_of_both (same_held (held_at xs c.slot) (held_at ys c.slot))
      (all_same (now_held cs xs) ys) e)) [
        | inl f ↦ inl (hold_other (rewound cs xs) c.slot i c.held n ∙ f)
        | inr f ↦ inr f
      ]
]

abbrev pub bare : Slot → Slot
bare s = record s { held = held.None }

pub bare_hold : (xs : List Slot) (i : ℕ) (h : Held) → map bare (hold_at xs i h) ≡ map bare xs
bare_hold [] i h = refl
bare_hold (x ∷ xs) zero h = refl
bare_hold (x ∷ xs) (suc i) h = ap (λ (ys : List Slot). bare x ∷ ys) (bare_hold xs i h)

pub bare_rewound : (cs : List Change) (xs : List Slot) → map bare (rewound cs xs) ≡ map bare xs
bare_rewound [] xs = refl
bare_rewound (c ∷ cs) xs = bare_hold (rewound cs xs) c.slot c.held ∙ bare_rewound cs xs

abbrev first_of_all : List Slot → Slot → Slot
first_of_all [] d = d
first_of_all (x ∷ xs) d = x

pub same_stack : (xs ys : List Slot) → map bare xs ≡ map bare ys → ((i : ℕ) → held_at xs i ≡ held_at ys i) → xs ≡ ys
same_stack [] [] e h = refl
same_stack [] (y ∷ ys) e h = absurd (cc)
same_stack (x ∷ xs) [] e h = absurd (cc)
same_stack (x ∷ xs) (y ∷ ys) e h =
    let b : bare x ≡ bare y = cc in
    let r : map bare xs ≡ map bare ys = cc in
    let rest : xs ≡ ys = same_stack xs ys r (λ i. h (suc i)) in
    let z : x.held ≡ y.held = h 0 in
    let f : x ≡ y = λ i. record { name = (b i).name; form = (b i).form; held = z i; stays = (b i).stays } in
    cc

-- where what changed is again as it was, nothing is changed
pub unchanged : (cs : List Change) (xs : List Slot) → all_same (now_held cs xs) (rewound cs xs) ≡ true
    → rewound cs xs ≡ xs
unchanged cs xs e = same_stack (rewound cs xs) xs (bare_rewound cs xs)
    (λ i. elim (kept_or_compared cs xs (rewound cs xs) i e) [ inl f ↦ f | inr f ↦ f ])

-- ---- the comparison by names

all_below_all : (n : ℕ) (test : ℕ → Bool) → ((x : ℕ) → test x ≡ true) → all_below n test ≡ true
all_below_all zero test h = refl
all_below_all (suc n) test h = rw (h n) (all_below_all n test h)

pub alike_itself : (p : Code) (o c : Context) → hold_alike p o c c ≡ true
alike_itself p o c = all_below_all (length p.names) (λ (x : ℕ). not (is_some (o.local x)) || same_held (held_in c x)
    (held_in c x)) (λ x. or_alike (not (is_some (o.local x))) (same_held (held_in c x) (held_in c x))
    (held_itself (held_in c x)))
  where
    or_alike : (a b : Bool) → b ≡ true → (a || b) ≡ true
    or_alike true b e = refl
    or_alike false b e = e

pub got : (xs : List Slot) (i : ℕ) → i < length xs → (s : Slot) × (slice_get xs i ≡ Some s) × (held_at xs i ≡ s.held)
got [] i l = absurd (omega arith)
got (x ∷ xs) zero l = (x, refl, refl)
got (x ∷ xs) (suc i) l = got xs i (omega (arith, l))

pub each_same : (cs : List Change) (xs ys : List Slot) → ((i : ℕ) → same_held (held_at xs i) (held_at ys i) ≡ true)
    → all_same (now_held cs xs) ys ≡ true
each_same [] xs ys h = refl
each_same (c ∷ cs) xs ys h = rw (h c.slot) (each_same cs xs ys h)

-- what the test of a name says of its place
test_says : (b : Bool) (l m : Option Local) (s r : Slot) → l ≡ Some (local_of s) → m ≡ Some (local_of r)
    → (not (is_some m) || same_held (given l held.None (λ (k : Local). k.held))
    (given m held.None (λ (k : Local). k.held))) ≡ true → same_held s.held r.held ≡ true
test_says b l m s r e f t = (rw (e, f) at t)

at_place : (p : Code) (at : List (Option ℕ)) (xs ys : List Slot) (gs : ℕ → Option GroupPerm) → Tied at (names xs)
    → names ys ≡ names xs → length at ≤ length p.names
    → hold_alike p (record { local = local_in ys; group = gs }) (record { local = local_in xs; group = gs })
    (record { local = local_in ys; group = gs }) ≡ true
    → (i : ℕ) → same_held (held_at xs i) (held_at ys i) ≡ true
at_place p at xs ys gs t n w h i = elim (cases_lt i (length xs)) [
  | inr l ↦ (let a : held_at xs i ≡ held.None = held_past xs i l in
      let m : length ys ≡ length xs = sym (length-map ys (λ (r : Slot). r.name)) ∙ ap length n
      ∙ length-map xs (λ (r : Slot). r.name) in
      let b : held_at ys i ≡ held.None = held_past ys i (omega arith) in
      rw (a, b) refl)
  | inl l ↦ here l
]
  where
    here : i < length xs → same_held (held_at xs i) (held_at ys i) ≡ true
    here l =
        let m : length ys ≡ length xs = sym (length-map ys (λ (r : Slot). r.name)) ∙ ap length n
        ∙ length-map xs (λ (r : Slot). r.name) in
        let k : i < length ys = omega arith in
        let s = got xs i l in
        let r = got ys i k in
        let x : ℕ = s.0.name in
        let named : slice_get (names xs) i ≡ Some x = slice_get-map (λ (q : Slot). q.name) xs i
        ∙ ap (option_map (λ (q : Slot). q.name)) s.1 in
        let o : place_in at x ≡ Some i = (t x i).1 named in
        let u : Tied at (names ys) = subst (Tied at) (sym n) t in
        let f : local_in xs x ≡ Some (local_of s.0) = met at xs x i t o ∙ ap (option_map local_of) s.1 in
        let g : local_in ys x ≡ Some (local_of r.0) = met at ys x i u o ∙ ap (option_map local_of) r.1 in
        let inside : x < length p.names = elim (cases_lt x (length at)) [
          | inl v ↦ omega
              (arith, v, w)
          | inr v ↦ absurd (let z : None ≡ Some i = sym (get_or_past at x None v) ∙ o in cc)
        ] in
        let test : (not (is_some (local_in ys x)) || same_held
        (given (local_in xs x) held.None (λ (q : Local). q.held))
        (given (local_in ys x) held.None (λ (q : Local). q.held))) ≡ true =
        all_at (length p.names) (λ (y : ℕ). not (is_some (local_in ys y)) || same_held
        (given (local_in xs y) held.None (λ (q : Local). q.held))
        (given (local_in ys y) held.None (λ (q : Local). q.held))) x h inside in
        let z : same_held s.0.held r.0.held ≡ true = test_says true (local_in xs x) (local_in ys x) s.0 r.0 f g test in
        rw (s.2, r.2) z

abbrev pub stack : List Slot → (ℕ → Option GroupPerm) → Context
stack xs gs = record { local = local_in xs; group = gs }

compared_stacks : (p : Code) (at : List (Option ℕ)) (cs : List Change) (xs : List Slot) (gs : ℕ → Option GroupPerm)
    → Tied at (names xs) → length at ≤ length p.names
    → hold_alike p (stack (rewound cs xs) gs) (stack xs gs) (stack (rewound cs xs) gs)
    ≡ all_same (now_held cs xs) (rewound cs xs)
compared_stacks p at cs xs gs t w = by_answer (all_same (now_held cs xs) (rewound cs xs)) refl
  where
    by_names : (b : Bool) → hold_alike p (stack (rewound cs xs) gs) (stack xs gs) (stack (rewound cs xs) gs) ≡ b
        → all_same (now_held cs xs) (rewound cs xs) ≡ false → b ≡ false
    by_names false g e = refl
    by_names true g e = absurd (let z : all_same (now_held cs xs) (rewound cs xs) ≡ true =
        each_same cs xs (rewound cs xs) (at_place p at xs (rewound cs xs) gs t (names_rewound cs xs) w g) in
        let y : true ≡ false = sym z ∙ e in cc)

    by_answer : (b : Bool) → all_same (now_held cs xs) (rewound cs xs) ≡ b
        → hold_alike p (stack (rewound cs xs) gs) (stack xs gs) (stack (rewound cs xs) gs) ≡ b
    by_answer true e =
        ap (λ (ys : List Slot). hold_alike p (stack (rewound cs xs) gs) (stack xs gs) (stack ys gs))
        (unchanged cs xs e) ∙ alike_itself p (stack (rewound cs xs) gs) (stack xs gs)
    by_answer false e = by_names (hold_alike p (stack (rewound cs xs) gs) (stack xs gs)
        (stack (rewound cs xs) gs)) refl e

-- what changed is compared, and so is each name
pub compared : (p : Code) (s : Scope) (n : ℕ) → length s.at.items ≤ length p.names
    → hold_alike p (before n s) (context_of s) (before n s)
    ≡ all_same (now_held (drop n s.trail.items) s.locals.items) (rewound (drop n s.trail.items) s.locals.items)
compared p s n w = compared_stacks p s.at.items (drop n s.trail.items) s.locals.items
    (groups_in s.groups.perms.items) s.tied w

pub stack_is : (s u : Scope) → Grows s u → length u.locals.items ≡ length s.locals.items
    → rewound (drop (length s.trail.items) u.trail.items) u.locals.items ≡ s.locals.items
stack_is s u g e =
    let ys = rewound (drop (length s.trail.items) u.trail.items) u.locals.items in
    let m : length ys ≡ length u.locals.items = sym (length-map ys (λ (r : Slot). r.name))
    ∙ ap length (names_rewound (drop (length s.trail.items) u.trail.items) u.locals.items)
    ∙ length-map u.locals.items (λ (r : Slot). r.name) in
    sym (take_all (length s.locals.items) ys (omega arith)) ∙ g.back

-- where no group has changed since, the groups are the same
pub groups_are : (s u : Scope) → Grows s u → u.group_trail.items ≡ s.group_trail.items
    → u.groups.perms.items ≡ s.groups.perms.items
groups_are s u g k = sym (groups_stayed u u refl refl)
    ∙ ap (λ (cs : List GroupChange). groups_before (drop (length cs) u.group_trail.items) u.groups.perms.items) k
    ∙ g.groups

-- the context before a block is the one that its changes lead back to
pub before_is : (s u : Scope) → Grows s u → length u.locals.items ≡ length s.locals.items
    → u.group_trail.items ≡ s.group_trail.items → before (length s.trail.items) u ≡ context_of s
before_is s u g e k = same_context (before (length s.trail.items) u) (context_of s) (ap local_in (stack_is s u g e))
    (ap groups_in (groups_are s u g k))
