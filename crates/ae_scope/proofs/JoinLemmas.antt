-- Two branches from one context: the second is compared with the first, and the first is what stays.
use Rattle.std.proofs.Common.{◌≡◌, ◌⊎◌, inl, inr, ℕ, ◌<◌, ◌≤◌, zero, suc, Bool, true, false, ◌&&◌, ◌||◌, not, ◌∷◌, []}
use Rattle.std.proofs.Common.{List, length, take, drop, map, Option, Some, None, refl, sym, ap}
use Rattle.std.proofs.Common.{subst, ◌∙◌, arith}
use Rattle.std.specs.List.{slice_get}
use Rattle.std.specs.Option.{is_some, option_map}
use Rattle.std.proofs.lemmas.List.{length-map, get_or_past}
use Rattle.std.proofs.lemmas.Bool.{cases_eq, cases_lt}
use Rattle.std.proofs.lemmas.Option.{slice_get-map}
use Rattle.ae_scope.proofs.StackLemmas.{stack, bare, bare_hold, bare_rewound, same_stack, stack_is, groups_are, hold_other, kept_or_compared, alike_itself, each_same, got}
use Rattle.ae_scope.proofs.from_rules.PredLemmas.{all_at}
use Rattle.ae_scope.proofs.from_rules.ShapeLemmas.{same_held_is, held_itself}
use Rattle.ae_scope.specs.declared.scope.Scope.{Scope}
use Rattle.ae_scope.specs.Scope.{context_of}
use Rattle.ae_scope.specs.Grows.{Grows}
use Rattle.ae_scope.proofs.ContextLemmas.{same_context, groups_in}
use Rattle.ae_scope.proofs.GrowLemmas.{grows_equal}
use Rattle.ae_rules.specs.Verdict.{given}
use Rattle.ae_rules.specs.declared.held.Held.{Held}
use Rattle.ae_rules.specs.declared.held.Held.TheVariants as held
use Rattle.ae_rules.specs.declared.held.GroupPerm.{GroupPerm}
use Rattle.ae_rules.specs.Context.{Local, same_held, hold_alike}
use Rattle.ae_tree.specs.Plain.{Code}
use Rattle.ae_scope.specs.declared.slot.Slot.{Slot}
use Rattle.ae_scope.specs.declared.slot.Change.{Change}
use Rattle.ae_scope.specs.Slots.{names, place_in, Tied, local_of, local_in, hold_at, held_at, rewound, now_held}
use Rattle.ae_scope.specs.Slots.{all_same, replayed}
use Rattle.ae_scope.proofs.SlotLemmas.{met, held_past}
use Rattle.ae_scope.proofs.ChangeLemmas.{names_rewound, names_hold}

hold_here : (xs : List Slot) (i : ℕ) (h : Held) → i < length xs → held_at (hold_at xs i h) i ≡ h
hold_here [] i h l = absurd (omega arith)
hold_here (x ∷ xs) zero h l = refl
hold_here (x ∷ xs) (suc i) h l = hold_here xs i h (omega (arith, l))

same_length : (xs ys : List Slot) → names xs ≡ names ys → length xs ≡ length ys
same_length xs ys e = sym (length-map xs (λ (r : Slot). r.name)) ∙ ap length e ∙ length-map ys (λ (r : Slot). r.name)

bare_replayed : (cs : List Change) (xs : List Slot) → map bare (replayed cs xs) ≡ map bare xs
bare_replayed [] xs = refl
bare_replayed (c ∷ cs) xs = bare_replayed cs (hold_at xs c.slot c.held) ∙ bare_hold xs c.slot c.held

-- a place after the replay: as it was in the first, or never changed
replay_at : (cs : List Change) (xs ys : List Slot) (i : ℕ) → length xs ≡ length ys
    → (held_at (replayed (now_held cs xs) ys) i ≡ held_at xs i)
    ⊎ ((held_at (replayed (now_held cs xs) ys) i ≡ held_at ys i) × (held_at (rewound cs xs) i ≡ held_at xs i))
replay_at [] xs ys i n = inr (refl, refl)
replay_at (c ∷ cs) xs ys i n =
    let v = held_at xs c.slot in
    let m : length xs ≡ length (hold_at ys c.slot v) = n
    ∙ sym (same_length (hold_at ys c.slot v) ys (names_hold ys c.slot v)) in
    elim (replay_at cs xs (hold_at ys c.slot v) i m) [
      | inl e ↦ inl e
      | inr e ↦ elim (cases_eq c.slot i) [
        | inr o ↦ inr (e.0 ∙ hold_other ys c.slot i v o, hold_other (rewound cs xs) c.slot i c.held o ∙ e.1)
        | inl q ↦ elim (cases_lt i (length ys)) [
          | inl l ↦ inl (e.0 ∙ ap (λ (j : ℕ). held_at (hold_at ys j (held_at xs j)) i) q
              ∙ hold_here ys i (held_at xs i) l)
          | inr l ↦ inl (held_past (replayed (now_held cs xs) (hold_at ys c.slot v)) i (past cs xs ys c.slot v i l)
              ∙ sym (held_past xs i (omega arith)))
        ]
      ]
    ]
  where
    past : (cs : List Change) (xs ys : List Slot) (j : ℕ) (v : Held) (i : ℕ) → length ys ≤ i
        → length (replayed (now_held cs xs) (hold_at ys j v)) ≤ i
    past cs xs ys j v i l =
        let zs = replayed (now_held cs xs) (hold_at ys j v) in
        let e : length zs ≡ length ys = sym (length-map zs bare)
        ∙ ap length (bare_replayed (now_held cs xs) (hold_at ys j v) ∙ bare_hold ys j v) ∙ length-map ys bare in
        omega arith

-- what was undone is done again
pub replayed_is : (cs : List Change) (xs : List Slot) → replayed (now_held cs xs) (rewound cs xs) ≡ xs
replayed_is cs xs = same_stack (replayed (now_held cs xs) (rewound cs xs)) xs
    (bare_replayed (now_held cs xs) (rewound cs xs) ∙ bare_rewound cs xs)
    (λ i. elim (replay_at cs xs (rewound cs xs) i (sym
    (same_length (rewound cs xs) xs (names_rewound cs xs)))) [ inl e ↦ e | inr e ↦ e.0 ∙ e.1 ])

-- where each changed place is alike, all is
pub joined : (cs ds : List Change) (xs ys : List Slot) → rewound cs xs ≡ rewound ds ys
    → all_same (now_held cs xs) ys ≡ true → all_same (now_held ds ys) xs ≡ true → ys ≡ xs
joined cs ds xs ys e a b = same_stack ys xs (sym (bare_rewound ds ys) ∙ ap (map bare) (sym e)
    ∙ bare_rewound cs xs) alike
  where
    alike : (i : ℕ) → held_at ys i ≡ held_at xs i
    alike i = elim (kept_or_compared cs xs ys i a) [
      | inr f ↦ f
      | inl f ↦ elim (kept_or_compared ds ys xs i b) [
        | inr g ↦ sym g
        | inl g ↦ sym g ∙ ap (λ (zs : List Slot). held_at zs i) (sym e) ∙ f
      ]
    ]

test_says : (k l m : Option Local) (q s r : Slot) → k ≡ Some (local_of q) → l ≡ Some (local_of s)
    → m ≡ Some (local_of r) → (not (is_some k) || same_held (given l held.None (λ (j : Local). j.held))
    (given m held.None (λ (j : Local). j.held))) ≡ true → same_held s.held r.held ≡ true
test_says k l m q s r d e f t = (rw (d, e, f) at t)

place_alike : (p : Code) (at : List (Option ℕ)) (os xs ys : List Slot) (gs : ℕ → Option GroupPerm)
    → Tied at (names os) → names xs ≡ names os → names ys ≡ names os → length at ≤ length p.names
    → hold_alike p (stack os gs) (stack xs gs) (stack ys gs) ≡ true → (i : ℕ)
    → same_held (held_at xs i) (held_at ys i) ≡ true
place_alike p at os xs ys gs t n m w h i = elim (cases_lt i (length os)) [
  | inr l ↦ (let a : held_at xs i ≡ held.None = held_past xs i (omega (arith, same_length xs os n)) in
      let b : held_at ys i ≡ held.None = held_past ys i (omega (arith, same_length ys os m)) in
      rw (a, b) refl)
  | inl l ↦ here l
]
  where
    here : i < length os → same_held (held_at xs i) (held_at ys i) ≡ true
    here l =
        let q = got os i l in
        let s = got xs i (omega (arith, same_length xs os n)) in
        let r = got ys i (omega (arith, same_length ys os m)) in
        let x : ℕ = q.0.name in
        let named : slice_get (names os) i ≡ Some x = slice_get-map (λ (z : Slot). z.name) os i
        ∙ ap (option_map (λ (z : Slot). z.name)) q.1 in
        let o : place_in at x ≡ Some i = (t x i).1 named in
        let d : local_in os x ≡ Some (local_of q.0) = met at os x i t o ∙ ap (option_map local_of) q.1 in
        let f : local_in xs x ≡ Some (local_of s.0) = met at xs x i (subst (Tied at) (sym n) t) o
        ∙ ap (option_map local_of) s.1 in
        let g : local_in ys x ≡ Some (local_of r.0) = met at ys x i (subst (Tied at) (sym m) t) o
        ∙ ap (option_map local_of) r.1 in
        let inside : x < length p.names = elim (cases_lt x (length at)) [
          | inl v ↦ omega
              (arith, v, w)
          | inr v ↦ absurd (let z : None ≡ Some i = sym (get_or_past at x None v) ∙ o in cc)
        ] in
        let test : (not (is_some (local_in os x)) || same_held
        (given (local_in xs x) held.None (λ (z : Local). z.held))
        (given (local_in ys x) held.None (λ (z : Local). z.held))) ≡ true =
        all_at (length p.names) (λ (y : ℕ). not (is_some (local_in os y)) || same_held
        (given (local_in xs y) held.None (λ (z : Local). z.held))
        (given (local_in ys y) held.None (λ (z : Local). z.held))) x h inside in
        let z : same_held s.0.held r.0.held ≡ true = test_says (local_in os x) (local_in xs x)
        (local_in ys x) q.0 s.0 r.0 d f g test in
        rw (s.2, r.2) z

swap_same : (a b : Held) → same_held a b ≡ true → same_held b a ≡ true
swap_same a b e = ap (λ (h : Held). same_held h a) (sym (same_held_is a b e)) ∙ held_itself a

-- the two comparisons are that of each name
pub join_compared : (p : Code) (at : List (Option ℕ)) (cs ds : List Change) (xs ys : List Slot) (gs : ℕ
    → Option GroupPerm) → Tied at (names (rewound cs xs)) → rewound cs xs ≡ rewound ds ys → length at ≤ length p.names
    → hold_alike p (stack (rewound cs xs) gs) (stack xs gs) (stack ys gs)
    ≡ (all_same (now_held cs xs) ys && all_same (now_held ds ys) xs)
join_compared p at cs ds xs ys gs t e w = by_answer (all_same (now_held cs xs) ys)
    (all_same (now_held ds ys) xs) refl refl
  where
    alike : hold_alike p (stack (rewound cs xs) gs) (stack xs gs) (stack ys gs) ≡ true → (i : ℕ)
        → same_held (held_at xs i) (held_at ys i) ≡ true
    alike h = place_alike p at (rewound cs xs) xs ys gs t (sym (names_rewound cs xs)) (sym (names_rewound ds ys)
        ∙ ap names (sym e)) w h

    never : (b : Bool) → hold_alike p (stack (rewound cs xs) gs) (stack xs gs) (stack ys gs) ≡ b
        → (hold_alike p (stack (rewound cs xs) gs) (stack xs gs) (stack ys gs) ≡ true → ⊥) → b ≡ false
    never false h n = refl
    never true h n = absurd (n h)

    by_answer : (a b : Bool) → all_same (now_held cs xs) ys ≡ a → all_same (now_held ds ys) xs ≡ b
        → hold_alike p (stack (rewound cs xs) gs) (stack xs gs) (stack ys gs) ≡ (a && b)
    by_answer true true f g = ap (λ (zs : List Slot). hold_alike p (stack (rewound cs xs) gs) (stack xs gs)
        (stack zs gs)) (joined cs ds xs ys e f g) ∙ alike_itself p (stack (rewound cs xs) gs) (stack xs gs)
    by_answer true false f g = never (hold_alike p (stack (rewound cs xs) gs) (stack xs gs) (stack ys gs)) refl
        (λ h. let z : all_same (now_held ds ys) xs ≡ true =
        each_same ds ys xs (λ i. swap_same (held_at xs i) (held_at ys i) (alike h i)) in let y : true ≡ false = sym z
        ∙ g in cc)
    by_answer false b f g = never (hold_alike p (stack (rewound cs xs) gs) (stack xs gs) (stack ys gs)) refl
        (λ h. let z : all_same (now_held cs xs) ys ≡ true = each_same cs xs ys (alike h) in let y : true ≡ false =
        sym z ∙ f in cc)

-- ---- the two branches of a choice

-- the same stack, changes and groups
pub record Alike (s r : Scope) : Type 0 where
  pub locals : r.locals.items ≡ s.locals.items
  pub trail : r.trail.items ≡ s.trail.items
  pub groups : r.groups.perms.items ≡ s.groups.perms.items
  pub group_trail : r.group_trail.items ≡ s.group_trail.items
  pub table : length r.at.items ≡ length s.at.items

pub back_to : (s u r : Scope) (n : ℕ) → n ≡ length s.trail.items → Grows s u
    → length u.locals.items ≡ length s.locals.items → r.locals.items ≡ rewound (drop n u.trail.items) u.locals.items
    → r.groups.perms.items ≡ u.groups.perms.items → length r.at.items ≡ length u.at.items
    → r.trail.items ≡ take n u.trail.items → u.group_trail.items ≡ s.group_trail.items
    → r.group_trail.items ≡ u.group_trail.items → Alike s r
back_to s u r n e g l a c d b k h = record {
  locals = a ∙ ap (λ (m : ℕ). rewound (drop m u.trail.items) u.locals.items) e ∙ stack_is s u g l;
  trail = b ∙ ap (λ (m : ℕ). take m u.trail.items) e ∙ g.trail;
  groups = c ∙ groups_are s u g k;
  group_trail = h ∙ k;
  table = d ∙ g.table;
}

pub same_scope : (s r : Scope) → Alike s r → context_of r ≡ context_of s
same_scope s r a = same_context (context_of r) (context_of s) (ap local_in a.locals) (ap groups_in a.groups)

pub grows_alike : (s r : Scope) → Alike s r → Grows s r
grows_alike s r a = grows_equal s r a.locals a.trail a.groups a.group_trail a.table
