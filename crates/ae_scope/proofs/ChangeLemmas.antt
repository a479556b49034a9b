-- What is held, changed and undone.
use Rattle.std.proofs.Common.{◌≡◌, inl, inr, ℕ, ◌<◌, ◌≤◌, zero, suc, nat_eq, if◌then◌else◌, Bool}
use Rattle.std.proofs.Common.{true, false, List, [], ◌∷◌, ◌++◌, length, take, drop, Option, None, Some, get_or}
use Rattle.std.proofs.Common.{set, refl, sym, ap, subst, ◌∙◌, arith}
use mathlib.Core.Path.{fun_ext}
use Rattle.std.specs.List.{slice_get}
use Rattle.std.specs.Option.{option_map}
use Rattle.std.proofs.lemmas.List.{get_or-set_same, get_or-set_other, length-append, drop-append-le, get_or_past}
use Rattle.std.proofs.lemmas.List.{map_push, length-map}
use Rattle.std.proofs.lemmas.Option.{slice_get_within}
use Rattle.std.proofs.lemmas.Bool.{cases_eq, cases_lt}
use Rattle.std.proofs.lemmas.Bool.Decides.{nat_tests}
use Rattle.ae_rules.specs.declared.held.Held.{Held}
use Rattle.ae_rules.specs.Context.{Local}
use Rattle.ae_scope.specs.declared.slot.Slot.{Slot}
use Rattle.ae_scope.specs.declared.slot.Change.{Change}
use Rattle.ae_scope.specs.Slots.{names, place_in, Tied, local_in, hold_at, rewound}
use Rattle.ae_scope.proofs.SlotLemmas.{get_pushed, tied_push, no_place}

-- a write of what is held
pub set_hold : (xs : List Slot) (i : ℕ) (h : Held) (s : Slot) → i < length xs → s ≡ get_or xs i s
    → set xs i (record { name = s.name; form = s.form; held = h; stays = s.stays }) ≡ hold_at xs i h
set_hold [] i h s l e = refl
set_hold (x ∷ xs) zero h s l e = ap (λ (t : Slot). record { name = t.name; form = t.form; held = h; stays = t.stays }
    ∷ xs) e
set_hold (x ∷ xs) (suc i) h s l e = ap (λ (ys : List Slot). x ∷ ys) (set_hold xs i h s (omega (arith, l)) e)

pub names_hold : (xs : List Slot) (i : ℕ) (h : Held) → names (hold_at xs i h) ≡ names xs
names_hold [] i h = refl
names_hold (x ∷ xs) zero h = refl
names_hold (x ∷ xs) (suc i) h = ap (λ (ns : List ℕ). x.name ∷ ns) (names_hold xs i h)

-- a place past the end
pub hold_past : (xs : List Slot) (i : ℕ) (h : Held) → length xs ≤ i → hold_at xs i h ≡ xs
hold_past [] i h l = refl
hold_past (x ∷ xs) zero h l = absurd (omega (arith, l))
hold_past (x ∷ xs) (suc i) h l = ap (λ (ys : List Slot). x ∷ ys) (hold_past xs i h (omega (arith, l)))

pub take_hold : (n : ℕ) (xs : List Slot) (i : ℕ) (h : Held) → take n (hold_at xs i h) ≡ hold_at (take n xs) i h
take_hold zero xs i h = refl
take_hold (suc n) [] i h = refl
take_hold (suc n) (x ∷ xs) zero h = refl
take_hold (suc n) (x ∷ xs) (suc i) h = ap (λ (ys : List Slot). x ∷ ys) (take_hold n xs i h)

pub tied_hold : (at : List (Option ℕ)) (xs : List Slot) (i : ℕ) (h : Held) → Tied at (names xs)
    → Tied at (names (hold_at xs i h))
tied_hold at xs i h t = subst (Tied at) (sym (names_hold xs i h)) t

abbrev with : Held → Local → Local
with h l = record l { held = h }

-- what the stack is with another thing held at the one place of a name
hold_in : (xs : List Slot) (x i : ℕ) (h : Held) (y : ℕ) → slice_get (names xs) i ≡ Some x
    → ((j : ℕ) → slice_get (names xs) j ≡ Some x → j ≡ i)
    → local_in (hold_at xs i h) y ≡ (if nat_eq x y then option_map (with h) (local_in xs y) else local_in xs y)
hold_in [] x i h y e u = absurd (cc)
hold_in (s ∷ xs) x zero h y e u = by_name (nat_eq s.name y) refl (let n : s.name ≡ x = cc in n)
  where
    by_name : (b : Bool) → nat_eq s.name y ≡ b → s.name ≡ x
        → local_in (record s { held = h } ∷ xs) y ≡ (if nat_eq x y then option_map (with h)
        (local_in (s ∷ xs) y) else local_in (s ∷ xs) y)
    by_name true q n = let m : nat_eq x y ≡ true = ap (λ (z : ℕ). nat_eq z y) (sym n) ∙ q in rw (m, q) refl
    by_name false q n = let m : nat_eq x y ≡ false = ap (λ (z : ℕ). nat_eq z y) (sym n) ∙ q in rw (m, q) refl
hold_in (s ∷ xs) x (suc i) h y e u =
    by_name (hold_in xs x i h y e (λ (j : ℕ) (f : slice_get (names xs) j ≡ Some x). let g : suc j ≡ suc i =
    u (suc j) f in omega arith))
    (λ n. let g : zero ≡ suc i = u 0 (ap Some n) in omega arith) (nat_eq s.name y) refl
  where
    by_name : local_in (hold_at xs i h) y ≡ (if nat_eq x y then option_map (with h)
        (local_in xs y) else local_in xs y) → (s.name ≡ x → ⊥) → (b : Bool) → nat_eq s.name y ≡ b
        → local_in (s ∷ hold_at xs i h) y ≡ (if nat_eq x y then option_map (with h)
        (local_in (s ∷ xs) y) else local_in (s ∷ xs) y)
    by_name ih other true q = let m : nat_eq x y ≡ false = grind (arith, nat_tests, q, other) in rw (m, q) refl
    by_name ih other false q = rw q ih

pub held_in_stack : (at : List (Option ℕ)) (xs : List Slot) (x i : ℕ) (h : Held) → Tied at (names xs)
    → place_in at x ≡ Some i → local_in (hold_at xs i h)
    ≡ (λ y. if nat_eq x y then option_map (λ (l : Local). record l { held = h }) (local_in xs y) else local_in xs y)
held_in_stack at xs x i h t e = fun_ext (λ y. hold_in xs x i h y ((t x i).0 e)
    (λ (j : ℕ) (f : slice_get (names xs) j ≡ Some x). let g : Some j ≡ Some i = sym ((t x j).1 f) ∙ e in cc))

-- where there is no such local, nothing changes
none_held : (xs : List Slot) (x : ℕ) (h : Held) (y : ℕ) → local_in xs x ≡ None
    → local_in xs y ≡ (if nat_eq x y then option_map (with h) (local_in xs y) else local_in xs y)
none_held xs x h y e = by_name (nat_eq x y) refl
  where
    by_name : (b : Bool) → nat_eq x y ≡ b → local_in xs y
        ≡ (if b then option_map (with h) (local_in xs y) else local_in xs y)
    by_name true q = let n : x ≡ y = grind (arith, nat_tests, q) in let f : local_in xs y ≡ None =
        ap (local_in xs) (sym n) ∙ e in rw f refl
    by_name false q = refl

pub nothing_held : (xs : List Slot) (x : ℕ) (h : Held) → local_in xs x ≡ None
    → local_in xs ≡ (λ y. if nat_eq x y then option_map (λ (l : Local). record l { held = h })
    (local_in xs y) else local_in xs y)
nothing_held xs x h e = fun_ext (λ y. none_held xs x h y e)

-- ---- the stack cut, and changes undone

-- the last local leaves the table
pub tied_pop : (at : List (Option ℕ)) (ns : List ℕ) (x : ℕ) → Tied at (ns ++ x ∷ []) → x < length at
    → Tied (set at x None) ns
tied_pop at ns x t w = λ y i. (forth y i, back y i)
  where
    at_end : place_in at x ≡ Some (length ns)
    at_end = (t x (length ns)).1 ((get_pushed ns x (length ns) x).1 (inr (refl, refl)))

    forth : (y i : ℕ) → place_in (set at x None) y ≡ Some i → slice_get ns i ≡ Some y
    forth y i f = elim (cases_eq y x) [
      | inl s ↦ absurd (let g : None ≡ Some i = sym (get_or-set_same at x None None w)
          ∙ ap (λ (z : ℕ). place_in (set at x None) z) (sym s) ∙ f in cc)
      | inr s ↦ (let p : place_in at y ≡ Some i = sym (get_or-set_other at x y None None s) ∙ f in
          elim ((get_pushed ns x i y).0 ((t y i).0 p)) [ inl g ↦ g | inr g ↦ absurd (s (sym g.1)) ])
    ]

    back : (y i : ℕ) → slice_get ns i ≡ Some y → place_in (set at x None) y ≡ Some i
    back y i g =
        let p : place_in at y ≡ Some i = (t y i).1 ((get_pushed ns x i y).1 (inl g)) in
        let s : y ≡ x → ⊥ = λ q. (let e : Some i ≡ Some (length ns) = sym p ∙ ap (λ (z : ℕ). place_in at z) q
        ∙ at_end in let l : i ≡ length ns = cc in let m : i < length ns = slice_get_within ns i y g in
        omega arith) in
        get_or-set_other at x y None None s ∙ p

pub names_rewound : (cs : List Change) (xs : List Slot) → names (rewound cs xs) ≡ names xs
names_rewound [] xs = refl
names_rewound (c ∷ cs) xs = names_hold (rewound cs xs) c.slot c.held ∙ names_rewound cs xs

pub take_rewound : (n : ℕ) (cs : List Change) (xs : List Slot) → take n (rewound cs xs) ≡ rewound cs (take n xs)
take_rewound n [] xs = refl
take_rewound n (c ∷ cs) xs = take_hold n (rewound cs xs) c.slot c.held
    ∙ ap (λ (ys : List Slot). hold_at ys c.slot c.held) (take_rewound n cs xs)

pub rewound_append : (cs ds : List Change) (xs : List Slot) → rewound (cs ++ ds) xs ≡ rewound cs (rewound ds xs)
rewound_append [] ds xs = refl
rewound_append (c ∷ cs) ds xs = ap (λ (ys : List Slot). hold_at ys c.slot c.held) (rewound_append cs ds xs)

-- one change undone
pub undone : (ts us vs : List Change) (c : Change) (xs ys : List Slot) → ts ≡ us ++ c ∷ [] → vs ≡ us
    → ys ≡ hold_at xs c.slot c.held → (n : ℕ) → n < length ts → rewound (drop n vs) ys ≡ rewound (drop n ts) xs
undone ts us vs c xs ys e g f n l =
    let k : n ≤ length us = omega (arith, ap length e, length-append us (c ∷ [])) in
    ap (λ (v : List Change). rewound (drop n v) ys) g ∙ ap (rewound (drop n us)) f
    ∙ sym (ap (λ (v : List Change). rewound (drop n v) xs) e
    ∙ ap (λ (v : List Change). rewound v xs) (drop-append-le n us (c ∷ []) k)
    ∙ rewound_append (drop n us) (c ∷ []) xs)

-- the last name of the stack is in the table
name_in_table : (at : List (Option ℕ)) (ns : List ℕ) (x : ℕ) → Tied at (ns ++ x ∷ []) → x < length at
name_in_table at ns x t =
    let e : place_in at x ≡ Some (length ns) = (t x (length ns)).1
    ((get_pushed ns x (length ns) x).1 (inr (refl, refl))) in
    elim (cases_lt x (length at)) [
      | inl l ↦ l
      | inr m ↦ absurd (let f : None ≡ Some (length ns) =
          sym (get_or_past at x None m) ∙ e in cc)
    ]

names_pushed : (xs ys : List Slot) (s : Slot) → xs ≡ ys ++ s ∷ [] → names xs ≡ names ys ++ s.name ∷ []
names_pushed xs ys s e = ap names e ∙ map_push (λ (r : Slot). r.name) ys s

pub last_in_table : (at : List (Option ℕ)) (xs ys : List Slot) (s : Slot) → xs ≡ ys ++ s ∷ [] → Tied at (names xs)
    → s.name < length at
last_in_table at xs ys s e t = name_in_table at (names ys) s.name (subst (Tied at) (names_pushed xs ys s e) t)

pub forgotten : (at : List (Option ℕ)) (xs ys : List Slot) (s : Slot) → xs ≡ ys ++ s ∷ [] → Tied at (names xs)
    → Tied (set at s.name None) (names ys)
forgotten at xs ys s e t = tied_pop at (names ys) s.name (subst (Tied at) (names_pushed xs ys s e) t)
    (last_in_table at xs ys s e t)

-- a name more in the stack and in the table
pub tied_declared : (at : List (Option ℕ)) (xs ys : List Slot) (x n : ℕ) (s : Slot) → Tied at (names xs)
    → local_in xs x ≡ None → ys ≡ xs ++ s ∷ [] → s.name ≡ x → n ≡ length xs → x < length at
    → Tied (set at x (Some n)) (names ys)
tied_declared at xs ys x n s t a e m l w =
    let f : names ys ≡ names xs ++ x ∷ [] = names_pushed ys xs s e ∙ ap (λ (z : ℕ). names xs ++ z ∷ []) m in
    let k : n ≡ length (names xs) = l ∙ sym (length-map xs (λ (r : Slot). r.name)) in
    subst (Tied (set at x (Some n))) (sym f) (tied_push at (names xs) x n t k w (no_place at xs x t a))
