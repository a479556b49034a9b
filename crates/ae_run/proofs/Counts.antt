-- Counting in lists of numbers.
use Rattle.std.proofs.Common.{◌≡◌, ◌≢◌, ◌<◌, ◌≤◌, ◌+◌, inl, inr, ℕ, suc, nat_eq, if◌then◌else◌, Bool, true, false}
use Rattle.std.proofs.Common.{List, [], ◌∷◌, length, get_or, count_by, Contains, refl, ap, sym, ◌∙◌, arith, subst}
use Rattle.std.proofs.lemmas.List.Sums.{sum_by-cons, get_or-le-sum_by}
use Rattle.std.proofs.lemmas.Bool.{cases_eq, ne_eqb}
use Rattle.ae_rules.specs.Edges.{BlockUses, IsRising, Preds}
use Rattle.ae_graph.specs.Graph.{Graph, preds_in, AreSuccs}
use Rattle.ae_text.specs.Numbers.{times}
use Rattle.ae_run.proofs.from_text.Basics.{number_is_itself}

abbrev unit : Bool → ℕ
unit b = if b then 1 else 0

pub count-cons : (p : ℕ → Bool) (x : ℕ) (xs : List ℕ) → count_by p (x ∷ xs) ≡ (if p x then 1 else 0) + count_by p xs
count-cons p x xs = sum_by-cons (λ y. if p y then 1 else 0) x xs

-- none passes that stands in a list in which none is counted
pub none_counted : (p : ℕ → Bool) (xs : List ℕ) (i : ℕ) → count_by p xs ≡ 0 → Contains xs i → p i ≡ false
none_counted p xs i e (k, l, h) =
    let m : unit (p (get_or xs k i)) ≤ count_by p xs = get_or-le-sum_by (λ y. if p y then 1 else 0) xs k i l in
    let n : unit (p i) ≤ 0 = subst (λ (x : ℕ). unit (p x) ≤ 0) h (omega (arith, m, e)) in
    unit_zero (p i) n where
      unit_zero : (b : Bool) → unit b ≤ 0 → b ≡ false
      unit_zero true h = absurd (omega arith)
      unit_zero false h = refl

pub count_none : (p : ℕ → Bool) (xs : List ℕ) → ((i : ℕ) → Contains xs i → p i ≡ false) → count_by p xs ≡ 0
count_none p [] h = refl
count_none p (x ∷ xs) h =
    let first : p x ≡ false = h x (0, omega arith, refl) in
    let rest : count_by p xs ≡ 0 = count_none p xs (λ i c. h i (c.0 + 1, omega (arith, c.1), later x xs c.0 i ∙ c.2)) in
    let c : count_by p (x ∷ xs) ≡ unit (p x) + count_by p xs = count-cons p x xs in
    let u : unit (p x) ≡ 0 = ap unit first in
    omega arith where
      later : (x : ℕ) (xs : List ℕ) (k i : ℕ) → get_or (x ∷ xs) (k + 1) i ≡ get_or xs k i
      later x xs k i = let e : k + 1 ≡ suc k = omega arith in ap (λ n. get_or (x ∷ xs) n i) e

pub count_all : (p : ℕ → Bool) (xs : List ℕ) → ((i : ℕ) → p i ≡ true) → count_by p xs ≡ length xs
count_all p [] h = refl
count_all p (x ∷ xs) h =
    let rest : count_by p xs ≡ length xs = count_all p xs h in
    let n : length (x ∷ xs) ≡ 1 + length xs = omega arith in
    count-cons p x xs ∙ ap (λ (b : Bool). unit b + count_by p xs) (h x) ∙ ap (λ m. 1 + m) rest ∙ sym n

-- a test that fails at one number more
pub count_change : (p q : ℕ → Bool) (j : ℕ) (xs : List ℕ) → p j ≡ true → q j ≡ false → ((k : ℕ) → k ≢ j → q k ≡ p k)
    → count_by p xs ≡ count_by q xs + times j xs
count_change p q j [] a b h = refl
count_change p q j (x ∷ xs) a b h =
    let rest : count_by p xs ≡ count_by q xs + times j xs = count_change p q j xs a b h in
    let cp = count-cons p x xs in
    let cq = count-cons q x xs in
    let ct : times j (x ∷ xs) ≡ unit (nat_eq x j) + times j xs = count-cons (λ y. nat_eq y j) x xs in
    let here : unit (p x) ≡ unit (q x) + unit (nat_eq x j) = elim (cases_eq x j) [
      | inl e ↦
          let t : nat_eq x j ≡ true = subst (λ (y : ℕ). nat_eq x y ≡ true) e (number_is_itself x) in
          let u : p x ≡ true = ap p e ∙ a in
          let v : q x ≡ false = ap q e ∙ b in
          ap unit u ∙ sym (ap (λ (b : Bool). unit b + unit (nat_eq x j)) v ∙ ap (λ (b : Bool). 0 + unit b) t)
      | inr n ↦
          let t : nat_eq x j ≡ false = ne_eqb x j n in
          let u : unit (q x) ≡ unit (p x) = ap unit (h x n) in
          let v : unit (nat_eq x j) ≡ 0 = ap unit t in
          omega arith
    ] in
    omega arith

-- ---- rising lists

not_below : (x y : ℕ) (ys : List ℕ) → IsRising (y ∷ ys) → x < y → times x (y ∷ ys) ≡ 0
not_below x y [] r l =
    let c : times x (y ∷ []) ≡ unit (nat_eq y x) + times x [] = count-cons (λ n. nat_eq n x) y [] in
    let z : times x [] ≡ 0 = refl in
    let u : unit (nat_eq y x) ≡ 0 = ap unit (ne_eqb y x (λ (e : y ≡ x). omega arith)) in
    omega arith
not_below x y (z ∷ zs) r l =
    let c : times x (y ∷ z ∷ zs) ≡ unit (nat_eq y x) + times x (z ∷ zs) = count-cons (λ n. nat_eq n x) y (z ∷ zs) in
    let u : unit (nat_eq y x) ≡ 0 = ap unit (ne_eqb y x (λ (e : y ≡ x). omega arith)) in
    let m : y < z = r.0 in
    let n : times x (z ∷ zs) ≡ 0 = not_below x z zs r.1 (omega arith) in
    omega arith

unit_most : (b : Bool) → unit b ≤ 1
unit_most true = omega arith
unit_most false = omega arith

once : (x : ℕ) (xs : List ℕ) → IsRising xs → times x xs ≤ 1
once x [] r = omega arith
once x (y ∷ []) r =
    let c : times x (y ∷ []) ≡ unit (nat_eq y x) + times x [] = count-cons (λ n. nat_eq n x) y [] in
    let z : times x [] ≡ 0 = refl in
    let m : unit (nat_eq y x) ≤ 1 = unit_most (nat_eq y x) in
    omega arith
once x (y ∷ z ∷ zs) r =
    let c : times x (y ∷ z ∷ zs) ≡ unit (nat_eq y x) + times x (z ∷ zs) = count-cons (λ n. nat_eq n x) y (z ∷ zs) in
    elim (cases_eq y x) [
      | inl e ↦
          let l : y < z = r.0 in
          let n : times x (z ∷ zs) ≡ 0 = not_below x z zs r.1 (omega arith) in
          let m : unit (nat_eq y x) ≤ 1 = unit_most (nat_eq y x) in
          omega arith
      | inr o ↦
          let u : unit (nat_eq y x) ≡ 0 = ap unit (ne_eqb y x o) in
          let m : times x (z ∷ zs) ≤ 1 = once x (z ∷ zs) r.1 in
          omega arith
    ]

stands : (x : ℕ) (xs : List ℕ) → Contains xs x → 1 ≤ times x xs
stands x xs (k, l, h) =
    let m : unit (nat_eq (get_or xs k x) x) ≤ times x xs = get_or-le-sum_by (λ y. if nat_eq y x then 1 else 0) xs k x
    l in
    let u : unit (nat_eq (get_or xs k x) x) ≡ 1 = ap (λ y. unit (nat_eq y x)) h ∙ ap unit (number_is_itself x) in
    omega arith

stands_in : (x : ℕ) (xs : List ℕ) → 1 ≤ times x xs → Contains xs x
stands_in x [] h = absurd (omega arith)
stands_in x (y ∷ ys) h =
    let c : times x (y ∷ ys) ≡ unit (nat_eq y x) + times x ys = count-cons (λ n. nat_eq n x) y ys in
    elim (cases_eq y x) [
      | inl e ↦ (0, omega arith, e)
      | inr o ↦
          let u : unit (nat_eq y x) ≡ 0 = ap unit (ne_eqb y x o) in
          let r = stands_in x ys (omega arith) in
          let n : r.0 + 1 ≡ suc r.0 = omega arith in
          (r.0 + 1, omega (arith, r.1), ap (λ k. get_or (y ∷ ys) k x) n ∙ r.2)
    ]

equal_tests : (m n : ℕ) → m ≤ 1 → n ≤ 1 → (1 ≤ m → 1 ≤ n) → (1 ≤ n → 1 ≤ m) → m ≡ n
equal_tests m n a b f g = grind (arith, f, g)

-- an edge stands once in the one list and once in the other
pub times_edges : (uses : BlockUses) (g : Graph) (i j : ℕ) (succs : List ℕ) → Preds uses j (preds_in g j)
    → AreSuccs g i succs → times i (preds_in g j) ≡ times j succs
times_edges uses g i j succs p s
    = equal_tests (times i (preds_in g j)) (times j succs) (once i (preds_in g j) p.rising) (once j succs s.rising)
    (λ h. stands j succs ((s.exact j).1 (stands_in i (preds_in g j) h)))
    (λ h. stands i (preds_in g j) ((s.exact j).0 (stands_in j succs h)))

pub no_edges : (g : Graph) (i j : ℕ) (succs : List ℕ) → preds_in g j ≡ [] → AreSuccs g i succs → times j succs ≡ 0
no_edges g i j succs e s = count_none (λ n. nat_eq n j) succs (λ k c. elim (cases_eq k j) [
  | inl q ↦
      let h : Contains (preds_in g j) i = (s.exact j).0 (subst (λ (x : ℕ). Contains succs x) q c) in
      let n : 1 ≤ times i (preds_in g j) = stands i (preds_in g j) h in
      let z : times i (preds_in g j) ≡ 0 = ap (times i) e in
      absurd (omega arith)
  | inr o ↦ ne_eqb k j o
])
