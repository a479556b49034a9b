-- Lists: a last item, and how often a number stands in one.
use Rattle.std.proofs.Common.{◌≡◌, ◌≢◌, ◌<◌, ◌≤◌, ◌+◌, inl, inr, ℕ, zero, suc, nat_eq, if◌then◌else◌, Bool, true}
use Rattle.std.proofs.Common.{false, List, [], ◌∷◌, ◌++◌, length, get_or, take, set, get_or-set_same}
use Rattle.std.proofs.Common.{get_or-set_other, IsPermutation, refl, ap, sym, ◌∙◌, arith, subst}
use Rattle.std.proofs.lemmas.List.{get_or_past, get_or_default}
use Rattle.std.proofs.lemmas.List.Sums.{sum_by_more, sum_by_more_le}
use Rattle.std.proofs.lemmas.List.Sorted.{sum_by_pushed, sum_by_popped}
use Rattle.std.proofs.lemmas.Bool.{cases_eq, ne_eqb}
use Rattle.std.proofs.lemmas.Bool.Decides.{nat_tests}
use Rattle.ae_run.specs.Queue.{zero_as_one, waits_of}
use Rattle.ae_text.specs.Numbers.{times}
use Rattle.ae_run.proofs.from_text.Basics.{number_is_itself}

-- an item that is the default may be pushed
pub default_pushed : {A : Type 0} (xs : List A) (k : ℕ) (d : A) → get_or (xs ++ d ∷ []) k d ≡ get_or xs k d
default_pushed [] zero d = refl
default_pushed [] (suc k) d = refl
default_pushed (x ∷ xs) zero d = refl
default_pushed (x ∷ xs) (suc k) d = default_pushed xs k d

pub pushed_here : {A : Type 0} (xs : List A) (y d : A) → get_or (xs ++ y ∷ []) (length xs) d ≡ y
pushed_here [] y d = refl
pushed_here (x ∷ xs) y d = let e : length (x ∷ xs) ≡ suc (length xs) = omega arith in ap
    (λ n. get_or ((x ∷ xs) ++ y ∷ []) n d) e ∙ pushed_here xs y d

pub pushed_other : {A : Type 0} (xs : List A) (y d : A) (i : ℕ) → i ≢ length xs → get_or (xs ++ y ∷ []) i d
    ≡ get_or xs i d
pushed_other [] y d zero n = absurd (n refl)
pushed_other [] y d (suc i) n = refl
pushed_other (x ∷ xs) y d zero n = refl
pushed_other (x ∷ xs) y d (suc i) n = pushed_other xs y d i (λ (e : i ≡ length xs). n (omega arith))

-- ---- the queue at its beginning

pub begun_at : (ws : List ℕ) (p t u i j : ℕ) → j ≡ length ws → t ≡ zero_as_one (waits_of ws i)
    → u ≡ (if nat_eq j i then zero_as_one p else 0) + t → u ≡ zero_as_one (waits_of (ws ++ p ∷ []) i)
begun_at ws p t u i j e h k =
    elim (cases_eq i j) [
      | inl q ↦
          let w : waits_of (ws ++ p ∷ []) i ≡ p = ap (waits_of (ws ++ p ∷ [])) (q ∙ e) ∙ pushed_here ws p 1 in
          let past : length ws ≤ i = omega arith in
          let o : waits_of ws i ≡ 1 = get_or_past ws i 1 past in
          let s : nat_eq j i ≡ true = subst (λ (x : ℕ). nat_eq x i ≡ true) q (number_is_itself i) in
          let t0 : t ≡ 0 = h ∙ ap zero_as_one o in
          let v : u ≡ zero_as_one p + t = k ∙ ap (λ (b : Bool). (if b then zero_as_one p else 0) + t) s in
          let z : u ≡ zero_as_one p = omega arith in
          z ∙ ap zero_as_one (sym w)
      | inr n ↦
          let w : waits_of (ws ++ p ∷ []) i ≡ waits_of ws i = pushed_other ws p 1 i
          (λ (q : i ≡ length ws). n (q ∙ sym e)) in
          let s : nat_eq j i ≡ false = ne_eqb j i (λ q. n (sym q)) in
          let v : u ≡ 0 + t = k ∙ ap (λ (b : Bool). (if b then zero_as_one p else 0) + t) s in
          let z : u ≡ t = omega arith in
          z ∙ h ∙ ap zero_as_one (sym w)
    ]

pub began_waits : (ws : List ℕ) (p : ℕ) (want : ℕ → ℕ) (j : ℕ) → j ≡ length ws
    → ((i : ℕ) → i < j → get_or ws i 0 ≡ want i) → p ≡ want j
    → (i : ℕ) → i < j + 1 → get_or (ws ++ p ∷ []) i 0 ≡ want i
began_waits ws p want j e h q i l =
    elim (cases_eq i j) [
      | inl s ↦ ap (λ n. get_or (ws ++ p ∷ []) n 0) (s ∙ e) ∙ pushed_here ws p 0 ∙ q ∙ ap want (sym s)
      | inr n ↦ pushed_other ws p 0 i (λ (s : i ≡ length ws). n (s ∙ sym e)) ∙ h i (omega arith)
    ]

-- ---- one for which others waited went through

times_more : (xs : List ℕ) (i k : ℕ) → k < length xs → times i (take (k + 1) xs)
    ≡ times i (take k xs) + (if nat_eq (get_or xs k 0) i then 1 else 0)
times_more xs i k l = sum_by_more (λ x. if nat_eq x i then 1 else 0) xs k 0 l

-- the number at k waits for one at least
pub waits_some : (first ws xs : List ℕ) (k x : ℕ) → ((i : ℕ) → times i xs ≤ get_or first i 0) → length ws ≡ length first
    → ((i : ℕ) → waits_of ws i + times i (take k xs) ≡ waits_of first i) → k < length xs → x ≡ get_or xs k 0
    → (x < length ws) × (1 ≤ get_or ws x 0)
waits_some first ws xs k x room size waits l e =
    let s : nat_eq (get_or xs k 0) x ≡ true = subst (λ (y : ℕ). nat_eq y x ≡ true) e (number_is_itself x) in
    let m : times x (take k xs) + (if nat_eq (get_or xs k 0) x then 1 else 0) ≤ times x xs = sum_by_more_le
    (λ y. if nat_eq y x then 1 else 0) xs k 0 l in
    let n : times x (take k xs) + 1 ≤ times x xs =
    subst (λ (b : Bool). times x (take k xs) + (if b then 1 else 0) ≤ times x xs) s m in
    let r : times x xs ≤ get_or first x 0 = room x in
    let w : waits_of ws x + times x (take k xs) ≡ waits_of first x = waits x in
    grind (arith, get_or_past first x 0, get_or_default first x 0 1, get_or_default ws x 0 1)

pub released_waits : (first ws xs : List ℕ) (k x left i : ℕ) → waits_of ws i + times i (take k xs) ≡ waits_of first i
    → k < length xs → x ≡ get_or xs k 0
    → x < length ws → left + 1 ≡ waits_of ws x → waits_of (set ws x left) i + times i (take (k + 1) xs)
    ≡ waits_of first i
released_waits first ws xs k x left i waits l e b d =
    let m = times_more xs i k l in
    elim (cases_eq i x) [
      | inl q ↦
          let s : nat_eq (get_or xs k 0) i ≡ true = subst (λ (y : ℕ). nat_eq y i ≡ true) (q ∙ e) (number_is_itself i) in
          let n : times i (take (k + 1) xs) ≡ times i (take k xs) + 1 = m
          ∙ ap (λ (b : Bool). times i (take k xs) + (if b then 1 else 0)) s in
          let g : waits_of (set ws x left) i ≡ left = ap (waits_of (set ws x left)) q ∙ get_or-set_same ws x left 1 b in
          let h : waits_of ws i ≡ left + 1 = ap (waits_of ws) q ∙ sym d in
          omega arith
      | inr o ↦
          let s : nat_eq (get_or xs k 0) i ≡ false = ne_eqb (get_or xs k 0) i (λ p. o (sym p ∙ sym e)) in
          let n : times i (take (k + 1) xs) ≡ times i (take k xs) + 0 = m
          ∙ ap (λ (b : Bool). times i (take k xs) + (if b then 1 else 0)) s in
          let g : waits_of (set ws x left) i ≡ waits_of ws i = get_or-set_other ws x i left 1 o in
          omega arith
    ]

zero_of_suc : (n m : ℕ) → m + 1 ≡ n → zero_as_one n ≡ 0
zero_of_suc n m e = grind (arith, nat_tests)

pub released_ready : (ws : List ℕ) (x left i t u before zero_before : ℕ) → x < length ws → left + 1 ≡ waits_of ws x
    → t + zero_before ≡ before + zero_as_one (waits_of ws i) → u ≡ (if nat_eq x i then zero_as_one left else 0) + t
    → u + zero_before ≡ before + zero_as_one (waits_of (set ws x left) i)
released_ready ws x left i t u before zero_before b d h a =
    elim (cases_eq i x) [
      | inl q ↦
          let s : nat_eq x i ≡ true = subst (λ (y : ℕ). nat_eq y i ≡ true) q (number_is_itself i) in
          let v : u ≡ zero_as_one left + t = a ∙ ap (λ (b : Bool). (if b then zero_as_one left else 0) + t) s in
          let g : zero_as_one (waits_of (set ws x left) i) ≡ zero_as_one left = ap zero_as_one
          (ap (waits_of (set ws x left)) q ∙ get_or-set_same ws x left 1 b) in
          let z : zero_as_one (waits_of ws i) ≡ 0 = ap zero_as_one (ap (waits_of ws) q)
          ∙ zero_of_suc (waits_of ws x) left d in
          omega arith
      | inr o ↦
          let s : nat_eq x i ≡ false = ne_eqb x i (λ p. o (sym p)) in
          let v : u ≡ 0 + t = a ∙ ap (λ (b : Bool). (if b then zero_as_one left else 0) + t) s in
          let g : zero_as_one (waits_of (set ws x left) i) ≡ zero_as_one (waits_of ws i) = ap zero_as_one
          (get_or-set_other ws x i left 1 o) in
          omega arith
    ]

-- ---- heaps

pub times_pushed : (i x : ℕ) (xs ys : List ℕ) → IsPermutation (x ∷ xs) ys
    → times i ys ≡ (if nat_eq x i then 1 else 0) + times i xs
times_pushed i x xs ys h = sum_by_pushed (λ y. if nat_eq y i then 1 else 0) x xs ys h

pub times_popped : (i x : ℕ) (xs ys : List ℕ) → IsPermutation xs (x ∷ ys) → times i ys + (if nat_eq x i then 1 else 0)
    ≡ times i xs
times_popped i x xs ys h = sum_by_popped (λ y. if nat_eq y i then 1 else 0) x xs ys h
