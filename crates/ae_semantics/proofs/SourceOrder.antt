-- Runs that begin things in source order.
use Rattle.std.proofs.Common.{◌≡◌, ◌<◌, inl, inr, refl, ap, sym, subst, ◌∙◌, arith, ℕ, zero, suc, nat_eq, nat_lt}
use Rattle.std.proofs.Common.{Bool, true, false, ◌&&◌, ◌||◌, if◌then◌else◌, List, [], ◌∷◌, ◌++◌, map, Contains}
use Rattle.std.proofs.lemmas.List.{append_assoc, append-nil}
use Rattle.std.proofs.lemmas.List.Elements.{Contains-append_cases}
use Rattle.std.proofs.lemmas.Bool.{eqb-true, eq-eqb}
use Rattle.std.proofs.lemmas.Bool.Decides.{nat_tests}
use Rattle.ae_rules.specs.Instances.{Instance}
use Rattle.ae_rules.specs.Paths.{comes_before, later_of}
use Rattle.ae_semantics.specs.Places.{State}
use Rattle.ae_semantics.specs.Observations.{Mark, Ran, Turned, Entered, Asked, Used, Stopped, Notes}
use Rattle.ae_semantics.specs.Runs.{Run, Went, Ends, Stops, Act, and_then}
use Rattle.ae_semantics.specs.Means.{At, ran_in, turns_in, notes_of}
use Rattle.ae_semantics.specs.Report.{turn_path, last_path}
use Rattle.ae_semantics.proofs.from_text.Basics.{second_of_both, first_of_both, first_of_neither, second_of_neither}

-- ---- paths in source order

-- the one is not after the other
abbrev pub IsUpTo : Instance → Instance → Type 0
IsUpTo q r = comes_before r q ≡ false

and_then_false : (a b : Bool) → (a && b) ≡ false → a ≡ true → b ≡ false
and_then_false true b e d = e
and_then_false false b e d = absurd (cc)

neither : (a b : Bool) → a ≡ false → b ≡ false → (a || b) ≡ false
neither false b e d = d
neither true b e d = e

not_less : (k i : ℕ) → i < suc k → nat_lt k i ≡ false
not_less k i l = grind (arith, nat_tests, l)

is_least : (k i : ℕ) → nat_lt k i ≡ false → i < suc k
is_least k i e = grind (arith, nat_tests, e)

not_equal : (k i : ℕ) → i < k → nat_eq k i ≡ false
not_equal k i l = grind (arith, nat_tests, l)

is_less : (i j : ℕ) → nat_lt i j ≡ true → i < j
is_less i j e = grind (arith, nat_tests, e)

other : (a b : Bool) → a ≡ false → (a || b) ≡ true → b ≡ true
other false b e d = d
other true b e d = absurd (cc)

no_and : (a b : Bool) → b ≡ false → (a && b) ≡ false
no_and true b e = e
no_and false b e = refl

no_and_left : (a b : Bool) → a ≡ false → (a && b) ≡ false
no_and_left false b e = refl
no_and_left true b e = absurd (cc)

pub nothing_before_none : (q : Instance) → comes_before q [] ≡ false
nothing_before_none [] = refl
nothing_before_none (i ∷ q) = refl

pub up_to_itself : (q : Instance) → IsUpTo q q
up_to_itself [] = refl
up_to_itself (i ∷ q) = neither _ _ (not_less i i (omega arith)) (no_and _ _ (up_to_itself q))

-- behind the same beginning
pub same_start : (q r s : Instance) → IsUpTo r s → IsUpTo (q ++ r) (q ++ s)
same_start [] r s e = e
same_start (i ∷ q) r s e = neither _ _ (not_less i i (omega arith)) (no_and _ _ (same_start q r s e))

-- a path of one number, and those that begin with it or a later one
pub one_up_to : (i k : ℕ) (rest : Instance) → i < suc k → IsUpTo (i ∷ []) (k ∷ rest)
one_up_to i k rest l = neither _ _ (not_less k i l) (no_and _ _ (nothing_before_none rest))

pub earlier_up_to : (i k : ℕ) (r s : Instance) → i < k → IsUpTo (i ∷ r) (k ∷ s)
earlier_up_to i k r s l = neither _ _ (not_less k i (omega (arith, l))) (no_and_left _ _ (not_equal k i l))

pub by_either : {A : Type 0} (b : Bool) → (b ≡ true → A) → (b ≡ false → A) → A
by_either true f g = f refl
by_either false f g = g refl

by_number : (i j k : ℕ) (a b c : Bool) → (nat_lt j i || (nat_eq j i && a)) ≡ false → (nat_lt k j || (nat_eq k j && b))
    ≡ false → (a ≡ false → b ≡ false → c ≡ false)
    → (nat_lt k i || (nat_eq k i && c)) ≡ false
by_number i j k a b c e d h =
    let l : i < suc j = is_least j i (first_of_neither _ _ e) in
    let m : j < suc k = is_least k j (first_of_neither _ _ d) in
    neither _ _ (not_less k i (omega (arith, l, m)))
    (by_either (nat_eq k i)
    (λ q. let x : k ≡ i = eqb-true k i q in
    no_and _ _ (h (and_then_false _ _ (second_of_neither _ _ e) (eq-eqb j i (omega (arith, l, m, x))))
    (and_then_false _ _ (second_of_neither _ _ d) (eq-eqb k j (omega (arith, l, m, x))))))
    (λ q. no_and_left _ _ q))

pub up_to_up_to : (q r s : Instance) → IsUpTo q r → IsUpTo r s → IsUpTo q s
up_to_up_to [] r s e d = nothing_before_none s
up_to_up_to (i ∷ q) [] s e d = absurd (cc)
up_to_up_to (i ∷ q) (j ∷ r) [] e d = absurd (cc)
up_to_up_to (i ∷ q) (j ∷ r) (k ∷ s) e d = by_number i j k _ _ _ e d (up_to_up_to q r s)

before_not_after : (q r : Instance) → comes_before q r ≡ true → IsUpTo q r
before_not_after [] [] h = absurd (cc)
before_not_after [] (j ∷ r) h = refl
before_not_after (i ∷ q) [] h = absurd (cc)
before_not_after (i ∷ q) (j ∷ r) h = by_either (nat_lt i j)
    (λ e. earlier_up_to i j q r (is_less i j e))
    (λ e. let d : (nat_eq i j && comes_before q r) ≡ true = other (nat_lt i j) (nat_eq i j && comes_before q r) e h in
    let x : i ≡ j = eqb-true i j (first_of_both (nat_eq i j) (comes_before q r) d) in
    neither _ _ (not_less j i (omega (arith, x)))
    (no_and _ _ (before_not_after q r (second_of_both (nat_eq i j) (comes_before q r) d))))

-- neither of two is after the later one
left_up_to_later : (q a b : Instance) → IsUpTo q a → IsUpTo q (later_of a b)
left_up_to_later q a b e = by_test (comes_before a b) refl
  where
    by_test : (t : Bool) → comes_before a b ≡ t → IsUpTo q (if t then b else a)
    by_test true d = up_to_up_to q a b e (before_not_after a b d)
    by_test false d = e

right_up_to_later : (q a b : Instance) → IsUpTo q b → IsUpTo q (later_of a b)
right_up_to_later q a b e = by_test (comes_before a b) refl
  where
    by_test : (t : Bool) → comes_before a b ≡ t → IsUpTo q (if t then b else a)
    by_test true d = e
    by_test false d = up_to_up_to q b a e d

-- ---- lists in source order

abbrev pub Every : (Instance → Type 0) → List Instance → Type 0
Every P [] = Unit {0}
Every P (x ∷ xs) = P x × Every P xs

pub every_as : (P Q : Instance → Type 0) (xs : List Instance) → ((x : Instance) → P x → Q x) → Every P xs → Every Q xs
every_as P Q [] f h = tt
every_as P Q (x ∷ xs) f h = (f x h.0, every_as P Q xs f h.1)

every_append : (P : Instance → Type 0) (xs ys : List Instance) → Every P xs → Every P ys → Every P (xs ++ ys)
every_append P [] ys h k = k
every_append P (x ∷ xs) ys h k = (h.0, every_append P xs ys h.1 k)

-- none is after a later one
abbrev pub Rises : List Instance → Type 0
Rises [] = Unit {0}
Rises (x ∷ xs) = Every (IsUpTo x) xs × Rises xs

rises_append : (P Q : Instance → Type 0) (xs ys : List Instance) → ((x y : Instance) → P x → Q y → IsUpTo x y)
    → Rises xs → Every P xs → Rises ys → Every Q ys → Rises (xs ++ ys)
rises_append P Q [] ys f r h s k = s
rises_append P Q (x ∷ xs) ys f r h s k = (
  every_append (IsUpTo x) xs ys r.0 (every_as Q (IsUpTo x) ys (λ y. f x y h.0) k),
  rises_append P Q xs ys f r.1 h.1 s k,
)

-- each is up to the last one
up_to_last : (xs : List Instance) → Rises xs → Every (λ q. IsUpTo q (last_path xs)) xs
up_to_last [] r = tt
up_to_last (x ∷ []) r = (up_to_itself x, tt)
up_to_last (x ∷ y ∷ xs) r = let k = up_to_last (y ∷ xs) r.1 in (up_to_up_to x y (last_path (y ∷ xs)) r.0.0 k.0, k)

every_at : (P : Instance → Type 0) (xs : List Instance) → Every P xs → (q : Instance) → Contains xs q → P q
every_at P [] h q (k, l, e) = absurd (omega (arith, l))
every_at P (x ∷ xs) h q (zero, l, e) = subst P e h.0
every_at P (x ∷ xs) h q (suc k, l, e) = every_at P xs h.1 q (k, omega (arith, l), e)

-- ---- what marks tell of

-- the statements that ran, and the turns whose condition was evaluated, in the order of the marks
abbrev pub places : List Mark → List Instance
places [] = []
places (Ran q at ∷ ms) = q ∷ places ms
places (Turned q t ∷ ms) = (q ++ (t ∷ [])) ∷ places ms
places (Entered c image ∷ ms) = places ms
places (Asked c ask ∷ ms) = places ms
places (Used q ∷ ms) = places ms
places (Stopped q ending ∷ ms) = places ms

places_append : (xs ys : List Mark) → places (xs ++ ys) ≡ places xs ++ places ys
places_append [] ys = refl
places_append (Ran q at ∷ ms) ys = ap (λ (zs : List Instance). q ∷ zs) (places_append ms ys)
places_append (Turned q t ∷ ms) ys = ap (λ (zs : List Instance). (q ++ (t ∷ [])) ∷ zs) (places_append ms ys)
places_append (Entered c image ∷ ms) ys = places_append ms ys
places_append (Asked c ask ∷ ms) ys = places_append ms ys
places_append (Used q ∷ ms) ys = places_append ms ys
places_append (Stopped q ending ∷ ms) ys = places_append ms ys

-- The run adds marks to those before it, whose places are in source order and have the property.
pub record Adds {W : Type 0} (P : Instance → Type 0) (before : List Mark) (r : Run W) : Type 0 where
  pub new : List Mark
  pub added : (notes_of r).marks ≡ before ++ new
  pub rises : Rises (places new)
  pub each : Every P (places new)

pub adds_none : {W : Type 0} (P : Instance → Type 0) (before : List Mark) (r : Run W) → (notes_of r).marks ≡ before
    → Adds P before r
adds_none P before r e = record { new = []; added = e ∙ sym (append-nil before); rises = tt; each = tt }

pub adds_as : {W : Type 0} (P Q : Instance → Type 0) (before : List Mark) (r : Run W) → ((x : Instance) → P x → Q x)
    → Adds P before r → Adds Q before r
adds_as P Q before r f a = record
    { new = a.new; added = a.added; rises = a.rises; each = every_as P Q (places a.new) f a.each }

-- one run after another, whose places come later
pub adds_then : {W : Type 0} (P Q R : Instance → Type 0) (before : List Mark) (r : Run W) (go : Act W)
    → ((x y : Instance) → P x → Q y → IsUpTo x y) → ((x : Instance) → P x → R x) → ((x : Instance) → Q x → R x)
    → Adds P before r → ((s : State) (n : Notes W) → Adds Q n.marks (go s n)) → Adds R before (and_then r go)
adds_then P Q R before (Ends ending n) go f g h a k = adds_as P R before (Ends ending n) g a
adds_then P Q R before (Stops n) go f g h a k = adds_as P R before (Stops n) g a
adds_then P Q R before (Went s n) go f g h a k =
    let b : Adds Q n.marks (go s n) = k s n in
    let e : places (a.new ++ b.new) ≡ places a.new ++ places b.new = places_append a.new b.new in
    record {
      new = a.new ++ b.new;
      added = b.added ∙ ap (λ (ms : List Mark). ms ++ b.new) a.added ∙ append_assoc before a.new b.new;
      rises = subst Rises (sym e) (rises_append P Q (places a.new) (places b.new) f a.rises a.each b.rises b.each);
      each = subst (Every R) (sym e)
          (every_append R (places a.new) (places b.new) (every_as P R (places a.new) g a.each)
          (every_as Q R (places b.new) h b.each));
    }

-- a mark without a place
pub adds_silent : {W : Type 0} (P : Instance → Type 0) (before : List Mark) (m : Mark) (r : Run W)
    → ((ms : List Mark) → places (m ∷ ms) ≡ places ms) → Adds P (before ++ (m ∷ [])) r → Adds P before r
adds_silent P before m r e a = record {
  new = m ∷ a.new;
  added = a.added ∙ append_assoc before (m ∷ []) a.new;
  rises = subst Rises (sym (e a.new)) a.rises;
  each = subst (Every P) (sym (e a.new)) a.each;
}

-- a mark with a place that is not after those that follow
pub adds_place : {W : Type 0} (P R : Instance → Type 0) (before : List Mark) (m : Mark) (q : Instance) (r : Run W)
    → ((ms : List Mark) → places (m ∷ ms) ≡ q ∷ places ms)
    → ((x : Instance) → P x → IsUpTo q x) → R q → ((x : Instance) → P x → R x) → Adds P (before ++ (m ∷ [])) r
    → Adds R before r
adds_place P R before m q r e f h g a = record {
  new = m ∷ a.new;
  added = a.added ∙ append_assoc before (m ∷ []) a.new;
  rises = subst Rises (sym (e a.new)) (every_as P (IsUpTo q) (places a.new) f a.each, a.rises);
  each = subst (Every R) (sym (e a.new)) (h, every_as P R (places a.new) g a.each);
}

-- ---- where a run ended

abbrev paths : List At → List Instance
paths xs = map (λ (x : At). x.path) xs

every_ran : (P : Instance → Type 0) (ms : List Mark) → Every P (places ms) → Every P (paths (ran_in ms))
every_ran P [] h = tt
every_ran P (Ran q at ∷ ms) h = (h.0, every_ran P ms h.1)
every_ran P (Turned q t ∷ ms) h = every_ran P ms h.1
every_ran P (Entered c image ∷ ms) h = every_ran P ms h
every_ran P (Asked c ask ∷ ms) h = every_ran P ms h
every_ran P (Used q ∷ ms) h = every_ran P ms h
every_ran P (Stopped q ending ∷ ms) h = every_ran P ms h

every_turn : (P : Instance → Type 0) (ms : List Mark) → Every P (places ms) → Every P (map turn_path (turns_in ms))
every_turn P [] h = tt
every_turn P (Ran q at ∷ ms) h = every_turn P ms h.1
every_turn P (Turned q t ∷ ms) h = (h.0, every_turn P ms h.1)
every_turn P (Entered c image ∷ ms) h = every_turn P ms h
every_turn P (Asked c ask ∷ ms) h = every_turn P ms h
every_turn P (Used q ∷ ms) h = every_turn P ms h
every_turn P (Stopped q ending ∷ ms) h = every_turn P ms h

ran_rises : (ms : List Mark) → Rises (places ms) → Rises (paths (ran_in ms))
ran_rises [] r = tt
ran_rises (Ran q at ∷ ms) r = (every_ran (IsUpTo q) ms r.0, ran_rises ms r.1)
ran_rises (Turned q t ∷ ms) r = ran_rises ms r.1
ran_rises (Entered c image ∷ ms) r = ran_rises ms r
ran_rises (Asked c ask ∷ ms) r = ran_rises ms r
ran_rises (Used q ∷ ms) r = ran_rises ms r
ran_rises (Stopped q ending ∷ ms) r = ran_rises ms r

turns_rise : (ms : List Mark) → Rises (places ms) → Rises (map turn_path (turns_in ms))
turns_rise [] r = tt
turns_rise (Ran q at ∷ ms) r = turns_rise ms r.1
turns_rise (Turned q t ∷ ms) r = (every_turn (IsUpTo (q ++ (t ∷ []))) ms r.0, turns_rise ms r.1)
turns_rise (Entered c image ∷ ms) r = turns_rise ms r
turns_rise (Asked c ask ∷ ms) r = turns_rise ms r
turns_rise (Used q ∷ ms) r = turns_rise ms r
turns_rise (Stopped q ending ∷ ms) r = turns_rise ms r

-- what the marks tell of is not after the last of the statements and the last of the turns, whichever is later
pub up_to_end : (ms : List Mark) → Rises (places ms) → (q : Instance)
    → Contains (paths (ran_in ms) ++ map turn_path (turns_in ms)) q
    → IsUpTo q (later_of (last_path (paths (ran_in ms))) (last_path (map turn_path (turns_in ms))))
up_to_end ms r q c =
    let a : List Instance = paths (ran_in ms) in
    let b : List Instance = map turn_path (turns_in ms) in
    elim (Contains-append_cases a b q c) [
      | inl d ↦ left_up_to_later q (last_path a) (last_path b)
          (every_at (λ x. IsUpTo x (last_path a)) a (up_to_last a (ran_rises ms r)) q d)
      | inr d ↦ right_up_to_later q (last_path a) (last_path b)
          (every_at (λ x. IsUpTo x (last_path b)) b (up_to_last b (turns_rise ms r)) q d)
    ]
