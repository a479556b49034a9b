-- The atomic blocks of a method of a well-shaped program have different numbers: they are among its blocks.
use Rattle.std.proofs.Common.{◌≡◌, ◌≢◌, ◌≤◌, refl, ap, sym, subst, ◌∙◌, arith, ℕ, zero, suc, nat_eq, Bool, true}
use Rattle.std.proofs.Common.{false}
use Rattle.std.proofs.Common.{List, [], ◌∷◌, ◌++◌, map, Contains, Some, append_assoc}
use Rattle.std.specs.Prelude.{◌+◌, cond, slice_get}
use Rattle.std.specs.List.{IsDistinct, AllByRecursion}
use Rattle.std.proofs.lemmas.List.{map-append}
use Rattle.std.proofs.lemmas.List.Sums.{sum_by-append, sum_by-cons}
use Rattle.std.proofs.lemmas.List.Elements.{All-contains}
use Rattle.std.proofs.lemmas.Option.{same_Some}
use Rattle.std.proofs.lemmas.Bool.{eq-eqb, eqb-true}
use Rattle.ae_text.specs.Numbers.{times}
use Rattle.ae_tree.specs.Plain.{Lines, End, Next, Definition, Code}
use Rattle.ae_tree.specs.Plain.{Action, Declares, Assigns, Stores, StoresAt, Calls, Chooses, ChoosesElse, Repeats}
use Rattle.ae_tree.specs.Plain.{Groups, Splits, Locks, Freezes, Shares, Prints, PrintsText, Asserts, Returns}
use Rattle.ae_tree.specs.WellShaped.{numbers_in, numbers_among, block_numbers, WellShaped}
use Rattle.ae_rules.specs.Verdict.{Verdict, Holds, Broken, judged}
use Rattle.ae_rules.specs.Context.{Context}
use Rattle.ae_rules.specs.Statements.{while_split, while_locked, judge_statement}
use Rattle.ae_rules.specs.Judges.{start}
use Rattle.ae_rules.specs.Lookups.{method_at}
use Rattle.ae_rules.specs.Blocks.{Opened, block_at, scenes_in, scenes_among}
use Rattle.ae_semantics.specs.Report.{AllPairs}
use Rattle.ae_semantics.specs.Atom.{Located, lock_in, locks_among, locks_in_blocks, all_locks}

-- the atomic blocks of the method have different numbers
abbrev pub LocksDiffer : Code → Definition → Type 0
LocksDiffer p m = AllPairs (λ (x y : ℕ × Located). x.0 ≢ y.0) (all_locks p m)

-- ---- how often a number stands

times_append : (n : ℕ) (xs ys : List ℕ) → times n (xs ++ ys) ≡ times n xs + times n ys
times_append n xs ys = sum_by-append (λ (x : ℕ). cond (nat_eq x n) 1 0) xs ys

abbrev counts_if : Bool → ℕ
counts_if b = cond b 1 0

times_cons : (n x : ℕ) (xs : List ℕ) → times n (x ∷ xs) ≡ counts_if (nat_eq x n) + times n xs
times_cons n x xs = sum_by-cons (λ (y : ℕ). cond (nat_eq y n) 1 0) x xs

-- how often a number is that of one of these atomic blocks
abbrev lock_times : ℕ → List (ℕ × Located) → ℕ
lock_times n xs = times n (map (λ (x : ℕ × Located). x.0) xs)

lock_times_append : (n : ℕ) (xs ys : List (ℕ × Located)) → lock_times n (xs ++ ys) ≡ lock_times n xs + lock_times n ys
lock_times_append n xs ys = ap (times n) (map-append (λ (x : ℕ × Located). x.0) xs ys)
    ∙ times_append n (map (λ (x : ℕ × Located). x.0) xs) (map (λ (x : ℕ × Located). x.0) ys)

-- the atomic blocks of these blocks, and of those
locks_in_append : (p : Code) (m : Definition) (xs ys : List Opened)
    → locks_in_blocks p m (xs ++ ys) ≡ locks_in_blocks p m xs ++ locks_in_blocks p m ys
locks_in_append p m [] ys = refl
locks_in_append p m (x ∷ xs) ys = ap (λ zs. locks_among p m x.1.lines x.1.start ++ zs) (locks_in_append p m xs ys)
    ∙ sym (append_assoc (locks_among p m x.1.lines x.1.start) (locks_in_blocks p m xs) (locks_in_blocks p m ys))

-- ---- the atomic blocks are among the blocks

-- how often a number is that of an atomic block of these lines, or of the blocks in them
abbrev lines_locks : Code → Definition → ℕ → Lines → Context → ℕ
lines_locks p m n b c = lock_times n (locks_among p m b c)
    + lock_times n (locks_in_blocks p m (scenes_among p m true b c))

-- and so for a statement
abbrev action_locks : Code → Definition → ℕ → Action → Context → ℕ
action_locks p m n a c = lock_times n (lock_in m a c) + lock_times n (locks_in_blocks p m (scenes_in p m true a c))

-- a block in a statement
block_among : (p : Code) (m : Definition) (n k : ℕ) (b : Lines) (c : Context)
    → lock_times n (locks_in_blocks p m ((k, block_at m b c) ∷ scenes_among p m true b c)) ≡ lines_locks p m n b c
block_among p m n k b c = lock_times_append n (locks_among p m b c) (locks_in_blocks p m (scenes_among p m true b c))

-- the atomic blocks of the lines behind a statement
abbrev later_locks : Code → Definition → ℕ → Lines → Verdict Context → ℕ
later_locks p m n rest v = lock_times n (judged v [] (locks_among p m rest))
    + lock_times n (locks_in_blocks p m (judged v [] (scenes_among p m true rest)))

later_least : (p : Code) (m : Definition) (n : ℕ) (rest : Lines) (v : Verdict Context)
    → ((d : Context) → lines_locks p m n rest d ≤ times n (numbers_among rest))
    → later_locks p m n rest v ≤ times n (numbers_among rest)
later_least p m n rest (Holds d) h = h d
later_least p m n rest (Broken r at) h = omega arith

mutual
  locks_in_least : (p : Code) (m : Definition) (n : ℕ) (a : Action) (c : Context)
      → action_locks p m n a c ≤ times n (numbers_in a)
  locks_in_least p m n (Chooses e k b) c =
      omega (arith, block_among p m n k b c, locks_least p m n b c, times_cons n k (numbers_among b))
  locks_in_least p m n (ChoosesElse e k b l d) c =
      let f = ap (lock_times n) (locks_in_append p m ((k, block_at m b c) ∷ scenes_among p m true b c)
      ((l, block_at m d c) ∷ scenes_among p m true d c))
      ∙ lock_times_append n (locks_in_blocks p m ((k, block_at m b c) ∷ scenes_among p m true b c))
      (locks_in_blocks p m ((l, block_at m d c) ∷ scenes_among p m true d c)) in
      omega (
        arith,
        f,
        block_among p m n k b c,
        block_among p m n l d c,
        locks_least p m n b c,
        locks_least p m n d c,
        times_cons n k (numbers_among b ++ (l ∷ numbers_among d)),
        times_append n (numbers_among b) (l ∷ numbers_among d),
        times_cons n l (numbers_among d),
      )
  locks_in_least p m n (Repeats e k b) c =
      omega (arith, block_among p m n k b c, locks_least p m n b c, times_cons n k (numbers_among b))
  locks_in_least p m n (Splits gs k b) c =
      omega (
        arith,
        block_among p m n k b (while_split gs c),
        locks_least p m n b (while_split gs c),
        times_cons n k (numbers_among b),
      )
  locks_in_least p m n (Locks g k b) c =
      omega (
        arith,
        block_among p m n k b (while_locked g.name c),
        locks_least p m n b (while_locked g.name c),
        times_cons n k [],
        times_cons n k (numbers_among b),
      )
  locks_in_least p m n (Declares t x e) c = omega arith
  locks_in_least p m n (Assigns x e) c = omega arith
  locks_in_least p m n (Stores path e) c = omega arith
  locks_in_least p m n (StoresAt path i e) c = omega arith
  locks_in_least p m n (Calls i) c = omega arith
  locks_in_least p m n (Groups g) c = omega arith
  locks_in_least p m n (Freezes x) c = omega arith
  locks_in_least p m n (Shares x g) c = omega arith
  locks_in_least p m n (Prints e) c = omega arith
  locks_in_least p m n (PrintsText s) c = omega arith
  locks_in_least p m n (Asserts e) c = omega arith
  locks_in_least p m n (Returns e) c = omega arith

  -- no number is that of an atomic block in lines more often than it is that of a block in them
  locks_least : (p : Code) (m : Definition) (n : ℕ) (b : Lines) (c : Context)
      → lines_locks p m n b c ≤ times n (numbers_among b)
  locks_least p m n End c = omega arith
  locks_least p m n (Next at a rest) c =
      let v = judge_statement p m at a c in
      let f = lock_times_append n (lock_in m a c) (judged v [] (locks_among p m rest)) in
      let g = ap (lock_times n)
      (locks_in_append p m (scenes_in p m true a c) (judged v [] (scenes_among p m true rest)))
      ∙ lock_times_append n (locks_in_blocks p m (scenes_in p m true a c))
      (locks_in_blocks p m (judged v [] (scenes_among p m true rest))) in
      omega (
        arith,
        f,
        g,
        (locks_in_least) p m n a c,
        (later_least) p m n rest v (λ d. locks_least p m n rest d),
        times_append n (numbers_in a) (numbers_among rest),
      )

-- ---- distinct numbers

-- equality the other way round
unequal_both_ways : (n x : ℕ) → nat_eq n x ≡ false → nat_eq x n ≡ false
unequal_both_ways n x h = by_test (nat_eq x n) refl
  where
    by_test : (b : Bool) → nat_eq x n ≡ b → nat_eq x n ≡ false
    by_test true e = absurd (let f : nat_eq n x ≡ true = eq-eqb n x (sym (eqb-true x n e)) in cc)
    by_test false e = e

-- what is found in a list is in it
pub contained : {A : Type 0} (xs : List A) (n : ℕ) (x : A) → slice_get xs n ≡ Some x → Contains xs x
contained [] n x e = absurd (cc)
contained (y ∷ ys) zero x e = (0, omega arith, same_Some y x e)
contained (y ∷ ys) (suc n) x e = let c = contained ys n x e in (suc c.0, omega (arith, c.1), c.2)

-- a number that none of these is
times_none : (n : ℕ) (xs : List ℕ) → AllByRecursion (λ y. nat_eq n y ≡ false) xs → times n xs ≡ 0
times_none n [] h = refl
times_none n (x ∷ xs) h =
    omega (arith, times_cons n x xs, ap counts_if (unequal_both_ways n x h.0), times_none n xs h.1)

-- whose number is first, and is none of those behind
distinct_once : (n : ℕ) (xs : List ℕ) → IsDistinct nat_eq xs → times n xs ≤ 1
unfolding IsDistinct
distinct_once n [] h = omega arith
distinct_once n (x ∷ xs) h = by_test (distinct_once n xs h.1) (nat_eq x n) refl
  where
    by_test : times n xs ≤ 1 → (b : Bool) → nat_eq x n ≡ b → times n (x ∷ xs) ≤ 1
    by_test l true e = omega (
      arith,
      times_cons n x xs,
      ap counts_if e,
      times_none n xs (subst (λ k. AllByRecursion (λ y. nat_eq k y ≡ false) xs) (eqb-true x n e) h.0),
    )
    by_test l false e = omega (arith, l, times_cons n x xs, ap counts_if e)

-- the number of one of these stands among their numbers
times_some : (xs : List (ℕ × Located)) (y : ℕ × Located) → Contains xs y → 1 ≤ lock_times y.0 xs
times_some [] y c = absurd (omega (arith, c.1))
times_some (x ∷ xs) y (zero, l, e) = omega (
  arith,
  times_cons y.0 x.0 (map (λ (z : ℕ × Located). z.0) xs),
  ap counts_if (eq-eqb x.0 y.0 (ap (λ (z : ℕ × Located). z.0) e)),
)
times_some (x ∷ xs) y (suc k, l, e) = omega (
  arith,
  times_cons y.0 x.0 (map (λ (z : ℕ × Located). z.0) xs),
  (times_some) xs y (k, omega (arith, l), e),
)

-- where each number stands once at most, no two of these have one number
once_differ : (xs : List (ℕ × Located)) → ((n : ℕ) → lock_times n xs ≤ 1)
    → AllPairs (λ (x y : ℕ × Located). x.0 ≢ y.0) xs
once_differ [] h = tt
once_differ (x ∷ xs) h = (
  λ y c e. omega (
    arith,
    h y.0,
    times_cons y.0 x.0 (map (λ (z : ℕ × Located). z.0) xs),
    ap counts_if (eq-eqb x.0 y.0 e),
    times_some xs y c,
  ),
  once_differ xs (λ n. omega (arith, h n, times_cons n x.0 (map (λ (z : ℕ × Located). z.0) xs))),
)

-- ---- a method

-- no number is that of two atomic blocks of a method whose blocks have different numbers
pub locks_differ : (p : Code) (m : Definition) → IsDistinct nat_eq (block_numbers m) → LocksDiffer p m
locks_differ p m h = once_differ (all_locks p m) (λ n. omega (
  arith,
  distinct_once n (block_numbers m) h,
  times_cons n m.no (numbers_among m.body),
  locks_least p m n m.body (start p m),
  lock_times_append n (locks_among p m m.body (start p m))
      (locks_in_blocks p m (scenes_among p m true m.body (start p m))),
))

-- a method that is there is one of the program's
pub shaped_locks_differ : (p : Code) (n : ℕ) (m : Definition) → WellShaped p → method_at p n ≡ Some m
    → LocksDiffer p m
shaped_locks_differ p n m w e = locks_differ p m (All-contains (λ (x : Definition). IsDistinct nat_eq (block_numbers x))
    p.methods m w.apart (contained p.methods n m e))
