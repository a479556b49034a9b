-- What each statement of derived lines has, where their `return` stands, and how their blocks are numbered.
use Rattle.std.proofs.Common.{subst, arith, ◌≡◌, ◌<◌, inl, inr, refl, sym, ap, ap₂, ◌∙◌, ℕ, zero, suc, ◌+◌, ◌++◌}
use Rattle.std.proofs.Common.{nat_eq, false, List, [], ◌∷◌, length, Option, None, Some}
use Rattle.std.specs.List.{IsDistinct, AllByRecursion}
use Rattle.std.proofs.lemmas.Bool.{ne_eqb}
use Rattle.ae_text.specs.declared.refusal.Spot.{Spot}
use Rattle.ae_tree.specs.declared.lexeme.Lexical.{Lexical}
use Rattle.ae_tree.specs.Plain.{Expression, RightSide, Value, Taken, Zeros, Made, Returned, Lines, End, Next}
use Rattle.ae_tree.specs.Plain.{Action, Declares, Assigns, Stores, StoresAt, Calls, Chooses, ChoosesElse, Repeats}
use Rattle.ae_tree.specs.Plain.{Groups, Splits, Locks, Freezes, Shares, Prints, PrintsText, Asserts, Returns}
use Rattle.ae_tree.specs.Grammar.{◌⨾◌, in_braces, return_end, method_body, right_of_equals, statement, statements}
use Rattle.ae_tree.specs.Grammar.{blocks_opened, opened_in, with_return, numbers_from}
use Rattle.ae_tree.specs.WellShaped.{InBlocks, EachStatement, IfThere, TakesField, HasField, HasGroup, IsNoReturn}
use Rattle.ae_tree.specs.WellShaped.{ReturnsLast, numbers_in, numbers_among}
use Rattle.ae_tree.proofs.BelowLemmas.{Of, head, tail, under, under_two}

-- ---- each statement

-- a fact of each statement that tokens stand for
abbrev pub Gives : (Lexical → Type 0) → (Action → Type 0) → Type 0
Gives L P = (k : ℕ) (at : Spot) (a : Action) → Of L (statement k at a) → P a

mutual
  in_blocks : {L : Lexical → Type 0} (P : Action → Type 0) → Gives L P → (k : ℕ) (at : Spot) (a : Action)
      → Of L (statement k at a) → InBlocks P a
  in_blocks P f k at (Declares t x e) d = tt
  in_blocks P f k at (Assigns x e) d = tt
  in_blocks P f k at (Stores p e) d = tt
  in_blocks P f k at (StoresAt p i e) d = tt
  in_blocks P f k at (Calls c) d = tt
  in_blocks P f k at (Chooses e j b) d = each_statement P f _ b (head (tail (tail (tail (under d)))))
  in_blocks P f k at (ChoosesElse e j b m c) d =
      let e = under_two d in (
        each_statement P f _ b (head (tail (head (tail (tail e))))),
        each_statement P f _ c
            (head (tail (tail (tail (tail (tail e)))))),
      )
  in_blocks P f k at (Repeats e j b) d = each_statement P f _ b (head (tail (tail (tail (under d)))))
  in_blocks P f k at (Groups g) d = tt
  in_blocks P f k at (Splits gs j b) d = each_statement P f _ b (head (tail (tail (tail (under d)))))
  in_blocks P f k at (Locks g j b) d = each_statement P f _ b (head (tail (tail (tail (under d)))))
  in_blocks P f k at (Freezes x) d = tt
  in_blocks P f k at (Shares x g) d = tt
  in_blocks P f k at (Prints e) d = tt
  in_blocks P f k at (PrintsText s) d = tt
  in_blocks P f k at (Asserts e) d = tt
  in_blocks P f k at (Returns e) d = tt

  -- a fact of each statement is one of each in the lines that tokens stand for
  each_statement : {L : Lexical → Type 0} (P : Action → Type 0) → Gives L P → (k : ℕ) (b : Lines)
      → Of L (statements k b) → EachStatement P b
  each_statement P f k End d = tt
  each_statement P f k (Next at a rest) d =
      (f k at a (head d), in_blocks P f k at a (head d), each_statement P f _ rest (tail d))

-- the statements of a body, and the `return` behind them
pub in_body : {L : Lexical → Type 0} (b : Lines) (d : Of L (method_body b))
    → Of L (statements 1 d.derives.0 ⨾ return_end d.derives.1)
in_body {L} b d =
    let inner : Of L (in_braces (statements 1 d.derives.0 ⨾ return_end d.derives.1)) =
    record { tokens = d.tokens; derives = d.derives.3; each = d.each } in
    head (tail inner)

-- and one of each in a body, where its `return` has it too
each_of_body : (P : Action → Type 0) (front : Lines) (r : Option (Spot × Expression)) → EachStatement P front
    → IfThere (λ (x : Spot × Expression). P (Returns x.1)) r → EachStatement P (with_return front r)
each_of_body P End None h last = tt
each_of_body P End (Some r) h last = (last, tt, tt)
each_of_body P (Next at a rest) r h last = (h.0, h.1, each_of_body P rest r h.2 last)

-- the same of a body that tokens stand for
pub each_in_body : {L : Lexical → Type 0} (P : Action → Type 0) → Gives L P
    → ((r : Option (Spot × Expression)) → Of L (return_end r)
    → IfThere (λ (x : Spot × Expression). P (Returns x.1)) r)
    → (b : Lines) → Of L (method_body b) → EachStatement P b
each_in_body {L} P f last b d =
    let s = in_body b d in
    subst (EachStatement P) (sym d.derives.2)
    (each_of_body P d.derives.0 d.derives.1 (each_statement P f 1 d.derives.0 (head s))
    (last d.derives.1 (tail s)))

-- ---- the facts

takes_field : {L : Lexical → Type 0} (e : RightSide) → Of L (right_of_equals e) → TakesField e
takes_field (Value e) d = tt
takes_field (Taken p at) d = d.derives.0
takes_field (Zeros e at) d = tt
takes_field (Made c gs es at) d = tt
takes_field (Returned c) d = tt

-- the path to a field that is taken or written has a step
pub has_field : (L : Lexical → Type 0) → Gives L HasField
has_field L k at (Declares t x e) d = takes_field e (head (tail (tail (tail (tail d)))))
has_field L k at (Assigns x e) d = takes_field e (head (tail (tail (under d))))
has_field L k at (Stores p e) d = d.derives.1
has_field L k at (StoresAt p i e) d = tt
has_field L k at (Calls c) d = tt
has_field L k at (Chooses e j b) d = tt
has_field L k at (ChoosesElse e j b m c) d = tt
has_field L k at (Repeats e j b) d = tt
has_field L k at (Groups g) d = tt
has_field L k at (Splits gs j b) d = tt
has_field L k at (Locks g j b) d = tt
has_field L k at (Freezes x) d = tt
has_field L k at (Shares x g) d = tt
has_field L k at (Prints e) d = tt
has_field L k at (PrintsText s) d = tt
has_field L k at (Asserts e) d = tt
has_field L k at (Returns e) d = tt

-- a split has a group
pub has_group : (L : Lexical → Type 0) → Gives L HasGroup
has_group L k at (Declares t x e) d = tt
has_group L k at (Assigns x e) d = tt
has_group L k at (Stores p e) d = tt
has_group L k at (StoresAt p i e) d = tt
has_group L k at (Calls c) d = tt
has_group L k at (Chooses e j b) d = tt
has_group L k at (ChoosesElse e j b m c) d = tt
has_group L k at (Repeats e j b) d = tt
has_group L k at (Groups g) d = tt
has_group L k at (Splits [] j b) d = absurd d.derives.1.second.first
has_group L k at (Splits (g ∷ gs) j b) d = λ (e : g ∷ gs ≡ []). absurd (cc)
has_group L k at (Locks g j b) d = tt
has_group L k at (Freezes x) d = tt
has_group L k at (Shares x g) d = tt
has_group L k at (Prints e) d = tt
has_group L k at (PrintsText s) d = tt
has_group L k at (Asserts e) d = tt
has_group L k at (Returns e) d = tt

is_no_return : (L : Lexical → Type 0) → Gives L IsNoReturn
is_no_return L k at (Declares t x e) d = tt
is_no_return L k at (Assigns x e) d = tt
is_no_return L k at (Stores p e) d = tt
is_no_return L k at (StoresAt p i e) d = tt
is_no_return L k at (Calls c) d = tt
is_no_return L k at (Chooses e j b) d = tt
is_no_return L k at (ChoosesElse e j b m c) d = tt
is_no_return L k at (Repeats e j b) d = tt
is_no_return L k at (Groups g) d = tt
is_no_return L k at (Splits gs j b) d = tt
is_no_return L k at (Locks g j b) d = tt
is_no_return L k at (Freezes x) d = tt
is_no_return L k at (Shares x g) d = tt
is_no_return L k at (Prints e) d = tt
is_no_return L k at (PrintsText s) d = tt
is_no_return L k at (Asserts e) d = tt
is_no_return L k at (Returns e) d = d.derives

returns_last : (front : Lines) (r : Option (Spot × Expression)) → EachStatement IsNoReturn front
    → ReturnsLast (with_return front r)
returns_last End None h = tt
returns_last End (Some r) h = (inr refl, tt, tt)
returns_last (Next at a rest) r h = (inl h.0, h.1, returns_last rest r h.2)

-- ---- numbers in order

-- one number, and then those from the next on
pub numbers_from-one : (k n : ℕ) → k ∷ numbers_from (k + 1) n ≡ numbers_from k (1 + n)
numbers_from-one k n = let e : suc n ≡ 1 + n = omega arith in ap (numbers_from k) e

-- numbers, and then those behind them
pub numbers_from-append : (k a b : ℕ) → numbers_from k a ++ numbers_from (k + a) b ≡ numbers_from k (a + b)
numbers_from-append k zero b = let e : k + 0 ≡ k = omega arith in let f : b
    ≡ 0 + b = omega arith in ap₂ numbers_from e f
numbers_from-append k (suc a) b =
    let e : k + suc a ≡ k + 1 + a = omega arith in
    let f : suc (a + b) ≡ suc a + b = omega arith in
    ap (λ (m : ℕ). k ∷ numbers_from (k + 1) a ++ numbers_from m b) e ∙ ap (λ (l : List ℕ). k ∷ l)
    (numbers_from-append (k + 1) a b) ∙ ap (numbers_from k) f

-- so many numbers are so many
pub length-numbers_from : (k n : ℕ) → length (numbers_from k n) ≡ n
length-numbers_from k zero = refl
length-numbers_from k (suc n) = ap suc (length-numbers_from (k + 1) n)

-- they are as many as there are
pub in_order : (k n : ℕ) (xs : List ℕ) → xs ≡ numbers_from k n → xs ≡ numbers_from k (length xs)
in_order k n xs e = e ∙ ap (numbers_from k) (sym (ap length e ∙ length-numbers_from k n))

above_all : (k m n : ℕ) → k < m → AllByRecursion (λ (y : ℕ). nat_eq k y ≡ false) (numbers_from m n)
above_all k m zero l = tt
above_all k m (suc n) l = (ne_eqb k m (λ (e : k ≡ m). omega (arith, l, e)), above_all k (m + 1) n (omega (arith, l)))

-- no two of them are alike
pub numbers_apart : (k n : ℕ) → IsDistinct nat_eq (numbers_from k n)
unfolding IsDistinct
numbers_apart k zero = tt
numbers_apart k (suc n) = (above_all k (k + 1) n (omega arith), numbers_apart (k + 1) n)

-- ---- the numbers of blocks

-- a block's number, and then those inside it
block_numbered : (j k n : ℕ) (xs : List ℕ) → j ≡ k → xs ≡ numbers_from (k + 1) n → j ∷ xs ≡ numbers_from k (1 + n)
block_numbered j k n xs e f = ap₂ (λ (x : ℕ) (l : List ℕ). x ∷ l) e f ∙ numbers_from-one k n

two_numbered : (j k m a b : ℕ) (xs ys : List ℕ) → j ≡ k → m ≡ k + 1 + a → xs ≡ numbers_from (k + 1) a
    → ys ≡ numbers_from (m + 1) b → j ∷ xs ++ m ∷ ys ≡ numbers_from k (1 + a + 1 + b)
two_numbered j k m a b xs ys e f g h =
    let second : m ∷ ys ≡ numbers_from (k + 1 + a) (1 + b) = block_numbered m m b ys refl h
    ∙ ap (λ (x : ℕ). numbers_from x (1 + b)) f in
    let q : 1 + (a + (1 + b)) ≡ 1 + a + 1 + b = omega arith in
    block_numbered j k (a + (1 + b)) (xs ++ m ∷ ys) e
    (ap₂ (λ (u v : List ℕ). u ++ v) g second ∙ numbers_from-append (k + 1) a (1 + b)) ∙ ap (numbers_from k) q

mutual
  action_numbered : {L : Lexical → Type 0} (k : ℕ) (at : Spot) (a : Action) → Of L (statement k at a)
      → numbers_in a ≡ numbers_from k (blocks_opened a)
  action_numbered k at (Declares t x e) d = refl
  action_numbered k at (Assigns x e) d = refl
  action_numbered k at (Stores p e) d = refl
  action_numbered k at (StoresAt p i e) d = refl
  action_numbered k at (Calls c) d = refl
  action_numbered k at (Chooses e j b) d = block_numbered j k (opened_in b) (numbers_among b) d.derives.0
      (lines_numbered _ b (head (tail (tail (tail (under d))))))
  action_numbered k at (ChoosesElse e j b m c) d =
      let s = under_two d
      in two_numbered j k m (opened_in b) (opened_in c) (numbers_among b) (numbers_among c) d.derives.0 d.derives.1
      (lines_numbered _ b (head (tail (head (tail (tail s))))))
      (lines_numbered _ c (head (tail (tail (tail (tail (tail s)))))))
  action_numbered k at (Repeats e j b) d = block_numbered j k (opened_in b) (numbers_among b) d.derives.0
      (lines_numbered _ b (head (tail (tail (tail (under d))))))
  action_numbered k at (Groups g) d = refl
  action_numbered k at (Splits gs j b) d = block_numbered j k (opened_in b) (numbers_among b) d.derives.0
      (lines_numbered _ b (head (tail (tail (tail (under d))))))
  action_numbered k at (Locks g j b) d = block_numbered j k (opened_in b) (numbers_among b) d.derives.0
      (lines_numbered _ b (head (tail (tail (tail (under d))))))
  action_numbered k at (Freezes x) d = refl
  action_numbered k at (Shares x g) d = refl
  action_numbered k at (Prints e) d = refl
  action_numbered k at (PrintsText s) d = refl
  action_numbered k at (Asserts e) d = refl
  action_numbered k at (Returns e) d = refl

  -- the blocks in lines whose blocks are numbered from k on have the numbers from k on
  lines_numbered : {L : Lexical → Type 0} (k : ℕ) (b : Lines) → Of L (statements k b)
      → numbers_among b ≡ numbers_from k (opened_in b)
  lines_numbered k End d = refl
  lines_numbered k (Next at a rest) d =
      ap₂ (λ (u v : List ℕ). u ++ v) (action_numbered k at a (head d))
      (lines_numbered (k + blocks_opened a) rest (tail d)) ∙ numbers_from-append k (blocks_opened a)
      (opened_in rest)

-- a `return` opens no block
with_return_numbers : (front : Lines) (r : Option (Spot × Expression)) → numbers_among (with_return front r)
    ≡ numbers_among front
with_return_numbers End None = refl
with_return_numbers End (Some r) = refl
with_return_numbers (Next at a rest) r = ap (λ (l : List ℕ). numbers_in a ++ l) (with_return_numbers rest r)

-- ---- bodies

-- a `return` stands last in a body
pub body_returns : {L : Lexical → Type 0} (b : Lines) → Of L (method_body b) → ReturnsLast b
body_returns {L} b d = subst ReturnsLast (sym d.derives.2)
    (returns_last d.derives.0 d.derives.1
    (each_statement IsNoReturn (is_no_return L) 1 d.derives.0 (head (in_body b d))))

-- the blocks in a body are numbered from 1 on
pub body_numbered : {L : Lexical → Type 0} (b : Lines) (d : Of L (method_body b))
    → numbers_among b ≡ numbers_from 1 (opened_in d.derives.0)
body_numbered b d = ap numbers_among d.derives.2 ∙ with_return_numbers d.derives.0 d.derives.1
    ∙ lines_numbered 1 d.derives.0 (head (in_body b d))

-- nothing is wanted of a `return`
pub no_wish : {L : Lexical → Type 0} (r : Option (Spot × Expression)) → Of L (return_end r)
    → IfThere (λ (x : Spot × Expression). Unit {0}) r
no_wish None d = tt
no_wish (Some x) d = tt
