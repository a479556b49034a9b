-- The right side that tokens end with.
use Rattle.std.proofs.Common.{◌≡◌, ℕ, ◌+◌, ◌-◌, ◌<◌, ◌≤◌, ◌++◌, [], ◌∷◌, length, refl, sym, ap, ◌∙◌, append_assoc}
use Rattle.std.proofs.Common.{subst, inl, inr, arith, length-append}
use Rattle.std.proofs.lemmas.Bool.{false≢true}
use Rattle.std.specs.Prelude.{◌⊎◌, false, IsTrue, if◌then◌else◌}
use Rattle.ae_text.specs.declared.token.Sign.TheVariants as sign
use Rattle.ae_tree.specs.declared.lexeme.Lexeme.{Lexeme}
use Rattle.ae_tree.specs.declared.lexeme.Lexical.{Lexical}
use Rattle.ae_tree.specs.declared.lexeme.Lexical.TheVariants as tok
use Rattle.ae_tree.specs.declared.limits.Limit.TheVariants.{Depth}
use Rattle.ae_tree.specs.Grammar.{Tokens}
use Rattle.ae_tree.specs.Refused.{is_open, is_mark, marks_in, AreOpen, OpenSide, Is257th, IsPlaced}
use Rattle.ae_parser.specs.declared.places.Side.{Side}
use Rattle.ae_parser.specs.declared.places.Side.TheVariants.{Closed, Few, Many}
use Rattle.ae_parser.specs.Sides.{HasFew, HasMany, Describes, Grows, IsOpenMark}

abbrev IsAssign : Lexical → Type 0
IsAssign k = k ≡ tok.Sign sign.Assign

-- `=` is not in an open side
assign_closed : (k : Lexical) → IsAssign k → IsTrue (is_open k) → ⊥
assign_closed k is o = let P : Lexical → Type 0 = λ k. IsTrue (is_open k) in false≢true (subst P is o)

-- ---- tokens that end with an open side

-- what a token counts
abbrev counted : Lexeme → ℕ
counted t = if is_mark t.kind then 1 else 0

open_front : (s : Tokens) (t : Lexeme) → AreOpen (s ++ t ∷ []) → AreOpen s
open_front [] t o = tt
open_front (x ∷ s) t o = (o.0, open_front s t o.1)

open_last : (s : Tokens) (t : Lexeme) → AreOpen (s ++ t ∷ []) → IsTrue (is_open t.kind)
open_last [] t o = o.0
open_last (x ∷ s) t o = open_last s t o.1

open_more : (s : Tokens) (t : Lexeme) → AreOpen s → IsTrue (is_open t.kind) → AreOpen (s ++ t ∷ [])
open_more [] t o is = (is, tt)
open_more (x ∷ s) t o is = (o.0, open_more s t o.1 is)

marks_more : (s : Tokens) (t : Lexeme) → marks_in (s ++ t ∷ []) ≡ marks_in s + counted t
marks_more [] t = omega arith
marks_more (x ∷ s) t = let h = marks_more s t in omega (arith, h)

-- `=` is the last token, or the last token is in the side
record EndsIn (before front side : Tokens) (a t : Lexeme) : Type 0 where
  pub less : Tokens
  pub side_is : side ≡ less ++ t ∷ []
  pub before_is : before ≡ front ++ a ∷ less

last_of : (before front side : Tokens) (a t : Lexeme) → before ++ t ∷ [] ≡ front ++ a ∷ side
    → (a ≡ t) ⊎ EndsIn before front side a t
last_of [] [] side a t e = inl cc
last_of [] (x ∷ []) side a t e = let f : [] ≡ a ∷ side = cc in cc
last_of [] (x ∷ y ∷ front) side a t e = let f : [] ≡ y ∷ (front ++ a ∷ side) = cc in cc
last_of (x ∷ before) [] side a t e =
    let f : before ++ t ∷ [] ≡ side = cc in let s : x
    ≡ a = cc in inr (record { less = before; side_is = sym f; before_is = ap (λ (y : Lexeme). y ∷ before) s })
last_of (x ∷ before) (y ∷ front) side a t e =
    let f : before ++ t ∷ [] ≡ front ++ a ∷ side = cc in
    let s : x ≡ y = cc in
    elim (last_of before front side a t f) [
      | inl is ↦ inl is
      | inr i ↦ inr (record {
        less = i.less;
        side_is = i.side_is;
        before_is = ap (λ (z : Lexeme). z ∷ before) s
            ∙ ap (λ (l : Tokens). y ∷ l) i.before_is;
      })
    ]

-- there is one open side at most
one_side : (f g s u : Tokens) (a b : Lexeme) → f ++ a ∷ s ≡ g ++ b ∷ u → IsAssign a.kind → IsAssign b.kind → AreOpen s
    → AreOpen u → s ≡ u
one_side [] [] s u a b e ia ib os ou = cc
one_side [] (y ∷ g) s u a b e ia ib os ou =
    let h : s ≡ g ++ b ∷ u = cc in absurd (inside g (subst AreOpen h os))
  where
    inside : (g : Tokens) → AreOpen (g ++ b ∷ u) → ⊥
    inside [] o = assign_closed b.kind ib o.0
    inside (x ∷ g) o = inside g o.1
one_side (x ∷ f) [] s u a b e ia ib os ou =
    let h : f ++ a ∷ s ≡ u = cc in absurd (inside f (subst AreOpen (sym h) ou))
  where
    inside : (f : Tokens) → AreOpen (f ++ a ∷ s) → ⊥
    inside [] o = assign_closed a.kind ia o.0
    inside (y ∷ f) o = inside f o.1
one_side (x ∷ f) (y ∷ g) s u a b e ia ib os ou = let h : f ++ a ∷ s ≡ g ++ b
    ∷ u = cc in one_side f g s u a b h ia ib os ou

-- the open side of tokens is one
pub same_side : (before : Tokens) (s u : OpenSide before) → s.side ≡ u.side
same_side before s u = one_side s.front u.front s.side u.side s.assign u.assign (sym s.whole ∙ u.whole) s.is_assign
    u.is_assign s.are_open u.are_open

-- ---- one token more

-- `=` begins a side
begun : (before : Tokens) (t : Lexeme) → IsAssign t.kind → OpenSide (before ++ t ∷ [])
begun before t is = record { front = before; assign = t; side = []; whole = refl; is_assign = is; are_open = tt }

-- a token of an open side goes on with it
more : (before : Tokens) (t : Lexeme) → IsTrue (is_open t.kind) → OpenSide before → OpenSide (before ++ t ∷ [])
more before t is s = record {
  front = s.front;
  assign = s.assign;
  side = s.side ++ t ∷ [];
  whole = ap (λ (l : Tokens). l ++ t ∷ []) s.whole ∙ append_assoc s.front (s.assign ∷ s.side) (t ∷ []);
  is_assign = s.is_assign;
  are_open = open_more s.side t s.are_open is;
}

-- a side that ends with a token which is not `=` was there before it
before_last : (before : Tokens) (t : Lexeme) → (IsAssign t.kind → ⊥) → (s : OpenSide (before ++ t ∷ []))
    → IsTrue (is_open t.kind) × OpenSide before
before_last before t isnt s = elim (last_of before s.front s.side s.assign t s.whole) [
  | inl is ↦ absurd (isnt (sym (ap (λ (l : Lexeme). l.kind) is) ∙ s.is_assign))
  | inr i ↦
      let o : AreOpen (i.less ++ t ∷ []) = subst AreOpen i.side_is s.are_open in (
        open_last i.less t o,
        record {
          front = s.front;
          assign = s.assign;
          side = i.less;
          whole =
              i.before_is;
          is_assign = s.is_assign;
          are_open = open_front i.less t o;
        },
      )
]

-- the place stays
later : (side : Tokens) (t : Lexeme) (back : ℕ) → Is257th side back → Is257th (side ++ t ∷ []) (back + 1)
later side t back i = record {
  early = i.early;
  mark = i.mark;
  late = i.late ++ t ∷ [];
  parts = ap (λ (l : Tokens). l ++ t ∷ []) i.parts ∙ append_assoc i.early (i.mark ∷ i.late) (t ∷ []);
  counts = i.counts;
  before_it = i.before_it;
  back_is = let h = length-append i.late (t ∷ []) in omega (arith, i.back_is, h);
}

many_more : (before : Tokens) (t : Lexeme) (index : ℕ) → IsTrue (is_open t.kind) → HasMany before index
    → HasMany (before ++ t ∷ []) index
unfolding more
many_more before t index is m = record {
  right = more before t is m.right;
  back = m.back + 1;
  first = later m.right.side t m.back m.first;
  place = let h = length-append before (t ∷ []) in omega (arith, m.place, h);
}

few_more : (before : Tokens) (t : Lexeme) (n k : ℕ) → IsTrue (is_open t.kind) → k ≡ n + counted t → k ≤ 256
    → HasFew before n → HasFew (before ++ t ∷ []) k
unfolding more
few_more before t n k is e le m = record {
  right = more before t is m.right;
  marks = marks_more m.right.side t
      ∙ ap (λ n. n + counted t) m.marks ∙ sym e;
  few = le;
}

-- the 257th token that counts
too_many : (before : Tokens) (t : Lexeme) → IsOpenMark t.kind → HasFew before 256
    → HasMany (before ++ t ∷ []) (length before)
unfolding more
too_many before t is m = record {
  right = more before t is.0 m.right;
  back = 1;
  first = record {
    early = m.right.side;
    mark = t;
    late = [];
    parts = refl;
    counts = is.1;
    before_it =
        m.marks;
    back_is = omega arith;
  };
  place = let h = length-append before (t ∷ []) in omega (arith, h);
}

-- ---- what tokens end with

-- the side by another name
pub grows_as : (side other behind : Side) (next : Lexeme) (index : ℕ) → side ≡ other → Grows other next index behind
    → Grows side next index behind
grows_as side other behind next index e g = let P : Side → Type 0 = λ s. Grows s next index behind in subst P (sym e) g

-- a token that counts
pub marked_few : (n index : ℕ) → n < 256 → (next : Lexeme) → IsOpenMark next.kind
    → Grows (Few n) next index (Few (n + 1))
marked_few n index less next is before at m =
    let one : counted next ≡ 1 = ap (λ b. if b then 1 else 0) is.1
    in few_more before next n (n + 1) is.0 (omega (arith, one)) (omega (arith, less)) m

pub marked_many : (n index : ℕ) → 256 ≤ n → (next : Lexeme) → IsOpenMark next.kind
    → Grows (Few n) next index (Many index)
marked_many n index least next is before at m =
    let full : n ≡ 256 = omega (arith, least, m.few) in
    let P : ℕ → Type 0 = HasFew before in
    let Q : ℕ → Type 0 = HasMany (before ++ next ∷ []) in
    subst Q at (too_many before next is (subst P full m))

-- what is closed stays so
pub stays_closed : (next : Lexeme) (index : ℕ) → (IsAssign next.kind → ⊥) → Grows Closed next index Closed
stays_closed next index isnt before at m s = m (before_last before next isnt s).1

-- a token that counts is not `=`
pub mark_closed : (next : Lexeme) (index : ℕ) → IsOpenMark next.kind → Grows Closed next index Closed
mark_closed next index is = stays_closed next index (λ a. assign_closed next.kind a is.0)

pub stays_many : (first : ℕ) (next : Lexeme) (index : ℕ) → IsTrue (is_open next.kind)
    → Grows (Many first) next index (Many first)
stays_many first next index is before at m = many_more before next first is m

-- `=`
pub begins : (side : Side) (next : Lexeme) (index : ℕ) → IsAssign next.kind → Grows side next index (Few 0)
unfolding begun
begins side next index is before at m = record { right = begun before next is; marks = refl; few = omega arith }

-- a token of no open side
pub closes : (side : Side) (next : Lexeme) (index : ℕ) → (IsAssign next.kind → ⊥) → is_open next.kind ≡ false
    → Grows side next index Closed
closes side next index isnt not before at m s = false≢true (sym not ∙ (before_last before next isnt s).0)

-- a token of an open side that does not count
pub unmarked : (side : Side) (next : Lexeme) (index : ℕ) → (IsAssign next.kind → ⊥) → IsTrue (is_open next.kind)
    → is_mark next.kind ≡ false → Grows side next index side
unmarked Closed next index isnt is not before at m = stays_closed next index isnt before at m
unmarked (Few n) next index isnt is not before at m =
    let none : counted next ≡ 0 = ap (λ b. if b then 1 else 0) not in
    few_more before next n n is (omega (arith, none)) m.few m
unmarked (Many first) next index isnt is not before at m = stays_many first next index is before at m

-- no tokens
pub nothing_yet : Describes [] Closed
nothing_yet s = none s.front s.whole
  where
    none : (front : Tokens) → [] ≡ front ++ s.assign ∷ s.side → ⊥
    none [] e = cc
    none (x ∷ front) e = cc

-- ---- the place

pub placed_many : (before : Tokens) (index : ℕ) → HasMany before index → IsPlaced Depth before (length before - index)
placed_many before index m =
    let same : m.back ≡ length before - index = omega (arith, m.place) in
    let P : ℕ → Type 0 = Is257th m.right.side in
    inl (m.right, subst P same m.first)

pub placed_few : (before : Tokens) (n : ℕ) → HasFew before n → IsPlaced Depth before 0
placed_few before n m = inr (
  refl,
  λ s. let e : marks_in s.side ≡ n = ap marks_in (same_side before s m.right)
      ∙ m.marks in omega (arith, e, m.few),
)

pub placed_closed : (before : Tokens) → (OpenSide before → ⊥) → IsPlaced Depth before 0
placed_closed before m = inr (refl, λ s. absurd (m s))

-- the refused token is one of those before
pub back_within : (before : Tokens) (back : ℕ) → IsPlaced Depth before back → back ≤ length before
back_within before back (inl p) =
    let s = p.0 in let i = p.1 in
    omega (
      arith,
      i.back_is,
      ap length s.whole,
      length-append s.front (s.assign ∷ s.side),
      ap length i.parts,
      length-append i.early (i.mark ∷ i.late),
    )
back_within before back (inr p) = omega (arith, p.0)
