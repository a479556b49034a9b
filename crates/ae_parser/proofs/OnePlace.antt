-- A limit on expressions refuses one token at most behind the same tokens.
use Rattle.std.proofs.Common.{◌≡◌, ℕ, ◌+◌, ◌≤◌, ◌++◌, [], ◌∷◌, length, sym, ap, ◌∙◌, subst, inl, inr, arith}
use Rattle.std.specs.Prelude.{IsTrue, if◌then◌else◌}
use Rattle.ae_tree.specs.declared.lexeme.Lexeme.{Lexeme}
use Rattle.ae_tree.specs.declared.limits.Limit.TheVariants.{Depth}
use Rattle.ae_tree.specs.Grammar.{Tokens}
use Rattle.ae_tree.specs.Refused.{is_mark, marks_in, Is257th, IsPlaced}
use Rattle.ae_parser.proofs.SideLemmas.{same_side}

abbrev counted : Lexeme → ℕ
counted t = if is_mark t.kind then 1 else 0

split : (e f l m : Tokens) (a b : Lexeme) → e ++ a ∷ l ≡ f ++ b ∷ m → IsTrue (is_mark a.kind)
    → IsTrue (is_mark b.kind) → marks_in e ≡ marks_in f → length l ≡ length m
split [] [] l m a b h ia ib n = let t : l ≡ m = cc in ap length t
split [] (y ∷ f) l m a b h ia ib n =
    let s : a ≡ y = cc in
    let one : counted y ≡ 1 = ap counted (sym s) ∙ ap (λ b. if b then 1 else 0) ia in absurd (omega (arith, n, one))
split (x ∷ e) [] l m a b h ia ib n =
    let s : b ≡ x = cc in
    let one : counted x ≡ 1 = ap counted (sym s) ∙ ap (λ b. if b then 1 else 0) ib in absurd (omega (arith, n, one))
split (x ∷ e) (y ∷ f) l m a b h ia ib n =
    let s : x ≡ y = cc in let t : e ++ a ∷ l ≡ f ++ b ∷ m = cc in
    let c : counted x ≡ counted y = ap counted s in
    split e f l m a b t ia ib (omega (arith, n, c))

more_than : (side : Tokens) (k : ℕ) → Is257th side k → 257 ≤ marks_in side
more_than side k i = subst (λ (s : Tokens). 257 ≤ marks_in s) (sym i.parts) (over i.early i.before_it)
  where
    sum : (e : Tokens) → marks_in (e ++ i.mark ∷ i.late) ≡ marks_in e + (counted i.mark + marks_in i.late)
    sum [] = omega arith
    sum (x ∷ e) = let h = sum e in omega (arith, h)

    over : (e : Tokens) → marks_in e ≡ 256 → 257 ≤ marks_in (e ++ i.mark ∷ i.late)
    over e n = let h = sum e in let one : counted i.mark ≡ 1 = ap (λ b. if b then 1 else 0) i.counts in omega
        (arith, h, n, one)

same : (s u : Tokens) (j k : ℕ) → s ≡ u → Is257th s j → Is257th u k → j ≡ k
same s u j k e a b = let h = split a.early b.early a.late b.late a.mark b.mark (sym a.parts ∙ e ∙ b.parts) a.counts
    b.counts (a.before_it ∙ sym b.before_it) in omega (arith, a.back_is, b.back_is, h)

pub one_place : (before : Tokens) (j k : ℕ) → IsPlaced Depth before j → IsPlaced Depth before k → j ≡ k
one_place before j k (inl p) (inl q) = same p.0.side q.0.side j k (same_side before p.0 q.0) p.1 q.1
one_place before j k (inl p) (inr q) = let few = q.1 p.0 in let many = more_than p.0.side j p.1 in absurd
    (omega (arith, few, many))
one_place before j k (inr p) (inl q) = let few = p.1 q.0 in let many = more_than q.0.side k q.1 in absurd
    (omega (arith, few, many))
one_place before j k (inr p) (inr q) = p.0 ∙ sym q.0
