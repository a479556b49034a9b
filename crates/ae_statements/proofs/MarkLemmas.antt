-- The tokens that count in an expression are those that its tree counts.
use Rattle.std.proofs.Common.{◌≡◌, ℕ, ◌+◌, ◌++◌, List, [], ◌∷◌, length, Bool, true, false, if◌then◌else◌, refl, sym}
use Rattle.std.proofs.Common.{ap, ◌∙◌, arith, inl, inr}
use Rattle.ae_text.specs.declared.refusal.Spot.{Spot}
use Rattle.ae_text.specs.declared.token.Keyword.TheVariants as word
use Rattle.ae_text.specs.declared.token.Sign.TheVariants as sign
use Rattle.ae_tree.specs.declared.lexeme.Lexical.{Lexical}
use Rattle.ae_tree.specs.declared.lexeme.Lexical.TheVariants as tok
use Rattle.ae_tree.specs.declared.tree.NameAt.{NameAt}
use Rattle.ae_tree.specs.declared.tree.Path.{Path}
use Rattle.ae_tree.specs.declared.tree.Op.{Op}
use Rattle.ae_tree.specs.declared.tree.Op.TheVariants as op
use Rattle.ae_tree.specs.Plain.{Expression, Number, Truth, Nothing, Read, Item, Length, Grouped, Negated, Minus, Binary}
use Rattle.ae_tree.specs.Grammar.{Tokens, one_token, one_at, one_by_one, root, path_step, path, sign_of, expression_at}
use Rattle.ae_tree.specs.Limits.{marks}
use Rattle.ae_tree.specs.Refused.{is_mark, marks_in}

abbrev pub weight : Lexical → ℕ
weight k = if is_mark k then 1 else 0

pub marks_in-append : (a b : Tokens) → marks_in (a ++ b) ≡ marks_in a + marks_in b
marks_in-append [] b = omega arith
marks_in-append (t ∷ a) b = let ih : marks_in (a ++ b) ≡ marks_in a + marks_in b = marks_in-append a b in omega
    (arith, ih)

in_parts : (us a b : Tokens) → us ≡ a ++ b → marks_in us ≡ marks_in a + marks_in b
in_parts us a b e = ap marks_in e ∙ marks_in-append a b

pub token_marks : (k : Lexical) (at : Spot) (us : Tokens) → one_at k at us → marks_in us ≡ weight k + 0
token_marks k at us d = ap marks_in d

one_mark : (k : Lexical) (us : Tokens) → one_token k us → marks_in us ≡ weight k + 0
one_mark k us d = token_marks k d.0 us d.1

root_marks : (x : NameAt) (us : Tokens) → root x us → marks_in us ≡ 0
root_marks x us (inl d) = token_marks (tok.Name x.name) x.at us d
root_marks x us (inr d) = token_marks (tok.Word word.This) x.at us d.1

step_marks : (x : NameAt) (us : Tokens) → path_step x us → marks_in us ≡ 1
step_marks x us d =
    let a : marks_in us ≡ marks_in d.front + marks_in d.back = in_parts us d.front d.back d.parts in
    let b : marks_in d.front ≡ 1 = one_mark (tok.Sign sign.Dot) d.front d.first in
    let c : marks_in d.back ≡ 0 = token_marks (tok.Name x.name) x.at d.back d.second in
    omega (arith, a, b, c)

steps_marks : (xs : List NameAt) (us : Tokens) → one_by_one path_step xs us → length xs ≡ marks_in us
steps_marks [] us d = ap marks_in (sym d)
steps_marks (x ∷ xs) us d =
    let a : marks_in us ≡ marks_in d.front + marks_in d.back = in_parts us d.front d.back d.parts in
    let b : marks_in d.front ≡ 1 = step_marks x d.front d.first in
    let c : length xs ≡ marks_in d.back = steps_marks xs d.back d.second in
    omega (arith, a, b, c)

pub path_marks : (p : Path) (us : Tokens) → path p us → length p.steps ≡ marks_in us
path_marks p us d =
    let a : marks_in us ≡ marks_in d.front + marks_in d.back = in_parts us d.front d.back d.parts in
    let b : marks_in d.front ≡ 0 = root_marks p.root d.front d.first in
    let c : length p.steps ≡ marks_in d.back = steps_marks p.steps d.back d.second in
    omega (arith, a, b, c)

operator_counts : (o : Op) → weight (tok.Sign (sign_of o)) ≡ 1
operator_counts op.Or = refl
operator_counts op.And = refl
operator_counts op.Eq = refl
operator_counts op.Ne = refl
operator_counts op.Lt = refl
operator_counts op.Le = refl
operator_counts op.Gt = refl
operator_counts op.Ge = refl
operator_counts op.Add = refl
operator_counts op.Sub = refl
operator_counts op.Mul = refl
operator_counts op.Div = refl
operator_counts op.Rem = refl

truth_marks : (b : Bool) (at : Spot) (l : ℕ) (us : Tokens) → expression_at (Truth b at) l us → 0 ≡ marks_in us
truth_marks true at l us d = sym (token_marks (tok.Word word.True) at us d)
truth_marks false at l us d = sym (token_marks (tok.Word word.False) at us d)

-- the marks of an expression are its tokens that count
pub expression_marks : (e : Expression) (l : ℕ) (us : Tokens) → expression_at e l us → marks e ≡ marks_in us
expression_marks (Number n at) l us d = sym (token_marks (tok.Int n) at us d)
expression_marks (Truth b at) l us d = truth_marks b at l us d
expression_marks (Nothing at) l us d = sym (token_marks (tok.Word word.Null) at us d)
expression_marks (Read p) l us d = path_marks p us d
expression_marks (Item p e) l us d =
    let a : marks_in us ≡ marks_in d.front + marks_in d.back = in_parts us d.front d.back d.parts in
    let b : length p.steps ≡ marks_in d.front = path_marks p d.front d.first in
    let c : marks_in d.back ≡ marks_in d.second.front + marks_in d.second.back =
    in_parts d.back d.second.front d.second.back d.second.parts in
    let f : marks_in d.second.front ≡ 1 = one_mark (tok.Sign sign.OpenBracket) d.second.front d.second.first in
    let q = d.second.second in
    let g : marks_in d.second.back ≡ marks_in q.front + marks_in q.back =
    in_parts d.second.back q.front q.back q.parts in
    let h : marks e ≡ marks_in q.front = expression_marks e 0 q.front q.first in
    let i : marks_in q.back ≡ 0 = one_mark (tok.Sign sign.CloseBracket) q.back q.second in
    omega (arith, a, b, c, f, g, h, i)
expression_marks (Length p at) l us d =
    let a : marks_in us ≡ marks_in d.front + marks_in d.back = in_parts us d.front d.back d.parts in
    let b : marks_in d.front ≡ 1 = token_marks (tok.Word word.Len) at d.front d.first in
    let c : length p.steps ≡ marks_in d.back = path_marks p d.back d.second in
    omega (arith, a, b, c)
expression_marks (Grouped e at) l us d =
    let a : marks_in us ≡ marks_in d.front + marks_in d.back = in_parts us d.front d.back d.parts in
    let b : marks_in d.front ≡ 1 = token_marks (tok.Sign sign.OpenParen) at d.front d.first in
    let q = d.second in
    let g : marks_in d.back ≡ marks_in q.front + marks_in q.back = in_parts d.back q.front q.back q.parts in
    let h : marks e ≡ marks_in q.front = expression_marks e 0 q.front q.first in
    let i : marks_in q.back ≡ 0 = one_mark (tok.Sign sign.CloseParen) q.back q.second in
    omega (arith, a, b, g, h, i)
expression_marks (Negated e at) l us d =
    let a : marks_in us ≡ marks_in d.front + marks_in d.back = in_parts us d.front d.back d.parts in
    let b : marks_in d.front ≡ 1 = token_marks (tok.Sign sign.Not) at d.front d.first in
    let c : marks e ≡ marks_in d.back = expression_marks e 5 d.back d.second in
    omega (arith, a, b, c)
expression_marks (Minus e at) l us d =
    let a : marks_in us ≡ marks_in d.front + marks_in d.back = in_parts us d.front d.back d.parts in
    let b : marks_in d.front ≡ 1 = token_marks (tok.Sign sign.Minus) at d.front d.first in
    let c : marks e ≡ marks_in d.back = expression_marks e 5 d.back d.second in
    omega (arith, a, b, c)
expression_marks (Binary o e g) l us d =
    let t = d.1 in
    let q = t.second in
    let a : marks_in us ≡ marks_in t.front + marks_in t.back = in_parts us t.front t.back t.parts in
    let b : marks e ≡ marks_in t.front = expression_marks e _ t.front t.first in
    let c : marks_in t.back ≡ marks_in q.front + marks_in q.back = in_parts t.back q.front q.back q.parts in
    let f : marks_in q.front ≡ weight (tok.Sign (sign_of o)) + 0 = one_mark (tok.Sign (sign_of o)) q.front q.first in
    let h : weight (tok.Sign (sign_of o)) ≡ 1 = operator_counts o in
    let i : marks g ≡ marks_in q.back = expression_marks g _ q.back q.second in
    omega (arith, a, b, c, f, h, i)
