-- Tokens stand for one expression at most.
use Rattle.std.proofs.Common.{◌≡◌, ℕ, suc, zero, ◌+◌, ◌≤◌, ◌<◌, ◌++◌, [], ◌∷◌, length, Option, Some, None, refl, sym}
use Rattle.std.proofs.Common.{ap, ◌∙◌, append-nil, subst, arith, ℤ, inl, inr}
use Rattle.std.specs.Prelude.{◌⊎◌, Bool, true, false}
use Rattle.std.proofs.lemmas.Bool.{cases_lt}
use Rattle.ae_text.specs.declared.refusal.Spot.{Spot}
use Rattle.ae_text.specs.declared.token.Keyword.{Keyword}
use Rattle.ae_text.specs.declared.token.Keyword.TheVariants as word
use Rattle.ae_text.specs.declared.token.Sign.{Sign}
use Rattle.ae_text.specs.declared.token.Sign.TheVariants as sign
use Rattle.ae_tree.specs.declared.lexeme.Lexeme.{Lexeme}
use Rattle.ae_tree.specs.declared.lexeme.Lexical.{Lexical}
use Rattle.ae_tree.specs.declared.lexeme.Lexical.TheVariants as tok
use Rattle.ae_tree.specs.declared.tree.Path.{Path}
use Rattle.ae_tree.specs.declared.tree.Op.{Op}
use Rattle.ae_tree.specs.declared.tree.Op.TheVariants as op
use Rattle.ae_tree.specs.Plain.{Expression, Number, Truth, Nothing, Read, Item, Length, Grouped, Negated, Minus, Binary}
use Rattle.ae_tree.specs.Grammar.{Tokens, ◌⨾◌, one_token, one_by_one, path, level, left_level, sign_of, a_sign}
use Rattle.ae_tree.specs.Grammar.{truth_word, expression_at}
use Rattle.ae_reading.specs.Reads.{head, Always, Is, Isnt, Token, TokenMark}
use Rattle.ae_expressions.proofs.from_reading.ReadsLemmas.{Lang, Both, Links, lengths}
use Rattle.ae_expressions.proofs.from_reading.UniqueLemmas.{Unique, Apart, apart_by, unique_token, unique_at}
use Rattle.ae_expressions.proofs.from_reading.UniqueLemmas.{unique_mark, unique_then, unique_both, unique_each}
use Rattle.ae_expressions.proofs.from_reading.UniqueLemmas.{unique_as, unique_under, unique_always, unique_choice}
use Rattle.ae_expressions.proofs.from_reading.UniqueLemmas.{by_first, unique_optional}
use Rattle.ae_expressions.proofs.from_reading.UniquePaths.{IsRoot, begins_path, unique_path}
use Rattle.ae_expressions.proofs.from_reading.Runs.{each_turns}
use Rattle.ae_expressions.proofs.from_reading.Begins.{Begins, begins_token, begins_mark, begins_both, of_kind}
use Rattle.ae_expressions.proofs.from_reading.Begins.{of_other, links_by, is_isnt}
use Rattle.ae_expressions.proofs.from_reading.Parts.{optional}
use Rattle.ae_expressions.specs.Ends.{Ends}
use Rattle.ae_expressions.specs.Productions.{at_level, operator_of}
use Rattle.ae_expressions.proofs.OperatorLemmas.{same_operator, no_operator, low_level, ends_later}
use Rattle.ae_expressions.proofs.ChainLemmas.{item_of, adds, chained_of, IsChain, one_chain, longer_chain}
use Rattle.ae_expressions.proofs.ChainLemmas.{begins_item, item_goes}

-- ---- operators

pub left_cases : (o : Op) → (left_level o ≡ level o) ⊎ (left_level o ≡ level o + 1)
left_cases op.Or = inl refl
left_cases op.And = inl refl
left_cases op.Eq = inr refl
left_cases op.Ne = inr refl
left_cases op.Lt = inr refl
left_cases op.Le = inr refl
left_cases op.Gt = inr refl
left_cases op.Ge = inr refl
left_cases op.Add = inl refl
left_cases op.Sub = inl refl
left_cases op.Mul = inl refl
left_cases op.Div = inl refl
left_cases op.Rem = inl refl

-- ---- what may follow

-- a token that is no operator, no `.` and no `[` ends an expression
pub other_ends : (l : ℕ) (k : Lexical) → ((o : Op) → k ≡ tok.Sign (sign_of o) → ⊥) → (k ≡ tok.Sign sign.Dot → ⊥)
    → (k ≡ tok.Sign sign.OpenBracket → ⊥) → (o : Option Lexeme) → Is k o → Ends l o
other_ends l k not_op not_dot not_open = of_kind k (Ends l) (λ at. ((λ o e. absurd (not_op o e)), not_dot, not_open))

pub sign_ends : (l : ℕ) (g : Sign) → operator_of g ≡ None → (tok.Sign g ≡ tok.Sign sign.Dot → ⊥)
    → (tok.Sign g ≡ tok.Sign sign.OpenBracket → ⊥) → (o : Option Lexeme) → Is (tok.Sign g) o → Ends l o
sign_ends l g none not_dot not_open = other_ends l (tok.Sign g) (λ o e. no_operator g none o e) not_dot not_open

pub ends_dot : (l : ℕ) (o : Option Lexeme) → Ends l o → Isnt (tok.Sign sign.Dot) o
ends_dot l None e = tt
ends_dot l (Some t) e = e.1

pub ends_open : (l : ℕ) (o : Option Lexeme) → Ends l o → Isnt (tok.Sign sign.OpenBracket) o
ends_open l None e = tt
ends_open l (Some t) e = e.2

ends_top : (l : ℕ) (o : Option Lexeme) → Ends l o → Ends 5 o
ends_top l None e = tt
ends_top l (Some t) e = ((λ o k. let h : level o ≤ 4 = low_level o in omega (arith, h)), e.1, e.2)

-- ---- expressions with fewer than n tokens

abbrev pub Short : ℕ → ℕ → Lang Expression
Short n l e us = (length us < n) × expression_at e l us

one_long : (k : Lexical) (us : Tokens) → one_token k us → length us ≡ 1
one_long k us d = ap length d.1

-- an expression behind some token, and then more
shorter : (p q : Tokens → Type 0) (n l : ℕ) (e : Expression) (us : Tokens) → ((ws : Tokens) → p ws → length ws ≡ 1)
    → length us < suc n → (p ⨾ expression_at e l ⨾ q) us → (p ⨾ Short n l e ⨾ q) us
shorter p q n l e us long less d =
    let a : length us ≡ length d.front + length d.back = lengths us d.front d.back d.parts in
    let b : length d.back ≡ length d.second.front + length d.second.back = lengths d.back d.second.front d.second.back
    d.second.parts in
    let c : length d.front ≡ 1 = long d.front d.first in
    record {
      front = d.front;
      back = d.back;
      parts = d.parts;
      first = d.first;
      second =
          record {
            front = d.second.front;
            back = d.second.back;
            parts = d.second.parts;
            first =
                (omega (arith, a, b, c, less), d.second.first);
            second = d.second.second;
          };
    }

shorter_last : (p : Tokens → Type 0) (n l : ℕ) (e : Expression) (us : Tokens) → ((ws : Tokens) → p ws → length ws ≡ 1)
    → length us < suc n → (p ⨾ expression_at e l) us → (p ⨾ Short n l e) us
shorter_last p n l e us long less d =
    let a : length us ≡ length d.front + length d.back = lengths us d.front d.back d.parts in
    let c : length d.front ≡ 1 = long d.front d.first in
    record {
      front = d.front;
      back = d.back;
      parts = d.parts;
      first = d.first;
      second =
          (omega (arith, a, c, less), d.second);
    }

-- ---- operands

pub data Form : Type 0 where
  OfNumber : Form
  OfTruth : Form
  OfNull : Form
  OfPath : Form
  OfLength : Form
  OfGroup : Form
  OfNot : Form
  OfMinus : Form

abbrev pub Bracketed : Type 0
Bracketed = Unit {0} × (Expression × Unit {0})

abbrev pub Parts : Form → Type 0
Parts OfNumber = ℤ × Spot
Parts OfTruth = Bool × Spot
Parts OfNull = Spot
Parts OfPath = Path × Option Bracketed
Parts OfLength = Spot × Path
Parts OfGroup = Spot × (Expression × Unit {0})
Parts OfNot = Spot × Expression
Parts OfMinus = Spot × Expression

abbrev pub number_token : ℤ × Spot → Lexeme
number_token q = record { kind = tok.Int q.0; at = q.1 }

abbrev pub truth_token : Bool × Spot → Lexeme
truth_token q = record { kind = tok.Word (truth_word q.0); at = q.1 }

abbrev pub bracketed : ℕ → Lang Bracketed
bracketed n = Both (TokenMark (tok.Sign sign.OpenBracket)) (Both (Short n 0) (TokenMark (tok.Sign sign.CloseBracket)))

abbrev pub grouped : ℕ → Lang (Spot × (Expression × Unit {0}))
grouped n = Both (Token (tok.Sign sign.OpenParen)) (Both (Short n 0) (TokenMark (tok.Sign sign.CloseParen)))

abbrev pub form : ℕ → (t : Form) → Lang (Parts t)
form n OfNumber q us = us ≡ number_token q ∷ []
form n OfTruth q us = us ≡ truth_token q ∷ []
form n OfNull q us = Token (tok.Word word.Null) q us
form n OfPath q us = Both path (optional (bracketed n)) q us
form n OfLength q us = Both (Token (tok.Word word.Len)) path q us
form n OfGroup q us = grouped n q us
form n OfNot q us = Both (Token (tok.Sign sign.Not)) (Short n 5) q us
form n OfMinus q us = Both (Token (tok.Sign sign.Minus)) (Short n 5) q us

abbrev pub read_or_item : Path → Option Bracketed → Expression
read_or_item p None = Read p
read_or_item p (Some i) = Item p i.1.0

abbrev pub build : (t : Form) → Parts t → Expression
build OfNumber q = Number q.0 q.1
build OfTruth q = Truth q.0 q.1
build OfNull q = Nothing q
build OfPath q = read_or_item q.0 q.1
build OfLength q = Length q.1 q.0
build OfGroup q = Grouped q.1.0 q.0
build OfNot q = Negated q.1 q.0
build OfMinus q = Minus q.1 q.0

pub operand_cases : (n l : ℕ) → 5 ≤ l → (y : Expression) (us : Tokens) → Short (suc n) l y us
    → (t : Form) × (q : Parts t) × (y ≡ build t q) × form n t q us
operand_cases n l high (Number k at) us d = (OfNumber, (k, at), refl, d.1)
operand_cases n l high (Truth b at) us d = (OfTruth, (b, at), refl, d.1)
operand_cases n l high (Nothing at) us d = (OfNull, at, refl, d.1)
operand_cases n l high (Read p) us d = (
  OfPath,
  (p, None),
  refl,
  record {
    front = us;
    back = [];
    parts = sym (append-nil us);
    first = d.1;
    second =
        refl;
  },
)
operand_cases n l high (Item p e) us d =
    let e0 = d.1 in
    let a : length us ≡ length e0.front + length e0.back = lengths us e0.front e0.back e0.parts in
    let less : length us < suc n = d.0 in (
      OfPath,
      (p, Some (tt, (e, tt))),
      refl,
      record { front = e0.front; back = e0.back; parts = e0.parts; first = e0.first; second = shorter (one_token (tok.Sign sign.OpenBracket)) (one_token (tok.Sign sign.CloseBracket)) n 0 e e0.back (one_long (tok.Sign sign.OpenBracket)) (omega (arith, a, less)) e0.second },
    )
operand_cases n l high (Length p at) us d = (OfLength, (at, p), refl, d.1)
operand_cases n l high (Grouped e at) us d = (
  OfGroup,
  (at, (e, tt)),
  refl,
  shorter (Token (tok.Sign sign.OpenParen) at) (one_token (tok.Sign sign.CloseParen))
      n 0 e us (λ ws t. ap length t) d.0 d.1,
)
operand_cases n l high (Negated e at) us d =
    (OfNot, (at, e), refl, shorter_last (Token (tok.Sign sign.Not) at) n 5 e us (λ ws t. ap length t) d.0 d.1)
operand_cases n l high (Minus e at) us d =
    (OfMinus, (at, e), refl, shorter_last (Token (tok.Sign sign.Minus) at) n 5 e us (λ ws t. ap length t) d.0 d.1)
operand_cases n l high (Binary o a b) us d = let h : l ≤ level o = d.1.0 in absurd (omega (arith, low_level o, h, high))

abbrev pub word_form : Keyword → Option Form
word_form word.True = Some OfTruth
word_form word.False = Some OfTruth
word_form word.Null = Some OfNull
word_form word.This = Some OfPath
word_form word.Len = Some OfLength
word_form _ = None

abbrev pub sign_form : Sign → Option Form
sign_form sign.OpenParen = Some OfGroup
sign_form sign.Not = Some OfNot
sign_form sign.Minus = Some OfMinus
sign_form _ = None

abbrev pub kind_form : Lexical → Option Form
kind_form (tok.Name n) = Some OfPath
kind_form (tok.Int n) = Some OfNumber
kind_form (tok.Text s) = None
kind_form (tok.Word w) = word_form w
kind_form (tok.Sign g) = sign_form g
kind_form tok.End = None

-- the form of an operand that begins with this token
abbrev pub form_of : Option Lexeme → Option Form
form_of None = None
form_of (Some t) = kind_form t.kind

form_at : (k : Lexical) (t : Form) → kind_form k ≡ Some t → (o : Option Lexeme) → Is k o → form_of o ≡ Some t
form_at k t e = of_kind k (λ o. form_of o ≡ Some t) (λ at. e)

pub form_at_root : (o : Option Lexeme) → IsRoot o → form_of o ≡ Some OfPath
form_at_root None (inl i) = absurd i
form_at_root (Some t) (inl i) = form_at (tok.Name i.0) OfPath refl (Some t) i.1
form_at_root o (inr i) = form_at (tok.Word word.This) OfPath refl o i

pub operand_first : (n : ℕ) (t : Form) (q : Parts t) (us r : Tokens) → form n t q us → form_of (head (us ++ r)) ≡ Some t
operand_first n OfNumber q us r d = form_at (tok.Int q.0) OfNumber refl (head (us ++ r))
    (begins_token (tok.Int q.0) q.1 us r d)
operand_first n OfTruth (true, at) us r d = form_at (tok.Word word.True) OfTruth refl (head (us ++ r))
    (begins_token (tok.Word word.True) at us r d)
operand_first n OfTruth (false, at) us r d = form_at (tok.Word word.False) OfTruth refl (head (us ++ r))
    (begins_token (tok.Word word.False) at us r d)
operand_first n OfNull q us r d = form_at (tok.Word word.Null) OfNull refl (head (us ++ r))
    (begins_token (tok.Word word.Null) q us r d)
operand_first n OfPath q us r d = form_at_root (head (us ++ r))
    (begins_both path (λ p. optional (bracketed n)) IsRoot begins_path q us r d)
operand_first n OfLength q us r d = form_at (tok.Word word.Len) OfLength refl (head (us ++ r))
    (begins_both (Token (tok.Word word.Len)) (λ p. path) (Is (tok.Word word.Len)) (begins_token (tok.Word word.Len)) q
    us r d)
operand_first n OfGroup q us r d = form_at (tok.Sign sign.OpenParen) OfGroup refl (head (us ++ r))
    (begins_both (Token (tok.Sign sign.OpenParen)) (λ p. Both (Short n 0) (TokenMark (tok.Sign sign.CloseParen)))
    (Is (tok.Sign sign.OpenParen)) (begins_token (tok.Sign sign.OpenParen)) q us r d)
operand_first n OfNot q us r d = form_at (tok.Sign sign.Not) OfNot refl (head (us ++ r))
    (begins_both (Token (tok.Sign sign.Not)) (λ p. Short n 5) (Is (tok.Sign sign.Not))
    (begins_token (tok.Sign sign.Not)) q us r d)
operand_first n OfMinus q us r d = form_at (tok.Sign sign.Minus) OfMinus refl (head (us ++ r))
    (begins_both (Token (tok.Sign sign.Minus)) (λ p. Short n 5) (Is (tok.Sign sign.Minus))
    (begins_token (tok.Sign sign.Minus)) q us r d)

number_same : (x y : ℤ × Spot) → number_token x ≡ number_token y → x ≡ y
number_same x y p =
    let at : x.1 ≡ y.1 = ap (λ (l : Lexeme). l.at) p in
    let k : tok.Int x.0 ≡ tok.Int y.0 = ap (λ (l : Lexeme). l.kind) p in
    let v : x.0 ≡ y.0 = cc in
    ap (λ a. (a, x.1)) v ∙ ap (λ b. (y.0, b)) at

truth_value : (a b : Bool) → tok.Word (truth_word a) ≡ tok.Word (truth_word b) → a ≡ b
truth_value true true e = refl
truth_value true false e = cc
truth_value false true e = cc
truth_value false false e = refl

truth_same : (x y : Bool × Spot) → truth_token x ≡ truth_token y → x ≡ y
truth_same x y p =
    let at : x.1 ≡ y.1 = ap (λ (l : Lexeme). l.at) p in
    let v : x.0 ≡ y.0 = truth_value x.0 y.0 (ap (λ (l : Lexeme). l.kind) p) in
    ap (λ a. (a, x.1)) v ∙ ap (λ b. (y.0, b)) at

pub begins_bracketed : (n : ℕ) → Begins (bracketed n) (Is (tok.Sign sign.OpenBracket))
begins_bracketed n = begins_both (TokenMark (tok.Sign sign.OpenBracket))
    (λ p. Both (Short n 0) (TokenMark (tok.Sign sign.CloseBracket))) (Is (tok.Sign sign.OpenBracket))
    (begins_mark (tok.Sign sign.OpenBracket))

path_ends : (n l : ℕ) → Links (optional (bracketed n)) (Ends l) (Isnt (tok.Sign sign.Dot))
path_ends n l None us r d f = let P : Tokens → Type 0 = λ l. Isnt (tok.Sign sign.Dot) (head (l ++ r)) in subst P
    (sym d) (ends_dot l (head r) f)
path_ends n l (Some i) us r d f = of_other (tok.Sign sign.OpenBracket) (tok.Sign sign.Dot) (λ e. cc) (head (us ++ r))
    (begins_bracketed n i us r d)

-- a closing sign behind an expression
unique_closed : (n : ℕ) (g : Sign) → operator_of g ≡ None → (tok.Sign g ≡ tok.Sign sign.Dot → ⊥)
    → (tok.Sign g ≡ tok.Sign sign.OpenBracket → ⊥) → Unique (Short n 0) (Ends 0)
    → Unique (Both (Short n 0) (TokenMark (tok.Sign g))) Always
unique_closed n g none not_dot not_open one_token = unique_both (Short n 0) (TokenMark (tok.Sign g)) (Ends 0) Always
    (links_by (TokenMark (tok.Sign g)) (Is (tok.Sign g)) (Ends 0) (sign_ends 0 g none not_dot not_open)
    (begins_mark (tok.Sign g)) Always) one_token (unique_mark (tok.Sign g))

unique_form : (n l : ℕ) → ((k : ℕ) → Unique (Short n k) (Ends k)) → (t : Form) → Unique (form n t) (Ends l)
unique_form n l ih OfNumber = unique_always (form n OfNumber) (Ends l) (unique_token number_token number_same)
unique_form n l ih OfTruth = unique_always (form n OfTruth) (Ends l) (unique_token truth_token truth_same)
unique_form n l ih OfNull = unique_always (form n OfNull) (Ends l) (unique_at (tok.Word word.Null))
unique_form n l ih OfPath = unique_both path (optional (bracketed n)) (Isnt (tok.Sign sign.Dot)) (Ends l)
    (path_ends n l) unique_path
    (unique_optional (bracketed n) (Ends l)
    (apart_by (bracketed n) (Is (tok.Sign sign.OpenBracket)) (Ends l)
    (λ o i e. is_isnt (tok.Sign sign.OpenBracket) o i (ends_open l o e)) (begins_bracketed n))
    (unique_always (bracketed n) (Ends l)
    (unique_then (TokenMark (tok.Sign sign.OpenBracket))
    (Both (Short n 0) (TokenMark (tok.Sign sign.CloseBracket))) Always (unique_mark (tok.Sign sign.OpenBracket))
    (unique_closed n sign.CloseBracket refl (λ e. cc) (λ e. cc) (ih 0)))))
unique_form n l ih OfLength = unique_then (Token (tok.Word word.Len)) path (Ends l) (unique_at (tok.Word word.Len))
    (unique_under path (Ends l) (Isnt (tok.Sign sign.Dot)) (ends_dot l) unique_path)
unique_form n l ih OfGroup = unique_always (grouped n) (Ends l)
    (unique_then (Token (tok.Sign sign.OpenParen)) (Both (Short n 0) (TokenMark (tok.Sign sign.CloseParen))) Always
    (unique_at (tok.Sign sign.OpenParen)) (unique_closed n sign.CloseParen refl (λ e. cc) (λ e. cc) (ih 0)))
unique_form n l ih OfNot = unique_then (Token (tok.Sign sign.Not)) (Short n 5) (Ends l)
    (unique_at (tok.Sign sign.Not)) (unique_under (Short n 5) (Ends l) (Ends 5) (ends_top l) (ih 5))
unique_form n l ih OfMinus = unique_then (Token (tok.Sign sign.Minus)) (Short n 5) (Ends l)
    (unique_at (tok.Sign sign.Minus)) (unique_under (Short n 5) (Ends l) (Ends 5) (ends_top l) (ih 5))

unique_operand : (n l : ℕ) → 5 ≤ l → ((k : ℕ) → Unique (Short n k) (Ends k)) → Unique (Short (suc n) l) (Ends l)
unique_operand n l high ih = unique_choice Parts (form n) build (Short (suc n) l) (Ends l) (operand_cases n l high)
    (by_first Parts (form n) (Ends l) form_of (λ t q us r d f. operand_first n t q us r d)) (unique_form n l ih)

-- ---- chains of operands

is_chain : (m l : ℕ) (y : Expression) (us : Tokens) → Short m l y us → IsChain (Short m) l y us
is_chain m l (Number n at) us d = one_chain (Short m) l (Number n at) us d
is_chain m l (Truth b at) us d = one_chain (Short m) l (Truth b at) us d
is_chain m l (Nothing at) us d = one_chain (Short m) l (Nothing at) us d
is_chain m l (Read p) us d = one_chain (Short m) l (Read p) us d
is_chain m l (Item p e) us d = one_chain (Short m) l (Item p e) us d
is_chain m l (Length p at) us d = one_chain (Short m) l (Length p at) us d
is_chain m l (Grouped e at) us d = one_chain (Short m) l (Grouped e at) us d
is_chain m l (Negated e at) us d = one_chain (Short m) l (Negated e at) us d
is_chain m l (Minus e at) us d = one_chain (Short m) l (Minus e at) us d
is_chain m l (Binary o a b) us d = elim (cases_lt l (level o)) [
  | inl less ↦ one_chain (Short m) l (Binary o a b) us (d.0, (omega (arith, less), d.1.1))
  | inr other ↦
      let e : level o ≡ l = omega (arith, other, d.1.0) in
      let t = d.1.1 in
      let short : length us < m = d.0 in
      let n1 : length us ≡ length t.front + length t.back = lengths us t.front t.back t.parts in
      let n2 : length t.back ≡ length t.second.front + length t.second.back =
      lengths t.back t.second.front t.second.back t.second.parts in
      let B : ℕ → Type 0 = λ k. expression_at b (k + 1) t.second.back in
      let right : item_of (Short m) l (o, b) t.back = (
        e,
        record {
          front = t.second.front;
          back = t.second.back;
          parts = t.second.parts;
          first =
              t.second.first;
          second = (omega (arith, n1, n2, short), subst B e t.second.second);
        },
      ) in
      let A : ℕ → Type 0 = λ k. expression_at a k t.front in
      let left : IsChain (Short m) l a t.front = elim (left_cases o) [
        | inl same ↦ is_chain m l a t.front (omega (arith, n1, short), subst A (same ∙ e) t.first)
        | inr above ↦ one_chain (Short m) l a t.front
            (omega (arith, n1, short), subst A (above ∙ ap (λ k. k + 1) e) t.first)
      ] in
      let P : Tokens → Type 0 = IsChain (Short m) l (Binary o a b) in
      subst P (sym t.parts) (longer_chain (Short m) l o a b t.front t.back left right)
]

low_ends : (l : ℕ) (o : Op) → level o ≡ l → (f : Option Lexeme) → Is (tok.Sign (sign_of o)) f → Ends l f → ⊥
low_ends l o e None i f = i
low_ends l o e (Some t) i f = let h : level o < l = f.0 o i in omega (arith, h, e)

item_apart : (m l : ℕ) → Apart (item_of (Short m) l) (Ends l)
item_apart m l q us r d f = low_ends l q.0 d.0 (head (us ++ r)) (begins_item (Short m) l q us r d) f

same_sign : (o p : Op) (f : Option Lexeme) → Is (tok.Sign (sign_of o)) f → Is (tok.Sign (sign_of p)) f → o ≡ p
same_sign o p None i h = absurd i
same_sign o p (Some t) i h = same_operator o p (sym i ∙ h)

unique_item : (m l : ℕ) → Unique (Short m (l + 1)) (Ends (l + 1)) → Unique (item_of (Short m) l) (Ends (l + 1))
unique_item m l one_token x y us vs r s d e same t u =
    let Q : Option Lexeme → Type 0 = Is (tok.Sign (sign_of x.0)) in
    let op : x.0 ≡ y.0 = same_sign x.0 y.0 (head (vs ++ s))
    (subst Q (ap head same) (begins_item (Short m) l x us r d)) (begins_item (Short m) l y vs s e) in
    let P : Op → Type 0 = λ o. (a_sign (sign_of o) ⨾ Short m (l + 1) x.1) us in
    let rest = unique_then (TokenMark (tok.Sign (sign_of y.0))) (Short m (l + 1)) (Ends (l + 1))
    (unique_mark (tok.Sign (sign_of y.0))) one_token
    (tt, x.1) (tt, y.1) us vs r s (subst P op d.1) e.1 same t u in
    (ap (λ o. (o, x.1)) op ∙ ap (λ (p : Unit {0} × Expression). (y.0, p.1)) rest.0, rest.1)

unique_chain : (m l : ℕ) → Unique (Short m (l + 1)) (Ends (l + 1)) → Unique (Short m l) (Ends l)
unique_chain m l one_token = unique_as (Short m l) (chained_of (Short m) l) (Ends l) (λ q. adds q.0 q.1) (is_chain m l)
    (unique_both (Short m (l + 1)) (one_by_one (item_of (Short m) l)) (Ends (l + 1)) (Ends l)
    (each_turns (item_of (Short m) l) (Ends l) (Ends (l + 1)) (item_goes (Short m) l) (ends_later l)) one_token
    (unique_each (item_of (Short m) l) (Ends l) (Ends (l + 1)) (item_goes (Short m) l) (ends_later l) (item_apart m l)
    (unique_item m l one_token)))

-- ---- all levels

below_top : (m k l : ℕ) → 5 ≤ l + k → ((j : ℕ) → 5 ≤ j → Unique (Short m j) (Ends j)) → Unique (Short m l) (Ends l)
below_top m zero l high top = top l (omega (arith, high))
below_top m (suc k) l high top = unique_chain m l (below_top m k (l + 1) (omega (arith, high)) top)

unique_short : (n l : ℕ) → Unique (Short n l) (Ends l)
unique_short zero l x y us vs r s d e same t u = let h : length us < 0 = d.0 in absurd (omega (arith, h))
unique_short (suc n) l x y us vs r s d e same t u = below_top (suc n) 5 l (omega arith)
    (λ j high. unique_operand n j high (unique_short n)) x y us vs r s d e same t u

-- tokens stand for one expression of a level at most
pub unique_expression : (l : ℕ) → Unique (at_level l) (Ends l)
unique_expression l x y us vs r s d e same t u = unique_short (suc (length us + length vs)) l x y us vs r s
    (omega arith, d) (omega arith, e) same t u
