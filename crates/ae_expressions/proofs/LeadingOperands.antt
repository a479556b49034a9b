-- The first operand of an expression, and what stands behind it.
use Rattle.std.proofs.Common.{◌≡◌, ℕ, ◌+◌, ◌≤◌, ◌++◌, [], ◌∷◌, length, Some, None, refl, sym, ap, ◌∙◌, append_assoc}
use Rattle.std.proofs.Common.{append-nil, subst, arith, inl, inr}
use Rattle.std.specs.Prelude.{◌⊎◌}
use Rattle.ae_text.specs.declared.refusal.Spot.{Spot}
use Rattle.ae_text.specs.declared.token.Sign.TheVariants as sign
use Rattle.ae_tree.specs.declared.lexeme.Lexeme.{Lexeme}
use Rattle.ae_tree.specs.declared.lexeme.Lexical.{Lexical}
use Rattle.ae_tree.specs.declared.lexeme.Lexical.TheVariants as tok
use Rattle.ae_tree.specs.declared.tree.Path.{Path}
use Rattle.ae_tree.specs.declared.tree.Op.{Op}
use Rattle.ae_tree.specs.Plain.{Expression, Number, Truth, Nothing, Read, Item, Length, Grouped, Negated, Minus, Binary}
use Rattle.ae_tree.specs.Grammar.{Tokens, path, level, left_level, sign_of}
use Rattle.ae_reading.specs.Reads.{head, Is, Isnt}
use Rattle.ae_expressions.proofs.from_reading.ReadsLemmas.{Follow}
use Rattle.ae_expressions.proofs.from_reading.UniquePaths.{IsRoot, begins_path, unique_path}
use Rattle.ae_expressions.proofs.from_reading.Begins.{Begins, of_other}
use Rattle.ae_expressions.proofs.UniqueExpressions.{left_cases, Form, OfPath, Parts, form, form_of, form_at_root}
use Rattle.ae_expressions.proofs.UniqueExpressions.{operand_cases, operand_first, begins_bracketed}
use Rattle.ae_expressions.specs.Productions.{at_level}
use Rattle.ae_expressions.proofs.OperatorLemmas.{no_operator}

-- an operator's sign at a place
abbrev pub operator_at : Op → Spot → Lexeme
operator_at o at = record { kind = tok.Sign (sign_of o); at = at }

-- nothing, or an operator whose left operand may end behind one of this level
abbrev pub Outer : ℕ → Tokens → Type 0
Outer l ts = (ts ≡ []) ⊎ ((o : Op) × (at : Spot) × (later : Tokens) × (ts ≡ operator_at o at ∷ later)
    × (left_level o ≤ l))

-- an operator of level l or above, its right operand, and what stands behind it
pub record Operated (l : ℕ) (ts : Tokens) : Type 0 where
  pub op : Op
  pub high : l ≤ level op
  pub at : Spot
  pub right : Expression
  pub text : Tokens
  pub rest : Tokens
  pub parts : ts ≡ operator_at op at ∷ (text ++ rest)
  pub derives : at_level (level op + 1) right text
  pub outer : Outer (level op) rest

pub record Leading (l : ℕ) (us : Tokens) : Type 0 where
  pub operand : Expression
  pub front : Tokens
  pub back : Tokens
  pub parts : us ≡ front ++ back
  pub is_operand : at_level 5 operand front
  pub behind : (back ≡ []) ⊎ Operated l back

alone : (l : ℕ) (e : Expression) (us : Tokens) → at_level 5 e us → Leading l us
alone l e us d = record {
  operand = e;
  front = us;
  back = [];
  parts = sym (append-nil us);
  is_operand = d;
  behind =
      inl refl;
}

left_above : (o : Op) → level o ≤ left_level o
left_above o = elim (left_cases o) [ inl e ↦ omega (arith, e) | inr e ↦ omega (arith, e) ]

outer_more : (l : ℕ) (rest : Tokens) (o : Op) (at : Spot) (text : Tokens) → left_level o ≤ l → Outer l rest
    → Outer l (rest ++ operator_at o at ∷ text)
outer_more l rest o at text low (inl none) = inr (o, at, text, ap (λ r. r ++ operator_at o at ∷ text) none, low)
outer_more l rest o at text low (inr w) =
    inr (w.0, w.1, w.2 ++ operator_at o at ∷ text, ap (λ r. r ++ operator_at o at ∷ text) w.3, w.4)

-- behind the left operand stand an operator and its right one
operated : (l : ℕ) (o : Op) (b : Expression) (at : Spot) (before text : Tokens) → l ≤ level o
    → at_level (level o + 1) b text → (before ≡ []) ⊎ Operated (left_level o) before
    → Operated l (before ++ operator_at o at ∷ text)
operated l o b at before text high d (inl none) =
    record {
      op = o;
      high = high;
      at = at;
      right = b;
      text = text;
      rest =
          [];
      parts = ap (λ k. k ++ operator_at o at ∷ text) none ∙ ap (λ k. operator_at o at ∷ k)
          (sym (append-nil text));
      derives = d;
      outer = inl refl;
    }
operated l o b at before text high d (inr w) =
    let h : left_level o ≤ level w.op = w.high in
    let k : level o ≤ left_level o = left_above o in
    record {
      op = w.op;
      high = omega (arith, high, h, k);
      at = w.at;
      right = w.right;
      text = w.text;
      rest = w.rest ++ operator_at o at ∷ text;
      parts = ap (λ k. k ++ operator_at o at ∷ text) w.parts ∙ ap (λ k. operator_at w.op w.at ∷ k)
          (append_assoc w.text w.rest (operator_at o at ∷ text));
      derives = w.derives;
      outer = outer_more (level w.op) w.rest o at text w.high w.outer;
    }

pub leading : (e : Expression) (l : ℕ) (us : Tokens) → at_level l e us → Leading l us
leading (Number n at) l us d = alone l (Number n at) us d
leading (Truth b at) l us d = alone l (Truth b at) us d
leading (Nothing at) l us d = alone l (Nothing at) us d
leading (Read p) l us d = alone l (Read p) us d
leading (Item p e) l us d = alone l (Item p e) us d
leading (Length p at) l us d = alone l (Length p at) us d
leading (Grouped e at) l us d = alone l (Grouped e at) us d
leading (Negated e at) l us d = alone l (Negated e at) us d
leading (Minus e at) l us d = alone l (Minus e at) us d
leading (Binary o a b) l us d =
    let t = d.1 in
    let q = t.second in
    let f = leading a (left_level o) t.front t.first in
    let at : Spot = q.first.0 in
    let sign_is : q.front ≡ operator_at o at ∷ [] = q.first.1 in
    let tail : t.back ≡ operator_at o at ∷ q.back = q.parts ∙ ap (λ k. k ++ q.back) sign_is in
    record {
      operand = f.operand;
      front = f.front;
      back = f.back ++ operator_at o at ∷ q.back;
      parts = t.parts ∙ ap (λ k. k ++ t.back) f.parts ∙ append_assoc f.front f.back t.back
          ∙ ap (λ k. f.front ++ (f.back ++ k)) tail;
      is_operand = f.is_operand;
      behind = inr (operated l o b at f.back q.back d.0 q.second f.behind);
    }

-- ---- what an expression begins with

abbrev pub IsStart : Follow
IsStart o = (t : Form) × (form_of o ≡ Some t)

operand_starts : (e : Expression) (us r : Tokens) → at_level 5 e us → IsStart (head (us ++ r))
operand_starts e us r d =
    let c = operand_cases (length us) 5 (omega arith) e us (omega arith, d) in
    (c.0, operand_first (length us) c.0 c.1 us r c.3)

pub begins_expression : (l : ℕ) → Begins (at_level l) IsStart
begins_expression l e us r d =
    let f = leading e l us d in
    let P : Tokens → Type 0 = λ k. IsStart (head k) in
    subst P (sym (append_assoc f.front f.back r) ∙ ap (λ k. k ++ r) (sym f.parts))
    (operand_starts f.operand f.front (f.back ++ r) f.is_operand)

-- ---- expressions that begin with a path

-- a path, and perhaps a `[` behind it
record PathFirst (us : Tokens) : Type 0 where
  path_ : Path
  front : Tokens
  back : Tokens
  parts : us ≡ front ++ back
  derives : path path_ front
  more : (back ≡ []) ⊎ ((r : Tokens) → Is (tok.Sign sign.OpenBracket) (head (back ++ r)))

path_first : (n : ℕ) (q : Parts OfPath) (us : Tokens) → form n OfPath q us → PathFirst us
path_first n (p, None) us d = record
    { path_ = p; front = d.front; back = d.back; parts = d.parts; derives = d.first; more = inl d.second }
path_first n (p, Some i) us d =
    record {
      path_ = p;
      front = d.front;
      back = d.back;
      parts = d.parts;
      derives = d.first;
      more =
          inr (λ r. begins_bracketed n i d.back r d.second);
    }

path_operand : (y : Expression) (us r : Tokens) → at_level 5 y us → IsRoot (head (us ++ r)) → PathFirst us
path_operand y us r d i =
    let c = operand_cases (length us) 5 (omega arith) y us (omega arith, d) in
    let some : Some c.0 ≡ Some OfPath = sym (operand_first (length us) c.0 c.1 us r c.3)
    ∙ form_at_root (head (us ++ r)) i in
    let e : c.0 ≡ OfPath = cc in
    let P : Form → Type 0 = λ z. (q : Parts z) → form (length us) z q us → PathFirst us in
    let here : P OfPath = λ q k. path_first (length us) q us k in
    subst P (sym e) here c.1 c.3

operator_isnt : (k : Lexical) → ((o : Op) → k ≡ tok.Sign (sign_of o) → ⊥) → (l : ℕ) (ts : Tokens) → Operated l ts
    → (r : Tokens) → Isnt k (head (ts ++ r))
operator_isnt k not_op l ts w r =
    let P : Tokens → Type 0 = λ z. Isnt k (head (z ++ r)) in
    subst P (sym w.parts) (λ e. not_op w.op (sym e))

behind_isnt : (k : Lexical) → ((o : Op) → k ≡ tok.Sign (sign_of o) → ⊥) → (l : ℕ) (ts r : Tokens)
    → (ts ≡ []) ⊎ Operated l ts → Isnt k (head r) → Isnt k (head (ts ++ r))
behind_isnt k not_op l ts r (inl none) i = let P : Tokens → Type 0 = λ z. Isnt k (head (z ++ r)) in subst P (sym none) i
behind_isnt k not_op l ts r (inr w) i = operator_isnt k not_op l ts w r

more_isnt : (ts r : Tokens) → (ts ≡ []) ⊎ ((s : Tokens) → Is (tok.Sign sign.OpenBracket) (head (ts ++ s)))
    → Isnt (tok.Sign sign.Dot) (head r) → Isnt (tok.Sign sign.Dot) (head (ts ++ r))
more_isnt ts r (inl none) i = let P : Tokens → Type 0 = λ z. Isnt (tok.Sign sign.Dot) (head (z ++ r)) in subst P
    (sym none) i
more_isnt ts r (inr opens) i = of_other (tok.Sign sign.OpenBracket) (tok.Sign sign.Dot) (λ e. cc) (head (ts ++ r))
    (opens r)

-- a path as the first operand, where these tokens stand behind it
pub record Behind (l : ℕ) (r after : Tokens) : Type 0 where
  pub back : Tokens
  pub behind : (back ≡ []) ⊎ Operated l back
  pub same : back ++ r ≡ after

behind_path : (l : ℕ) (ts back r after : Tokens)
    → (ts ≡ []) ⊎ ((s : Tokens) → Is (tok.Sign sign.OpenBracket) (head (ts ++ s))) → (back ≡ []) ⊎ Operated l back
    → ts ++ (back ++ r) ≡ after → Is (tok.Sign sign.OpenBracket) (head after) ⊎ Behind l r after
behind_path l ts back r after (inl none) b e =
    inr (record { back = back; behind = b; same = ap (λ z. z ++ (back ++ r)) (sym none) ∙ e })
behind_path l ts back r after (inr opens) b e = let P : Tokens → Type 0 =
    λ z. Is (tok.Sign sign.OpenBracket) (head z) in inl (subst P e (opens (back ++ r)))

-- An expression whose text begins with a path: a `[` follows the path, or the path is its first operand.
pub leads_path : (l : ℕ) (e : Expression) (us r : Tokens) (p : Path) (ps after : Tokens) → at_level l e us → path p ps
    → us ++ r ≡ ps ++ after → Isnt (tok.Sign sign.Dot) (head after) → Isnt (tok.Sign sign.Dot) (head r)
    → Is (tok.Sign sign.OpenBracket) (head after) ⊎ Behind l r after
leads_path l e us r p ps after d q same ends_after ends =
    let f = leading e l us d in
    let whole_is : f.front ++ (f.back ++ r) ≡ ps ++ after = sym (append_assoc f.front f.back r)
    ∙ ap (λ k. k ++ r) (sym f.parts) ∙ same in
    let R : Tokens → Type 0 = λ k. IsRoot (head k) in
    let g = path_operand f.operand f.front (f.back ++ r) f.is_operand
    (subst R (sym whole_is) (begins_path p ps after q)) in
    let all : g.front ++ (g.back ++ (f.back ++ r)) ≡ ps ++ after = sym (append_assoc g.front g.back (f.back ++ r))
    ∙ ap (λ k. k ++ (f.back ++ r)) (sym g.parts) ∙ whole_is in
    let inner : Isnt (tok.Sign sign.Dot) (head (f.back ++ r)) = behind_isnt (tok.Sign sign.Dot)
    (λ o e. no_operator sign.Dot refl o e) l f.back r f.behind ends in
    let o = unique_path g.path_ p g.front ps (g.back ++ (f.back ++ r)) after g.derives q all
    (more_isnt g.back (f.back ++ r) g.more inner) ends_after in
    behind_path l g.back f.back r after g.more f.behind o.1

-- the path that an expression begins with
pub record Led (us r : Tokens) : Type 0 where
  pub path_ : Path
  pub front : Tokens
  pub back : Tokens
  pub parts : us ++ r ≡ front ++ back
  pub derives : path path_ front
  pub ends : Isnt (tok.Sign sign.Dot) (head back)

pub led_by_path : (l : ℕ) (e : Expression) (us r : Tokens) → at_level l e us → IsRoot (head (us ++ r))
    → Isnt (tok.Sign sign.Dot) (head r) → Led us r
led_by_path l e us r d root ends =
    let f = leading e l us d in
    let whole_is : us ++ r ≡ f.front ++ (f.back ++ r) = ap (λ k. k ++ r) f.parts ∙ append_assoc f.front f.back r in
    let R : Tokens → Type 0 = λ k. IsRoot (head k) in
    let g = path_operand f.operand f.front (f.back ++ r) f.is_operand (subst R whole_is root) in
    let inner : Isnt (tok.Sign sign.Dot) (head (f.back ++ r)) = behind_isnt (tok.Sign sign.Dot)
    (λ o e. no_operator sign.Dot refl o e) l f.back r f.behind ends in
    record {
      path_ = g.path_;
      front = g.front;
      back = g.back ++ (f.back ++ r);
      parts = whole_is ∙ ap (λ k. k ++ (f.back ++ r)) g.parts ∙ append_assoc g.front g.back (f.back ++ r);
      derives = g.derives;
      ends = more_isnt g.back (f.back ++ r) g.more inner;
    }
