-- With which tokens an expression goes on behind a path.
use Rattle.std.proofs.Common.{◌≡◌, ℕ, ◌+◌, ◌≤◌, ◌++◌, [], ◌∷◌, ◌⊎◌, inl, inr, Bool, true, false, Option, Some, None}
use Rattle.std.proofs.Common.{refl, sym, ap, ◌∙◌, append_assoc, subst, arith}
use Rattle.ae_text.specs.declared.refusal.Spot.{Spot}
use Rattle.ae_text.specs.declared.token.Keyword.{Keyword}
use Rattle.ae_text.specs.declared.token.Keyword.TheVariants as word
use Rattle.ae_text.specs.declared.token.Sign.{Sign}
use Rattle.ae_text.specs.declared.token.Sign.TheVariants as sign
use Rattle.ae_tree.specs.declared.lexeme.Lexeme.{Lexeme}
use Rattle.ae_tree.specs.declared.lexeme.Lexical.{Lexical}
use Rattle.ae_tree.specs.declared.lexeme.Lexical.TheVariants as tok
use Rattle.ae_tree.specs.declared.tree.Path.{Path}
use Rattle.ae_tree.specs.declared.tree.Op.{Op}
use Rattle.ae_tree.specs.declared.tree.Op.TheVariants as op
use Rattle.ae_tree.specs.Names.{this}
use Rattle.ae_tree.specs.Plain.{Expression, Number, Truth, Nothing, Read, Item, Length, Grouped, Negated, Minus, Binary}
use Rattle.ae_tree.specs.Grammar.{Tokens, path, level, left_level, sign_of, whole_expression, expression_at}
use Rattle.ae_tree.specs.Refused.{AreSpellable}
use Rattle.ae_reading.specs.Reads.{head, Is, Isnt, IsName}
use Rattle.ae_statements.proofs.from_reading.ReadsLemmas.{nowhere, io_name, AreKnown-append}
use Rattle.ae_statements.proofs.from_reading.UniquePaths.{IsRoot, begins_path}
use Rattle.ae_statements.proofs.from_reading.Begins.{of_other, not_both}
use Rattle.ae_statements.proofs.from_expressions.UniqueExpressions.{Form, kind_form, word_form, sign_form}
use Rattle.ae_statements.proofs.from_expressions.LeadingOperands.{operator_at, Outer, Operated, IsStart, leads_path}
use Rattle.ae_statements.proofs.from_expressions.LeadingOperands.{begins_expression, led_by_path}
use Rattle.ae_expressions.specs.Productions.{at_level}
use Rattle.ae_statements.proofs.from_expressions.OperatorLemmas.{same_operator}
use Rattle.ae_statements.specs.Productions.{with_semicolon}
use Rattle.ae_statements.specs.Deciding.{Comparing, starts, follows_path, follows_compared}
use Rattle.ae_statements.proofs.SideLemmas.{Dot, one_of, name_of, path_goes}
use Rattle.ae_statements.proofs.SplitLemmas.{sign_at, io_at, zero_at, nought, named, compared}

abbrev pub semicolon : Lexical
semicolon = tok.Sign sign.Semicolon

-- ---- kinds of tokens

path_sign : (g : Sign) → follows_path (tok.Sign g) ≡ true → (tok.Sign g ≡ tok.Sign sign.Semicolon)
    ⊎ (tok.Sign g ≡ tok.Sign sign.OpenBracket) ⊎ ((o : Op) × (tok.Sign g ≡ tok.Sign (sign_of o)))
path_sign sign.Semicolon e = inl refl
path_sign sign.OpenBracket e = inr (inl refl)
path_sign sign.OrOr e = inr (inr (op.Or, refl))
path_sign sign.AndAnd e = inr (inr (op.And, refl))
path_sign sign.Equal e = inr (inr (op.Eq, refl))
path_sign sign.NotEqual e = inr (inr (op.Ne, refl))
path_sign sign.Less e = inr (inr (op.Lt, refl))
path_sign sign.LessEqual e = inr (inr (op.Le, refl))
path_sign sign.Greater e = inr (inr (op.Gt, refl))
path_sign sign.GreaterEqual e = inr (inr (op.Ge, refl))
path_sign sign.Plus e = inr (inr (op.Add, refl))
path_sign sign.Minus e = inr (inr (op.Sub, refl))
path_sign sign.Star e = inr (inr (op.Mul, refl))
path_sign sign.Slash e = inr (inr (op.Div, refl))
path_sign sign.Percent e = inr (inr (op.Rem, refl))
path_sign _ e = absurd (let n : ⊥ = cc in n)

path_kind : (k : Lexical) → follows_path k ≡ true → (k ≡ tok.Sign sign.Semicolon) ⊎ (k ≡ tok.Sign sign.OpenBracket)
    ⊎ ((o : Op) × (k ≡ tok.Sign (sign_of o)))
path_kind (tok.Sign g) e = path_sign g e
path_kind _ e = absurd (let n : ⊥ = cc in n)

-- an operator behind which a sum stands, or that stands behind a comparison
abbrev pub Beside : Op → Type 0
Beside o = (3 ≤ level o) ⊎ (left_level o ≤ 2)

abbrev pub ComparedKind : Lexical → Type 0
ComparedKind k = (k ≡ tok.Sign sign.Semicolon) ⊎ (k ≡ tok.Sign sign.OpenBracket) ⊎ (k ≡ tok.Sign sign.Dot)
    ⊎ ((o : Op) × (k ≡ tok.Sign (sign_of o)) × Beside o)

compared_sign : (g : Sign) → follows_compared (tok.Sign g) ≡ true → ComparedKind (tok.Sign g)
compared_sign sign.Semicolon e = inl refl
compared_sign sign.OpenBracket e = inr (inl refl)
compared_sign sign.Dot e = inr (inr (inl refl))
compared_sign sign.OrOr e = inr (inr (inr (op.Or, refl, inr (omega arith))))
compared_sign sign.AndAnd e = inr (inr (inr (op.And, refl, inr (omega arith))))
compared_sign sign.Plus e = inr (inr (inr (op.Add, refl, inl (omega arith))))
compared_sign sign.Minus e = inr (inr (inr (op.Sub, refl, inl (omega arith))))
compared_sign sign.Star e = inr (inr (inr (op.Mul, refl, inl (omega arith))))
compared_sign sign.Slash e = inr (inr (inr (op.Div, refl, inl (omega arith))))
compared_sign sign.Percent e = inr (inr (inr (op.Rem, refl, inl (omega arith))))
compared_sign _ e = absurd (let n : ⊥ = cc in n)

compared_kind : (k : Lexical) → follows_compared k ≡ true → ComparedKind k
compared_kind (tok.Sign g) e = compared_sign g e
compared_kind _ e = absurd (let n : ⊥ = cc in n)

operator_follows : (o : Op) → follows_path (tok.Sign (sign_of o)) ≡ true
operator_follows op.Or = refl
operator_follows op.And = refl
operator_follows op.Eq = refl
operator_follows op.Ne = refl
operator_follows op.Lt = refl
operator_follows op.Le = refl
operator_follows op.Gt = refl
operator_follows op.Ge = refl
operator_follows op.Add = refl
operator_follows op.Sub = refl
operator_follows op.Mul = refl
operator_follows op.Div = refl
operator_follows op.Rem = refl

no_comparison : (l m : ℕ) → l ≡ 2 → m ≡ 3 → (3 ≤ l) ⊎ (m ≤ 2) → ⊥
no_comparison l m a b (inl h) = omega (arith, a, b, h)
no_comparison l m a b (inr h) = omega (arith, a, b, h)

beside_follows : (o : Op) → Beside o → follows_compared (tok.Sign (sign_of o)) ≡ true
beside_follows op.Or h = refl
beside_follows op.And h = refl
beside_follows op.Eq h = absurd (no_comparison 2 3 refl refl h)
beside_follows op.Ne h = absurd (no_comparison 2 3 refl refl h)
beside_follows op.Lt h = absurd (no_comparison 2 3 refl refl h)
beside_follows op.Le h = absurd (no_comparison 2 3 refl refl h)
beside_follows op.Gt h = absurd (no_comparison 2 3 refl refl h)
beside_follows op.Ge h = absurd (no_comparison 2 3 refl refl h)
beside_follows op.Add h = refl
beside_follows op.Sub h = refl
beside_follows op.Mul h = refl
beside_follows op.Div h = refl
beside_follows op.Rem h = refl

word_starts : (w : Keyword) (f : Form) → word_form w ≡ Some f → starts (tok.Word w) ≡ true
word_starts word.True f e = refl
word_starts word.False f e = refl
word_starts word.Null f e = refl
word_starts word.This f e = refl
word_starts word.Len f e = refl
word_starts _ f e = absurd (let n : ⊥ = cc in n)

sign_starts : (g : Sign) (f : Form) → sign_form g ≡ Some f → starts (tok.Sign g) ≡ true
sign_starts sign.OpenParen f e = refl
sign_starts sign.Not f e = refl
sign_starts sign.Minus f e = refl
sign_starts _ f e = absurd (let n : ⊥ = cc in n)

kind_starts : (k : Lexical) (f : Form) → kind_form k ≡ Some f → starts k ≡ true
kind_starts (tok.Name n) f e = refl
kind_starts (tok.Int n) f e = refl
kind_starts (tok.Word w) f e = word_starts w f e
kind_starts (tok.Sign g) f e = sign_starts g f e
kind_starts (tok.Text s) f e = absurd (let n : ⊥ = cc in n)
kind_starts tok.End f e = absurd (let n : ⊥ = cc in n)

-- a token of such a kind comes next
abbrev pub Follows : (Lexical → Bool) → Option Lexeme → Type 0
Follows f o = (t : Lexeme) × (o ≡ Some t) × (f t.kind ≡ true)

start_follows : (o : Option Lexeme) → IsStart o → Follows starts o
start_follows None s = let h : None ≡ Some s.0 = s.1 in absurd (let n : ⊥ = cc in n)
start_follows (Some t) s = (t, refl, kind_starts t.kind s.0 s.1)

is_follows : (f : Lexical → Bool) (k : Lexical) (o : Option Lexeme) → f k ≡ true → Is k o → Follows f o
is_follows f k None h i = absurd i
is_follows f k (Some t) h i = (t, refl, ap f i ∙ h)

-- ---- operands

-- an expression of one operand that begins with this token
pub record Operand (t : Lexeme) : Type 0 where
  pub tree : Expression
  pub more : Tokens
  pub is : (l : ℕ) → expression_at tree l (t ∷ more)
  pub known : AreSpellable more

word_operand : (w : Keyword) (at : Spot) → starts (tok.Word w) ≡ true → Operand (record { kind = tok.Word w; at = at })
word_operand word.True at e = record { tree = Truth true at; more = []; is = λ l. refl; known = tt }
word_operand word.False at e = record { tree = Truth false at; more = []; is = λ l. refl; known = tt }
word_operand word.Null at e = record { tree = Nothing at; more = []; is = λ l. refl; known = tt }
word_operand word.Len at e = record {
  tree = Length (record { root = io_name; steps = [] }) at;
  more = io_at ∷ [];
  is = λ l. record {
    front = record { kind = tok.Word word.Len; at = at } ∷ [];
    back = io_at ∷ [];
    parts = refl;
    first
        = refl;
    second = record { front = io_at ∷ []; back = []; parts = refl; first = inl refl; second = refl };
  };
  known = (refl, tt);
}
word_operand word.This at e = record {
  tree = Read (record { root = record { name = this; at = at }; steps = [] });
  more = [];
  is = λ l. record {
    front = record { kind = tok.Word word.This; at = at } ∷ [];
    back =
        [];
    parts = refl;
    first = inr (refl, refl);
    second = refl;
  };
  known = tt;
}
word_operand _ at e = absurd (let n : ⊥ = cc in n)

sign_operand : (g : Sign) (at : Spot) → starts (tok.Sign g) ≡ true → Operand (record { kind = tok.Sign g; at = at })
sign_operand sign.OpenParen at e = record {
  tree = Grouped nought at;
  more = zero_at ∷ sign_at sign.CloseParen ∷ [];
  is = λ l. record {
    front = record { kind = tok.Sign sign.OpenParen; at = at } ∷ [];
    back = zero_at
        ∷ sign_at sign.CloseParen ∷ [];
    parts = refl;
    first = refl;
    second =
        record {
          front = zero_at ∷ [];
          back = sign_at sign.CloseParen ∷ [];
          parts = refl;
          first = refl;
          second =
              (nowhere, refl);
        };
  };
  known = (tt, (tt, tt));
}
sign_operand sign.Not at e = record {
  tree = Negated nought at;
  more = zero_at ∷ [];
  is = λ l. record {
    front = record { kind = tok.Sign sign.Not; at = at } ∷ [];
    back = zero_at
        ∷ [];
    parts = refl;
    first = refl;
    second = refl;
  };
  known = (tt, tt);
}
sign_operand sign.Minus at e = record {
  tree = Minus nought at;
  more = zero_at ∷ [];
  is = λ l. record {
    front = record { kind = tok.Sign sign.Minus; at = at } ∷ [];
    back = zero_at
        ∷ [];
    parts = refl;
    first = refl;
    second = refl;
  };
  known = (tt, tt);
}
sign_operand _ at e = absurd (let n : ⊥ = cc in n)

kind_operand : (k : Lexical) (at : Spot) → starts k ≡ true → Operand (record { kind = k; at = at })
kind_operand (tok.Name n) at e = record {
  tree = Read (record { root = record { name = n; at = at }; steps = [] });
  more = [];
  is = λ l. record {
    front = record { kind = tok.Name n; at = at } ∷ [];
    back =
        [];
    parts = refl;
    first = inl refl;
    second = refl;
  };
  known = tt;
}
kind_operand (tok.Int n) at e = record { tree = Number n at; more = []; is = λ l. refl; known = tt }
kind_operand (tok.Word w) at e = word_operand w at e
kind_operand (tok.Sign g) at e = sign_operand g at e
kind_operand (tok.Text s) at e = absurd (let n : ⊥ = cc in n)
kind_operand tok.End at e = absurd (let n : ⊥ = cc in n)

pub operand_from : (t : Lexeme) → starts t.kind ≡ true → Operand t
operand_from t e = kind_operand t.kind t.at e

-- ---- expressions that go on

abbrev pub end : Tokens
end = sign_at sign.Semicolon ∷ []

pub closed : (e : Expression) (ps us : Tokens) → whole_expression e (ps ++ us)
    → with_semicolon whole_expression e (ps ++ (us ++ end))
closed e ps us d = record {
  front = ps ++ us;
  back = end;
  parts = sym (append_assoc ps us end);
  first = d;
  second =
      (nowhere, refl);
}

indexed : (p : Path) (ps : Tokens) (t : Lexeme) (l : ℕ) → path p ps → t.kind ≡ tok.Sign sign.OpenBracket
    → expression_at (Item p nought) l (ps ++ t ∷ zero_at ∷ sign_at sign.CloseBracket ∷ [])
indexed p ps t l d k = record {
  front = ps;
  back = t ∷ zero_at ∷ sign_at sign.CloseBracket ∷ [];
  parts = refl;
  first = d;
  second = record {
    front = t ∷ [];
    back = zero_at ∷ sign_at sign.CloseBracket ∷ [];
    parts = refl;
    first =
        one_of (tok.Sign sign.OpenBracket) t k;
    second =
        record {
          front = zero_at ∷ [];
          back = sign_at sign.CloseBracket ∷ [];
          parts = refl;
          first = refl;
          second =
              (nowhere, refl);
        };
  };
}

joined : (o : Op) (a : Expression) (us : Tokens) (t : Lexeme) (l : ℕ) → l ≤ level o
    → expression_at a (left_level o) us → t.kind ≡ tok.Sign (sign_of o)
    → expression_at (Binary o a nought) l (us ++ t ∷ zero_at ∷ [])
joined o a us t l h d k = (
  h,
  record {
    front = us;
    back = t ∷ zero_at ∷ [];
    parts = refl;
    first = d;
    second =
        record {
          front = t ∷ [];
          back = zero_at ∷ [];
          parts = refl;
          first = one_of (tok.Sign (sign_of o)) t k;
          second =
              refl;
        };
  },
)

pub comparing_path : (p : Path) (ps later : Tokens) (t : Lexeme) → path p ps → follows_path t.kind ≡ true
    → Comparing ps (t ∷ later)
comparing_path p ps later t d e = by_kind (path_kind t.kind e)
  where
    by_kind : (t.kind ≡ tok.Sign sign.Semicolon) ⊎ (t.kind ≡ tok.Sign sign.OpenBracket)
        ⊎ ((o : Op) × (t.kind ≡ tok.Sign (sign_of o))) → Comparing ps (t ∷ later)
    by_kind (inl k) = record {
      next = t;
      later = later;
      rest_is = refl;
      tree = Read p;
      after = [];
      goes_on = record { front = ps; back = t ∷ []; parts = refl; first = d; second = one_of semicolon t k };
      known = tt;
    }
    by_kind (inr (inl k)) = record {
      next = t;
      later = later;
      rest_is = refl;
      tree = Item p nought;
      after = zero_at ∷ sign_at sign.CloseBracket ∷ end;
      goes_on = closed (Item p nought) ps (t ∷ zero_at ∷ sign_at sign.CloseBracket ∷ []) (indexed p ps t 0 d k);
      known = (tt, (tt, (tt, tt)));
    }
    by_kind (inr (inr (o, k))) = record {
      next = t;
      later = later;
      rest_is = refl;
      tree = Binary o (Read p) nought;
      after = zero_at ∷ end;
      goes_on = closed (Binary o (Read p) nought) ps (t ∷ zero_at ∷ []) (joined o (Read p) ps t 0 (omega arith) d k);
      known = (tt, (tt, tt));
    }

pub comparing_less : (p : Path) (ps later : Tokens) (less t : Lexeme) → path p ps → less.kind ≡ tok.Sign sign.Less
    → starts t.kind ≡ true → Comparing (ps ++ less ∷ []) (t ∷ later)
comparing_less p ps later less t d k e =
    let o = operand_from t e in
    let tree : Expression = Binary op.Lt (Read p) o.tree in
    let P : Tokens → Type 0 = with_semicolon whole_expression tree in
    record {
      next = t;
      later = later;
      rest_is = refl;
      tree = tree;
      after = o.more ++ end;
      goes_on = subst P (sym (append_assoc ps (less ∷ []) (t ∷ (o.more ++ end))))
          (closed tree ps (less ∷ t ∷ o.more) (compared p ps (t ∷ o.more) less o.tree d k (o.is 3)));
      known = AreKnown-append o.more end o.known (tt, tt);
    }

pub comparing_name : (p : Path) (ps later : Tokens) (less n t : Lexeme) (m : ℕ) → path p ps
    → less.kind ≡ tok.Sign sign.Less → n.kind ≡ tok.Name m → follows_compared t.kind ≡ true
    → Comparing (ps ++ less ∷ n ∷ []) (t ∷ later)
comparing_name p ps later less n t m d k i e = by_kind (compared_kind t.kind e)
  where
    local : Path
    local = record { root = named n m; steps = [] }

    local_is : path local (n ∷ [])
    local_is = record { front = n ∷ []; back = []; parts = refl; first = inl (name_of n m i); second = refl }

    longer : Path
    longer = record { root = named n m; steps = io_name ∷ [] }

    longer_is : t.kind ≡ tok.Sign sign.Dot → path longer (n ∷ t ∷ io_at ∷ [])
    longer_is j = record {
      front = n ∷ [];
      back = t ∷ io_at ∷ [];
      parts = refl;
      first = inl (name_of n m i);
      second =
          record {
            front = t ∷ io_at ∷ [];
            back =
                [];
            parts = refl;
            first = record
                { front = t ∷ []; back = io_at ∷ []; parts = refl; first = one_of Dot t j; second = refl };
            second = refl;
          };
    }

    more : (e : Expression) (us : Tokens) → whole_expression e (ps ++ less ∷ n ∷ t ∷ us)
        → with_semicolon whole_expression e ((ps ++ less ∷ n ∷ []) ++ (t ∷ (us ++ end)))
    more e us w = let P : Tokens → Type 0 = with_semicolon whole_expression e in subst P
        (sym (append_assoc ps (less ∷ n ∷ []) (t ∷ (us ++ end)))) (closed e ps (less ∷ n ∷ t ∷ us) w)

    made : (e : Expression) (us : Tokens) → AreSpellable us → expression_at e 3 (n ∷ t ∷ us)
        → Comparing (ps ++ less ∷ n ∷ []) (t ∷ later)
    made e us a w = record {
      next = t;
      later = later;
      rest_is = refl;
      tree = Binary op.Lt (Read p) e;
      after = us ++ end;
      goes_on = more (Binary op.Lt (Read p) e) us (compared p ps (n ∷ t ∷ us) less e d k w);
      known = AreKnown-append us end a (tt, tt);
    }

    outer : (o : Op) → t.kind ≡ tok.Sign (sign_of o) → left_level o ≤ 2
        → whole_expression (Binary o (Binary op.Lt (Read p) (Read local)) nought) (ps ++ less ∷ n ∷ t ∷ zero_at ∷ [])
    outer o j low =
        let c = compared p ps (n ∷ []) less (Read local) d k local_is in
        let P : Tokens → Type 0 = whole_expression (Binary o (Binary op.Lt (Read p) (Read local)) nought) in
        subst P (append_assoc ps (less ∷ n ∷ []) (t ∷ zero_at ∷ []))
        (joined o (Binary op.Lt (Read p) (Read local)) (ps ++ less ∷ n ∷ []) t 0 (omega arith) (low, c.1) j)

    by_kind : ComparedKind t.kind → Comparing (ps ++ less ∷ n ∷ []) (t ∷ later)
    by_kind (inl j) = record {
      next = t;
      later = later;
      rest_is = refl;
      tree = Binary op.Lt (Read p) (Read local);
      after = [];
      goes_on = record {
        front = ps ++ less ∷ n ∷ [];
        back = t ∷ [];
        parts = refl;
        first = compared p ps (n ∷ []) less
            (Read local) d k local_is;
        second = one_of semicolon t j;
      };
      known = tt;
    }
    by_kind (inr (inl j)) = made (Item local nought) (zero_at ∷ sign_at sign.CloseBracket ∷ []) (tt, (tt, tt))
        (indexed local (n ∷ []) t 3 local_is j)
    by_kind (inr (inr (inl j))) = made (Read longer) (io_at ∷ []) (refl, tt) (longer_is j)
    by_kind (inr (inr (inr (o, j, inl high)))) = made (Binary o (Read local) nought) (zero_at ∷ []) (tt, tt)
        (joined o (Read local) (n ∷ []) t 3 high local_is j)
    by_kind (inr (inr (inr (o, j, inr low)))) = record {
      next = t;
      later = later;
      rest_is = refl;
      tree = Binary o (Binary op.Lt (Read p) (Read local)) nought;
      after = zero_at ∷ end;
      goes_on = more (Binary o (Binary op.Lt (Read p) (Read local)) nought) (zero_at ∷ []) (outer o j low);
      known = (tt, (tt, tt));
    }

-- ---- what stands behind a path where an expression begins

abbrev pub Ended : Tokens → Type 0
Ended r = Is (tok.Sign sign.Semicolon) (head r)

no_dot_behind : (r : Tokens) → Ended r → Isnt (tok.Sign sign.Dot) (head r)
no_dot_behind r f = of_other semicolon Dot (λ e. cc) (head r) f

operated_follows : (l : ℕ) (ts r other : Tokens) → (f : Lexical → Bool) → (w : Operated l ts) → ts ++ r ≡ other
    → f (tok.Sign (sign_of w.op)) ≡ true → Follows f (head other)
operated_follows l ts r other f w same h =
    let P : Tokens → Type 0 = λ z. Is (tok.Sign (sign_of w.op)) (head z) in
    is_follows f (tok.Sign (sign_of w.op)) (head other) h (subst P (sym (ap (λ z. z ++ r) w.parts) ∙ same) refl)

-- behind the path
pub expression_path : (e : Expression) (us r : Tokens) (p : Path) (ps other : Tokens) → whole_expression e us
    → Ended r → us ++ r ≡ ps ++ other → path p ps → Isnt (tok.Sign sign.Dot) (head other)
    → Follows follows_path (head other)
expression_path e us r p ps other d f same q n = elim (leads_path 0 e us r p ps other d q same n (no_dot_behind r f)) [
  | inl bracket ↦ is_follows follows_path (tok.Sign sign.OpenBracket) (head other) refl bracket
  | inr b ↦ behind b.back b.behind b.same
]
  where
    behind : (ts : Tokens) → (ts ≡ []) ⊎ Operated 0 ts → ts ++ r ≡ other → Follows follows_path (head other)
    behind ts (inl none) s = let P : Tokens → Type 0 = λ z. Is semicolon (head z) in is_follows follows_path semicolon
        (head other) refl (subst P (sym (ap (λ z. z ++ r) none) ∙ s) f)
    behind ts (inr w) s = operated_follows 0 ts r other follows_path w s (operator_follows w.op)

-- the right operand of the `<` behind a path
record RightOf (r other : Tokens) : Type 0 where
  right : Expression
  text : Tokens
  rest : Tokens
  derives : at_level 3 right text
  outer : Outer 2 rest
  same : text ++ (rest ++ r) ≡ other

right_of : (e : Expression) (us r : Tokens) (p : Path) (ps other : Tokens) (less : Lexeme) → whole_expression e us
    → Ended r → us ++ r ≡ ps ++ (less ∷ other) → path p ps → less.kind ≡ tok.Sign sign.Less → RightOf r other
right_of e us r p ps other less d f same q k =
    elim (leads_path 0 e us r p ps (less ∷ other) d q same (of_other (tok.Sign sign.Less) Dot (λ e. cc) (Some less) k)
    (no_dot_behind r f)) [
      | inl bracket ↦ absurd (not_both (tok.Sign sign.Less) (tok.Sign sign.OpenBracket) (λ e. cc) (Some less) k bracket)
      | inr b ↦ behind b.back b.behind b.same
    ]
  where
    behind : (ts : Tokens) → (ts ≡ []) ⊎ Operated 0 ts → ts ++ r ≡ less ∷ other → RightOf r other
    behind ts (inl none) s =
        let P : Tokens → Type 0 = λ z. Is semicolon (head z) in
        absurd (not_both semicolon (tok.Sign sign.Less) (λ e. cc) (Some less)
        (subst P (sym (ap (λ z. z ++ r) none) ∙ s) f) k)
    behind ts (inr w) s =
        let P : Tokens → Type 0 = λ z. Is (tok.Sign (sign_of w.op)) (head z) in
        let here : operator_at w.op w.at ∷ ((w.text ++ w.rest) ++ r) ≡ less ∷ other = sym (ap (λ z. z ++ r) w.parts)
        ∙ s in
        let kinds : less.kind ≡ tok.Sign (sign_of w.op) = subst P here refl in
        let is_less : op.Lt ≡ w.op = same_operator op.Lt w.op (sym k ∙ kinds) in
        let tails : (w.text ++ w.rest) ++ r ≡ other = cc in
        let A : Op → Type 0 = λ o. at_level (level o + 1) w.right w.text in
        let B : Op → Type 0 = λ o. Outer (level o) w.rest in
        record {
          right = w.right;
          text = w.text;
          rest = w.rest;
          derives = subst A (sym is_less) w.derives;
          outer =
              subst B (sym is_less) w.outer;
          same = sym (append_assoc w.text w.rest r) ∙ tails;
        }

-- behind the path and `<`
pub expression_less : (e : Expression) (us r : Tokens) (p : Path) (ps other : Tokens) (less : Lexeme)
    → whole_expression e us → Ended r → us ++ r ≡ ps ++ (less ∷ other) → path p ps → less.kind ≡ tok.Sign sign.Less
    → Follows starts (head other)
expression_less e us r p ps other less d f same q k =
    let w = right_of e us r p ps other less d f same q k in
    let P : Tokens → Type 0 = λ z. IsStart (head z)
    in start_follows (head other) (subst P w.same (begins_expression 3 w.right w.text (w.rest ++ r) w.derives))

outer_follows : (rest r other : Tokens) → Outer 2 rest → Ended r → rest ++ r ≡ other
    → Follows follows_compared (head other)
outer_follows rest r other (inl none) f s = let P : Tokens → Type 0 =
    λ z. Is semicolon (head z) in is_follows follows_compared semicolon (head other) refl
    (subst P (sym (ap (λ z. z ++ r) none) ∙ s) f)
outer_follows rest r other (inr w) f s =
    let P : Tokens → Type 0 = λ z. Is (tok.Sign (sign_of w.0)) (head z) in
    is_follows follows_compared (tok.Sign (sign_of w.0)) (head other) (beside_follows w.0 (inr w.4))
    (subst P (sym (ap (λ z. z ++ r) w.3) ∙ s) refl)

outer_no_dot : (rest r : Tokens) → Outer 2 rest → Ended r → Isnt (tok.Sign sign.Dot) (head (rest ++ r))
outer_no_dot rest r (inl none) f = let P : Tokens → Type 0 = λ z. Isnt Dot (head (z ++ r)) in subst P (sym none)
    (no_dot_behind r f)
outer_no_dot rest r (inr w) f =
    let P : Tokens → Type 0 = λ z. Isnt Dot (head (z ++ r)) in
    subst P (sym w.3) (λ e. no_dot_operator w.0 e)
  where
    no_dot_operator : (o : Op) → tok.Sign (sign_of o) ≡ tok.Sign sign.Dot → ⊥
    no_dot_operator o e = let h : follows_path (tok.Sign (sign_of o)) ≡ false = ap follows_path e in let g : true
        ≡ false = sym (operator_follows o) ∙ h in cc

-- behind the path, `<` and a name
pub expression_name : (e : Expression) (us r : Tokens) (p : Path) (ps other : Tokens) (less n : Lexeme) (m : ℕ)
    → whole_expression e us → Ended r → us ++ r ≡ ps ++ (less ∷ n ∷ other) → path p ps
    → less.kind ≡ tok.Sign sign.Less → n.kind ≡ tok.Name m → Isnt (tok.Sign sign.Dot) (head other)
    → Follows follows_compared (head other)
expression_name e us r p ps other less n m d f same q k i no_dot =
    let w = right_of e us r p ps (n ∷ other) less d f same q k in
    let local : path (record { root = named n m; steps = [] }) (n ∷ []) =
    record { front = n ∷ []; back = []; parts = refl; first = inl (name_of n m i); second = refl } in
    elim (leads_path 3 w.right w.text (w.rest ++ r) (record { root = named n m; steps = [] })
    (n ∷ []) other w.derives local w.same no_dot (outer_no_dot w.rest r w.outer f)) [
      | inl bracket ↦ is_follows follows_compared (tok.Sign sign.OpenBracket) (head other) refl bracket
      | inr b ↦ behind w.rest w.outer b.back b.behind b.same
    ]
  where
    behind : (rest : Tokens) → Outer 2 rest → (ts : Tokens) → (ts ≡ []) ⊎ Operated 3 ts → ts ++ (rest ++ r) ≡ other
        → Follows follows_compared (head other)
    behind rest outer ts (inl none) s = outer_follows rest r other outer f (sym (ap (λ z. z ++ (rest ++ r)) none) ∙ s)
    behind rest outer ts (inr o) s = operated_follows 3 ts (rest ++ r) other follows_compared o s
        (beside_follows o.op (inl o.high))

-- behind the path and `.`
pub expression_dot : (e : Expression) (us r : Tokens) (p : Path) (ps other : Tokens) (dot : Lexeme)
    → whole_expression e us → Ended r → us ++ r ≡ ps ++ (dot ∷ other) → path p ps → dot.kind ≡ tok.Sign sign.Dot
    → IsName (head other)
expression_dot e us r p ps other dot d f same q k =
    let R : Tokens → Type 0 = λ z. IsRoot (head z) in
    let w = led_by_path 0 e us r d (subst R (sym same) (begins_path p ps (dot ∷ other) q)) (no_dot_behind r f) in
    path_goes w.path_ p w.front ps w.back other dot w.derives q (sym w.parts ∙ same) k w.ends
