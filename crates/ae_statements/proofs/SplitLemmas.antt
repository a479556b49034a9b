-- What completes the first tokens of a right side that is not yet decided.
use Rattle.std.proofs.Common.{◌≡◌, ℕ, ◌++◌, List, [], ◌∷◌, ◌⊎◌, inl, inr, Option, Some, refl, sym, ap, ◌∙◌}
use Rattle.std.proofs.Common.{append_assoc, append-nil, subst, arith, pos}
use Rattle.ae_text.specs.declared.token.Keyword.TheVariants as word
use Rattle.ae_text.specs.declared.token.Sign.{Sign}
use Rattle.ae_text.specs.declared.token.Sign.TheVariants as sign
use Rattle.ae_tree.specs.declared.lexeme.Lexeme.{Lexeme}
use Rattle.ae_tree.specs.declared.lexeme.Lexical.TheVariants as tok
use Rattle.ae_tree.specs.declared.tree.NameAt.{NameAt}
use Rattle.ae_tree.specs.declared.tree.Path.{Path}
use Rattle.ae_tree.specs.declared.tree.Op.TheVariants as op
use Rattle.ae_tree.specs.Plain.{Expression, Number, Read, Binary}
use Rattle.ae_tree.specs.Grammar.{Tokens, ◌⨾◌, one_by_one, name, root, path_step, path, receiver, arguments}
use Rattle.ae_tree.specs.Grammar.{call_written, whole_expression, expression_at}
use Rattle.ae_tree.specs.Names.{io}
use Rattle.ae_tree.specs.Refused.{AreSpellable, marks_in}
use Rattle.ae_statements.proofs.from_reading.ReadsLemmas.{nowhere, io_name, name_token}
use Rattle.ae_statements.specs.Productions.{with_semicolon, call_rest, invoked, receiver_of}
use Rattle.ae_statements.specs.Deciding.{IsCallable, Calling, IsUndecided}
use Rattle.ae_statements.proofs.CallLemmas.{last_snoc, receiver_snoc}
use Rattle.ae_statements.proofs.SideLemmas.{Dot, one_of, name_of, call_intro}

-- ---- calls

abbrev pub sign_at : Sign → Lexeme
sign_at g = record { kind = tok.Sign g; at = nowhere }

abbrev pub io_at : Lexeme
io_at = name_token io_name

-- no arguments, and the end
abbrev pub closing : Tokens
closing = sign_at sign.OpenParen ∷ sign_at sign.CloseParen ∷ sign_at sign.Semicolon ∷ []

pub closing_known : AreSpellable closing
closing_known = (tt, (tt, (tt, tt)))

none_given : with_semicolon arguments [] closing
none_given = record {
  front = sign_at sign.OpenParen ∷ sign_at sign.CloseParen ∷ [];
  back = sign_at sign.Semicolon ∷ [];
  parts = refl;
  first = record {
    front = sign_at sign.OpenParen ∷ [];
    back = sign_at sign.CloseParen ∷ [];
    parts = refl;
    first = (nowhere, refl);
    second = record {
      front = [];
      back = sign_at sign.CloseParen ∷ [];
      parts = refl;
      first = refl;
      second =
          (nowhere, refl);
    };
  };
  second = (nowhere, refl);
}

pub called_none : call_rest ([], []) closing
called_none = record { front = []; back = closing; parts = refl; first = refl; second = none_given }

abbrev pub named : Lexeme → ℕ → NameAt
named n m = record { name = m; at = n.at }

pub called_one : (less n : Lexeme) (m : ℕ) → less.kind ≡ tok.Sign sign.Less → n.kind ≡ tok.Name m
    → call_rest (named n m ∷ [], []) (less ∷ n ∷ sign_at sign.Greater ∷ closing)
called_one less n m k i = record {
  front = less ∷ n ∷ sign_at sign.Greater ∷ [];
  back = closing;
  parts = refl;
  first = record {
    front = less ∷ [];
    back = n ∷ sign_at sign.Greater ∷ [];
    parts = refl;
    first = one_of (tok.Sign sign.Less) less k;
    second = record {
      front = n ∷ [];
      back = sign_at sign.Greater ∷ [];
      parts = refl;
      first = record { front = n ∷ []; back = []; parts = refl; first = name_of n m i; second = refl };
      second = (nowhere, refl);
    };
  };
  second = none_given;
}

pub calling_path : (p : Path) (ps : Tokens) → IsCallable p ps → Calling ps
calling_path p ps k = record {
  tree = invoked p ([], []);
  none = refl;
  more = closing;
  goes = call_intro p
      ([], []) ps closing k called_none;
  known = closing_known;
}

abbrev pub pushed : Path → NameAt → Path
pushed p x = record { root = p.root; steps = p.steps ++ x ∷ [] }

pub callable_push : (p : Path) (x : NameAt) (ps us : Tokens) → path p ps → path_step x us
    → IsCallable (pushed p x) (ps ++ us)
callable_push p x ps us d s =
    let here : IsReceived (Some p) x = record {
      front = ps ++ s.front;
      back = s.back;
      parts = ap (λ l. ps ++ l) s.parts ∙ sym (append_assoc ps s.front s.back);
      first = record { front = ps; back = s.front; parts = refl; first = d; second = s.first };
      second = s.second;
    } in
    let A : Option Path → Type 0 = λ o. IsReceived o x in
    let B : NameAt → Type 0 = λ m. IsReceived (receiver_of p.root (p.steps ++ x ∷ [])) m in
    subst B (sym (last_snoc p.root x p.steps)) (subst A (sym (receiver_snoc p.root x p.steps)) here)
  where
    IsReceived : Option Path → NameAt → Type 0
    IsReceived o m = (receiver o ⨾ name m) (ps ++ us)

pub calling_dot : (p : Path) (ps : Tokens) (dot : Lexeme) → path p ps → dot.kind ≡ tok.Sign sign.Dot
    → Calling (ps ++ dot ∷ [])
calling_dot p ps dot d k =
    let s : path_step io_name (dot ∷ io_at ∷ []) =
    record { front = dot ∷ []; back = io_at ∷ []; parts = refl; first = one_of Dot dot k; second = refl } in
    let q = pushed p io_name in
    let P : Tokens → Type 0 = with_semicolon call_written (invoked q ([], [])) in
    record {
      tree = invoked q ([], []);
      none = refl;
      more = io_at ∷ closing;
      goes = subst P (append_assoc ps (dot ∷ io_at ∷ []) closing ∙ sym (append_assoc ps (dot ∷ []) (io_at ∷ closing)))
          (call_intro q ([], []) (ps ++ (dot ∷ io_at ∷ [])) closing
          (callable_push p io_name ps (dot ∷ io_at ∷ []) d s) called_none);
      known = (refl, closing_known);
    }

pub calling_less : (p : Path) (ps : Tokens) (less : Lexeme) → IsCallable p ps → less.kind ≡ tok.Sign sign.Less
    → Calling (ps ++ less ∷ [])
calling_less p ps less d k =
    let q : List NameAt × List Expression = (io_name ∷ [], []) in
    let P : Tokens → Type 0 = with_semicolon call_written (invoked p q) in
    record {
      tree = invoked p q;
      none = refl;
      more = io_at ∷ sign_at sign.Greater ∷ closing;
      goes = subst P (sym (append_assoc ps (less ∷ []) (io_at ∷ sign_at sign.Greater ∷ closing)))
          (call_intro p q ps (less ∷ io_at ∷ sign_at sign.Greater ∷ closing) d (called_one less io_at io k refl));
      known = (refl, (tt, closing_known));
    }

pub calling_name : (p : Path) (ps : Tokens) (less n : Lexeme) (m : ℕ) → IsCallable p ps
    → less.kind ≡ tok.Sign sign.Less → n.kind ≡ tok.Name m → Calling (ps ++ less ∷ n ∷ [])
calling_name p ps less n m d k i =
    let q : List NameAt × List Expression = (named n m ∷ [], []) in
    let P : Tokens → Type 0 = with_semicolon call_written (invoked p q) in
    record {
      tree = invoked p q;
      none = refl;
      more = sign_at sign.Greater ∷ closing;
      goes = subst P (sym (append_assoc ps (less ∷ n ∷ []) (sign_at sign.Greater ∷ closing)))
          (call_intro p q ps (less ∷ n ∷ sign_at sign.Greater ∷ closing) d (called_one less n m k i));
      known = (tt, closing_known);
    }

-- ---- expressions

abbrev pub zero_at : Lexeme
zero_at = record { kind = tok.Int (pos 0); at = nowhere }

abbrev pub nought : Expression
nought = Number (pos 0) nowhere

-- a path that is compared with something
pub compared : (p : Path) (ps us : Tokens) (less : Lexeme) (e : Expression) → path p ps
    → less.kind ≡ tok.Sign sign.Less → expression_at e 3 us
    → whole_expression (Binary op.Lt (Read p) e) (ps ++ less ∷ us)
compared p ps us less e d k f = (
  omega arith,
  record {
    front = ps;
    back = less ∷ us;
    parts = refl;
    first = d;
    second =
        record { front = less ∷ []; back = us; parts = refl; first = one_of (tok.Sign sign.Less) less k; second = f };
  },
)

-- ---- first tokens

-- where a list is cut: in the first part or behind it
pub fork : (a b c d : Tokens) (t : Lexeme) → a ++ b ≡ c ++ t ∷ d → ((e : Tokens) × (a ≡ c ++ t ∷ e))
    ⊎ ((e : Tokens) × (c ≡ a ++ e) × (b ≡ e ++ t ∷ d))
fork [] b c d t e = inr (c, refl, e)
fork (x ∷ a) b [] d t e = let h : x ≡ t = cc in inl (a, ap (λ z. z ∷ a) h)
fork (x ∷ a) b (y ∷ c) d t e =
    let h : x ≡ y = cc in
    let rest : a ++ b ≡ c ++ t ∷ d = cc in
    elim (fork a b c d t rest) [
      | inl q ↦ inl (q.0, ap (λ z. z ∷ a) h ∙ ap (λ l. y ∷ l) q.1)
      | inr q ↦ inr (q.0, ap (λ l. y ∷ l) q.1 ∙ ap (λ z. z ∷ (a ++ q.0)) (sym h), q.2)
    ]

-- tokens and the next one, completed without a token that counts
pub record Filled (A : Type 0) (D : A → Tokens → Type 0) (before : Tokens) (t : Lexeme) : Type 0 where
  pub tree : A
  pub more : Tokens
  pub goes : D tree (before ++ t ∷ more)
  pub none : marks_in more ≡ 0

steps_filled : (xs : List NameAt) (us before later : Tokens) (t : Lexeme) → one_by_one path_step xs us
    → us ≡ before ++ t ∷ later → Filled (List NameAt) (one_by_one path_step) before t
steps_filled [] us [] later t d e = let h : [] ≡ t ∷ later = sym d ∙ e in absurd (let n : ⊥ = cc in n)
steps_filled [] us (b ∷ before) later t d e = let h : [] ≡ b ∷ (before ++ t ∷ later) = sym d
    ∙ e in absurd (let n : ⊥ = cc in n)
steps_filled (x ∷ xs) us before later t d e =
    let s = d.first in
    let dot : Lexeme = record { kind = Dot; at = s.first.0 } in
    let dot_is : s.front ≡ dot ∷ [] = s.first.1 in
    let field_is : s.back ≡ name_token x ∷ [] = s.second in
    let all : dot ∷ name_token x ∷ d.back ≡ before ++ t
    ∷ later = sym (d.parts ∙ ap (λ l. l ++ d.back)
    (s.parts ∙ ap (λ l. l ++ s.back) dot_is ∙ ap (λ l. dot ∷ l) field_is)) ∙ e in
    by_cut (λ b c. steps_filled xs d.back b later t d.second c) before all
  where
    step_at : (y : NameAt) (k : Lexeme) → k.kind ≡ tok.Sign sign.Dot → path_step y (k ∷ name_token y ∷ [])
    step_at y k i = record {
      front = k ∷ [];
      back = name_token y ∷ [];
      parts = refl;
      first = one_of Dot k i;
      second =
          refl;
    }

    by_cut : ((b : Tokens) → d.back ≡ b ++ t ∷ later → Filled (List NameAt) (one_by_one path_step) b t)
        → (before : Tokens) → record { kind = Dot; at = d.first.first.0 } ∷ name_token x ∷ d.back ≡ before ++ t
        ∷ later → Filled (List NameAt) (one_by_one path_step) before t
    by_cut ih [] all =
        let same : record { kind = Dot; at = d.first.first.0 } ≡ t = cc in
        record {
          tree = io_name ∷ [];
          more = io_at
              ∷ [];
          goes = record {
            front = t ∷ io_at ∷ [];
            back = [];
            parts = refl;
            first = step_at io_name t
                (ap (λ (l : Lexeme). l.kind) (sym same));
            second = refl;
          };
          none = refl;
        }
    by_cut ih (a ∷ []) all =
        let same : record { kind = Dot; at = d.first.first.0 } ≡ a = cc in
        let field : name_token x ≡ t = cc in
        let P : Lexeme → Type 0 = λ l. one_by_one path_step (x ∷ []) (a ∷ l ∷ []) in
        record {
          tree = x ∷ [];
          more =
              [];
          goes = subst P field (record {
            front = a ∷ name_token x ∷ [];
            back =
                [];
            parts = refl;
            first = step_at x a (ap (λ (l : Lexeme). l.kind) (sym same));
            second = refl;
          });
          none =
              refl;
        }
    by_cut ih (a ∷ b ∷ before) all =
        let same : record { kind = Dot; at = d.first.first.0 } ≡ a = cc in
        let field : name_token x ≡ b = cc in
        let rest : d.back ≡ before ++ t ∷ later = cc in
        let q = ih before rest in
        let P : Lexeme → Type 0 = λ l. one_by_one path_step (x ∷ q.tree) (a ∷ l ∷ (before ++ t ∷ q.more)) in
        record {
          tree = x ∷ q.tree;
          more = q.more;
          goes = subst P field
              (record {
                front = a ∷ name_token x ∷ [];
                back = before ++ t ∷ q.more;
                parts = refl;
                first = step_at x a
                    (ap (λ (l : Lexeme). l.kind) (sym same));
                second = q.goes;
              });
          none = q.none;
        }

path_filled : (p : Path) (us before later : Tokens) (t : Lexeme) → path p us → us ≡ before ++ t ∷ later
    → Filled Path path before t
path_filled p us before later t d e = elim (fork d.front d.back before later t (sym d.parts ∙ e)) [
  | inl q ↦ whole_root q.0 (root_one p.root d.front d.first) q.1
  | inr q ↦
      let s = steps_filled p.steps d.back q.0 later t d.second q.2 in
      record {
        tree = record { root = p.root; steps = s.tree };
        more = s.more;
        goes = record {
          front = d.front;
          back = q.0 ++ t ∷ s.more;
          parts = ap (λ l. l ++ t ∷ s.more) q.1
              ∙ append_assoc d.front q.0 (t ∷ s.more);
          first = d.first;
          second = s.goes;
        };
        none = s.none;
      }
]
  where
    root_one : (x : NameAt) (ts : Tokens) → root x ts → (l : Lexeme) × (ts ≡ l ∷ [])
    root_one x ts (inl r) = (name_token x, r)
    root_one x ts (inr r) = (record { kind = tok.Word word.This; at = x.at }, r.1)

    whole_root : (rest : Tokens) → (l : Lexeme) × (d.front ≡ l ∷ []) → d.front ≡ before ++ t ∷ rest
        → Filled Path path before t
    whole_root rest one cut = record {
      tree = record { root = p.root; steps = [] };
      more = [];
      goes = record {
        front = d.front;
        back = [];
        parts = only_one before one.0 (sym one.1 ∙ cut) ∙ sym one.1
            ∙ sym (append-nil d.front);
        first = d.first;
        second = refl;
      };
      none = refl;
    }
      where
        only_one : (b : Tokens) (l : Lexeme) → l ∷ [] ≡ b ++ t ∷ rest → b ++ t ∷ [] ≡ l ∷ []
        only_one [] l c = let same : t ≡ l = cc in ap (λ z. z ∷ []) same
        only_one (x ∷ []) l c = let h : [] ≡ t ∷ rest = cc in absurd (let n : ⊥ = cc in n)
        only_one (x ∷ y ∷ b) l c = let h : [] ≡ y ∷ (b ++ t ∷ rest) = cc in absurd (let n : ⊥ = cc in n)

read_filled : (before : Tokens) (t : Lexeme) → Filled Path path before t → Filled Expression whole_expression before t
read_filled before t f = record { tree = Read f.tree; more = f.more; goes = f.goes; none = f.none }

-- the `<` itself
less_filled : (p : Path) (ps : Tokens) (before : Tokens) (less t : Lexeme) → path p ps
    → less.kind ≡ tok.Sign sign.Less → before ≡ ps → t ≡ less → Filled Expression whole_expression before t
less_filled p ps before less t d k b e = record {
  tree = Binary op.Lt (Read p) nought;
  more = zero_at ∷ [];
  goes =
      let P : Tokens → Type 0 = λ l. whole_expression (Binary op.Lt (Read p) nought) (l ++ t ∷ zero_at ∷ []) in
      subst P (sym b) (compared p ps (zero_at ∷ []) t nought d (ap (λ (l : Lexeme). l.kind) e ∙ k) refl);
  none = refl;
}

-- the name behind it
name_filled : (p : Path) (ps : Tokens) (before : Tokens) (less t : Lexeme) (g : NameAt) → path p ps
    → less.kind ≡ tok.Sign sign.Less → before ≡ ps ++ less ∷ [] → t ≡ name_token g
    → Filled Expression whole_expression before t
name_filled p ps before less t g d k b e =
    let one : path (record { root = g; steps = [] }) (t ∷ []) =
    record { front = t ∷ []; back = []; parts = refl; first = inl (ap (λ z. z ∷ []) e); second = refl } in
    let P : Tokens → Type 0 = whole_expression (Binary op.Lt (Read p) (Read (record { root = g; steps = [] }))) in
    record {
      tree = Binary op.Lt (Read p) (Read (record { root = g; steps = [] }));
      more = [];
      goes = subst P (sym (append_assoc ps (less ∷ []) (t ∷ [])) ∙ ap (λ l. l ++ t ∷ []) (sym b))
          (compared p ps (t ∷ []) less (Read (record { root = g; steps = [] })) d k one);
      none = refl;
    }

-- the first tokens of an undecided right side, and the next one, begin an expression that has no further token that counts
pub undecided_filled : (us before later : Tokens) (t : Lexeme) → IsUndecided us → us ≡ before ++ t ∷ later
    → Filled Expression whole_expression before t
undecided_filled us before later t (p, inl d) e = read_filled before t (path_filled p us before later t d e)
undecided_filled us before later t (p, inr (inl d)) e =
    let less : Lexeme = record { kind = tok.Sign sign.Less; at = d.second.0 } in
    let back_is : d.back ≡ less ∷ [] = d.second.1 in
    by_fork (fork d.front d.back before later t (sym d.parts ∙ e)) less back_is refl
  where
    by_fork : ((e : Tokens) × (d.front ≡ before ++ t ∷ e))
        ⊎ ((e : Tokens) × (before ≡ d.front ++ e) × (d.back ≡ e ++ t ∷ later)) → (less : Lexeme) → d.back ≡ less ∷ []
        → less.kind ≡ tok.Sign sign.Less → Filled Expression whole_expression before t
    by_fork (inl q) less b k = read_filled before t (path_filled p d.front before q.0 t d.first q.1)
    by_fork (inr ([], c, q)) less b k = let same : t ≡ less = cc in less_filled p d.front before less t d.first k
        (c ∙ append-nil d.front) same
    by_fork (inr (x ∷ [], c, q)) less b k = let h : [] ≡ t ∷ later = cc in absurd (let n : ⊥ = cc in n)
    by_fork (inr (x ∷ y ∷ z, c, q)) less b k = let h : [] ≡ y ∷ (z ++ t ∷ later) = cc in absurd (let n : ⊥ = cc in n)
undecided_filled us before later t (p, inr (inr (g, d))) e =
    let s = d.second in
    let less : Lexeme = record { kind = tok.Sign sign.Less; at = s.first.0 } in
    let less_is : s.front ≡ less ∷ [] = s.first.1 in
    let name_is : s.back ≡ name_token g ∷ [] = s.second in
    by_fork (fork d.front d.back before later t (sym d.parts ∙ e)) less
    (s.parts ∙ ap (λ l. l ++ s.back) less_is ∙ ap (λ l. less ∷ l) name_is) refl
  where
    by_fork : ((e : Tokens) × (d.front ≡ before ++ t ∷ e))
        ⊎ ((e : Tokens) × (before ≡ d.front ++ e) × (d.back ≡ e ++ t ∷ later)) → (less : Lexeme)
        → d.back ≡ less ∷ name_token g ∷ [] → less.kind ≡ tok.Sign sign.Less
        → Filled Expression whole_expression before t
    by_fork (inl q) less b k = read_filled before t (path_filled p d.front before q.0 t d.first q.1)
    by_fork (inr ([], c, q)) less b k = let same : t ≡ less = cc in less_filled p d.front before less t d.first k
        (c ∙ append-nil d.front) same
    by_fork (inr (x ∷ [], c, q)) less b k =
        let first : x ≡ less = cc in
        let same : t ≡ name_token g = cc
        in name_filled p d.front before less t g d.first k (c ∙ ap (λ z. d.front ++ z ∷ []) first) same
    by_fork (inr (x ∷ y ∷ z, c, q)) less b k = let h : [] ≡ z ++ t ∷ later = cc in absurd (no_nil z h)
      where
        no_nil : (z : Tokens) → [] ≡ z ++ t ∷ later → ⊥
        no_nil [] h = cc
        no_nil (w ∷ z) h = cc
