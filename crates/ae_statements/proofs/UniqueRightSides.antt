-- An expression and a call are apart, and tokens stand for one right side at most.
use Rattle.std.proofs.Common.{◌≡◌, ℕ, ◌+◌, ◌≤◌, ◌<◌, ◌++◌, List, [], ◌∷◌, Option, Some, None, refl, sym, ap, ◌∙◌}
use Rattle.std.proofs.Common.{append_assoc, append-nil, subst, arith, inl, inr}
use Rattle.std.specs.Prelude.{◌⊎◌}
use Rattle.ae_text.specs.declared.refusal.Spot.{Spot}
use Rattle.ae_text.specs.declared.token.Keyword.{Keyword}
use Rattle.ae_text.specs.declared.token.Keyword.TheVariants as word
use Rattle.ae_text.specs.declared.token.Sign.TheVariants as sign
use Rattle.ae_tree.specs.declared.lexeme.Lexeme.{Lexeme}
use Rattle.ae_tree.specs.declared.lexeme.Lexical.{Lexical}
use Rattle.ae_tree.specs.declared.lexeme.Lexical.TheVariants as tok
use Rattle.ae_tree.specs.declared.tree.NameAt.{NameAt}
use Rattle.ae_tree.specs.declared.tree.Path.{Path}
use Rattle.ae_tree.specs.declared.tree.Op.{Op}
use Rattle.ae_tree.specs.declared.tree.Op.TheVariants as op
use Rattle.ae_tree.specs.Plain.{Expression, Read, Invocation, RightSide, Value, Taken, Zeros, Made, Returned}
use Rattle.ae_tree.specs.Grammar.{Tokens, one_by_one, further, comma_list, name, path_step, path, groups, level}
use Rattle.ae_tree.specs.Grammar.{left_level, sign_of, whole_expression, arguments, receiver, call_written}
use Rattle.ae_tree.specs.Grammar.{right_of_equals}
use Rattle.ae_reading.specs.Reads.{head, Always, Is, Isnt, IsName, Token, TokenMark}
use Rattle.ae_statements.proofs.from_reading.ReadsLemmas.{Lang, Follow, Both, Links}
use Rattle.ae_statements.proofs.from_reading.UniqueLemmas.{Unique, apart_by, unique_at, unique_mark, unique_name}
use Rattle.ae_statements.proofs.from_reading.UniqueLemmas.{unique_then, unique_both, unique_as, unique_under}
use Rattle.ae_statements.proofs.from_reading.UniqueLemmas.{unique_always, unique_choice, by_first, unique_listed}
use Rattle.ae_statements.proofs.from_reading.UniqueLemmas.{unique_closing}
use Rattle.ae_statements.proofs.from_reading.UniquePaths.{IsRoot, begins_path, unique_path}
use Rattle.ae_statements.proofs.from_reading.Runs.{each-append, each-one}
use Rattle.ae_statements.proofs.from_reading.Begins.{Begins, begins_token, begins_mark, begins_name, begins_both}
use Rattle.ae_statements.proofs.from_reading.Begins.{of_kind, of_other, links_by, not_both}
use Rattle.ae_statements.proofs.from_reading.UniqueTypes.{unique_groups}
use Rattle.ae_expressions.specs.Ends.{Ends}
use Rattle.ae_statements.proofs.from_expressions.UniqueExpressions.{left_cases, sign_ends, Form, OfPath, form_of}
use Rattle.ae_statements.proofs.from_expressions.UniqueExpressions.{kind_form, word_form, form_at_root}
use Rattle.ae_statements.proofs.from_expressions.UniqueExpressions.{unique_expression}
use Rattle.ae_statements.proofs.from_expressions.LeadingOperands.{operator_at, Outer, Behind, leads_path, IsStart}
use Rattle.ae_statements.proofs.from_expressions.LeadingOperands.{begins_expression}
use Rattle.ae_expressions.specs.Productions.{at_level}
use Rattle.ae_statements.proofs.from_expressions.OperatorLemmas.{same_operator, no_operator, operator_ends}
use Rattle.ae_statements.specs.Productions.{last, receiver_of}
use Rattle.ae_statements.proofs.CallLemmas.{last_snoc, receiver_snoc}

abbrev pub semicolon : Lexical
semicolon = tok.Sign sign.Semicolon

-- ---- no call begins as an expression does

behind_open : (l : ℕ) (r other : Tokens) (t : Lexeme) → t.kind ≡ tok.Sign sign.OpenParen → Is semicolon (head r)
    → Behind l r (t ∷ other) → ⊥
behind_open l r other t k f b = elim b.behind [
  | inl none ↦
      let all : r ≡ t ∷ other = sym (ap (λ z. z ++ r) none) ∙ b.same in
      let P : Tokens → Type 0 = λ z. Is semicolon (head z) in
      not_both semicolon (tok.Sign sign.OpenParen) (λ e. cc) (Some t) (subst P all f) k
  | inr w ↦
      let P : Tokens → Type 0 = λ z. Is (tok.Sign (sign_of w.op)) (head z) in
      let here : operator_at w.op w.at ∷ ((w.text ++ w.rest) ++ r) ≡ t ∷ other = sym (ap (λ z. z ++ r) w.parts)
      ∙ b.same in
      let kinds : t.kind ≡ tok.Sign (sign_of w.op) = subst P here refl in
      no_operator sign.OpenParen refl w.op (sym k ∙ kinds)
]

-- no `(` stands behind a path where an expression begins
pub no_call_sign : (e : Expression) (us r : Tokens) (p : Path) (ps other : Tokens) (t : Lexeme)
    → whole_expression e us → path p ps → us ++ r ≡ ps ++ (t ∷ other) → t.kind ≡ tok.Sign sign.OpenParen
    → Is (tok.Sign sign.Semicolon) (head r) → ⊥
no_call_sign e us r p ps other t d q same k f =
    elim (leads_path 0 e us r p ps (t ∷ other) d q same
    (of_other (tok.Sign sign.OpenParen) (tok.Sign sign.Dot) (λ e. cc) (Some t) k)
    (of_other semicolon (tok.Sign sign.Dot) (λ e. cc) (head r) f)) [
      | inl bracket ↦ not_both (tok.Sign sign.OpenParen) (tok.Sign sign.OpenBracket) (λ e. cc) (Some t) k bracket
      | inr b ↦ behind_open 0 r other t k f b
    ]

-- `,` or `>`
abbrev pub EndsGroup : Lexeme → Type 0
EndsGroup t = (t.kind ≡ tok.Sign sign.Comma) ⊎ (t.kind ≡ tok.Sign sign.Greater)

group_end_ends : (t : Lexeme) → EndsGroup t → Ends 3 (Some t)
group_end_ends t (inl k) = sign_ends 3 sign.Comma refl (λ e. cc) (λ e. cc) (Some t) k
group_end_ends t (inr k) = operator_ends 3 op.Gt (omega arith) (Some t) k

not_semicolon : (t : Lexeme) → EndsGroup t → Is semicolon (Some t) → ⊥
not_semicolon t (inl k) i = not_both semicolon (tok.Sign sign.Comma) (λ e. cc) (Some t) i k
not_semicolon t (inr k) i = not_both semicolon (tok.Sign sign.Greater) (λ e. cc) (Some t) i k

not_outer : (t : Lexeme) → EndsGroup t → (o : Op) → left_level o ≤ 2 → t.kind ≡ tok.Sign (sign_of o) → ⊥
not_outer t (inl k) o low e = no_operator sign.Comma refl o (sym k ∙ e)
not_outer t (inr k) o low e =
    let same : op.Gt ≡ o = same_operator op.Gt o (sym k ∙ e) in
    let h : 3 ≡ left_level o = ap left_level same in omega (arith, h, low)

level_of_outer : (o : Op) → left_level o ≤ 2 → level o < 3
level_of_outer o low = elim (left_cases o) [ inl e ↦ omega (arith, e, low) | inr e ↦ omega (arith, e, low) ]

outer_ends : (rest r : Tokens) → Outer 2 rest → Is semicolon (head r) → Ends 3 (head (rest ++ r))
outer_ends rest r (inl none) f = let P : Tokens → Type 0 = λ z. Ends 3 (head (z ++ r)) in subst P (sym none)
    (sign_ends 3 sign.Semicolon refl (λ e. cc) (λ e. cc) (head r) f)
outer_ends rest r (inr w) f =
    let P : Tokens → Type 0 = λ z. Ends 3 (head (z ++ r)) in
    subst P (sym w.3) (operator_ends 3 w.0 (level_of_outer w.0 w.4) (Some (operator_at w.0 w.1)) refl)

outer_no_end : (rest r other : Tokens) (t : Lexeme) → EndsGroup t → Outer 2 rest → Is semicolon (head r)
    → rest ++ r ≡ t ∷ other → ⊥
outer_no_end rest r other t g (inl none) f same =
    let all : r ≡ t ∷ other = sym (ap (λ z. z ++ r) none) ∙ same in
    let P : Tokens → Type 0 = λ z. Is semicolon (head z) in not_semicolon t g (subst P all f)
outer_no_end rest r other t g (inr w) f same =
    let P : Tokens → Type 0 = λ z. Is (tok.Sign (sign_of w.0)) (head z) in
    let all : operator_at w.0 w.1 ∷ (w.2 ++ r) ≡ t ∷ other = sym (ap (λ z. z ++ r) w.3) ∙ same in
    let kinds : t.kind ≡ tok.Sign (sign_of w.0) = subst P all refl
    in not_outer t g w.0 w.4 kinds

abbrev pub local : NameAt → Expression
local x = Read (record { root = x; steps = [] })

name_at : (n : Lexeme) (m : ℕ) → n.kind ≡ tok.Name m → at_level 3 (local (record { name = m; at = n.at })) (n ∷ [])
name_at n m k = record {
  front = n ∷ [];
  back =
      [];
  parts = refl;
  first = inl (ap (λ j. record { kind = j; at = n.at } ∷ []) k);
  second = refl;
}

compared : (r other text rest : Tokens) (right : Expression) (n t : Lexeme) (m : ℕ) → at_level 3 right text
    → Outer 2 rest → n.kind ≡ tok.Name m → EndsGroup t → Is semicolon (head r) → text ++ (rest ++ r) ≡ n ∷ t ∷ other
    → ⊥
compared r other text rest right n t m d outer k g f same =
    let o = unique_expression 3 right (local (record { name = m; at = n.at })) text (n ∷ []) (rest ++ r) (t ∷ other) d
    (name_at n m k) same (outer_ends rest r outer f) (group_end_ends t g)
    in outer_no_end rest r other t g outer f o.1

behind_group : (r other : Tokens) (less n t : Lexeme) (m : ℕ) → less.kind ≡ tok.Sign sign.Less → n.kind ≡ tok.Name m
    → EndsGroup t → Is semicolon (head r) → Behind 0 r (less ∷ n ∷ t ∷ other) → ⊥
behind_group r other less n t m k kn g f b = elim b.behind [
  | inl none ↦
      let all : r ≡ less ∷ n ∷ t ∷ other = sym (ap (λ z. z ++ r) none) ∙ b.same in
      let P : Tokens → Type 0 = λ z. Is semicolon (head z) in
      not_both semicolon (tok.Sign sign.Less) (λ e. cc) (Some less) (subst P all f) k
  | inr w ↦
      let P : Tokens → Type 0 = λ z. Is (tok.Sign (sign_of w.op)) (head z) in
      let here : operator_at w.op w.at ∷ ((w.text ++ w.rest) ++ r) ≡ less ∷ n ∷ t
      ∷ other = sym (ap (λ z. z ++ r) w.parts) ∙ b.same in
      let kinds : less.kind ≡ tok.Sign (sign_of w.op) = subst P here refl in
      let is_less : op.Lt ≡ w.op = same_operator op.Lt w.op (sym k ∙ kinds) in
      let tails : (w.text ++ w.rest) ++ r ≡ n ∷ t ∷ other = cc in
      let A : Op → Type 0 = λ o. at_level (level o + 1) w.right w.text in
      let B : Op → Type 0 = λ o. Outer (level o) w.rest in
      compared r other w.text w.rest w.right n t m (subst A (sym is_less) w.derives)
      (subst B (sym is_less) w.outer) kn g f (sym (append_assoc w.text w.rest r) ∙ tails)
]

-- no `,` and no `>` stands behind a path, `<` and a name where an expression begins
pub no_group_end : (e : Expression) (us r : Tokens) (p : Path) (ps other : Tokens) (less n t : Lexeme) (m : ℕ)
    → whole_expression e us → path p ps → us ++ r ≡ ps ++ (less ∷ n ∷ t ∷ other) → less.kind ≡ tok.Sign sign.Less
    → n.kind ≡ tok.Name m → EndsGroup t → Is (tok.Sign sign.Semicolon) (head r) → ⊥
no_group_end e us r p ps other less n t m d q same k kn g f =
    elim (leads_path 0 e us r p ps (less ∷ n ∷ t ∷ other) d q same
    (of_other (tok.Sign sign.Less) (tok.Sign sign.Dot) (λ e. cc) (Some less) k)
    (of_other semicolon (tok.Sign sign.Dot) (λ e. cc) (head r) f)) [
      | inl bracket ↦ not_both (tok.Sign sign.Less) (tok.Sign sign.OpenBracket) (λ e. cc) (Some less) k bracket
      | inr b ↦ behind_group r other less n t m k kn g f b
    ]

-- ---- a call is a path, its last name that of the method

-- a call's receiver and method as one path
abbrev pub joined : Option Path → NameAt → Path
joined None m = record { root = m; steps = [] }
joined (Some p) m = record { root = p.root; steps = p.steps ++ m ∷ [] }

pub joined_on : (on : Option Path) (m : NameAt) → receiver_of (joined on m).root (joined on m).steps ≡ on
joined_on None m = refl
joined_on (Some p) m = receiver_snoc p.root m p.steps

pub joined_method : (on : Option Path) (m : NameAt) → last (joined on m).root (joined on m).steps ≡ m
joined_method None m = refl
joined_method (Some p) m = last_snoc p.root m p.steps

step_at : (m : NameAt) (us vs : Tokens) → TokenMark (tok.Sign sign.Dot) tt us → name m vs → path_step m (us ++ vs)
step_at m us vs d e = record { front = us; back = vs; parts = refl; first = d; second = e }

joined_path : (on : Option Path) (m : NameAt) (us vs : Tokens) → receiver on us → name m vs
    → path (joined on m) (us ++ vs)
joined_path None m us vs d e =
    record { front = vs; back = []; parts = ap (λ l. l ++ vs) d ∙ sym (append-nil vs); first = inl e; second = refl }
joined_path (Some p) m us vs d e =
    let q = d.first in
    record {
      front = q.front;
      back = q.back ++ (d.back ++ vs);
      parts = ap (λ l. l ++ vs) d.parts ∙ append_assoc d.front d.back vs ∙ ap (λ l. l ++ (d.back ++ vs)) q.parts
          ∙ append_assoc q.front q.back (d.back ++ vs);
      first = q.first;
      second = each-append path_step p.steps (m ∷ []) q.back (d.back ++ vs) q.second
          (each-one path_step m (d.back ++ vs) (step_at m d.back vs d.second e));
    }

abbrev pub Called : Type 0
Called = Path × (List NameAt × List Expression)

abbrev pub called : Lang Called
called = Both path (Both groups arguments)

abbrev pub call_of : Called → Invocation
call_of q = record {
  on = receiver_of q.0.root q.0.steps;
  method = last q.0.root q.0.steps;
  groups = q.1.0;
  args =
      q.1.1;
}

abbrev pub parts_of : Invocation → Called
parts_of c = (joined c.on c.method, (c.groups, c.args))

pub call_parts : (c : Invocation) (us : Tokens) → call_written c us → called (parts_of c) us
call_parts c us d =
    let e = d.second in
    record {
      front = d.front ++ e.front;
      back = e.back;
      parts = d.parts ∙ ap (λ l. d.front ++ l) e.parts ∙ sym (append_assoc d.front e.front e.back);
      first = joined_path c.on c.method d.front e.front d.first e.first;
      second = e.second;
    }

call_cases : (c : Invocation) (us : Tokens) → call_written c us → (q : Called) × (c ≡ call_of q) × called q us
call_cases c us d = (
  parts_of c,
  ap (λ (o : Option Path). record { on = o; method = c.method; groups = c.groups; args = c.args })
      (sym (joined_on c.on c.method))
      ∙ ap (λ (m : NameAt). record {
        on = receiver_of (joined c.on c.method).root (joined c.on c.method).steps;
        method
            = m;
        groups = c.groups;
        args = c.args;
      }) (sym (joined_method c.on c.method)),
  call_parts c us d,
)

-- ---- arguments and calls

-- no expression begins with this token
not_start : (k : Lexical) → kind_form k ≡ None → (o : Option Lexeme) → IsStart o → Is k o → ⊥
not_start k e o s i = let h : None ≡ Some s.0 = sym (of_kind k (λ o. form_of o ≡ None) (λ at. e) o i) ∙ s.1 in cc

abbrev pub closing : Lexical
closing = tok.Sign sign.CloseParen

unique_expressions : Unique (comma_list whole_expression) (Is (tok.Sign sign.CloseParen))
unique_expressions = unique_listed whole_expression (Is closing) (Ends 0)
    (sign_ends 0 sign.Comma refl (λ e. cc) (λ e. cc)) (sign_ends 0 sign.CloseParen refl (λ e. cc) (λ e. cc))
    (of_other closing (tok.Sign sign.Comma) (λ e. cc))
    (apart_by whole_expression IsStart (Is closing) (not_start closing refl) (begins_expression 0))
    (unique_expression 0)

abbrev pub Enclosed : Type 0
Enclosed = Unit {0} × (List Expression × Unit {0})

abbrev pub enclosed : Lang Enclosed
enclosed = Both (TokenMark (tok.Sign sign.OpenParen)) (Both (comma_list whole_expression) (TokenMark closing))

unique_enclosed : Unique enclosed Always
unique_enclosed = unique_then (TokenMark (tok.Sign sign.OpenParen))
    (Both (comma_list whole_expression) (TokenMark closing)) Always (unique_mark (tok.Sign sign.OpenParen))
    (unique_both (comma_list whole_expression) (TokenMark closing) (Is closing) Always
    (λ x us r d f. begins_mark closing x us r d) unique_expressions (unique_mark closing))

pub unique_arguments : Unique arguments Always
unique_arguments = unique_as arguments enclosed Always (λ q. q.1.0) (λ y us d. ((tt, (y, tt)), refl, d)) unique_enclosed

pub begins_arguments : Begins arguments (Is (tok.Sign sign.OpenParen))
begins_arguments es us r d = begins_both (TokenMark (tok.Sign sign.OpenParen))
    (λ c. Both (comma_list whole_expression) (TokenMark closing)) (Is (tok.Sign sign.OpenParen))
    (begins_mark (tok.Sign sign.OpenParen)) (tt, (es, tt)) us r d

arguments_isnt : (g : Lexical) → (tok.Sign sign.OpenParen ≡ g → ⊥) → (G : Follow) → Links arguments G (Isnt g)
arguments_isnt g other G = links_by arguments (Is (tok.Sign sign.OpenParen)) (Isnt g)
    (of_other (tok.Sign sign.OpenParen) g other) begins_arguments G

pub unique_grouped : Unique (Both groups arguments) Always
unique_grouped = unique_both groups arguments (Isnt (tok.Sign sign.Less)) Always
    (arguments_isnt (tok.Sign sign.Less) (λ e. cc) Always) unique_groups unique_arguments

-- ---- what stands behind the path of a call

-- `(`, or `<` and a name and then `,` or `>`
abbrev pub CallTail : Tokens → Type 0
CallTail ts = ((t : Lexeme) × (other : Tokens) × (ts ≡ t ∷ other) × (t.kind ≡ tok.Sign sign.OpenParen))
    ⊎ ((less : Lexeme) × (n : Lexeme) × (t : Lexeme) × (m : ℕ) × (other : Tokens) × (ts ≡ less ∷ n ∷ t ∷ other)
    × (less.kind ≡ tok.Sign sign.Less) × (n.kind ≡ tok.Name m) × EndsGroup t)

furthers_end : (gs : List NameAt) (us vs r : Tokens) → one_by_one (further name) gs us
    → TokenMark (tok.Sign sign.Greater) tt vs → (t : Lexeme) × (other : Tokens) × (us ++ (vs ++ r) ≡ t ∷ other)
    × EndsGroup t
furthers_end [] us vs r d e = (
  record { kind = tok.Sign sign.Greater; at = e.0 },
  r,
  ap (λ z. z ++ (vs ++ r)) d
      ∙ ap (λ z. z ++ r) e.1,
  inr refl,
)
furthers_end (g ∷ gs) us vs r d e =
    let q = d.first in (
      record { kind = tok.Sign sign.Comma; at = q.first.0 },
      (q.back ++ d.back) ++ (vs ++ r),
      ap (λ z. z ++ (vs ++ r)) (d.parts ∙ ap (λ z. z ++ d.back) (q.parts ∙ ap (λ z. z ++ q.back) q.first.1)),
      inl refl,
    )

arguments_open : (es : List Expression) (us r : Tokens) → arguments es us → (t : Lexeme) × (other : Tokens)
    × (us ++ r ≡ t ∷ other) × (t.kind ≡ tok.Sign sign.OpenParen)
arguments_open es us r d = (
  record { kind = tok.Sign sign.OpenParen; at = d.first.0 },
  d.back
      ++ r,
  ap (λ z. z ++ r) (d.parts ∙ ap (λ z. z ++ d.back) d.first.1),
  refl,
)

pub call_tail : (gs : List NameAt) (es : List Expression) (us r : Tokens) → Both groups arguments (gs, es) us
    → CallTail (us ++ r)
call_tail [] es us r d =
    let a = arguments_open es d.back r d.second in
    inl (a.0, a.1, ap (λ z. z ++ r) (d.parts ∙ ap (λ z. z ++ d.back) d.first) ∙ a.2, a.3)
call_tail (g ∷ gs) es us r d =
    let q = d.first in
    let n = q.second.first in
    let f = furthers_end gs n.back q.second.back (d.back ++ r) n.second q.second.second in
    let less : Lexeme = record { kind = tok.Sign sign.Less; at = q.first.0 } in
    let one : Lexeme = record { kind = tok.Name g.name; at = g.at } in
    let q1 : q.front ≡ less ∷ [] = q.first.1 in
    let n1 : n.front ≡ one ∷ [] = n.first in
    let inner : q.second.front ++ (q.second.back ++ (d.back ++ r)) ≡ one
    ∷ (n.back ++ (q.second.back ++ (d.back ++ r))) = ap (λ z. z ++ (q.second.back ++ (d.back ++ r)))
    (n.parts ∙ ap (λ z. z ++ n.back) n1) in
    let outer : us ++ r ≡ less ∷ (q.back ++ (d.back ++ r)) = ap (λ z. z ++ r) d.parts ∙ append_assoc d.front d.back r
    ∙ ap (λ z. z ++ (d.back ++ r)) (q.parts ∙ ap (λ z. z ++ q.back) q1) in
    let middle : q.back ++ (d.back ++ r) ≡ q.second.front ++ (q.second.back ++ (d.back ++ r)) =
    ap (λ z. z ++ (d.back ++ r)) q.second.parts ∙ append_assoc q.second.front q.second.back (d.back ++ r) in
    inr (
      less,
      one,
      f.0,
      g.name,
      f.1,
      outer ∙ ap (λ z. less ∷ z) (middle ∙ inner ∙ ap (λ z. one ∷ z) f.2),
      refl,
      refl,
      f.3,
    )

tail_isnt : (g : Lexical) → (tok.Sign sign.OpenParen ≡ g → ⊥) → (tok.Sign sign.Less ≡ g → ⊥) → (ts : Tokens)
    → CallTail ts → Isnt g (head ts)
tail_isnt g paren less ts (inl c) = let P : Tokens → Type 0 = λ z. Isnt g (head z) in subst P (sym c.2)
    (of_other (tok.Sign sign.OpenParen) g paren (Some c.0) c.3)
tail_isnt g paren less ts (inr c) = let P : Tokens → Type 0 = λ z. Isnt g (head z) in subst P (sym c.5)
    (of_other (tok.Sign sign.Less) g less (Some c.0) c.6)

-- a path that is called ends where the path ends
pub call_isnt : (g : Lexical) → (tok.Sign sign.OpenParen ≡ g → ⊥) → (tok.Sign sign.Less ≡ g → ⊥) → (G : Follow)
    → Links (Both groups arguments) G (Isnt g)
call_isnt g paren less G q us r d f = tail_isnt g paren less (us ++ r) (call_tail q.0 q.1 us r d)

pub unique_called : Unique called Always
unique_called = unique_both path (Both groups arguments) (Isnt (tok.Sign sign.Dot)) Always
    (call_isnt (tok.Sign sign.Dot) (λ e. cc) (λ e. cc) Always) unique_path unique_grouped

pub unique_call : Unique call_written Always
unique_call = unique_as call_written called Always call_of call_cases unique_called

no_tail : (e : Expression) (us r : Tokens) (p : Path) (ps ts : Tokens) → whole_expression e us → path p ps
    → us ++ r ≡ ps ++ ts → CallTail ts → Is (tok.Sign sign.Semicolon) (head r) → ⊥
no_tail e us r p ps ts d q same (inl c) f = no_call_sign e us r p ps c.1 c.0 d q (same ∙ ap (λ z. ps ++ z) c.2) c.3 f
no_tail e us r p ps ts d q same (inr c) f = no_group_end e us r p ps c.4 c.0 c.1 c.2 c.3 d q
    (same ∙ ap (λ z. ps ++ z) c.5) c.6 c.7 c.8 f

-- an expression and a call are apart
pub no_call : (e : Expression) (c : Invocation) (us vs r s : Tokens) → whole_expression e us → call_written c vs
    → us ++ r ≡ vs ++ s → Is (tok.Sign sign.Semicolon) (head r) → ⊥
no_call e c us vs r s d k same f =
    let q = call_parts c vs k in
    no_tail e us r (joined c.on c.method) q.front (q.back ++ s) d q.first
    (same ∙ ap (λ z. z ++ s) q.parts ∙ append_assoc q.front q.back s)
    (call_tail c.groups c.args q.back s q.second) f

-- ---- right sides

-- an expression or a call
pub data Plain : Type 0 where
  AsValue : Expression → Plain
  AsCall : Invocation → Plain

abbrev pub plain : Lang Plain
plain (AsValue e) = whole_expression e
plain (AsCall c) = call_written c

abbrev pub plain_tree : Plain → RightSide
plain_tree (AsValue e) = Value e
plain_tree (AsCall c) = Returned c

pub semicolon_ends : (l : ℕ) (o : Option Lexeme) → Is (tok.Sign sign.Semicolon) o → Ends l o
semicolon_ends l = sign_ends l sign.Semicolon refl (λ e. cc) (λ e. cc)

unique_plain : Unique plain (Is (tok.Sign sign.Semicolon))
unique_plain (AsValue e) (AsValue f) us vs r s d k same t u =
    let o = unique_expression 0 e f us vs r s d k same (semicolon_ends 0 (head r) t)
    (semicolon_ends 0 (head s) u) in (ap AsValue o.0, o.1)
unique_plain (AsValue e) (AsCall c) us vs r s d k same t u = absurd (no_call e c us vs r s d k same t)
unique_plain (AsCall c) (AsValue e) us vs r s d k same t u = absurd (no_call e c vs us s r k d (sym same) u)
unique_plain (AsCall c) (AsCall b) us vs r s d k same t u = let o
    = unique_call c b us vs r s d k same tt tt in (ap AsCall o.0, o.1)

-- what stands behind `new`
pub data Fresh : Type 0 where
  AsInts : Expression → Fresh
  AsObject : NameAt → List NameAt → List Expression → Fresh

abbrev pub Counted : Type 0
Counted = Unit {0} × (Unit {0} × (Expression × Unit {0}))

abbrev pub counted : Lang Counted
counted = Both (TokenMark (tok.Word word.Ints))
    (Both (TokenMark (tok.Sign sign.OpenParen)) (Both whole_expression (TokenMark closing)))

abbrev pub Filled : Type 0
Filled = NameAt × (List NameAt × List Expression)

abbrev pub filled : Lang Filled
filled = Both name (Both groups arguments)

abbrev pub fresh : Lang Fresh
fresh (AsInts e) = counted (tt, (tt, (e, tt)))
fresh (AsObject c gs es) = filled (c, (gs, es))

abbrev pub fresh_tree : Spot → Fresh → RightSide
fresh_tree at (AsInts e) = Zeros e at
fresh_tree at (AsObject c gs es) = Made c gs es at

unique_counted : Unique counted Always
unique_counted = unique_then (TokenMark (tok.Word word.Ints))
    (Both (TokenMark (tok.Sign sign.OpenParen)) (Both whole_expression (TokenMark closing))) Always
    (unique_mark (tok.Word word.Ints))
    (unique_then (TokenMark (tok.Sign sign.OpenParen)) (Both whole_expression (TokenMark closing)) Always
    (unique_mark (tok.Sign sign.OpenParen))
    (unique_closing whole_expression (Ends 0) closing (sign_ends 0 sign.CloseParen refl (λ e. cc) (λ e. cc))
    (unique_expression 0)))

unique_filled : Unique filled Always
unique_filled = unique_then name (Both groups arguments) Always unique_name unique_grouped

pub ints_are_no_name : (o : Option Lexeme) → Is (tok.Word word.Ints) o → IsName o → ⊥
ints_are_no_name None i n = i
ints_are_no_name (Some t) i n = let h : tok.Word word.Ints ≡ tok.Name n.0 = sym i ∙ n.1 in cc

ints_or_name : (q : Counted) (p : Filled) (us vs r s : Tokens) → counted q us → filled p vs → us ++ r ≡ vs ++ s → ⊥
ints_or_name q p us vs r s d k same =
    let P : Tokens → Type 0 = λ z. Is (tok.Word word.Ints) (head z) in
    let i : Is (tok.Word word.Ints) (head (us ++ r)) = begins_both (TokenMark (tok.Word word.Ints))
    (λ c. Both (TokenMark (tok.Sign sign.OpenParen)) (Both whole_expression (TokenMark closing)))
    (Is (tok.Word word.Ints)) (begins_mark (tok.Word word.Ints)) q us r d in
    ints_are_no_name (head (vs ++ s)) (subst P same i)
    (begins_both name (λ c. Both groups arguments) IsName begins_name p vs s k)

unique_fresh : Unique fresh Always
unique_fresh (AsInts e) (AsInts f) us vs r s d k same t u =
    let o = unique_counted (tt, (tt, (e, tt))) (tt, (tt, (f, tt))) us vs r s d k same t
    u in (ap (λ (q : Counted). AsInts q.1.1.0) o.0, o.1)
unique_fresh (AsInts e) (AsObject c gs es) us vs r s d k same t u =
    absurd (ints_or_name (tt, (tt, (e, tt))) (c, (gs, es)) us vs r s d k same)
unique_fresh (AsObject c gs es) (AsInts e) us vs r s d k same t u =
    absurd (ints_or_name (tt, (tt, (e, tt))) (c, (gs, es)) vs us s r k d (sym same))
unique_fresh (AsObject c gs es) (AsObject b hs fs) us vs r s d k same t u =
    let o = unique_filled (c, (gs, es)) (b, (hs, fs)) us vs r s d k same t
    u in (ap (λ (q : Filled). AsObject q.0 q.1.0 q.1.1) o.0, o.1)

pub data Side : Type 0 where
  OfPlain : Side
  OfTake : Side
  OfNew : Side

abbrev pub SideParts : Side → Type 0
SideParts OfPlain = Plain
SideParts OfTake = Spot × Path
SideParts OfNew = Spot × Fresh

abbrev pub side_form : (t : Side) → Lang (SideParts t)
side_form OfPlain q us = plain q us
side_form OfTake q us = Both (Token (tok.Word word.Take)) path q us
side_form OfNew q us = Both (Token (tok.Word word.New)) fresh q us

abbrev pub side_tree : (t : Side) → SideParts t → RightSide
side_tree OfPlain q = plain_tree q
side_tree OfTake q = Taken q.1 q.0
side_tree OfNew q = fresh_tree q.0 q.1

side_cases : (y : RightSide) (us : Tokens) → right_of_equals y us → (t : Side) × (q : SideParts t)
    × (y ≡ side_tree t q) × side_form t q us
side_cases (Value e) us d = (OfPlain, AsValue e, refl, d)
side_cases (Taken p at) us d = (OfTake, (at, p), refl, d.1)
side_cases (Zeros e at) us d = (OfNew, (at, AsInts e), refl, d)
side_cases (Made c gs es at) us d = (OfNew, (at, AsObject c gs es), refl, d)
side_cases (Returned c) us d = (OfPlain, AsCall c, refl, d)

abbrev pub word_side : Keyword → Option Side
word_side word.Take = Some OfTake
word_side word.New = Some OfNew
word_side _ = Some OfPlain

abbrev pub kind_side : Lexical → Option Side
kind_side (tok.Word w) = word_side w
kind_side _ = Some OfPlain

abbrev pub side_at : Option Lexeme → Option Side
side_at None = None
side_at (Some t) = kind_side t.kind

word_plain : (w : Keyword) (t : Form) → word_form w ≡ Some t → word_side w ≡ Some OfPlain
word_plain word.Take t e = cc
word_plain word.New t e = cc
word_plain _ t e = refl

kind_plain : (k : Lexical) (t : Form) → kind_form k ≡ Some t → kind_side k ≡ Some OfPlain
kind_plain (tok.Word w) t e = word_plain w t e
kind_plain _ t e = refl

start_plain : (o : Option Lexeme) → IsStart o → side_at o ≡ Some OfPlain
start_plain None i = let h : None ≡ Some i.0 = i.1 in cc
start_plain (Some t) i = kind_plain t.kind i.0 i.1

root_plain : (o : Option Lexeme) → IsRoot o → side_at o ≡ Some OfPlain
root_plain o i = start_plain o (OfPath, form_at_root o i)

pub begins_call : Begins call_written IsRoot
begins_call c us r d = begins_both path (λ p. Both groups arguments) IsRoot begins_path (parts_of c) us r
    (call_parts c us d)

plain_first : (q : Plain) (us r : Tokens) → plain q us → side_at (head (us ++ r)) ≡ Some OfPlain
plain_first (AsValue e) us r d = start_plain (head (us ++ r)) (begins_expression 0 e us r d)
plain_first (AsCall c) us r d = root_plain (head (us ++ r)) (begins_call c us r d)

side_first : (t : Side) (q : SideParts t) (us r : Tokens) → side_form t q us → side_at (head (us ++ r)) ≡ Some t
side_first OfPlain q us r d = plain_first q us r d
side_first OfTake q us r d = of_kind (tok.Word word.Take) (λ o. side_at o ≡ Some OfTake) (λ at. refl) (head (us ++ r))
    (begins_both (Token (tok.Word word.Take)) (λ p. path) (Is (tok.Word word.Take))
    (begins_token (tok.Word word.Take)) q us r d)
side_first OfNew q us r d = of_kind (tok.Word word.New) (λ o. side_at o ≡ Some OfNew) (λ at. refl) (head (us ++ r))
    (begins_both (Token (tok.Word word.New)) (λ p. fresh) (Is (tok.Word word.New)) (begins_token (tok.Word word.New))
    q us r d)

unique_side_form : (t : Side) → Unique (side_form t) (Is (tok.Sign sign.Semicolon))
unique_side_form OfPlain = unique_plain
unique_side_form OfTake = unique_then (Token (tok.Word word.Take)) path (Is semicolon)
    (unique_at (tok.Word word.Take))
    (unique_under path (Is semicolon) (Isnt (tok.Sign sign.Dot)) (of_other semicolon (tok.Sign sign.Dot) (λ e. cc))
    unique_path)
unique_side_form OfNew = unique_then (Token (tok.Word word.New)) fresh (Is semicolon) (unique_at (tok.Word word.New))
    (unique_always fresh (Is semicolon) unique_fresh)

-- tokens before a semicolon stand for one right side at most
pub unique_right_side : Unique right_of_equals (Is (tok.Sign sign.Semicolon))
unique_right_side = unique_choice SideParts side_form side_tree right_of_equals (Is semicolon) side_cases
    (by_first SideParts side_form (Is semicolon) side_at (λ t q us r d f. side_first t q us r d)) unique_side_form
