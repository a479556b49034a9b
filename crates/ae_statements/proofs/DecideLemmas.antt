-- Decisions about right sides from the tokens ahead.
use Rattle.std.proofs.Common.{◌≡◌, ◌≢◌, ℕ, ◌++◌, List, [], ◌∷◌, length, ◌⊎◌, inl, inr, Bool, true, false, Option}
use Rattle.std.proofs.Common.{Some, None, refl, sym, ap, ◌∙◌, append_assoc, subst}
use Rattle.ae_text.specs.declared.token.Keyword.TheVariants as word
use Rattle.ae_text.specs.declared.token.Sign.{Sign}
use Rattle.ae_text.specs.declared.token.Sign.TheVariants as sign
use Rattle.ae_tree.specs.declared.lexeme.Lexeme.{Lexeme}
use Rattle.ae_tree.specs.declared.lexeme.Lexical.{Lexical}
use Rattle.ae_tree.specs.declared.lexeme.Lexical.TheVariants as tok
use Rattle.ae_tree.specs.declared.tree.NameAt.{NameAt}
use Rattle.ae_tree.specs.declared.tree.Path.{Path}
use Rattle.ae_tree.specs.Names.{this}
use Rattle.ae_tree.specs.Plain.{Expression, Invocation, RightSide, Value, Returned}
use Rattle.ae_tree.specs.Grammar.{Tokens, one_by_one, root, path_step, path, receiver, whole_expression}
use Rattle.ae_tree.specs.Grammar.{call_written, right_of_equals}
use Rattle.ae_tree.specs.Limits.{KeepsRight, AllKeepDepth, early}
use Rattle.ae_reading.specs.declared.fail.Why.TheVariants.{Unexpected}
use Rattle.ae_reading.specs.Reads.{head, Always, Is, Isnt, IsName, IsWithinAll, EndIsNone, Stopped}
use Rattle.ae_statements.proofs.from_reading.ReadsLemmas.{NoEnd-append, lead_here, name_token}
use Rattle.ae_statements.proofs.from_reading.UniquePaths.{IsRoot}
use Rattle.ae_statements.proofs.from_reading.Begins.{isnt_of}
use Rattle.ae_statements.specs.Productions.{with_semicolon}
use Rattle.ae_statements.specs.Deciding.{Calling, IsCall, IsCallable, IsCallTail, IsPlainSide, IsValue, starts}
use Rattle.ae_statements.specs.Deciding.{follows_path, follows_compared, follows_group}
use Rattle.ae_statements.proofs.CallLemmas.{none_within}
use Rattle.ae_statements.proofs.UniqueRightSides.{begins_call, joined}
use Rattle.ae_statements.proofs.MarkLemmas.{path_marks}
use Rattle.ae_statements.proofs.SideLemmas.{Dot, call_behind, call_goes, name_of, one_of, path_plain, plain_side}
use Rattle.ae_statements.proofs.SideLemmas.{PlainSide}
use Rattle.ae_statements.proofs.SplitLemmas.{named, calling_path, calling_dot, calling_less, calling_name}
use Rattle.ae_statements.proofs.GoesLemmas.{Ended, Follows, semicolon, comparing_path, comparing_less}
use Rattle.ae_statements.proofs.GoesLemmas.{comparing_name, expression_path, expression_less, expression_name}
use Rattle.ae_statements.proofs.GoesLemmas.{expression_dot}

-- ---- small facts

abbrev pub Paren : Lexical
Paren = tok.Sign sign.OpenParen

abbrev pub Less : Lexical
Less = tok.Sign sign.Less

root_no_end : (x : NameAt) (us : Tokens) → root x us → EndIsNone us
root_no_end x us (inl d) = let P : Tokens → Type 0 = EndIsNone in subst P (sym d) ((λ e. cc), tt)
root_no_end x us (inr d) = let P : Tokens → Type 0 = EndIsNone in subst P (sym d.1) ((λ e. cc), tt)

step_no_end : (x : NameAt) (us : Tokens) → path_step x us → EndIsNone us
step_no_end x us d =
    let P : Tokens → Type 0 = EndIsNone in
    subst P (sym d.parts) (NoEnd-append d.front d.back (subst P (sym d.first.1) ((λ e. cc), tt))
    (subst P (sym d.second) ((λ e. cc), tt)))

steps_no_end : (xs : List NameAt) (us : Tokens) → one_by_one path_step xs us → EndIsNone us
steps_no_end [] us d = let P : Tokens → Type 0 = EndIsNone in subst P (sym d) tt
steps_no_end (x ∷ xs) us d = let P : Tokens
    → Type 0 = EndIsNone in subst P (sym d.parts)
    (NoEnd-append d.front d.back (step_no_end x d.front d.first) (steps_no_end xs d.back d.second))

pub path_no_end : (p : Path) (us : Tokens) → path p us → EndIsNone us
path_no_end p us d = let P : Tokens
    → Type 0 = EndIsNone in subst P (sym d.parts)
    (NoEnd-append d.front d.back (root_no_end p.root d.front d.first) (steps_no_end p.steps d.back d.second))

kind_no_end : (k : Lexical) (t : Lexeme) → (k ≢ tok.End) → t.kind ≡ k → t.kind ≡ tok.End → ⊥
kind_no_end k t other i e = other (sym i ∙ e)

pub calling_within : (c : Invocation) → c.args ≡ [] → IsWithinAll KeepsRight (Returned c)
calling_within c none l = let P : List Expression → Type 0 = AllKeepDepth l in subst P (sym none) (none_within l)

-- ---- neither

-- no expression and no call goes on with these tokens and the next one
abbrev pub NoSide : Tokens → Tokens → Type 0
NoSide before rest = (y : RightSide) (us r other : Tokens) → with_semicolon right_of_equals y us
    → us ++ r ≡ before ++ other → head other ≡ head rest → ⊥

neither : (before rest : Tokens) → Calling before → EndIsNone before → NoSide before rest
    → Stopped (with_semicolon right_of_equals) KeepsRight Always (before ++ rest) Unexpected (length rest)
neither before rest c no_end none = record {
  before = before;
  rest = rest;
  whole = refl;
  left_is = refl;
  tree = Returned c.tree;
  more = c.more;
  goes = c.goes;
  known = c.known;
  within = λ l. calling_within c.tree c.none (early l);
  lead = lead_here before (Returned c.tree) c.more c.goes c.known (calling_within c.tree c.none);
  no_end = no_end;
  stuck = λ y us r other d e h f w. none y us r other d e h;
  beyond = tt;
}

-- an expression in front of its semicolon
pub record Front (e : Expression) (us r : Tokens) : Type 0 where
  pub front : Tokens
  pub back : Tokens
  pub is : whole_expression e front
  pub ends : Ended back
  pub same : us ++ r ≡ front ++ back

pub front_of : (e : Expression) (us r : Tokens) → with_semicolon whole_expression e us → Front e us r
front_of e us r d =
    let P : Tokens → Type 0 = λ z. Is semicolon (head (z ++ r)) in
    record {
      front = d.front;
      back = d.back ++ r;
      is = d.first;
      ends = subst P (sym d.second.1) refl;
      same =
          ap (λ z. z ++ r) d.parts ∙ append_assoc d.front d.back r;
    }

-- what no token of the kind is
refused : (f : Lexical → Bool) (rest other : Tokens) → (Follows f (head rest) → ⊥) → head other ≡ head rest
    → Follows f (head other) → ⊥
refused f rest other none h s = none (s.0, sym h ∙ s.1, s.2)

pub NoFollow-none : (f : Lexical → Bool) (ts : Tokens) → ts ≡ [] → Follows f (head ts) → ⊥
NoFollow-none f ts e s = let h : None ≡ Some s.0 = sym (ap head e) ∙ s.1 in cc

pub NoFollow-some : (f : Lexical → Bool) (ts later : Tokens) (t : Lexeme) → ts ≡ t ∷ later → f t.kind ≡ false
    → Follows f (head ts) → ⊥
NoFollow-some f ts later t e n s =
    let h : Some t ≡ Some s.0 = sym (ap head e) ∙ s.1 in
    let same : t ≡ s.0 = cc in
    let k : f s.0.kind ≡ false = ap (λ (l : Lexeme). f l.kind) (sym same) ∙ n in
    let g : true ≡ false = sym s.2 ∙ k in cc

-- a tail's first token
pub tail_head : (ts : Tokens) → IsCallTail ts → Is (tok.Sign sign.OpenParen) (head ts) ⊎ Is (tok.Sign sign.Less)
    (head ts)
tail_head ts (inl c) = let P : Tokens → Type 0 = λ z. Is Paren (head z) in inl (subst P (sym c.2) c.3)
tail_head ts (inr c) = let P : Tokens → Type 0 = λ z. Is Less (head z) in inr (subst P (sym c.5) c.6)

tail_name : (less : Lexeme) (ts : Tokens) → less.kind ≡ tok.Sign sign.Less → IsCallTail (less ∷ ts) → IsName (head ts)
tail_name less ts k (inl c) =
    let same : less ≡ c.0 = let h = c.2 in cc in
    let kinds : tok.Sign sign.Less ≡ Paren = sym k ∙ ap (λ (l : Lexeme). l.kind) same
    ∙ c.3 in absurd (let n : ⊥ = cc in n)
tail_name less ts k (inr c) =
    let h : less ∷ ts ≡ c.0 ∷ c.1 ∷ c.2 ∷ c.4 = c.5 in
    let rest : ts ≡ c.1 ∷ c.2 ∷ c.4 = cc in
    let P : Tokens → Type 0 = λ z. IsName (head z) in
    subst P (sym rest) (c.3, c.7)

tail_group : (less n : Lexeme) (ts : Tokens) → less.kind ≡ tok.Sign sign.Less → IsCallTail (less ∷ n ∷ ts)
    → Follows follows_group (head ts)
tail_group less n ts k (inl c) =
    let same : less ≡ c.0 = let h = c.2 in cc in
    let kinds : tok.Sign sign.Less ≡ Paren = sym k ∙ ap (λ (l : Lexeme). l.kind) same
    ∙ c.3 in absurd (let n : ⊥ = cc in n)
tail_group less n ts k (inr c) =
    let h : less ∷ n ∷ ts ≡ c.0 ∷ c.1 ∷ c.2 ∷ c.4 = c.5 in
    let rest : ts ≡ c.2 ∷ c.4 = cc in
    (c.2, ap head rest, by_kind c.8)
  where
    by_kind : (c.2.kind ≡ tok.Sign sign.Comma) ⊎ (c.2.kind ≡ tok.Sign sign.Greater) → follows_group c.2.kind ≡ true
    by_kind (inl e) = ap follows_group e
    by_kind (inr e) = ap follows_group e

transported : (k : Lexical) (other rest : Tokens) → head other ≡ head rest → Is k (head other) → Is k (head rest)
transported k other rest h i = let P : Option Lexeme → Type 0 = Is k in subst P h i

pub isnt_transported : (k : Lexical) (other rest : Tokens) → head other ≡ head rest → (Is k (head rest) → ⊥)
    → Isnt k (head other)
isnt_transported k other rest h n = isnt_of k (head other) (λ i. n (transported k other rest h i))

-- nothing goes on behind a path
pub neither_path : (p : Path) (ps rest : Tokens) → path p ps → IsCallable p ps
    → (Is (tok.Sign sign.Dot) (head rest) → ⊥) → (Is (tok.Sign sign.OpenParen) (head rest) → ⊥)
    → (Is (tok.Sign sign.Less) (head rest) → ⊥) → (Follows follows_path (head rest) → ⊥)
    → Stopped (with_semicolon right_of_equals) KeepsRight Always (ps ++ rest) Unexpected (length rest)
neither_path p ps rest q k no_dot no_paren no_less none = neither ps rest (calling_path p ps k)
    (path_no_end p ps q) no_side
  where
    no_tail : (other : Tokens) → head other ≡ head rest → Is (tok.Sign sign.OpenParen) (head other)
        ⊎ Is (tok.Sign sign.Less) (head other) → ⊥
    no_tail other h (inl i) = no_paren (transported Paren other rest h i)
    no_tail other h (inr i) = no_less (transported Less other rest h i)

    no_side : NoSide ps rest
    no_side y us r other d e h = by_side (plain_side y us r (ps ++ other) d e (path_plain p ps other q))
      where
        by_side : PlainSide y us → ⊥
        by_side (inl s) =
            let f = front_of s.0 us r s.2 in
            refused follows_path rest other none h
            (expression_path s.0 f.front f.back p ps other f.is f.ends (sym f.same ∙ e) q
            (isnt_transported Dot other rest h no_dot))
        by_side (inr s) =
            let b = call_behind s.0 us r p ps other s.2 e q (isnt_transported Dot other rest h no_dot) in
            no_tail other h (tail_head other b.tail)

-- behind the path and `.`
pub neither_dot : (p : Path) (ps rest : Tokens) (dot : Lexeme) → path p ps → dot.kind ≡ tok.Sign sign.Dot
    → (IsName (head rest) → ⊥) → Stopped (with_semicolon right_of_equals) KeepsRight Always
    (ps ++ (dot ∷ rest)) Unexpected (length rest)
neither_dot p ps rest dot q k none =
    let P : Tokens → Type 0 = λ z. Stopped (with_semicolon right_of_equals) KeepsRight Always z Unexpected
    (length rest) in
    subst P (append_assoc ps (dot ∷ []) rest)
    (neither (ps ++ dot ∷ []) rest (calling_dot p ps dot q k)
    (NoEnd-append ps (dot ∷ []) (path_no_end p ps q) (kind_no_end Dot dot (λ e. cc) k, tt)) no_side)
  where
    no_side : NoSide (ps ++ dot ∷ []) rest
    no_side y us r other d e h = by_side
        (plain_side y us r (ps ++ (dot ∷ other)) d here (path_plain p ps (dot ∷ other) q))
      where
        here : us ++ r ≡ ps ++ (dot ∷ other)
        here = e ∙ append_assoc ps (dot ∷ []) other

        no_name : IsName (head other) → ⊥
        no_name i = let P : Option Lexeme → Type 0 = IsName in none (subst P h i)

        by_side : PlainSide y us → ⊥
        by_side (inl s) = let f = front_of s.0 us r s.2 in no_name
            (expression_dot s.0 f.front f.back p ps other dot f.is f.ends (sym f.same ∙ here) q k)
        by_side (inr s) = no_name (call_goes s.0 us r p ps other dot s.2 here q k)

-- behind the path and `<`
pub neither_less : (p : Path) (ps rest : Tokens) (less : Lexeme) → path p ps → IsCallable p ps
    → less.kind ≡ tok.Sign sign.Less → (IsName (head rest) → ⊥) → (Follows starts (head rest) → ⊥)
    → Stopped (with_semicolon right_of_equals) KeepsRight Always (ps ++ (less ∷ rest)) Unexpected (length rest)
neither_less p ps rest less q c k no_name none =
    let P : Tokens → Type 0 = λ z. Stopped (with_semicolon right_of_equals) KeepsRight Always z Unexpected
    (length rest) in
    subst P (append_assoc ps (less ∷ []) rest)
    (neither (ps ++ less ∷ []) rest (calling_less p ps less c k)
    (NoEnd-append ps (less ∷ []) (path_no_end p ps q) (kind_no_end Less less (λ e. cc) k, tt)) no_side)
  where
    no_side : NoSide (ps ++ less ∷ []) rest
    no_side y us r other d e h = by_side
        (plain_side y us r (ps ++ (less ∷ other)) d here (path_plain p ps (less ∷ other) q))
      where
        here : us ++ r ≡ ps ++ (less ∷ other)
        here = e ∙ append_assoc ps (less ∷ []) other

        by_side : PlainSide y us → ⊥
        by_side (inl s) =
            let f = front_of s.0 us r s.2 in
            refused starts rest other none h
            (expression_less s.0 f.front f.back p ps other less f.is f.ends (sym f.same ∙ here) q k)
        by_side (inr s) =
            let b = call_behind s.0 us r p ps (less ∷ other) s.2 here q
            (λ i. let g : tok.Sign sign.Less ≡ Dot = sym k ∙ i in cc) in
            let P : Option Lexeme → Type 0 = IsName in
            no_name (subst P h (tail_name less other k b.tail))

-- behind the path, `<` and a name
pub neither_name : (p : Path) (ps rest : Tokens) (less n : Lexeme) (m : ℕ) → path p ps → IsCallable p ps
    → less.kind ≡ tok.Sign sign.Less → n.kind ≡ tok.Name m → (Follows follows_compared (head rest) → ⊥)
    → (Follows follows_group (head rest) → ⊥) → Stopped (with_semicolon right_of_equals) KeepsRight Always
    (ps ++ (less ∷ n ∷ rest)) Unexpected (length rest)
neither_name p ps rest less n m q c k i none no_group =
    let P : Tokens → Type 0 = λ z. Stopped (with_semicolon right_of_equals) KeepsRight Always z Unexpected
    (length rest) in
    subst P (append_assoc ps (less ∷ n ∷ []) rest)
    (neither (ps ++ less ∷ n ∷ []) rest (calling_name p ps less n m c k i)
    (NoEnd-append ps (less ∷ n ∷ []) (path_no_end p ps q)
    (kind_no_end Less less (λ e. cc) k, (kind_no_end (tok.Name m) n (λ e. cc) i, tt))) no_side)
  where
    no_dot : Is (tok.Sign sign.Dot) (head rest) → ⊥
    no_dot i = none (dot_follows (head rest) i)
      where
        dot_follows : (o : Option Lexeme) → Is (tok.Sign sign.Dot) o → Follows follows_compared o
        dot_follows None j = absurd j
        dot_follows (Some t) j = (t, refl, ap follows_compared j)

    no_side : NoSide (ps ++ less ∷ n ∷ []) rest
    no_side y us r other d e h = by_side
        (plain_side y us r (ps ++ (less ∷ n ∷ other)) d here (path_plain p ps (less ∷ n ∷ other) q))
      where
        here : us ++ r ≡ ps ++ (less ∷ n ∷ other)
        here = e ∙ append_assoc ps (less ∷ n ∷ []) other

        by_side : PlainSide y us → ⊥
        by_side (inl s) =
            let f = front_of s.0 us r s.2 in
            refused follows_compared rest other none h
            (expression_name s.0 f.front f.back p ps other less n m f.is f.ends (sym f.same ∙ here) q k i
            (isnt_transported Dot other rest h no_dot))
        by_side (inr s) =
            let b = call_behind s.0 us r p ps (less ∷ n ∷ other) s.2 here q
            (λ i. let g : tok.Sign sign.Less ≡ Dot = sym k ∙ i in cc) in
            refused follows_group rest other no_group h (tail_group less n other k b.tail)

-- ---- expressions

abbrev OnlyValue : Tokens → Tokens → Type 0
OnlyValue before rest = (y : RightSide) (us r other : Tokens) → with_semicolon right_of_equals y us
    → us ++ r ≡ before ++ other → head other ≡ head rest → (e : Expression) × (y ≡ Value e)

-- where no call goes on, only expressions do
value_only : (before rest : Tokens) → ((other : Tokens) → head other ≡ head rest → IsPlainSide (before ++ other)) →
    ((c : Invocation) (us r other : Tokens) → with_semicolon call_written c us → us ++ r ≡ before ++ other
    → head other ≡ head rest → ⊥) → OnlyValue before rest
value_only before rest plain no_call y us r other d e h =
    by_side (plain_side y us r (before ++ other) d e (plain other h))
  where
    by_side : PlainSide y us → (e : Expression) × (y ≡ Value e)
    by_side (inl s) = (s.0, s.1)
    by_side (inr s) = absurd (no_call s.0 us r other s.2 e h)

pub value_path : (p : Path) (ps later : Tokens) (t : Lexeme) → path p ps → IsCallable p ps
    → (t.kind ≡ tok.Sign sign.Dot → ⊥) → (t.kind ≡ tok.Sign sign.OpenParen → ⊥) → (t.kind ≡ tok.Sign sign.Less → ⊥)
    → follows_path t.kind ≡ true → IsValue (ps ++ (t ∷ later)) (length (t ∷ later))
value_path p ps later t q k no_dot no_paren no_less f = record {
  before = ps;
  rest = t ∷ later;
  whole = refl;
  left_is = refl;
  only = value_only ps (t ∷ later) (λ other h. path_plain p ps other q) no_call;
  undecided = inr (p, inl q);
  both = inr (calling_path p ps k, comparing_path p ps later t q f);
}
  where
    no_tail : (other : Tokens) → head other ≡ Some t → Is (tok.Sign sign.OpenParen) (head other)
        ⊎ Is (tok.Sign sign.Less) (head other) → ⊥
    no_tail other h (inl i) = no_paren (transported Paren other (t ∷ later) h i)
    no_tail other h (inr i) = no_less (transported Less other (t ∷ later) h i)

    no_call : (c : Invocation) (us r other : Tokens) → with_semicolon call_written c us → us ++ r ≡ ps ++ other
        → head other ≡ Some t → ⊥
    no_call c us r other d e h =
        let b = call_behind c us r p ps other d e q (isnt_transported Dot other (t ∷ later) h no_dot) in
        no_tail other h (tail_head other b.tail)

pub value_less : (p : Path) (ps later : Tokens) (less t : Lexeme) → path p ps → IsCallable p ps
    → less.kind ≡ tok.Sign sign.Less → (IsName (Some t) → ⊥) → starts t.kind ≡ true
    → IsValue (ps ++ (less ∷ t ∷ later)) (length (t ∷ later))
value_less p ps later less t q c k no_name f = record {
  before = ps ++ less ∷ [];
  rest = t ∷ later;
  whole = sym (append_assoc ps (less ∷ []) (t ∷ later));
  left_is = refl;
  only = value_only (ps ++ less ∷ []) (t ∷ later)
      (λ other h. let P : Tokens → Type 0 = IsPlainSide in subst P (sym (append_assoc ps (less ∷ []) other))
      (path_plain p ps (less ∷ other) q)) no_call;
  undecided = inr (
    p,
    inr (inl (record
        { front = ps; back = less ∷ []; parts = refl; first = q; second = one_of Less less k })),
  );
  both = inr (calling_less p ps less c k, comparing_less p ps later less t q k f);
}
  where
    no_call : (c : Invocation) (us r other : Tokens) → with_semicolon call_written c us → us ++ r ≡ (ps ++ less ∷ [])
        ++ other → head other ≡ Some t → ⊥
    no_call c us r other d e h =
        let b = call_behind c us r p ps (less ∷ other) d (e ∙ append_assoc ps (less ∷ []) other) q
        (λ i. let g : tok.Sign sign.Less ≡ Dot = sym k ∙ i in cc) in
        let P : Option Lexeme → Type 0 = IsName in
        no_name (subst P h (tail_name less other k b.tail))

pub value_name : (p : Path) (ps later : Tokens) (less n t : Lexeme) (m : ℕ) → path p ps → IsCallable p ps
    → less.kind ≡ tok.Sign sign.Less → n.kind ≡ tok.Name m → follows_group t.kind ≡ false → follows_compared t.kind
    ≡ true → IsValue (ps ++ (less ∷ n ∷ t ∷ later)) (length (t ∷ later))
value_name p ps later less n t m q c k i no_group f = record {
  before = ps ++ less ∷ n ∷ [];
  rest = t ∷ later;
  whole = sym (append_assoc ps (less ∷ n ∷ []) (t ∷ later));
  left_is = refl;
  only = value_only (ps ++ less ∷ n ∷ []) (t ∷ later)
      (λ other h. let P : Tokens → Type 0 = IsPlainSide in subst P (sym (append_assoc ps (less ∷ n ∷ []) other))
      (path_plain p ps (less ∷ n ∷ other) q)) no_call;
  undecided = inr (
    p,
    inr (inr (
      named n m,
      record {
        front = ps;
        back = less ∷ n ∷ [];
        parts = refl;
        first = q;
        second =
            record { front = less ∷ []; back = n ∷ []; parts = refl; first = one_of Less less k; second = name_of n m i };
      },
    )),
  );
  both = inr (calling_name p ps less n m c k i, comparing_name p ps later less n t m q k i f);
}
  where
    no_call : (c : Invocation) (us r other : Tokens) → with_semicolon call_written c us
        → us ++ r ≡ (ps ++ less ∷ n ∷ []) ++ other → head other ≡ Some t → ⊥
    no_call c us r other d e h =
        let b = call_behind c us r p ps (less ∷ n ∷ other) d (e ∙ append_assoc ps (less ∷ n ∷ []) other) q
        (λ i. let g : tok.Sign sign.Less ≡ Dot = sym k ∙ i in cc) in
        refused follows_group (t ∷ later) other (NoFollow-some follows_group (t ∷ later) later t refl no_group) h
        (tail_group less n other k b.tail)

-- a call whose path is one token begins with a name
one_named : (c : Invocation) (us r : Tokens) → with_semicolon call_written c us → c.on ≡ None → IsName (head (us ++ r))
one_named c us r d none =
    let P : Option Path → Type 0 = λ o. receiver o d.first.front in
    let gone : d.first.front ≡ [] = subst P none d.first.first in
    let named : d.first.second.front ≡ name_token c.method ∷ [] = d.first.second.first in
    let all : us ≡ name_token c.method ∷ (d.first.second.back ++ d.back) =
    d.parts ∙ ap (λ l. l ++ d.back) (d.first.parts ∙ ap (λ l. l ++ d.first.back) gone ∙ d.first.second.parts
    ∙ ap (λ l. l ++ d.first.second.back) named) in
    let Q : Tokens → Type 0 = λ l. IsName (head (l ++ r)) in
    subst Q (sym all) (c.method.name, refl)

no_steps : (on : Option Path) (m x : NameAt) → joined on m ≡ record { root = x; steps = [] } → on ≡ None
no_steps None m x e = refl
no_steps (Some p) m x e = let h : p.steps ++ m ∷ [] ≡ [] = ap (λ (q : Path). q.steps) e in absurd (not_nil p.steps h)
  where
    not_nil : (xs : List NameAt) → xs ++ m ∷ [] ≡ [] → ⊥
    not_nil [] h = cc
    not_nil (y ∷ xs) h = cc

-- `this` alone is not called
pub value_this : (rest : Tokens) (first : Lexeme) → first.kind ≡ tok.Word word.This
    → (Is (tok.Sign sign.Dot) (head rest) → ⊥) → IsValue (first ∷ rest) (length rest)
value_this rest first k no_dot = record {
  before = first ∷ [];
  rest = rest;
  whole = refl;
  left_is = refl;
  only = value_only (first ∷ []) rest (λ other h. path_plain alone (first ∷ []) other alone_is) no_call;
  undecided = inr (alone, inl alone_is);
  both = inl (sym (path_marks alone (first ∷ []) alone_is));
}
  where
    alone : Path
    alone = record { root = record { name = this; at = first.at }; steps = [] }

    alone_is : path alone (first ∷ [])
    alone_is = record {
      front = first ∷ [];
      back =
          [];
      parts = refl;
      first = inr (refl, ap (λ j. record { kind = j; at = first.at } ∷ []) k);
      second = refl;
    }

    no_call : (c : Invocation) (us r other : Tokens) → with_semicolon call_written c us → us ++ r ≡ first ∷ other
        → head other ≡ head rest → ⊥
    no_call c us r other d e h =
        let b = call_behind c us r alone (first ∷ []) other d e alone_is (isnt_transported Dot other rest h no_dot) in
        let P : Tokens → Type 0 = λ z. IsName (head z) in
        let n : IsName (Some first) = subst P e (one_named c us r d (no_steps c.on c.method alone.root b.callee)) in
        let kinds : tok.Name n.0 ≡ tok.Word word.This = sym n.1 ∙ k in cc

-- no call begins with another token
pub value_other : (ts : Tokens) → IsPlainSide ts → (IsName (head ts) → ⊥) → (Is (tok.Word word.This) (head ts) → ⊥)
    → IsValue ts (length ts)
value_other ts plain no_name no_this = record {
  before = [];
  rest = ts;
  whole = refl;
  left_is = refl;
  only = value_only [] ts (λ other h. (
    (λ i. plain.0 (transported (tok.Word word.Take) other ts h i)),
    (λ i. plain.1 (transported (tok.Word word.New) other ts h i)),
  )) no_call;
  undecided = inl refl;
  both = inl refl;
}
  where
    no_root : IsRoot (head ts) → ⊥
    no_root (inl i) = no_name i
    no_root (inr i) = no_this i

    no_call : (c : Invocation) (us r other : Tokens) → with_semicolon call_written c us → us ++ r ≡ other
        → head other ≡ head ts → ⊥
    no_call c us r other d e h =
        let P : Option Lexeme → Type 0 = IsRoot in
        no_root (subst P (ap head (sym (append_assoc d.front d.back r) ∙ ap (λ l. l ++ r) (sym d.parts) ∙ e) ∙ h)
        (begins_call c d.front (d.back ++ r) d.first))

-- ---- calls
