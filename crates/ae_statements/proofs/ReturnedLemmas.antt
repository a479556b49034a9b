-- Right sides that are calls, and those that are expressions.
use Rattle.std.proofs.Common.{◌≡◌, ℕ, ◌++◌, List, [], ◌∷◌, ◌⊎◌, inl, inr, Some, refl, sym, ap, ◌∙◌, append_assoc}
use Rattle.std.proofs.Common.{append-nil, subst}
use Rattle.ae_text.specs.declared.token.Sign.TheVariants as sign
use Rattle.ae_tree.specs.declared.lexeme.Lexeme.{Lexeme}
use Rattle.ae_tree.specs.declared.lexeme.Lexical.TheVariants as tok
use Rattle.ae_tree.specs.declared.limits.Limit.{Limit}
use Rattle.ae_tree.specs.declared.tree.Path.{Path}
use Rattle.ae_tree.specs.Plain.{Expression, Invocation, RightSide, Returned}
use Rattle.ae_tree.specs.Grammar.{Tokens, path, groups, arguments, whole_expression, call_written, right_of_equals}
use Rattle.ae_tree.specs.Limits.{KeepsRight}
use Rattle.ae_tree.specs.Names.{io}
use Rattle.ae_reading.specs.declared.fail.Fail.{Fail}
use Rattle.ae_reading.specs.declared.fail.Fail.TheVariants.{Refused, Memory}
use Rattle.ae_reading.specs.declared.fail.Why.{Why}
use Rattle.ae_reading.specs.declared.fail.Why.TheVariants.{Unexpected, Over}
use Rattle.ae_reading.specs.Reads.{head, Always, Free, Is, Isnt, Took, Lead, Stopped, Failed, Counts, Beyond}
use Rattle.ae_statements.proofs.from_reading.ReadsLemmas.{Both, NoEnd-append, failed_by}
use Rattle.ae_statements.proofs.from_reading.Begins.{of_other}
use Rattle.ae_statements.specs.Productions.{with_semicolon, call_rest, KeepsCalled, invoked}
use Rattle.ae_statements.specs.Deciding.{IsCall, IsCallTail}
use Rattle.ae_statements.proofs.CallLemmas.{none_within}
use Rattle.ae_statements.proofs.UniqueRightSides.{call_tail, no_call_sign, no_group_end}
use Rattle.ae_statements.proofs.SideLemmas.{Dot, Called, PlainSide, call_intro, call_is, call_behind, path_plain}
use Rattle.ae_statements.proofs.SideLemmas.{plain_side}
use Rattle.ae_statements.proofs.SplitLemmas.{io_at, sign_at, closing, called_one}
use Rattle.ae_statements.proofs.GoesLemmas.{Ended}
use Rattle.ae_statements.proofs.DecideLemmas.{front_of, path_no_end, tail_head}

pub counts_all : (why : Why) {w : Limit → Type 0} → ((l : Limit) → w l) → Counts why w
counts_all Unexpected f = tt
counts_all (Over l) f = f l

tail_no_dot : (ts : Tokens) → IsCallTail ts → Isnt (tok.Sign sign.Dot) (head ts)
tail_no_dot ts t = by_head (tail_head ts t)
  where
    by_head : Is (tok.Sign sign.OpenParen) (head ts) ⊎ Is (tok.Sign sign.Less) (head ts)
        → Isnt (tok.Sign sign.Dot) (head ts)
    by_head (inl i) = of_other (tok.Sign sign.OpenParen) Dot (λ e. cc) (head ts) i
    by_head (inr i) = of_other (tok.Sign sign.Less) Dot (λ e. cc) (head ts) i

-- no expression begins with a path and the tail of a call
no_value : (e : Expression) (us r : Tokens) (p : Path) (ps other : Tokens) → whole_expression e us → Ended r
    → us ++ r ≡ ps ++ other → path p ps → IsCallTail other → ⊥
no_value e us r p ps other d f same q (inl c) = no_call_sign e us r p ps c.1 c.0 d q
    (same ∙ ap (λ z. ps ++ z) c.2) c.3 f
no_value e us r p ps other d f same q (inr c) = no_group_end e us r p ps c.4 c.0 c.1 c.2 c.3 d q
    (same ∙ ap (λ z. ps ++ z) c.5) c.6 c.7 c.8 f

-- what a called path is followed by
called_tail : (q : Called) (us r : Tokens) → call_rest q us → IsCallTail (us ++ r)
called_tail q us r d =
    let e = d.second in
    let P : Tokens → Type 0 = IsCallTail in
    let given : Both groups arguments (q.0, q.1) (d.front ++ e.front) =
    record { front = d.front; back = e.front; parts = refl; first = d.first; second = e.first } in
    let same : (d.front ++ e.front) ++ (e.back ++ r) ≡ us ++ r =
    sym (append_assoc (d.front ++ e.front) e.back r)
    ∙ ap (λ l. l ++ r) (append_assoc d.front e.front e.back ∙ ap (λ l. d.front ++ l) (sym e.parts) ∙ sym d.parts)
    in
    subst P same (call_tail q.0 q.1 (d.front ++ e.front) (e.back ++ r) given)

-- ---- the path

pub path_never : (ts : Tokens) (why : Why) (left : ℕ) → IsCall ts
    → Stopped path Free (Isnt (tok.Sign sign.Dot)) ts why left → ⊥
path_never ts why left k u = u.stuck k.callee k.taken k.rest u.rest k.is_path (sym k.whole ∙ u.whole) refl
    (tail_no_dot k.rest k.tail) (counts_all why (λ l. tt))

pub path_failed : (ts : Tokens) (e : Fail) → IsCall ts → Failed path Free (Isnt (tok.Sign sign.Dot)) ts e
    → Failed (with_semicolon right_of_equals) KeepsRight Always ts e
path_failed ts (Refused why left) k f = absurd (path_never ts why left k f.why)
path_failed ts Memory k f = record { why = tt }

pub path_taken : (ts mid : Tokens) (p : Path) → (k : IsCall ts) → Took path Free (Isnt (tok.Sign sign.Dot)) ts p mid
    → (k.callee ≡ p) × (k.rest ≡ mid)
path_taken ts mid p k t = t.only k.callee k.taken k.rest mid k.is_path (sym k.whole ∙ t.whole) refl
    (tail_no_dot k.rest k.tail)

-- ---- what stands behind it

-- a right side that begins as the call does is one
behind_call : (ts : Tokens) → (k : IsCall ts) → (y : RightSide) (us r other : Tokens)
    → with_semicolon right_of_equals y us → us ++ r ≡ k.taken ++ other → IsCallTail other →
    (q : Called) × (text : Tokens) × (y ≡ Returned (invoked k.callee q)) × call_rest q text × (text ++ r ≡ other)
behind_call ts k y us r other d e tail =
    by_side (plain_side y us r (k.taken ++ other) d e (path_plain k.callee k.taken other k.is_path))
  where
    by_side : PlainSide y us → (q : Called) × (text : Tokens) × (y ≡ Returned (invoked k.callee q)) × call_rest q text
        × (text ++ r ≡ other)
    by_side (inl s) = let f = front_of s.0 us r s.2 in absurd
        (no_value s.0 f.front f.back k.callee k.taken other f.is f.ends (sym f.same ∙ e) k.is_path tail)
    by_side (inr s) =
        let c = s.0 in
        let b = call_behind c us r k.callee k.taken other s.2 e k.is_path (tail_no_dot other tail) in (
          (c.groups, c.args),
          b.text,
          s.1
              ∙ ap Returned (call_is c ∙ ap (λ (p : Path). invoked p (c.groups, c.args)) b.callee),
          b.is_called,
          b.same,
        )

pub call_took : (ts rest : Tokens) (q : Called) → (k : IsCall ts) → Took call_rest KeepsCalled Always k.rest q rest
    → Took (with_semicolon right_of_equals) KeepsRight Always ts (Returned (invoked k.callee q)) rest
call_took ts rest q k u = record {
  taken = k.taken ++ u.taken;
  whole = k.whole ∙ ap (λ l. k.taken ++ l) u.whole ∙ sym (append_assoc k.taken u.taken rest);
  derives = call_intro k.callee q k.taken u.taken k.callable u.derives;
  within = λ l. u.within l;
  no_end = NoEnd-append k.taken u.taken (path_no_end k.callee k.taken k.is_path) u.no_end;
  only = λ y us r other d e h f.
      let b = behind_call ts k y us r (u.taken ++ other) d (e ∙ append_assoc k.taken u.taken other)
      (called_tail q u.taken other u.derives) in
      let o = u.only b.0 b.1 r other b.3 b.4 h tt in
      (b.2 ∙ ap (λ (q : Called). Returned (invoked k.callee q)) o.0, o.1);
}

headed : (other : Tokens) (t : Lexeme) → head other ≡ Some t → (later : Tokens) × (other ≡ t ∷ later)
headed [] t h = let n : ⊥ = cc in absurd n
headed (x ∷ other) t h = let same : x ≡ t = cc in (other, ap (λ z. z ∷ other) same)

-- no call within the limits begins with these tokens and the next one
abbrev NoCalled : Tokens → Tokens → Type 0
NoCalled before rest = (q : Called) (us other : Tokens) → call_rest q us → q.1 ≡ [] → us ≡ before ++ other
    → head other ≡ head rest → ⊥

-- the tokens that tell a call are read before one is refused
covers : (before rest ts : Tokens) → IsCallTail ts → ts ≡ before ++ rest → NoCalled before rest → (other : Tokens)
    → head other ≡ head rest → IsCallTail (before ++ other)
covers [] rest ts (inl c) e none other h =
    let o = headed other c.0 (h ∙ ap head (sym e ∙ c.2)) in inl (c.0, o.0, o.1, c.3)
covers (b ∷ before) rest ts (inl c) e none other h =
    let all : b ∷ (before ++ rest) ≡ c.0 ∷ c.1 = sym e ∙ c.2 in
    let same : b ≡ c.0 = cc in
    inl (b, before ++ other, refl, ap (λ (l : Lexeme). l.kind) same ∙ c.3)
covers [] rest ts (inr c) e none other h =
    absurd (none (record { name = io; at = io_at.at } ∷ [], []) (c.0 ∷ io_at ∷ sign_at sign.Greater ∷ closing)
    (c.0 ∷ io_at ∷ sign_at sign.Greater ∷ closing) (called_one c.0 io_at io c.6 refl) refl refl
    (sym (ap head (sym e ∙ c.5))))
covers (b ∷ []) rest ts (inr c) e none other h =
    let all : b ∷ rest ≡ c.0 ∷ c.1 ∷ c.2 ∷ c.4 = sym e ∙ c.5 in
    let same : b ≡ c.0 = cc in
    let next : rest ≡ c.1 ∷ c.2 ∷ c.4 = cc in
    absurd (none (record { name = c.3; at = c.1.at } ∷ [], []) (b ∷ c.1 ∷ sign_at sign.Greater ∷ closing)
    (c.1 ∷ sign_at sign.Greater ∷ closing) (called_one b c.1 c.3 (ap (λ (l : Lexeme). l.kind) same ∙ c.6) c.7)
    refl refl (sym (ap head next)))
covers (b ∷ d ∷ []) rest ts (inr c) e none other h =
    let all : b ∷ d ∷ rest ≡ c.0 ∷ c.1 ∷ c.2 ∷ c.4 = sym e ∙ c.5 in
    let same : b ≡ c.0 = cc in
    let name : d ≡ c.1 = cc in
    let next : rest ≡ c.2 ∷ c.4 = cc in
    let o = headed other c.2 (h ∙ ap head next) in
    inr (
      b,
      d,
      c.2,
      c.3,
      o.0,
      ap (λ l. b ∷ d ∷ l) o.1,
      ap (λ (l : Lexeme). l.kind) same
          ∙ c.6,
      ap (λ (l : Lexeme). l.kind) name ∙ c.7,
      c.8,
    )
covers (b ∷ d ∷ g ∷ before) rest ts (inr c) e none other h =
    let all : b ∷ d ∷ g ∷ (before ++ rest) ≡ c.0 ∷ c.1 ∷ c.2 ∷ c.4 = sym e ∙ c.5 in
    let same : b ≡ c.0 = cc in
    let name : d ≡ c.1 = cc in
    let end : c.2 ≡ g = cc in
    let P : Lexeme → Type 0 = λ z. (z.kind ≡ tok.Sign sign.Comma) ⊎ (z.kind ≡ tok.Sign sign.Greater) in
    inr (
      b,
      d,
      g,
      c.3,
      before ++ other,
      refl,
      ap (λ (l : Lexeme). l.kind) same ∙ c.6,
      ap (λ (l : Lexeme). l.kind) name
          ∙ c.7,
      subst P end c.8,
    )

call_lead : (ts before : Tokens) → (k : IsCall ts) → Lead call_rest KeepsCalled before
    → Lead (with_semicolon right_of_equals) KeepsRight (k.taken ++ before)
call_lead ts before k u = record {
  start = k.taken ++ u.start;
  ahead = u.ahead;
  parts = ap (λ l. k.taken ++ l) u.parts ∙ sym (append_assoc k.taken u.start u.ahead);
  leads = u.leads;
  tree = Returned (invoked k.callee u.tree);
  more = u.more;
  goes =
      let P : Tokens → Type 0 = with_semicolon call_written (invoked k.callee u.tree) in
      subst P (sym (append_assoc k.taken u.start u.more))
      (call_intro k.callee u.tree k.taken (u.start ++ u.more) k.callable u.goes);
  known = u.known;
  within = λ l. u.within l;
}

call_beyond : (ts before rest : Tokens) (why : Why) → (k : IsCall ts) → Beyond call_rest KeepsCalled before rest why
    → Beyond (with_semicolon right_of_equals) KeepsRight (k.taken ++ before) rest why
call_beyond ts before rest Unexpected k b = tt
call_beyond ts before rest (Over l) k b = record {
  next = b.next;
  later = b.later;
  rest_is = b.rest_is;
  tree = Returned (invoked k.callee b.tree);
  after = b.after;
  goes_on =
      let P : Tokens → Type 0 = with_semicolon call_written (invoked k.callee b.tree) in
      subst P (sym (append_assoc k.taken before (b.next ∷ b.after)))
      (call_intro k.callee b.tree k.taken (before ++ (b.next ∷ b.after)) k.callable b.goes_on);
  known = b.known;
  passes = b.passes;
  others = λ m n. b.others m n;
}

call_stopped : (ts : Tokens) (why : Why) (left : ℕ) → (k : IsCall ts)
    → Stopped call_rest KeepsCalled Always k.rest why left
    → Stopped (with_semicolon right_of_equals) KeepsRight Always ts why left
call_stopped ts why left k u = record {
  before = k.taken ++ u.before;
  rest = u.rest;
  whole = k.whole ∙ ap (λ l. k.taken ++ l) u.whole ∙ sym (append_assoc k.taken u.before u.rest);
  left_is = u.left_is;
  tree = Returned (invoked k.callee u.tree);
  more = u.more;
  goes =
      let P : Tokens → Type 0 = with_semicolon call_written (invoked k.callee u.tree) in
      subst P (sym (append_assoc k.taken u.before u.more))
      (call_intro k.callee u.tree k.taken (u.before ++ u.more) k.callable u.goes);
  known = u.known;
  within = λ l. u.within l;
  lead = call_lead ts u.before k u.lead;
  no_end = NoEnd-append k.taken u.before (path_no_end k.callee k.taken k.is_path) u.no_end;
  stuck = λ y us r other d e h f w.
      let unread : NoCalled u.before u.rest = λ q us other d none e h.
      u.stuck q us [] other d (append-nil us ∙ e) h tt
      (counts_all why (λ l. let P : List Expression → Type 0 = λ es. KeepsCalled l (q.0, es) in subst P (sym none)
      (none_within l))) in
      let tail : IsCallTail (u.before ++ other) = covers u.before u.rest k.rest k.tail u.whole unread other h in
      let b = behind_call ts k y us r (u.before ++ other) d (e ∙ append_assoc k.taken u.before other) tail in
      u.stuck b.0 b.1 r other b.3 b.4 h tt (kept why b.0 y b.2 w);
  beyond = call_beyond ts u.before u.rest why k u.beyond;
}
  where
    kept : (why : Why) (q : Called) (y : RightSide) → y ≡ Returned (invoked k.callee q)
        → Counts why (λ l. KeepsRight l y) → Counts why (λ l. KeepsCalled l q)
    kept Unexpected q y e w = tt
    kept (Over l) q y e w = let P : RightSide → Type 0 = KeepsRight l in subst P e w

pub call_failed : (ts : Tokens) (e : Fail) → (k : IsCall ts) → Failed call_rest KeepsCalled Always k.rest e
    → Failed (with_semicolon right_of_equals) KeepsRight Always ts e
call_failed ts e k f = failed_by (λ why left s. call_stopped ts why left k s) f

-- the same, where the path was read
pub call_failed_at : (ts mid : Tokens) (p : Path) (e : Fail) → IsCall ts
    → Took path Free (Isnt (tok.Sign sign.Dot)) ts p mid → Failed call_rest KeepsCalled Always mid e
    → Failed (with_semicolon right_of_equals) KeepsRight Always ts e
call_failed_at ts mid p e k t f =
    let P : Tokens → Type 0 = λ z. Failed call_rest KeepsCalled Always z e
    in call_failed ts e k (subst P (sym (path_taken ts mid p k t).1) f)

pub call_took_at : (ts mid rest : Tokens) (p : Path) (q : Called) (c : Invocation) → IsCall ts
    → Took path Free (Isnt (tok.Sign sign.Dot)) ts p mid → Took call_rest KeepsCalled Always mid q rest
    → c ≡ invoked p q → Took (with_semicolon right_of_equals) KeepsRight Always ts (Returned c) rest
call_took_at ts mid rest p q c k t u e =
    let o = path_taken ts mid p k t in
    let P : Tokens → Type 0 = λ z. Took call_rest KeepsCalled Always z q rest in
    let Q : Invocation → Type 0 = λ z. Took (with_semicolon right_of_equals) KeepsRight Always ts (Returned z) rest in
    subst Q (ap (λ (p : Path). invoked p q) o.0 ∙ sym e) (call_took ts rest q k (subst P (sym o.1) u))
