-- Calls as paths with what stands behind them, and what right sides begin with.
use Rattle.std.proofs.Common.{◌≡◌, ℕ, ◌<◌, ◌++◌, List, [], ◌∷◌, length, arith, ◌⊎◌, inl, inr, Option, Some, None}
use Rattle.std.proofs.Common.{refl, sym, ap, ◌∙◌, append_assoc, append-nil, subst}
use Rattle.ae_text.specs.declared.refusal.Spot.{Spot}
use Rattle.ae_text.specs.declared.token.Keyword.TheVariants as word
use Rattle.ae_text.specs.declared.token.Sign.TheVariants as sign
use Rattle.ae_tree.specs.declared.lexeme.Lexeme.{Lexeme}
use Rattle.ae_tree.specs.declared.lexeme.Lexical.{Lexical}
use Rattle.ae_tree.specs.declared.lexeme.Lexical.TheVariants as tok
use Rattle.ae_tree.specs.declared.tree.NameAt.{NameAt}
use Rattle.ae_tree.specs.declared.tree.Path.{Path}
use Rattle.ae_tree.specs.Plain.{Expression, Invocation, RightSide, Value, Taken, Zeros, Made, Returned}
use Rattle.ae_tree.specs.Grammar.{Tokens, ◌⨾◌, one_token, one_at, one_by_one, name, root, path_step, path, groups}
use Rattle.ae_tree.specs.Grammar.{arguments, call_written, whole_expression, right_of_equals}
use Rattle.ae_reading.specs.Reads.{head, Always, Is, Isnt, IsName}
use Rattle.ae_statements.proofs.from_reading.ReadsLemmas.{Both}
use Rattle.ae_statements.proofs.from_reading.UniquePaths.{IsRoot, begins_path, unique_root, unique_path}
use Rattle.ae_statements.proofs.from_reading.Runs.{each-append, each-one}
use Rattle.ae_statements.specs.Productions.{with_semicolon, call_rest, invoked, receiver_of, last, but_last}
use Rattle.ae_statements.specs.Deciding.{IsCallable, IsCallTail, IsPlainSide, Steps, AllSteps}
use Rattle.ae_statements.proofs.UniqueRightSides.{joined, call_parts, call_tail, call_isnt, joined_on, joined_method}

abbrev pub Dot : Lexical
Dot = tok.Sign sign.Dot

pub one_of : (k : Lexical) (t : Lexeme) → t.kind ≡ k → one_token k (t ∷ [])
one_of k t e = (t.at, ap (λ j. record { kind = j; at = t.at } ∷ []) e)

pub name_of : (t : Lexeme) (m : ℕ) → t.kind ≡ tok.Name m → name (record { name = m; at = t.at }) (t ∷ [])
name_of t m e = ap (λ j. record { kind = j; at = t.at } ∷ []) e

-- ---- paths that may be called

pub callable_name : (x : NameAt) (us : Tokens) → name x us → IsCallable (record { root = x; steps = [] }) us
callable_name x us d = record { front = []; back = us; parts = refl; first = refl; second = d }

record LastStep (x : NameAt) (xs : List NameAt) (us : Tokens) : Type 0 where
  front : Tokens
  dot : Tokens
  field : Tokens
  parts : us ≡ front ++ (dot ++ field)
  steps : one_by_one path_step (but_last x xs) front
  is_dot : one_token (tok.Sign sign.Dot) dot
  is_field : name (last x xs) field

last_step : (x : NameAt) (xs : List NameAt) (us : Tokens) → one_by_one path_step (x ∷ xs) us → LastStep x xs us
last_step x [] us d = record {
  front = [];
  dot = d.first.front;
  field = d.first.back;
  parts = d.parts ∙ ap (λ l. d.front ++ l) d.second ∙ append-nil d.front ∙ d.first.parts;
  steps = refl;
  is_dot = d.first.first;
  is_field = d.first.second;
}
last_step x (y ∷ ys) us d =
    let q = last_step y ys d.back d.second in
    record {
      front = d.front ++ q.front;
      dot = q.dot;
      field = q.field;
      parts = d.parts ∙ ap (λ l. d.front ++ l) q.parts ∙ sym (append_assoc d.front q.front (q.dot ++ q.field));
      steps = record { front = d.front; back = q.front; parts = refl; first = d.first; second = q.steps };
      is_dot = q.is_dot;
      is_field = q.is_field;
    }

pub callable_steps : (r x : NameAt) (xs : List NameAt) (us vs : Tokens) → root r us → one_by_one path_step (x ∷ xs) vs
    → IsCallable (record { root = r; steps = x ∷ xs }) (us ++ vs)
callable_steps r x xs us vs d e =
    let q = last_step x xs vs e in
    record {
      front = (us ++ q.front) ++ q.dot;
      back = q.field;
      parts = ap (λ l. us ++ l) q.parts ∙ sym (append_assoc us q.front (q.dot ++ q.field))
          ∙ sym (append_assoc (us ++ q.front) q.dot q.field);
      first = record {
        front = us ++ q.front;
        back = q.dot;
        parts = refl;
        first =
            record { front = us; back = q.front; parts = refl; first = d; second = q.steps };
        second = q.is_dot;
      };
      second = q.is_field;
    }

-- ---- calls

in_five : (k b d a s : Tokens) → (k ++ b) ++ (d ++ (a ++ s)) ≡ (k ++ (b ++ (d ++ a))) ++ s
in_five k b d a s =
    append_assoc k b (d ++ (a ++ s)) ∙ ap (λ l. k ++ (b ++ l)) (sym (append_assoc d a s))
    ∙ ap (λ l. k ++ l) (sym (append_assoc b (d ++ a) s)) ∙ sym (append_assoc k (b ++ (d ++ a)) s)

abbrev pub Called : Type 0
Called = List NameAt × List Expression

-- a path that may be called, and what stands behind it, are a call
pub call_intro : (p : Path) (q : Called) (ps qs : Tokens) → IsCallable p ps → call_rest q qs
    → with_semicolon call_written (invoked p q) (ps ++ qs)
call_intro p q ps qs k d =
    let e = d.second in
    record {
      front = k.front ++ (k.back ++ (d.front ++ e.front));
      back = e.back;
      parts = ap (λ l. l ++ qs) k.parts ∙ ap (λ l. (k.front ++ k.back) ++ l)
          (d.parts ∙ ap (λ l. d.front ++ l) e.parts) ∙ in_five k.front k.back d.front e.front e.back;
      first = record {
        front = k.front;
        back = k.back ++ (d.front ++ e.front);
        parts = refl;
        first = k.first;
        second = record {
          front = k.back;
          back = d.front ++ e.front;
          parts = refl;
          first = k.second;
          second = record { front = d.front; back = e.front; parts = refl; first = d.first; second = e.first };
        };
      };
      second = e.second;
    }

-- the path of a call, and what stands behind it
pub record CallText (c : Invocation) (us : Tokens) : Type 0 where
  pub front : Tokens
  pub middle : Tokens
  pub end : Tokens
  pub parts : us ≡ front ++ (middle ++ end)
  pub is_path : path (joined c.on c.method) front
  pub given : Both groups arguments (c.groups, c.args) middle
  pub is_called : call_rest (c.groups, c.args) (middle ++ end)

pub call_elim : (c : Invocation) (us : Tokens) → with_semicolon call_written c us → CallText c us
call_elim c us d =
    let q = call_parts c d.front d.first in
    let g = q.second in
    record {
      front = q.front;
      middle = q.back;
      end = d.back;
      parts = d.parts ∙ ap (λ l. l ++ d.back) q.parts ∙ append_assoc q.front q.back d.back;
      is_path = q.first;
      given = g;
      is_called = record {
        front = g.front;
        back = g.back ++ d.back;
        parts = ap (λ l. l ++ d.back) g.parts ∙ append_assoc g.front g.back d.back;
        first = g.first;
        second = record { front = g.back; back = d.back; parts = refl; first = g.second; second = d.second };
      };
    }

-- a call is that of its path
pub call_is : (c : Invocation) → c ≡ invoked (joined c.on c.method) (c.groups, c.args)
call_is c =
    ap (λ (o : Option Path). record { on = o; method = c.method; groups = c.groups; args = c.args })
    (sym (joined_on c.on c.method))
    ∙ ap (λ (m : NameAt). record {
      on = receiver_of (joined c.on c.method).root (joined c.on c.method).steps;
      method =
          m;
      groups = c.groups;
      args = c.args;
    }) (sym (joined_method c.on c.method))

-- a call that begins with a path, where no `.` stands behind it
pub record Behind (c : Invocation) (p : Path) (r other : Tokens) : Type 0 where
  pub callee : joined c.on c.method ≡ p
  pub text : Tokens
  pub same : text ++ r ≡ other
  pub is_called : call_rest (c.groups, c.args) text
  pub tail : IsCallTail other

pub call_behind : (c : Invocation) (us r : Tokens) (p : Path) (ps other : Tokens) → with_semicolon call_written c us
    → us ++ r ≡ ps ++ other → path p ps → Isnt (tok.Sign sign.Dot) (head other) → Behind c p r other
call_behind c us r p ps other d e q no_dot =
    let t = call_elim c us d in
    let all : t.front ++ (t.middle ++ (t.end ++ r)) ≡ ps ++ other =
    ap (λ l. t.front ++ l) (sym (append_assoc t.middle t.end r)) ∙ sym (append_assoc t.front (t.middle ++ t.end) r)
    ∙ ap (λ l. l ++ r) (sym t.parts) ∙ e in
    let ends : Isnt Dot (head (t.middle ++ (t.end ++ r))) = call_isnt Dot (λ e. cc) (λ e. cc) Always
    (c.groups, c.args) t.middle (t.end ++ r) t.given tt in
    let o = unique_path (joined c.on c.method) p t.front ps (t.middle ++ (t.end ++ r)) other t.is_path q all ends
    no_dot in
    record {
      callee = o.0;
      text = t.middle ++ t.end;
      same = append_assoc t.middle t.end r ∙ o.1;
      is_called = t.is_called;
      tail = let P : Tokens → Type 0 = IsCallTail in subst P o.1
          (call_tail c.groups c.args t.middle (t.end ++ r) t.given);
    }

-- ---- what right sides begin with

abbrev pub PlainSide : RightSide → Tokens → Type 0
PlainSide y us = ((e : Expression) × (y ≡ Value e) × with_semicolon whole_expression e us)
    ⊎ ((c : Invocation) × (y ≡ Returned c) × with_semicolon call_written c us)

begins_at : {k : Lexical} {at : Spot} {q s : Tokens → Type 0} (us r z : Tokens) → ((one_at k at ⨾ q) ⨾ s) us
    → us ++ r ≡ z → Is k (head z)
begins_at {k} {at} us r z d e =
    let P : Tokens → Type 0 = λ l. Is k (head l) in
    subst P (sym (ap (λ l. l ++ r)
    (d.parts ∙ ap (λ l. l ++ d.back) (d.first.parts ∙ ap (λ l. l ++ d.first.back) d.first.first))) ∙ e) refl

-- a right side that begins with neither `take` nor `new` is an expression or a call
pub plain_side : (y : RightSide) (us r z : Tokens) → with_semicolon right_of_equals y us → us ++ r ≡ z → IsPlainSide z
    → PlainSide y us
plain_side (Value e) us r z d same plain = inl (e, refl, d)
plain_side (Taken p at) us r z d same plain =
    let f : (one_at (tok.Word word.Take) at ⨾ path p) d.front = d.first.1 in
    absurd (plain.0 (begins_at {s = one_token (tok.Sign sign.Semicolon)} us r z
    (record { front = d.front; back = d.back; parts = d.parts; first = f; second = d.second }) same))
plain_side (Zeros e at) us r z d same plain = absurd (plain.1 (begins_at us r z d same))
plain_side (Made c gs es at) us r z d same plain = absurd (plain.1 (begins_at us r z d same))
plain_side (Returned c) us r z d same plain = inr (c, refl, d)

root_no_word : (o : Option Lexeme) → IsRoot o → (Is (tok.Word word.Take) o → ⊥) × (Is (tok.Word word.New) o → ⊥)
root_no_word None i = ((λ h. h), (λ h. h))
root_no_word (Some t) (inl i) = (
  (λ h. let e : tok.Name i.0 ≡ tok.Word word.Take = sym i.1 ∙ h in cc),
  (λ h. let e : tok.Name i.0 ≡ tok.Word word.New = sym i.1 ∙ h in cc),
)
root_no_word (Some t) (inr i) = (
  (λ h. let e : tok.Word word.This ≡ tok.Word word.Take = sym i ∙ h in cc),
  (λ h. let e : tok.Word word.This ≡ tok.Word word.New = sym i ∙ h in cc),
)

-- a path begins with neither
pub path_plain : (p : Path) (ps other : Tokens) → path p ps → IsPlainSide (ps ++ other)
path_plain p ps other d = root_no_word (head (ps ++ other)) (begins_path p ps other d)

-- ---- a path behind which a `.` stands

each_goes : (xs ys : List NameAt) (us vs z other : Tokens) (d : Lexeme) → one_by_one path_step xs us
    → one_by_one path_step ys vs → us ++ z ≡ vs ++ (d ∷ other) → d.kind ≡ tok.Sign sign.Dot
    → Isnt (tok.Sign sign.Dot) (head z) → IsName (head other)
each_goes [] [] us vs z other d e f same k n =
    let P : Option Lexeme → Type 0 = Isnt Dot in
    let all : z ≡ d ∷ other = sym (ap (λ l. l ++ z) e) ∙ same ∙ ap (λ l. l ++ (d ∷ other)) f in
    let h : Isnt Dot (Some d) = subst P (ap head all) n in
    absurd (h k)
each_goes [] (y ∷ ys) us vs z other d e f same k n =
    let P : Option Lexeme → Type 0 = Isnt Dot in
    let s = f.first in
    let dot : s.front ≡ record { kind = Dot; at = s.first.0 } ∷ [] = s.first.1 in
    let all : z ≡ record { kind = Dot; at = s.first.0 } ∷ ((s.back ++ f.back) ++ (d ∷ other)) =
    sym (ap (λ l. l ++ z) e) ∙ same ∙ ap (λ l. l ++ (d ∷ other))
    (f.parts ∙ ap (λ l. l ++ f.back) (s.parts ∙ ap (λ l. l ++ s.back) dot)) in
    let h : Isnt Dot (Some (record { kind = Dot; at = s.first.0 })) = subst P (ap head all) n in
    absurd (h refl)
each_goes (x ∷ xs) [] us vs z other d e f same k n =
    let s = e.first in
    let dot : s.front ≡ record { kind = Dot; at = s.first.0 } ∷ [] = s.first.1 in
    let field : s.back ≡ record { kind = tok.Name x.name; at = x.at } ∷ [] = s.second in
    let all : record { kind = Dot; at = s.first.0 } ∷ record { kind = tok.Name x.name; at = x.at } ∷ (e.back ++ z) ≡ d
    ∷ other =
    sym (ap (λ l. l ++ z) (e.parts
    ∙ ap (λ l. l ++ e.back) (s.parts ∙ ap (λ l. l ++ s.back) dot
    ∙ ap (λ l. record { kind = Dot; at = s.first.0 } ∷ l) field))) ∙ same ∙ ap (λ l. l ++ (d ∷ other)) f in
    let rest : record { kind = tok.Name x.name; at = x.at } ∷ (e.back ++ z) ≡ other = cc in
    let P : Tokens → Type 0 = λ l. IsName (head l) in
    subst P rest (x.name, refl)
each_goes (x ∷ xs) (y ∷ ys) us vs z other d e f same k n =
    let s = e.first in
    let t = f.first in
    let dot : s.front ≡ record { kind = Dot; at = s.first.0 } ∷ [] = s.first.1 in
    let field : s.back ≡ record { kind = tok.Name x.name; at = x.at } ∷ [] = s.second in
    let dot' : t.front ≡ record { kind = Dot; at = t.first.0 } ∷ [] = t.first.1 in
    let field' : t.back ≡ record { kind = tok.Name y.name; at = y.at } ∷ [] = t.second in
    let all : record { kind = Dot; at = s.first.0 } ∷ record { kind = tok.Name x.name; at = x.at } ∷ (e.back ++ z)
    ≡ record { kind = Dot; at = t.first.0 } ∷ record { kind = tok.Name y.name; at = y.at }
    ∷ (f.back ++ (d ∷ other)) =
    sym (ap (λ l. l ++ z) (e.parts
    ∙ ap (λ l. l ++ e.back) (s.parts ∙ ap (λ l. l ++ s.back) dot
    ∙ ap (λ l. record { kind = Dot; at = s.first.0 } ∷ l) field))) ∙ same
    ∙ ap (λ l. l ++ (d ∷ other)) (f.parts
    ∙ ap (λ l. l ++ f.back) (t.parts ∙ ap (λ l. l ++ t.back) dot'
    ∙ ap (λ l. record { kind = Dot; at = t.first.0 } ∷ l) field')) in
    let rest : e.back ++ z ≡ f.back ++ (d ∷ other) = cc
    in each_goes xs ys e.back f.back z other d e.second f.second rest k n

-- where a path goes on behind another one with a `.`, a name stands behind that
pub path_goes : (p q : Path) (us vs z other : Tokens) (d : Lexeme) → path p us → path q vs
    → us ++ z ≡ vs ++ (d ∷ other) → d.kind ≡ tok.Sign sign.Dot → Isnt (tok.Sign sign.Dot) (head z)
    → IsName (head other)
path_goes p q us vs z other d e f same k n =
    let all : e.front ++ (e.back ++ z) ≡ f.front ++ (f.back ++ (d ∷ other)) =
    sym (append_assoc e.front e.back z) ∙ ap (λ l. l ++ z) (sym e.parts) ∙ same ∙ ap (λ l. l ++ (d ∷ other)) f.parts
    ∙ append_assoc f.front f.back (d ∷ other) in
    let o = unique_root p.root q.root e.front f.front (e.back ++ z) (f.back ++ (d ∷ other)) e.first f.first all tt tt in
    each_goes p.steps q.steps e.back f.back z other d e.second f.second o.1 k n

pub call_goes : (c : Invocation) (us r : Tokens) (p : Path) (ps other : Tokens) (d : Lexeme)
    → with_semicolon call_written c us → us ++ r ≡ ps ++ (d ∷ other) → path p ps → d.kind ≡ tok.Sign sign.Dot
    → IsName (head other)
call_goes c us r p ps other d e same q k =
    let t = call_elim c us e in
    let all : t.front ++ (t.middle ++ (t.end ++ r)) ≡ ps ++ (d ∷ other) =
    ap (λ l. t.front ++ l) (sym (append_assoc t.middle t.end r)) ∙ sym (append_assoc t.front (t.middle ++ t.end) r)
    ∙ ap (λ l. l ++ r) (sym t.parts) ∙ same in
    let ends : Isnt Dot (head (t.middle ++ (t.end ++ r))) = call_isnt Dot (λ e. cc) (λ e. cc) Always
    (c.groups, c.args) t.middle (t.end ++ r) t.given tt in
    path_goes (joined c.on c.method) p t.front ps (t.middle ++ (t.end ++ r)) other d t.is_path q all k ends

-- ---- steps that are looked through

pub record Through (ts rest : Tokens) : Type 0 where
  pub fields : List NameAt
  pub taken : Tokens
  pub whole : ts ≡ taken ++ rest
  pub are : one_by_one path_step fields taken

pub through_none : (ts : Tokens) → Through ts ts
through_none ts = record { fields = []; taken = []; whole = refl; are = refl }

pub through_more : (ts rest later : Tokens) → Through ts rest → Steps rest later → Through ts later
through_more ts rest later t s =
    let x : NameAt = record { name = s.number; at = s.field.at } in
    let one_token : one_by_one path_step (x ∷ []) (s.dot ∷ s.field ∷ []) = each-one path_step x (s.dot ∷ s.field ∷ [])
    (record {
      front = s.dot ∷ [];
      back = s.field ∷ [];
      parts = refl;
      first = one_of Dot s.dot s.is_dot;
      second =
          name_of s.field s.number s.is_name;
    }) in
    record {
      fields = t.fields ++ x ∷ [];
      taken = t.taken ++ (s.dot ∷ s.field ∷ []);
      whole = t.whole ∙ ap (λ l. t.taken ++ l) s.whole ∙ sym (append_assoc t.taken (s.dot ∷ s.field ∷ []) later);
      are = each-append path_step t.fields (x ∷ []) t.taken (s.dot ∷ s.field ∷ []) t.are one_token;
    }

pub through_smaller : (rest later : Tokens) → Steps rest later → length later < length rest
through_smaller rest later s = omega (arith, ap length s.whole)

pub through_all : (ts rest : Tokens) → Through ts rest → ((later : Tokens) → Steps rest later → ⊥) → AllSteps ts rest
through_all ts rest t none = record { fields = t.fields; taken = t.taken; whole = t.whole; are = t.are; no_more = none }
