-- Paths, told apart by whether their first token is a name.
use Rattle.std.proofs.Common.{◌≡◌, ℕ, ◌++◌, [], ◌∷◌, inl, inr, Bool, true, false, MatchBool, Option, Some, None}
use Rattle.std.proofs.Common.{refl, sym, ap, ◌∙◌, append_assoc, append-nil, subst}
use Rattle.ae_text.specs.declared.token.Keyword.TheVariants as word
use Rattle.ae_text.specs.declared.token.Sign.TheVariants as sign
use Rattle.ae_tree.specs.declared.lexeme.Lexeme.{Lexeme}
use Rattle.ae_tree.specs.declared.lexeme.Lexical.{Lexical}
use Rattle.ae_tree.specs.declared.lexeme.Lexical.TheVariants as tok
use Rattle.ae_tree.specs.declared.tree.NameAt.{NameAt}
use Rattle.ae_tree.specs.declared.tree.Path.{Path}
use Rattle.ae_tree.specs.Names.{this}
use Rattle.ae_tree.specs.Grammar.{Tokens, Then, ◌⨾◌, one_at, name, root, path_step, path, one_by_one}
use Rattle.ae_tree.specs.Refused.{IsHead, OpensBlock}
use Rattle.ae_reading.specs.declared.fail.Fail.{Fail}
use Rattle.ae_reading.specs.declared.fail.Why.{Why}
use Rattle.ae_reading.specs.declared.fail.Why.TheVariants.{Unexpected, Over}
use Rattle.ae_reading.specs.Reads.{head, Free, Is, Isnt, IsName, Took, Lead, Stopped, Failed, Counts, Beyond}
use Rattle.ae_statements.proofs.from_reading.ReadsLemmas.{head-append, failed_by}
use Rattle.ae_statements.specs.Productions.{IsRoot}

-- a root that is a name, or `this`
abbrev pub rooted : Bool → NameAt → Tokens → Type 0
rooted true x = name x
rooted false x = λ ts. (x.name ≡ this) × one_at (tok.Word word.This) x.at ts

-- a path, and whether its first token is a name
abbrev pub spelled : Bool × Path → Tokens → Type 0
spelled q = rooted q.0 q.1.root ⨾ one_by_one path_step q.1.steps

-- whether the next token is a name, where it is that or `this`
abbrev pub Named : Bool → Option Lexeme → Type 0
Named true o = IsName o
Named false o = Is (tok.Word word.This) o

pub named_of : (b : Bool) (o : Option Lexeme) → IsRoot o → MatchBool b (IsName o) (IsName o → ⊥) → Named b o
named_of true o i m = m
named_of false o (inl n) m = absurd (m n)
named_of false o (inr i) m = i

both_kinds : (t : Lexeme) (n : ℕ) → t.kind ≡ tok.Name n → t.kind ≡ tok.Word word.This → ⊥
both_kinds t n e i = let same : tok.Name n ≡ tok.Word word.This = sym e ∙ i in cc

name_this : (n : ℕ) → tok.Name n ≡ tok.Word word.This → ⊥
name_this n e = cc

this_name : (n : ℕ) → tok.Word word.This ≡ tok.Name n → ⊥
this_name n e = cc

root_named : (b : Bool) (x : NameAt) (us r : Tokens) (o : Option Lexeme) → root x us → head (us ++ r) ≡ o → Named b o
    → rooted b x us
root_named true x us r o (inl d) h n = d
root_named true x us r o (inr d) h n =
    let P : Option Lexeme → Type 0 = IsName in
    let there : IsName (Some (record { kind = tok.Word word.This; at = x.at })) =
    subst P (sym h ∙ ap (λ l. head (l ++ r)) d.1) n in
    absurd (this_name there.0 there.1)
root_named false x us r o (inl d) h n =
    let P : Option Lexeme → Type 0 = Is (tok.Word word.This) in
    let there : Is (tok.Word word.This) (Some (record { kind = tok.Name x.name; at = x.at })) =
    subst P (sym h ∙ ap (λ l. head (l ++ r)) d) n in
    absurd (name_this x.name there)
root_named false x us r o (inr d) h n = d

rooted_root : (b : Bool) (x : NameAt) (us : Tokens) → rooted b x us → root x us
rooted_root true x us d = inl d
rooted_root false x us d = inr d

rooted_named : (b : Bool) (x : NameAt) (us r : Tokens) → rooted b x us → Named b (head (us ++ r))
rooted_named true x us r d = let P : Option Lexeme → Type 0 = IsName in subst P (sym (ap (λ l. head (l ++ r)) d))
    (x.name, refl)
rooted_named false x us r d = let P : Option Lexeme
    → Type 0 = Is (tok.Word word.This) in subst P (sym (ap (λ l. head (l ++ r)) d.1)) refl

pub one_spelling : (b c : Bool) (o : Option Lexeme) → Named b o → Named c o → b ≡ c
one_spelling true true o n m = refl
one_spelling false false o n m = refl
one_spelling true false None n m = absurd m
one_spelling true false (Some t) n m = absurd (both_kinds t n.0 n.1 m)
one_spelling false true None n m = absurd n
one_spelling false true (Some t) n m = absurd (both_kinds t m.0 m.1 n)

first_head : {p q : Tokens → Type 0} (us r : Tokens) (d : Then p q us) → head (d.front ++ (d.back ++ r))
    ≡ head (us ++ r)
first_head us r d = ap head (sym (append_assoc d.front d.back r) ∙ ap (λ l. l ++ r) (sym d.parts))

pub spelled_path : (q : Bool × Path) (us : Tokens) → spelled q us → path q.1 us
spelled_path q us d = record {
  front = d.front;
  back = d.back;
  parts = d.parts;
  first
      = rooted_root q.0 q.1.root d.front d.first;
  second = d.second;
}

pub path_spelled : (b : Bool) (p : Path) (us r : Tokens) (o : Option Lexeme) → path p us → head (us ++ r) ≡ o
    → Named b o → spelled (b, p) us
path_spelled b p us r o d h n =
    record {
      front = d.front;
      back = d.back;
      parts = d.parts;
      first = root_named b p.root d.front
          (d.back ++ r) o d.first (first_head us r d ∙ h) n;
      second = d.second;
    }

-- a path is spelled in one way
pub path_by : (p : Path) (us : Tokens) → path p us → (b : Bool) × spelled (b, p) us
path_by p us d = by_root d.first
  where
    by_root : root p.root d.front → (b : Bool) × spelled (b, p) us
    by_root (inl f) = (true, record { front = d.front; back = d.back; parts = d.parts; first = f; second = d.second })
    by_root (inr f) = (false, record { front = d.front; back = d.back; parts = d.parts; first = f; second = d.second })

pub spelled_named : (q : Bool × Path) (us r : Tokens) → spelled q us → Named q.0 (head (us ++ r))
spelled_named q us r d =
    let P : Option Lexeme → Type 0 = Named q.0 in
    subst P (first_head us r d) (rooted_named q.0 q.1.root d.front (d.back ++ r) d.first)

pub took_spelled : {F : Option Lexeme → Type 0} (b : Bool) {ts rest : Tokens} {p : Path} → Named b (head ts)
    → Took path Free F ts p rest → Took spelled Free F ts (b, p) rest
took_spelled {F} b {ts} {rest} {p} n t = record {
  taken = t.taken;
  whole = t.whole;
  derives = path_spelled b p t.taken rest (head ts) t.derives (ap head (sym t.whole)) n;
  within = λ l. tt;
  no_end = t.no_end;
  only = λ y us r other d e h f.
      let o = t.only y.1 us r other (spelled_path y us d) e h f in
      let as_ts : head (us ++ r) ≡ head ts = ap head e ∙ head-append t.taken other rest h ∙ ap head (sym t.whole) in
      let P : Option Lexeme → Type 0 = Named y.0 in
      let b_is : y.0 ≡ b = one_spelling y.0 b (head ts) (subst P as_ts (spelled_named y us r d)) n in
      (ap (λ q. (y.0, q)) o.0 ∙ ap (λ c. (c, p)) b_is, o.1);
}

free_counts : (why : Why) → Counts why (λ l. Unit {0})
free_counts Unexpected = tt
free_counts (Over l) = tt

one_path : (x : NameAt) (us : Tokens) → root x us → path (record { root = x; steps = [] }) us
one_path x us d = record { front = us; back = []; parts = sym (append-nil us); first = d; second = refl }

-- the next token alone is a path
root_here : (b : Bool) (ts : Tokens) → Named b (head ts) → (p : Path) × (t : Lexeme) × (head ts ≡ Some t)
    × path p (t ∷ [])
root_here true [] n = absurd n
root_here true (t ∷ ts) n =
    let x : NameAt = record { name = n.0; at = t.at } in
    let is : t ∷ [] ≡ record { kind = tok.Name n.0; at = t.at }
    ∷ [] = ap (λ k. record { kind = k; at = t.at } ∷ []) n.1 in
    (record { root = x; steps = [] }, t, refl, one_path x (t ∷ []) (inl is))
root_here false [] n = absurd n
root_here false (t ∷ ts) n =
    let x : NameAt = record { name = this; at = t.at } in
    let is : t ∷ [] ≡ record { kind = tok.Word word.This; at = t.at }
    ∷ [] = ap (λ k. record { kind = k; at = t.at } ∷ []) n in
    (record { root = x; steps = [] }, t, refl, one_path x (t ∷ []) (inr (refl, is)))

-- a path does not stop at its first token, where that is a name or `this`
not_at_once : (b : Bool) (ts : Tokens) (why : Why) (left : ℕ) → Named b (head ts)
    → (u : Stopped path Free (Isnt (tok.Sign sign.Dot)) ts why left) → u.before ≡ [] → ⊥
not_at_once b ts why left n u e =
    let p = root_here b ts n in
    let same : ts ≡ u.rest = u.whole ∙ ap (λ l. l ++ u.rest) e in
    u.stuck p.0 (p.1 ∷ []) [] (p.1 ∷ []) p.3 (ap (λ l. l ++ (p.1 ∷ [])) (sym e)) (sym p.2 ∙ ap head same) tt
    (free_counts why)

begun : (before rest ts more : Tokens) → ts ≡ before ++ rest → (before ≡ [] → ⊥) → head (before ++ more) ≡ head ts
begun [] rest ts more w some = absurd (some refl)
begun (t ∷ before) rest ts more w some = ap head (sym w)

no_comma_root : (b : Bool) (t : Lexeme) → Named b (Some t) → t.kind ≡ tok.Sign sign.Comma → ⊥
no_comma_root true t n e = let same : tok.Name n.0 ≡ tok.Sign sign.Comma = sym n.1 ∙ e in cc
no_comma_root false t n e = let same : tok.Word word.This ≡ tok.Sign sign.Comma = sym n ∙ e in cc

no_opener_root : (b : Bool) (t : Lexeme) → Named b (Some t) → OpensBlock t.kind → ⊥
no_opener_root true t n o = let P : Lexical → Type 0 = OpensBlock in subst P n.1 o
no_opener_root false t n o = let P : Lexical → Type 0 = OpensBlock in subst P n o

no_head : (b : Bool) (us : Tokens) → Named b (head us) → IsHead us → (us ≡ [] → ⊥) → ⊥
no_head b [] n i some = some refl
no_head b (t ∷ us) n (inl i) some = no_comma_root b t n i.0
no_head b (t ∷ us) n (inr i) some = no_opener_root b t n i.0

spelled_lead : (b : Bool) (before rest ts : Tokens) → Named b (head ts) → ts ≡ before ++ rest → (before ≡ [] → ⊥)
    → Lead path Free before → Lead spelled Free before
spelled_lead b before rest ts n w some u = record {
  start = u.start;
  ahead = u.ahead;
  parts = u.parts;
  leads = u.leads;
  tree = (b, u.tree);
  more = u.more;
  goes = path_spelled b u.tree (u.start ++ u.more) [] (head ts) u.goes
      (ap head (append-nil (u.start ++ u.more)) ∙ begun u.start (u.ahead ++ rest) ts u.more
      (w ∙ ap (λ l. l ++ rest) u.parts ∙ append_assoc u.start u.ahead rest) started) n;
  known = u.known;
  within = λ l. tt;
}
  where
    started : u.start ≡ [] → ⊥
    started e =
        let same : before ≡ u.ahead = u.parts ∙ ap (λ l. l ++ u.ahead) e in
        let P : Tokens → Type 0 = IsHead in
        let Q : Option Lexeme → Type 0 = Named b in
        let there : head (before ++ []) ≡ head ts = begun before rest ts [] w some
        in no_head b before (subst Q (sym there ∙ ap head (append-nil before)) n) (subst P (sym same) u.leads) some

spelled_beyond : (b : Bool) (why : Why) (before rest ts : Tokens) → Named b (head ts) → ts ≡ before ++ rest
    → (before ≡ [] → ⊥) → Beyond path Free before rest why → Beyond spelled Free before rest why
spelled_beyond b Unexpected before rest ts n w some u = tt
spelled_beyond b (Over l) before rest ts n w some u = record {
  next = u.next;
  later = u.later;
  rest_is = u.rest_is;
  tree = (b, u.tree);
  after = u.after;
  goes_on = path_spelled b u.tree (before ++ (u.next ∷ u.after)) [] (head ts) u.goes_on
      (ap head (append-nil (before ++ (u.next ∷ u.after))) ∙ begun before rest ts (u.next ∷ u.after) w some) n;
  known = u.known;
  passes = u.passes;
  others = λ m k. tt;
}

pub stopped_spelled : (b : Bool) {ts : Tokens} {why : Why} {left : ℕ} → Named b (head ts)
    → Stopped path Free (Isnt (tok.Sign sign.Dot)) ts why left
    → Stopped spelled Free (Isnt (tok.Sign sign.Dot)) ts why left
stopped_spelled b {ts} {why} {left} n u = record {
  before = u.before;
  rest = u.rest;
  whole = u.whole;
  left_is = u.left_is;
  tree = (b, u.tree);
  more = u.more;
  goes = path_spelled b u.tree (u.before ++ u.more) [] (head ts) u.goes
      (ap head (append-nil (u.before ++ u.more)) ∙ begun u.before u.rest ts u.more u.whole
      (not_at_once b ts why left n u)) n;
  known = u.known;
  within = λ l. tt;
  lead = spelled_lead b u.before u.rest ts n u.whole (not_at_once b ts why left n u) u.lead;
  no_end = u.no_end;
  stuck = λ y us r other d e h f w. u.stuck y.1 us r other (spelled_path y us d) e h f (free_counts why);
  beyond = spelled_beyond b why u.before u.rest ts n u.whole (not_at_once b ts why left n u) u.beyond;
}

pub failed_spelled : (b : Bool) {ts : Tokens} {e : Fail} → Named b (head ts)
    → Failed path Free (Isnt (tok.Sign sign.Dot)) ts e → Failed spelled Free (Isnt (tok.Sign sign.Dot)) ts e
failed_spelled b n f = failed_by (λ why left s. stopped_spelled b n s) f
