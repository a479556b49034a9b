-- A statement with a block where no block may be opened.
use Rattle.std.proofs.Common.{◌≡◌, ℕ, ◌≤◌, ◌<◌, ◌++◌, List, [], ◌∷◌, inl, inr, length, Option, Some, refl, sym, ap}
use Rattle.std.proofs.Common.{◌∙◌, append_assoc, subst, arith}
use Rattle.std.specs.Prelude.{Bool, true, false}
use Rattle.ae_text.specs.declared.refusal.Spot.{Spot}
use Rattle.ae_text.specs.declared.token.Keyword.{Keyword}
use Rattle.ae_text.specs.declared.token.Keyword.TheVariants as word
use Rattle.ae_text.specs.declared.token.Sign.TheVariants as sign
use Rattle.ae_tree.specs.declared.lexeme.Lexeme.{Lexeme}
use Rattle.ae_tree.specs.declared.lexeme.Lexical.{Lexical}
use Rattle.ae_tree.specs.declared.lexeme.Lexical.TheVariants as tok
use Rattle.ae_tree.specs.declared.limits.Limit.{Limit}
use Rattle.ae_tree.specs.declared.limits.Limit.TheVariants as limit
use Rattle.ae_tree.specs.declared.tree.NameAt.{NameAt}
use Rattle.ae_tree.specs.declared.tree.Path.{Path}
use Rattle.ae_tree.specs.declared.tree.Op.{Op}
use Rattle.ae_tree.specs.declared.tree.Op.TheVariants as op
use Rattle.ae_tree.specs.Plain.{Expression, Number, Truth, Nothing, Read, Item, Length, Grouped, Negated, Minus}
use Rattle.ae_tree.specs.Plain.{Binary, End}
use Rattle.ae_tree.specs.Plain.{Action, Chooses, ChoosesElse, Repeats, Splits, Locks, Groups}
use Rattle.ae_tree.specs.Grammar.{Tokens, Then, ◌⨾◌, one_token, one_at, name, root, path_step, path, one_by_one}
use Rattle.ae_tree.specs.Grammar.{further, separated, whole_expression, expression_at, sign_of, statement}
use Rattle.ae_tree.specs.Limits.{KeepsDepth, KeepsIn, early, rank}
use Rattle.ae_tree.specs.Refused.{AreSpellable, OpensBlock, NoOpen, IsHead, IsTypeWord}
use Rattle.ae_reading.specs.declared.fail.Fail.{Fail}
use Rattle.ae_reading.specs.declared.fail.Why.{Why}
use Rattle.ae_reading.specs.declared.fail.Why.TheVariants.{Unexpected, Over}
use Rattle.ae_reading.specs.Reads.{head, Always, Free, Is, Isnt, Took, Lead, Stopped, Failed, Counts, Beyond, Token}
use Rattle.ae_reading.specs.Reads.{IsWithinAll}
use Rattle.ae_statements.proofs.from_reading.ReadsLemmas.{Lang, Bound, Follow, Both, Pair, Along, AreKnown-append}
use Rattle.ae_statements.proofs.from_reading.ReadsLemmas.{same_head, counts_by, failed_by, nowhere, io_name, took_as}
use Rattle.ae_statements.proofs.from_reading.ReadsLemmas.{failed_as, both, first, second, free, has_name}
use Rattle.ae_expressions.specs.Ends.{Ends}
use Rattle.ae_statements.specs.Productions.{stmt, KeepsStmt, NoElse, Opening, numbered_block}
use Rattle.ae_statements.specs.Blocks.{KeepsCondition, condition, split_groups, locked_group}
use Rattle.ae_statements.proofs.ShapeLemmas.{Lets, sign_ends, has_whole}
use Rattle.ae_statements.proofs.FormLemmas.{Formed, formed}
use Rattle.ae_statements.proofs.BlockLemmas.{brace_no_comma, opening, closing, has_names}

-- ---- tokens without an opening brace

no_open_append : (a b : Tokens) → NoOpen a → NoOpen b → NoOpen (a ++ b)
no_open_append [] b m n = n
no_open_append (t ∷ a) b m n = (m.0, m.1, no_open_append a b m.2 n)

no_open_front : (a b : Tokens) → NoOpen (a ++ b) → NoOpen a
no_open_front [] b n = tt
no_open_front (t ∷ a) b n = (n.0, n.1, no_open_front a b n.2)

no_open_then : {p q : Tokens → Type 0} (us : Tokens) (d : Then p q us) → NoOpen d.front → NoOpen d.back → NoOpen us
no_open_then us d m n = let P : Tokens → Type 0 = NoOpen in subst P (sym d.parts) (no_open_append d.front d.back m n)

no_open_at : {k : Lexical} {at : Spot} (us : Tokens) → one_at k at us → (k ≡ opening → ⊥) → (IsTypeWord k → ⊥)
    → NoOpen us
no_open_at us d other word = let P : Tokens → Type 0 = NoOpen in subst P (sym d) (other, word, tt)

no_open_none : (us : Tokens) → us ≡ [] → NoOpen us
no_open_none us d = let P : Tokens → Type 0 = NoOpen in subst P (sym d) tt

no_open_name : (x : NameAt) (us : Tokens) → name x us → NoOpen us
no_open_name x us d = no_open_at us d (λ e. cc) (λ e. e)

no_open_root : (x : NameAt) (us : Tokens) → root x us → NoOpen us
no_open_root x us (inl d) = no_open_name x us d
no_open_root x us (inr d) = no_open_at us d.1 (λ e. cc) (λ e. e)

no_open_each : {A : Type 0} (D : Lang A) → ((x : A) (us : Tokens) → D x us → NoOpen us) → (xs : List A) (us : Tokens)
    → one_by_one D xs us → NoOpen us
no_open_each D f [] us d = no_open_none us d
no_open_each D f (x ∷ xs) us d = no_open_then us d (f x d.front d.first) (no_open_each D f xs d.back d.second)

no_open_step : (x : NameAt) (us : Tokens) → path_step x us → NoOpen us
no_open_step x us d = no_open_then us d (no_open_at d.front d.first.1 (λ e. cc) (λ e. e))
    (no_open_name x d.back d.second)

no_open_path : (p : Path) (us : Tokens) → path p us → NoOpen us
no_open_path p us d = no_open_then us d (no_open_root p.root d.front d.first)
    (no_open_each path_step no_open_step p.steps d.back d.second)

no_open_further : (x : NameAt) (us : Tokens) → further name x us → NoOpen us
no_open_further x us d = no_open_then us d (no_open_at d.front d.first.1 (λ e. cc) (λ e. e))
    (no_open_name x d.back d.second)

no_open_names : (xs : List NameAt) (us : Tokens) → separated name xs us → NoOpen us
no_open_names [] us d = absurd d
no_open_names (x ∷ xs) us d = no_open_then us d (no_open_name x d.front d.first)
    (no_open_each (further name) no_open_further xs d.back d.second)

no_open_truth : (b : Bool) (at : Spot) (l : ℕ) (us : Tokens) → expression_at (Truth b at) l us → NoOpen us
no_open_truth true at l us d = no_open_at us d (λ e. cc) (λ e. e)
no_open_truth false at l us d = no_open_at us d (λ e. cc) (λ e. e)

no_open_operator : (o : Op) → tok.Sign (sign_of o) ≡ opening → ⊥
no_open_operator op.Or e = cc
no_open_operator op.And e = cc
no_open_operator op.Eq e = cc
no_open_operator op.Ne e = cc
no_open_operator op.Lt e = cc
no_open_operator op.Le e = cc
no_open_operator op.Gt e = cc
no_open_operator op.Ge e = cc
no_open_operator op.Add e = cc
no_open_operator op.Sub e = cc
no_open_operator op.Mul e = cc
no_open_operator op.Div e = cc
no_open_operator op.Rem e = cc

no_open_mark : {k : Lexical} (us : Tokens) → one_token k us → (k ≡ opening → ⊥) → (IsTypeWord k → ⊥) → NoOpen us
no_open_mark us d other word = no_open_at us d.1 other word

no_open_expression : (e : Expression) (l : ℕ) (us : Tokens) → expression_at e l us → NoOpen us
no_open_expression (Number n at) l us d = no_open_at us d (λ e. cc) (λ e. e)
no_open_expression (Truth b at) l us d = no_open_truth b at l us d
no_open_expression (Nothing at) l us d = no_open_at us d (λ e. cc) (λ e. e)
no_open_expression (Read p) l us d = no_open_path p us d
no_open_expression (Item p e) l us d =
    no_open_then us d (no_open_path p d.front d.first)
    (no_open_then d.back d.second (no_open_mark d.second.front d.second.first (λ e. cc) (λ e. e))
    (no_open_then d.second.back d.second.second (no_open_expression e 0 d.second.second.front d.second.second.first)
    (no_open_mark d.second.second.back d.second.second.second (λ e. cc) (λ e. e))))
no_open_expression (Length p at) l us d = no_open_then us d (no_open_at d.front d.first (λ e. cc) (λ e. e))
    (no_open_path p d.back d.second)
no_open_expression (Grouped e at) l us d =
    no_open_then us d (no_open_at d.front d.first (λ e. cc) (λ e. e))
    (no_open_then d.back d.second (no_open_expression e 0 d.second.front d.second.first)
    (no_open_mark d.second.back d.second.second (λ e. cc) (λ e. e)))
no_open_expression (Negated e at) l us d = no_open_then us d (no_open_at d.front d.first (λ e. cc) (λ e. e))
    (no_open_expression e 5 d.back d.second)
no_open_expression (Minus e at) l us d = no_open_then us d (no_open_at d.front d.first (λ e. cc) (λ e. e))
    (no_open_expression e 5 d.back d.second)
no_open_expression (Binary o a b) l us d =
    no_open_then us d.1 (no_open_expression a _ d.1.front d.1.first)
    (no_open_then d.1.back d.1.second (no_open_mark d.1.second.front d.1.second.first (no_open_operator o) (λ e. e))
    (no_open_expression b _ d.1.second.back d.1.second.second))

-- ---- heads: what stands before the block

-- a word of a statement with a block, and no brace behind it
abbrev Leads : Tokens → Type 0
Leads [] = Unit {0}
Leads (t ∷ ts) = OpensBlock t.kind × NoOpen ts

leads_front : (a b : Tokens) → Leads (a ++ b) → Leads a
leads_front [] b l = tt
leads_front (t ∷ a) b l = (l.0, no_open_front a b l.1)

leads_head : (a : Tokens) → Leads a → IsHead a
leads_head [] l = tt
leads_head (t ∷ a) l = inr l

leads_word : {k : Lexical} {at : Spot} {q : Tokens → Type 0} (us : Tokens) (d : Then (one_at k at) q us)
    → OpensBlock k → NoOpen d.back → Leads us
leads_word us d opens m = let P : Tokens → Type 0 = Leads in subst P (sym (d.parts ∙ ap (λ l. l ++ d.back) d.first))
    (opens, m)

-- a statement as its head, and then a block
pub record Headed {B : Type 0} (E : Lang B) (V : Bound B) (y : Spot × Action) (us : Tokens) : Type 0 where
  pub head_is : B
  pub front : Tokens
  pub back : Tokens
  pub parts : us ≡ front ++ back
  pub derives : E head_is front
  pub brace : Lexeme
  pub is_brace : brace.kind ≡ opening
  pub behind : (r : Tokens) → head (back ++ r) ≡ Some brace
  pub from : (l : Limit) → KeepsIn l 0 y.1 → V l head_is
  pub deep : KeepsIn limit.Levels 0 y.1 → ⊥

-- the heads of a form
pub record Heads {B : Type 0} (E : Lang B) (V : Bound B) (F : Follow) (ts : Tokens) (n : ℕ)
    (build : B → Spot × Action) : Type 0 where
  pub lets : Lets opening F
  pub intro : (t : Lexeme) → t.kind ≡ opening → (q : B) (us : Tokens) → E q us
      → stmt n (build q) (us ++ (t ∷ record { kind = closing; at = nowhere } ∷ []))
  pub to : (l : Limit) → rank l < 3 → (q : B) → V l q → KeepsIn l 0 ((build q).1)
  pub cases : (y : Spot × Action) (us r : Tokens) → stmt n y us → head (us ++ r) ≡ head ts → Headed E V y us
  pub leads : (q : B) (us : Tokens) → E q us → Leads us

-- the limits but that of blocks in one another
rank_most : (l : Limit) → rank l ≤ 3
rank_most limit.Statements = omega arith
rank_most limit.Levels = omega arith
rank_most limit.Depth = omega arith
rank_most limit.Params = omega arith

named_first : (m l : Limit) → rank m < rank l → rank m < 3
named_first m l k = let h = rank_most l in omega (arith, h, k)

early_first : (l : Limit) → rank (early l) < 3
early_first limit.Statements = omega arith
early_first limit.Levels = omega arith
early_first limit.Depth = omega arith
early_first limit.Params = omega arith

abbrev brace_at : Lexeme
brace_at = record { kind = opening; at = nowhere }

abbrev close_at : Lexeme
close_at = record { kind = closing; at = nowhere }

abbrev empty : Tokens
empty = brace_at ∷ close_at ∷ []

known_empty : AreSpellable empty
known_empty = (tt, (tt, tt))

some_group : (n : ℕ) → stmt n (nowhere, Groups io_name)
    (record { kind = tok.Word word.Group; at = nowhere } ∷ record { kind = tok.Name io_name.name; at = nowhere }
    ∷ record { kind = tok.Sign sign.Semicolon; at = nowhere } ∷ [])
some_group n = record {
  front = record { kind = tok.Word word.Group; at = nowhere } ∷ [];
  back = record { kind = tok.Name io_name.name; at = nowhere }
      ∷ record { kind = tok.Sign sign.Semicolon; at = nowhere } ∷ [];
  parts = refl;
  first = refl;
  second = record {
    front = record { kind = tok.Name io_name.name; at = nowhere } ∷ [];
    back = record { kind = tok.Sign sign.Semicolon; at = nowhere } ∷ [];
    parts = refl;
    first = refl;
    second = (nowhere, refl);
  };
}

-- the head leads up to what comes next
leads_up : (n : ℕ) (before : Tokens) → Leads before → Lead (stmt n) (KeepsStmt 0) before
leads_up n before l = record {
  start = [];
  ahead = before;
  parts = refl;
  leads = leads_head before l;
  tree = (nowhere, Groups io_name);
  more = record { kind = tok.Word word.Group; at = nowhere } ∷ record { kind = tok.Name io_name.name; at = nowhere }
      ∷ record { kind = tok.Sign sign.Semicolon; at = nowhere } ∷ [];
  goes = some_group n;
  known = (tt, (refl, (tt, tt)));
  within = λ l. tt;
}

deep_beyond : {B : Type 0} {E : Lang B} {V : Bound B} {F : Follow} {ts : Tokens} {n : ℕ} {build : B → Spot × Action}
    (why : Why) (before rest : Tokens) → Heads E V F ts n build → Beyond E V before rest why
    → Beyond (stmt n) (KeepsStmt 0) before rest why
deep_beyond Unexpected before rest h b = tt
deep_beyond {n = n} {build} (Over l) before rest h b = record {
  next = b.next;
  later = b.later;
  rest_is = b.rest_is;
  tree = build b.tree;
  after = b.after ++ empty;
  known = AreKnown-append b.after empty b.known known_empty;
  passes = b.passes;
  others = λ m k. h.to m (named_first m l k) b.tree (b.others m k);
  goes_on = (let P : Tokens → Type 0 =
      λ l. stmt n (build b.tree) l in subst P (append_assoc before (b.next ∷ b.after) empty)
      (h.intro brace_at refl b.tree (before ++ (b.next ∷ b.after)) b.goes_on));
}

lets_at : (F : Follow) (o : Option Lexeme) (t : Lexeme) → o ≡ Some t → t.kind ≡ opening → Lets opening F → F o
lets_at F o t e is lets = let P : Option Lexeme → Type 0 = F in subst P (sym e) (lets t is)

-- the head stops
head_stopped : {B : Type 0} {E : Lang B} {V : Bound B} {F : Follow} {ts : Tokens} {n : ℕ} {build : B → Spot × Action}
    {why : Why} {left : ℕ} →
    Heads E V F ts n build → Stopped E V F ts why left → Stopped (stmt n) (KeepsStmt 0) NoElse ts why left
head_stopped {E = E} {V} {F} {ts} {n} {build} {why} h u = record {
  before = u.before;
  rest = u.rest;
  whole = u.whole;
  left_is = u.left_is;
  tree = build u.tree;
  more = u.more ++ empty;
  goes = (let P : Tokens → Type 0 = λ l. stmt n (build u.tree) l in subst P (append_assoc u.before u.more empty)
      (h.intro brace_at refl u.tree (u.before ++ u.more) u.goes));
  known = AreKnown-append u.more empty u.known known_empty;
  within = λ l. h.to (early l) (early_first l) u.tree (u.within l);
  lead = leads_up n u.before (leads_front u.before u.more (h.leads u.tree (u.before ++ u.more) u.goes));
  no_end = u.no_end;
  stuck = λ y us r other d e o f w.
      let c = h.cases y us r d (same_head us r u.before other u.rest ts e o u.whole) in
      u.stuck c.head_is c.front (c.back ++ r) other c.derives
      (sym (append_assoc c.front c.back r) ∙ ap (λ l. l ++ r) (sym c.parts) ∙ e) o
      (lets_at F (head (c.back ++ r)) c.brace (c.behind r) c.is_brace h.lets) (counts_by why (λ l v. c.from l v) w);
  beyond = deep_beyond why u.before u.rest h u.beyond;
}

pub head_failed : {B : Type 0} {E : Lang B} {V : Bound B} {F : Follow} {ts : Tokens} {n : ℕ}
    {build : B → Spot × Action} {e : Fail} →
    Heads E V F ts n build → Failed E V F ts e → Failed (stmt n) (KeepsStmt 0) NoElse ts e
head_failed h f = failed_by (λ why left s. head_stopped h s) f

opened_beyond : {B : Type 0} {E : Lang B} {V : Bound B} {F : Follow} {ts : Tokens} {n : ℕ} {build : B → Spot × Action}
    (q : B) (taken rest : Tokens) → Heads E V F ts n build → E q taken → IsWithinAll V q → Is opening (head rest)
    → Beyond (stmt n) (KeepsStmt 0) taken rest (Over limit.Levels)
opened_beyond q taken [] h d w is = absurd is
opened_beyond {build = build} q taken (t ∷ rest) h d w is = record {
  others = λ m k. h.to m k q (w m);
  next = t;
  later = rest;
  rest_is = refl;
  tree = build q;
  after = close_at ∷ [];
  goes_on = h.intro t is q taken d;
  known = (tt, tt);
  passes = is;
}

brace_next : (o : Option Lexeme) (t : Lexeme) → o ≡ Some t → t.kind ≡ opening → Is opening o
brace_next o t e is = let P : Option Lexeme → Type 0 = Is opening in subst P (sym e) is

-- the head was read, and the next token is refused
read_here : {B : Type 0} {E : Lang B} {V : Bound B} {F : Follow} {ts rest : Tokens} {n : ℕ}
    {build : B → Spot × Action} {q : B} (why : Why) →
    Heads E V F ts n build → (t : Took E V F ts q rest) →
    ((y : Spot × Action) (us r other : Tokens) → stmt n y us → us ++ r ≡ t.taken ++ other → head other ≡ head rest
    → NoElse (head r) → Counts why (λ l. KeepsStmt 0 l y) → ⊥) →
    Beyond (stmt n) (KeepsStmt 0) t.taken rest why → Stopped (stmt n) (KeepsStmt 0) NoElse ts why (length rest)
read_here {rest = rest} {n} {build} {q} why h t stuck beyond = record {
  before = t.taken;
  rest = rest;
  whole = t.whole;
  left_is = refl;
  tree = build q;
  more = empty;
  goes = h.intro brace_at refl q t.taken t.derives;
  known = known_empty;
  within = λ l. h.to (early l) (early_first l) q (t.within (early l));
  lead = leads_up n t.taken (h.leads q t.taken t.derives);
  no_end = t.no_end;
  stuck = stuck;
  beyond = beyond;
}

pub head_read : {B : Type 0} {E : Lang B} {V : Bound B} {F : Follow} {ts rest : Tokens} {n : ℕ}
    {build : B → Spot × Action} {q : B} (why : Why) →
    Heads E V F ts n build → Took E V F ts q rest → Opening rest why
    → Stopped (stmt n) (KeepsStmt 0) NoElse ts why (length rest)
head_read {F = F} {ts} {rest} {q = q} Unexpected h t none = read_here Unexpected h t (λ y us r other d e o f w.
    let c = h.cases y us r d (same_head us r t.taken other rest ts e o t.whole) in
    let s = t.only c.head_is c.front (c.back ++ r) other c.derives
    (sym (append_assoc c.front c.back r) ∙ ap (λ l. l ++ r) (sym c.parts) ∙ e) o
    (lets_at F (head (c.back ++ r)) c.brace (c.behind r) c.is_brace h.lets) in
    none (brace_next (head rest) c.brace (sym o ∙ ap head (sym s.1) ∙ c.behind r) c.is_brace)) tt
head_read {ts = ts} {rest} {n} {build} {q} (Over l) h t over =
    let P : Limit → Type 0 = λ m. Stopped (stmt n) (KeepsStmt 0) NoElse ts (Over m) (length rest) in
    subst P (sym over.0) (read_here (Over limit.Levels) h t (λ y us r other d e o f w.
    (h.cases y us r d (same_head us r t.taken other rest ts e o t.whole)).deep w)
    (opened_beyond q t.taken rest h t.derives t.within over.1))

-- ---- the four forms

empty_block : (n : ℕ) (t : Lexeme) → t.kind ≡ opening → numbered_block n End (t ∷ close_at ∷ [])
empty_block n t is = record {
  front = t ∷ [];
  back = close_at ∷ [];
  parts = refl;
  first = (t.at, ap (λ k. record { kind = k; at = t.at } ∷ []) is);
  second = record { front = []; back = close_at ∷ []; parts = refl; first = refl; second = (nowhere, refl) };
}

-- a word and what stands behind it, and then a block
with_block : {p q r : Tokens → Type 0} (us vs : Tokens) → (p ⨾ q) us → r vs → (p ⨾ q ⨾ r) (us ++ vs)
with_block us vs d e = record {
  front = d.front;
  back = d.back ++ vs;
  parts = ap (λ l. l ++ vs) d.parts ∙ append_assoc d.front d.back vs;
  first = d.first;
  second = record { front = d.back; back = vs; parts = refl; first = d.second; second = e };
}

block_parts : {p q r : Tokens → Type 0} (us : Tokens) (d : (p ⨾ q ⨾ r) us) → us ≡ (d.front ++ d.second.front)
    ++ d.second.back
block_parts us d = d.parts ∙ ap (λ l. d.front ++ l) d.second.parts
    ∙ sym (append_assoc d.front d.second.front d.second.back)

block_head : {p q r : Tokens → Type 0} (us : Tokens) (d : (p ⨾ q ⨾ r) us) → (p ⨾ q) (d.front ++ d.second.front)
block_head us d = record {
  front = d.front;
  back = d.second.front;
  parts = refl;
  first = d.first;
  second =
      d.second.first;
}

-- a block, and more behind it
braced_first : {p q r s : Tokens → Type 0} (us : Tokens) (d : (p ⨾ q ⨾ (one_token opening ⨾ r) ⨾ s) us)
    → (p ⨾ q ⨾ (one_token opening ⨾ (r ⨾ s))) us
braced_first us d = record {
  front = d.front;
  back = d.back;
  parts = d.parts;
  first = d.first;
  second = record {
    front = d.second.front;
    back = d.second.back;
    parts = d.second.parts;
    first = d.second.first;
    second = (let b = d.second.second in record {
      front = b.first.front;
      back = b.first.back ++ b.back;
      parts = b.parts ∙ ap (λ l. l ++ b.back) b.first.parts ∙ append_assoc b.first.front b.first.back b.back;
      first = b.first.first;
      second = record { front = b.first.back; back = b.back; parts = refl; first = b.first.second; second = b.second };
    });
  };
}

headed_by : {B : Type 0} {p q r : Tokens → Type 0} (E : Lang B) (V : Bound B) (y : Spot × Action) (us : Tokens)
    (x : B) (d : (p ⨾ q ⨾ (one_token opening ⨾ r)) us) → E x (d.front ++ d.second.front) →
    ((l : Limit) → KeepsIn l 0 y.1 → V l x) → (KeepsIn limit.Levels 0 y.1 → ⊥) → Headed E V y us
headed_by E V y us x d derives from deep = record {
  head_is = x;
  front = d.front ++ d.second.front;
  back = d.second.back;
  parts = block_parts us d;
  derives = derives;
  brace = record { kind = opening; at = d.second.second.first.0 };
  is_brace = refl;
  behind = λ r. ap (λ l. head (l ++ r))
      (d.second.second.parts ∙ ap (λ l. l ++ d.second.second.back) d.second.second.first.1);
  from = from;
  deep = deep;
}

none_below : 0 < 0 → ⊥
none_below h = omega (arith, h)

zero_few : 0 ≤ 1024
zero_few = omega arith

zero_kept : (l : Limit) (e : Expression) (n : ℕ) → rank l < 3 → KeepsDepth l e → KeepsIn l 0 (Chooses e n End)
zero_kept limit.Statements e n h k = (k, tt, zero_few, tt)
zero_kept limit.Levels e n h k = absurd (omega (arith, h))
zero_kept limit.Depth e n h k = (k, tt, tt, tt)
zero_kept limit.Params e n h k = (k, tt, tt, tt)

names_kept : (l : Limit) (gs : List NameAt) (n : ℕ) → rank l < 3 → KeepsIn l 0 (Splits gs n End)
names_kept limit.Statements gs n h = (tt, zero_few, tt)
names_kept limit.Levels gs n h = absurd (omega (arith, h))
names_kept limit.Depth gs n h = (tt, tt, tt)
names_kept limit.Params gs n h = (tt, tt, tt)

condition_leads : (w : Keyword) → OpensBlock (tok.Word w) → (q : Spot × Expression) (us : Tokens) → condition w q us
    → Leads us
condition_leads w opens q us d = leads_word us d opens (no_open_expression q.1 0 d.back d.second)

-- ---- choices

abbrev chosen : ℕ → Spot × Expression → Spot × Action
chosen n q = (q.0, Chooses q.1 n End)

choice_headed : (n : ℕ) (y : Spot × Action) (us : Tokens) → stmt n y us → Formed (tok.Word word.If) y.1
    → Headed (condition word.If) KeepsCondition y us
choice_headed n y us d (inl f) =
    let P : Action → Type 0 = λ a. statement n y.0 a us in
    let K : Limit → Action → Type 0 = λ l a. KeepsIn l 0 a in
    let c : statement n y.0 (Chooses f.0 f.1 f.2) us = subst P f.3 d
    in headed_by (condition word.If) KeepsCondition y us (y.0, f.0) c.1 (block_head us c.1)
    (λ l k. (subst (K l) f.3 k).0) (λ k. none_below ((subst (K limit.Levels) f.3 k).1))
choice_headed n y us d (inr f) =
    let P : Action → Type 0 = λ a. statement n y.0 a us in
    let K : Limit → Action → Type 0 = λ l a. KeepsIn l 0 a in
    let c : statement n y.0 (ChoosesElse f.0 f.1 f.2 f.3 f.4) us = subst P f.5 d in
    headed_by (condition word.If) KeepsCondition y us (y.0, f.0) (braced_first us c.2)
    (block_head us (braced_first us c.2)) (λ l k. (subst (K l) f.5 k).0)
    (λ k. none_below ((subst (K limit.Levels) f.5 k).1))

pub choice_heads : (ts : Tokens) (n : ℕ) → Is (tok.Word word.If) (head ts)
    → Heads (condition word.If) KeepsCondition (Ends 0) ts n (chosen n)
choice_heads ts n is = record {
  lets = sign_ends sign.OpenBrace refl;
  intro = λ t i q us d. (refl, with_block us (t ∷ close_at ∷ []) d (empty_block n t i));
  to = λ l h q v. zero_kept l q.1 n h v;
  cases = λ y us r d h. choice_headed n y us d (formed (tok.Word word.If) n y us r ts d h is);
  leads = condition_leads word.If tt;
}

-- ---- loops

abbrev looped : ℕ → Spot × Expression → Spot × Action
looped n q = (q.0, Repeats q.1 n End)

loop_headed : (n : ℕ) (y : Spot × Action) (us : Tokens) → stmt n y us → Formed (tok.Word word.While) y.1
    → Headed (condition word.While) KeepsCondition y us
loop_headed n y us d f =
    let P : Action → Type 0 = λ a. statement n y.0 a us in
    let K : Limit → Action → Type 0 = λ l a. KeepsIn l 0 a in
    let c : statement n y.0 (Repeats f.0 f.1 f.2) us = subst P f.3 d in
    headed_by (condition word.While) KeepsCondition y us (y.0, f.0) c.1 (block_head us c.1)
    (λ l k. (subst (K l) f.3 k).0) (λ k. none_below ((subst (K limit.Levels) f.3 k).1))

pub loop_heads : (ts : Tokens) (n : ℕ) → Is (tok.Word word.While) (head ts)
    → Heads (condition word.While) KeepsCondition (Ends 0) ts n (looped n)
loop_heads ts n is = record {
  lets = sign_ends sign.OpenBrace refl;
  intro = λ t i q us d. (refl, with_block us (t ∷ close_at ∷ []) d (empty_block n t i));
  to = λ l h q v. zero_kept l q.1 n h v;
  cases = λ y us r d h. loop_headed n y us d (formed (tok.Word word.While) n y us r ts d h is);
  leads = condition_leads word.While tt;
}

-- ---- splits

abbrev divided : ℕ → Spot × List NameAt → Spot × Action
divided n q = (q.0, Splits q.1 n End)

split_headed : (n : ℕ) (y : Spot × Action) (us : Tokens) → stmt n y us → Formed (tok.Word word.Split) y.1
    → Headed split_groups Free y us
split_headed n y us d f =
    let P : Action → Type 0 = λ a. statement n y.0 a us in
    let K : Limit → Action → Type 0 = λ l a. KeepsIn l 0 a in
    let c : statement n y.0 (Splits f.0 f.1 f.2) us = subst P f.3 d in
    headed_by split_groups Free y us (y.0, f.0) c.1 (block_head us c.1) (λ l k. tt)
    (λ k. none_below ((subst (K limit.Levels) f.3 k).0))

pub split_heads : (ts : Tokens) (n : ℕ) → Is (tok.Word word.Split) (head ts)
    → Heads split_groups Free (Isnt (tok.Sign sign.Comma)) ts n (divided n)
split_heads ts n is = record {
  lets = brace_no_comma;
  intro = λ t i q us d. (refl, with_block us (t ∷ close_at ∷ []) d (empty_block n t i));
  to = λ l h q v. names_kept l q.1 n h;
  cases = λ y us r d h. split_headed n y us d (formed (tok.Word word.Split) n y us r ts d h is);
  leads = λ q us d. leads_word us d tt (no_open_names q.1 d.back d.second);
}

-- ---- locks

abbrev locked : ℕ → Spot × NameAt → Spot × Action
locked n q = (q.0, Locks q.1 n End)

lock_headed : (n : ℕ) (y : Spot × Action) (us : Tokens) → stmt n y us → Formed (tok.Word word.Atomic) y.1
    → Headed locked_group Free y us
lock_headed n y us d f =
    let P : Action → Type 0 = λ a. statement n y.0 a us in
    let K : Limit → Action → Type 0 = λ l a. KeepsIn l 0 a in
    let c : statement n y.0 (Locks f.0 f.1 f.2) us = subst P f.3 d in
    headed_by locked_group Free y us (y.0, f.0) c.1 (block_head us c.1) (λ l k. tt)
    (λ k. none_below ((subst (K limit.Levels) f.3 k).0))

lock_kept : (l : Limit) (x : NameAt) (n : ℕ) → rank l < 3 → KeepsIn l 0 (Locks x n End)
lock_kept limit.Statements x n h = (tt, zero_few, tt)
lock_kept limit.Levels x n h = absurd (omega (arith, h))
lock_kept limit.Depth x n h = (tt, tt, tt)
lock_kept limit.Params x n h = (tt, tt, tt)

pub lock_heads : (ts : Tokens) (n : ℕ) → Is (tok.Word word.Atomic) (head ts)
    → Heads locked_group Free Always ts n (locked n)
lock_heads ts n is = record {
  lets = λ t i. tt;
  intro = λ t i q us d. (refl, with_block us (t ∷ close_at ∷ []) d (empty_block n t i));
  to = λ l h q v. lock_kept l q.1 n h;
  cases = λ y us r d h. lock_headed n y us d (formed (tok.Word word.Atomic) n y us r ts d h is);
  leads = λ q us d. leads_word us d tt (no_open_name q.1 d.back d.second);
}

-- ---- how the heads are read

condition_along : (w : Keyword) (ts : Tokens)
    → Along (condition w) (Both (Token (tok.Word w)) whole_expression) KeepsCondition (Pair Free KeepsDepth) ts
    (λ q. q)
condition_along w ts = record {
  intro = λ q us d. d;
  cases = λ y us r d h. (y, refl, d);
  to =
      λ q us d l v. v.1;
  from = λ q us d l v. (tt, v);
}

pub condition_took : {w : Keyword} {ts mid rest : Tokens} {at : Spot} {e : Expression}
    → Took (Token (tok.Word w)) Free Always ts at mid → Took whole_expression KeepsDepth (Ends 0) mid e rest
    → Took (condition w) KeepsCondition (Ends 0) ts (at, e) rest
condition_took {w} {ts} t u = took_as (condition w) (Both (Token (tok.Word w)) whole_expression) (λ q. q)
    (condition_along w ts) (both (free whole_expression (Ends 0)) t u)

pub condition_first : {w : Keyword} {ts : Tokens} {e : Fail} → Failed (Token (tok.Word w)) Free Always ts e
    → Failed (condition w) KeepsCondition (Ends 0) ts e
condition_first {w} {ts} f = failed_as (condition w) (Both (Token (tok.Word w)) whole_expression) (λ q. q)
    (condition_along w ts) (first (free whole_expression (Ends 0)) has_whole f)

pub condition_second : {w : Keyword} {ts mid : Tokens} {at : Spot} {e : Fail}
    → Took (Token (tok.Word w)) Free Always ts at mid → Failed whole_expression KeepsDepth (Ends 0) mid e
    → Failed (condition w) KeepsCondition (Ends 0) ts e
condition_second {w} {ts} t f = failed_as (condition w) (Both (Token (tok.Word w)) whole_expression) (λ q. q)
    (condition_along w ts) (second (free whole_expression (Ends 0)) t f)

abbrev NoComma : Follow
NoComma = Isnt (tok.Sign sign.Comma)

split_along : (ts : Tokens) → Along split_groups (Both (Token (tok.Word word.Split)) (separated name)) Free
    (Pair Free Free) ts (λ q. q)
split_along ts = record {
  intro = λ q us d. d;
  cases = λ y us r d h. (y, refl, d);
  to = λ q us d l v. tt;
  from =
      λ q us d l v. (tt, tt);
}

pub split_took : {ts mid rest : Tokens} {at : Spot} {gs : List NameAt}
    → Took (Token (tok.Word word.Split)) Free Always ts at mid → Took (separated name) Free NoComma mid gs rest
    → Took split_groups Free NoComma ts (at, gs) rest
split_took {ts} t u = took_as split_groups (Both (Token (tok.Word word.Split)) (separated name)) (λ q. q)
    (split_along ts) (both (free (separated name) NoComma) t u)

pub split_first : {ts : Tokens} {e : Fail} → Failed (Token (tok.Word word.Split)) Free Always ts e
    → Failed split_groups Free NoComma ts e
split_first {ts} f = failed_as split_groups (Both (Token (tok.Word word.Split)) (separated name)) (λ q. q)
    (split_along ts) (first (free (separated name) NoComma) has_names f)

pub split_second : {ts mid : Tokens} {at : Spot} {e : Fail} → Took (Token (tok.Word word.Split)) Free Always ts at mid
    → Failed (separated name) Free NoComma mid e → Failed split_groups Free NoComma ts e
split_second {ts} t f = failed_as split_groups (Both (Token (tok.Word word.Split)) (separated name)) (λ q. q)
    (split_along ts) (second (free (separated name) NoComma) t f)

lock_along : (ts : Tokens) → Along locked_group (Both (Token (tok.Word word.Atomic)) name) Free (Pair Free Free) ts
    (λ q. q)
lock_along ts = record {
  intro = λ q us d. d;
  cases = λ y us r d h. (y, refl, d);
  to = λ q us d l v. tt;
  from =
      λ q us d l v. (tt, tt);
}

pub lock_took : {ts mid rest : Tokens} {at : Spot} {x : NameAt}
    → Took (Token (tok.Word word.Atomic)) Free Always ts at mid → Took name Free Always mid x rest
    → Took locked_group Free Always ts (at, x) rest
lock_took {ts} t u = took_as locked_group (Both (Token (tok.Word word.Atomic)) name) (λ q. q) (lock_along ts)
    (both (free name Always) t u)

pub lock_first : {ts : Tokens} {e : Fail} → Failed (Token (tok.Word word.Atomic)) Free Always ts e
    → Failed locked_group Free Always ts e
lock_first {ts} f = failed_as locked_group (Both (Token (tok.Word word.Atomic)) name) (λ q. q) (lock_along ts)
    (first (free name Always) has_name f)

pub lock_second : {ts mid : Tokens} {at : Spot} {e : Fail} → Took (Token (tok.Word word.Atomic)) Free Always ts at mid
    → Failed name Free Always mid e → Failed locked_group Free Always ts e
lock_second {ts} t f = failed_as locked_group (Both (Token (tok.Word word.Atomic)) name) (λ q. q) (lock_along ts)
    (second (free name Always) t f)
