-- Statements one after another, with the numbers of their blocks.
use Rattle.std.proofs.Common.{◌≡◌, ℕ, ◌+◌, ◌≤◌, ◌<◌, ◌++◌, List, [], ◌∷◌, ◌⊎◌, inl, inr, length, map, Option, Some}
use Rattle.std.proofs.Common.{None, refl, sym, ap, ◌∙◌, append_assoc, subst, arith, length-append, pos}
use Rattle.ae_text.specs.declared.refusal.Spot.{Spot}
use Rattle.ae_text.specs.declared.token.Keyword.TheVariants as word
use Rattle.ae_text.specs.declared.token.Sign.{Sign}
use Rattle.ae_text.specs.declared.token.Sign.TheVariants as sign
use Rattle.ae_tree.specs.declared.lexeme.Lexeme.{Lexeme}
use Rattle.ae_tree.specs.declared.lexeme.Lexical.{Lexical}
use Rattle.ae_tree.specs.declared.lexeme.Lexical.TheVariants as tok
use Rattle.ae_tree.specs.declared.limits.Limit.{Limit}
use Rattle.ae_tree.specs.declared.limits.Limit.TheVariants as limit
use Rattle.ae_tree.specs.declared.tree.Path.{Path}
use Rattle.ae_tree.specs.declared.tree.Stmt.{Stmt}
use Rattle.ae_tree.specs.declared.tree.Ty.TheVariants as ty
use Rattle.ae_tree.specs.Plain.{Expression, Number, Lines, End, Next, Value}
use Rattle.ae_tree.specs.Plain.{Action, Declares, Assigns, Stores, StoresAt, Calls, Chooses, ChoosesElse, Repeats}
use Rattle.ae_tree.specs.Plain.{Groups, Splits, Locks, Freezes, Shares, Prints, PrintsText, Asserts, Returns}
use Rattle.ae_tree.specs.Shown as shown
use Rattle.ae_tree.specs.Grammar.{Tokens, Then, ◌⨾◌, one_token, name, whole_expression, statement, statements}
use Rattle.ae_tree.specs.Grammar.{blocks_opened, opened_in}
use Rattle.ae_tree.specs.Limits.{KeepsIn, IsFew, EachKeeps, KeepsBlock, statement_count}
use Rattle.ae_tree.specs.Refused.{AreSpellable}
use Rattle.ae_tree.specs.Names.{io, this}
use Rattle.ae_reading.specs.declared.fail.Fail.{Fail}
use Rattle.ae_reading.specs.declared.fail.Why.{Why}
use Rattle.ae_reading.specs.declared.fail.Why.TheVariants.{Unexpected, Over}
use Rattle.ae_reading.specs.Reads.{head, Is, IsWithinAll, Took, Stopped, Failed, Beyond, chain, state_after}
use Rattle.ae_statements.proofs.from_reading.ReadsLemmas.{Bound, Follow, Along, Has, took_as, failed_as, stopped_as}
use Rattle.ae_statements.proofs.from_reading.ReadsLemmas.{stopped_here, failed_by, nowhere, io_name}
use Rattle.ae_statements.proofs.from_reading.Chains.{Chain, ChainTurns, chain_start, chain_more, chain_full}
use Rattle.ae_statements.proofs.from_reading.Chains.{chain_stopped, chain_end}
use Rattle.ae_statements.proofs.from_reading.Begins.{opens_at}
use Rattle.ae_statements.specs.Productions as productions
use Rattle.ae_statements.specs.Productions.{stmt, KeepsStmt, NoElse, shown_stmt, Closes, Further, IsOpener, IsSimple}
use Rattle.ae_statements.specs.Productions.{IsRoot}
use Rattle.ae_statements.proofs.FormLemmas.{form_of, no_stmt}
use Rattle.ae_statements.proofs.BlockLemmas.{KeepsLines, none_keep}
use Rattle.ae_statements.proofs.UniqueStatements.{behind, lines_of}

-- ---- statements as lines

abbrev pub Items : Type 0
Items = List (Spot × Action)

abbrev pub KeepsItems : ℕ → Bound Items
KeepsItems levels l qs = KeepsBlock l levels (lines_of qs)

listed_is : (n : ℕ) (qs : Items) (us : Tokens) → chain stmt behind n qs us → statements n (lines_of qs) us
listed_is n [] us m = m
listed_is n (q ∷ qs) us m = record {
  front = m.front;
  back = m.back;
  parts = m.parts;
  first = m.first;
  second =
      listed_is (behind n q) qs m.back m.second;
}

is_listed : (n : ℕ) (b : Lines) (us : Tokens) → statements n b us → (qs : Items) × (b ≡ lines_of qs)
    × chain stmt behind n qs us
is_listed n End us m = ([], refl, m)
is_listed n (Next at a rest) us m =
    let p = is_listed (n + blocks_opened a) rest m.back m.second in (
      (at, a) ∷ p.0,
      ap (λ l. Next at a l) p.1,
      record { front = m.front; back = m.back; parts = m.parts; first = m.first; second = p.2 },
    )

lines_along : (n levels : ℕ) (ts : Tokens) → Along (statements n) (chain stmt behind n) (KeepsLines levels)
    (KeepsItems levels) ts lines_of
lines_along n levels ts = record {
  intro = λ q us d. listed_is n q us d;
  cases =
      λ y us r d h. is_listed n y us d;
  to = λ q us d l v. v;
  from = λ q us d l v. v;
}

pub lines_listed : (xs : List Stmt) → shown.lines_from xs ≡ lines_of (map shown_stmt xs)
lines_listed [] = refl
lines_listed (x ∷ xs) = ap (λ l. Next x.at (shown.action x.kind) l) (lines_listed xs)

count-listed : (qs : Items) → statement_count (lines_of qs) ≡ length qs
count-listed [] = refl
count-listed (q ∷ qs) = let h : statement_count (lines_of qs) ≡ length qs = count-listed qs in omega (arith, h)

opened_after : (n : ℕ) (qs : Items) → state_after behind n qs ≡ n + opened_in (lines_of qs)
opened_after n [] = omega arith
opened_after n (q ∷ qs) = let h : state_after behind (behind n q) qs ≡ behind n q + opened_in (lines_of qs) =
    opened_after (behind n q) qs in omega (arith, h)

each-push : (l : Limit) (levels : ℕ) (qs : Items) (q : Spot × Action) → EachKeeps l levels (lines_of qs)
    → KeepsIn l levels q.1 → EachKeeps l levels (lines_of (qs ++ q ∷ []))
each-push l levels [] q all k = (k, tt)
each-push l levels (p ∷ qs) q all k = (all.0, each-push l levels qs q all.1 k)

each-at : (l : Limit) (levels : ℕ) (qs zs : Items) (q : Spot × Action) → EachKeeps l levels (lines_of (qs ++ q ∷ zs))
    → KeepsIn l levels q.1
each-at l levels [] zs q all = all.0
each-at l levels (p ∷ qs) zs q all = each-at l levels qs zs q all.1

few-push : (l : Limit) (qs : Items) (q : Spot × Action) → length qs < 1024 → IsFew l (lines_of (qs ++ q ∷ []))
few-push limit.Statements qs q few = omega (arith, count-listed (qs ++ q ∷ []), length-append qs (q ∷ []), few)
few-push limit.Levels qs q few = tt
few-push limit.Depth qs q few = tt
few-push limit.Params qs q few = tt

one_fits : (levels : ℕ) (qs : Items) → length qs < 1024 → IsWithinAll (KeepsItems levels) qs
    → (l : Limit) (q : Spot × Action) → KeepsStmt levels l q → KeepsItems levels l (qs ++ q ∷ [])
one_fits levels qs few w l q k = (few-push l qs q few, each-push l levels qs q ((w l).1) k)

-- ---- what follows

begins_no_else : (t : Lexeme) → productions.Begins (Some t) → t.kind ≡ tok.Word word.Else → ⊥
begins_no_else t (inl (inl e)) i = let s : tok.Word word.If ≡ tok.Word word.Else = sym e ∙ i in cc
begins_no_else t (inl (inr (inl e))) i = let s : tok.Word word.While ≡ tok.Word word.Else = sym e ∙ i in cc
begins_no_else t (inl (inr (inr (inl e)))) i = let s : tok.Word word.Split ≡ tok.Word word.Else = sym e ∙ i in cc
begins_no_else t (inl (inr (inr (inr e)))) i = let s : tok.Word word.Atomic ≡ tok.Word word.Else = sym e ∙ i in cc
begins_no_else t (inr (inl (inl e))) i = let s : tok.Word word.Let ≡ tok.Word word.Else = sym e ∙ i in cc
begins_no_else t (inr (inl (inr (inl e)))) i = let s : tok.Word word.Group ≡ tok.Word word.Else = sym e ∙ i in cc
begins_no_else t (inr (inl (inr (inr (inl e))))) i = let s : tok.Word word.Freeze ≡ tok.Word word.Else = sym e ∙ i in cc
begins_no_else t (inr (inl (inr (inr (inr (inl e)))))) i = let s : tok.Word word.Share ≡ tok.Word word.Else = sym e
    ∙ i in cc
begins_no_else t (inr (inl (inr (inr (inr (inr (inl e))))))) i = let s : tok.Word word.Print ≡ tok.Word word.Else =
    sym e ∙ i in cc
begins_no_else t (inr (inl (inr (inr (inr (inr (inr e))))))) i = let s : tok.Word word.Assert ≡ tok.Word word.Else =
    sym e ∙ i in cc
begins_no_else t (inr (inr (inl e))) i = let s : tok.Name e.0 ≡ tok.Word word.Else = sym e.1 ∙ i in cc
begins_no_else t (inr (inr (inr e))) i = let s : tok.Word word.This ≡ tok.Word word.Else = sym e ∙ i in cc

-- words that begin no statement, and the closing brace
abbrev ends_them : Lexical → Type 0
ends_them k = (k ≡ tok.Sign sign.CloseBrace) ⊎ (k ≡ tok.Word word.Return)

differs : (k j : Lexical) → j ≡ k → (tok.Sign sign.CloseBrace ≡ k → ⊥) → (tok.Word word.Return ≡ k → ⊥) → ends_them j
    → ⊥
differs k j e brace ret (inl c) = brace (sym c ∙ e)
differs k j e brace ret (inr c) = ret (sym c ∙ e)

begins_not_closed : (t : Lexeme) → productions.Begins (Some t) → ends_them t.kind → ⊥
begins_not_closed t (inl (inl e)) = differs _ t.kind e (λ p. cc) (λ p. cc)
begins_not_closed t (inl (inr (inl e))) = differs _ t.kind e (λ p. cc) (λ p. cc)
begins_not_closed t (inl (inr (inr (inl e)))) = differs _ t.kind e (λ p. cc) (λ p. cc)
begins_not_closed t (inl (inr (inr (inr e)))) = differs _ t.kind e (λ p. cc) (λ p. cc)
begins_not_closed t (inr (inl (inl e))) = differs _ t.kind e (λ p. cc) (λ p. cc)
begins_not_closed t (inr (inl (inr (inl e)))) = differs _ t.kind e (λ p. cc) (λ p. cc)
begins_not_closed t (inr (inl (inr (inr (inl e))))) = differs _ t.kind e (λ p. cc) (λ p. cc)
begins_not_closed t (inr (inl (inr (inr (inr (inl e)))))) = differs _ t.kind e (λ p. cc) (λ p. cc)
begins_not_closed t (inr (inl (inr (inr (inr (inr (inl e))))))) = differs _ t.kind e (λ p. cc) (λ p. cc)
begins_not_closed t (inr (inl (inr (inr (inr (inr (inr e))))))) = differs _ t.kind e (λ p. cc) (λ p. cc)
begins_not_closed t (inr (inr (inl e))) = differs _ t.kind e.1 (λ p. cc) (λ p. cc)
begins_not_closed t (inr (inr (inr e))) = differs _ t.kind e (λ p. cc) (λ p. cc)

closed_kind : (t : Lexeme) → Closes (Some t) → ends_them t.kind
closed_kind t (inl c) = inl c
closed_kind t (inr c) = inr c

begins_open : (o : Option Lexeme) → Closes o → productions.Begins o → ⊥
begins_open None (inl c) b = absurd c
begins_open None (inr c) b = absurd c
begins_open (Some t) c b = begins_not_closed t b (closed_kind t c)

closes_no_else : (o : Option Lexeme) → Closes o → NoElse o
closes_no_else None (inl c) = absurd c
closes_no_else None (inr c) = absurd c
closes_no_else (Some t) (inl c) = λ i. let s : tok.Sign sign.CloseBrace ≡ tok.Word word.Else = sym c ∙ i in cc
closes_no_else (Some t) (inr c) = λ i. let s : tok.Word word.Return ≡ tok.Word word.Else = sym c ∙ i in cc

turns : ChainTurns stmt behind Closes NoElse
turns n [] vs r m f = let P : Tokens → Type 0 = λ l. NoElse (head (l ++ r)) in subst P (sym m)
    (closes_no_else (head r) f)
turns n (z ∷ zs) vs r m f =
    let d = form_of n z.0 z.1 m.front (m.back ++ r) m.first in
    let P : Option Lexeme → Type 0 = NoElse in
    subst P (sym (ap head (ap (λ l. l ++ r) m.parts ∙ append_assoc m.front m.back r) ∙ d.front))
    (λ i. begins_no_else d.token d.begins i)

-- ---- the loop

-- the statements so far, and the number of the next block
pub record Body (n levels : ℕ) (ts : Tokens) (qs : Items) (rest : Tokens) (m : ℕ) : Type 0 where
  pub items : Chain stmt behind (KeepsItems levels) Closes n ts qs rest
  pub number : m ≡ n + opened_in (lines_of qs)

pub body_start : (n levels : ℕ) (ts : Tokens) → Body n levels ts [] ts n
body_start n levels ts = record
    { items = chain_start stmt behind (KeepsItems levels) Closes n ts (none_keep levels); number = omega arith }

number_at : (n m : ℕ) (qs : Items) → m ≡ n + opened_in (lines_of qs) → state_after behind n qs ≡ m
number_at n m qs e = opened_after n qs ∙ sym e

opened-push : (qs : Items) (q : Spot × Action) → opened_in (lines_of (qs ++ q ∷ [])) ≡ opened_in (lines_of qs)
    + blocks_opened q.1
opened-push [] q = omega arith
opened-push (p ∷ qs) q = let h : opened_in (lines_of (qs ++ q ∷ [])) ≡ opened_in (lines_of qs) + blocks_opened q.1 =
    opened-push qs q in omega (arith, h)

pub body_more : (n levels : ℕ) (ts rest rest' : Tokens) (qs : Items) (q : Spot × Action) (m next : ℕ)
    → (Closes (head rest) → ⊥) → length qs < 1024 →
    Body n levels ts qs rest m → Took (stmt m) (KeepsStmt levels) NoElse rest q rest' → next ≡ m + blocks_opened q.1
    → Body n levels ts (qs ++ q ∷ []) rest' next
body_more n levels ts rest rest' qs q m next go few b t e =
    let P : ℕ → Type 0 = λ m. Took (stmt m) (KeepsStmt levels) NoElse rest q rest' in
    let at : state_after behind n qs ≡ m = number_at n m qs b.number in
    record {
      items = chain_more turns go (λ l. one_fits levels qs few b.items.within l q (t.within l)) b.items
          (subst P (sym at) t);
      number = omega (arith, e, b.number, opened-push qs q);
    }

pub body_failed : (n levels : ℕ) (ts rest : Tokens) (qs : Items) (m : ℕ) (e : Fail) → (Closes (head rest) → ⊥)
    → length qs < 1024 →
    Body n levels ts qs rest m → Failed (stmt m) (KeepsStmt levels) NoElse rest e
    → Failed (statements n) (KeepsLines levels) Closes ts e
body_failed n levels ts rest qs m e go few b f =
    let P : ℕ → Type 0 = λ m. Failed (stmt m) (KeepsStmt levels) NoElse rest e in
    let g : Failed (stmt (state_after behind n qs)) (KeepsStmt levels) NoElse rest e =
    subst P (sym (number_at n m qs b.number)) f in
    failed_as (statements n) (chain stmt behind n) lines_of (lines_along n levels ts)
    (failed_by (λ why left s. chain_stopped turns go (λ l z w. one_fits levels qs few b.items.within l z w)
    (λ l z zs v. each-at l levels qs zs z v.1) b.items s) g)

pub body_end : (n levels : ℕ) (ts rest : Tokens) (qs : Items) (m : ℕ) → Closes (head rest)
    → Body n levels ts qs rest m → Took (statements n) (KeepsLines levels) Closes ts (lines_of qs) rest
body_end n levels ts rest qs m c b = took_as (statements n) (chain stmt behind n) lines_of (lines_along n levels ts)
    (chain_end (no_stmt (state_after behind n qs) rest (begins_open (head rest) c)) b.items)

-- ---- a statement that begins here

-- a statement that begins with this token
pub record Starts (n : ℕ) (t : Lexeme) : Type 0 where
  pub tree : Spot × Action
  pub after : Tokens
  pub is : stmt n tree (t ∷ after)
  pub known : AreSpellable after

at_word : (n : ℕ) (t : Lexeme) (k : Lexical) → t.kind ≡ k → Starts n (record { kind = k; at = t.at }) → Starts n t
at_word n t k e s = let P : Lexeme → Type 0 = Starts n in subst P (ap (λ j. record { kind = j; at = t.at }) (sym e)) s

abbrev zero_number : Expression
zero_number = Number (pos 0) nowhere

abbrev at_kind : Lexical → Lexeme
at_kind k = record { kind = k; at = nowhere }

abbrev io_at : Lexeme
io_at = at_kind (tok.Name io)

abbrev zero_at : Lexeme
zero_at = at_kind (tok.Int (pos 0))

abbrev sign_at : Sign → Lexeme
sign_at g = at_kind (tok.Sign g)

abbrev no_block : Tokens
no_block = sign_at sign.OpenBrace ∷ sign_at sign.CloseBrace ∷ []

-- one token, and then others
before : {p q : Tokens → Type 0} (t : Lexeme) (us : Tokens) → p (t ∷ []) → q us → (p ⨾ q) (t ∷ us)
before t us a b = record { front = t ∷ []; back = us; parts = refl; first = a; second = b }

empty_block : (n : ℕ) → productions.numbered_block n End no_block
empty_block n = before (sign_at sign.OpenBrace) (sign_at sign.CloseBrace ∷ []) (nowhere, refl)
    (record { front = []; back = sign_at sign.CloseBrace ∷ []; parts = refl; first = refl; second = (nowhere, refl) })

zero_semicolon : (whole_expression zero_number ⨾ one_token (tok.Sign sign.Semicolon))
    (zero_at ∷ sign_at sign.Semicolon ∷ [])
zero_semicolon = before zero_at (sign_at sign.Semicolon ∷ []) refl (nowhere, refl)

assign_zero : (one_token (tok.Sign sign.Assign) ⨾ whole_expression zero_number ⨾ one_token (tok.Sign sign.Semicolon))
    (sign_at sign.Assign ∷ zero_at ∷ sign_at sign.Semicolon ∷ [])
assign_zero = before (sign_at sign.Assign) (zero_at ∷ sign_at sign.Semicolon ∷ []) (nowhere, refl) zero_semicolon

io_semicolon : (name io_name ⨾ one_token (tok.Sign sign.Semicolon)) (io_at ∷ sign_at sign.Semicolon ∷ [])
io_semicolon = before io_at (sign_at sign.Semicolon ∷ []) refl (nowhere, refl)

starts_if : (n : ℕ) (at : Spot) → Starts n (record { kind = tok.Word word.If; at = at })
starts_if n at = record {
  tree = (at, Chooses zero_number n End);
  after = zero_at ∷ no_block;
  is =
      (refl, before _ (zero_at ∷ no_block) refl (before zero_at no_block refl (empty_block n)));
  known =
      (tt, (tt, (tt, tt)));
}

starts_while : (n : ℕ) (at : Spot) → Starts n (record { kind = tok.Word word.While; at = at })
starts_while n at = record {
  tree = (at, Repeats zero_number n End);
  after = zero_at ∷ no_block;
  is =
      (refl, before _ (zero_at ∷ no_block) refl (before zero_at no_block refl (empty_block n)));
  known =
      (tt, (tt, (tt, tt)));
}

starts_split : (n : ℕ) (at : Spot) → Starts n (record { kind = tok.Word word.Split; at = at })
starts_split n at = record {
  tree = (at, Splits (io_name ∷ []) n End);
  after = io_at ∷ no_block;
  is = (
    refl,
    before _ (io_at ∷ no_block) refl
        (before io_at no_block (record { front = io_at ∷ []; back = []; parts = refl; first = refl; second = refl })
        (empty_block n)),
  );
  known = (refl, (tt, (tt, tt)));
}

starts_atomic : (n : ℕ) (at : Spot) → Starts n (record { kind = tok.Word word.Atomic; at = at })
starts_atomic n at = record {
  tree = (at, Locks io_name n End);
  after = io_at ∷ no_block;
  is =
      (refl, before _ (io_at ∷ no_block) refl (before io_at no_block refl (empty_block n)));
  known =
      (refl, (tt, (tt, tt)));
}

starts_let : (n : ℕ) (at : Spot) → Starts n (record { kind = tok.Word word.Let; at = at })
starts_let n at = record {
  tree = (at, Declares (ty.Int nowhere) io_name (Value zero_number));
  after = at_kind (tok.Word word.Int) ∷ io_at ∷ sign_at sign.Assign ∷ zero_at ∷ sign_at sign.Semicolon ∷ [];
  is = before _ (at_kind (tok.Word word.Int) ∷ io_at ∷ sign_at sign.Assign ∷ zero_at ∷ sign_at sign.Semicolon ∷ []) refl
      (before _ (io_at ∷ sign_at sign.Assign ∷ zero_at ∷ sign_at sign.Semicolon ∷ []) refl
      (before io_at (sign_at sign.Assign ∷ zero_at ∷ sign_at sign.Semicolon ∷ []) refl assign_zero));
  known = (tt, (refl, (tt, (tt, (tt, tt)))));
}

starts_group : (n : ℕ) (at : Spot) → Starts n (record { kind = tok.Word word.Group; at = at })
starts_group n at = record {
  tree = (at, Groups io_name);
  after = io_at ∷ sign_at sign.Semicolon
      ∷ [];
  is = before _ (io_at ∷ sign_at sign.Semicolon ∷ []) refl io_semicolon;
  known = (refl, (tt, tt));
}

starts_freeze : (n : ℕ) (at : Spot) → Starts n (record { kind = tok.Word word.Freeze; at = at })
starts_freeze n at = record {
  tree = (at, Freezes io_name);
  after = io_at ∷ sign_at sign.Semicolon
      ∷ [];
  is = before _ (io_at ∷ sign_at sign.Semicolon ∷ []) refl io_semicolon;
  known = (refl, (tt, tt));
}

starts_share : (n : ℕ) (at : Spot) → Starts n (record { kind = tok.Word word.Share; at = at })
starts_share n at = record {
  tree = (at, Shares io_name io_name);
  after = io_at ∷ at_kind (tok.Word word.Into) ∷ io_at ∷ sign_at sign.Semicolon ∷ [];
  is = before _ (io_at ∷ at_kind (tok.Word word.Into) ∷ io_at ∷ sign_at sign.Semicolon ∷ []) refl
      (before io_at (at_kind (tok.Word word.Into) ∷ io_at ∷ sign_at sign.Semicolon ∷ []) refl
      (before _ (io_at ∷ sign_at sign.Semicolon ∷ []) (nowhere, refl) io_semicolon));
  known = (refl, (tt, (refl, (tt, tt))));
}

starts_print : (n : ℕ) (at : Spot) → Starts n (record { kind = tok.Word word.Print; at = at })
starts_print n at = record {
  tree = (at, Prints zero_number);
  after = zero_at ∷ sign_at sign.Semicolon
      ∷ [];
  is = before _ (zero_at ∷ sign_at sign.Semicolon ∷ []) refl zero_semicolon;
  known = (tt, (tt, tt));
}

starts_assert : (n : ℕ) (at : Spot) → Starts n (record { kind = tok.Word word.Assert; at = at })
starts_assert n at = record {
  tree = (at, Asserts zero_number);
  after = zero_at ∷ sign_at sign.Semicolon
      ∷ [];
  is = before _ (zero_at ∷ sign_at sign.Semicolon ∷ []) refl zero_semicolon;
  known = (tt, (tt, tt));
}

starts_name : (n x : ℕ) (at : Spot) → Starts n (record { kind = tok.Name x; at = at })
starts_name n x at = record {
  tree = (at, Assigns (record { name = x; at = at }) (Value zero_number));
  after = sign_at sign.Assign ∷ zero_at ∷ sign_at sign.Semicolon ∷ [];
  is = (refl, before _ (sign_at sign.Assign ∷ zero_at ∷ sign_at sign.Semicolon ∷ []) refl assign_zero);
  known = (tt, (tt, (tt, tt)));
}

abbrev this_at : Spot → Path
this_at at = record { root = record { name = this; at = at }; steps = [] }

abbrev indexed_zero : Tokens
indexed_zero = sign_at sign.OpenBracket ∷ zero_at ∷ sign_at sign.CloseBracket ∷ sign_at sign.Assign ∷ zero_at
    ∷ sign_at sign.Semicolon ∷ []

starts_this : (n : ℕ) (at : Spot) → Starts n (record { kind = tok.Word word.This; at = at })
starts_this n at = record {
  tree = (at, StoresAt (this_at at) zero_number zero_number);
  after = indexed_zero;
  is = (
    refl,
    before _ indexed_zero (record {
      front = record { kind = tok.Word word.This; at = at } ∷ [];
      back =
          [];
      parts = refl;
      first = inr (refl, refl);
      second = refl;
    })
        (before (sign_at sign.OpenBracket) (zero_at ∷ sign_at sign.CloseBracket ∷ sign_at sign.Assign ∷ zero_at
        ∷ sign_at sign.Semicolon ∷ []) (nowhere, refl)
        (before zero_at (sign_at sign.CloseBracket ∷ sign_at sign.Assign ∷ zero_at ∷ sign_at sign.Semicolon ∷ []) refl
        (before (sign_at sign.CloseBracket) (sign_at sign.Assign ∷ zero_at ∷ sign_at sign.Semicolon ∷ [])
        (nowhere, refl) assign_zero))),
  );
  known = (tt, (tt, (tt, (tt, (tt, (tt, tt))))));
}

starts : (n : ℕ) (t : Lexeme) → productions.Begins (Some t) → Starts n t
starts n t (inl (inl e)) = at_word n t _ e (starts_if n t.at)
starts n t (inl (inr (inl e))) = at_word n t _ e (starts_while n t.at)
starts n t (inl (inr (inr (inl e)))) = at_word n t _ e (starts_split n t.at)
starts n t (inl (inr (inr (inr e)))) = at_word n t _ e (starts_atomic n t.at)
starts n t (inr (inl (inl e))) = at_word n t _ e (starts_let n t.at)
starts n t (inr (inl (inr (inl e)))) = at_word n t _ e (starts_group n t.at)
starts n t (inr (inl (inr (inr (inl e))))) = at_word n t _ e (starts_freeze n t.at)
starts n t (inr (inl (inr (inr (inr (inl e)))))) = at_word n t _ e (starts_share n t.at)
starts n t (inr (inl (inr (inr (inr (inr (inl e))))))) = at_word n t _ e (starts_print n t.at)
starts n t (inr (inl (inr (inr (inr (inr (inr e))))))) = at_word n t _ e (starts_assert n t.at)
starts n t (inr (inr (inl e))) = at_word n t _ e.1 (starts_name n e.0 t.at)
starts n t (inr (inr (inr e))) = at_word n t _ e (starts_this n t.at)

nothing_begins : productions.Begins None → ⊥
nothing_begins (inl (inl e)) = e
nothing_begins (inl (inr (inl e))) = e
nothing_begins (inl (inr (inr (inl e)))) = e
nothing_begins (inl (inr (inr (inr e)))) = e
nothing_begins (inr (inl (inl e))) = e
nothing_begins (inr (inl (inr (inl e)))) = e
nothing_begins (inr (inl (inr (inr (inl e))))) = e
nothing_begins (inr (inl (inr (inr (inr (inl e)))))) = e
nothing_begins (inr (inl (inr (inr (inr (inr (inl e))))))) = e
nothing_begins (inr (inl (inr (inr (inr (inr (inr e))))))) = e
nothing_begins (inr (inr (inl e))) = e
nothing_begins (inr (inr (inr e))) = e

one_more : (W : Limit → Spot × Action → Type 0) (n : ℕ) (rest : Tokens) → productions.Begins (head rest)
    → Beyond (stmt n) W [] rest (Over limit.Statements)
one_more W n [] b = absurd (nothing_begins b)
one_more W n (t ∷ rest) b = let s = starts n t b in record {
  next = t;
  later = rest;
  rest_is = refl;
  tree = s.tree;
  after = s.after;
  goes_on = s.is;
  known = s.known;
  passes
      = tt;
  others = λ m k. absurd (omega (arith, k));
}

-- ---- the statement behind the 1,024th

too_many : (levels : ℕ) (qs zs : Items) (z : Spot × Action) → 1024 ≤ length qs
    → KeepsItems levels limit.Statements (qs ++ z ∷ zs) → ⊥
too_many levels qs zs z full k = let f : statement_count (lines_of (qs ++ z ∷ zs)) ≤ 1024 = k.0 in absurd
    (omega (arith, f, full, count-listed (qs ++ z ∷ zs), length-append qs (z ∷ zs)))

pub body_full : (n levels : ℕ) (ts rest : Tokens) (qs : Items) (m : ℕ) (why : Why) → (Closes (head rest) → ⊥)
    → 1024 ≤ length qs → Further rest why →
    Body n levels ts qs rest m → Stopped (statements n) (KeepsLines levels) Closes ts why (length rest)
body_full n levels ts rest qs m Unexpected go full f b = stopped_lines
    (chain_full Unexpected go (λ z zs us r d h w. no_stmt (state_after behind n qs) rest f z us r d h) tt b.items)
  where
    stopped_lines : Stopped (chain stmt behind n) (KeepsItems levels) Closes ts Unexpected (length rest)
        → Stopped (statements n) (KeepsLines levels) Closes ts Unexpected (length rest)
    stopped_lines s = stopped_as (statements n) (chain stmt behind n) lines_of (lines_along n levels ts) s
body_full n levels ts rest qs m (Over l) go full f b =
    let P : Limit → Type 0 = λ k. Stopped (statements n) (KeepsLines levels) Closes ts (Over k) (length rest) in
    subst P (sym f.0) (stopped_as (statements n) (chain stmt behind n) lines_of (lines_along n levels ts)
    (chain_full (Over limit.Statements) go (λ z zs us r d h w. too_many levels qs zs z full w)
    (one_more (λ l z. KeepsItems levels l (qs ++ z ∷ [])) (state_after behind n qs) rest f.1) b.items))

-- ---- numbers

back_long : {p q : Tokens → Type 0} (us : Tokens) (d : Then p q us) → length d.back ≤ length us
back_long us d = omega (arith, ap length d.parts, length-append d.front d.back)

-- a block has more tokens than blocks are opened in it
braced_long : (n : ℕ) (b : Lines) (us : Tokens) (d : productions.numbered_block n b us)
    → opened_in b ≤ length d.second.front → 1 + opened_in b ≤ length us
braced_long n b us d h = omega (
  arith,
  h,
  ap length d.parts,
  length-append d.front d.back,
  ap length d.first.1,
  ap length d.second.parts,
  length-append d.second.front d.second.back,
)

one_block : {p q : Tokens → Type 0} (n : ℕ) (b : Lines) (us : Tokens)
    (d : (p ⨾ q ⨾ productions.numbered_block n b) us) → opened_in b ≤ length d.second.second.second.front
    → 1 + opened_in b ≤ length us
one_block n b us d h = omega (arith, braced_long n b d.second.back d.second.second h, back_long d.back d.second, back_long us d)

two_blocks : {p q r : Tokens → Type 0} (n m : ℕ) (b c : Lines) (us : Tokens)
    (d : (p ⨾ q ⨾ productions.numbered_block n b ⨾ r ⨾ productions.numbered_block m c) us) →
    opened_in b ≤ length d.second.second.first.second.front
    → opened_in c ≤ length d.second.second.second.second.second.front
    → 1 + opened_in b + 1 + opened_in c ≤ length us
two_blocks n m b c us d h k =
    let s = d.second.second in
    omega (arith, braced_long n b s.front s.first h, braced_long m c s.second.back s.second.second k, back_long s.back s.second, ap length s.parts, length-append s.front s.back, back_long d.back d.second, back_long us d)

mutual
  pub opened_fits : (n : ℕ) (at : Spot) (a : Action) (us : Tokens) → statement n at a us → blocks_opened a ≤ length us
  opened_fits n at (Declares t x e) us d = omega arith
  opened_fits n at (Assigns x e) us d = omega arith
  opened_fits n at (Stores p e) us d = omega arith
  opened_fits n at (StoresAt p i e) us d = omega arith
  opened_fits n at (Calls c) us d = omega arith
  opened_fits n at (Chooses e k b) us d = let s = d.1.second.second.second in one_block n b us d.1
      (opened_in_fits (n + 1) b s.front s.first)
  opened_fits n at (ChoosesElse e k b m c) us d =
      let s = d.2.second.second
      in two_blocks n m b c us d.2 (opened_in_fits (n + 1) b s.first.second.front s.first.second.first)
      (opened_in_fits (m + 1) c s.second.second.second.front s.second.second.second.first)
  opened_fits n at (Repeats e k b) us d = let s = d.1.second.second.second in one_block n b us d.1
      (opened_in_fits (n + 1) b s.front s.first)
  opened_fits n at (Groups g) us d = omega arith
  opened_fits n at (Splits gs k b) us d = let s = d.1.second.second.second in one_block n b us d.1
      (opened_in_fits (n + 1) b s.front s.first)
  opened_fits n at (Locks g k b) us d = let s = d.1.second.second.second in one_block n b us d.1
      (opened_in_fits (n + 1) b s.front s.first)
  opened_fits n at (Freezes x) us d = omega arith
  opened_fits n at (Shares x g) us d = omega arith
  opened_fits n at (Prints e) us d = omega arith
  opened_fits n at (PrintsText s) us d = omega arith
  opened_fits n at (Asserts e) us d = omega arith
  opened_fits n at (Returns e) us d = absurd d

  pub opened_in_fits : (n : ℕ) (b : Lines) (us : Tokens) → statements n b us → opened_in b ≤ length us
  opened_in_fits n End us d = omega arith
  opened_in_fits n (Next at a rest) us d =
      let action = opened_fits n at a d.front d.first in
      let others = opened_in_fits (n + blocks_opened a) rest d.back d.second in
      omega (arith, action, others, ap length d.parts, length-append d.front d.back)

-- behind a block its tokens leave room for the numbers of more
pub braced_room : {W : Bound Lines} {F : Follow} (n most : ℕ) (ts rest : Tokens) (b : Lines)
    → Took (productions.numbered_block n) W F ts b rest → n + length ts ≤ most
    → n + 1 + opened_in b + length rest ≤ most
braced_room n most ts rest b t room =
    let s = t.derives.second in
    omega (
      arith,
      room,
      braced_long n b t.taken t.derives (opened_in_fits (n + 1) b s.front s.first),
      ap length t.whole,
      length-append t.taken rest,
    )

chain_fits : (n : ℕ) (qs : Items) (us : Tokens) → chain stmt behind n qs us → opened_in (lines_of qs) ≤ length us
chain_fits n qs us d = opened_in_fits n (lines_of qs) us (listed_is n qs us d)

pub body_room : (n levels most : ℕ) (ts rest : Tokens) (qs : Items) (m : ℕ) → Body n levels ts qs rest m
    → n + length ts ≤ most → m + length rest ≤ most
body_room n levels most ts rest qs m b room =
    omega (arith, room, b.number, chain_fits n qs b.items.taken b.items.derives, ap length b.items.whole, length-append b.items.taken rest)

-- ---- what is left

pub body_length : (n levels : ℕ) (ts rest : Tokens) (qs : Items) (m : ℕ) → Body n levels ts qs rest m
    → length rest ≤ length ts
body_length n levels ts rest qs m b = omega (arith, ap length b.items.whole, length-append b.items.taken rest)

-- a statement has a token
stmt_long : (n : ℕ) (y : Spot × Action) (us : Tokens) → stmt n y us → 1 ≤ length us
stmt_long n y [] d = let f = form_of n y.0 y.1 [] [] d in absurd (no_token f.token f.front)
  where
    no_token : (t : Lexeme) → None ≡ Some t → ⊥
    no_token t e = cc
stmt_long n y (t ∷ us) d = omega arith

pub stmt_smaller : (n : ℕ) {W : Bound (Spot × Action)} {F : Follow} (ts rest : Tokens) (q : Spot × Action)
    → Took (stmt n) W F ts q rest → length rest < length ts
stmt_smaller n ts rest q t = omega
    (arith, stmt_long n q t.taken t.derives, ap length t.whole, length-append t.taken rest)

-- ---- statements with m block

is_opener : (t : Lexeme) (k : Lexical) (ts : Tokens) → Some t ≡ head ts → t.kind ≡ k
    → ((u : Lexeme) → u.kind ≡ k → IsOpener (Some u)) → IsOpener (head ts)
is_opener t k ts h e f = let P : Option Lexeme → Type 0 = IsOpener in subst P h (f t e)

opens_none : (n : ℕ) (at : Spot) (a : Action) (us r ts : Tokens) → statement n at a us → head (us ++ r) ≡ head ts
    → (IsOpener (head ts) → ⊥) → blocks_opened a ≡ 0
opens_none n at (Declares t x e) us r ts d h none = refl
opens_none n at (Assigns x e) us r ts d h none = refl
opens_none n at (Stores p e) us r ts d h none = refl
opens_none n at (StoresAt p i e) us r ts d h none = refl
opens_none n at (Calls c) us r ts d h none = refl
opens_none n at (Chooses e k b) us r ts d h none = let f = opens_at us r d.1 in absurd
    (none (is_opener f.token _ ts (sym f.front ∙ h) f.kind (λ u i. inl i)))
opens_none n at (ChoosesElse e k b m c) us r ts d h none = let f = opens_at us r d.2 in absurd
    (none (is_opener f.token _ ts (sym f.front ∙ h) f.kind (λ u i. inl i)))
opens_none n at (Repeats e k b) us r ts d h none = let f = opens_at us r d.1 in absurd
    (none (is_opener f.token _ ts (sym f.front ∙ h) f.kind (λ u i. inr (inl i))))
opens_none n at (Groups g) us r ts d h none = refl
opens_none n at (Splits gs k b) us r ts d h none = let f = opens_at us r d.1 in absurd
    (none (is_opener f.token _ ts (sym f.front ∙ h) f.kind (λ u i. inr (inr (inl i)))))
opens_none n at (Locks g k b) us r ts d h none = let f = opens_at us r d.1 in absurd
    (none (is_opener f.token _ ts (sym f.front ∙ h) f.kind (λ u i. inr (inr (inr i)))))
opens_none n at (Freezes x) us r ts d h none = refl
opens_none n at (Shares x g) us r ts d h none = refl
opens_none n at (Prints e) us r ts d h none = refl
opens_none n at (PrintsText s) us r ts d h none = refl
opens_none n at (Asserts e) us r ts d h none = refl
opens_none n at (Returns e) us r ts d h none = absurd d

-- the number behind a statement that begins with no word of a block
pub simple_number : (n : ℕ) {W : Bound (Spot × Action)} {F : Follow} (ts rest : Tokens) (q : Spot × Action)
    → (IsOpener (head ts) → ⊥) → Took (stmt n) W F ts q rest → n ≡ n + blocks_opened q.1
simple_number n ts rest q none t =
    let e : blocks_opened q.1 ≡ 0 = opens_none n q.0 q.1 t.taken rest ts t.derives (ap head (sym t.whole)) none in
    omega (arith, e)

-- the last word of a block that is left
pub is_lock : (ts : Tokens) → IsOpener (head ts) → (Is (tok.Word word.If) (head ts) → ⊥)
    → (Is (tok.Word word.While) (head ts) → ⊥) → (Is (tok.Word word.Split) (head ts) → ⊥)
    → Is (tok.Word word.Atomic) (head ts)
is_lock ts (inl i) a b c = absurd (a i)
is_lock ts (inr (inl i)) a b c = absurd (b i)
is_lock ts (inr (inr (inl i))) a b c = absurd (c i)
is_lock ts (inr (inr (inr i))) a b c = i

-- a statement needs a word or a path in front
pub no_words : (o : Option Lexeme) → (IsOpener o → ⊥) → (Is (tok.Word word.Let) o → ⊥)
    → (Is (tok.Word word.Group) o → ⊥) → (Is (tok.Word word.Freeze) o → ⊥) → (Is (tok.Word word.Share) o → ⊥) →
    (Is (tok.Word word.Print) o → ⊥) → (Is (tok.Word word.Assert) o → ⊥) → (IsRoot o → ⊥) → productions.Begins o → ⊥
no_words o op l g f s p a root (inl i) = op i
no_words o op l g f s p a root (inr (inl (inl i))) = l i
no_words o op l g f s p a root (inr (inl (inr (inl i)))) = g i
no_words o op l g f s p a root (inr (inl (inr (inr (inl i))))) = f i
no_words o op l g f s p a root (inr (inl (inr (inr (inr (inl i)))))) = s i
no_words o op l g f s p a root (inr (inl (inr (inr (inr (inr (inl i))))))) = p i
no_words o op l g f s p a root (inr (inl (inr (inr (inr (inr (inr i))))))) = a i
no_words o op l g f s p a root (inr (inr i)) = root i

has_stmt : (n levels : ℕ) → Has (stmt n) (KeepsStmt levels)
has_stmt n levels = record {
  tree = (nowhere, Groups io_name);
  tokens = at_kind (tok.Word word.Group) ∷ io_at ∷ sign_at sign.Semicolon ∷ [];
  is = before (at_kind (tok.Word word.Group)) (io_at ∷ sign_at sign.Semicolon ∷ []) refl io_semicolon;
  known = (tt, (refl, (tt, tt)));
  within = λ l. tt;
}

pub stmt_refused : (n levels : ℕ) (ts : Tokens) → (productions.Begins (head ts) → ⊥)
    → Stopped (stmt n) (KeepsStmt levels) NoElse ts Unexpected (length ts)
stmt_refused n levels ts none = stopped_here (has_stmt n levels) (no_stmt n ts none)
