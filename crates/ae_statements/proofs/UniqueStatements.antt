-- Tokens stand for one statement, one list of statements and one body at most.
use Rattle.std.proofs.Common.{◌≡◌, ℕ, suc, zero, ◌+◌, ◌<◌, ◌++◌, List, [], ◌∷◌, length, Option, Some, None, refl}
use Rattle.std.proofs.Common.{sym, ap, ◌∙◌, append_assoc, append-nil, subst, arith, inl, inr}
use Rattle.std.specs.Prelude.{◌⊎◌, ◌≢◌}
use Rattle.ae_text.specs.declared.refusal.Spot.{Spot}
use Rattle.ae_text.specs.declared.token.Keyword.{Keyword}
use Rattle.ae_text.specs.declared.token.Keyword.TheVariants as word
use Rattle.ae_text.specs.declared.token.Sign.{Sign}
use Rattle.ae_text.specs.declared.token.Sign.TheVariants as sign
use Rattle.ae_tree.specs.declared.lexeme.Lexeme.{Lexeme}
use Rattle.ae_tree.specs.declared.lexeme.Lexical.{Lexical}
use Rattle.ae_tree.specs.declared.lexeme.Lexical.TheVariants as tok
use Rattle.ae_tree.specs.declared.tree.NameAt.{NameAt}
use Rattle.ae_tree.specs.declared.tree.Path.{Path}
use Rattle.ae_tree.specs.declared.tree.Ty.{Ty}
use Rattle.ae_tree.specs.Plain.{Expression, Invocation, RightSide, Value, Lines, End, Next}
use Rattle.ae_tree.specs.Plain.{Action, Declares, Assigns, Stores, StoresAt, Calls, Chooses, ChoosesElse, Repeats}
use Rattle.ae_tree.specs.Plain.{Groups, Splits, Locks, Freezes, Shares, Prints, PrintsText, Asserts, Returns}
use Rattle.ae_tree.specs.Grammar.{Tokens, ◌⨾◌, a_sign, one_token, name, path, type_, groups, arguments, call_written}
use Rattle.ae_tree.specs.Grammar.{separated, whole_expression, right_of_equals, blocks_opened, opened_in, call_spot}
use Rattle.ae_tree.specs.Grammar.{in_braces, statement, statements, return_end, with_return, method_body}
use Rattle.ae_reading.specs.Reads.{head, Always, Is, Isnt, Token, TokenMark, chain}
use Rattle.ae_statements.proofs.from_reading.ReadsLemmas.{lengths, Lang, Follow, Both, Links, After}
use Rattle.ae_statements.proofs.from_reading.UniqueLemmas.{Unique, apart_by, none_at, isnt_at, unique_at}
use Rattle.ae_statements.proofs.from_reading.UniqueLemmas.{unique_mark, unique_name, unique_then, unique_both}
use Rattle.ae_statements.proofs.from_reading.UniqueLemmas.{unique_after, unique_as, unique_always, unique_choice}
use Rattle.ae_statements.proofs.from_reading.UniqueLemmas.{by_first, unique_optional, unique_separated}
use Rattle.ae_statements.proofs.from_reading.UniqueLemmas.{unique_closing, unique_chain}
use Rattle.ae_statements.proofs.from_reading.UniquePaths.{IsRoot, begins_path, unique_path}
use Rattle.ae_statements.proofs.from_reading.Begins.{Begins, begins_token, begins_mark, begins_both, of_kind}
use Rattle.ae_statements.proofs.from_reading.Begins.{of_other, links_by, is_isnt, not_both}
use Rattle.ae_statements.proofs.from_reading.Parts.{optional}
use Rattle.ae_statements.proofs.from_reading.UniqueTypes.{unique_type}
use Rattle.ae_expressions.specs.Ends.{Ends}
use Rattle.ae_statements.proofs.from_expressions.UniqueExpressions.{sign_ends, form_of, unique_expression}
use Rattle.ae_statements.proofs.from_expressions.LeadingOperands.{IsStart, begins_expression}
use Rattle.ae_statements.proofs.UniqueRightSides.{joined, parts_of, call_of, call_parts, joined_on, joined_method}
use Rattle.ae_statements.proofs.UniqueRightSides.{CallTail, call_tail, unique_grouped, semicolon_ends}
use Rattle.ae_statements.proofs.UniqueRightSides.{unique_right_side}

abbrev pub semicolon : Lexical
semicolon = tok.Sign sign.Semicolon

-- behind an expression
closed_by : (g : Sign) → ((o : Option Lexeme) → Is (tok.Sign g) o → Ends 0 o)
    → Unique (Both whole_expression (TokenMark (tok.Sign g))) Always
closed_by g ends = unique_closing whole_expression (Ends 0) (tok.Sign g) ends (unique_expression 0)

ended : Unique (Both whole_expression (TokenMark semicolon)) Always
ended = closed_by sign.Semicolon (semicolon_ends 0)

-- ---- statements that begin with a path

pub data Tail : Type 0 where
  OfRight : Tail
  OfItem : Tail
  OfCalled : Tail

abbrev pub ItemTail : Type 0
ItemTail = Unit {0} × (Expression × (Unit {0} × (Unit {0} × (Expression × Unit {0}))))

abbrev pub TailParts : Tail → Type 0
TailParts OfRight = Unit {0} × (RightSide × Unit {0})
TailParts OfItem = ItemTail
TailParts OfCalled = (List NameAt × List Expression) × Unit {0}

abbrev pub item_tail : Lang ItemTail
item_tail = Both (TokenMark (tok.Sign sign.OpenBracket))
    (Both whole_expression (Both (TokenMark (tok.Sign sign.CloseBracket))
    (Both (TokenMark (tok.Sign sign.Assign)) (Both whole_expression (TokenMark semicolon)))))

abbrev pub tail_form : (t : Tail) → Lang (TailParts t)
tail_form OfRight q us = Both (TokenMark (tok.Sign sign.Assign)) (Both right_of_equals (TokenMark semicolon)) q us
tail_form OfItem q us = item_tail q us
tail_form OfCalled q us = Both (Both groups arguments) (TokenMark semicolon) q us

abbrev pub AnyTail : Type 0
AnyTail = (t : Tail) × TailParts t

abbrev pub any_tail : Lang AnyTail
any_tail q = tail_form q.0 q.1

abbrev pub sign_tail : Sign → Option Tail
sign_tail sign.Assign = Some OfRight
sign_tail sign.OpenBracket = Some OfItem
sign_tail sign.OpenParen = Some OfCalled
sign_tail sign.Less = Some OfCalled
sign_tail _ = None

abbrev pub kind_tail : Lexical → Option Tail
kind_tail (tok.Sign g) = sign_tail g
kind_tail _ = None

abbrev pub tail_at : Option Lexeme → Option Tail
tail_at None = None
tail_at (Some t) = kind_tail t.kind

tail_is : (k : Lexical) (t : Tail) → kind_tail k ≡ Some t → (o : Option Lexeme) → Is k o → tail_at o ≡ Some t
tail_is k t e = of_kind k (λ o. tail_at o ≡ Some t) (λ at. e)

call_tail_at : (ts : Tokens) → CallTail ts → tail_at (head ts) ≡ Some OfCalled
call_tail_at ts (inl c) = let P : Tokens → Type 0 = λ z. tail_at (head z) ≡ Some OfCalled in subst P (sym c.2)
    (tail_is (tok.Sign sign.OpenParen) OfCalled refl (Some c.0) c.3)
call_tail_at ts (inr c) = let P : Tokens → Type 0 = λ z. tail_at (head z) ≡ Some OfCalled in subst P (sym c.5)
    (tail_is (tok.Sign sign.Less) OfCalled refl (Some c.0) c.6)

called_at : (q : List NameAt × List Expression) (us r : Tokens) → Both groups arguments q us
    → tail_at (head (us ++ r)) ≡ Some OfCalled
called_at q us r d = call_tail_at (us ++ r) (call_tail q.0 q.1 us r d)

tail_first : (t : Tail) (q : TailParts t) (us r : Tokens) → tail_form t q us → tail_at (head (us ++ r)) ≡ Some t
tail_first OfRight q us r d = tail_is (tok.Sign sign.Assign) OfRight refl (head (us ++ r))
    (begins_both (TokenMark (tok.Sign sign.Assign)) (λ c. Both right_of_equals (TokenMark semicolon))
    (Is (tok.Sign sign.Assign)) (begins_mark (tok.Sign sign.Assign)) q us r d)
tail_first OfItem q us r d = tail_is (tok.Sign sign.OpenBracket) OfItem refl (head (us ++ r))
    (begins_both (TokenMark (tok.Sign sign.OpenBracket))
    (λ c. Both whole_expression (Both (TokenMark (tok.Sign sign.CloseBracket))
    (Both (TokenMark (tok.Sign sign.Assign)) (Both whole_expression (TokenMark semicolon)))))
    (Is (tok.Sign sign.OpenBracket)) (begins_mark (tok.Sign sign.OpenBracket)) q us r d)
tail_first OfCalled q us r d = begins_both (Both groups arguments) (λ c. TokenMark semicolon)
    (λ o. tail_at o ≡ Some OfCalled) called_at q us r d

unique_item_end : Unique (Both (TokenMark (tok.Sign sign.CloseBracket))
    (Both (TokenMark (tok.Sign sign.Assign)) (Both whole_expression (TokenMark semicolon)))) Always
unique_item_end = unique_then (TokenMark (tok.Sign sign.CloseBracket))
    (Both (TokenMark (tok.Sign sign.Assign)) (Both whole_expression (TokenMark semicolon))) Always
    (unique_mark (tok.Sign sign.CloseBracket))
    (unique_then (TokenMark (tok.Sign sign.Assign)) (Both whole_expression (TokenMark semicolon)) Always
    (unique_mark (tok.Sign sign.Assign)) ended)

bracket_links : Links (Both (TokenMark (tok.Sign sign.CloseBracket))
    (Both (TokenMark (tok.Sign sign.Assign)) (Both whole_expression (TokenMark semicolon)))) Always (Ends 0)
bracket_links = links_by (Both (TokenMark (tok.Sign sign.CloseBracket))
    (Both (TokenMark (tok.Sign sign.Assign)) (Both whole_expression (TokenMark semicolon))))
    (Is (tok.Sign sign.CloseBracket)) (Ends 0) (sign_ends 0 sign.CloseBracket refl (λ e. cc) (λ e. cc))
    (begins_both (TokenMark (tok.Sign sign.CloseBracket))
    (λ c. Both (TokenMark (tok.Sign sign.Assign)) (Both whole_expression (TokenMark semicolon)))
    (Is (tok.Sign sign.CloseBracket)) (begins_mark (tok.Sign sign.CloseBracket))) Always

unique_tail_form : (t : Tail) → Unique (tail_form t) Always
unique_tail_form OfRight = unique_then (TokenMark (tok.Sign sign.Assign)) (Both right_of_equals (TokenMark semicolon))
    Always (unique_mark (tok.Sign sign.Assign))
    (unique_closing right_of_equals (Is semicolon) semicolon (λ o i. i) unique_right_side)
unique_tail_form OfItem = unique_then (TokenMark (tok.Sign sign.OpenBracket))
    (Both whole_expression (Both (TokenMark (tok.Sign sign.CloseBracket))
    (Both (TokenMark (tok.Sign sign.Assign)) (Both whole_expression (TokenMark semicolon))))) Always
    (unique_mark (tok.Sign sign.OpenBracket))
    (unique_both whole_expression (Both (TokenMark (tok.Sign sign.CloseBracket))
    (Both (TokenMark (tok.Sign sign.Assign)) (Both whole_expression (TokenMark semicolon))))
    (Ends 0) Always bracket_links (unique_expression 0) unique_item_end)
unique_tail_form OfCalled = unique_then (Both groups arguments) (TokenMark semicolon) Always unique_grouped
    (unique_mark semicolon)

unique_tail : Unique any_tail Always
unique_tail = unique_choice TailParts tail_form (λ t q. (t, q)) any_tail Always (λ y us d. (y.0, y.1, refl, d))
    (by_first TailParts tail_form Always tail_at (λ t q us r d f. tail_first t q us r d)) unique_tail_form

tail_isnt_dot : Links any_tail Always (Isnt (tok.Sign sign.Dot))
tail_isnt_dot q us r d f = isnt_at tail_at (tok.Sign sign.Dot) (λ at. refl) (head (us ++ r))
    (q.0, tail_first q.0 q.1 us r d)

abbrev pub Pathed : Type 0
Pathed = Path × AnyTail

abbrev pub pathed : Lang Pathed
pathed = Both path any_tail

unique_pathed : Unique pathed Always
unique_pathed = unique_both path any_tail (Isnt (tok.Sign sign.Dot)) Always tail_isnt_dot unique_path unique_tail

-- a field is stored, or a local assigned
abbrev pub put_tree : Path → List NameAt → RightSide → Action
put_tree p (s ∷ ss) (Value e) = Stores p e
put_tree p _ e = Assigns p.root e

stores_is : (p : Path) (ss : List NameAt) (e : Expression) → ss ≢ [] → Stores p e ≡ put_tree p ss (Value e)
stores_is p [] e some = absurd (some refl)
stores_is p (s ∷ ss) e some = refl

abbrev pub tail_tree : Path → (t : Tail) → TailParts t → Action
tail_tree p OfRight q = put_tree p p.steps q.1.0
tail_tree p OfItem q = StoresAt p q.1.0 q.1.1.1.1.0
tail_tree p OfCalled q = Calls (call_of (p, q.0))

abbrev pub pathed_tree : Pathed → Spot × Action
pathed_tree q = (q.0.root.at, tail_tree q.0 q.1.0 q.1.1)

abbrev pub IsPathed : Spot → Action → Tokens → Type 0
IsPathed at a us = (q : Pathed) × ((at, a) ≡ pathed_tree q) × pathed q us

assigns_pathed : (at : Spot) (x : NameAt) (e : RightSide) (us : Tokens) → x.at ≡ at
    → (name x ⨾ a_sign sign.Assign ⨾ right_of_equals e ⨾ a_sign sign.Semicolon) us → IsPathed at (Assigns x e) us
assigns_pathed at x e us place d =
    let p : path (record { root = x; steps = [] }) d.front =
    record { front = d.front; back = []; parts = sym (append-nil d.front); first = inl d.first; second = refl } in (
      (record { root = x; steps = [] }, (OfRight, (tt, (e, tt)))),
      ap (λ s. (s, Assigns x e)) (sym place),
      record { front = d.front; back = d.back; parts = d.parts; first = p; second = d.second },
    )

stores_pathed : (at : Spot) (p : Path) (e : Expression) (us : Tokens) → p.root.at ≡ at → p.steps ≢ []
    → (path p ⨾ a_sign sign.Assign ⨾ whole_expression e ⨾ a_sign sign.Semicolon) us → IsPathed at (Stores p e) us
stores_pathed at p e us place some d = (
  (p, (OfRight, (tt, (Value e, tt)))),
  ap (λ s. (s, Stores p e)) (sym place) ∙ ap (λ a. (p.root.at, a)) (stores_is p p.steps e some),
  d,
)

joined_spot : (on : Option Path) (m : NameAt) (gs : List NameAt) (es : List Expression)
    → call_spot (record { on = on; method = m; groups = gs; args = es }) ≡ (joined on m).root.at
joined_spot None m gs es = refl
joined_spot (Some p) m gs es = refl

call_is : (c : Invocation) → c ≡ call_of (parts_of c)
call_is c =
    ap (λ (o : Option Path). record { on = o; method = c.method; groups = c.groups; args = c.args })
    (sym (joined_on c.on c.method))
    ∙ ap (λ (m : NameAt). record { on = (call_of (parts_of c)).on; method = m; groups = c.groups; args = c.args })
    (sym (joined_method c.on c.method))

calls_pathed : (at : Spot) (c : Invocation) (us : Tokens) → call_spot c ≡ at
    → (call_written c ⨾ a_sign sign.Semicolon) us → IsPathed at (Calls c) us
calls_pathed at c us place d =
    let k = call_parts c d.front d.first in (
      (joined c.on c.method, (OfCalled, ((c.groups, c.args), tt))),
      ap (λ s. (s, Calls c)) (sym place ∙ joined_spot c.on c.method c.groups c.args)
          ∙ ap (λ b. ((joined c.on c.method).root.at, Calls b)) (call_is c),
      record {
        front = k.front;
        back = k.back ++ d.back;
        parts = d.parts ∙ ap (λ z. z ++ d.back) k.parts
            ∙ append_assoc k.front k.back d.back;
        first = k.first;
        second =
            record { front = k.back; back = d.back; parts = refl; first = k.second; second = d.second };
      },
    )

-- ---- statements with fewer than k tokens

abbrev pub Fewer : ℕ → ℕ → Lang Lines
Fewer k n b us = (length us < k) × statements n b us

abbrev pub block : ℕ → ℕ → Lang Lines
block k n b = in_braces (Fewer k n b)

fewer : (k n : ℕ) (b : Lines) (us : Tokens) → length us < suc k → in_braces (statements n b) us → block k n b us
fewer k n b us less d =
    let q = d.second in
    let n1 : length us ≡ length d.front + length d.back = lengths us d.front d.back d.parts in
    let n2 : length d.back ≡ length q.front + length q.back = lengths d.back q.front q.back q.parts in
    let n3 : length d.front ≡ 1 = ap length d.first.1 in
    record {
      front = d.front;
      back = d.back;
      parts = d.parts;
      first = d.first;
      second =
          record {
            front = q.front;
            back = q.back;
            parts = q.parts;
            first =
                (omega (arith, n1, n2, n3, less), q.first);
            second = q.second;
          };
    }

-- the same behind or before other tokens
fewer_after : (k : ℕ) (p q r : Tokens → Type 0) (us : Tokens) → ((ws : Tokens) → length ws < suc k → q ws → r ws)
    → length us < suc k → (p ⨾ q) us → (p ⨾ r) us
fewer_after k p q r us f less d =
    let n1 : length us ≡ length d.front + length d.back = lengths us d.front d.back d.parts in
    record {
      front = d.front;
      back = d.back;
      parts = d.parts;
      first = d.first;
      second = f d.back
          (omega (arith, n1, less)) d.second;
    }

fewer_before : (k : ℕ) (p q r : Tokens → Type 0) (us : Tokens) → ((ws : Tokens) → length ws < suc k → p ws → r ws)
    → length us < suc k → (p ⨾ q) us → (r ⨾ q) us
fewer_before k p q r us f less d =
    let n1 : length us ≡ length d.front + length d.back = lengths us d.front d.back d.parts in
    record {
      front = d.front;
      back = d.back;
      parts = d.parts;
      first = f d.front (omega (arith, n1, less)) d.first;
      second = d.second;
    }

nothing_behind : (p : Tokens → Type 0) (us : Tokens) → p us → (p ⨾ (λ ts. ts ≡ [])) us
nothing_behind p us d = record { front = us; back = []; parts = sym (append-nil us); first = d; second = refl }

-- ---- blocks

-- what stands behind statements
abbrev pub Closes : Follow
Closes o = Is (tok.Sign sign.CloseBrace) o ⊎ Is (tok.Word word.Return) o

abbrev pub Enclosed : Type 0
Enclosed = Unit {0} × (Lines × Unit {0})

abbrev pub enclosed : ℕ → ℕ → Lang Enclosed
enclosed k n = Both (TokenMark (tok.Sign sign.OpenBrace)) (Both (Fewer k n) (TokenMark (tok.Sign sign.CloseBrace)))

unique_block : (k n : ℕ) → Unique (Fewer k n) Closes → Unique (block k n) Always
unique_block k n one_token = unique_as (block k n) (enclosed k n) Always (λ q. q.1.0)
    (λ y us d. ((tt, (y, tt)), refl, d))
    (unique_then (TokenMark (tok.Sign sign.OpenBrace)) (Both (Fewer k n) (TokenMark (tok.Sign sign.CloseBrace)))
    Always (unique_mark (tok.Sign sign.OpenBrace))
    (unique_closing (Fewer k n) Closes (tok.Sign sign.CloseBrace) (λ o i. inl i) one_token))

begins_block : (k n : ℕ) → Begins (block k n) (Is (tok.Sign sign.OpenBrace))
begins_block k n b us r d = begins_both (TokenMark (tok.Sign sign.OpenBrace))
    (λ c. Both (Fewer k n) (TokenMark (tok.Sign sign.CloseBrace))) (Is (tok.Sign sign.OpenBrace))
    (begins_mark (tok.Sign sign.OpenBrace)) (tt, (b, tt)) us r d

-- ---- each form of statement

pub data Form : Type 0 where
  OfLet : Form
  OfPath : Form
  OfIf : Form
  OfWhile : Form
  OfGroup : Form
  OfSplit : Form
  OfAtomic : Form
  OfFreeze : Form
  OfShare : Form
  OfPrint : Form
  OfAssert : Form

-- what is printed: an expression or a text
pub data Printed : Type 0 where
  AsValue : Expression → Printed
  AsText : List ℕ → Printed

abbrev pub printed : Lang Printed
printed (AsValue e) = whole_expression e
printed (AsText s) = one_token (tok.Text s)

abbrev pub Parts : Form → Type 0
Parts OfLet = Spot × (Ty × (NameAt × (Unit {0} × (RightSide × Unit {0}))))
Parts OfPath = Pathed
Parts OfIf = Spot × (Expression × (Lines × Option (Unit {0} × Lines)))
Parts OfWhile = Spot × (Expression × Lines)
Parts OfGroup = Spot × (NameAt × Unit {0})
Parts OfSplit = Spot × (List NameAt × Lines)
Parts OfAtomic = Spot × (NameAt × Lines)
Parts OfFreeze = Spot × (NameAt × Unit {0})
Parts OfShare = Spot × (NameAt × (Unit {0} × (NameAt × Unit {0})))
Parts OfPrint = Spot × (Printed × Unit {0})
Parts OfAssert = Spot × (Expression × Unit {0})

abbrev pub bound : Lang (Ty × (NameAt × (Unit {0} × (RightSide × Unit {0}))))
bound = Both type_ (Both name (Both (TokenMark (tok.Sign sign.Assign)) (Both right_of_equals (TokenMark semicolon))))

abbrev pub else_block : ℕ → ℕ → Lines → Lang (Unit {0} × Lines)
else_block k n b = Both (TokenMark (tok.Word word.Else)) (block k (n + 1 + opened_in b + 1))

abbrev pub branches : ℕ → ℕ → Lang (Lines × Option (Unit {0} × Lines))
branches k n = After (block k (n + 1)) (λ b. optional (else_block k n b))

abbrev pub shared : Lang (NameAt × (Unit {0} × (NameAt × Unit {0})))
shared = Both name (Both (TokenMark (tok.Word word.Into)) (Both name (TokenMark semicolon)))

abbrev pub form : ℕ → ℕ → (t : Form) → Lang (Parts t)
form k n OfLet q us = Both (Token (tok.Word word.Let)) bound q us
form k n OfPath q us = pathed q us
form k n OfIf q us = Both (Token (tok.Word word.If)) (Both whole_expression (branches k n)) q us
form k n OfWhile q us = Both (Token (tok.Word word.While)) (Both whole_expression (block k (n + 1))) q us
form k n OfGroup q us = Both (Token (tok.Word word.Group)) (Both name (TokenMark semicolon)) q us
form k n OfSplit q us = Both (Token (tok.Word word.Split)) (Both (separated name) (block k (n + 1))) q us
form k n OfAtomic q us = Both (Token (tok.Word word.Atomic)) (Both name (block k (n + 1))) q us
form k n OfFreeze q us = Both (Token (tok.Word word.Freeze)) (Both name (TokenMark semicolon)) q us
form k n OfShare q us = Both (Token (tok.Word word.Share)) shared q us
form k n OfPrint q us = Both (Token (tok.Word word.Print)) (Both printed (TokenMark semicolon)) q us
form k n OfAssert q us = Both (Token (tok.Word word.Assert)) (Both whole_expression (TokenMark semicolon)) q us

abbrev pub if_tree : ℕ → Expression → Lines → Option (Unit {0} × Lines) → Action
if_tree n e b None = Chooses e n b
if_tree n e b (Some c) = ChoosesElse e n b (n + 1 + opened_in b) c.1

abbrev pub print_tree : Printed → Action
print_tree (AsValue e) = Prints e
print_tree (AsText s) = PrintsText s

abbrev pub tree : ℕ → (t : Form) → Parts t → Spot × Action
tree n OfLet q = (q.0, Declares q.1.0 q.1.1.0 q.1.1.1.1.0)
tree n OfPath q = pathed_tree q
tree n OfIf q = (q.0, if_tree n q.1.0 q.1.1.0 q.1.1.1)
tree n OfWhile q = (q.0, Repeats q.1.0 n q.1.1)
tree n OfGroup q = (q.0, Groups q.1.0)
tree n OfSplit q = (q.0, Splits q.1.0 n q.1.1)
tree n OfAtomic q = (q.0, Locks q.1.0 n q.1.1)
tree n OfFreeze q = (q.0, Freezes q.1.0)
tree n OfShare q = (q.0, Shares q.1.0 q.1.1.1.0)
tree n OfPrint q = (q.0, print_tree q.1.0)
tree n OfAssert q = (q.0, Asserts q.1.0)

abbrev pub IsForm : ℕ → ℕ → Spot × Action → Tokens → Type 0
IsForm k n y us = (t : Form) × (q : Parts t) × (y ≡ tree n t q) × form k n t q us

pathed_form : (k n : ℕ) (at : Spot) (a : Action) (us : Tokens) → IsPathed at a us → IsForm k n (at, a) us
pathed_form k n at a us d = (OfPath, d.0, d.1, d.2)

else_number : (e : Expression) (n m j : ℕ) (b c : Lines) → j ≡ n → m ≡ n + 1 + opened_in b
    → ChoosesElse e j b m c ≡ ChoosesElse e n b (n + 1 + opened_in b) c
else_number e n m j b c p q = ap (λ i. ChoosesElse e i b m c) p ∙ ap (λ i. ChoosesElse e n b i c) q

-- A statement with at most k tokens, where its place stands beside it.
abbrev pub Stmt : ℕ → ℕ → Lang (Spot × Action)
Stmt k n p us = (length us < suc k) × statement n p.0 p.1 us

if_form : (k n : ℕ) (at : Spot) (e : Expression) (j : ℕ) (b : Lines) (us : Tokens) → length us < suc k → j ≡ n
    → (Token (tok.Word word.If) at ⨾ whole_expression e ⨾ in_braces (statements (n + 1) b)) us
    → IsForm k n (at, Chooses e j b) us
if_form k n at e j b us less is d = (
  OfIf,
  (at, (e, (b, None))),
  ap (λ i. (at, Chooses e i b)) is,
  fewer_after k (Token (tok.Word word.If) at) (whole_expression e ⨾ in_braces (statements (n + 1) b))
      (Both whole_expression (branches k n) (e, (b, None))) us
      (λ ws l t. fewer_after k (whole_expression e) (in_braces (statements (n + 1) b)) (branches k n (b, None)) ws
      (λ vs m s. nothing_behind (block k (n + 1) b) vs (fewer k (n + 1) b vs m s)) l t) less d,
)

else_form : (k n : ℕ) (at : Spot) (e : Expression) (j m : ℕ) (b c : Lines) (us : Tokens) → length us < suc k → j ≡ n
    → m ≡ n + 1 + opened_in b →
    (Token (tok.Word word.If) at ⨾ whole_expression e ⨾ in_braces (statements (n + 1) b) ⨾ one_token
    (tok.Word word.Else) ⨾ in_braces (statements (m + 1) c)) us → IsForm k n (at, ChoosesElse e j b m c) us
else_form k n at e j m b c us less is later d =
    let Q : ℕ → Type 0 = λ i. (Token (tok.Word word.If) at ⨾ whole_expression e ⨾ in_braces (statements (n + 1) b)
    ⨾ one_token (tok.Word word.Else) ⨾ in_braces (statements (i + 1) c)) us in
    let i = n + 1 + opened_in b in
    let p : Tokens → Type 0 = one_token (tok.Word word.Else) ⨾ in_braces (statements (i + 1) c) in (
      OfIf,
      (at, (e, (b, Some (tt, c)))),
      ap (λ a. (at, a)) (else_number e n m j b c is later),
      fewer_after k (Token (tok.Word word.If) at) (whole_expression e ⨾ in_braces (statements (n + 1) b) ⨾ p)
          (Both whole_expression (branches k n) (e, (b, Some (tt, c)))) us
          (λ ws l t. fewer_after k (whole_expression e) (in_braces (statements (n + 1) b) ⨾ p)
          (branches k n (b, Some (tt, c))) ws
          (λ vs o s. fewer_before k (in_braces (statements (n + 1) b)) (else_block k n b (tt, c))
          (block k (n + 1) b) vs (λ xs h g. fewer k (n + 1) b xs h g) o
          (fewer_after k (in_braces (statements (n + 1) b)) p (else_block k n b (tt, c)) vs
          (λ xs h g. fewer_after k (one_token (tok.Word word.Else)) (in_braces (statements (i + 1) c))
          (block k (i + 1) c) xs (λ zs u v. fewer k (i + 1) c zs u v) h g) o s)) l t)
          less (subst Q later d),
    )

form_cases : (k n : ℕ) (at : Spot) (a : Action) (us : Tokens) → Stmt k n (at, a) us → IsForm k n (at, a) us
form_cases k n at (Declares t x e) us d = (OfLet, (at, (t, (x, (tt, (e, tt))))), refl, d.1)
form_cases k n at (Assigns x e) us d = pathed_form k n at (Assigns x e) us (assigns_pathed at x e us d.1.0 d.1.1)
form_cases k n at (Stores p e) us d = pathed_form k n at (Stores p e) us (stores_pathed at p e us d.1.0 d.1.1 d.1.2)
form_cases k n at (StoresAt p i e) us d =
    (OfPath, (p, (OfItem, (tt, (i, (tt, (tt, (e, tt))))))), ap (λ s. (s, StoresAt p i e)) (sym d.1.0), d.1.1)
form_cases k n at (Calls c) us d = pathed_form k n at (Calls c) us (calls_pathed at c us d.1.0 d.1.1)
form_cases k n at (Chooses e j b) us d = if_form k n at e j b us d.0 d.1.0 d.1.1
form_cases k n at (ChoosesElse e j b m c) us d = else_form k n at e j m b c us d.0 d.1.0 d.1.1 d.1.2
form_cases k n at (Repeats e j b) us d = (
  OfWhile,
  (at, (e, b)),
  ap (λ i. (at, Repeats e i b)) d.1.0,
  fewer_after k (Token (tok.Word word.While) at) (whole_expression e ⨾ in_braces (statements (n + 1) b))
      (whole_expression e ⨾ block k (n + 1) b) us
      (λ ws l t. fewer_after k (whole_expression e) (in_braces (statements (n + 1) b)) (block k (n + 1) b) ws
      (λ vs m s. fewer k (n + 1) b vs m s) l t) d.0 d.1.1,
)
form_cases k n at (Groups g) us d = (OfGroup, (at, (g, tt)), refl, d.1)
form_cases k n at (Splits gs j b) us d = (
  OfSplit,
  (at, (gs, b)),
  ap (λ i. (at, Splits gs i b)) d.1.0,
  fewer_after k (Token (tok.Word word.Split) at) (separated name gs ⨾ in_braces (statements (n + 1) b))
      (separated name gs ⨾ block k (n + 1) b) us
      (λ ws l t. fewer_after k (separated name gs) (in_braces (statements (n + 1) b)) (block k (n + 1) b) ws
      (λ vs m s. fewer k (n + 1) b vs m s) l t) d.0 d.1.1,
)
form_cases k n at (Locks g j b) us d = (
  OfAtomic,
  (at, (g, b)),
  ap (λ i. (at, Locks g i b)) d.1.0,
  fewer_after k (Token (tok.Word word.Atomic) at) (name g ⨾ in_braces (statements (n + 1) b))
      (name g ⨾ block k (n + 1) b) us
      (λ ws l t. fewer_after k (name g) (in_braces (statements (n + 1) b)) (block k (n + 1) b) ws
      (λ vs m s. fewer k (n + 1) b vs m s) l t) d.0 d.1.1,
)
form_cases k n at (Freezes x) us d = (OfFreeze, (at, (x, tt)), refl, d.1)
form_cases k n at (Shares x g) us d = (OfShare, (at, (x, (tt, (g, tt)))), refl, d.1)
form_cases k n at (Prints e) us d = (OfPrint, (at, (AsValue e, tt)), refl, d.1)
form_cases k n at (PrintsText s) us d = (OfPrint, (at, (AsText s, tt)), refl, d.1)
form_cases k n at (Asserts e) us d = (OfAssert, (at, (e, tt)), refl, d.1)
form_cases k n at (Returns e) us d = absurd d.1

-- ---- the first token of a statement

abbrev pub word_statement : Keyword → Option Form
word_statement word.Let = Some OfLet
word_statement word.This = Some OfPath
word_statement word.If = Some OfIf
word_statement word.While = Some OfWhile
word_statement word.Group = Some OfGroup
word_statement word.Split = Some OfSplit
word_statement word.Atomic = Some OfAtomic
word_statement word.Freeze = Some OfFreeze
word_statement word.Share = Some OfShare
word_statement word.Print = Some OfPrint
word_statement word.Assert = Some OfAssert
word_statement _ = None

abbrev pub kind_statement : Lexical → Option Form
kind_statement (tok.Name x) = Some OfPath
kind_statement (tok.Word w) = word_statement w
kind_statement _ = None

-- the form of a statement that begins with this token
abbrev pub statement_at : Option Lexeme → Option Form
statement_at None = None
statement_at (Some t) = kind_statement t.kind

-- a statement begins here
abbrev pub IsStatement : Follow
IsStatement o = (t : Form) × (statement_at o ≡ Some t)

path_at : (o : Option Lexeme) → IsRoot o → statement_at o ≡ Some OfPath
path_at None (inl i) = absurd i
path_at (Some t) (inl i) = of_kind (tok.Name i.0) (λ o. statement_at o ≡ Some OfPath) (λ at. refl) (Some t) i.1
path_at o (inr i) = of_kind (tok.Word word.This) (λ o. statement_at o ≡ Some OfPath) (λ at. refl) o i

word_first : {B : Type 0} (w : Keyword) (t : Form) → word_statement w ≡ Some t
    → (E : Lang B) (q : Spot × B) (us r : Tokens) → Both (Token (tok.Word w)) E q us → statement_at (head (us ++ r))
    ≡ Some t
word_first w t e E q us r d = of_kind (tok.Word w) (λ o. statement_at o ≡ Some t) (λ at. e) (head (us ++ r))
    (begins_both (Token (tok.Word w)) (λ c. E) (Is (tok.Word w)) (begins_token (tok.Word w)) q us r d)

form_first : (k n : ℕ) (t : Form) (q : Parts t) (us r : Tokens) → form k n t q us → statement_at (head (us ++ r))
    ≡ Some t
form_first k n OfLet q us r d = word_first word.Let OfLet refl bound q us r d
form_first k n OfPath q us r d = path_at (head (us ++ r)) (begins_both path (λ p. any_tail) IsRoot begins_path q us r d)
form_first k n OfIf q us r d = word_first word.If OfIf refl (Both whole_expression (branches k n)) q us r d
form_first k n OfWhile q us r d = word_first word.While OfWhile refl (Both whole_expression (block k (n + 1))) q us r d
form_first k n OfGroup q us r d = word_first word.Group OfGroup refl (Both name (TokenMark semicolon)) q us r d
form_first k n OfSplit q us r d = word_first word.Split OfSplit refl (Both (separated name) (block k (n + 1))) q us r d
form_first k n OfAtomic q us r d = word_first word.Atomic OfAtomic refl (Both name (block k (n + 1))) q us r d
form_first k n OfFreeze q us r d = word_first word.Freeze OfFreeze refl (Both name (TokenMark semicolon)) q us r d
form_first k n OfShare q us r d = word_first word.Share OfShare refl shared q us r d
form_first k n OfPrint q us r d = word_first word.Print OfPrint refl (Both printed (TokenMark semicolon)) q us r d
form_first k n OfAssert q us r d = word_first word.Assert OfAssert refl (Both whole_expression (TokenMark semicolon))
    q us r d

begins_statement : (k n : ℕ) → Begins (Stmt k n) IsStatement
begins_statement k n p us r d = let c = form_cases k n p.0 p.1 us d in (c.0, form_first k n c.0 c.1 us r c.3)

-- ---- each form is unique

unique_printed : Unique printed (Is (tok.Sign sign.Semicolon))
unique_printed (AsValue e) (AsValue f) us vs r s d l same t u = let o = unique_expression 0 e f us vs r s d l same
    (semicolon_ends 0 (head r) t) (semicolon_ends 0 (head s) u) in (ap AsValue o.0, o.1)
unique_printed (AsValue e) (AsText x) us vs r s d l same t u =
    let P : Tokens → Type 0 = λ z. IsStart (head z) in
    absurd (none_at form_of (tok.Text x) (λ at. refl) (head (vs ++ s)) (subst P same (begins_expression 0 e us r d))
    (begins_mark (tok.Text x) tt vs s l))
unique_printed (AsText x) (AsValue e) us vs r s d l same t u =
    let P : Tokens → Type 0 = λ z. IsStart (head z) in
    absurd (none_at form_of (tok.Text x) (λ at. refl) (head (us ++ r))
    (subst P (sym same) (begins_expression 0 e vs s l)) (begins_mark (tok.Text x) tt us r d))
unique_printed (AsText x) (AsText y) us vs r s d l same t u =
    let a : Lexeme = record { kind = tok.Text x; at = d.0 } in
    let b : Lexeme = record { kind = tok.Text y; at = l.0 } in
    let all : a ∷ r ≡ b ∷ s = sym (ap (λ z. z ++ r) d.1) ∙ same ∙ ap (λ z. z ++ s) l.1 in
    let heads : a ≡ b = cc in
    let kinds : tok.Text x ≡ tok.Text y = ap (λ (z : Lexeme). z.kind) heads in
    let texts : x ≡ y = cc in
    (ap AsText texts, cc)

brace_ends : (o : Option Lexeme) → Is (tok.Sign sign.OpenBrace) o → Ends 0 o
brace_ends = sign_ends 0 sign.OpenBrace refl (λ e. cc) (λ e. cc)

begins_branches : (k n : ℕ) → Begins (branches k n) (Is (tok.Sign sign.OpenBrace))
begins_branches k n = begins_both (block k (n + 1)) (λ b. optional (else_block k n b)) (Is (tok.Sign sign.OpenBrace))
    (begins_block k (n + 1))

begins_else : (k n : ℕ) (b : Lines) → Begins (else_block k n b) (Is (tok.Word word.Else))
begins_else k n b = begins_both (TokenMark (tok.Word word.Else)) (λ c. block k (n + 1 + opened_in b + 1))
    (Is (tok.Word word.Else)) (begins_mark (tok.Word word.Else))

unique_branches : (k n : ℕ) → ((j : ℕ) → Unique (Fewer k j) Closes) → Unique (branches k n) (Isnt (tok.Word word.Else))
unique_branches k n ih = unique_after (block k (n + 1)) (λ b. optional (else_block k n b)) Always
    (Isnt (tok.Word word.Else)) (λ b x us r d f. tt) (unique_block k (n + 1) (ih (n + 1)))
    (λ b. unique_optional (else_block k n b) (Isnt (tok.Word word.Else))
    (apart_by (else_block k n b) (Is (tok.Word word.Else)) (Isnt (tok.Word word.Else))
    (is_isnt (tok.Word word.Else)) (begins_else k n b))
    (unique_always (else_block k n b) (Isnt (tok.Word word.Else))
    (unique_then (TokenMark (tok.Word word.Else)) (block k (n + 1 + opened_in b + 1)) Always
    (unique_mark (tok.Word word.Else))
    (unique_block k (n + 1 + opened_in b + 1) (ih (n + 1 + opened_in b + 1))))))

-- behind a word
after_word : {B : Type 0} (w : Keyword) (E : Lang B) → Unique E Always
    → Unique (Both (Token (tok.Word w)) E) (Isnt (tok.Word word.Else))
after_word w E one_token = unique_always (Both (Token (tok.Word w)) E) (Isnt (tok.Word word.Else))
    (unique_then (Token (tok.Word w)) E Always (unique_at (tok.Word w)) one_token)

less_behind_type : Links (Both name
    (Both (TokenMark (tok.Sign sign.Assign)) (Both right_of_equals (TokenMark semicolon)))) Always
    (Isnt (tok.Sign sign.Less))
less_behind_type q us r d f = let P : Tokens → Type 0 = λ z. Isnt (tok.Sign sign.Less) (head z) in
    subst P (sym (append_assoc d.front d.back r) ∙ ap (λ z. z ++ r) (sym d.parts))
    (let Q : Tokens → Type 0 = λ z. Isnt (tok.Sign sign.Less) (head (z ++ (d.back ++ r))) in subst Q (sym d.first)
    (λ e. cc))

unique_bound : Unique bound Always
unique_bound = unique_both type_
    (Both name (Both (TokenMark (tok.Sign sign.Assign)) (Both right_of_equals (TokenMark semicolon))))
    (Isnt (tok.Sign sign.Less)) Always less_behind_type unique_type
    (unique_then name (Both (TokenMark (tok.Sign sign.Assign)) (Both right_of_equals (TokenMark semicolon))) Always
    unique_name (unique_tail_form OfRight))

unique_form : (k n : ℕ) → ((j : ℕ) → Unique (Fewer k j) Closes) → (t : Form)
    → Unique (form k n t) (Isnt (tok.Word word.Else))
unique_form k n ih OfLet = after_word word.Let bound unique_bound
unique_form k n ih OfPath = unique_always pathed (Isnt (tok.Word word.Else)) unique_pathed
unique_form k n ih OfIf = unique_then (Token (tok.Word word.If)) (Both whole_expression (branches k n))
    (Isnt (tok.Word word.Else)) (unique_at (tok.Word word.If))
    (unique_both whole_expression (branches k n) (Ends 0) (Isnt (tok.Word word.Else))
    (links_by (branches k n) (Is (tok.Sign sign.OpenBrace)) (Ends 0) brace_ends (begins_branches k n)
    (Isnt (tok.Word word.Else))) (unique_expression 0) (unique_branches k n ih))
unique_form k n ih OfWhile = after_word word.While (Both whole_expression (block k (n + 1)))
    (unique_both whole_expression (block k (n + 1)) (Ends 0) Always
    (links_by (block k (n + 1)) (Is (tok.Sign sign.OpenBrace)) (Ends 0) brace_ends
    (begins_block k (n + 1)) Always) (unique_expression 0) (unique_block k (n + 1) (ih (n + 1))))
unique_form k n ih OfGroup = after_word word.Group (Both name (TokenMark semicolon))
    (unique_then name (TokenMark semicolon) Always unique_name (unique_mark semicolon))
unique_form k n ih OfSplit = after_word word.Split (Both (separated name) (block k (n + 1)))
    (unique_both (separated name) (block k (n + 1)) (Is (tok.Sign sign.OpenBrace)) Always
    (links_by (block k (n + 1)) (Is (tok.Sign sign.OpenBrace)) (Is (tok.Sign sign.OpenBrace)) (λ o i. i)
    (begins_block k (n + 1)) Always)
    (unique_separated name (Is (tok.Sign sign.OpenBrace)) Always (λ o i. tt) (λ o i. tt)
    (of_other (tok.Sign sign.OpenBrace) (tok.Sign sign.Comma) (λ e. cc)) unique_name)
    (unique_block k (n + 1) (ih (n + 1))))
unique_form k n ih OfAtomic = after_word word.Atomic (Both name (block k (n + 1)))
    (unique_then name (block k (n + 1)) Always unique_name (unique_block k (n + 1) (ih (n + 1))))
unique_form k n ih OfFreeze = after_word word.Freeze (Both name (TokenMark semicolon))
    (unique_then name (TokenMark semicolon) Always unique_name (unique_mark semicolon))
unique_form k n ih OfShare = after_word word.Share shared
    (unique_then name (Both (TokenMark (tok.Word word.Into)) (Both name (TokenMark semicolon))) Always unique_name
    (unique_then (TokenMark (tok.Word word.Into)) (Both name (TokenMark semicolon)) Always
    (unique_mark (tok.Word word.Into))
    (unique_then name (TokenMark semicolon) Always unique_name (unique_mark semicolon))))
unique_form k n ih OfPrint = after_word word.Print (Both printed (TokenMark semicolon))
    (unique_closing printed (Is semicolon) semicolon (λ o i. i) unique_printed)
unique_form k n ih OfAssert = after_word word.Assert (Both whole_expression (TokenMark semicolon)) ended

unique_stmt : (k n : ℕ) → ((j : ℕ) → Unique (Fewer k j) Closes) → Unique (Stmt k n) (Isnt (tok.Word word.Else))
unique_stmt k n ih = unique_choice Parts (form k n) (tree n) (Stmt k n) (Isnt (tok.Word word.Else))
    (λ y us d. form_cases k n y.0 y.1 us d)
    (by_first Parts (form k n) (Isnt (tok.Word word.Else)) statement_at (λ t q us r d f. form_first k n t q us r d))
    (unique_form k n ih)

-- ---- statements one after another

abbrev pub pairs_of : Lines → List (Spot × Action)
pairs_of End = []
pairs_of (Next at a rest) = (at, a) ∷ pairs_of rest

abbrev pub lines_of : List (Spot × Action) → Lines
lines_of [] = End
lines_of (p ∷ ps) = Next p.0 p.1 (lines_of ps)

back_of : (b : Lines) → b ≡ lines_of (pairs_of b)
back_of End = refl
back_of (Next at a rest) = ap (λ b. Next at a b) (back_of rest)

-- the number of the block behind a statement
abbrev pub behind : ℕ → Spot × Action → ℕ
behind n p = n + blocks_opened p.1

lines_run : (k n : ℕ) (b : Lines) (us : Tokens) → length us < suc k → statements n b us
    → chain (Stmt k) behind n (pairs_of b) us
lines_run k n End us less d = d
lines_run k n (Next at a rest) us less d =
    let n1 : length us ≡ length d.front + length d.back = lengths us d.front d.back d.parts in
    record {
      front = d.front;
      back = d.back;
      parts = d.parts;
      first = (omega (arith, n1, less), d.first);
      second =
          lines_run k (n + blocks_opened a) rest d.back (omega (arith, n1, less)) d.second;
    }

no_else : (o : Option Lexeme) → Closes o → Isnt (tok.Word word.Else) o
no_else o (inl i) = of_other (tok.Sign sign.CloseBrace) (tok.Word word.Else) (λ e. cc) o i
no_else o (inr i) = of_other (tok.Word word.Return) (tok.Word word.Else) (λ e. cc) o i

no_statement : (o : Option Lexeme) → IsStatement o → Closes o → ⊥
no_statement o s (inl i) = none_at statement_at (tok.Sign sign.CloseBrace) (λ at. refl) o s i
no_statement o s (inr i) = none_at statement_at (tok.Word word.Return) (λ at. refl) o s i

statement_no_else : (o : Option Lexeme) → IsStatement o → Isnt (tok.Word word.Else) o
statement_no_else o s = isnt_at statement_at (tok.Word word.Else) (λ at. refl) o s

more_fewer : (k n : ℕ) → ((j : ℕ) → Unique (Fewer k j) Closes) → Unique (Fewer (suc k) n) Closes
more_fewer k n ih = unique_as (Fewer (suc k) n) (chain (Stmt k) behind n) Closes lines_of
    (λ y us d. (pairs_of y, back_of y, lines_run k n y us d.0 d.1))
    (unique_chain (Stmt k) behind Closes (Isnt (tok.Word word.Else))
    (λ j p us r d. statement_no_else (head (us ++ r)) (begins_statement k j p us r d)) no_else
    (λ j. apart_by (Stmt k j) IsStatement Closes no_statement (begins_statement k j)) (λ j. unique_stmt k j ih) n)

unique_fewer : (k n : ℕ) → Unique (Fewer k n) Closes
unique_fewer zero n x y us vs r s d e same t u = let h : length us < 0 = d.0 in absurd (omega (arith, h))
unique_fewer (suc k) n x y us vs r s d e same t u = more_fewer k n (unique_fewer k) x y us vs r s d e same t u

-- tokens before a `}` or a `return` stand for one list of statements at most
pub unique_statements : (n : ℕ) → Unique (statements n) Closes
unique_statements n x y us vs r s d e same t u = unique_fewer (suc (length us + length vs)) n x y us vs r s
    (omega arith, d) (omega arith, e) same t u

-- ---- bodies

abbrev pub Returning : Type 0
Returning = Spot × (Expression × Unit {0})

abbrev pub returned : Lang Returning
returned = Both (Token (tok.Word word.Return)) (Both whole_expression (TokenMark semicolon))

abbrev pub return_of : Option Returning → Option (Spot × Expression)
return_of None = None
return_of (Some q) = Some (q.0, q.1.0)

return_cases : (y : Option (Spot × Expression)) (us : Tokens) → return_end y us
    → (q : Option Returning) × (y ≡ return_of q) × optional returned q us
return_cases None us d = (None, refl, d)
return_cases (Some r) us d = (Some (r.0, (r.1, tt)), refl, d)

begins_returned : Begins returned (Is (tok.Word word.Return))
begins_returned = begins_both (Token (tok.Word word.Return)) (λ c. Both whole_expression (TokenMark semicolon))
    (Is (tok.Word word.Return)) (begins_token (tok.Word word.Return))

unique_returning : Unique return_end (Is (tok.Sign sign.CloseBrace))
unique_returning = unique_as return_end (optional returned) (Is (tok.Sign sign.CloseBrace)) return_of return_cases
    (unique_optional returned (Is (tok.Sign sign.CloseBrace))
    (apart_by returned (Is (tok.Word word.Return)) (Is (tok.Sign sign.CloseBrace))
    (not_both (tok.Word word.Return) (tok.Sign sign.CloseBrace) (λ e. cc)) begins_returned)
    (unique_always returned (Is (tok.Sign sign.CloseBrace))
    (unique_then (Token (tok.Word word.Return)) (Both whole_expression (TokenMark semicolon)) Always
    (unique_at (tok.Word word.Return)) ended)))

return_closes : Links return_end (Is (tok.Sign sign.CloseBrace)) Closes
return_closes None us r d f = let P : Tokens → Type 0 = λ z. Closes (head (z ++ r)) in subst P (sym d) (inl f)
return_closes (Some q) us r d f = inr (begins_returned (q.0, (q.1, tt)) us r d)

abbrev pub BodyParts : Type 0
BodyParts = Unit {0} × ((Lines × Option (Spot × Expression)) × Unit {0})

abbrev pub body_form : Lang BodyParts
body_form = Both (TokenMark (tok.Sign sign.OpenBrace))
    (Both (Both (statements 1) return_end) (TokenMark (tok.Sign sign.CloseBrace)))

-- tokens stand for one body at most
pub unique_body : Unique method_body Always
unique_body = unique_as method_body body_form Always (λ q. with_return q.1.0.0 q.1.0.1)
    (λ y us d. ((tt, ((d.0, d.1), tt)), d.2, d.3))
    (unique_then (TokenMark (tok.Sign sign.OpenBrace))
    (Both (Both (statements 1) return_end) (TokenMark (tok.Sign sign.CloseBrace))) Always
    (unique_mark (tok.Sign sign.OpenBrace))
    (unique_closing (Both (statements 1) return_end) (Is (tok.Sign sign.CloseBrace)) (tok.Sign sign.CloseBrace)
    (λ o i. i)
    (unique_both (statements 1) return_end Closes (Is (tok.Sign sign.CloseBrace)) return_closes
    (unique_statements 1) unique_returning)))
