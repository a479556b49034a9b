-- The tokens of statements, methods, classes and programs are those of their lines.
use Rattle.std.proofs.Common.{◌≡◌, ℕ, ◌+◌, Bool, true, false, List, [], ◌∷◌, ◌++◌, length, Option, None, Some, refl}
use Rattle.std.proofs.Common.{sym, ap, ◌∙◌, append_assoc, append-nil, length-append, slice_get}
use Rattle.ae_text.specs.declared.refusal.Spot.{Spot}
use Rattle.ae_text.specs.declared.token.Keyword.TheVariants as word
use Rattle.ae_text.specs.declared.token.Sign.TheVariants as sign
use Rattle.ae_text.specs.declared.token.TokenKind.{TokenKind}
use Rattle.ae_text.specs.declared.token.TokenKind.TheVariants as t
use Rattle.ae_text.specs.declared.token.Token.{Token}
use Rattle.ae_text.specs.Tokens.{Text}
use Rattle.ae_tree.specs.declared.tree.Ty.{Ty}
use Rattle.ae_tree.specs.declared.tree.Param.{Param}
use Rattle.ae_tree.specs.declared.tree.Me.{Me}
use Rattle.ae_tree.specs.declared.tree.Need.{Need}
use Rattle.ae_tree.specs.declared.tree.Need.TheVariants as need_of
use Rattle.ae_tree.specs.declared.tree.GroupNeed.{GroupNeed}
use Rattle.ae_tree.specs.declared.tree.Field.{Field}
use Rattle.ae_tree.specs.declared.tree.Class.{Class}
use Rattle.ae_tree.specs.Plain.{Expression, Lines, End, Next, Definition, Code}
use Rattle.ae_tree.specs.Plain.{Action, Declares, Assigns, Stores, StoresAt, Calls, Chooses, ChoosesElse, Repeats}
use Rattle.ae_tree.specs.Plain.{Groups, Splits, Locks, Freezes, Shares, Prints, PrintsText, Asserts, Returns}
use Rattle.ae_tree.specs.Grammar.{Tokens, ◌⨾◌, a_word, a_sign, one_by_one, name, whole_expression, blocks_opened}
use Rattle.ae_tree.specs.Grammar.{in_braces, statement, statements, result, away, param, me, parameters, need_word}
use Rattle.ae_tree.specs.Grammar.{need, needs, return_end, with_return, method_body, method, field, numbers_from}
use Rattle.ae_tree.specs.Grammar.{Declaration, OfClass, OfMethod, declaration, classes_in, methods_in, declared}
use Rattle.ae_tree.specs.Grammar.{declarations, decls_of, classes_of, methods_of, Derives}
use Rattle.ae_tree.specs.Names.{numbered}
use Rattle.ae_layout.specs.Layout.{Spellings, near, far, name_kind, name_tokens, after_commas, with_commas}
use Rattle.ae_layout.specs.Layout.{groups_tokens, path_tokens, perm_tokens, type_tokens, expression_tokens}
use Rattle.ae_layout.specs.Layout.{call_tokens, right_tokens, semicolon, open_brace, equals_value, first_line, Row}
use Rattle.ae_layout.specs.Layout.{row, indented_more, close_row, else_row, block_rows, rows, away_tokens}
use Rattle.ae_layout.specs.Layout.{param_tokens, me_tokens, params_tokens, need_tokens, needs_tokens, result_tokens}
use Rattle.ae_layout.specs.Layout.{head_tokens, method_rows, found_method_rows, methods_rows, field_tokens}
use Rattle.ae_layout.specs.Layout.{fields_rows, class_tokens, class_rows, found_class_rows, decl_rows, decls_rows}
use Rattle.ae_layout.specs.Layout.{program_rows}
use Rattle.ae_layout.specs.Rows.{kinds, kinds_of}
use Rattle.ae_layout.proofs.Productions.{shown, Clean, Shows, Puts, seq, mark, mark_any, none, grouped, cat2, cat3}
use Rattle.ae_layout.proofs.Productions.{cat5, commas_put, separated_put, separated_all, listed_put, name_puts}
use Rattle.ae_layout.proofs.Productions.{groups_put, path_puts, perm_puts, type_puts, whole_puts, call_puts}
use Rattle.ae_layout.proofs.Productions.{right_puts}

-- ---- lines

-- what this language describes has the tokens of these lines
abbrev pub Lays : Spellings → (Tokens → Type 0) → List Row → Type 0
Lays names D rs = (us : Tokens) (rest : List TokenKind) → D us → Shows names us rest (kinds_of rs ++ rest)

pub lines2 : (rs ss : List Row) (r : List TokenKind) → kinds_of (rs ++ ss) ++ r ≡ kinds_of rs ++ (kinds_of ss ++ r)
lines2 [] ss r = refl
lines2 (x ∷ rs) ss r = append_assoc (kinds x.tokens) (kinds_of (rs ++ ss)) r ∙ ap (λ l. kinds x.tokens ++ l)
    (lines2 rs ss r) ∙ sym (append_assoc (kinds x.tokens) (kinds_of rs) (kinds_of ss ++ r))

-- a line and the lines behind it
line_then : (x : Row) (rs ss : List Row) (r : List TokenKind) → kinds_of ((x ∷ rs) ++ ss) ++ r ≡ kinds x.tokens
    ++ (kinds_of rs ++ (kinds_of ss ++ r))
line_then x rs ss r = lines2 (x ∷ rs) ss r ∙ append_assoc (kinds x.tokens) (kinds_of rs) (kinds_of ss ++ r)

-- ---- statements

-- an expression up to the end of the statement
assigned_puts : (names : Spellings) (e : Expression)
    → Puts names (a_sign sign.Assign ⨾ whole_expression e ⨾ a_sign sign.Semicolon) (equals_value names e)
assigned_puts names e us rest d = grouped
    (seq d (mark_any d.first) (seq d.second (whole_puts names false e _ _ d.second.first) (mark_any d.second.second)))
    (cat2 (far (t.Sign sign.Assign) ∷ expression_tokens names false e) semicolon rest)

-- a block behind its {, up to its }
braced_puts : (names : Spellings) (indent : Text) (p : Tokens → Type 0) (rs : List Row) → Lays names p rs
    → (us : Tokens) (rest : List TokenKind) → in_braces p us
    → Shows names us rest (t.Sign sign.OpenBrace ∷ (kinds_of (rs ++ close_row indent ∷ []) ++ rest))
braced_puts names indent p rs h us rest d = grouped
    (seq d (mark_any d.first) (seq d.second (h _ _ d.second.first) (mark_any d.second.second)))
    (ap (λ l. t.Sign sign.OpenBrace ∷ l) (lines2 rs (close_row indent ∷ []) rest))

-- two blocks with an `else` between them
else_puts : (names : Spellings) (indent : Text) (p q : Tokens → Type 0) (rs ss : List Row) → Lays names p rs
    → Lays names q ss → (us : Tokens) (rest : List TokenKind) → (in_braces p ⨾ a_word word.Else ⨾ in_braces q) us
    → Shows names us rest (t.Sign sign.OpenBrace
    ∷ (kinds_of (rs ++ else_row indent ∷ ss ++ close_row indent ∷ []) ++ rest))
else_puts names indent p q rs ss h k us rest d = grouped
    (seq d (seq d.first (mark_any d.first.first)
    (seq d.first.second (h _ _ d.first.second.first) (mark_any d.first.second.second)))
    (seq d.second (mark_any d.second.first) (braced_puts names indent q ss k _ _ d.second.second)))
    (ap (λ l. t.Sign sign.OpenBrace ∷ l)
    (lines2 (rs ++ else_row indent ∷ ss) (close_row indent ∷ []) rest ∙ lines2 rs (else_row indent ∷ ss)
    (t.Sign sign.CloseBrace ∷ rest)
    ∙ ap (λ l. kinds_of rs ++ (t.Sign sign.CloseBrace ∷ t.Word word.Else ∷ t.Sign sign.OpenBrace ∷ l))
    (sym (lines2 ss (close_row indent ∷ []) rest))))

-- a word, an expression and a semicolon
word_puts : (names : Spellings) (e : Expression) (us : Tokens) (rest : List TokenKind)
    → (whole_expression e ⨾ a_sign sign.Semicolon) us
    → Shows names us rest (kinds (expression_tokens names false e ++ semicolon) ++ rest)
word_puts names e us rest d = grouped (seq d (whole_puts names false e _ _ d.first) (mark_any d.second))
    (cat2 (expression_tokens names false e) semicolon rest)

mutual
  pub statement_puts : (names : Spellings) (indent : Text) (n : ℕ) (at : Spot) (a : Action) (us : Tokens)
      (rest : List TokenKind) → statement n at a us
      → Shows names us rest (kinds (first_line names a) ++ (kinds_of (block_rows names indent a) ++ rest))
  statement_puts names indent n at (Declares y x r) us rest d = grouped
      (seq d (mark d.first) (seq d.second (type_puts names false y _ _ d.second.first)
      (seq d.second.second (mark d.second.second.first)
      (seq d.second.second.second (mark_any d.second.second.second.first)
      (seq d.second.second.second.second (right_puts names r _ _ d.second.second.second.second.first)
      (mark_any d.second.second.second.second.second))))))
      (cat3 (near (t.Word word.Let) ∷ type_tokens names false y)
      (far (name_kind names x.name) ∷ far (t.Sign sign.Assign) ∷ right_tokens names r) semicolon rest)
  statement_puts names indent n at (Assigns x r) us rest d = grouped
      (seq d.1 (mark d.1.first) (seq d.1.second (mark_any d.1.second.first)
      (seq d.1.second.second (right_puts names r _ _ d.1.second.second.first)
      (mark_any d.1.second.second.second))))
      (cat2 (near (name_kind names x.name) ∷ far (t.Sign sign.Assign) ∷ right_tokens names r) semicolon rest)
  statement_puts names indent n at (Stores p e) us rest d = grouped
      (seq d.2 (path_puts names true p _ _ d.2.first) (assigned_puts names e _ _ d.2.second))
      (cat2 (path_tokens names true p) (equals_value names e) rest)
  statement_puts names indent n at (StoresAt p i e) us rest d = grouped
      (seq d.1 (path_puts names true p _ _ d.1.first)
      (seq d.1.second (mark_any d.1.second.first)
      (seq d.1.second.second (whole_puts names true i _ _ d.1.second.second.first)
      (seq d.1.second.second.second (mark_any d.1.second.second.second.first)
      (assigned_puts names e _ _ d.1.second.second.second.second)))))
      (cat3 (path_tokens names true p) (near (t.Sign sign.OpenBracket) ∷ expression_tokens names true i)
      (near (t.Sign sign.CloseBracket) ∷ equals_value names e) rest)
  statement_puts names indent n at (Calls c) us rest d =
      grouped (seq d.1 (call_puts names true c _ _ d.1.first) (mark_any d.1.second))
      (cat2 (call_tokens names true c) semicolon rest)
  statement_puts names indent n at (Chooses e k b) us rest d = grouped
      (seq d.1 (mark d.1.first) (seq d.1.second (whole_puts names false e _ _ d.1.second.first)
      (braced_puts names indent (statements (n + 1) b) (rows names (indented_more indent) b)
      (statements_put names (indented_more indent) (n + 1) b) _ _ d.1.second.second)))
      (cat2 (near (t.Word word.If) ∷ expression_tokens names false e) open_brace _)
  statement_puts names indent n at (ChoosesElse e k b m c) us rest d = grouped
      (seq d.2 (mark d.2.first) (seq d.2.second (whole_puts names false e _ _ d.2.second.first)
      (else_puts names indent (statements (n + 1) b) (statements (m + 1) c) (rows names (indented_more indent) b)
      (rows names (indented_more indent) c) (statements_put names (indented_more indent) (n + 1) b)
      (statements_put names (indented_more indent) (m + 1) c) _ _ d.2.second.second)))
      (cat2 (near (t.Word word.If) ∷ expression_tokens names false e) open_brace _)
  statement_puts names indent n at (Repeats e k b) us rest d = grouped
      (seq d.1 (mark d.1.first) (seq d.1.second (whole_puts names false e _ _ d.1.second.first)
      (braced_puts names indent (statements (n + 1) b) (rows names (indented_more indent) b)
      (statements_put names (indented_more indent) (n + 1) b) _ _ d.1.second.second)))
      (cat2 (near (t.Word word.While) ∷ expression_tokens names false e) open_brace _)
  statement_puts names indent n at (Groups g) us rest d = seq d (mark d.first)
      (seq d.second (mark d.second.first) (mark_any d.second.second))
  statement_puts names indent n at (Splits gs k b) us rest d = grouped
      (seq d.1 (mark d.1.first) (seq d.1.second
      (separated_all names name (name_tokens names) false (name_puts names) gs _ _ d.1.second.first)
      (braced_puts names indent (statements (n + 1) b) (rows names (indented_more indent) b)
      (statements_put names (indented_more indent) (n + 1) b) _ _ d.1.second.second)))
      (cat2 (near (t.Word word.Split) ∷ with_commas (name_tokens names) false gs) open_brace _)
  statement_puts names indent n at (Locks g k b) us rest d =
      seq d.1 (mark d.1.first) (seq d.1.second (mark d.1.second.first)
      (braced_puts names indent (statements (n + 1) b) (rows names (indented_more indent) b)
      (statements_put names (indented_more indent) (n + 1) b) _ _ d.1.second.second))
  statement_puts names indent n at (Freezes x) us rest d = seq d (mark d.first)
      (seq d.second (mark d.second.first) (mark_any d.second.second))
  statement_puts names indent n at (Shares x g) us rest d = seq d (mark d.first)
      (seq d.second (mark d.second.first)
      (seq d.second.second (mark_any d.second.second.first)
      (seq d.second.second.second (mark d.second.second.second.first) (mark_any d.second.second.second.second))))
  statement_puts names indent n at (Prints e) us rest d = seq d (mark d.first) (word_puts names e _ _ d.second)
  statement_puts names indent n at (PrintsText s) us rest d = seq d (mark d.first)
      (seq d.second (mark_any d.second.first) (mark_any d.second.second))
  statement_puts names indent n at (Asserts e) us rest d = seq d (mark d.first) (word_puts names e _ _ d.second)
  statement_puts names indent n at (Returns e) us rest d = absurd d

  pub statements_put : (names : Spellings) (indent : Text) (n : ℕ) (ls : Lines)
      → Lays names (statements n ls) (rows names indent ls)
  statements_put names indent n End us rest d = none d
  statements_put names indent n (Next at a more) us rest d = grouped
      (seq d (statement_puts names indent n at a _ _ d.first)
      (statements_put names indent (n + blocks_opened a) more _ _ d.second))
      (line_then (row indent (first_line names a)) (block_rows names indent a) (rows names indent more) rest)

-- ---- methods

return_puts : (names : Spellings) (indent : Text) (r : Option (Spot × Expression))
    → Lays names (return_end r) (rows names indent (with_return End r))
return_puts names indent None us rest d = none d
return_puts names indent (Some r) us rest d = grouped
    (seq d (mark d.first) (word_puts names r.1 _ _ d.second))
    (line_then (row indent (first_line names (Returns r.1))) [] [] rest)

return_rows : (names : Spellings) (indent : Text) (ls : Lines) (r : Option (Spot × Expression))
    → rows names indent (with_return ls r) ≡ rows names indent ls ++ rows names indent (with_return End r)
return_rows names indent End r = refl
return_rows names indent (Next at a more) r =
    ap (λ l. (row indent (first_line names a) ∷ block_rows names indent a) ++ l) (return_rows names indent more r)
    ∙ sym (append_assoc (row indent (first_line names a) ∷ block_rows names indent a) (rows names indent more)
    (rows names indent (with_return End r)))

-- the statements of a body
lines_put : (names : Spellings) (indent : Text) (b front : Lines) (r : Option (Spot × Expression))
    → b ≡ with_return front r → Lays names (statements 1 front ⨾ return_end r) (rows names indent b)
lines_put names indent b front r e us rest d = grouped
    (seq d (statements_put names indent 1 front _ _ d.first) (return_puts names indent r _ _ d.second))
    (ap (λ l. kinds_of l ++ rest) (ap (rows names indent) e ∙ return_rows names indent front r)
    ∙ lines2 (rows names indent front) (rows names indent (with_return End r)) rest)

body_puts : (names : Spellings) (indent : Text) (b : Lines) (us : Tokens) (rest : List TokenKind) → method_body b us
    → Shows names us rest (t.Sign sign.OpenBrace
    ∷ (kinds_of (rows names (indented_more indent) b ++ close_row indent ∷ []) ++ rest))
body_puts names indent b us rest (front, r, e, d) = braced_puts names indent (statements 1 front ⨾ return_end r)
    (rows names (indented_more indent) b) (lines_put names (indented_more indent) b front r e) us rest d

result_puts : (names : Spellings) (r : Option Ty) → Puts names (result r) (result_tokens names r)
result_puts names None us rest d = mark_any d
result_puts names (Some y) us rest d = type_puts names false y us rest d

away_puts : (names : Spellings) (a : Option Spot) → Puts names (away a) (away_tokens a)
away_puts names None us rest d = none d
away_puts names (Some at) us rest d = seq d (mark d.first) (mark_any d.second)

param_puts : (names : Spellings) (close : Bool) (p : Param) → Puts names (param p) (param_tokens names close p)
param_puts names close p us rest d = grouped
    (seq d (type_puts names close p.ty _ _ d.first)
    (seq d.second (mark d.second.first) (away_puts names p.away _ _ d.second.second)))
    (cat2 (type_tokens names close p.ty) (far (name_kind names p.name.name) ∷ away_tokens p.away) rest)

me_puts : (names : Spellings) (m : Me) → Puts names (me m) (me_tokens names m)
me_puts names m us rest d = grouped
    (seq d (perm_puts names true m.perm _ _ d.first)
    (seq d.second (mark d.second.first) (away_puts names m.away _ _ d.second.second)))
    (cat2 (perm_tokens names true m.perm) (far (t.Word word.This) ∷ away_tokens m.away) rest)

parameters_put : (names : Spellings) (m : Option Me) (ps : List Param)
    → Puts names (parameters m ps) (params_tokens names m ps)
parameters_put names None ps us rest d = listed_put names param (param_tokens names) true
    (param_puts names) ps us rest d
parameters_put names (Some m) ps us rest d = grouped
    (seq d (me_puts names m _ _ d.first)
    (commas_put names param (param_tokens names false) (param_puts names false) ps _ _ d.second))
    (cat2 (me_tokens names m) (after_commas (param_tokens names false) ps) rest)

need_same : (n : Need) → need_word n ≡ need_word n
need_same need_of.Exclusive = refl
need_same need_of.Shared = refl
need_same need_of.Protected = refl

need_puts : (names : Spellings) (close : Bool) (n : GroupNeed) → Puts names (need n) (need_tokens names close n)
need_puts names close n us rest d = grouped (seq d (mark_any d.first) (mark d.second))
    (ap (λ w. t.Word w ∷ name_kind names n.group.name ∷ rest) (sym (need_same n.need)))

needs_put : (names : Spellings) (ns : List GroupNeed) → Puts names (needs ns) (needs_tokens names ns)
needs_put names [] us rest d = none d
needs_put names (n ∷ ns) us rest d = seq d (mark_any d.first)
    (separated_put names need (need_tokens names) false (need_puts names) n ns _ _ d.second)

pub method_puts : (names : Spellings) (indent : Text) (c : Option ℕ) (m : Definition)
    → Lays names (method c m) (method_rows names indent m)
method_puts names indent c m us rest (is, number, d) = grouped
    (seq d (mark_any d.first) (seq d.second (result_puts names m.result _ _ d.second.first)
    (seq d.second.second (mark d.second.second.first)
    (seq d.second.second.second (groups_put names m.groups _ _ d.second.second.second.first)
    (later _ d.second.second.second.second)))))
    (append_assoc (kinds (head_tokens names m))
    (kinds_of (rows names (indented_more indent) m.body ++ close_row indent ∷ [])) rest
    ∙ cat5 (near (t.Word word.Method) ∷ result_tokens names m.result)
    (far (name_kind names m.name.name) ∷ groups_tokens names m.groups)
    (near (t.Sign sign.OpenParen) ∷ params_tokens names m.me m.params)
    (near (t.Sign sign.CloseParen) ∷ needs_tokens names m.needs) open_brace _)
  where
    later : (vs : Tokens) → (a_sign sign.OpenParen ⨾ parameters m.me m.params ⨾ a_sign sign.CloseParen ⨾ needs m.needs
        ⨾ method_body m.body) vs
        → Shows names vs rest (t.Sign sign.OpenParen
        ∷ (kinds (params_tokens names m.me m.params)
        ++ (t.Sign sign.CloseParen ∷ (kinds (needs_tokens names m.needs)
        ++ (t.Sign sign.OpenBrace ∷ (kinds_of (rows names (indented_more indent) m.body ++ close_row indent ∷ [])
        ++ rest))))))
    later vs d = seq d (mark_any d.first)
        (seq d.second (parameters_put names m.me m.params _ _ d.second.first)
        (seq d.second.second (mark_any d.second.second.first)
        (seq d.second.second.second (needs_put names m.needs _ _ d.second.second.second.first)
        (body_puts names indent m.body _ _ d.second.second.second.second))))

-- ---- classes

pub field_puts : (names : Spellings) (f : Field) → Puts names (field f) (field_tokens names f)
field_puts names f us rest d = grouped
    (seq d (type_puts names true f.ty _ _ d.first) (seq d.second (mark d.second.first) (mark_any d.second.second)))
    (cat2 (type_tokens names true f.ty) (far (name_kind names f.name.name) ∷ semicolon) rest)

pub fields_put : (names : Spellings) (indent : Text) (fs : List Field)
    → Lays names (one_by_one field fs) (fields_rows names indent fs)
fields_put names indent [] us rest d = none d
fields_put names indent (f ∷ fs) us rest d = grouped
    (seq d (field_puts names f _ _ d.first) (fields_put names indent fs _ _ d.second))
    (append_assoc (kinds (field_tokens names f)) (kinds_of (fields_rows names indent fs)) rest)

-- the lines of methods, one after another
abbrev definitions_rows : Spellings → Text → List Definition → List Row
definitions_rows names indent [] = []
definitions_rows names indent (m ∷ ms) = method_rows names indent m ++ definitions_rows names indent ms

definitions_put : (names : Spellings) (indent : Text) (c : Option ℕ) (ms : List Definition)
    → Lays names (one_by_one (method c) ms) (definitions_rows names indent ms)
definitions_put names indent c [] us rest d = none d
definitions_put names indent c (m ∷ ms) us rest d = grouped
    (seq d (method_puts names indent c m _ _ d.first) (definitions_put names indent c ms _ _ d.second))
    (lines2 (method_rows names indent m) (definitions_rows names indent ms) rest)

-- what stands behind others is found at their number
found_behind : {A : Type 0} (xs ys all : List A) (y : A) (n : ℕ) → all ≡ xs ++ y ∷ ys → n ≡ length xs
    → slice_get all n ≡ Some y
found_behind [] ys all y n e h = ap (slice_get all) h ∙ ap (λ l. slice_get l 0) e
found_behind (x ∷ xs) ys all y n e h = ap (slice_get all) h ∙ ap (λ l. slice_get l (length (x ∷ xs))) e
    ∙ found_behind xs ys (xs ++ y ∷ ys) y (length xs) refl refl

one_more : {A : Type 0} (xs : List A) (x : A) (n : ℕ) → n ≡ length xs → n + 1 ≡ length (xs ++ x ∷ [])
one_more xs x n h = ap (λ k. k + 1) h ∙ sym (length-append xs (x ∷ []))

-- methods by their numbers
methods_found : (names : Spellings) (indent : Text) (all before ms after : List Definition) (k : ℕ)
    → all ≡ before ++ (ms ++ after) → k ≡ length before → methods_rows names indent all (numbers_from k (length ms))
    ≡ definitions_rows names indent ms
methods_found names indent all before [] after k e h = refl
methods_found names indent all before (m ∷ ms) after k e h =
    ap (λ o. found_method_rows names indent o ++ methods_rows names indent all (numbers_from (k + 1) (length ms)))
    (found_behind before (ms ++ after) all m k e h)
    ∙ ap (λ l. method_rows names indent m ++ l)
    (methods_found names indent all (before ++ m ∷ []) ms after (k + 1)
    (e ∙ sym (append_assoc before (m ∷ []) (ms ++ after))) (one_more before m k h))

class_puts : (names : Spellings) (all before ms after : List Definition) (c n : ℕ) (k : Class)
    → all ≡ before ++ (ms ++ after) → n ≡ length before
    → Lays names (declaration c n (OfClass k ms)) (class_rows names all k)
class_puts names all before ms after c n k e h us rest (numbers, d) = grouped
    (seq d (mark_any d.first) (seq d.second (mark d.second.first)
    (seq d.second.second (groups_put names k.groups _ _ d.second.second.first)
    (seq d.second.second.second (mark_any d.second.second.second.first) (inside _ d.second.second.second.second)))))
    (append_assoc (kinds (class_tokens names k)) (kinds_of (members ++ close_row [] ∷ [])) rest
    ∙ cat2 (near (t.Word word.Class) ∷ far (name_kind names k.name.name) ∷ groups_tokens names k.groups) open_brace
    (kinds_of (members ++ close_row [] ∷ []) ++ rest))
  where
    members : List Row
    members = fields_rows names (indented_more []) k.fields ++ methods_rows names (indented_more []) all k.methods

    same : methods_rows names (indented_more []) all k.methods ≡ definitions_rows names (indented_more []) ms
    same = ap (methods_rows names (indented_more []) all) numbers
        ∙ methods_found names (indented_more []) all before ms after n e h

    inside : (vs : Tokens) → (one_by_one field k.fields ⨾ one_by_one (method (Some c)) ms ⨾ a_sign sign.CloseBrace) vs
        → Shows names vs rest (kinds_of (members ++ close_row [] ∷ []) ++ rest)
    inside vs d = grouped
        (seq d (fields_put names (indented_more []) k.fields _ _ d.first)
        (seq d.second (definitions_put names (indented_more []) (Some c) ms _ _ d.second.first)
        (mark_any d.second.second)))
        (lines2 members (close_row [] ∷ []) rest ∙ lines2 (fields_rows names (indented_more []) k.fields)
        (methods_rows names (indented_more []) all k.methods) (t.Sign sign.CloseBrace ∷ rest)
        ∙ ap (λ l. kinds_of (fields_rows names (indented_more []) k.fields)
        ++ (kinds_of l ++ (t.Sign sign.CloseBrace ∷ rest))) same)

-- ---- programs

-- what stands before the declarations that are left
record Stands (p : Code) (c m : ℕ) (classes : List Class) (methods : List Definition) : Type 0 where
  classes_before : List Class
  methods_before : List Definition
  classes_are : p.classes ≡ classes_before ++ classes
  methods_are : p.methods ≡ methods_before ++ methods
  classes_count : c ≡ length classes_before
  methods_count : m ≡ length methods_before

declaration_puts : (p : Code) (x : Declaration) (classes : List Class) (methods : List Definition) (c m : ℕ)
    → Stands p c m (classes_in x ++ classes) (methods_in x ++ methods)
    → Lays p.names (declaration c m x) (decl_rows p (declared c m x))
declaration_puts p (OfClass k ms) classes methods c m s us rest d = grouped
    (class_puts p.names p.methods s.methods_before ms methods c m k s.methods_are s.methods_count us rest d)
    (ap (λ o. kinds_of (found_class_rows p.names p.methods o) ++ rest)
    (found_behind s.classes_before classes p.classes k c s.classes_are s.classes_count))
declaration_puts p (OfMethod x) classes methods c m s us rest d = grouped
    (method_puts p.names [] None x us rest d)
    (ap (λ o. kinds_of (found_method_rows p.names [] o) ++ rest)
    (found_behind s.methods_before methods p.methods x m s.methods_are s.methods_count))

-- behind one more declaration
stands_next : (p : Code) (x : Declaration) (classes : List Class) (methods : List Definition) (c m : ℕ)
    → Stands p c m (classes_in x ++ classes) (methods_in x ++ methods)
    → Stands p (c + length (classes_in x)) (m + length (methods_in x)) classes methods
stands_next p x classes methods c m s = record {
  classes_before = s.classes_before ++ classes_in x;
  methods_before = s.methods_before ++ methods_in x;
  classes_are = s.classes_are ∙ sym (append_assoc s.classes_before (classes_in x) classes);
  methods_are = s.methods_are ∙ sym (append_assoc s.methods_before (methods_in x) methods);
  classes_count = ap (λ n. n + length (classes_in x)) s.classes_count
      ∙ sym (length-append s.classes_before (classes_in x));
  methods_count = ap (λ n. n + length (methods_in x)) s.methods_count
      ∙ sym (length-append s.methods_before (methods_in x));
}

declarations_put : (p : Code) (xs : List Declaration) (c m : ℕ) → Stands p c m (classes_of xs) (methods_of xs)
    → Lays p.names (declarations c m xs) (decls_rows p (decls_of c m xs))
declarations_put p [] c m s us rest d = none d
declarations_put p (x ∷ xs) c m s us rest d = grouped
    (seq d (declaration_puts p x (classes_of xs) (methods_of xs) c m s _ _ d.first)
    (declarations_put p xs (c + length (classes_in x)) (m + length (methods_in x))
    (stands_next p x (classes_of xs) (methods_of xs) c m s) _ _ d.second))
    (lines2 (decl_rows p (declared c m x))
    (decls_rows p (decls_of (c + length (classes_in x)) (m + length (methods_in x)) xs)) rest)

-- the lexemes of a program are those of its lines, and the end
pub program_puts : (tokens : List Token) (p : Code) → Derives tokens p → Clean (numbered p.names tokens)
    → shown p.names (numbered p.names tokens) ≡ kinds_of (program_rows p) ++ t.End ∷ []
program_puts tokens p d c =
    let s : Stands p 0 0 (classes_of d.list) (methods_of d.list) = record {
      classes_before = [];
      methods_before = [];
      classes_are = d.classes;
      methods_are = d.methods;
      classes_count = refl;
      methods_count = refl;
    } in
    let lines : Shows p.names (numbered p.names tokens) []
    (kinds_of (decls_rows p (decls_of 0 0 d.list)) ++ t.End ∷ []) =
    seq d.derives (declarations_put p d.list 0 0 s _ _ d.derives.first) (mark_any d.derives.second) in
    sym (append-nil (shown p.names (numbered p.names tokens))) ∙ lines.are c
    ∙ ap (λ ds. kinds_of (decls_rows p ds) ++ t.End ∷ []) (sym d.decls)
