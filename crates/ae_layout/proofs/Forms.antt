-- In the canonical layout no two tokens that are close run together: each form of a program, from names up.
use Rattle.std.proofs.Common.{◌≡◌, ℕ, Bool, true, false, not, ◌==◌, if◌then◌else◌, IsTrue, List, [], ◌∷◌, ◌++◌}
use Rattle.std.proofs.Common.{Option, None, Some, refl, slice_get}
use Rattle.ae_text.specs.declared.token.Keyword.TheVariants as word
use Rattle.ae_text.specs.declared.token.Sign.{Sign}
use Rattle.ae_text.specs.declared.token.Sign.TheVariants as sign
use Rattle.ae_text.specs.declared.token.TokenKind.{TokenKind}
use Rattle.ae_text.specs.declared.token.TokenKind.TheVariants as t
use Rattle.ae_text.specs.declared.refusal.Spot.{Spot}
use Rattle.ae_text.specs.Tokens.{Text, Each}
use Rattle.ae_tree.specs.declared.tree.NameAt.{NameAt}
use Rattle.ae_tree.specs.declared.tree.PermAt.{PermAt}
use Rattle.ae_tree.specs.declared.tree.PermAt.TheVariants as perm
use Rattle.ae_tree.specs.declared.tree.KindAt.{KindAt}
use Rattle.ae_tree.specs.declared.tree.KindAt.TheVariants as kind
use Rattle.ae_tree.specs.declared.tree.Ty.{Ty}
use Rattle.ae_tree.specs.declared.tree.Ty.TheVariants as ty
use Rattle.ae_tree.specs.declared.tree.Path.{Path}
use Rattle.ae_tree.specs.declared.tree.Param.{Param}
use Rattle.ae_tree.specs.declared.tree.Me.{Me}
use Rattle.ae_tree.specs.declared.tree.GroupNeed.{GroupNeed}
use Rattle.ae_tree.specs.declared.tree.Field.{Field}
use Rattle.ae_tree.specs.declared.tree.Class.{Class}
use Rattle.ae_tree.specs.declared.tree.Decl.{Decl}
use Rattle.ae_tree.specs.declared.tree.Decl.TheVariants as decl
use Rattle.ae_tree.specs.Plain.{Expression, Number, Truth, Nothing, Read, Item, Length, Grouped, Negated, Minus}
use Rattle.ae_tree.specs.Plain.{Binary, Invocation, RightSide, Value, Taken, Zeros, Made, Returned, Lines, End, Next}
use Rattle.ae_tree.specs.Plain.{Definition, Code}
use Rattle.ae_tree.specs.Plain.{Action, Declares, Assigns, Stores, StoresAt, Calls, Chooses, ChoosesElse, Repeats}
use Rattle.ae_tree.specs.Plain.{Groups, Splits, Locks, Freezes, Shares, Prints, PrintsText, Asserts, Returns}
use Rattle.ae_tree.specs.Grammar.{sign_of, need_word, truth_word}
use Rattle.ae_layout.specs.Spelling.{Printed}
use Rattle.ae_layout.specs.Layout.{Spellings, token, near, far, name_kind, name_tokens, after_commas, with_commas}
use Rattle.ae_layout.specs.Layout.{groups_tokens, root_kind, steps_tokens, path_tokens, perm_tokens, kind_tokens}
use Rattle.ae_layout.specs.Layout.{type_tokens, expression_tokens, arguments_tokens, method_tokens, call_tokens}
use Rattle.ae_layout.specs.Layout.{right_tokens, semicolon, open_brace, equals_value, first_line, Row, indented_more}
use Rattle.ae_layout.specs.Layout.{close_row, else_row, block_rows, rows, away_tokens, param_tokens, me_tokens}
use Rattle.ae_layout.specs.Layout.{params_tokens, need_tokens, needs_tokens, result_tokens, head_tokens, method_rows}
use Rattle.ae_layout.specs.Layout.{found_method_rows, methods_rows, field_tokens, fields_rows, class_tokens}
use Rattle.ae_layout.specs.Layout.{class_rows, found_class_rows, decl_rows, decls_rows, program_rows}
use Rattle.ae_layout.specs.Rows.{Every, goes_on_with, stay_apart, PartFrom, ArePart, is_space, IsLaid, AreSpelled}
use Rattle.ae_layout.specs.Rows.{Spellable}
use Rattle.ae_tree.specs.Names.{this}

-- ---- lists of tokens

-- behind every token
abbrev Safe : List Printed → Type 0
Safe xs = (j : TokenKind) → PartFrom j xs

abbrev is_sign : TokenKind → Bool
is_sign (t.Sign g) = true
is_sign _ = false

-- a close token stands behind a sign
abbrev Ready : Bool → TokenKind → Type 0
Ready close j = close ≡ true → IsTrue (is_sign j)

-- behind a sign, or with a space before them
abbrev At : Bool → List Printed → Type 0
At close xs = (j : TokenKind) → Ready close j → PartFrom j xs

-- no sign that goes on with one before it
abbrev is_plain : TokenKind → Bool
is_plain (t.Sign h) = not (goes_on_with h)
is_plain _ = true

not_close : {A : Type 0} → false ≡ true → A
not_close e = absurd (cc)

far_ready : (j : TokenKind) → Ready false j
far_ready j e = not_close e

ready_parts : (j k : TokenKind) → IsTrue (is_sign j) → IsTrue (is_plain k) → IsTrue (stay_apart j k)
ready_parts (t.Sign g) (t.Sign h) s p = p
ready_parts (t.Sign g) (t.Name b) s p = refl
ready_parts (t.Sign g) (t.Int n) s p = refl
ready_parts (t.Sign g) (t.Text b) s p = refl
ready_parts (t.Sign g) (t.Word w) s p = refl
ready_parts (t.Sign g) t.End s p = refl
ready_parts (t.Name b) k s p = not_close s
ready_parts (t.Int n) k s p = not_close s
ready_parts (t.Text b) k s p = not_close s
ready_parts (t.Word w) k s p = not_close s
ready_parts t.End k s p = not_close s

sign_parts : (j : TokenKind) (h : Sign) → IsTrue (not (goes_on_with h)) → IsTrue (stay_apart j (t.Sign h))
sign_parts (t.Sign g) h p = p
sign_parts (t.Name b) h p = refl
sign_parts (t.Int n) h p = refl
sign_parts (t.Text b) h p = refl
sign_parts (t.Word w) h p = refl
sign_parts t.End h p = refl

joined : (k : TokenKind) (xs ys : List Printed) → PartFrom k xs → Safe ys → PartFrom k (xs ++ ys)
joined k [] ys p s = s k
joined k (x ∷ xs) ys p s = (p.0, joined x.kind xs ys p.1 s)

joined_safe : (xs ys : List Printed) → Safe xs → Safe ys → Safe (xs ++ ys)
joined_safe xs ys p s j = joined j xs ys (p j) s

near_sign : (h : Sign) (ys : List Printed) → IsTrue (not (goes_on_with h)) → PartFrom (t.Sign h) ys
    → Safe (near (t.Sign h) ∷ ys)
near_sign h ys p s j = (λ e. sign_parts j h p, s)

far_token : (k : TokenKind) (ys : List Printed) → PartFrom k ys → Safe (far k ∷ ys)
far_token k ys s j = (λ e. not_close e, s)

first_token : (close : Bool) (k : TokenKind) (ys : List Printed) → IsTrue (is_plain k) → PartFrom k ys
    → At close (token close k ∷ ys)
first_token close k ys p s j r = (λ e. ready_parts j k (r e) p, s)

-- ---- names and lists

name_at : (names : Spellings) (close : Bool) (x : NameAt) → At close (name_tokens names close x)
name_at names close x = first_token close (name_kind names x.name) [] refl tt

commas_safe : {A : Type 0} (f : A → List Printed) (xs : List A) → ((x : A) → At false (f x)) → Safe (after_commas f xs)
commas_safe f [] h = λ j. tt
commas_safe f (x ∷ xs) h = near_sign sign.Comma (f x ++ after_commas f xs) refl
    (joined (t.Sign sign.Comma) (f x) (after_commas f xs) (h x (t.Sign sign.Comma) (far_ready (t.Sign sign.Comma)))
    (commas_safe f xs h))

listed_at : {A : Type 0} (f : Bool → A → List Printed) (close : Bool) (xs : List A)
    → ((c : Bool) (x : A) → At c (f c x)) → At close (with_commas f close xs)
listed_at f close [] h j r = tt
listed_at f close (x ∷ xs) h j r = joined j (f close x) (after_commas (f false) xs) (h close x j r)
    (commas_safe (f false) xs (h false))

-- behind a name: further ones, and the closing angle
angle_closes : (names : Spellings) (n : ℕ) (xs : List NameAt)
    → PartFrom (name_kind names n) (after_commas (name_tokens names false) xs ++ near (t.Sign sign.Greater) ∷ [])
angle_closes names n [] = (λ e. refl, tt)
angle_closes names n (x ∷ xs) = (λ e. refl, (λ e. not_close e, angle_closes names x.name xs))

groups_safe : (names : Spellings) (gs : List NameAt) → Safe (groups_tokens names gs)
groups_safe names [] = λ j. tt
groups_safe names (x ∷ xs) = near_sign sign.Less
    (with_commas (name_tokens names) true (x ∷ xs) ++ near (t.Sign sign.Greater) ∷ []) refl
    (λ e. refl, angle_closes names x.name xs)

-- ---- paths and types

root_plain : (names : Spellings) (n : ℕ) → IsTrue (is_plain (root_kind names n))
root_plain names n = by_test (n == this)
  where
    by_test : (b : Bool) → IsTrue (is_plain (if b then t.Word word.This else name_kind names n))
    by_test true = refl
    by_test false = refl

steps_safe : (names : Spellings) (xs : List NameAt) → Safe (steps_tokens names xs)
steps_safe names [] = λ j. tt
steps_safe names (x ∷ xs) = near_sign sign.Dot (near (name_kind names x.name) ∷ steps_tokens names xs) refl
    (λ e. refl, steps_safe names xs (name_kind names x.name))

path_at : (names : Spellings) (close : Bool) (p : Path) → At close (path_tokens names close p)
path_at names close p = first_token close (root_kind names p.root.name) (steps_tokens names p.steps)
    (root_plain names p.root.name) (steps_safe names p.steps (root_kind names p.root.name))

perm_at : (names : Spellings) (close : Bool) (p : PermAt) → At close (perm_tokens names close p)
perm_at names close (perm.Unique at) = first_token close (t.Word word.Unique) [] refl tt
perm_at names close (perm.Immutable at) = first_token close (t.Word word.Immutable) [] refl tt
perm_at names close (perm.Lent at) = first_token close (t.Word word.Lent) [] refl tt
perm_at names close (perm.Shared at g) = first_token close (t.Word word.Shared)
    (near (t.Sign sign.Less) ∷ near (name_kind names g.name) ∷ near (t.Sign sign.Greater) ∷ []) refl
    (λ e. refl, (λ e. refl, (λ e. refl, tt)))

kind_safe : (names : Spellings) (k : KindAt) → Safe (kind_tokens names k)
kind_safe names (kind.Ints at) = far_token (t.Word word.Ints) [] tt
kind_safe names (kind.Class x groups) = far_token (name_kind names x.name) (groups_tokens names groups)
    (groups_safe names groups (name_kind names x.name))

type_at : (names : Spellings) (close : Bool) (y : Ty) → At close (type_tokens names close y)
type_at names close (ty.Int at) = first_token close (t.Word word.Int) [] refl tt
type_at names close (ty.Bool at) = first_token close (t.Word word.Bool) [] refl tt
type_at names close (ty.Object p k) = λ j r. joined j (perm_tokens names close p) (kind_tokens names k)
    (perm_at names close p j r) (kind_safe names k)

-- ---- expressions

close_paren : Safe (near (t.Sign sign.CloseParen) ∷ [])
close_paren = near_sign sign.CloseParen [] refl tt

close_bracket : Safe (near (t.Sign sign.CloseBracket) ∷ [])
close_bracket = near_sign sign.CloseBracket [] refl tt

expression_at : (names : Spellings) (close : Bool) (e : Expression) → At close (expression_tokens names close e)
expression_at names close (Number n at) = first_token close (t.Int n) [] refl tt
expression_at names close (Truth b at) = first_token close (t.Word (truth_word b)) [] refl tt
expression_at names close (Nothing at) = first_token close (t.Word word.Null) [] refl tt
expression_at names close (Read p) = path_at names close p
expression_at names close (Item p e) = λ j r.
    joined j (path_tokens names close p ++ near (t.Sign sign.OpenBracket) ∷ expression_tokens names true e)
    (near (t.Sign sign.CloseBracket) ∷ [])
    (joined j (path_tokens names close p) (near (t.Sign sign.OpenBracket) ∷ expression_tokens names true e)
    (path_at names close p j r)
    (near_sign sign.OpenBracket (expression_tokens names true e) refl
    (expression_at names true e (t.Sign sign.OpenBracket) (λ c.
    refl)))) close_bracket
expression_at names close (Length p at) = first_token close (t.Word word.Len) (path_tokens names false p) refl
    (path_at names false p (t.Word word.Len) (far_ready (t.Word word.Len)))
expression_at names close (Grouped e at) = first_token close (t.Sign sign.OpenParen) _ refl
    (joined (t.Sign sign.OpenParen) (expression_tokens names true e) _
    (expression_at names true e (t.Sign sign.OpenParen) (λ c. refl)) close_paren)
expression_at names close (Negated e at) = first_token close (t.Sign sign.Not) (expression_tokens names true e) refl
    (expression_at names true e (t.Sign sign.Not) (λ c. refl))
expression_at names close (Minus e at) = first_token close (t.Sign sign.Minus) (expression_tokens names true e) refl
    (expression_at names true e (t.Sign sign.Minus) (λ c. refl))
expression_at names close (Binary o a b) = λ j r.
    joined j (expression_tokens names close a) _ (expression_at names close a j r)
    (far_token (t.Sign (sign_of o)) (expression_tokens names false b)
    (expression_at names false b (t.Sign (sign_of o)) (far_ready (t.Sign (sign_of o)))))

-- an expression behind any token, with a space before it
expression_far : (names : Spellings) (e : Expression) → Safe (expression_tokens names false e)
expression_far names e j = expression_at names false e j (far_ready j)

path_far : (names : Spellings) (p : Path) → Safe (path_tokens names false p)
path_far names p j = path_at names false p j (far_ready j)

arguments_safe : (names : Spellings) (args : List Expression) → Safe (arguments_tokens names args)
arguments_safe names args
    = joined_safe (near (t.Sign sign.OpenParen) ∷ with_commas (expression_tokens names) true args)
    (near (t.Sign sign.CloseParen) ∷ [])
    (near_sign sign.OpenParen (with_commas (expression_tokens names) true args) refl
    (listed_at (expression_tokens names) true args (expression_at names) (t.Sign sign.OpenParen) (λ c. refl)))
    close_paren

method_at : (names : Spellings) (close : Bool) (on : Option Path) (x : NameAt)
    → At close (method_tokens names close on x)
method_at names close None x = name_at names close x
method_at names close (Some p) x = λ j r.
    joined j (path_tokens names close p) (near (t.Sign sign.Dot) ∷ near (name_kind names x.name) ∷ [])
    (path_at names close p j r) (near_sign sign.Dot (near (name_kind names x.name) ∷ []) refl (λ e. refl, tt))

call_at : (names : Spellings) (close : Bool) (c : Invocation) → At close (call_tokens names close c)
call_at names close c = λ j r.
    joined j (method_tokens names close c.on c.method ++ groups_tokens names c.groups) (arguments_tokens names c.args)
    (joined j (method_tokens names close c.on c.method) (groups_tokens names c.groups)
    (method_at names close c.on c.method j r) (groups_safe names c.groups))
    (arguments_safe names c.args)

right_safe : (names : Spellings) (r : RightSide) → Safe (right_tokens names r)
right_safe names (Value e) = expression_far names e
right_safe names (Taken p at) = far_token (t.Word word.Take) (path_tokens names false p)
    (path_far names p (t.Word word.Take))
right_safe names (Zeros e at) =
    joined_safe (far (t.Word word.New) ∷ far (t.Word word.Ints) ∷ near (t.Sign sign.OpenParen)
    ∷ expression_tokens names true e) (near (t.Sign sign.CloseParen) ∷ [])
    (λ j. (
      λ c. not_close c,
      (
        λ c. not_close c,
        (λ c. refl, expression_at names true e (t.Sign sign.OpenParen) (λ c. refl)),
      ),
    ))
    close_paren
right_safe names (Made c groups args at) =
    joined_safe (far (t.Word word.New) ∷ far (name_kind names c.name) ∷ groups_tokens names groups)
    (arguments_tokens names args)
    (λ j. (λ e. not_close e, (λ e. not_close e, groups_safe names groups (name_kind names c.name))))
    (arguments_safe names args)
right_safe names (Returned c) = λ j. call_at names false c j (far_ready j)

-- ---- statements

semicolon_safe : Safe semicolon
semicolon_safe = near_sign sign.Semicolon [] refl tt

brace_safe : Safe open_brace
brace_safe = far_token (t.Sign sign.OpenBrace) [] tt

assigned_safe : (names : Spellings) (e : Expression) → Safe (equals_value names e)
assigned_safe names e =
    joined_safe (far (t.Sign sign.Assign) ∷ expression_tokens names false e) semicolon
    (far_token (t.Sign sign.Assign) (expression_tokens names false e) (expression_far names e (t.Sign sign.Assign)))
    semicolon_safe

-- what may stand behind a brace is a line
line_from : (xs : List Printed) → At true xs → ArePart xs
line_from [] h = tt
line_from (x ∷ xs) h = (h (t.Sign sign.OpenBrace) (λ e. refl)).1

at_joined : (close : Bool) (xs ys : List Printed) → At close xs → Safe ys → At close (xs ++ ys)
at_joined close xs ys h s j r = joined j xs ys (h j r) s

-- a word, an expression, and what ends the line
word_line : (names : Spellings) (k : TokenKind) (e : Expression) (ys : List Printed) → Safe ys
    → ArePart (near k ∷ expression_tokens names false e ++ ys)
word_line names k e ys s = joined k (expression_tokens names false e) ys (expression_far names e k) s

line_parts : (names : Spellings) (a : Action) → ArePart (first_line names a)
line_parts names (Declares y x r) =
    joined (t.Word word.Let) (type_tokens names false y ++ far (name_kind names x.name) ∷ far (t.Sign sign.Assign)
    ∷ right_tokens names r) semicolon
    (joined (t.Word word.Let) (type_tokens names false y)
    (far (name_kind names x.name) ∷ far (t.Sign sign.Assign) ∷ right_tokens names r)
    (type_at names false y (t.Word word.Let) (far_ready (t.Word word.Let)))
    (λ j. (λ e. not_close e, (λ e. not_close e, right_safe names r (t.Sign sign.Assign)))))
    semicolon_safe
line_parts names (Assigns x r) = joined (name_kind names x.name) (far (t.Sign sign.Assign) ∷ right_tokens names r)
    semicolon (λ e. not_close e, right_safe names r (t.Sign sign.Assign)) semicolon_safe
line_parts names (Stores p e) = line_from (first_line names (Stores p e))
    (at_joined true (path_tokens names true p) (equals_value names e) (path_at names true p) (assigned_safe names e))
line_parts names (StoresAt p i e) =
    line_from (first_line names (StoresAt p i e))
    (at_joined true (path_tokens names true p ++ near (t.Sign sign.OpenBracket) ∷ expression_tokens names true i)
    (near (t.Sign sign.CloseBracket) ∷ equals_value names e)
    (at_joined true (path_tokens names true p) (near (t.Sign sign.OpenBracket) ∷ expression_tokens names true i)
    (path_at names true p)
    (near_sign sign.OpenBracket (expression_tokens names true i) refl
    (expression_at names true i (t.Sign sign.OpenBracket) (λ c. refl))))
    (near_sign sign.CloseBracket (equals_value names e) refl (assigned_safe names e (t.Sign sign.CloseBracket))))
line_parts names (Calls c) = line_from (first_line names (Calls c))
    (at_joined true (call_tokens names true c) semicolon (call_at names true c) semicolon_safe)
line_parts names (Chooses e n b) = word_line names (t.Word word.If) e open_brace brace_safe
line_parts names (ChoosesElse e n b m c) = word_line names (t.Word word.If) e open_brace brace_safe
line_parts names (Repeats e n b) = word_line names (t.Word word.While) e open_brace brace_safe
line_parts names (Groups g) = (λ e. not_close e, (λ e. refl, tt))
line_parts names (Splits gs n b) = joined (t.Word word.Split) (with_commas (name_tokens names) false gs) open_brace
    (listed_at (name_tokens names) false gs (name_at names) (t.Word word.Split) (far_ready (t.Word word.Split)))
    brace_safe
line_parts names (Locks g n b) = (λ e. not_close e, (λ e. not_close e, tt))
line_parts names (Freezes x) = (λ e. not_close e, (λ e. refl, tt))
line_parts names (Shares x g) = (λ e. not_close e, (λ e. not_close e, (λ e. not_close e, (λ e. refl, tt))))
line_parts names (Prints e) = word_line names (t.Word word.Print) e semicolon semicolon_safe
line_parts names (PrintsText s) = (λ e. not_close e, (λ e. refl, tt))
line_parts names (Asserts e) = word_line names (t.Word word.Assert) e semicolon semicolon_safe
line_parts names (Returns e) = word_line names (t.Word word.Return) e semicolon semicolon_safe

-- ---- methods and classes

away_safe : (away : Option Spot) → Safe (away_tokens away)
away_safe None = λ j. tt
away_safe (Some at) = λ j. (λ e. not_close e, (λ e. not_close e, tt))

param_at : (names : Spellings) (close : Bool) (p : Param) → At close (param_tokens names close p)
param_at names close p =
    at_joined close (type_tokens names close p.ty) (far (name_kind names p.name.name) ∷ away_tokens p.away)
    (type_at names close p.ty)
    (far_token (name_kind names p.name.name) (away_tokens p.away) (away_safe p.away (name_kind names p.name.name)))

me_at : (names : Spellings) (m : Me) → At true (me_tokens names m)
me_at names m =
    at_joined true (perm_tokens names true m.perm) (far (t.Word word.This) ∷ away_tokens m.away)
    (perm_at names true m.perm)
    (far_token (t.Word word.This) (away_tokens m.away) (away_safe m.away (t.Word word.This)))

params_at : (names : Spellings) (me : Option Me) (ps : List Param) → At true (params_tokens names me ps)
params_at names None ps = listed_at (param_tokens names) true ps (param_at names)
params_at names (Some m) ps = at_joined true (me_tokens names m) (after_commas (param_tokens names false) ps)
    (me_at names m) (commas_safe (param_tokens names false) ps (param_at names false))

need_at : (names : Spellings) (close : Bool) (n : GroupNeed) → At close (need_tokens names close n)
need_at names close n = first_token close (t.Word (need_word n.need)) (far (name_kind names n.group.name) ∷ []) refl
    (λ e. not_close e, tt)

needs_safe : (names : Spellings) (ns : List GroupNeed) → Safe (needs_tokens names ns)
needs_safe names [] = λ j. tt
needs_safe names (n ∷ ns) = far_token (t.Word word.With) (with_commas (need_tokens names) false (n ∷ ns))
    (listed_at (need_tokens names) false (n ∷ ns) (need_at names) (t.Word word.With) (far_ready (t.Word word.With)))

result_safe : (names : Spellings) (result : Option Ty) → Safe (result_tokens names result)
result_safe names None = far_token (t.Word word.Void) [] tt
result_safe names (Some y) = λ j. type_at names false y j (far_ready j)

head_parts : (names : Spellings) (m : Definition) → ArePart (head_tokens names m)
head_parts names m =
    let k : TokenKind = t.Word word.Method in
    let named : List Printed = far (name_kind names m.name.name) ∷ groups_tokens names m.groups in
    let params : List Printed = near (t.Sign sign.OpenParen) ∷ params_tokens names m.me m.params in
    let needs : List Printed = near (t.Sign sign.CloseParen) ∷ needs_tokens names m.needs in
    joined k (result_tokens names m.result ++ named ++ params ++ needs) open_brace
    (joined k (result_tokens names m.result ++ named ++ params) needs
    (joined k (result_tokens names m.result ++ named) params
    (joined k (result_tokens names m.result) named (result_safe names m.result k)
    (far_token (name_kind names m.name.name) (groups_tokens names m.groups)
    (groups_safe names m.groups (name_kind names m.name.name))))
    (near_sign sign.OpenParen (params_tokens names m.me m.params) refl
    (params_at names m.me m.params (t.Sign sign.OpenParen) (λ e. refl))))
    (near_sign sign.CloseParen (needs_tokens names m.needs) refl (needs_safe names m.needs (t.Sign sign.CloseParen))))
    brace_safe

field_parts : (names : Spellings) (f : Field) → ArePart (field_tokens names f)
field_parts names f =
    line_from (field_tokens names f)
    (at_joined true (type_tokens names true f.ty) (far (name_kind names f.name.name) ∷ semicolon)
    (type_at names true f.ty)
    (far_token (name_kind names f.name.name) semicolon (semicolon_safe (name_kind names f.name.name))))

class_parts : (names : Spellings) (c : Class) → ArePart (class_tokens names c)
class_parts names c =
    joined (t.Word word.Class) (far (name_kind names c.name.name) ∷ groups_tokens names c.groups) open_brace
    (far_token (name_kind names c.name.name) (groups_tokens names c.groups)
    (groups_safe names c.groups (name_kind names c.name.name)) (t.Word word.Class))
    brace_safe

-- ---- lines

spaces_more : (s : Text) → Each is_space s → Each is_space (indented_more s)
spaces_more [] e = (refl, (refl, (refl, (refl, tt))))
spaces_more (c ∷ s) e = (e.0, spaces_more s e.1)

abbrev Laid : List Row → Type 0
Laid = Every IsLaid

laid-append : (xs ys : List Row) → Laid xs → Laid ys → Laid (xs ++ ys)
laid-append [] ys m n = n
laid-append (x ∷ xs) ys m n = (m.0, laid-append xs ys m.1 n)

close_laid : (indent : Text) → Each is_space indent → Laid (close_row indent ∷ [])
close_laid indent e = ((e, tt), tt)

else_laid : (indent : Text) → Each is_space indent → IsLaid (else_row indent)
else_laid indent e = (e, (λ c. not_close c, (λ c. not_close c, tt)))

mutual
  block_laid : (names : Spellings) (indent : Text) (a : Action) → Each is_space indent
      → Laid (block_rows names indent a)
  block_laid names indent (Chooses e n b) s = laid-append (rows names (indented_more indent) b)
      (close_row indent ∷ []) (rows_laid names (indented_more indent) b (spaces_more indent s)) (close_laid indent s)
  block_laid names indent (ChoosesElse e n b m c) s =
      laid-append (rows names (indented_more indent) b ++ else_row indent ∷ rows names (indented_more indent) c)
      (close_row indent ∷ [])
      (laid-append (rows names (indented_more indent) b) (else_row indent ∷ rows names (indented_more indent) c)
      (rows_laid names (indented_more indent) b (spaces_more indent s))
      (else_laid indent s, rows_laid names (indented_more indent) c (spaces_more indent s)))
      (close_laid indent s)
  block_laid names indent (Repeats e n b) s = laid-append (rows names (indented_more indent) b)
      (close_row indent ∷ []) (rows_laid names (indented_more indent) b (spaces_more indent s)) (close_laid indent s)
  block_laid names indent (Splits gs n b) s = laid-append (rows names (indented_more indent) b)
      (close_row indent ∷ []) (rows_laid names (indented_more indent) b (spaces_more indent s)) (close_laid indent s)
  block_laid names indent (Locks g n b) s = laid-append (rows names (indented_more indent) b) (close_row indent ∷ [])
      (rows_laid names (indented_more indent) b (spaces_more indent s)) (close_laid indent s)
  block_laid names indent (Declares y x r) s = tt
  block_laid names indent (Assigns x r) s = tt
  block_laid names indent (Stores p e) s = tt
  block_laid names indent (StoresAt p i e) s = tt
  block_laid names indent (Calls c) s = tt
  block_laid names indent (Groups g) s = tt
  block_laid names indent (Freezes x) s = tt
  block_laid names indent (Shares x g) s = tt
  block_laid names indent (Prints e) s = tt
  block_laid names indent (PrintsText x) s = tt
  block_laid names indent (Asserts e) s = tt
  block_laid names indent (Returns e) s = tt

  rows_laid : (names : Spellings) (indent : Text) (ls : Lines) → Each is_space indent → Laid (rows names indent ls)
  rows_laid names indent End s = tt
  rows_laid names indent (Next at a rest) s = (
    (s, line_parts names a),
    laid-append (block_rows names indent a) (rows names indent rest)
        (block_laid names indent a s) (rows_laid names indent rest s),
  )

method_laid : (names : Spellings) (indent : Text) (m : Definition) → Each is_space indent
    → Laid (method_rows names indent m)
method_laid names indent m s = (
  (s, head_parts names m),
  laid-append (rows names (indented_more indent) m.body) (close_row indent ∷ [])
      (rows_laid names (indented_more indent) m.body (spaces_more indent s)) (close_laid indent s),
)

found_method_laid : (names : Spellings) (indent : Text) (m : Option Definition) → Each is_space indent
    → Laid (found_method_rows names indent m)
found_method_laid names indent None s = tt
found_method_laid names indent (Some m) s = method_laid names indent m s

methods_laid : (names : Spellings) (indent : Text) (methods : List Definition) (ns : List ℕ) → Each is_space indent
    → Laid (methods_rows names indent methods ns)
methods_laid names indent methods [] s = tt
methods_laid names indent methods (n ∷ ns) s =
    laid-append (found_method_rows names indent (slice_get methods n)) (methods_rows names indent methods ns)
    (found_method_laid names indent (slice_get methods n) s) (methods_laid names indent methods ns s)

fields_laid : (names : Spellings) (indent : Text) (fs : List Field) → Each is_space indent
    → Laid (fields_rows names indent fs)
fields_laid names indent [] s = tt
fields_laid names indent (f ∷ fs) s = ((s, field_parts names f), fields_laid names indent fs s)

class_laid : (names : Spellings) (methods : List Definition) (c : Class) → Laid (class_rows names methods c)
class_laid names methods c =
    let four : Each is_space (indented_more []) = spaces_more [] tt in (
      (tt, class_parts names c),
      laid-append (fields_rows names (indented_more []) c.fields
          ++ methods_rows names (indented_more []) methods c.methods) (close_row [] ∷ [])
          (laid-append (fields_rows names (indented_more []) c.fields)
          (methods_rows names (indented_more []) methods c.methods)
          (fields_laid names (indented_more []) c.fields four)
          (methods_laid names (indented_more []) methods c.methods four))
          (close_laid [] tt),
    )

found_class_laid : (names : Spellings) (methods : List Definition) (c : Option Class)
    → Laid (found_class_rows names methods c)
found_class_laid names methods None = tt
found_class_laid names methods (Some c) = class_laid names methods c

-- ---- programs

decl_laid : (p : Code) (d : Decl) → Laid (decl_rows p d)
decl_laid p (decl.Class n) = found_class_laid p.names p.methods (slice_get p.classes n)
decl_laid p (decl.Method n) = found_method_laid p.names [] (slice_get p.methods n) tt

decls_laid : (p : Code) (ds : List Decl) → Laid (decls_rows p ds)
decls_laid p [] = tt
decls_laid p (d ∷ ds) = laid-append (decl_rows p d) (decls_rows p ds) (decl_laid p d) (decls_laid p ds)

-- the lines of a program that can be written are cut into their tokens
pub program_spelled : (p : Code) → Spellable p → AreSpelled (program_rows p)
program_spelled p s = record { can = s; laid = decls_laid p p.decls }
