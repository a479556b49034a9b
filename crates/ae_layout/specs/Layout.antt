-- The canonical layout: the lines of a program, each with its indentation and its tokens.
use Rattle.std.specs.Prelude.{ℕ, Bool, true, false, if◌then◌else◌, ◌==◌, List, [], ◌∷◌, ◌++◌, Option, None, Some}
use Rattle.std.specs.Prelude.{codes, slice_get}
use Rattle.ae_text.specs.declared.token.Keyword.{Keyword}
use Rattle.ae_text.specs.declared.token.Keyword.TheVariants as word
use Rattle.ae_text.specs.declared.token.Sign.TheVariants as sign
use Rattle.ae_text.specs.declared.token.TokenKind.{TokenKind}
use Rattle.ae_text.specs.declared.token.TokenKind.TheVariants as t
use Rattle.ae_text.specs.declared.refusal.Spot.{Spot}
use Rattle.ae_text.specs.Tokens.{Text}
use Rattle.ae_tree.specs.declared.tree.NameAt.{NameAt}
use Rattle.ae_tree.specs.declared.tree.PermAt.{PermAt}
use Rattle.ae_tree.specs.declared.tree.PermAt.TheVariants as perm
use Rattle.ae_tree.specs.declared.tree.KindAt.{KindAt}
use Rattle.ae_tree.specs.declared.tree.KindAt.TheVariants as kind
use Rattle.ae_tree.specs.declared.tree.Ty.{Ty}
use Rattle.ae_tree.specs.declared.tree.Ty.TheVariants as ty
use Rattle.ae_tree.specs.declared.tree.Path.{Path}
use Rattle.ae_tree.specs.declared.tree.Param.{Param}
use Rattle.ae_tree.specs.declared.tree.Me.{Me}
use Rattle.ae_tree.specs.declared.tree.Need.{Need}
use Rattle.ae_tree.specs.declared.tree.Need.TheVariants as need
use Rattle.ae_tree.specs.declared.tree.GroupNeed.{GroupNeed}
use Rattle.ae_tree.specs.declared.tree.Field.{Field}
use Rattle.ae_tree.specs.declared.tree.Class.{Class}
use Rattle.ae_tree.specs.declared.tree.Decl.{Decl}
use Rattle.ae_tree.specs.declared.tree.Decl.TheVariants as decl
use Rattle.ae_tree.specs.Plain.{Expression, Number, Truth, Nothing, Read, Item, Length, Grouped, Negated, Minus}
use Rattle.ae_tree.specs.Plain.{Binary, Invocation, RightSide, Value, Taken, Zeros, Made, Returned, Lines, End, Next}
use Rattle.ae_tree.specs.Plain.{Definition, Code}
use Rattle.ae_tree.specs.Plain.{Action, Declares, Assigns, Stores, StoresAt, Calls, Chooses, ChoosesElse, Repeats}
use Rattle.ae_tree.specs.Plain.{Groups, Splits, Locks, Freezes, Shares, Prints, PrintsText, Asserts, Returns}
use Rattle.ae_tree.specs.Grammar.{sign_of, need_word, truth_word}
use Rattle.ae_layout.specs.Spelling.{name_text, Printed, tokens_text}
use Rattle.ae_tree.specs.Names.{this}

-- ---- tokens, and lists of them

-- a token that is close to the one before it, or not
abbrev pub token : Bool → TokenKind → Printed
token close k = record { close = close; kind = k }

-- a token right behind the one before it, or at the beginning of a line
abbrev pub near : TokenKind → Printed
near k = token true k

-- a token with a space before it
abbrev pub far : TokenKind → Printed
far k = token false k

-- the spellings of a program's names
abbrev pub Spellings : Type 0
Spellings = List Text

abbrev pub name_kind : Spellings → ℕ → TokenKind
name_kind names n = t.Name (name_text names n)

abbrev pub name_tokens : Spellings → Bool → NameAt → List Printed
name_tokens names close x = token close (name_kind names x.name) ∷ []

-- each behind a comma
abbrev pub after_commas : {A : Type 0} → (A → List Printed) → List A → List Printed
after_commas f [] = []
after_commas f (x ∷ xs) = near (t.Sign sign.Comma) ∷ f x ++ after_commas f xs

-- commas between them; the first is close to what stands before it, or not
abbrev pub with_commas : {A : Type 0} → (Bool → A → List Printed) → Bool → List A → List Printed
with_commas f close [] = []
with_commas f close (x ∷ xs) = f close x ++ after_commas (f false) xs

-- group names between < and >, if there are any
abbrev pub groups_tokens : Spellings → List NameAt → List Printed
groups_tokens names [] = []
groups_tokens names (x ∷ xs) = near (t.Sign sign.Less) ∷ with_commas (name_tokens names) true (x ∷ xs)
    ++ near (t.Sign sign.Greater) ∷ []

-- ---- paths and types

-- the root of a path: a local, or the receiver
abbrev pub root_kind : Spellings → ℕ → TokenKind
root_kind names n = if n == this then t.Word word.This else name_kind names n

abbrev pub steps_tokens : Spellings → List NameAt → List Printed
steps_tokens names [] = []
steps_tokens names (x ∷ xs) = near (t.Sign sign.Dot) ∷ near (name_kind names x.name) ∷ steps_tokens names xs

abbrev pub path_tokens : Spellings → Bool → Path → List Printed
path_tokens names close p = token close (root_kind names p.root.name) ∷ steps_tokens names p.steps

abbrev pub perm_tokens : Spellings → Bool → PermAt → List Printed
perm_tokens names close (perm.Unique at) = token close (t.Word word.Unique) ∷ []
perm_tokens names close (perm.Immutable at) = token close (t.Word word.Immutable) ∷ []
perm_tokens names close (perm.Lent at) = token close (t.Word word.Lent) ∷ []
perm_tokens names close (perm.Shared at g) = token close (t.Word word.Shared) ∷ near (t.Sign sign.Less)
    ∷ near (name_kind names g.name) ∷ near (t.Sign sign.Greater) ∷ []

abbrev pub kind_tokens : Spellings → KindAt → List Printed
kind_tokens names (kind.Ints at) = far (t.Word word.Ints) ∷ []
kind_tokens names (kind.Class x groups) = far (name_kind names x.name) ∷ groups_tokens names groups

abbrev pub type_tokens : Spellings → Bool → Ty → List Printed
type_tokens names close (ty.Int at) = token close (t.Word word.Int) ∷ []
type_tokens names close (ty.Bool at) = token close (t.Word word.Bool) ∷ []
type_tokens names close (ty.Object p k) = perm_tokens names close p ++ kind_tokens names k

-- ---- expressions

-- nothing stands between a prefix or an opening bracket and what follows it
abbrev pub expression_tokens : Spellings → Bool → Expression → List Printed
expression_tokens names close (Number n at) = token close (t.Int n) ∷ []
expression_tokens names close (Truth b at) = token close (t.Word (truth_word b)) ∷ []
expression_tokens names close (Nothing at) = token close (t.Word word.Null) ∷ []
expression_tokens names close (Read p) = path_tokens names close p
expression_tokens names close (Item p e) = path_tokens names close p ++ near (t.Sign sign.OpenBracket)
    ∷ expression_tokens names true e ++ near (t.Sign sign.CloseBracket) ∷ []
expression_tokens names close (Length p at) = token close (t.Word word.Len) ∷ path_tokens names false p
expression_tokens names close (Grouped e at) = token close (t.Sign sign.OpenParen) ∷ expression_tokens names true e
    ++ near (t.Sign sign.CloseParen) ∷ []
expression_tokens names close (Negated e at) = token close (t.Sign sign.Not) ∷ expression_tokens names true e
expression_tokens names close (Minus e at) = token close (t.Sign sign.Minus) ∷ expression_tokens names true e
expression_tokens names close (Binary o a b) = expression_tokens names close a ++ far (t.Sign (sign_of o))
    ∷ expression_tokens names false b

-- arguments in parentheses, close to what is called
abbrev pub arguments_tokens : Spellings → List Expression → List Printed
arguments_tokens names args = near (t.Sign sign.OpenParen) ∷ with_commas (expression_tokens names) true args
    ++ near (t.Sign sign.CloseParen) ∷ []

-- the method of a call, behind its receiver
abbrev pub method_tokens : Spellings → Bool → Option Path → NameAt → List Printed
method_tokens names close None x = token close (name_kind names x.name) ∷ []
method_tokens names close (Some p) x = path_tokens names close p ++ near (t.Sign sign.Dot)
    ∷ near (name_kind names x.name) ∷ []

abbrev pub call_tokens : Spellings → Bool → Invocation → List Printed
call_tokens names close c = method_tokens names close c.on c.method ++ groups_tokens names c.groups
    ++ arguments_tokens names c.args

-- what stands right of a =
abbrev pub right_tokens : Spellings → RightSide → List Printed
right_tokens names (Value e) = expression_tokens names false e
right_tokens names (Taken p at) = far (t.Word word.Take) ∷ path_tokens names false p
right_tokens names (Zeros e at) = far (t.Word word.New) ∷ far (t.Word word.Ints) ∷ near (t.Sign sign.OpenParen)
    ∷ expression_tokens names true e ++ near (t.Sign sign.CloseParen) ∷ []
right_tokens names (Made c groups args at) = far (t.Word word.New) ∷ far (name_kind names c.name)
    ∷ groups_tokens names groups ++ arguments_tokens names args
right_tokens names (Returned c) = call_tokens names false c

-- ---- statements

abbrev pub semicolon : List Printed
semicolon = near (t.Sign sign.Semicolon) ∷ []

abbrev pub open_brace : List Printed
open_brace = far (t.Sign sign.OpenBrace) ∷ []

-- an equals sign, and an expression up to the end of the statement
abbrev pub equals_value : Spellings → Expression → List Printed
equals_value names e = far (t.Sign sign.Assign) ∷ expression_tokens names false e ++ semicolon

-- the line that a statement begins with: the whole of it, or all up to its first {
abbrev pub first_line : Spellings → Action → List Printed
first_line names (Declares y x r) = near (t.Word word.Let) ∷ type_tokens names false y ++ far (name_kind names x.name)
    ∷ far (t.Sign sign.Assign) ∷ right_tokens names r ++ semicolon
first_line names (Assigns x r) = near (name_kind names x.name) ∷ far (t.Sign sign.Assign) ∷ right_tokens names r
    ++ semicolon
first_line names (Stores p e) = path_tokens names true p ++ equals_value names e
first_line names (StoresAt p i e) = path_tokens names true p ++ near (t.Sign sign.OpenBracket)
    ∷ expression_tokens names true i ++ near (t.Sign sign.CloseBracket) ∷ equals_value names e
first_line names (Calls c) = call_tokens names true c ++ semicolon
first_line names (Chooses e n b) = near (t.Word word.If) ∷ expression_tokens names false e ++ open_brace
first_line names (ChoosesElse e n b m c) = near (t.Word word.If) ∷ expression_tokens names false e ++ open_brace
first_line names (Repeats e n b) = near (t.Word word.While) ∷ expression_tokens names false e ++ open_brace
first_line names (Groups g) = near (t.Word word.Group) ∷ far (name_kind names g.name) ∷ semicolon
first_line names (Splits gs n b) = near (t.Word word.Split) ∷ with_commas (name_tokens names) false gs ++ open_brace
first_line names (Locks g n b) = near (t.Word word.Atomic) ∷ far (name_kind names g.name) ∷ open_brace
first_line names (Freezes x) = near (t.Word word.Freeze) ∷ far (name_kind names x.name) ∷ semicolon
first_line names (Shares x g) = near (t.Word word.Share) ∷ far (name_kind names x.name) ∷ far (t.Word word.Into)
    ∷ far (name_kind names g.name) ∷ semicolon
first_line names (Prints e) = near (t.Word word.Print) ∷ expression_tokens names false e ++ semicolon
first_line names (PrintsText s) = near (t.Word word.Print) ∷ far (t.Text s) ∷ semicolon
first_line names (Asserts e) = near (t.Word word.Assert) ∷ expression_tokens names false e ++ semicolon
first_line names (Returns e) = near (t.Word word.Return) ∷ expression_tokens names false e ++ semicolon

-- a line: the spaces before it, and its tokens
pub record Row : Type 0 where
  pub indent : Text
  pub tokens : List Printed

abbrev pub row : Text → List Printed → Row
row indent tokens = record { indent = indent; tokens = tokens }

-- four spaces for each open brace
abbrev pub indented_more : Text → Text
indented_more indent = indent ++ codes "    "

abbrev pub close_row : Text → Row
close_row indent = row indent (near (t.Sign sign.CloseBrace) ∷ [])

abbrev pub else_row : Text → Row
else_row indent = row indent (near (t.Sign sign.CloseBrace) ∷ far (t.Word word.Else) ∷ open_brace)

abbrev mutual
  -- the lines of a statement behind its first: its blocks, each up to its }
  pub block_rows : Spellings → Text → Action → List Row
  block_rows names indent (Chooses e n b) = rows names (indented_more indent) b ++ close_row indent ∷ []
  block_rows names indent (ChoosesElse e n b m c) = rows names (indented_more indent) b ++ else_row indent
      ∷ rows names (indented_more indent) c ++ close_row indent ∷ []
  block_rows names indent (Repeats e n b) = rows names (indented_more indent) b ++ close_row indent ∷ []
  block_rows names indent (Splits gs n b) = rows names (indented_more indent) b ++ close_row indent ∷ []
  block_rows names indent (Locks g n b) = rows names (indented_more indent) b ++ close_row indent ∷ []
  block_rows names indent _ = []

  -- the lines of statements
  pub rows : Spellings → Text → Lines → List Row
  rows names indent End = []
  rows names indent (Next at a rest) = row indent (first_line names a) ∷ block_rows names indent a
      ++ rows names indent rest

-- ---- methods and classes

-- `>> none`, where the caller gets nothing back
abbrev pub away_tokens : Option Spot → List Printed
away_tokens None = []
away_tokens (Some at) = far (t.Sign sign.Away) ∷ far (t.Word word.None) ∷ []

abbrev pub param_tokens : Spellings → Bool → Param → List Printed
param_tokens names close p = type_tokens names close p.ty ++ far (name_kind names p.name.name) ∷ away_tokens p.away

abbrev pub me_tokens : Spellings → Me → List Printed
me_tokens names m = perm_tokens names true m.perm ++ far (t.Word word.This) ∷ away_tokens m.away

-- the receiver and the parameters, between the parentheses
abbrev pub params_tokens : Spellings → Option Me → List Param → List Printed
params_tokens names None ps = with_commas (param_tokens names) true ps
params_tokens names (Some m) ps = me_tokens names m ++ after_commas (param_tokens names false) ps

abbrev pub need_tokens : Spellings → Bool → GroupNeed → List Printed
need_tokens names close n = token close (t.Word (need_word n.need)) ∷ far (name_kind names n.group.name) ∷ []

abbrev pub needs_tokens : Spellings → List GroupNeed → List Printed
needs_tokens names [] = []
needs_tokens names (n ∷ ns) = far (t.Word word.With) ∷ with_commas (need_tokens names) false (n ∷ ns)

-- a result, or `void`
abbrev pub result_tokens : Spellings → Option Ty → List Printed
result_tokens names None = far (t.Word word.Void) ∷ []
result_tokens names (Some y) = type_tokens names false y

-- a method up to its {
abbrev pub head_tokens : Spellings → Definition → List Printed
head_tokens names m = near (t.Word word.Method) ∷ result_tokens names m.result ++ far (name_kind names m.name.name)
    ∷ groups_tokens names m.groups ++ near (t.Sign sign.OpenParen) ∷ params_tokens names m.me m.params
    ++ near (t.Sign sign.CloseParen) ∷ needs_tokens names m.needs ++ open_brace

abbrev pub method_rows : Spellings → Text → Definition → List Row
method_rows names indent m = row indent (head_tokens names m) ∷ rows names (indented_more indent) m.body
    ++ close_row indent ∷ []

-- the method with a number, if there is one
abbrev pub found_method_rows : Spellings → Text → Option Definition → List Row
found_method_rows names indent None = []
found_method_rows names indent (Some m) = method_rows names indent m

abbrev pub methods_rows : Spellings → Text → List Definition → List ℕ → List Row
methods_rows names indent methods [] = []
methods_rows names indent methods (n ∷ ns) = found_method_rows names indent (slice_get methods n)
    ++ methods_rows names indent methods ns

abbrev pub field_tokens : Spellings → Field → List Printed
field_tokens names f = type_tokens names true f.ty ++ far (name_kind names f.name.name) ∷ semicolon

abbrev pub fields_rows : Spellings → Text → List Field → List Row
fields_rows names indent [] = []
fields_rows names indent (f ∷ fs) = row indent (field_tokens names f) ∷ fields_rows names indent fs

abbrev pub class_tokens : Spellings → Class → List Printed
class_tokens names c = near (t.Word word.Class) ∷ far (name_kind names c.name.name) ∷ groups_tokens names c.groups
    ++ open_brace

-- a class: its fields, and then its methods
abbrev pub class_rows : Spellings → List Definition → Class → List Row
class_rows names methods c = row [] (class_tokens names c) ∷ fields_rows names (indented_more []) c.fields
    ++ methods_rows names (indented_more []) methods c.methods ++ close_row [] ∷ []

abbrev pub found_class_rows : Spellings → List Definition → Option Class → List Row
found_class_rows names methods None = []
found_class_rows names methods (Some c) = class_rows names methods c

-- ---- programs

abbrev pub decl_rows : Code → Decl → List Row
decl_rows p (decl.Class n) = found_class_rows p.names p.methods (slice_get p.classes n)
decl_rows p (decl.Method n) = found_method_rows p.names [] (slice_get p.methods n)

abbrev pub decls_rows : Code → List Decl → List Row
decls_rows p [] = []
decls_rows p (d ∷ ds) = decl_rows p d ++ decls_rows p ds

-- the lines of a program
abbrev pub program_rows : Code → List Row
program_rows p = decls_rows p p.decls

-- each line ends with a line feed
abbrev pub row_text : Row → Text
row_text r = r.indent ++ tokens_text r.tokens ++ 10 ∷ []

abbrev pub rows_text : List Row → Text
rows_text [] = []
rows_text (r ∷ rs) = row_text r ++ rows_text rs

-- the text of a program
unfoldable pub layout : Code → Text
layout p = rows_text (program_rows p)
