-- The grammar: which tokens a program stands for, one case for each production.
use Rattle.std.specs.Prelude.{◌≡◌, ◌≢◌, ◌≤◌, ◌⊎◌, ℕ, zero, suc, ◌+◌, Bool, true, false, ◌++◌, List, [], ◌∷◌, length}
use Rattle.std.specs.Prelude.{Option, None, Some}
use Rattle.ae_text.specs.declared.refusal.Spot.{Spot}
use Rattle.ae_text.specs.declared.token.Keyword.{Keyword}
use Rattle.ae_text.specs.declared.token.Keyword.TheVariants as word
use Rattle.ae_text.specs.declared.token.Sign.{Sign}
use Rattle.ae_text.specs.declared.token.Sign.TheVariants as sign
use Rattle.ae_text.specs.declared.token.Token.{Token}
use Rattle.ae_tree.specs.declared.lexeme.Lexical.{Lexical}
use Rattle.ae_tree.specs.declared.lexeme.Lexical.TheVariants as tok
use Rattle.ae_tree.specs.declared.lexeme.Lexeme.{Lexeme}
use Rattle.ae_tree.specs.declared.tree.NameAt.{NameAt}
use Rattle.ae_tree.specs.declared.tree.PermAt.{PermAt}
use Rattle.ae_tree.specs.declared.tree.PermAt.TheVariants as perm_at
use Rattle.ae_tree.specs.declared.tree.KindAt.{KindAt}
use Rattle.ae_tree.specs.declared.tree.KindAt.TheVariants as kind_at
use Rattle.ae_tree.specs.declared.tree.Path.{Path}
use Rattle.ae_tree.specs.declared.tree.Op.{Op}
use Rattle.ae_tree.specs.declared.tree.Op.TheVariants as op
use Rattle.ae_tree.specs.declared.tree.Ty.{Ty}
use Rattle.ae_tree.specs.declared.tree.Ty.TheVariants as ty
use Rattle.ae_tree.specs.declared.tree.Me.{Me}
use Rattle.ae_tree.specs.declared.tree.Param.{Param}
use Rattle.ae_tree.specs.declared.tree.Field.{Field}
use Rattle.ae_tree.specs.declared.tree.Class.{Class}
use Rattle.ae_tree.specs.declared.tree.Need.{Need}
use Rattle.ae_tree.specs.declared.tree.Need.TheVariants as need_of
use Rattle.ae_tree.specs.declared.tree.GroupNeed.{GroupNeed}
use Rattle.ae_tree.specs.declared.tree.Decl.{Decl}
use Rattle.ae_tree.specs.declared.tree.Decl.TheVariants as decl
use Rattle.ae_tree.specs.Plain.{Expression, Number, Truth, Nothing, Read, Item, Length, Grouped, Negated, Minus}
use Rattle.ae_tree.specs.Plain.{Binary, Invocation, RightSide, Value, Taken, Zeros, Made, Returned, Lines, End, Next}
use Rattle.ae_tree.specs.Plain.{Definition, Code}
use Rattle.ae_tree.specs.Plain.{Action, Declares, Assigns, Stores, StoresAt, Calls, Chooses, ChoosesElse, Repeats}
use Rattle.ae_tree.specs.Plain.{Groups, Splits, Locks, Freezes, Shares, Prints, PrintsText, Asserts, Returns}
use Rattle.ae_tree.specs.Names.{this, names_of, numbered}

abbrev pub Tokens : Type 0
Tokens = List Lexeme

-- ---- sequences of tokens

-- first the one, then the other
pub record Then (p q : Tokens → Type 0) (ts : Tokens) : Type 0 where
  pub front : Tokens
  pub back : Tokens
  pub parts : ts ≡ front ++ back
  pub first : p front
  pub second : q back

infixr 10 ◌⨾◌
abbrev pub ◌⨾◌ : (Tokens → Type 0) → (Tokens → Type 0) → Tokens → Type 0
p ⨾ q = Then p q

-- one token, at this place
abbrev pub one_at : Lexical → Spot → Tokens → Type 0
one_at k at ts = ts ≡ record { kind = k; at = at } ∷ []

-- one token, at a place that the program does not keep
abbrev pub one_token : Lexical → Tokens → Type 0
one_token k ts = (at : Spot) × one_at k at ts

abbrev pub a_word : Keyword → Tokens → Type 0
a_word w = one_token (tok.Word w)

abbrev pub a_sign : Sign → Tokens → Type 0
a_sign g = one_token (tok.Sign g)

-- no token
abbrev pub no_tokens : Tokens → Type 0
no_tokens ts = ts ≡ []

abbrev pub never : Tokens → Type 0
never ts = ⊥

-- one after another
abbrev pub one_by_one : {A : Type 0} → (A → Tokens → Type 0) → List A → Tokens → Type 0
one_by_one D [] = no_tokens
one_by_one D (x ∷ xs) = D x ⨾ one_by_one D xs

-- one with a comma before it
abbrev pub further : {A : Type 0} → (A → Tokens → Type 0) → A → Tokens → Type 0
further D x = a_sign sign.Comma ⨾ D x

-- at least one, with commas between them
abbrev pub separated : {A : Type 0} → (A → Tokens → Type 0) → List A → Tokens → Type 0
separated D [] = never
separated D (x ∷ xs) = D x ⨾ one_by_one (further D) xs

-- none, or some with commas between them
abbrev pub comma_list : {A : Type 0} → (A → Tokens → Type 0) → List A → Tokens → Type 0
comma_list D [] = no_tokens
comma_list D (x ∷ xs) = separated D (x ∷ xs)

-- ---- names, paths and types

abbrev pub name : NameAt → Tokens → Type 0
name x = one_at (tok.Name x.name) x.at

-- NAME | "this"
abbrev pub root : NameAt → Tokens → Type 0
root x ts = name x ts ⊎ ((x.name ≡ this) × one_at (tok.Word word.This) x.at ts)

abbrev pub path_step : NameAt → Tokens → Type 0
path_step x = a_sign sign.Dot ⨾ name x

-- path = ( NAME | "this" ) { "." NAME }
abbrev pub path : Path → Tokens → Type 0
path p = root p.root ⨾ one_by_one path_step p.steps

-- gnames = "<" NAME { "," NAME } ">", or no groups
abbrev pub groups : List NameAt → Tokens → Type 0
groups [] = no_tokens
groups (g ∷ gs) = a_sign sign.Less ⨾ separated name (g ∷ gs) ⨾ a_sign sign.Greater

-- perm = "unique" | "immutable" | "lent" | "shared" "<" NAME ">"
abbrev pub permission : PermAt → Tokens → Type 0
permission (perm_at.Unique at) = one_at (tok.Word word.Unique) at
permission (perm_at.Immutable at) = one_at (tok.Word word.Immutable) at
permission (perm_at.Lent at) = one_at (tok.Word word.Lent) at
permission (perm_at.Shared at g) = one_at (tok.Word word.Shared) at ⨾ a_sign sign.Less ⨾ name g ⨾ a_sign sign.Greater

-- "Ints" | NAME [gnames]
abbrev pub kind : KindAt → Tokens → Type 0
kind (kind_at.Ints at) = one_at (tok.Word word.Ints) at
kind (kind_at.Class c gs) = name c ⨾ groups gs

-- type = "int" | "bool" | perm ( "Ints" | NAME [gnames] )
abbrev pub type_ : Ty → Tokens → Type 0
type_ (ty.Int at) = one_at (tok.Word word.Int) at
type_ (ty.Bool at) = one_at (tok.Word word.Bool) at
type_ (ty.Object p k) = permission p ⨾ kind k

-- ---- expressions

-- or is level 0, and 1, comparison 2, sum 3, product 4; at level 5 stand the operands
abbrev pub level : Op → ℕ
level op.Or = 0
level op.And = 1
level op.Eq = 2
level op.Ne = 2
level op.Lt = 2
level op.Le = 2
level op.Gt = 2
level op.Ge = 2
level op.Add = 3
level op.Sub = 3
level op.Mul = 4
level op.Div = 4
level op.Rem = 4

-- the level of the left operand: chains group to the left, and comparisons do not chain
abbrev pub left_level : Op → ℕ
left_level op.Or = 0
left_level op.And = 1
left_level op.Eq = 3
left_level op.Ne = 3
left_level op.Lt = 3
left_level op.Le = 3
left_level op.Gt = 3
left_level op.Ge = 3
left_level op.Add = 3
left_level op.Sub = 3
left_level op.Mul = 4
left_level op.Div = 4
left_level op.Rem = 4

abbrev pub sign_of : Op → Sign
sign_of op.Or = sign.OrOr
sign_of op.And = sign.AndAnd
sign_of op.Eq = sign.Equal
sign_of op.Ne = sign.NotEqual
sign_of op.Lt = sign.Less
sign_of op.Le = sign.LessEqual
sign_of op.Gt = sign.Greater
sign_of op.Ge = sign.GreaterEqual
sign_of op.Add = sign.Plus
sign_of op.Sub = sign.Minus
sign_of op.Mul = sign.Star
sign_of op.Div = sign.Slash
sign_of op.Rem = sign.Percent

abbrev pub truth_word : Bool → Keyword
truth_word true = word.True
truth_word false = word.False

-- and = cmp { "&&" cmp }, and so for each level;
-- unary = ( "!" | "-" ) unary | prim
-- prim = INT | "true" | "false" | "null" | "len" path | path [ "[" expr "]" ] | "(" expr ")"
abbrev pub expression_at : Expression → ℕ → Tokens → Type 0
expression_at (Number n at) l = one_at (tok.Int n) at
expression_at (Truth b at) l = one_at (tok.Word (truth_word b)) at
expression_at (Nothing at) l = one_at (tok.Word word.Null) at
expression_at (Read p) l = path p
expression_at (Item p e) l = path p ⨾ a_sign sign.OpenBracket ⨾ expression_at e 0 ⨾ a_sign sign.CloseBracket
expression_at (Length p at) l = one_at (tok.Word word.Len) at ⨾ path p
expression_at (Grouped e at) l = one_at (tok.Sign sign.OpenParen) at ⨾ expression_at e 0 ⨾ a_sign sign.CloseParen
expression_at (Negated e at) l = one_at (tok.Sign sign.Not) at ⨾ expression_at e 5
expression_at (Minus e at) l = one_at (tok.Sign sign.Minus) at ⨾ expression_at e 5
expression_at (Binary o a b) l = λ ts. (l ≤ level o)
    × (expression_at a (left_level o) ⨾ a_sign (sign_of o) ⨾ expression_at b (level o + 1)) ts

-- a whole expression
abbrev pub whole_expression : Expression → Tokens → Type 0
whole_expression e = expression_at e 0

-- ---- calls and right sides

abbrev pub arguments : List Expression → Tokens → Type 0
arguments es = a_sign sign.OpenParen ⨾ comma_list whole_expression es ⨾ a_sign sign.CloseParen

-- [ path "." ]
abbrev pub receiver : Option Path → Tokens → Type 0
receiver None = no_tokens
receiver (Some p) = path p ⨾ a_sign sign.Dot

abbrev pub spot_or : Spot → Option Path → Spot
spot_or at None = at
spot_or at (Some p) = p.root.at

-- call = [ path "." ] NAME [gnames] "(" [ expr { "," expr } ] ")"
abbrev pub call_written : Invocation → Tokens → Type 0
call_written c = receiver c.on ⨾ name c.method ⨾ groups c.groups ⨾ arguments c.args

-- rhs = expr | "take" path "." NAME | "new" "Ints" "(" expr ")" | "new" NAME [gnames] "(" [ expr { "," expr } ] ")" | call
-- The field that is taken is the last step of the path.
abbrev pub right_of_equals : RightSide → Tokens → Type 0
right_of_equals (Value e) = whole_expression e
right_of_equals (Taken p at) = λ ts. (p.steps ≢ []) × (one_at (tok.Word word.Take) at ⨾ path p) ts
right_of_equals (Zeros e at) = one_at (tok.Word word.New) at ⨾ a_word word.Ints ⨾ a_sign sign.OpenParen
    ⨾ whole_expression e ⨾ a_sign sign.CloseParen
right_of_equals (Made c gs es at) = one_at (tok.Word word.New) at ⨾ name c ⨾ groups gs ⨾ arguments es
right_of_equals (Returned c) = call_written c

-- ---- statements

abbrev mutual
  -- how many blocks a statement opens
  pub blocks_opened : Action → ℕ
  blocks_opened (Chooses e n b) = 1 + opened_in b
  blocks_opened (ChoosesElse e n b m c) = 1 + opened_in b + 1 + opened_in c
  blocks_opened (Repeats e n b) = 1 + opened_in b
  blocks_opened (Splits gs n b) = 1 + opened_in b
  blocks_opened (Locks g n b) = 1 + opened_in b
  blocks_opened _ = 0

  pub opened_in : Lines → ℕ
  opened_in End = 0
  opened_in (Next at a rest) = blocks_opened a + opened_in rest

-- the place of a call's first token
abbrev pub call_spot : Invocation → Spot
call_spot c = spot_or c.method.at c.on

-- block = "{" { stmt } "}"
abbrev pub in_braces : (Tokens → Type 0) → Tokens → Type 0
in_braces p = a_sign sign.OpenBrace ⨾ p ⨾ a_sign sign.CloseBrace

abbrev mutual
  -- A statement. Its blocks are numbered from n on, in the order in which they are opened.
  pub statement : ℕ → Spot → Action → Tokens → Type 0
  statement n at (Declares t x e) = one_at (tok.Word word.Let) at ⨾ type_ t ⨾ name x ⨾ a_sign sign.Assign
      ⨾ right_of_equals e ⨾ a_sign sign.Semicolon
  statement n at (Assigns x e) = λ ts. (x.at ≡ at)
      × (name x ⨾ a_sign sign.Assign ⨾ right_of_equals e ⨾ a_sign sign.Semicolon) ts
  statement n at (Stores p e) = λ ts. (p.root.at ≡ at) × (p.steps ≢ [])
      × (path p ⨾ a_sign sign.Assign ⨾ whole_expression e ⨾ a_sign sign.Semicolon) ts
  statement n at (StoresAt p i e) = λ ts. (p.root.at ≡ at)
      × (path p ⨾ a_sign sign.OpenBracket ⨾ whole_expression i ⨾ a_sign sign.CloseBracket ⨾ a_sign sign.Assign
      ⨾ whole_expression e ⨾ a_sign sign.Semicolon) ts
  statement n at (Calls c) = λ ts. (call_spot c ≡ at) × (call_written c ⨾ a_sign sign.Semicolon) ts
  statement n at (Chooses e k b) =
      λ ts. (k ≡ n) × (one_at (tok.Word word.If) at ⨾ whole_expression e ⨾ in_braces (statements (n + 1) b)) ts
  statement n at (ChoosesElse e k b m c) = λ ts. (k ≡ n) × (m ≡ n + 1 + opened_in b) × (one_at (tok.Word word.If) at ⨾ whole_expression e ⨾ in_braces (statements (n + 1) b) ⨾ a_word word.Else ⨾ in_braces (statements (m + 1) c)) ts
  statement n at (Repeats e k b) =
      λ ts. (k ≡ n) × (one_at (tok.Word word.While) at ⨾ whole_expression e ⨾ in_braces (statements (n + 1) b)) ts
  statement n at (Groups g) = one_at (tok.Word word.Group) at ⨾ name g ⨾ a_sign sign.Semicolon
  statement n at (Splits gs k b) =
      λ ts. (k ≡ n) × (one_at (tok.Word word.Split) at ⨾ separated name gs ⨾ in_braces (statements (n + 1) b)) ts
  statement n at (Locks g k b) =
      λ ts. (k ≡ n) × (one_at (tok.Word word.Atomic) at ⨾ name g ⨾ in_braces (statements (n + 1) b)) ts
  statement n at (Freezes x) = one_at (tok.Word word.Freeze) at ⨾ name x ⨾ a_sign sign.Semicolon
  statement n at (Shares x g) = one_at (tok.Word word.Share) at ⨾ name x ⨾ a_word word.Into ⨾ name g
      ⨾ a_sign sign.Semicolon
  statement n at (Prints e) = one_at (tok.Word word.Print) at ⨾ whole_expression e ⨾ a_sign sign.Semicolon
  statement n at (PrintsText s) = one_at (tok.Word word.Print) at ⨾ one_token (tok.Text s) ⨾ a_sign sign.Semicolon
  statement n at (Asserts e) = one_at (tok.Word word.Assert) at ⨾ whole_expression e ⨾ a_sign sign.Semicolon
  statement n at (Returns e) = never

  -- statements whose blocks are numbered from n on
  pub statements : ℕ → Lines → Tokens → Type 0
  statements n End = no_tokens
  statements n (Next at a rest) = statement n at a ⨾ statements (n + blocks_opened a) rest

-- ---- methods

-- "void" | type
abbrev pub result : Option Ty → Tokens → Type 0
result None = a_word word.Void
result (Some t) = type_ t

-- [ ">>" "none" ]
abbrev pub away : Option Spot → Tokens → Type 0
away None = no_tokens
away (Some at) = one_at (tok.Sign sign.Away) at ⨾ a_word word.None

-- param = type NAME [ ">>" "none" ]
abbrev pub param : Param → Tokens → Type 0
param p = type_ p.ty ⨾ name p.name ⨾ away p.away

-- perm "this" [ ">>" "none" ]
abbrev pub me : Me → Tokens → Type 0
me m = permission m.perm ⨾ one_at (tok.Word word.This) m.at ⨾ away m.away

-- a method's parameters, after its receiver where it has one
abbrev pub parameters : Option Me → List Param → Tokens → Type 0
parameters None ps = comma_list param ps
parameters (Some m) ps = me m ⨾ one_by_one (further param) ps

abbrev pub need_word : Need → Keyword
need_word need_of.Exclusive = word.Exclusive
need_word need_of.Shared = word.Shared
need_word need_of.Protected = word.Protected

-- need = ( "exclusive" | "shared" | "protected" ) NAME
abbrev pub need : GroupNeed → Tokens → Type 0
need n = a_word (need_word n.need) ⨾ name n.group

-- needs = "with" need { "," need }, or none
abbrev pub needs : List GroupNeed → Tokens → Type 0
needs [] = no_tokens
needs (n ∷ ns) = a_word word.With ⨾ separated need (n ∷ ns)

-- [ "return" expr ";" ]
abbrev pub return_end : Option (Spot × Expression) → Tokens → Type 0
return_end None = no_tokens
return_end (Some r) = one_at (tok.Word word.Return) r.0 ⨾ whole_expression r.1 ⨾ a_sign sign.Semicolon

-- the statements of a body, the last one a `return` where there is one
abbrev pub with_return : Lines → Option (Spot × Expression) → Lines
with_return End None = End
with_return End (Some r) = Next r.0 (Returns r.1) End
with_return (Next at a rest) r = Next at a (with_return rest r)

-- body = "{" { stmt } [ "return" expr ";" ] "}", which is block 0
abbrev pub method_body : Lines → Tokens → Type 0
method_body b ts = (front : Lines) × (r : Option (Spot × Expression)) × (b ≡ with_return front r)
    × in_braces (statements 1 front ⨾ return_end r) ts

-- A method of the class with this number, which has a receiver, or one at the top, which has none.
abbrev pub IsMethodOf : Option ℕ → Definition → Type 0
IsMethodOf None m = (m.class ≡ None) × (m.me ≡ None)
IsMethodOf (Some c) m = (m.class ≡ Some c) × (m.me ≢ None)

-- method = "method" ( "void" | type ) NAME [gnames] "(" .. ")" [needs] body
abbrev pub method : Option ℕ → Definition → Tokens → Type 0
method c m ts = IsMethodOf c m × (m.no ≡ 0) × (a_word word.Method ⨾ result m.result ⨾ name m.name ⨾ groups m.groups
    ⨾ a_sign sign.OpenParen ⨾ parameters m.me m.params ⨾ a_sign sign.CloseParen ⨾ needs m.needs ⨾ method_body m.body) ts

-- ---- classes and programs

-- type NAME ";"
abbrev pub field : Field → Tokens → Type 0
field f = type_ f.ty ⨾ name f.name ⨾ a_sign sign.Semicolon

-- n numbers, from m on
abbrev pub numbers_from : ℕ → ℕ → List ℕ
numbers_from m zero = []
numbers_from m (suc n) = m ∷ numbers_from (m + 1) n

-- what stands at the top of a program: a class with its methods, or a method
pub data Declaration : Type 0 where
  OfClass : Class → List Definition → Declaration
  OfMethod : Definition → Declaration

-- The declaration behind c classes and m methods.
-- class = "class" NAME [gnames] "{" { type NAME ";" } { cmethod } "}"
abbrev pub declaration : ℕ → ℕ → Declaration → Tokens → Type 0
declaration c m (OfClass k ms) = λ ts. (k.methods ≡ numbers_from m (length ms))
    × (a_word word.Class ⨾ name k.name ⨾ groups k.groups
    ⨾ a_sign sign.OpenBrace ⨾ one_by_one field k.fields ⨾ one_by_one (method (Some c)) ms ⨾ a_sign sign.CloseBrace) ts
declaration c m (OfMethod d) = method None d

abbrev pub classes_in : Declaration → List Class
classes_in (OfClass k ms) = k ∷ []
classes_in (OfMethod d) = []

abbrev pub methods_in : Declaration → List Definition
methods_in (OfClass k ms) = ms
methods_in (OfMethod d) = d ∷ []

abbrev pub declared : ℕ → ℕ → Declaration → Decl
declared c m (OfClass k ms) = decl.Class c
declared c m (OfMethod d) = decl.Method m

-- the declarations behind c classes and m methods
abbrev pub declarations : ℕ → ℕ → List Declaration → Tokens → Type 0
declarations c m [] = no_tokens
declarations c m (x ∷ xs) = declaration c m x ⨾ declarations (c + length (classes_in x)) (m + length (methods_in x)) xs

abbrev pub decls_of : ℕ → ℕ → List Declaration → List Decl
decls_of c m [] = []
decls_of c m (x ∷ xs) = declared c m x ∷ decls_of (c + length (classes_in x)) (m + length (methods_in x)) xs

abbrev pub classes_of : List Declaration → List Class
classes_of [] = []
classes_of (x ∷ xs) = classes_in x ++ classes_of xs

abbrev pub methods_of : List Declaration → List Definition
methods_of [] = []
methods_of (x ∷ xs) = methods_in x ++ methods_of xs

-- program = { class | method } END
pub record Derives (tokens : List Token) (p : Code) : Type 0 where
  pub list : List Declaration
  pub names : p.names ≡ names_of tokens
  pub classes : p.classes ≡ classes_of list
  pub methods : p.methods ≡ methods_of list
  pub decls : p.decls ≡ decls_of 0 0 list
  pub derives : (declarations 0 0 list ⨾ one_token tok.End) (numbered p.names tokens)
