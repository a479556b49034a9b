-- The productions of statements as the functions read them, with the tokens that may follow.
use Rattle.std.specs.Prelude.{◌≡◌, ◌≢◌, ◌⊎◌, ℕ, ◌+◌, ◌-◌, List, [], ◌∷◌, map, Bool, true, false, Option, Some, None}
use Rattle.std.specs.Prelude.{Result}
use Rattle.std.specs.Borrow.{Bor}
use Rattle.ae_text.specs.declared.refusal.Spot.{Spot}
use Rattle.ae_text.specs.declared.token.Keyword.TheVariants as word
use Rattle.ae_text.specs.declared.token.Sign.TheVariants as sign
use Rattle.ae_tree.specs.declared.lexeme.Lexical.TheVariants as tok
use Rattle.ae_tree.specs.declared.lexeme.Lexeme.{Lexeme}
use Rattle.ae_tree.specs.declared.limits.Limit.{Limit}
use Rattle.ae_tree.specs.declared.limits.Limit.TheVariants as limit
use Rattle.ae_tree.specs.declared.tree.NameAt.{NameAt}
use Rattle.ae_tree.specs.declared.tree.Path.{Path}
use Rattle.ae_tree.specs.declared.tree.Expr.{Expr}
use Rattle.ae_tree.specs.declared.tree.Stmt.{Stmt}
use Rattle.ae_tree.specs.Plain.{Expression, Invocation, RightSide, Zeros, Made, Lines, Action, Assigns, Stores}
use Rattle.ae_tree.specs.Plain.{StoresAt, Calls, Prints, PrintsText}
use Rattle.ae_tree.specs.Shown as shown
use Rattle.ae_tree.specs.Grammar.{Tokens, ◌⨾◌, one_at, one_token, a_word, a_sign, never, name, path}
use Rattle.ae_tree.specs.Grammar.{whole_expression, with_return, right_of_equals, groups, arguments, statement}
use Rattle.ae_tree.specs.Grammar.{statements, blocks_opened}
use Rattle.ae_tree.specs.Grammar as grammar
use Rattle.ae_tree.specs.Limits.{KeepsDepth, KeepsRight, AllKeepDepth, IsFew, Opens, KeepsIn, EachKeeps}
use Rattle.ae_reading.specs.declared.fail.Why.{Why}
use Rattle.ae_reading.specs.declared.fail.Why.TheVariants.{Unexpected, Over}
use Rattle.ae_reading.specs.declared.fail.Fail.{Fail}
use Rattle.ae_reading.specs.Reads.{Reads, head, Is, Isnt, IsName}
use Rattle.ae_statements.specs.declared.led.Front.{Front}
use Rattle.ae_statements.specs.declared.led.Front.TheVariants as front
use Rattle.ae_statements.specs.declared.led.Tail.{Tail}
use Rattle.ae_statements.specs.declared.led.Tail.TheVariants as behind
use Rattle.ae_statements.specs.declared.blocks.Numbered.{Numbered}
use Rattle.ae_statements.specs.declared.blocks.NumberedBlock.{NumberedBlock}
use Rattle.ae_statements.specs.declared.blocks.NumberedStmts.{NumberedStmts}

-- ---- ends

-- with a semicolon behind it
abbrev pub with_semicolon : {A : Type 0} → (A → Tokens → Type 0) → A → Tokens → Type 0
with_semicolon D x = D x ⨾ a_sign sign.Semicolon

-- what a local gets, behind its name
abbrev pub local_value : RightSide → Tokens → Type 0
local_value e = a_sign sign.Assign ⨾ with_semicolon right_of_equals e

-- a path with at least one step
abbrev pub member : Path → Tokens → Type 0
member p us = (p.steps ≢ []) × path p us

-- how many numbers a new array has, behind `new`
abbrev pub sized : Expression → Tokens → Type 0
sized e = a_word word.Ints ⨾ a_sign sign.OpenParen ⨾ whole_expression e ⨾ a_sign sign.CloseParen

-- what a class gets, behind `new`: its groups, arguments and end stand behind its name
abbrev pub filled : NameAt × (List NameAt × List Expression) → Tokens → Type 0
filled q = name q.0 ⨾ groups q.1.0 ⨾ with_semicolon arguments q.1.1

-- a new array or object, behind a `new` at this place
abbrev pub made_side : Spot → RightSide → Tokens → Type 0
made_side at (Zeros e k) us = (k ≡ at) × with_semicolon sized e us
made_side at (Made c gs es k) us = (k ≡ at) × filled (c, (gs, es)) us
made_side at y us = ⊥

-- a text
abbrev pub text : List ℕ → Tokens → Type 0
text s = one_token (tok.Text s)

abbrev pub IsText : Option Lexeme → Type 0
IsText None = ⊥
IsText (Some t) = (s : List ℕ) × (t.kind ≡ tok.Text s)

-- what is printed, behind `print`
abbrev pub print_operand : Action → Tokens → Type 0
print_operand (Prints e) = with_semicolon whole_expression e
print_operand (PrintsText s) = with_semicolon text s
print_operand a = never

abbrev pub KeepsPrinted : Limit → Action → Type 0
KeepsPrinted l a = KeepsIn l 0 a

-- ---- calls

-- what stands behind the method's name of a call that is ended
abbrev pub call_rest : List NameAt × List Expression → Tokens → Type 0
call_rest q = groups q.0 ⨾ with_semicolon arguments q.1

abbrev pub KeepsCalled : Limit → List NameAt × List Expression → Type 0
KeepsCalled l q = AllKeepDepth l q.1

abbrev pub shown_called : List NameAt × List Expr → List NameAt × List Expression
shown_called q = (q.0, map shown.expression q.1)

-- a list without its last name
abbrev pub but_last : NameAt → List NameAt → List NameAt
but_last x [] = []
but_last x (y ∷ ys) = x ∷ but_last y ys

abbrev pub last : NameAt → List NameAt → NameAt
last x [] = x
last x (y ∷ ys) = last y ys

abbrev pub receiver_of : NameAt → List NameAt → Option Path
receiver_of root [] = None
receiver_of root (x ∷ xs) = Some (record { root = root; steps = but_last x xs })

-- the call of a path's last name, with what stands before it as the receiver
abbrev pub invoked : Path → List NameAt × List Expression → Invocation
invoked p q = record { on = receiver_of p.root p.steps; method = last p.root p.steps; groups = q.0; args = q.1 }

-- ---- statements that begin with a path

-- a name or `this`
abbrev pub IsRoot : Option Lexeme → Type 0
IsRoot o = IsName o ⊎ Is (tok.Word word.This) o

abbrev pub front_at : Bool → List NameAt → Front
front_at true [] = front.Local
front_at false [] = front.This
front_at b (x ∷ xs) = front.Member

-- what a path is whose first token is a name, or is not
abbrev pub front_of : Bool → Path → Front
front_of named p = front_at named p.steps

-- what stands behind the path
pub data Tailed : Type 0 where
  Assigned : RightSide → Tailed
  Stored : Expression → Tailed
  StoredAt : Expression → Expression → Tailed
  Called : List NameAt → List Expression → Tailed

abbrev pub shown_tail : Tail → Tailed
shown_tail (behind.Assign e) = Assigned (shown.right_side e)
shown_tail (behind.Field e) = Stored (shown.expression e)
shown_tail (behind.Index i e) = StoredAt (shown.expression i) (shown.expression e)
shown_tail (behind.Call gs es) = Called gs (map shown.expression es)

-- what is stored in a field
abbrev pub stored_value : Expression → Tokens → Type 0
stored_value e = a_sign sign.Assign ⨾ with_semicolon whole_expression e

-- an index and what is stored there
abbrev pub indexed : Expression × Expression → Tokens → Type 0
indexed q = a_sign sign.OpenBracket ⨾ whole_expression q.0 ⨾ a_sign sign.CloseBracket ⨾ stored_value q.1

abbrev pub KeepsIndexed : Limit → Expression × Expression → Type 0
KeepsIndexed l q = KeepsDepth l q.0 × KeepsDepth l q.1

abbrev pub shown_indexed : Expr × Expr → Expression × Expression
shown_indexed q = (shown.expression q.0, shown.expression q.1)

-- A local is assigned, a field is stored. `this` alone is neither, and is not called.
abbrev pub tail : Front → Tailed → Tokens → Type 0
tail front.Local (Assigned e) = local_value e
tail front.Member (Stored e) = stored_value e
tail f (StoredAt i e) = indexed (i, e)
tail front.Local (Called gs es) = call_rest (gs, es)
tail front.Member (Called gs es) = call_rest (gs, es)
tail f q = never

abbrev pub KeepsTail : Limit → Tailed → Type 0
KeepsTail l (Assigned e) = KeepsRight l e
KeepsTail l (Stored e) = KeepsDepth l e
KeepsTail l (StoredAt i e) = KeepsDepth l i × KeepsDepth l e
KeepsTail l (Called gs es) = AllKeepDepth l es

-- an index comes next, or nothing else may come
abbrev pub Only : Front → Tokens → Type 0
Only f ts = Is (tok.Sign sign.OpenBracket) (head ts) ⊎ (f ≡ front.This)

abbrev pub action_of : Path → Tailed → Action
action_of p (Assigned e) = Assigns p.root e
action_of p (Stored e) = Stores p e
action_of p (StoredAt i e) = StoresAt p i e
action_of p (Called gs es) = Calls (invoked p (gs, es))

-- ---- statements

-- a statement with its place, whose blocks are numbered from n on
abbrev pub stmt : ℕ → Spot × Action → Tokens → Type 0
stmt n q = statement n q.0 q.1

abbrev pub KeepsStmt : ℕ → Limit → Spot × Action → Type 0
KeepsStmt levels l q = KeepsIn l levels q.1

abbrev pub shown_stmt : Stmt → Spot × Action
shown_stmt s = (s.at, shown.action s.kind)

-- no `else` comes next
abbrev pub NoElse : Option Lexeme → Type 0
NoElse = Isnt (tok.Word word.Else)

-- a statement that opens no block, wherever it stands
abbrev pub ReadsSimple : Tokens → Result (Stmt × Bor Tokens) Fail → Type 0
ReadsSimple ts r = (n levels : ℕ) → Reads shown_stmt (stmt n) (KeepsStmt levels) NoElse ts r

-- the words of the statements with blocks
abbrev pub IsOpener : Option Lexeme → Type 0
IsOpener o = Is (tok.Word word.If) o ⊎ Is (tok.Word word.While) o ⊎ Is (tok.Word word.Split) o
    ⊎ Is (tok.Word word.Atomic) o

-- the words of the others
abbrev pub IsSimple : Option Lexeme → Type 0
IsSimple o = Is (tok.Word word.Let) o ⊎ Is (tok.Word word.Group) o ⊎ Is (tok.Word word.Freeze) o
    ⊎ Is (tok.Word word.Share) o ⊎ Is (tok.Word word.Print) o ⊎ Is (tok.Word word.Assert) o

abbrev pub shown_numbered : Numbered → Spot × Action
shown_numbered x = shown_stmt x.stmt

abbrev pub shown_stmts : NumberedStmts → Lines
shown_stmts x = shown.lines_from x.stmts

abbrev pub shown_block : NumberedBlock → Lines
shown_block x = shown.lines x.block

-- block n
abbrev pub numbered_block : ℕ → Lines → Tokens → Type 0
numbered_block n b = grammar.in_braces (statements (n + 1) b)

-- a block that is one of `levels` in one another
abbrev pub KeepsBraced : ℕ → Limit → Lines → Type 0
KeepsBraced levels l b = Opens l levels × IsFew l b × EachKeeps l (levels - 1) b

abbrev pub otherwise : ℕ → Lines → Tokens → Type 0
otherwise n b = a_word word.Else ⨾ numbered_block n b

-- why no block is opened: one is, and is over the limit, or none is
abbrev pub Opening : Tokens → Why → Type 0
Opening ts (Over l) = (l ≡ limit.Levels) × Is (tok.Sign sign.OpenBrace) (head ts)
Opening ts Unexpected = Is (tok.Sign sign.OpenBrace) (head ts) → ⊥

-- the end of statements
abbrev pub Closes : Option Lexeme → Type 0
Closes o = Is (tok.Sign sign.CloseBrace) o ⊎ Is (tok.Word word.Return) o

-- what statements begin with
abbrev pub Begins : Option Lexeme → Type 0
Begins o = IsOpener o ⊎ IsSimple o ⊎ IsRoot o

-- why no further statement is taken: one begins here and is over the limit, or none does
abbrev pub Further : Tokens → Why → Type 0
Further ts (Over l) = (l ≡ limit.Statements) × Begins (head ts)
Further ts Unexpected = Begins (head ts) → ⊥

-- ---- bodies

-- a `return` with its expression
abbrev pub returned : Spot × Expression → Tokens → Type 0
returned q = one_at (tok.Word word.Return) q.0 ⨾ with_semicolon whole_expression q.1

abbrev pub KeepsReturned : Limit → Spot × Expression → Type 0
KeepsReturned l q = KeepsDepth l q.1

abbrev pub shown_returned : Spot × Expr → Spot × Expression
shown_returned q = (q.0, shown.expression q.1)

-- the statements of a body
abbrev pub body_statements : Lines → Tokens → Type 0
body_statements b ts = (front : Lines) × (r : Option (Spot × Expression)) × (b ≡ with_return front r)
    × (statements 1 front ⨾ grammar.return_end r) ts
