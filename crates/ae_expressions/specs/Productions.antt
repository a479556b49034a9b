-- The productions of an expression as the functions read them.
use Rattle.std.specs.Prelude.{◌≡◌, ◌≢◌, ◌≤◌, ℕ, [], ◌∷◌, length, Option, Some, None}
use Rattle.ae_text.specs.declared.refusal.Spot.{Spot}
use Rattle.ae_text.specs.declared.token.Keyword.{Keyword}
use Rattle.ae_text.specs.declared.token.Keyword.TheVariants as word
use Rattle.ae_text.specs.declared.token.Sign.{Sign}
use Rattle.ae_text.specs.declared.token.Sign.TheVariants as sign
use Rattle.ae_tree.specs.declared.lexeme.Lexical.{Lexical}
use Rattle.ae_tree.specs.declared.lexeme.Lexical.TheVariants as tok
use Rattle.ae_tree.specs.declared.lexeme.Lexeme.{Lexeme}
use Rattle.ae_tree.specs.declared.limits.Limit.{Limit}
use Rattle.ae_tree.specs.declared.limits.Limit.TheVariants as limit
use Rattle.ae_tree.specs.declared.tree.Path.{Path}
use Rattle.ae_tree.specs.declared.tree.Op.{Op}
use Rattle.ae_tree.specs.declared.tree.Op.TheVariants as op
use Rattle.ae_tree.specs.Plain.{Expression, Number, Truth, Nothing, Read, Item, Length, Grouped, Negated, Minus, Binary}
use Rattle.ae_tree.specs.Shown as shown
use Rattle.ae_tree.specs.Grammar.{Tokens, ◌⨾◌, one_at, a_sign, level, sign_of}
use Rattle.ae_tree.specs.Grammar as grammar
use Rattle.ae_tree.specs.Limits.{marks}
use Rattle.ae_expressions.specs.declared.expressions.Counted.{Counted}
use Rattle.ae_expressions.specs.declared.starts.Mark.{Mark}
use Rattle.ae_expressions.specs.declared.starts.Mark.TheVariants as mark
use Rattle.ae_expressions.specs.declared.starts.Start.{Start}
use Rattle.ae_expressions.specs.declared.starts.Start.TheVariants as start

-- ---- operators

-- no operator of this level
abbrev pub NoOperator : ℕ → Tokens → Type 0
NoOperator l [] = Unit {0}
NoOperator l (t ∷ ts) = (o : Op) → t.kind ≡ tok.Sign (sign_of o) → level o ≢ l

-- an operator of this level, and then rest
pub record IsOperator (l : ℕ) (ts : Tokens) (o : Op) (rest : Tokens) : Type 0 where
  pub token : Lexeme
  pub whole : ts ≡ token ∷ rest
  pub kind : token.kind ≡ tok.Sign (sign_of o)
  pub at_level : level o ≡ l

-- the operator that a sign is
abbrev pub operator_of : Sign → Option Op
operator_of sign.OrOr = Some op.Or
operator_of sign.AndAnd = Some op.And
operator_of sign.Equal = Some op.Eq
operator_of sign.NotEqual = Some op.Ne
operator_of sign.Less = Some op.Lt
operator_of sign.LessEqual = Some op.Le
operator_of sign.Greater = Some op.Gt
operator_of sign.GreaterEqual = Some op.Ge
operator_of sign.Plus = Some op.Add
operator_of sign.Minus = Some op.Sub
operator_of sign.Star = Some op.Mul
operator_of sign.Slash = Some op.Div
operator_of sign.Percent = Some op.Rem
operator_of _ = None

-- ---- limits

-- at most n tokens that count
abbrev pub AtMostMarks : ℕ → Limit → Expression → Type 0
AtMostMarks n l e = l ≡ limit.Depth → marks e ≤ n

-- at most n fields lead on from the root
abbrev pub IsShortPath : ℕ → Limit → Path → Type 0
IsShortPath n l p = l ≡ limit.Depth → length p.steps ≤ n

-- ---- operands

abbrev pub counted : Counted → Expression
counted c = shown.expression c.tree

-- an expression at this level
abbrev pub at_level : ℕ → Expression → Tokens → Type 0
at_level l e = grammar.expression_at e l

-- the token that a form which counts begins with
abbrev pub mark_kind : Mark → Lexical
mark_kind mark.Len = tok.Word word.Len
mark_kind mark.Paren = tok.Sign sign.OpenParen
mark_kind mark.Not = tok.Sign sign.Not
mark_kind mark.Minus = tok.Sign sign.Minus

abbrev pub start_of_word : Keyword → Start
start_of_word word.True = start.Literal
start_of_word word.False = start.Literal
start_of_word word.Null = start.Literal
start_of_word word.This = start.Place
start_of_word word.Len = start.Counted mark.Len
start_of_word _ = start.Other

abbrev pub start_of_sign : Sign → Start
start_of_sign sign.OpenParen = start.Counted mark.Paren
start_of_sign sign.Not = start.Counted mark.Not
start_of_sign sign.Minus = start.Counted mark.Minus
start_of_sign _ = start.Other

-- which operands begin with a token
abbrev pub start_of : Lexical → Start
start_of (tok.Name n) = start.Place
start_of (tok.Int n) = start.Literal
start_of (tok.Word w) = start_of_word w
start_of (tok.Sign g) = start_of_sign g
start_of _ = start.Other

-- a token that only the forms of this start begin with
abbrev pub StartIs : Lexical → Start → Type 0
StartIs k (start.Counted m) = k ≡ mark_kind m
StartIs k _ = Unit {0}

-- the start of an operand
abbrev pub operand_start : Expression → Start
operand_start (Number n at) = start.Literal
operand_start (Truth b at) = start.Literal
operand_start (Nothing at) = start.Literal
operand_start (Read p) = start.Place
operand_start (Item p e) = start.Place
operand_start (Length p at) = start.Counted mark.Len
operand_start (Grouped e at) = start.Counted mark.Paren
operand_start (Negated e at) = start.Counted mark.Not
operand_start (Minus e at) = start.Counted mark.Minus
operand_start (Binary o a b) = start.Other

-- an operand of this form
abbrev pub operand : Start → Expression → Tokens → Type 0
operand s e ts = (operand_start e ≡ s) × at_level 5 e ts

-- a number, a truth value or `null`, of one token
abbrev pub literal : Expression → Tokens → Type 0
literal = operand start.Literal

-- an expression in brackets, with the place of the opening one
abbrev pub enclosed : Sign → Sign → Spot × Expression → Tokens → Type 0
enclosed g h q = one_at (tok.Sign g) q.0 ⨾ at_level 0 q.1 ⨾ a_sign h

abbrev pub enclosed_shown : Spot × Counted → Spot × Expression
enclosed_shown q = (q.0, counted q.1)

abbrev pub AtMostInside : ℕ → Limit → Spot × Expression → Type 0
AtMostInside n l q = AtMostMarks n l q.1

-- a sign that goes on no expression
abbrev pub IsClosing : Sign → Type 0
IsClosing g = (operator_of g ≡ None) × (g ≢ sign.Dot) × (g ≢ sign.OpenBracket)

-- the next token is this one
abbrev pub Next : Lexical → Tokens → Type 0
Next k [] = ⊥
Next k (t ∷ ts) = t.kind ≡ k
