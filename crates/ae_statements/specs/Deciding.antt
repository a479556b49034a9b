-- What is known of a right side before it is read: an expression, a call, or neither.
use Rattle.std.specs.Prelude.{◌≡◌, ◌⊎◌, ℕ, nat_lt, ◌++◌, List, [], ◌∷◌, length, Bool, true, false, if◌then◌else◌}
use Rattle.ae_text.specs.declared.token.Keyword.TheVariants as word
use Rattle.ae_text.specs.declared.token.Sign.TheVariants as sign
use Rattle.ae_tree.specs.declared.lexeme.Lexeme.{Lexeme}
use Rattle.ae_tree.specs.declared.lexeme.Lexical.{Lexical}
use Rattle.ae_tree.specs.declared.lexeme.Lexical.TheVariants as tok
use Rattle.ae_tree.specs.declared.tree.NameAt.{NameAt}
use Rattle.ae_tree.specs.declared.tree.Path.{Path}
use Rattle.ae_tree.specs.Plain.{Expression, Invocation, RightSide, Value}
use Rattle.ae_tree.specs.Grammar.{Tokens, ◌⨾◌, a_sign, one_by_one, name, path_step, path, receiver, whole_expression}
use Rattle.ae_tree.specs.Grammar.{call_written, right_of_equals}
use Rattle.ae_tree.specs.Limits.{KeepsRight}
use Rattle.ae_tree.specs.Refused.{AreSpellable, marks_in}
use Rattle.ae_reading.specs.declared.fail.Fail.{Fail}
use Rattle.ae_reading.specs.declared.fail.Fail.TheVariants.{Refused, Memory}
use Rattle.ae_reading.specs.declared.fail.Why.TheVariants.{Unexpected}
use Rattle.ae_reading.specs.Reads.{head, Always, Is, Stopped}
use Rattle.ae_statements.specs.declared.decide.Decided.{Decided}
use Rattle.ae_statements.specs.declared.decide.Decided.TheVariants as decided
use Rattle.ae_statements.specs.Productions.{with_semicolon, receiver_of, last}

-- ---- kinds of tokens

-- what an expression begins with
abbrev pub starts : Lexical → Bool
starts (tok.Name n) = true
starts (tok.Int n) = true
starts (tok.Word word.True) = true
starts (tok.Word word.False) = true
starts (tok.Word word.Null) = true
starts (tok.Word word.Len) = true
starts (tok.Word word.This) = true
starts (tok.Sign sign.OpenParen) = true
starts (tok.Sign sign.Not) = true
starts (tok.Sign sign.Minus) = true
starts k = false

-- what an expression goes on with behind a path, its end counted
abbrev pub follows_path : Lexical → Bool
follows_path (tok.Sign sign.Semicolon) = true
follows_path (tok.Sign sign.OpenBracket) = true
follows_path (tok.Sign sign.OrOr) = true
follows_path (tok.Sign sign.AndAnd) = true
follows_path (tok.Sign sign.Equal) = true
follows_path (tok.Sign sign.NotEqual) = true
follows_path (tok.Sign sign.Less) = true
follows_path (tok.Sign sign.LessEqual) = true
follows_path (tok.Sign sign.Greater) = true
follows_path (tok.Sign sign.GreaterEqual) = true
follows_path (tok.Sign sign.Plus) = true
follows_path (tok.Sign sign.Minus) = true
follows_path (tok.Sign sign.Star) = true
follows_path (tok.Sign sign.Slash) = true
follows_path (tok.Sign sign.Percent) = true
follows_path k = false

-- what an expression goes on with behind a path, `<` and a name, its end counted
abbrev pub follows_compared : Lexical → Bool
follows_compared (tok.Sign sign.Semicolon) = true
follows_compared (tok.Sign sign.OpenBracket) = true
follows_compared (tok.Sign sign.Dot) = true
follows_compared (tok.Sign sign.OrOr) = true
follows_compared (tok.Sign sign.AndAnd) = true
follows_compared (tok.Sign sign.Plus) = true
follows_compared (tok.Sign sign.Minus) = true
follows_compared (tok.Sign sign.Star) = true
follows_compared (tok.Sign sign.Slash) = true
follows_compared (tok.Sign sign.Percent) = true
follows_compared k = false

-- what a call goes on with behind a path, `<` and a name
abbrev pub follows_group : Lexical → Bool
follows_group (tok.Sign sign.Comma) = true
follows_group (tok.Sign sign.Greater) = true
follows_group k = false

-- ---- calls

-- a path whose last part is a name
abbrev pub IsCallable : Path → Tokens → Type 0
IsCallable p us = (receiver (receiver_of p.root p.steps) ⨾ name (last p.root p.steps)) us

-- `(`, or `<` and a name and then `,` or `>`
abbrev pub IsCallTail : Tokens → Type 0
IsCallTail ts = ((t : Lexeme) × (other : Tokens) × (ts ≡ t ∷ other) × (t.kind ≡ tok.Sign sign.OpenParen))
    ⊎ ((less : Lexeme) × (n : Lexeme) × (t : Lexeme) × (m : ℕ) × (other : Tokens) × (ts ≡ less ∷ n ∷ t ∷ other)
    × (less.kind ≡ tok.Sign sign.Less) × (n.kind ≡ tok.Name m)
    × ((t.kind ≡ tok.Sign sign.Comma) ⊎ (t.kind ≡ tok.Sign sign.Greater)))

-- a path that is called comes next
pub record IsCall (ts : Tokens) : Type 0 where
  pub callee : Path
  pub taken : Tokens
  pub rest : Tokens
  pub whole : ts ≡ taken ++ rest
  pub is_path : path callee taken
  pub callable : IsCallable callee taken
  pub tail : IsCallTail rest

-- a call without arguments goes on with these tokens
pub record Calling (before : Tokens) : Type 0 where
  pub tree : Invocation
  pub none : tree.args ≡ []
  pub more : Tokens
  pub goes : with_semicolon call_written tree (before ++ more)
  pub known : AreSpellable more

-- ---- expressions

-- a path, or one with `<` behind it, or with `<` and a name: each may still become an expression or a call
abbrev pub IsUndecided : Tokens → Type 0
IsUndecided us = (p : Path) × (path p us ⊎ (path p ⨾ a_sign sign.Less) us
    ⊎ ((g : NameAt) × (path p ⨾ a_sign sign.Less ⨾ name g) us))

-- an expression goes on with these tokens and the next one
pub record Comparing (before rest : Tokens) : Type 0 where
  pub next : Lexeme
  pub later : Tokens
  pub rest_is : rest ≡ next ∷ later
  pub tree : Expression
  pub after : Tokens
  pub goes_on : with_semicolon whole_expression tree (before ++ (next ∷ after))
  pub known : AreSpellable after

-- The tokens before `rest` may begin an expression or a call, and with the next one only expressions go on. From it on, `left` tokens are left.
pub record IsValue (ts : Tokens) (left : ℕ) : Type 0 where
  pub before : Tokens
  pub rest : Tokens
  pub whole : ts ≡ before ++ rest
  pub left_is : left ≡ length rest
  pub only : (y : RightSide) (us r other : Tokens) → with_semicolon right_of_equals y us → us ++ r ≡ before ++ other
      → head other ≡ head rest → (e : Expression) × (y ≡ Value e)
  pub undecided : (before ≡ []) ⊎ IsUndecided before
  pub both : (marks_in before ≡ 0) ⊎ (Calling before × Comparing before rest)

-- ---- decisions

-- what follows from a decision
abbrev pub Decides : Tokens → Decided → Type 0
Decides ts (decided.Value left) = IsValue ts left
Decides ts decided.Call = IsCall ts
Decides ts (decided.Neither left) = Stopped (with_semicolon right_of_equals) KeepsRight Always ts Unexpected left

-- the failure, or a later one where it stands before the token from which on so many are left
abbrev pub no_earlier : Fail → ℕ → Fail
no_earlier (Refused why stop) left = Refused why (if nat_lt stop left then stop else left)
no_earlier Memory left = Memory

-- a right side that begins with neither `take` nor `new`
abbrev pub IsPlainSide : Tokens → Type 0
IsPlainSide ts = (Is (tok.Word word.Take) (head ts) → ⊥) × (Is (tok.Word word.New) (head ts) → ⊥)

-- ---- steps

-- `.` and a name, and then rest
pub record Steps (ts rest : Tokens) : Type 0 where
  pub dot : Lexeme
  pub field : Lexeme
  pub number : ℕ
  pub whole : ts ≡ dot ∷ field ∷ rest
  pub is_dot : dot.kind ≡ tok.Sign sign.Dot
  pub is_name : field.kind ≡ tok.Name number

-- ---- decisions behind a path

-- the tokens of a path that may be called
abbrev pub IsCallee : Tokens → Type 0
IsCallee ps = (p : Path) × path p ps × IsCallable p ps

-- these tokens stand behind a path that may be called, `<` and a name
abbrev pub BehindName : Tokens → Decided → Type 0
BehindName ts d = (ps : Tokens) (less n : Lexeme) (m : ℕ) → IsCallee ps → less.kind ≡ tok.Sign sign.Less
    → n.kind ≡ tok.Name m → Decides (ps ++ less ∷ n ∷ ts) d

-- these tokens stand behind a path that may be called and `<`
abbrev pub BehindLess : Tokens → Decided → Type 0
BehindLess ts d = (ps : Tokens) (less : Lexeme) → IsCallee ps → less.kind ≡ tok.Sign sign.Less
    → Decides (ps ++ less ∷ ts) d

-- these tokens stand behind a path, which may be called where no `.` comes next
abbrev pub BehindPath : Tokens → Decided → Type 0
BehindPath ts d = (p : Path) (ps : Tokens) → path p ps → IsCallable p ps ⊎ Is (tok.Sign sign.Dot) (head ts)
    → ((rest : Tokens) → Steps ts rest → ⊥) → Decides (ps ++ ts) d

-- some steps, and then rest, with which no step begins
pub record AllSteps (ts rest : Tokens) : Type 0 where
  pub fields : List NameAt
  pub taken : Tokens
  pub whole : ts ≡ taken ++ rest
  pub are : one_by_one path_step fields taken
  pub no_more : (later : Tokens) → Steps rest later → ⊥
