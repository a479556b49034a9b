-- Which token is refused, and why: the first with which no program goes on, or none within the limits.
use Rattle.std.specs.Prelude.{◌≡◌, ◌≢◌, ◌≤◌, ◌⊎◌, ℕ, ◌+◌, ◌++◌, List, [], ◌∷◌, length, take, drop, Bool, true, false}
use Rattle.std.specs.Prelude.{IsTrue, if◌then◌else◌, Some, slice_get}
use Rattle.ae_text.specs.declared.refusal.Spot.{Spot}
use Rattle.ae_text.specs.declared.refusal.Rule.{Rule}
use Rattle.ae_text.specs.declared.refusal.Rule.TheVariants as rule
use Rattle.ae_text.specs.declared.refusal.Deny.{Deny}
use Rattle.ae_text.specs.declared.refusal.Deny.TheVariants as deny
use Rattle.ae_text.specs.declared.token.Keyword.TheVariants as word
use Rattle.ae_text.specs.declared.token.Sign.{Sign}
use Rattle.ae_text.specs.declared.token.Sign.TheVariants as sign
use Rattle.ae_text.specs.declared.token.Token.{Token}
use Rattle.ae_tree.specs.declared.lexeme.Lexical.{Lexical}
use Rattle.ae_tree.specs.declared.lexeme.Lexical.TheVariants as tok
use Rattle.ae_tree.specs.declared.lexeme.Lexeme.{Lexeme}
use Rattle.ae_tree.specs.declared.limits.Limit.{Limit}
use Rattle.ae_tree.specs.declared.limits.Limit.TheVariants as limit
use Rattle.ae_tree.specs.Plain.{Code}
use Rattle.ae_tree.specs.Names.{io, names_of, numbered}
use Rattle.ae_tree.specs.Grammar.{Tokens, Derives}
use Rattle.ae_tree.specs.Limits.{KeepsTo, KeepsBefore, IsNearlyInLimits, Within}

-- ---- what goes on

-- a program that `keeps` allows has a token list that begins with the first k of these
pub record Goes (keeps : Code → Type 0) (ts : List Token) (k : ℕ) : Type 0 where
  pub program : Code
  pub whole : List Token
  pub derives : Derives whole program
  pub same : take k whole ≡ take k ts
  pub kept : keeps program

abbrev pub Any : Code → Type 0
Any p = Unit {0}

-- words behind which a block is opened
abbrev pub OpensBlock : Lexical → Type 0
OpensBlock (tok.Word word.If) = Unit {0}
OpensBlock (tok.Word word.While) = Unit {0}
OpensBlock (tok.Word word.Split) = Unit {0}
OpensBlock (tok.Word word.Atomic) = Unit {0}
OpensBlock k = ⊥

-- the words that types begin with
abbrev pub IsTypeWord : Lexical → Type 0
IsTypeWord (tok.Word word.Int) = Unit {0}
IsTypeWord (tok.Word word.Bool) = Unit {0}
IsTypeWord (tok.Word word.Unique) = Unit {0}
IsTypeWord (tok.Word word.Immutable) = Unit {0}
IsTypeWord (tok.Word word.Lent) = Unit {0}
IsTypeWord (tok.Word word.Shared) = Unit {0}
IsTypeWord k = ⊥

-- no block is opened, and no type begins
abbrev pub NoOpen : Tokens → Type 0
NoOpen [] = Unit {0}
NoOpen (t ∷ ts) = (t.kind ≢ tok.Sign sign.OpenBrace) × (IsTypeWord t.kind → ⊥) × NoOpen ts

-- What may stand between the tokens that begin a program within the limits and a refused token: nothing, a comma
-- (behind which a parameter too many is refused), or what a statement with a block begins with
-- (behind which a block that is too deep is refused).
abbrev pub IsHead : Tokens → Type 0
IsHead [] = Unit {0}
IsHead (t ∷ ts) = ((t.kind ≡ tok.Sign sign.Comma) × (ts ≡ [])) ⊎ (OpensBlock t.kind × NoOpen ts)

-- the tokens of a source as the grammar sees them
abbrev pub lexemes : List Token → Tokens
lexemes ts = numbered (names_of ts) ts

-- A program within the limits goes on with the first tokens, and what stands between them and token k
-- only leads up to it.
pub record GoesUpTo (ts : List Token) (k : ℕ) : Type 0 where
  pub start : ℕ
  pub before : start ≤ k
  pub within : Goes Within ts start
  pub leads : IsHead (drop start (take k (lexemes ts)))
  pub nearly : Goes IsNearlyInLimits ts k

-- no program goes on with token k
abbrev pub IsUnexpected : List Token → ℕ → Type 0
IsUnexpected ts k = GoesUpTo ts k × (Goes Any ts (k + 1) → ⊥)

-- the token that a limit refuses: a block that is too deep at its `{`, a parameter too many where its type begins
abbrev pub CanPass : Limit → Lexical → Type 0
CanPass limit.Levels k = k ≡ tok.Sign sign.OpenBrace
CanPass limit.Params k = IsTypeWord k
CanPass l k = Unit {0}

abbrev pub CanPassAt : Limit → Tokens → ℕ → Type 0
CanPassAt l ts k = (t : Lexeme) × (slice_get ts k ≡ Some t) × CanPass l t.kind

-- with token k programs go on that keep to the limits named before this one, but none that keeps to this one
abbrev pub Passes : Limit → List Token → ℕ → Type 0
Passes l ts k = GoesUpTo ts k × CanPassAt l (lexemes ts) k × Goes (KeepsBefore l) ts (k + 1)
    × (Goes (KeepsTo l) ts (k + 1) → ⊥)

-- ---- right sides that are not yet known to be an expression or a call

-- the tokens of an expression that count
abbrev pub counts_sign : Sign → Bool
counts_sign sign.OrOr = true
counts_sign sign.AndAnd = true
counts_sign sign.Equal = true
counts_sign sign.NotEqual = true
counts_sign sign.Less = true
counts_sign sign.LessEqual = true
counts_sign sign.Greater = true
counts_sign sign.GreaterEqual = true
counts_sign sign.Plus = true
counts_sign sign.Minus = true
counts_sign sign.Star = true
counts_sign sign.Slash = true
counts_sign sign.Percent = true
counts_sign sign.Not = true
counts_sign sign.OpenParen = true
counts_sign sign.OpenBracket = true
counts_sign sign.Dot = true
counts_sign _ = false

abbrev pub is_mark : Lexical → Bool
is_mark (tok.Sign g) = counts_sign g
is_mark (tok.Word word.Len) = true
is_mark _ = false

abbrev pub marks_in : Tokens → ℕ
marks_in [] = 0
marks_in (t ∷ ts) = (if is_mark t.kind then 1 else 0) + marks_in ts

-- what a call may begin with as well as an expression
abbrev pub is_open : Lexical → Bool
is_open (tok.Name n) = true
is_open (tok.Word word.This) = true
is_open (tok.Sign sign.Dot) = true
is_open (tok.Sign sign.Less) = true
is_open _ = false

abbrev pub AreOpen : Tokens → Type 0
AreOpen [] = Unit {0}
AreOpen (t ∷ ts) = IsTrue (is_open t.kind) × AreOpen ts

-- the tokens end with `=` and the beginning of a right side, which may still become an expression or a call
pub record OpenSide (before : Tokens) : Type 0 where
  pub front : Tokens
  pub assign : Lexeme
  pub side : Tokens
  pub whole : before ≡ front ++ assign ∷ side
  pub is_assign : assign.kind ≡ tok.Sign sign.Assign
  pub are_open : AreOpen side

-- the 257th token that counts is one of these, this many tokens before their end
pub record Is257th (side : Tokens) (back : ℕ) : Type 0 where
  pub early : Tokens
  pub mark : Lexeme
  pub late : Tokens
  pub parts : side ≡ early ++ mark ∷ late
  pub counts : IsTrue (is_mark mark.kind)
  pub before_it : marks_in early ≡ 256
  pub back_is : back ≡ 1 + length late

-- A token that passes a limit is refused itself, but where it makes an open right side an expression
-- whose 257th token that counts stands before it: then that one is.
abbrev pub IsPlaced : Limit → Tokens → ℕ → Type 0
IsPlaced limit.Depth before back = ((s : OpenSide before) × Is257th s.side back)
    ⊎ ((back ≡ 0) × ((s : OpenSide before) → marks_in s.side ≤ 256))
IsPlaced l before back = back ≡ 0

-- token k is refused for this limit
abbrev pub IsOverAt : Limit → List Token → ℕ → Type 0
IsOverAt l ts k = (back : ℕ) × Passes l ts (k + back) × IsPlaced l (take (k + back) (lexemes ts)) back

-- ---- what a refusal says

-- the rule that token k breaks
abbrev pub BreaksAt : Rule → List Token → ℕ → Type 0
BreaksAt rule.Unexpected ts k = IsUnexpected ts k
BreaksAt rule.BlockTooLong ts k = IsOverAt limit.Statements ts k
BreaksAt rule.TooDeep ts k = IsOverAt limit.Depth ts k ⊎ IsOverAt limit.Levels ts k
BreaksAt rule.TooManyParams ts k = IsOverAt limit.Params ts k
BreaksAt _ ts k = ⊥

-- a token breaks this rule, at its place
abbrev pub IsRefused : List Token → Rule → Spot → Type 0
IsRefused ts r at = (k : ℕ) × (t : Token) × (slice_get ts k ≡ Some t) × (t.at ≡ at) × BreaksAt r ts k

abbrev pub IsTokenDenied : List Token → Deny → Type 0
IsTokenDenied ts (deny.Refused r) = IsRefused ts r.rule r.at
IsTokenDenied ts deny.Memory = Unit {0}

-- ---- completions

-- names that each program knows
abbrev pub IsKnown : Lexical → Type 0
IsKnown (tok.Name n) = n ≡ io
IsKnown k = Unit {0}

abbrev pub AreSpellable : Tokens → Type 0
AreSpellable [] = Unit {0}
AreSpellable (t ∷ ts) = IsKnown t.kind × AreSpellable ts
