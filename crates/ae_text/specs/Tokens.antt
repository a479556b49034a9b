-- Tokens: how a text is cut. Its characters are a sequence of pieces: white space, comments and tokens.
use Rattle.std.specs.Prelude.{◌≡◌, ◌≢◌, ℕ, ◌+◌, ◌-◌, ◌*◌, ◌^◌, ◌<◌, ◌≤◌, pos, Bool, true, false, ◌||◌, ◌&&◌, ◌==◌}
use Rattle.std.specs.Prelude.{nat_le, if◌then◌else◌, IsTrue, ◌⊎◌, List, [], ◌∷◌, ◌++◌, length, take, codes}
use Rattle.std.specs.Str.{encode_utf8_all, IsUtf8, IsValidUpTo}
use Rattle.unicode_ident.specs.Ident.{is_xid_start, is_xid_continue}
use Rattle.ae_text.specs.declared.refusal.Spot.{Spot}
use Rattle.ae_text.specs.declared.refusal.Rule.{Rule}
use Rattle.ae_text.specs.declared.refusal.Rule.TheVariants as rule
use Rattle.ae_text.specs.declared.refusal.Deny.{Deny}
use Rattle.ae_text.specs.declared.refusal.Deny.TheVariants as deny
use Rattle.ae_text.specs.declared.token.Keyword.{Keyword}
use Rattle.ae_text.specs.declared.token.Keyword.TheVariants as word
use Rattle.ae_text.specs.declared.token.Sign.{Sign}
use Rattle.ae_text.specs.declared.token.Sign.TheVariants as sign
use Rattle.ae_text.specs.declared.token.TokenKind.{TokenKind}
use Rattle.ae_text.specs.declared.token.TokenKind.TheVariants as t
use Rattle.ae_text.specs.declared.token.Token.{Token}
use Rattle.ae_text.specs.declared.texts.Part.{Part}
use Rattle.ae_text.specs.declared.texts.Part.TheVariants.{Plain, Escape}

-- bytes, or characters
abbrev pub Text : Type 0
Text = List ℕ

-- how many bytes characters take
abbrev pub width : Text → ℕ
width s = length (encode_utf8_all s)

-- ---- characters

-- space, tab, line feed and carriage return
abbrev pub is_white : ℕ → Bool
is_white c = c == 32 || c == 9 || c == 10 || c == 13

abbrev pub is_digit : ℕ → Bool
is_digit c = nat_le 48 c && nat_le c 57

-- what a word begins with: `_`, or what Unicode lets an identifier begin with
abbrev pub begins_word : ℕ → Bool
begins_word c = c == 95 || is_xid_start c

-- what a word goes on with
abbrev pub goes_on : ℕ → Bool
goes_on c = is_xid_continue c

-- not a line feed
abbrev pub in_line : ℕ → Bool
in_line c = if c == 10 then false else true

-- what stands for itself in a text
abbrev pub in_text : ℕ → Bool
in_text c = if c == 34 || c == 92 || c == 10 then false else true

-- n, t, `"` and `\`
abbrev pub is_escape : ℕ → Bool
is_escape c = c == 110 || c == 116 || c == 34 || c == 92

-- the character for which `\` and this one stand
abbrev pub escape_meaning : ℕ → ℕ
escape_meaning c = if c == 110 then 10 else (if c == 116 then 9 else c)

-- each passes the test
abbrev pub Each : (ℕ → Bool) → Text → Type 0
Each p [] = Unit {0}
Each p (c ∷ cs) = IsTrue (p c) × Each p cs

-- nothing comes next, or a character that fails the test
abbrev pub Stops : (ℕ → Bool) → Text → Type 0
Stops p [] = Unit {0}
Stops p (c ∷ cs) = p c ≡ false

-- ---- spellings

abbrev pub keyword_text : Keyword → Text
keyword_text word.Ints = codes "Ints"
keyword_text word.Assert = codes "assert"
keyword_text word.Atomic = codes "atomic"
keyword_text word.Bool = codes "bool"
keyword_text word.Class = codes "class"
keyword_text word.Else = codes "else"
keyword_text word.Exclusive = codes "exclusive"
keyword_text word.False = codes "false"
keyword_text word.Freeze = codes "freeze"
keyword_text word.Group = codes "group"
keyword_text word.If = codes "if"
keyword_text word.Immutable = codes "immutable"
keyword_text word.Int = codes "int"
keyword_text word.Into = codes "into"
keyword_text word.Len = codes "len"
keyword_text word.Lent = codes "lent"
keyword_text word.Let = codes "let"
keyword_text word.Method = codes "method"
keyword_text word.New = codes "new"
keyword_text word.None = codes "none"
keyword_text word.Null = codes "null"
keyword_text word.Open = codes "open"
keyword_text word.Print = codes "print"
keyword_text word.Protected = codes "protected"
keyword_text word.Return = codes "return"
keyword_text word.Share = codes "share"
keyword_text word.Shared = codes "shared"
keyword_text word.Split = codes "split"
keyword_text word.Take = codes "take"
keyword_text word.This = codes "this"
keyword_text word.True = codes "true"
keyword_text word.Unique = codes "unique"
keyword_text word.Void = codes "void"
keyword_text word.While = codes "while"
keyword_text word.With = codes "with"

abbrev pub sign_text : Sign → Text
sign_text sign.OpenBrace = codes "{"
sign_text sign.CloseBrace = codes "}"
sign_text sign.OpenParen = codes "("
sign_text sign.CloseParen = codes ")"
sign_text sign.OpenBracket = codes "["
sign_text sign.CloseBracket = codes "]"
sign_text sign.Less = codes "<"
sign_text sign.Greater = codes ">"
sign_text sign.Away = codes ">>"
sign_text sign.Comma = codes ","
sign_text sign.Semicolon = codes ";"
sign_text sign.Dot = codes "."
sign_text sign.Assign = codes "="
sign_text sign.Equal = codes "=="
sign_text sign.NotEqual = codes "!="
sign_text sign.LessEqual = codes "<="
sign_text sign.GreaterEqual = codes ">="
sign_text sign.Plus = codes "+"
sign_text sign.Minus = codes "-"
sign_text sign.Star = codes "*"
sign_text sign.Slash = codes "/"
sign_text sign.Percent = codes "%"
sign_text sign.Not = codes "!"
sign_text sign.AndAnd = codes "&&"
sign_text sign.OrOr = codes "||"

abbrev pub IsWord : Text → Type 0
IsWord [] = ⊥
IsWord (c ∷ cs) = IsTrue (begins_word c) × Each goes_on cs

abbrev pub IsNumber : Text → Type 0
IsNumber [] = ⊥
IsNumber (c ∷ cs) = IsTrue (is_digit c) × Each is_digit cs

-- the number that decimal digits spell, behind those with the value v
abbrev pub value_from : ℕ → Text → ℕ
value_from v [] = v
value_from v (d ∷ ds) = value_from (v * 10 + (d - 48)) ds

abbrev pub digits_value : Text → ℕ
digits_value = value_from 0

-- the characters of a text's parts: an escape is `\` and a character
abbrev pub parts_text : List Part → Text
parts_text [] = []
parts_text (Plain c ∷ ps) = c ∷ parts_text ps
parts_text (Escape c ∷ ps) = 92 ∷ c ∷ parts_text ps

-- parts as they count for finding the closing quote: an escape may be of any character but a line feed
abbrev pub AreParts : List Part → Type 0
AreParts [] = Unit {0}
AreParts (Plain c ∷ ps) = IsTrue (in_text c) × AreParts ps
AreParts (Escape c ∷ ps) = IsTrue (in_line c) × AreParts ps

-- no escape but those that stand for something
abbrev pub AreKnownEscapes : List Part → Type 0
AreKnownEscapes [] = Unit {0}
AreKnownEscapes (Plain c ∷ ps) = AreKnownEscapes ps
AreKnownEscapes (Escape c ∷ ps) = IsTrue (is_escape c) × AreKnownEscapes ps

-- the characters for which parts stand
abbrev pub parts_meaning : List Part → Text
parts_meaning [] = []
parts_meaning (Plain c ∷ ps) = c ∷ parts_meaning ps
parts_meaning (Escape c ∷ ps) = escape_meaning c ∷ parts_meaning ps

-- the text with this value: a quote, parts, and a quote
pub record IsQuoted (bytes s : Text) : Type 0 where
  pub parts : List Part
  pub whole : s ≡ 34 ∷ (parts_text parts ++ 34 ∷ [])
  pub are : AreParts parts
  pub known : AreKnownEscapes parts
  pub value_is : bytes ≡ encode_utf8_all (parts_meaning parts)

-- the token that these characters spell: a word is a keyword or else a name
abbrev pub Spells : TokenKind → Text → Type 0
Spells (t.Name bytes) s = (bytes ≡ encode_utf8_all s) × IsWord s × ((k : Keyword) → s ≢ keyword_text k)
Spells (t.Int n) s = IsNumber s × (n ≡ pos (digits_value s))
Spells (t.Text bytes) s = IsQuoted bytes s
Spells (t.Word k) s = s ≡ keyword_text k
Spells (t.Sign g) s = s ≡ sign_text g
Spells t.End s = ⊥

-- no longer spelling begins where s begins
abbrev pub IsLongest : Text → Text → Type 0
IsLongest s rest = (k : TokenKind) (more after : Text) → rest ≡ more ++ after → Spells k (s ++ more) → more ≡ []

-- no comment begins here
abbrev pub NoComment : Text → Type 0
NoComment text = (c : Text) → text ≡ codes "//" ++ c → ⊥

-- a number is below 2 ^ 63
abbrev pub IsInRange : TokenKind → Text → Type 0
IsInRange (t.Int n) s = digits_value s < 2 ^ 63
IsInRange _ s = Unit {0}

-- a token is spelled, where rest comes after it
pub record IsToken (k : TokenKind) (s rest : Text) : Type 0 where
  pub spells : Spells k s
  pub longest : IsLongest s rest
  pub no_comment : NoComment (s ++ rest)
  pub in_range : IsInRange k s

-- ---- the text as a sequence of pieces

pub data TextPiece : Type 0 where
  White : ℕ → TextPiece
  -- the two slashes are left out
  Comment : Text → TextPiece
  Tok : TokenKind → Text → TextPiece

abbrev pub piece_text : TextPiece → Text
piece_text (White c) = c ∷ []
piece_text (Comment s) = codes "//" ++ s
piece_text (Tok k s) = s

-- a piece, where rest comes after it: a comment goes to the line feed or the end
abbrev pub IsPiece : TextPiece → Text → Type 0
IsPiece (White c) rest = IsTrue (is_white c)
IsPiece (Comment s) rest = Each in_line s × Stops in_line rest
IsPiece (Tok k s) rest = IsToken k s rest

abbrev pub text_of : List TextPiece → Text
text_of [] = []
text_of (p ∷ ps) = piece_text p ++ text_of ps

-- each is a piece, where rest comes after all
abbrev pub ArePieces : List TextPiece → Text → Type 0
ArePieces [] rest = Unit {0}
ArePieces (p ∷ ps) rest = IsPiece p (text_of ps ++ rest) × ArePieces ps rest

-- ---- places

-- the place behind one more byte: a line feed ends a line
abbrev pub next_spot : Spot → ℕ → Spot
next_spot p b = if b == 10 then record { line = p.line + 1; col = 1 } else record { line = p.line; col = p.col + 1 }

abbrev pub spot_after : Spot → Text → Spot
spot_after p [] = p
spot_after p (b ∷ bs) = spot_after (next_spot p b) bs

-- where a text begins
abbrev pub first_spot : Spot
first_spot = record { line = 1; col = 1 }

-- the place of an offset in bytes
abbrev pub place : Text → ℕ → Spot
place bytes at = spot_after first_spot (take at bytes)

-- ---- tokens

-- the token of a piece that begins at this offset, if it is one
abbrev pub token_at : Text → ℕ → TextPiece → List Token
token_at bytes at (White c) = []
token_at bytes at (Comment s) = []
token_at bytes at (Tok k s) = record { kind = k; begin = at; end = at + width s; at = place bytes at } ∷ []

-- the tokens of the pieces, of which the first begins at this offset
abbrev pub tokens_from : Text → ℕ → List TextPiece → List Token
tokens_from bytes at [] = []
tokens_from bytes at (p ∷ ps) = token_at bytes at p ++ tokens_from bytes (at + width (piece_text p)) ps

abbrev pub end_token : Text → Token
end_token bytes = record { kind = t.End; begin = length bytes; end = length bytes; at = place bytes (length bytes) }

-- The bytes are UTF-8 of a sequence of gaps and spellings, each the longest, and the end is last.
pub record Lexes (bytes : Text) (tokens : List Token) : Type 0 where
  pub pieces : List TextPiece
  pub utf8 : IsUtf8 bytes
  pub whole : bytes ≡ encode_utf8_all (text_of pieces)
  pub each : ArePieces pieces []
  pub are : tokens ≡ tokens_from bytes 0 pieces ++ end_token bytes ∷ []

-- ---- faults

-- no white space, no comment, no quote and no spelling begins here
abbrev pub IsNothing : Text → Type 0
IsNothing [] = ⊥
IsNothing (c ∷ cs) = (is_white c ≡ false) × (c ≢ 34) × NoComment (c ∷ cs)
    × ((k : TokenKind) (s after : Text) → c ∷ cs ≡ s ++ after → Spells k s → ⊥)

-- digits, all that there are, with a value from 2 ^ 63 on
pub record IsTooLarge (rest : Text) : Type 0 where
  pub digits : Text
  pub after : Text
  pub parts : rest ≡ digits ++ after
  pub number : IsNumber digits
  pub stops : Stops is_digit after
  pub large : 2 ^ 63 ≤ digits_value digits

-- no part of a text begins here, and no quote: the end, a line feed, or `\` before one of these
abbrev pub EndsOpen : Text → Type 0
EndsOpen [] = Unit {0}
EndsOpen (c ∷ cs) = (c ≡ 10) ⊎ ((c ≡ 92) × Stops in_line cs)

-- a quote and parts, and no closing quote
pub record IsOpen (rest : Text) : Type 0 where
  pub inner : List Part
  pub after : Text
  pub parts : rest ≡ 34 ∷ (parts_text inner ++ after)
  pub are : AreParts inner
  pub ends : EndsOpen after

-- an escape that stands for nothing, the first one in a text that is closed
pub record IsBadEscape (before rest : Text) : Type 0 where
  pub inner : List Part
  pub front : before ≡ 34 ∷ parts_text inner
  pub are : AreParts inner
  pub known : AreKnownEscapes inner
  pub char : ℕ
  pub more : List Part
  pub after : Text
  pub parts : rest ≡ 92 ∷ char ∷ (parts_text more ++ 34 ∷ after)
  pub goes_on_line : IsTrue (in_line char)
  pub unknown : is_escape char ≡ false
  pub are_more : AreParts more

-- a fault that stands where `before` ends, of which no piece before it is part
abbrev pub IsFault : Rule → Text → Text → Type 0
IsFault rule.BadChar before rest = ((before ≡ []) × IsNothing rest) ⊎ IsBadEscape before rest
IsFault rule.IntTooLarge before rest = (before ≡ []) × IsTooLarge rest
IsFault rule.OpenText before rest = (before ≡ []) × IsOpen rest
IsFault _ before rest = ⊥

-- The bytes are UTF-8, they begin with pieces, and then comes a fault.
pub record CutFault (bytes : Text) (rule : Rule) (at : ℕ) : Type 0 where
  pub pieces : List TextPiece
  pub before : Text
  pub rest : Text
  pub utf8 : IsUtf8 bytes
  pub whole : bytes ≡ encode_utf8_all (text_of pieces ++ (before ++ rest))
  pub each : ArePieces pieces (before ++ rest)
  pub offset : at ≡ width (text_of pieces ++ before)
  pub fault : IsFault rule before rest

-- The first fault of a text: where its bytes stop being UTF-8, or else where no more pieces come.
abbrev pub LexFault : Text → Rule → ℕ → Type 0
LexFault bytes rule.NotText at = IsValidUpTo bytes at
LexFault bytes r at = CutFault bytes r at

-- A refusal names a fault of the text, by its rule and its place.
abbrev pub IsTextDenied : Text → Deny → Type 0
IsTextDenied bytes (deny.Refused r) = (at : ℕ) × LexFault bytes r.rule at × (r.at ≡ place bytes at)
IsTextDenied bytes deny.Memory = Unit {0}

-- ---- whole lists

-- no token of the list is the end
abbrev pub HasNoEnd : List Token → Type 0
HasNoEnd [] = Unit {0}
HasNoEnd (x ∷ xs) = (x.kind ≢ t.End) × HasNoEnd xs

-- the last token, and no other, is the end
pub record IsWhole (tokens : List Token) : Type 0 where
  pub front : List Token
  pub last : Token
  pub parts : tokens ≡ front ++ last ∷ []
  pub no_end : HasNoEnd front
  pub end : last.kind ≡ t.End
