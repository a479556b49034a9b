-- How a token is written: its spelling, and one space before it or none.
use Rattle.std.specs.Prelude.{ℕ, Bool, if◌then◌else◌, ◌==◌, List, [], ◌∷◌, ◌++◌, slice_index_or}
use Rattle.std.specs.Fmt.{signed_decimal}
use Rattle.ae_text.specs.declared.token.TokenKind.{TokenKind}
use Rattle.ae_text.specs.declared.token.TokenKind.TheVariants as t
use Rattle.ae_text.specs.Tokens.{Text, keyword_text, sign_text}

-- the spelling of the name with this number; a number without a name is spelled as nothing
abbrev pub name_text : List Text → ℕ → Text
name_text names n = slice_index_or names n []

-- a byte between quotes: line feed, tab, quote and backslash stand behind a backslash, as `n`, `t` and themselves
abbrev pub escaped_byte : ℕ → Text
escaped_byte b = if b == 10 then 92 ∷ 110 ∷ [] else if b == 9 then 92 ∷ 116 ∷ [] else if b == 34 then 92 ∷ 34
    ∷ [] else if b == 92 then 92 ∷ 92 ∷ [] else b ∷ []

abbrev pub all_escaped : Text → Text
all_escaped [] = []
all_escaped (b ∷ bs) = escaped_byte b ++ all_escaped bs

-- a token as a source writes it, a number in decimal digits without leading zeros
abbrev pub token_text : TokenKind → Text
token_text (t.Name s) = s
token_text (t.Int n) = signed_decimal n
token_text (t.Text s) = 34 ∷ all_escaped s ++ 34 ∷ []
token_text (t.Word w) = keyword_text w
token_text (t.Sign g) = sign_text g
token_text t.End = []

-- a token of a line; one that is close has no space before it
pub record Printed : Type 0 where
  pub close : Bool
  pub kind : TokenKind

-- what stands before a token
abbrev pub gap : Bool → Text
gap close = if close then [] else 32 ∷ []

unfoldable pub printed_text : Printed → Text
printed_text x = gap x.close ++ token_text x.kind

abbrev pub tokens_text : List Printed → Text
tokens_text [] = []
tokens_text (x ∷ xs) = printed_text x ++ tokens_text xs
