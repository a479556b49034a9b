-- What the steps of the scanner find.
use Rattle.std.specs.Prelude.{◌≡◌, ℕ, ◌≤◌, Bool, false, IsTrue, ◌⊎◌, List, [], ◌∷◌, ◌++◌, length, take, Option, Some}
use Rattle.std.specs.Prelude.{None, codes}
use Rattle.std.specs.Str.{encode_utf8_all, chars, IsUtf8}
use Rattle.ae_text.specs.declared.refusal.Spot.{Spot}
use Rattle.ae_text.specs.declared.refusal.Rule.{Rule}
use Rattle.ae_text.specs.declared.refusal.Rule.TheVariants as rule
use Rattle.ae_text.specs.declared.refusal.Deny.{Deny}
use Rattle.ae_text.specs.declared.refusal.Deny.TheVariants as deny
use Rattle.ae_text.specs.declared.token.Sign.{Sign}
use Rattle.ae_text.specs.declared.token.Token.{Token}
use Rattle.ae_text.specs.declared.token.TokenKind.{TokenKind}
use Rattle.ae_text.specs.declared.characters.Class.{Class}
use Rattle.ae_text.specs.declared.characters.Class.TheVariants as class
use Rattle.ae_text.specs.declared.faults.Fault.{Fault}
use Rattle.ae_text.specs.declared.faults.Fault.TheVariants as fault
use Rattle.ae_text.specs.declared.texts.Part.{Part}
use Rattle.ae_text.specs.declared.texts.Part.TheVariants.{Plain, Escape}
use Rattle.ae_text.specs.Tokens.{Text, width, Each, Stops, is_digit, goes_on, in_line, is_escape, parts_text}
use Rattle.ae_text.specs.Tokens.{AreParts, AreKnownEscapes, parts_meaning, EndsOpen, TextPiece, White, Comment, Tok}
use Rattle.ae_text.specs.Tokens.{piece_text, IsPiece, ArePieces, text_of, tokens_from, spot_after, first_spot}
use Rattle.ae_text.specs.Tokens.{IsFault, sign_text}

-- a text is these characters and what comes after them
pub record Front (text taken after : Text) : Type 0 where
  pub bytes : text ≡ encode_utf8_all taken ++ after
  pub characters : chars text ≡ taken ++ chars after

abbrev pub is_in_class : Class → ℕ → Bool
is_in_class class.Digit = is_digit
is_in_class class.Word = goes_on
is_in_class class.Line = in_line

-- the text goes on with a character of the class
pub record Continues (c : ℕ → Bool) (text after : Text) : Type 0 where
  pub char : ℕ
  pub front : Front text (char ∷ []) after
  pub is : IsTrue (c char)

-- the bytes of the characters of the class at the front, and what comes after them
pub record Spans (c : ℕ → Bool) (text bytes after : Text) : Type 0 where
  pub taken : Text
  pub front : Front text taken after
  pub bytes_are : bytes ≡ encode_utf8_all taken
  pub each : Each c taken
  pub stops : Stops c (chars after)

-- no sign begins here
abbrev pub NoSign : Text → Type 0
NoSign text = (g : Sign) (after : Text) → text ≡ sign_text g ++ after → ⊥

-- this sign, the longest one, and then rest
pub record SignThen (text : Text) (g : Sign) (rest : Text) : Type 0 where
  pub front : Front text (sign_text g) rest
  pub longest : (h : Sign) (more after : Text) → chars rest ≡ more ++ after → sign_text g ++ more ≡ sign_text h
      → more ≡ []

-- two slashes, the rest of the line, and then rest
pub record CommentThen (text rest : Text) : Type 0 where
  pub line : Text
  pub front : Front text (codes "//" ++ line) rest
  pub each : Each in_line line
  pub stops : Stops in_line (chars rest)

-- no part of a text begins here
abbrev pub EndsText : Text → Type 0
EndsText [] = Unit {0}
EndsText (c ∷ cs) = (c ≡ 34) ⊎ EndsOpen (c ∷ cs)

-- one part, and then rest
pub record PartThen (text : Text) (part : Part) (rest : Text) : Type 0 where
  pub front : Front text (parts_text (part ∷ [])) rest
  pub is : AreParts (part ∷ [])

-- all the parts that there are, and then rest
pub record PartsThen (text rest : Text) : Type 0 where
  pub parts : List Part
  pub front : Front text (parts_text parts) rest
  pub are : AreParts parts
  pub ends : EndsText (chars rest)

-- the part stands for this character
abbrev pub Means : Part → ℕ → Type 0
Means part c = AreKnownEscapes (part ∷ []) × (parts_meaning (part ∷ []) ≡ c ∷ [])

abbrev pub IsUnknown : Part → Type 0
IsUnknown (Plain c) = ⊥
IsUnknown (Escape c) = is_escape c ≡ false

abbrev pub NoQuote : Text → Type 0
NoQuote text = (after : Text) → text ≡ 34 ∷ after → ⊥

-- a text with such an escape is closed, and the escape is the fault, or it is open
abbrev pub BadEscapeFault : ℕ → Text → Fault → Type 0
BadEscapeFault ahead after (fault.Rule rule.BadChar n) =
    (n ≡ ahead) × ((more : List Part) × (end : Text) × (after ≡ parts_text more ++ 34 ∷ end) × AreParts more)
BadEscapeFault ahead after (fault.Rule rule.OpenText n) =
    (n ≡ 0) × ((more : List Part) × (end : Text) × (after ≡ parts_text more ++ end) × AreParts more × EndsOpen end)
BadEscapeFault ahead after _ = ⊥

-- parts that all stand for something and their value, then a quote, then rest
pub record ValueThen (text bytes rest : Text) : Type 0 where
  pub parts : List Part
  pub front : Front text (34 ∷ (parts_text parts ++ 34 ∷ [])) rest
  pub are : AreParts parts
  pub known : AreKnownEscapes parts
  pub value_is : bytes ≡ encode_utf8_all (parts_meaning parts)

abbrev pub kind_in : TextPiece → Option TokenKind
kind_in (White c) = None
kind_in (Comment s) = None
kind_in (Tok k s) = Some k

-- the text begins with a piece, a token of the kind if there is one
pub record Cuts (text : Text) (kind : Option TokenKind) (after : Text) : Type 0 where
  pub piece : TextPiece
  pub front : Front text (piece_text piece) after
  pub is : IsPiece piece (chars after)
  pub kind_is : kind ≡ kind_in piece

-- a fault stands behind this many bytes
pub record FaultAfter (text : Text) (rule : Rule) (ahead : ℕ) : Type 0 where
  pub before : Text
  pub after : Text
  pub front : Front text before after
  pub ahead_is : ahead ≡ width before
  pub is : IsFault rule before (chars after)

abbrev pub Faults : Text → Fault → Type 0
Faults text (fault.Rule r ahead) = FaultAfter text r ahead
Faults text fault.Memory = Unit {0}

-- what has been scanned of the bytes, where rest is left
pub record Scanned (bytes rest : Text) (spot : Spot) (tokens : List Token) : Type 0 where
  pub pieces : List TextPiece
  pub utf8 : IsUtf8 bytes
  pub front : Front bytes (text_of pieces) rest
  pub each : ArePieces pieces (chars rest)
  pub spot_is : spot ≡ spot_after first_spot (encode_utf8_all (text_of pieces))
  pub tokens_are : tokens ≡ tokens_from bytes 0 pieces

-- the token of a piece, if it is one
abbrev pub token_of : Option TokenKind → ℕ → ℕ → Spot → List Token
token_of None begin end at = []
token_of (Some k) begin end at = record { kind = k; begin = begin; end = end; at = at } ∷ []

-- the refusal of a fault in the text that begins at this place
abbrev pub denied : Fault → Text → Spot → Deny
denied (fault.Rule r ahead) text at = deny.Refused (record { rule = r; at = spot_after at (take ahead text) })
denied fault.Memory text at = deny.Memory

abbrev pub IsFaultWithin : Fault → Text → Type 0
IsFaultWithin (fault.Rule r ahead) text = ahead ≤ length text
IsFaultWithin fault.Memory text = Unit {0}
