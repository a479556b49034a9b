-- Lines that are cut into their tokens again: each token is one that a source can have, and no two that are close run together.
use Rattle.std.specs.Prelude.{◌≡◌, ℕ, Bool, true, false, not, ◌==◌, IsTrue, List, [], ◌∷◌, ◌++◌, map}
use Rattle.std.specs.Str.{all_scalars}
use Rattle.ae_text.specs.declared.token.Sign.{Sign}
use Rattle.ae_text.specs.declared.token.Sign.TheVariants as sign
use Rattle.ae_text.specs.declared.token.TokenKind.{TokenKind}
use Rattle.ae_text.specs.declared.token.TokenKind.TheVariants as t
use Rattle.ae_text.specs.declared.token.Token.{Token}
use Rattle.ae_text.specs.Tokens.{Text, Each, Spells, IsInRange, Lexes}
use Rattle.ae_tree.specs.Plain.{Code}
use Rattle.ae_layout.specs.Spelling.{Printed}
use Rattle.ae_layout.specs.Layout.{Row, program_rows}

-- each has the property
abbrev pub Every : {A : Type 0} → (A → Type 0) → List A → Type 0
Every P [] = Unit {0}
Every P (x ∷ xs) = P x × Every P xs

-- a token that a source can have: some characters spell it, and a number is in range
pub record CanSpell (k : TokenKind) : Type 0 where
  pub characters : Text
  pub scalars : all_scalars characters ≡ true
  pub spells : Spells k characters
  pub in_range : IsInRange k characters

-- a sign whose first character could make a sign before it longer, or a comment
abbrev pub goes_on_with : Sign → Bool
goes_on_with sign.Assign = true
goes_on_with sign.Equal = true
goes_on_with sign.Greater = true
goes_on_with sign.GreaterEqual = true
goes_on_with sign.Away = true
goes_on_with sign.AndAnd = true
goes_on_with sign.OrOr = true
goes_on_with sign.Slash = true
goes_on_with _ = false

-- the second may stand right behind the first: both are then read as they are
abbrev pub stay_apart : TokenKind → TokenKind → Bool
stay_apart (t.Sign g) (t.Sign h) = not (goes_on_with h)
stay_apart (t.Sign g) k = true
stay_apart k (t.Sign h) = true
stay_apart k h = false

-- each stands behind a space, or parts from the token before it
abbrev pub PartFrom : TokenKind → List Printed → Type 0
PartFrom k [] = Unit {0}
PartFrom k (x ∷ xs) = (x.close ≡ true → IsTrue (stay_apart k x.kind)) × PartFrom x.kind xs

abbrev pub ArePart : List Printed → Type 0
ArePart [] = Unit {0}
ArePart (x ∷ xs) = PartFrom x.kind xs

abbrev pub is_space : ℕ → Bool
is_space c = c == 32

-- a line is spaces, and tokens that part
abbrev pub IsLaid : Row → Type 0
IsLaid r = Each is_space r.indent × ArePart r.tokens

-- the tokens of a line
abbrev pub kinds : List Printed → List TokenKind
kinds = map (λ x. x.kind)

-- the tokens of all lines
abbrev pub kinds_of : List Row → List TokenKind
kinds_of [] = []
kinds_of (r ∷ rs) = kinds r.tokens ++ kinds_of rs

-- lines whose text is cut into their tokens
pub record AreSpelled (rows : List Row) : Type 0 where
  pub can : Every CanSpell (kinds_of rows)
  pub laid : Every IsLaid rows

-- a program that can be written: its names, numbers and texts are those of a source
abbrev pub Spellable : Code → Type 0
Spellable p = Every CanSpell (kinds_of (program_rows p))

-- the text has tokens of these kinds, and the end behind them
abbrev pub LexesAs : Text → List TokenKind → Type 0
LexesAs bytes ks = (tokens : List Token) × Lexes bytes tokens × (map (λ x. x.kind) tokens ≡ ks ++ t.End ∷ [])
