-- What holds of the canonical layout.
use Rattle.std.specs.Prelude.{◌≡◌, List}
use Rattle.ae_text.specs.declared.token.Token.{Token}
use Rattle.ae_text.specs.Tokens.{Text, Lexes}
use Rattle.ae_tree.specs.Plain.{Code}
use Rattle.ae_tree.specs.Grammar.{Derives}
use Rattle.ae_tree.specs.Limits.{Within}
use Rattle.ae_layout.specs.Layout.{program_rows, layout}
use Rattle.ae_layout.specs.Rows.{kinds_of, LexesAs}
use Rattle.ae_layout.specs.Places.{unplaced}

-- where some text has the tokens of a program's lines, the layout of the program has them too
abbrev pub IsCutAgain : Type 0
IsCutAgain = (text : Text) (p : Code) → LexesAs text (kinds_of (program_rows p))
    → LexesAs (layout p) (kinds_of (program_rows p))

-- the layout of a program has tokens, and they stand for a program that is the same but for places, and within the limits where that one is
pub record ReadAgain (p : Code) : Type 0 where
  pub tokens : List Token
  pub program : Code
  pub lexes : Lexes (layout p) tokens
  pub derives : Derives tokens program
  pub same : unplaced program ≡ unplaced p
  pub within : Within p → Within program

-- the layout of a text's program is read again as the program
abbrev pub IsReadAgain : Type 0
IsReadAgain = (text : Text) (tokens : List Token) (p : Code) → Lexes text tokens → Derives tokens p → ReadAgain p
