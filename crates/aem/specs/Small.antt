-- Which texts are sources.
use Rattle.std.specs.Prelude.{ℕ, List}
use Rattle.ae_text.specs.declared.token.Token.{Token}
use Rattle.ae_text.specs.Tokens.{Lexes}
use Rattle.ae_tree.specs.Plain.{Code}
use Rattle.ae_tree.specs.Grammar.{Derives}
use Rattle.ae_tree.specs.Limits.{Within}

-- the text is a source of this program: its tokens derive it, and it is within the limits
pub record IsSource (text : List ℕ) (program : Code) : Type 0 where
  pub tokens : List Token
  pub lexes : Lexes text tokens
  pub derives : Derives tokens program
  pub within : Within program

-- some text is a source of this program
abbrev pub HasSource : Code → Type 0
HasSource program = (text : List ℕ) × IsSource text program
