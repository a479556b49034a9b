-- What is unsplit in a program, part by part, and what a source text never declares.
use Rattle.std.specs.Prelude.{ℕ, List}
use Rattle.ae_text.specs.declared.token.Token.{Token}
use Rattle.ae_text.specs.Tokens.{Lexes}
use Rattle.ae_tree.specs.Plain.{Action, Lines, Code}
use Rattle.ae_tree.specs.Grammar.{Derives}
use Rattle.ae_tree.specs.WellShaped.{EachStatement, InBlocks}
use Rattle.ae_tree.specs.FreeThis.{ThisIsFree}
use Rattle.ae_soundness.specs.Whole.{SplitsNothing}

-- a statement splits nothing, and none in its blocks does
abbrev pub IsUnsplitAction : Action → Type 0
IsUnsplitAction a = SplitsNothing a × InBlocks SplitsNothing a

-- no statement of these lines splits anything, and none in their blocks does
abbrev pub AreUnsplit : Lines → Type 0
AreUnsplit b = EachStatement SplitsNothing b

-- a program that was read from a text declares nothing under the name `this`
abbrev pub TextsHaveThisFree : Type 0
TextsHaveThisFree = (text : List ℕ) (tokens : List Token) (p : Code) → Lexes text tokens → Derives tokens p
    → ThisIsFree p
