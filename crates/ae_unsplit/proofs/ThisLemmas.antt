-- A keyword is no name, so no name of a text is spelled `this`.
use Rattle.std.proofs.Common.{◌++◌, ◌+◌, ℕ, List, [], ◌∷◌, sym, ◌∙◌, subst, codes}
use Rattle.std.specs.Prelude.{All}
use Rattle.std.proofs.lemmas.Str.{encodes_same}
use Rattle.std.proofs.lemmas.List.Elements.{All-nil, All-cons}
use Rattle.ae_text.specs.declared.token.Keyword.TheVariants as word
use Rattle.ae_text.specs.declared.token.TokenKind.{TokenKind}
use Rattle.ae_text.specs.declared.token.TokenKind.TheVariants as k
use Rattle.ae_text.specs.declared.token.Token.{Token}
use Rattle.ae_text.specs.Tokens.{Text, width, Spells, TextPiece, White, Comment, Tok, ArePieces, piece_text}
use Rattle.ae_text.specs.Tokens.{tokens_from, end_token, Lexes}
use Rattle.ae_tree.specs.FreeThis.{IsSpelledOther}

-- a token is not a name that is spelled `this`
abbrev IsOther : Token → Type 0
IsOther t = IsSpelledOther t.kind

-- what a token spells is no name that is spelled `this`
spells_other : (kind : TokenKind) (s : Text) → Spells kind s → IsSpelledOther kind
unfolding lib.Utf8.encode
spells_other (k.Name bytes) s spells = λ e. spells.2 word.This (encodes_same s (codes "this") (sym spells.0 ∙ e))
spells_other (k.Int n) s spells = tt
spells_other (k.Text bytes) s spells = tt
spells_other (k.Word w) s spells = tt
spells_other (k.Sign g) s spells = tt
spells_other k.End s spells = tt

-- so it is with the tokens of pieces, and with the end behind them
pieces_other : (bytes : Text) (at : ℕ) (ps : List TextPiece) (rest : Text) → ArePieces ps rest
    → All IsOther (tokens_from bytes at ps ++ end_token bytes ∷ [])
pieces_other bytes at [] rest each = All-cons IsOther (end_token bytes) [] tt (All-nil IsOther)
pieces_other bytes at (White c ∷ ps) rest each =
    pieces_other bytes (at + width (piece_text (White c))) ps rest each.1
pieces_other bytes at (Comment s ∷ ps) rest each =
    pieces_other bytes (at + width (piece_text (Comment s))) ps rest each.1
pieces_other bytes at (Tok kind s ∷ ps) rest each =
    All-cons IsOther _ _ (spells_other kind s each.0.spells)
    (pieces_other bytes (at + width (piece_text (Tok kind s))) ps rest each.1)

-- no token of a text is a name that is spelled `this`
pub text_other : (text : Text) (tokens : List Token) → Lexes text tokens → All IsOther tokens
text_other text tokens l = subst (All IsOther) (sym l.are) (pieces_other text 0 l.pieces [] l.each)
